use Rattle.std.proofs.Common.{sym, ◌∙◌}
use Rattle.page_fill_cells.proofs.PlaceLemmas.{rest-blank, some-stand}
use Rattle.page_fill_cells.proofs.cell_widths.is_long_blank.Goals as goal

pub returns-then-not-are_blank : goal.returns-then-not-are_blank
returns-then-not-are_blank c =
    let group = rw c.split_at.ensures.front at (sym c.are_blank.ensures.row ∙ c.if-not-are_blank.true) in
    sym (c.loop-rest.invariant ∙ some-stand c.loop-rest.rest.now 64 group)

pub loop-rest-preserved : goal.loop-rest-preserved
loop-rest-preserved c =
    let group = rw c.split_at.ensures.front at (sym c.are_blank.ensures.row ∙ c.if-not-are_blank.false) in
    rw c.split_at.ensures.back (c.loop-rest.invariant ∙ rest-blank c.loop-rest.rest.now 64 group)
