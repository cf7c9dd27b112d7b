use Rattle.std.proofs.Common.{sym, ◌∙◌, arith}
use Rattle.page_core_base.specs.declared.cells.Font.TheVariants.{R}
use Rattle.page_core_base.specs.declared.cells.Cell.{Cell}
use Rattle.page_core_streams.proofs.AsciiLemmas.{trimmed_less, trimmed_same, trimmed_nothing}
use Rattle.page_core_streams.proofs.cells.without_blanks_at_end.Goals as goal
use Rattle.page_core_streams.proofs.cells.without_blanks_at_end.Goals.{then-loop-len-test+else-cells-len-eq32, else-loop-len-test}

abbrev no_cell : Cell
no_cell = record { c = 0; font = R }

pub loop-len-init : goal.loop-len-init
loop-len-init c = (c.len_before_groups-len.ensures.within, c.len_before_groups-len.ensures.same)

pub loop-len-preserved : goal.loop-len-preserved
loop-len-preserved c =
    let i = c.loop-len.invariant in (
      omega arith,
      i.1 ∙ trimmed_less c.args.cells.now c.loop-len.len no_cell c.loop-len-test.true i.0 c.if-cells-len-eq32.true,
    )

pub returns : goal.returns
returns c =
    let i = c.loop-len.invariant in
    elim c.loop-len-test.branch [
      | then-loop-len-test+else-cells-len-eq32 w ↦ sym (i.1 ∙ trimmed_same c.args.cells.now c.loop-len.len no_cell w.loop-len-test.true i.0 w.if-cells-len-eq32.false)
      | else-loop-len-test w ↦ sym (i.1 ∙ trimmed_nothing c.args.cells.now c.loop-len.len (omega arith))
    ]
