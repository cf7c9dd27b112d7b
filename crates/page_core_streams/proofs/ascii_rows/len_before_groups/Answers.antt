use Rattle.std.proofs.Common.{◌∙◌, sym, arith}
use Rattle.page_core_streams.proofs.AsciiLemmas.{text-group}
use Rattle.page_core_streams.proofs.ascii_rows.len_before_groups.Goals as goal

pub loop-len-preserved : goal.loop-len-preserved
loop-len-preserved c =
    let l = c.loop-len in (
      omega (arith, l.invariant.0),
      λ fonts sizes. l.invariant.1 fonts sizes ∙ text-group c.args.text.now fonts l.len 64 c.loop-len-test.true (sym c.are_spaces.ensures ∙ c.if-are_spaces.true),
    )
