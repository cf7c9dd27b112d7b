use Rattle.std.proofs.Common.{◌∙◌, arith}
use Rattle.page_core_streams.proofs.AsciiLemmas.{text-less, text-same}
use Rattle.page_core_streams.proofs.ascii_rows.shown_len.Goals as goal

pub loop-len-preserved : goal.loop-len-preserved
loop-len-preserved c =
    let l = c.loop-len in (
      omega arith,
      λ fonts sizes. l.invariant.1 fonts sizes ∙ text-less c.args.text.now fonts sizes l.len c.loop-len-test.true l.invariant.0 c.if-text-len-eq32.true,
    )

pub returns-else-text-len-eq32-clause-same : goal.returns-else-text-len-eq32-clause-same
returns-else-text-len-eq32-clause-same c =
    let l = c.loop-len in
    λ fonts are. l.invariant.1 fonts are.sizes ∙ text-same c.args.text.now fonts are.sizes l.len c.loop-len-test.true l.invariant.0 c.if-text-len-eq32.false
