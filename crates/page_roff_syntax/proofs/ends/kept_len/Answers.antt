use Rattle.std.proofs.Common.{sym, ◌∙◌, arith}
use Rattle.page_roff_syntax.proofs.ClosedLemmas.{kept_less, kept_same, kept_nothing}
use Rattle.page_roff_syntax.proofs.ends.kept_len.Goals as goal
use Rattle.page_roff_syntax.proofs.ends.kept_len.Goals.{then-loop-len-test+else-drops, else-loop-len-test}

pub loop-len-preserved : goal.loop-len-preserved
loop-len-preserved g c =
    let i = c.loop-len.invariant in (
      omega arith,
      λ test is. i.1 test is ∙ kept_less test c.args.text.now c.loop-len.len c.loop-len-test.true i.0 (sym (is _ _ c.drops.ensures) ∙ c.if-drops.true),
    )

pub returns-clause-value : goal.returns-clause-value
returns-clause-value g c =
    let i = c.loop-len.invariant in
    λ test is.
    sym (i.1 test is ∙ elim c.loop-len-test.branch [
      | then-loop-len-test+else-drops w ↦
          kept_same test c.args.text.now c.loop-len.len w.loop-len-test.true i.0 (sym (is _ _ w.drops.ensures) ∙ w.if-drops.false)
      | else-loop-len-test w ↦ kept_nothing test c.args.text.now c.loop-len.len (omega (arith, w.loop-len-test.false))
    ])
