use Rattle.std.proofs.Common.{◌≡◌, ◌+◌, ◌-◌, inl, inr, length-set, arith, ◌∙◌}
use Rattle.std.proofs.lemmas.Bool.{cases_Bool}
use Rattle.page_roff_syntax.proofs.ClosedLemmas.{marked_before}
use Rattle.page_roff_syntax.proofs.closed_widths.mark_closed.Goals as goal

pub loop-at-preserved : goal.loop-at-preserved
loop-at-preserved c =
    let i = c.loop-at.invariant in
    let at = c.loop-at.at - 1 in
    let one : c.loop-at.at ≡ at + 1 = omega (arith, c.loop-at-test.true) in (
      omega (arith, i.0),
      length-set c.loop-at.marks at _ ∙ i.1,
      c.may_close.ensures.met,
      marked_before c.loop-at.marks c.args.text.now at _ (omega (arith, i.0, i.1, one, c.requires)) (rw one at i.3) (λ h. elim (cases_Bool c.may_close.result) [
        | inl t ↦ let n = rw t at h in absurd (omega (arith, n))
        | inr f ↦ c.may_close.ensures.lone f
      ]),
    )
