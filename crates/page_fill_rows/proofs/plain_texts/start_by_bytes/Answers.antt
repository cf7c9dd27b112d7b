use Rattle.std.proofs.Common.{refl, sym, ◌∙◌, ap, arith, take, ◌≡◌}
use Rattle.std.proofs.lemmas.Bool.Decides.{nat_tests}
use Rattle.page_fill_rows.specs.machine.Plain.{word_start}
use Rattle.page_fill_rows.proofs.GroupLemmas.{start-at-blank, start-at-letter, start-of-none}
use Rattle.page_fill_rows.proofs.plain_texts.start_by_bytes.Goals as goal

pub loop-start-init : goal.loop-start-init
loop-start-init c = (omega arith, refl)

pub bounds-text-start : goal.bounds-text-start
bounds-text-start c = omega (arith, c.loop-start.invariant.0, c.loop-start-test.true, c.requires)

pub loop-start-preserved : goal.loop-start-preserved
loop-start-preserved c =
    let same = start-at-letter c.args.text.now c.loop-start.start c.loop-start-test.true (omega (arith, c.loop-start.invariant.0, c.requires)) (grind (arith, nat_tests, c.if-text-start-ne32.true)) in
    (omega (arith, c.loop-start.invariant.0), c.loop-start.invariant.1 ∙ same)

pub returns-else-text-start-ne32-clause-value : goal.returns-else-text-start-ne32-clause-value
returns-else-text-start-ne32-clause-value c =
    sym (c.loop-start.invariant.1 ∙ start-at-blank c.args.text.now c.loop-start.start c.loop-start-test.true (omega (arith, c.loop-start.invariant.0, c.requires)) c.if-text-start-ne32.false)

pub returns-after-loop-start-clause-value : goal.returns-after-loop-start-clause-value
returns-after-loop-start-clause-value c =
    let none : c.loop-start.start ≡ 0 = omega (arith, c.loop-start-test.false) in
    none ∙ sym (c.loop-start.invariant.1 ∙ (ap (λ n. word_start (take n c.args.text.now)) none ∙ start-of-none))
