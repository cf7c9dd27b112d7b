use Rattle.std.proofs.Common.{◌≡◌, ◌==◌, true, false, sym, ap, ◌∙◌, arith}
use Rattle.std.proofs.lemmas.Bool.Decides.{nat_tests}
use Rattle.page_engine_records.specs.Records.{without_front}
use Rattle.page_engine_records.proofs.NameLemmas.{front_blank, front_other, front_none}
use Rattle.page_engine_records.proofs.names.without_front.Goals as goal

pub returns-then-byte-ne32-clause-value : goal.returns-then-byte-ne32-clause-value
returns-then-byte-ne32-clause-value c =
    let e = c.in-Some.ensures.cases.0 in
    let t : (c.in-Some.byte.now == 32) ≡ false = grind (arith, nat_tests) in
    e ∙ (sym (front_other _ _ t) ∙ (ap without_front (sym e) ∙ c.loop-byte.invariant.same))

pub loop-byte-preserved : goal.loop-byte-preserved
loop-byte-preserved c =
    let e = c.in-Some.ensures.cases in
    let t : (c.in-Some.byte.now == 32) ≡ true = grind (arith, nat_tests) in record {
      short = omega (arith, e.1, c.loop-byte.invariant.short);
      same = sym (front_blank _ _ t) ∙ (ap without_front (sym e.0) ∙ c.loop-byte.invariant.same);
    }

pub returns-clause-value : goal.returns-clause-value
returns-clause-value c = sym (front_none c.loop-byte.rest.now c.in_default.ensures.cases) ∙ c.loop-byte.invariant.same
