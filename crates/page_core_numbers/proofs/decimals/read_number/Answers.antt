use Rattle.std.proofs.Common.{◌<◌, ◌+◌, arith, length, rules, w32, FitsSigned}
use Rattle.std.proofs.lemmas.Bool.Decides.{nat_tests}
use Rattle.std.proofs.lemmas.Int.{to_z-of_z}
use Rattle.page_core_numbers.proofs.ExpressionLemmas.{number_at-none, number_at-some}
use Rattle.page_core_numbers.proofs.decimals.read_number.Goals as goal
use Rattle.page_core_numbers.proofs.decimals.read_number.Goals.{else-is_empty-via-then-is_empty+else-is_empty-2, else-is_empty-via-else-is_empty}

pub returns-then-is_empty-2-clause-value : goal.returns-then-is_empty-2-clause-value
returns-then-is_empty-2-clause-value c =
    number_at-none c.args.scale c.args.text.now _ _ _ c.split_digits.ensures.digits c.split_digits.ensures.rest c.split_fraction.ensures.digits
    (grind (arith, nat_tests)) (grind (arith, nat_tests))

pub returns-clause-value : goal.returns-clause-value
returns-clause-value c =
    let fits : FitsSigned w32 c.in_units.result = search rules in
    let some : 0 < length c.split_digits.result.0.now + length c.split_fraction.result.0.now =
    elim c.else-is_empty.branch [
      | else-is_empty-via-then-is_empty+else-is_empty-2 w ↦ grind (arith, nat_tests)
      | else-is_empty-via-else-is_empty w ↦ grind (arith, nat_tests)
    ] in
    rw (to_z-of_z w32 c.in_units.result fits, c.in_units.ensures, c.unwrap_or.ensures, c.split_scale-written.ensures.scale, c.split_scale-written.ensures.rest)
    (number_at-some c.args.scale c.args.text.now _ _ _ _ c.split_digits.ensures.digits c.split_digits.ensures.rest c.split_fraction.ensures.digits c.split_fraction.ensures.rest some)
