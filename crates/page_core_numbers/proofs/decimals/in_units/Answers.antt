use Rattle.std.proofs.Common.{◌≡◌, ◌∙◌, ◌-◌, ◌^◌, ap, arith, pos, min, w32}
use Rattle.std.proofs.lemmas.Int.{to_z_pos}
use Rattle.page_core_numbers.specs.Expressions.{units_of}
use Rattle.page_core_numbers.proofs.ExpressionLemmas.{units_held}
use Rattle.page_core_numbers.proofs.decimals.in_units.Goals as goal

pub returns : goal.returns
returns c =
    let in_range = units_held c.args.whole.now c.args.fraction.now c.args.scale c.whole_value.result c.whole_value.ensures.value in
    let is : c.min.result ≡ min (units_of c.args.whole.now c.args.fraction.now c.args.scale) (2 ^ 31 - 1) =
    (rw (c.fraction_value.ensures.value, c.numerator.ensures.value, c.denominator.ensures.value) at c.min.ensures) ∙ in_range in
    to_z_pos w32 c.min.result (omega arith) ∙ ap pos is
