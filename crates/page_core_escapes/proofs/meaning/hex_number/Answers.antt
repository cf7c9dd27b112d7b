use Rattle.std.proofs.Common.{arith}
use Rattle.page_core_escapes.proofs.Unwinding.{hex_number-take}
use Rattle.page_core_escapes.proofs.meaning.hex_number.Goals as goal

pub overflow_mul-number : goal.overflow_mul-number
overflow_mul-number c =
    let bound = hex_number-take c.args.digits.now c.loop-digit.digit-index c.loop-digit-test.true c.requires (λ k. omega (arith, c.type_inv.digits k)) in
    omega (arith, c.loop-digit.invariant)

pub overflow_add-number : goal.overflow_add-number
overflow_add-number c =
    let bound = hex_number-take c.args.digits.now c.loop-digit.digit-index c.loop-digit-test.true c.requires (λ k. omega (arith, c.type_inv.digits k)) in
    omega (arith, c.loop-digit.invariant)
