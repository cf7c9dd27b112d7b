-- An expression as it is read from left to right. Source: roff(7), "Numerical expressions".
use Rattle.std.specs.Prelude.{ℕ, zero, suc, List, length, fold, Option, None, Some, ℤ}
use Rattle.page_core_numbers.specs.declared.scales.Scale.{Scale}
use Rattle.page_core_numbers.specs.Expressions.{Read, operand_by, after_operation, next_operator, operations_at, expression_within}

-- what may be in parentheses: an expression in which one parenthesis fewer may be open, or nothing
abbrev pub inside_of : (room : ℕ) → Scale → Option (List ℕ → Read ℤ)
inside_of zero scale = None
inside_of (suc room) scale = Some (expression_within room scale)

abbrev pub operand_of : (room : ℕ) → Scale → List ℕ → Read (Option ℤ)
operand_of room scale text = operand_by (inside_of room scale) scale text

-- what was read, and the operations after it
abbrev pub done : (room : ℕ) → Scale → Read ℤ → Read ℤ
done room scale so_far =
    fold (λ (read : Read ℤ) operation. after_operation read operation.0 operation.1) so_far
    (operations_at (operand_of room scale) (suc (length so_far.rest)) (next_operator so_far.ends so_far.rest))
