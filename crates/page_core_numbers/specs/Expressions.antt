-- Numbers, their scaling units, the operators between them, and the expression at a text's front. Source: roff(7), "Scaling Widths", "Numerical expressions".
use Rattle.std.specs.Int.{w32, saturate_signed, is_positive}
use Rattle.std.specs.List.{prefix_len}
use Rattle.std.specs.Prelude.{ℕ, codes, if◌then◌else◌, Option, Some, None, ℤ, List, take, drop, ◌==◌, [], ◌∷◌, is_some, ◌+◌, ◌-◌, ◌*◌, fold, ◌++◌, ◌/◌, unwrap_or, pos, length, Bool, false, ◌&&◌, option_map, true, negsuc, ◌||◌, ◌+ℤ◌, ◌-ℤ◌, ◌*ℤ◌, int_div, int_rem, int_lt, int_le, neg_ℤ, zero, suc, map}
use Rattle.page_core_base.specs.Bytes.{is_among, is_digit, ascii}
use Rattle.page_core_base.specs.Limits.{name_of}
use Rattle.page_core_base.specs.Messages.{Message}
use Rattle.page_core_base.specs.declared.limits.Limit.TheVariants.{Parens}
use Rattle.page_core_base.specs.declared.note_kinds.NoteKind.{NoteKind}
use Rattle.page_core_base.specs.declared.note_kinds.NoteKind.TheVariants as kinds
use Rattle.page_core_numbers.specs.declared.operators.Operator.{Operator}
use Rattle.page_core_numbers.specs.declared.operators.Operator.TheVariants.{Add, Subtract, Multiply, Divide, Remainder, Less, Greater, AtMost, AtLeast, Equal, And, Or}
use Rattle.page_core_numbers.specs.declared.scales.Scale.{Scale}
use Rattle.page_core_numbers.specs.declared.scales.Scale.TheVariants.{Basic, En, Em, Vertical, Pica, Inch, Point, Centimeter}
use Rattle.page_core_numbers.specs.declared.troubles.Trouble.{Trouble}
use Rattle.page_core_numbers.specs.declared.troubles.Trouble.TheVariants.{NotNumeric, Parentheses, DivZero}
use Rattle.std.specs.Option.{option_map_or}
use Rattle.std.specs.Ordering.{int_eq}

-- ---- A number at a text's front: roff(7), "Scaling Widths".

-- the basic units of a unit, as a fraction
abbrev pub numerator : Scale → ℕ
numerator Basic = 1
numerator En = 24
numerator Em = 24
numerator Vertical = 40
numerator Pica = 40
numerator Inch = 240
numerator Point = 10
numerator Centimeter = 24000

abbrev pub denominator : Scale → ℕ
denominator Point = 3
denominator Centimeter = 254
denominator _ = 1

-- the unit that a letter names
abbrev pub scale_named : ℕ → Option Scale
scale_named letter =
    if is_among letter (codes "u") then Some Basic
    else if is_among letter (codes "n") then Some En
    else if is_among letter (codes "m") then Some Em
    else if is_among letter (codes "v") then Some Vertical
    else if is_among letter (codes "P") then Some Pica
    else if is_among letter (codes "i") then Some Inch
    else if is_among letter (codes "p") then Some Point
    else if is_among letter (codes "c") then Some Centimeter
    else None

-- the nearest whole number in the range of 32 bits
abbrev pub in_range : ℤ → ℤ
in_range n = saturate_signed w32 n

-- ---- what is written of a number: digits, perhaps a point and digits, and perhaps a unit

abbrev pub digits_of : List ℕ → List ℕ
digits_of text = take (prefix_len is_digit text) text

abbrev pub after_digits : List ℕ → List ℕ
after_digits text = drop (prefix_len is_digit text) text

-- the digits after a point, where a text begins with one
abbrev pub fraction_of : List ℕ → List ℕ
fraction_of [] = []
fraction_of (b ∷ bs) = if b == ascii "." then digits_of bs else []

abbrev pub after_fraction : List ℕ → List ℕ
after_fraction [] = []
after_fraction (b ∷ bs) = if b == ascii "." then after_digits bs else b ∷ bs

-- the unit at a text's front
abbrev pub scale_at : List ℕ → Option Scale
scale_at [] = None
scale_at (b ∷ bs) = scale_named b

abbrev pub after_scale : List ℕ → List ℕ
after_scale text = if is_some (scale_at text) then drop 1 text else text

-- ---- what a number is worth

abbrev pub decimal : List ℕ → ℕ
decimal digits = fold (λ n b. n * 10 + (b - ascii "0")) 0 digits

-- the digits after a point in ten-thousandths: four of them count
abbrev pub ten_thousandths : List ℕ → ℕ
ten_thousandths digits = decimal (take 4 (digits ++ codes "0000"))

-- a number in basic units, cut once
unfoldable pub units_of : (whole fraction : List ℕ) → Scale → ℕ
units_of whole fraction scale = (decimal whole * 10000 + ten_thousandths fraction) * numerator scale / (10000 * denominator scale)

-- a number of these digits, where `text` is after them: its value in basic units, and what follows
abbrev pub number_of : Scale → (whole fraction text : List ℕ) → ℤ × List ℕ
number_of scale whole fraction text = (in_range (pos (units_of whole fraction (unwrap_or (scale_at text) scale))), after_scale text)

-- the number at a text's front, none where there is no digit; `scale` is the unit of a number without one
unfoldable pub number_at : Scale → List ℕ → Option (ℤ × List ℕ)
number_at scale text =
    let more = after_digits text in
    if length (digits_of text) + length (fraction_of more) == 0 then None
    else Some (number_of scale (digits_of text) (fraction_of more) (after_fraction more))

-- ---- The operators of an expression: roff(7), "Numerical expressions".

abbrev pub begins_equal : List ℕ → Bool
begins_equal [] = false
begins_equal (b ∷ bs) = is_among b (codes "=")

-- the operator that a character begins, where `equal` says that `=` follows
abbrev pub operator_named : ℕ → (equal : Bool) → Option Operator
operator_named b equal =
    if is_among b (codes "+") then Some Add
    else if is_among b (codes "-") then Some Subtract
    else if is_among b (codes "*") then Some Multiply
    else if is_among b (codes "/") then Some Divide
    else if is_among b (codes "%") then Some Remainder
    else if is_among b (codes "<") then Some (if equal then AtMost else Less)
    else if is_among b (codes ">") then Some (if equal then AtLeast else Greater)
    else if is_among b (codes "=") then Some Equal
    else if is_among b (codes "&") then Some And
    else if is_among b (codes ":") then Some Or
    else None

-- `<=`, `>=` and `==` have two
abbrev pub operator_len : ℕ → (equal : Bool) → ℕ
operator_len b equal = if is_among b (codes "<>=") && equal then 2 else 1

-- the operator at a text's front, and what follows it
unfoldable pub operator_at : List ℕ → Option (Operator × List ℕ)
operator_at [] = None
operator_at (b ∷ bs) = option_map (λ operator. (operator, drop (operator_len b (begins_equal bs)) (b ∷ bs))) (operator_named b (begins_equal bs))

-- ---- what an operation gives

abbrev pub truth : Bool → ℤ
truth true = pos 1
truth false = pos 0

abbrev pub is_zero : ℤ → Bool
is_zero (pos n) = n == 0
is_zero (negsuc n) = false

-- Division is cut towards 0, and the remainder has the sign of the dividend; by 0 both give 0. A comparison gives 1 or 0, and `&`
-- and `:` ask whether both or one of the two are above 0.
unfoldable pub result_of : Operator → ℤ → ℤ → ℤ
result_of Add a b = in_range (a +ℤ b)
result_of Subtract a b = in_range (a -ℤ b)
result_of Multiply a b = in_range (a *ℤ b)
result_of Divide a b = if is_zero b then pos 0 else in_range (int_div a b)
result_of Remainder a b = if is_zero b then pos 0 else int_rem a b
result_of Less a b = truth (int_lt a b)
result_of Greater a b = truth (int_lt b a)
result_of AtMost a b = truth (int_le a b)
result_of AtLeast a b = truth (int_le b a)
result_of Equal a b = truth (int_eq a b)
result_of And a b = truth (is_positive a && is_positive b)
result_of Or a b = truth (is_positive a || is_positive b)

-- dividing by 0 is reported
abbrev pub divides_by_zero : Operator → ℤ → Bool
divides_by_zero Divide b = is_zero b
divides_by_zero Remainder b = is_zero b
divides_by_zero _ b = false

-- ---- An expression at a text's front: roff(7), "Numerical expressions". Operands and operators follow one another, and each operation is
-- done as it comes.

-- what was read: its value, what is reported, in this order, whether the expression ends there, and what follows
pub record Read (V : Type 0) : Type 0 where
  pub value : V
  pub troubles : List Trouble
  pub ends : Bool
  pub rest : List ℕ

-- ---- operands; where there is none, that has no value and the expression ends

abbrev pub no_operand : Trouble → List ℕ → Read (Option ℤ)
no_operand trouble text = record { value = None; troubles = trouble ∷ []; ends = true; rest = text }

abbrev pub number : List ℕ → Option (ℤ × List ℕ) → Read (Option ℤ)
number text None = no_operand NotNumeric text
number text (Some found) = record { value = Some found.0; troubles = []; ends = false; rest = found.1 }

-- a parenthesis that closes is taken; where it is missing it is taken as there
abbrev pub after_close : List ℕ → List ℕ
after_close [] = []
after_close (b ∷ bs) = if b == ascii ")" then bs else b ∷ bs

-- An expression in parentheses. Where it ends early, what is around it ends with it, and its value so far is the operand.
abbrev pub in_parentheses : Read ℤ → Read (Option ℤ)
in_parentheses inside = record {
  value = Some inside.value;
  troubles = inside.troubles;
  ends = inside.ends;
  rest = (if inside.ends then inside.rest else after_close inside.rest);
}

-- the operand after a parenthesis that opens, if one more may open here
abbrev pub operand_inside : Option (List ℕ → Read ℤ) → (text after : List ℕ) → Read (Option ℤ)
operand_inside None text after = no_operand Parentheses text
operand_inside (Some inside) text after = in_parentheses (inside after)

abbrev pub negated_operand : Read (Option ℤ) → Read (Option ℤ)
negated_operand operand = record operand { value = option_map (λ n. in_range (neg_ℤ n)) operand.value }

-- the operand at a text's front: a number, an expression in parentheses, or an operand with a sign
unfoldable pub operand_by : (inside : Option (List ℕ → Read ℤ)) → Scale → List ℕ → Read (Option ℤ)
operand_by inside scale [] = no_operand NotNumeric []
operand_by inside scale (b ∷ bs) =
    if b == ascii "-" then negated_operand (operand_by inside scale bs)
    else if b == ascii "+" then operand_by inside scale bs
    else if b == ascii "(" then operand_inside inside (b ∷ bs) bs
    else number (b ∷ bs) (number_at scale (b ∷ bs))

-- ---- operations

-- an expression begins with an operand, or is 0
abbrev pub first : Read (Option ℤ) → Read ℤ
first operand = record { value = unwrap_or operand.value (pos 0); troubles = operand.troubles; ends = operand.ends; rest = operand.rest }

-- an operation on the value so far; without an operand that stays
abbrev pub after_operation : Read ℤ → Operator → Read (Option ℤ) → Read ℤ
after_operation so_far operator operand = record {
  value = option_map_or (result_of operator so_far.value) operand.value so_far.value;
  troubles = so_far.troubles ++ (operand.troubles ++ (if option_map_or (divides_by_zero operator) operand.value false then DivZero ∷ [] else []));
  ends = operand.ends;
  rest = operand.rest;
}

-- the operator at a text's front, where the expression goes on
abbrev pub next_operator : (ends : Bool) → List ℕ → Option (Operator × List ℕ)
next_operator ends text = if ends then None else operator_at text

-- The operations at a text's front: operators with their operands, up to where the expression ends or no operator follows. `steps` is
-- above the number of bytes.
unfoldable pub operations_at : (operand_of : List ℕ → Read (Option ℤ)) → (steps : ℕ) → Option (Operator × List ℕ) → List (Operator × Read (Option ℤ))
operations_at operand_of zero next = []
operations_at operand_of (suc steps) None = []
operations_at operand_of (suc steps) (Some found) =
    (found.0, operand_of found.1) ∷ operations_at operand_of steps (next_operator (operand_of found.1).ends (operand_of found.1).rest)

-- an operand and the operations after it, which are done from left to right
unfoldable pub expression_by : (operand_of : List ℕ → Read (Option ℤ)) → List ℕ → Read ℤ
expression_by operand_of text =
    let operand = operand_of text in
    fold (λ so_far operation. after_operation so_far operation.0 operation.1) (first operand)
    (operations_at operand_of (suc (length text)) (next_operator operand.ends operand.rest))

-- an expression inside which `room` parentheses more may be open
unfoldable pub expression_within : (room : ℕ) → Scale → List ℕ → Read ℤ
expression_within zero scale text = expression_by (operand_by None scale) text
expression_within (suc room) scale text = expression_by (operand_by (Some (expression_within room scale)) scale) text

-- the expression at a text's front; sixteen parentheses may be open in it
abbrev pub expression_of : Scale → List ℕ → Read ℤ
expression_of scale text = expression_within 16 scale text

-- ---- messages

abbrev pub kind_of : Trouble → NoteKind
kind_of NotNumeric = kinds.NotNumeric
kind_of DivZero = kinds.DivZero
kind_of Parentheses = kinds.Limit

abbrev pub detail_of : Trouble → List ℕ
detail_of Parentheses = name_of Parens
detail_of _ = []

abbrev pub message_at : (line column : ℕ) → Trouble → Message
message_at line column trouble = record { kind = kind_of trouble; line = line; column = column; detail = detail_of trouble }

-- the messages of an expression
abbrev pub messages_at : (line column : ℕ) → List Trouble → List Message
messages_at line column troubles = map (message_at line column) troubles
