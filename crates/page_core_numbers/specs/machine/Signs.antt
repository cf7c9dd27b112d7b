-- What is reported of an expression that was evaluated: mandoc(1), "DIAGNOSTICS".
use Rattle.std.specs.Prelude.{◌≡◌, List, [], ◌∷◌, ◌++◌, replicate, Option, Some, None, MatchOption, ℕ, ◌+◌, is_some, ℤ, ◌*◌, ◌<◌, ◌≤◌, length, drop, ◌==◌, ◌||◌, Bool, fold, not, ◌&&◌, nat_le, zero, suc, if◌then◌else◌, neg_ℤ}
use Rattle.page_core_base.specs.declared.notes.Note.{Note}
use Rattle.page_core_base.specs.Messages.{Message}
use Rattle.page_core_base.specs.laws.Views.{message_of}
use Rattle.page_core_numbers.specs.declared.troubles.Trouble.{Trouble}
use Rattle.page_core_numbers.specs.declared.troubles.Trouble.TheVariants.{DivZero}
use Rattle.page_core_numbers.specs.declared.troubles.Troubles.{Troubles}
use Rattle.page_core_numbers.specs.declared.troubles.Stopped.{Stopped}
use Rattle.page_core_numbers.specs.declared.evaluations.Evaluation.{Evaluation}
use Rattle.page_core_numbers.specs.declared.decimals.Number.{Number}
use Rattle.page_core_numbers.specs.declared.operators.Operator.{Operator}
use Rattle.page_core_numbers.specs.declared.operators.FoundOperator.{FoundOperator}
use Rattle.page_core_numbers.specs.declared.expressions.Operand.{Operand}
use Rattle.page_core_numbers.specs.declared.expressions.Expression.{Expression}
use Rattle.page_core_numbers.specs.Expressions.{Read, after_operation, next_operator, operations_at, in_range, negated_operand, expression_within}
use Rattle.std.specs.Str.{IsCharBoundary}
use Rattle.page_core_base.specs.declared.page_settings.Output.{Output}
use Rattle.page_core_numbers.specs.Columns.{characters_columns, printed_within, columns_of}
use Rattle.page_core_base.specs.Bytes.{ascii}
use Rattle.std.specs.List.{list_all}
use Rattle.page_core_numbers.specs.declared.scales.Scale.{Scale}

-- divisions by 0, why the expression ended early, and the divisions by 0 after that
abbrev pub stop_view : Option Stopped → List Trouble
stop_view None = []
stop_view (Some s) = s.trouble ∷ replicate s.divisions DivZero

abbrev pub troubles_view : Troubles → List Trouble
troubles_view t = replicate t.divisions DivZero ++ stop_view t.stopped

abbrev pub reported : Evaluation → List Trouble
reported evaluation = troubles_view evaluation.troubles

-- the first of the messages that were left was taken, and the others are left
abbrev pub TakesFirst : List Message → Option Note → List Message → Type 0
TakesFirst old result new = MatchOption result ((old ≡ []) × (new ≡ [])) (λ note. old ≡ message_of note ∷ new)

-- ---- Of the code's own steps, which no public clause cites: what its values hold of an expression, as definitions speak of it.

abbrev pub number_view : Number → ℤ × List ℕ
number_view n = (n.value, n.rest.now)

abbrev pub found_view : FoundOperator → Operator × List ℕ
found_view f = (f.operator, f.rest.now)

-- how many divisions by 0 there are
abbrev pub stop_count : Option Stopped → ℕ
stop_count None = 0
stop_count (Some s) = s.divisions

abbrev pub count_of : Troubles → ℕ
count_of t = t.divisions + stop_count t.stopped

abbrev pub operand_view : Operand → Read (Option ℤ)
operand_view o = record { value = o.value; troubles = troubles_view o.troubles; ends = is_some o.troubles.stopped; rest = o.rest.now }

abbrev pub expression_view : Expression → Read ℤ
expression_view r = record { value = r.value; troubles = troubles_view r.troubles; ends = is_some r.troubles.stopped; rest = r.rest.now }

-- ---- Of the code's own steps, which no public clause cites: what a text's front adds to its columns (roff(7), "Escape sequences").

-- `sum` columns of a text have come, and with steps enough those that are left are the ones of `rest`
pub record Left (output : Output) (text : List ℕ) (sum : ℕ) (rest : List ℕ) : Type 0 where
  pub steps : ℕ
  pub enough : length rest < steps
  pub same : columns_of output text ≡ sum + characters_columns (printed_within steps output rest)

-- the first `len` bytes of a text are whole escapes and characters, of so many columns
pub record Front (output : Output) (text : List ℕ) (columns len : ℕ) : Type 0 where
  pub some : 0 < len
  pub whole_characters : IsCharBoundary text len
  pub few : columns ≤ 1000 * len
  pub goes_on : (whole : List ℕ) (sum : ℕ) → Left output whole sum text → Left output whole (sum + columns) (drop len text)

-- what is before `rest` in a text is whole escapes and characters, of so many columns
pub record Past (output : Output) (text : List ℕ) (columns : ℕ) (rest : List ℕ) : Type 0 where
  pub shorter : length rest < length text
  pub few : columns + 1000 * length rest ≤ 1000 * length text
  pub goes_on : (whole : List ℕ) (sum : ℕ) → Left output whole sum text → Left output whole (sum + columns) rest

-- ---- Of the code's own steps, which no public clause cites: an expression that was read up to an operation, and parentheses around it.

-- the operations that follow what was read so far, done on it
abbrev pub done : (operand_of : List ℕ → Read (Option ℤ)) → ℕ → Read ℤ → Read ℤ
done operand_of steps so_far =
    fold (λ (r : Read ℤ) (operation : Operator × Read (Option ℤ)). after_operation r operation.0 operation.1) so_far
    (operations_at operand_of steps (next_operator so_far.ends so_far.rest))

-- with the operations that follow, what was read so far is all of an expression
pub record Goes (operand_of : List ℕ → Read (Option ℤ)) (all so_far : Read ℤ) : Type 0 where
  pub steps : ℕ
  pub enough : length so_far.rest < steps
  pub same : all ≡ done operand_of steps so_far

abbrev pub is_opening : ℕ → Bool
is_opening b = b == ascii "("

-- nothing changes an expression any longer, be there parentheses around it or not: it ends, or the text does
abbrev pub is_over : Read ℤ → Bool
is_over so_far = so_far.ends || length so_far.rest == 0

-- ---- Bytes of a finished text that are known to be a column each (roff(7), "Escape sequences").

-- printable ASCII, and no backslash
abbrev pub is_plain : ℕ → Bool
is_plain b = nat_le 32 b && nat_le b 126 && not (b == ascii "\\")

-- bytes that are so, each of them
abbrev pub are_plain : List ℕ → Bool
are_plain bytes = list_all is_plain bytes

-- ---- Of the code's own steps, which no public clause cites: what is before an operand, signs and a parenthesis that opens.

-- how often the signs at a text's front negate, and what follows them
abbrev pub minus_count : List ℕ → ℕ
minus_count [] = 0
minus_count (b ∷ bs) = if b == ascii "-" then suc (minus_count bs) else if b == ascii "+" then minus_count bs else 0

abbrev pub after_signs : List ℕ → List ℕ
after_signs [] = []
after_signs (b ∷ bs) = if b == ascii "-" then after_signs bs else if b == ascii "+" then after_signs bs else b ∷ bs

abbrev pub negated_value : ℕ → ℤ → ℤ
negated_value zero n = n
negated_value (suc times) n = in_range (neg_ℤ (negated_value times n))

abbrev pub negated_times : ℕ → Read (Option ℤ) → Read (Option ℤ)
negated_times zero operand = operand
negated_times (suc times) operand = negated_operand (negated_times times operand)

-- what is after a parenthesis that opens
abbrev pub after_open : List ℕ → Option (List ℕ)
after_open [] = None
after_open (b ∷ bs) = if b == ascii "(" then Some bs else None

-- what reads an expression in parentheses where `room` more may be open
abbrev pub inside_of : ℕ → Scale → Option (List ℕ → Read ℤ)
inside_of zero scale = None
inside_of (suc room) scale = Some (expression_within room scale)
