-- What digits are worth, and a number in basic units.
use Rattle.std.proofs.Common.{◌≡◌, ℕ, ◌+◌, ◌-◌, ◌*◌, ◌/◌, ◌^◌, min, List, [], ◌∷◌, get_or, None, Some, length, ◌==◌, true, false, ◌<◌, refl, arith, zero, suc, Bool, Option, ℤ, neg_ℤ, add-one, sym, ap, ◌∙◌, inl, inr, ◌++◌, replicate, append_assoc, append-nil, ◌≤◌, ◌||◌, take, drop, ◌≢◌, codes, encode_utf8, zero-add}
use Rattle.page_core_numbers.specs.declared.scales.Scale.{Scale}
use Rattle.page_core_numbers.specs.declared.scales.Scale.TheVariants.{Basic}
use Rattle.page_core_numbers.specs.Expressions.{decimal, ten_thousandths, numerator, denominator, units_of, digits_of, after_digits, fraction_of, after_fraction, number_of, number_at, Read, negated_operand, operand_by, in_range, operator_at, no_operand, number, operand_inside, in_parentheses, after_close, first, after_operation, next_operator, operations_at, expression_by, expression_within}
use Rattle.std.proofs.lemmas.Bool.Decides.{nat_tests}
use Rattle.std.proofs.lemmas.Bool.{cases_Bool, cond-true, cond-false, eqb-true}
use Rattle.page_core_numbers.specs.declared.troubles.Trouble.{Trouble}
use Rattle.page_core_numbers.specs.machine.Signs.{minus_count, after_signs, negated_value, negated_times, inside_of, after_open, Goes, done, is_opening, is_over, Left, Front, Past, is_plain, are_plain}
use Rattle.std.specs.Prelude.{if◌then◌else◌}
use Rattle.std.specs.Str.{IsUtf8, IsCharBoundary, chars}
use Rattle.std.proofs.lemmas.Str.{utf8_valid_len-IsUtf8, byte_from_char, drop_past_char, chars_past_char, length-encode, len_utf8_bounds, IsCharBoundary-past_char, encode_ascii, IsUtf8-past_char, IsCharBoundary-from_drop, IsUtf8-drop}
use Rattle.std.proofs.lemmas.List.{replicate_more, replicate-append-replicate, drop_more, get_or-take, length-take, length-drop, length-append}
use Rattle.page_core_base.specs.Messages.{text_front}
use Rattle.page_core_base.specs.declared.limits.Limit.TheVariants.{Parens}
use Rattle.page_core_base.specs.Limits.{name_of}
use Rattle.page_core_numbers.specs.declared.troubles.Trouble.TheVariants.{DivZero, Parentheses}
use Rattle.std.specs.List.{prefix_len}
use Rattle.std.proofs.lemmas.List.Sums.{prefix_len-le-length, prefix_len_passes, sum_by-append}
use Rattle.page_core_numbers.specs.declared.operators.Operator.{Operator}
use Rattle.std.specs.Char.{len_utf8}
use Rattle.std.proofs.lemmas.List.Folds.{sum_by-replicate, list_all-append}
use Rattle.page_core_base.specs.declared.page_settings.Output.{Output}
use Rattle.page_core_escapes.specs.Meanings.{escape_of, read_escape}
use Rattle.page_core_escapes.proofs.Boundaries.{escape_cuts}
use Rattle.page_core_tables.specs.Glyphs.{char_printed, char_columns}
use Rattle.page_core_tables.proofs.Tables.{char_columns-printable}
use Rattle.page_core_numbers.specs.Columns.{characters_columns, printed_escape, printed_front, front_len, printed_within, columns_of, printed_text}
use Rattle.std.proofs.Math.Seq.{take-add, drop-append_seam}
use Rattle.page_core_base.specs.declared.page_settings.Output.TheVariants.{Utf8, Ascii}
use Rattle.page_core_escapes.specs.Lengths.{escape_len}
use Rattle.page_core_escapes.proofs.Unwinding.{first_of}
use Rattle.page_core_escapes.proofs.Contents.{escape_len-some}

pub ten_thousandths-places : (ds : List ℕ)
    → (get_or ds 0 48 - 48) * 1000 + (get_or ds 1 48 - 48) * 100 + (get_or ds 2 48 - 48) * 10 + (get_or ds 3 48 - 48) ≡ ten_thousandths ds
ten_thousandths-places [] = refl
ten_thousandths-places (a ∷ []) = omega arith
ten_thousandths-places (a ∷ b ∷ []) = omega arith
ten_thousandths-places (a ∷ b ∷ c ∷ []) = omega arith
ten_thousandths-places (a ∷ b ∷ c ∷ d ∷ es) = omega arith

-- digits past the bound are past what 32 bits hold in each unit
pub units_held : (whole fraction : List ℕ) (scale : Scale) (w : ℕ) → w ≡ min (decimal whole) (2 ^ 31)
    → min ((w * 10000 + ten_thousandths fraction) * numerator scale / (10000 * denominator scale)) (2 ^ 31 - 1) ≡ min (units_of whole fraction scale) (2 ^ 31 - 1)
unfolding units_of
units_held whole fraction Basic w e = omega arith
units_held whole fraction _ w e = omega arith

-- ---- a number at a text's front, by what is written of it

pub number_at-none : (scale : Scale) (text whole more fraction : List ℕ) → whole ≡ digits_of text → more ≡ after_digits text → fraction ≡ fraction_of more
    → length whole ≡ 0 → length fraction ≡ 0 → None ≡ number_at scale text
unfolding number_at
number_at-none scale text whole more fraction w m f no_whole no_fraction =
    let none : (length (digits_of text) + length (fraction_of (after_digits text)) == 0) ≡ true =
    rw (← w, ← m, ← f, no_whole, no_fraction) refl in
    rw none refl

pub number_at-some : (scale : Scale) (text whole more fraction after : List ℕ) → whole ≡ digits_of text → more ≡ after_digits text → fraction ≡ fraction_of more
    → after ≡ after_fraction more → 0 < length whole + length fraction → Some (number_of scale whole fraction after) ≡ number_at scale text
unfolding number_at
number_at-some scale text whole more fraction after w m f b some =
    let any : (length whole + length fraction == 0) ≡ false = grind (arith, nat_tests) in
    let there : (length (digits_of text) + length (fraction_of (after_digits text)) == 0) ≡ false = rw (← w, ← m, ← f) any in
    rw there (rw (b, f, m, w) refl)

-- ---- Signs before an operand.

-- ---- what an operand with signs is

pub operand-signs : (inside : Option (List ℕ → Read ℤ)) (scale : Scale) (text : List ℕ)
    → operand_by inside scale text ≡ negated_times (minus_count text) (operand_by inside scale (after_signs text))
unfolding operand_by
operand-signs inside scale [] = refl
operand-signs inside scale (b ∷ bs) =
    elim (cases_Bool (b == 45)) [
      | inl minus ↦ rw minus (ap negated_operand (operand-signs inside scale bs))
      | inr no_minus ↦
          elim (cases_Bool (b == 43)) [
            | inl plus ↦ rw (no_minus, plus) (operand-signs inside scale bs)
            | inr no_plus ↦ rw (no_minus, no_plus) (rw (no_minus, no_plus) refl)
          ]
    ]

-- there is no sign after signs
pub after_signs-front : (text : List ℕ) → ((get_or (after_signs text) 0 0 == 45) ≡ false) × ((get_or (after_signs text) 0 0 == 43) ≡ false)
after_signs-front [] = (refl, refl)
after_signs-front (b ∷ bs) =
    elim (cases_Bool (b == 45)) [
      | inl minus ↦ rw minus (after_signs-front bs)
      | inr no_minus ↦
          elim (cases_Bool (b == 43)) [
            | inl plus ↦ rw (no_minus, plus) (after_signs-front bs)
            | inr no_plus ↦ rw (no_minus, no_plus) (no_minus, no_plus)
          ]
    ]

-- ---- an operand that is negated a number of times

pub negated_times-none : (times : ℕ) (o : Read (Option ℤ)) → o.value ≡ None → negated_times times o ≡ o
negated_times-none zero o e = refl
negated_times-none (suc times) o e = rw (negated_times-none times o e) (same o e)
  where
    same : (o : Read (Option ℤ)) → o.value ≡ None → negated_operand o ≡ o
    same o e = rw e refl

some_times : (times : ℕ) (value : ℤ) (troubles : List Trouble) (ends : Bool) (rest : List ℕ)
    → (let made : Read (Option ℤ) = record { value = Some (negated_value times value); troubles = troubles; ends = ends; rest = rest } in made)
    ≡ negated_times times (record { value = Some value; troubles = troubles; ends = ends; rest = rest })
some_times zero value troubles ends rest = refl
some_times (suc times) value troubles ends rest = ap negated_operand (some_times times value troubles ends rest)

pub negated_times-some : (times : ℕ) (o : Read (Option ℤ)) (value r : ℤ) → o.value ≡ Some value → r ≡ negated_value times value
    → (let made : Read (Option ℤ) = record { value = Some r; troubles = o.troubles; ends = o.ends; rest = o.rest } in made) ≡ negated_times times o
negated_times-some times o value r e n =
    let with_value : Option ℤ → Read (Option ℤ) = λ v. record { value = v; troubles = o.troubles; ends = o.ends; rest = o.rest } in
    ap (λ x. with_value (Some x)) n ∙ some_times times value o.troubles o.ends o.rest ∙ ap (λ v. negated_times times (with_value v)) (sym e)

-- a value that is negated once more
pub negated_next : (n : ℕ) (v w r : ℤ) → w ≡ negated_value n v → r ≡ in_range (neg_ℤ w) → r ≡ negated_value (n + 1) v
negated_next n v w r e h = rw add-one (h ∙ ap (λ z. in_range (neg_ℤ z)) e)

-- what was read after signs, and negated as they say
pub operand-signed : (inside : Option (List ℕ → Read ℤ)) (scale : Scale) (text : List ℕ) (times : ℕ) (unsigned : List ℕ) (o r : Read (Option ℤ))
    → times ≡ minus_count text → unsigned ≡ after_signs text → o ≡ operand_by inside scale unsigned → r ≡ negated_times times o → r ≡ operand_by inside scale text
operand-signed inside scale text times unsigned o r t u e n =
    n ∙ ap (λ k. negated_times k o) t ∙ ap (negated_times (minus_count text)) (e ∙ ap (operand_by inside scale) u) ∙ sym (operand-signs inside scale text)

-- ---- What is reported of an expression, one part after another.

-- perhaps one more division by 0
pub division_more : (n more : ℕ) (divides : Bool) → more ≡ (if divides then 1 else 0) → replicate (n + more) DivZero ≡ replicate n DivZero ++ (if divides then DivZero ∷ [] else [])
division_more n more true e = rw e (sym (replicate_more n DivZero))
division_more n more false e = rw e (simp append-nil (ap (λ k. replicate k DivZero) (omega arith)))

-- an expression that did not stop, and an operand that did not
pub going_on : (n m more : ℕ) (divides : Bool) → more ≡ (if divides then 1 else 0)
    → replicate (n + m + more) DivZero ++ [] ≡ (replicate n DivZero ++ []) ++ ((replicate m DivZero ++ []) ++ (if divides then DivZero ∷ [] else []))
going_on n m more divides e =
    simp append-nil (division_more (n + m) more divides e ∙ ap (λ l. l ++ (if divides then DivZero ∷ [] else [])) (sym (replicate-append-replicate n m DivZero))
    ∙ append_assoc (replicate n DivZero) (replicate m DivZero) (if divides then DivZero ∷ [] else []))

-- the same, where the operand stopped
pub stopping : (n m k more : ℕ) (trouble : Trouble) (divides : Bool) → more ≡ (if divides then 1 else 0)
    → replicate (n + m) DivZero ++ (trouble ∷ replicate (k + more) DivZero)
    ≡ (replicate n DivZero ++ []) ++ ((replicate m DivZero ++ (trouble ∷ replicate k DivZero)) ++ (if divides then DivZero ∷ [] else []))
stopping n m k more trouble divides e =
    rw (append-nil (replicate n DivZero), division_more k more divides e, ← replicate-append-replicate n m DivZero)
    (append_assoc (replicate n DivZero) (replicate m DivZero) _
    ∙ ap (λ l. replicate n DivZero ++ l) (sym (append_assoc (replicate m DivZero) (trouble ∷ replicate k DivZero) _)))

-- the limit's name is short, so that it is shown whole
pub limit-front : IsUtf8 (name_of Parens) → text_front 64 (name_of Parens) ≡ name_of Parens
unfolding text_front
limit-front utf8 = let whole = utf8_valid_len-IsUtf8 (name_of Parens) utf8 in rw whole refl

-- ---- Operands and operations.

pub number_at-nil : (scale : Scale) → number_at scale [] ≡ None
unfolding number_at
number_at-nil scale = refl

-- an operand that begins with no sign and no parenthesis is a number
pub operand-number : (inside : Option (List ℕ → Read ℤ)) (scale : Scale) (text : List ℕ)
    → (get_or text 0 0 == 45) ≡ false → (get_or text 0 0 == 43) ≡ false → after_open text ≡ None → operand_by inside scale text ≡ number text (number_at scale text)
unfolding operand_by
operand-number inside scale [] minus plus none = rw (number_at-nil scale) refl
operand-number inside scale (b ∷ bs) minus plus none =
    elim (cases_Bool (b == 40)) [
      | inl paren ↦ let never : Some bs ≡ None = sym (cond-true _ _ _ paren) ∙ none in cc
      | inr other ↦ rw (minus, plus, other) refl
    ]

-- an operand in parentheses
operand-opened : (inside : Option (List ℕ → Read ℤ)) (scale : Scale) (text after : List ℕ) → after_open text ≡ Some after
    → operand_by inside scale text ≡ operand_inside inside text after
unfolding operand_by
operand-opened inside scale [] after some = cc
operand-opened inside scale (b ∷ bs) after some =
    elim (cases_Bool (b == 40)) [
      | inl paren ↦
          let is : b ≡ 40 = eqb-true b 40 paren in
          let parts : Some bs ≡ Some after = sym (cond-true _ _ _ paren) ∙ some in
          let same : bs ≡ after = cc in
          let minus : (b == 45) ≡ false = rw is refl in
          let plus : (b == 43) ≡ false = rw is refl in
          rw (minus, plus, paren) (ap (operand_inside inside (b ∷ bs)) same)
      | inr other ↦ let never : None ≡ Some after = sym (cond-false _ _ _ other) ∙ some in cc
    ]

pub inside-none : (room : ℕ) (scale : Scale) → room ≤ 0 → inside_of room scale ≡ None
inside-none zero scale h = refl
inside-none (suc room) scale h = absurd (omega arith)

pub inside-some : (room : ℕ) (scale : Scale) → 0 < room → inside_of room scale ≡ Some (expression_within (room - 1) scale)
inside-some zero scale h = absurd (omega arith)
inside-some (suc room) scale h = let e : suc room - 1 ≡ room = omega arith in rw e refl

-- where one more may open, and where none may
pub operand-inside : (room : ℕ) (scale : Scale) (text after : List ℕ) → after_open text ≡ Some after → 0 < room
    → operand_by (inside_of room scale) scale text ≡ in_parentheses (expression_within (room - 1) scale after)
operand-inside room scale text after some more =
    operand-opened (inside_of room scale) scale text after some ∙ ap (λ inside. operand_inside inside text after) (inside-some room scale more)

pub operand-full : (room : ℕ) (scale : Scale) (text after : List ℕ) → after_open text ≡ Some after → room ≤ 0
    → operand_by (inside_of room scale) scale text ≡ no_operand Parentheses text
operand-full room scale text after some full =
    operand-opened (inside_of room scale) scale text after some ∙ ap (λ inside. operand_inside inside text after) (inside-none room scale full)

pub expression-is : (room : ℕ) (scale : Scale) (text : List ℕ) → expression_within room scale text ≡ expression_by (operand_by (inside_of room scale) scale) text
unfolding expression_within
expression-is zero scale text = refl
expression-is (suc room) scale text = refl

-- ---- operations

done-next : (operand_of : List ℕ → Read (Option ℤ)) (steps : ℕ) (so_far : Read ℤ) (operator : Operator) (rest : List ℕ)
    → next_operator so_far.ends so_far.rest ≡ Some (operator, rest) → done operand_of (suc steps) so_far ≡ done operand_of steps (after_operation so_far operator (operand_of rest))
unfolding operations_at
done-next operand_of steps so_far operator rest next = rw next refl

done-none : (operand_of : List ℕ → Read (Option ℤ)) (steps : ℕ) (so_far : Read ℤ) → next_operator so_far.ends so_far.rest ≡ None → done operand_of (suc steps) so_far ≡ so_far
unfolding operations_at
done-none operand_of steps so_far next = rw next refl

-- with steps enough all operations that follow are done
pub goes-from : (operand_of : List ℕ → Read (Option ℤ)) (text : List ℕ) (all so_far : Read ℤ) → all ≡ expression_by operand_of text
    → so_far ≡ first (operand_of text) → length so_far.rest ≤ length text → Goes operand_of all so_far
unfolding expression_by
goes-from operand_of text all so_far e f h = record { steps = suc (length text); enough = omega arith; same = e ∙ ap (done operand_of (suc (length text))) (sym f) }

pub goes-on : (operand_of : List ℕ → Read (Option ℤ)) (all so_far more : Read ℤ) (operator : Operator) (rest : List ℕ) → Goes operand_of all so_far
    → next_operator so_far.ends so_far.rest ≡ Some (operator, rest) → more ≡ after_operation so_far operator (operand_of rest) → length more.rest < length so_far.rest
    → Goes operand_of all more
goes-on operand_of all so_far more operator rest g next m h = at g.steps g.enough g.same
  where
    at : (n : ℕ) → length so_far.rest < n → all ≡ done operand_of n so_far → Goes operand_of all more
    at zero enough same = absurd (omega arith)
    at (suc n) enough same = record {
      steps = n;
      enough = omega arith;
      same = same ∙ done-next operand_of n so_far operator rest next ∙ ap (done operand_of n) (sym m);
    }

pub goes-end : (operand_of : List ℕ → Read (Option ℤ)) (all so_far : Read ℤ) → Goes operand_of all so_far → next_operator so_far.ends so_far.rest ≡ None → so_far ≡ all
goes-end operand_of all so_far g next = at g.steps g.enough g.same
  where
    at : (n : ℕ) → length so_far.rest < n → all ≡ done operand_of n so_far → so_far ≡ all
    at zero enough same = absurd (omega arith)
    at (suc n) enough same = sym (same ∙ done-none operand_of n so_far next)

-- the first operand of an expression, and the operations after it
pub goes-first : (room : ℕ) (scale : Scale) (text : List ℕ) (so_far : Read ℤ) → so_far ≡ first (operand_by (inside_of room scale) scale text)
    → length so_far.rest ≤ length text → Goes (operand_by (inside_of room scale) scale) (expression_within room scale text) so_far
goes-first room scale text so_far f h = goes-from (operand_by (inside_of room scale) scale) text _ so_far (expression-is room scale text) f h

-- ---- parentheses that open at a text's front, from the inside out

-- the operand that they are
operand-around : (room : ℕ) (scale : Scale) (text inner : List ℕ) (so_far : Read ℤ) → text ≡ 40 ∷ inner → so_far ≡ expression_within room scale inner
    → operand_by (inside_of (room + 1) scale) scale text ≡ in_parentheses so_far
operand-around room scale text inner so_far is e =
    let room_inside : room + 1 - 1 ≡ room = omega arith in
    operand-inside (room + 1) scale text inner (ap after_open is) (omega arith)
    ∙ ap (λ n. in_parentheses (expression_within n scale inner)) room_inside ∙ ap in_parentheses (sym e)

pub goes-around : (room : ℕ) (scale : Scale) (text inner : List ℕ) (so_far more : Read ℤ) → text ≡ 40 ∷ inner → so_far ≡ expression_within room scale inner
    → more ≡ first (in_parentheses so_far) → length more.rest ≤ length text
    → Goes (operand_by (inside_of (room + 1) scale) scale) (expression_within (room + 1) scale text) more
goes-around room scale text inner so_far more is e m h =
    goes-first (room + 1) scale text more (m ∙ ap first (sym (operand-around room scale text inner so_far is e))) h

over-rest : (ends : Bool) (rest : List ℕ) → (ends || length rest == 0) ≡ true → rest ≡ (if ends then rest else after_close rest)
over-rest true rest over = refl
over-rest false [] over = refl
over-rest false (b ∷ bs) over = let none = eqb-true (length (b ∷ bs)) 0 over in absurd (omega arith)

over-none : (ends : Bool) (rest : List ℕ) → (ends || length rest == 0) ≡ true → next_operator ends rest ≡ None
unfolding operator_at
over-none false (b ∷ bs) over = let none = eqb-true (length (b ∷ bs)) 0 over in absurd (omega arith)
over-none _ _ over = refl

-- an expression that is over is that in parentheses
over-around : (room : ℕ) (scale : Scale) (text inner : List ℕ) (so_far : Read ℤ) → text ≡ 40 ∷ inner → so_far ≡ expression_within room scale inner
    → is_over so_far ≡ true → so_far ≡ expression_within (room + 1) scale text
unfolding expression_by
over-around room scale text inner so_far is e over =
    let operand_of = operand_by (inside_of (room + 1) scale) scale in
    let with_rest : List ℕ → Read ℤ = λ rest. record { value = so_far.value; troubles = so_far.troubles; ends = so_far.ends; rest = rest } in
    let same : so_far ≡ first (in_parentheses so_far) = ap with_rest (over-rest so_far.ends so_far.rest over) in
    let operand : so_far ≡ first (operand_of text) = same ∙ ap first (sym (operand-around room scale text inner so_far is e)) in
    sym (expression-is (room + 1) scale text ∙ ap (done operand_of (suc (length text))) (sym operand)
    ∙ done-none operand_of (length text) so_far (over-none so_far.ends so_far.rest over))

-- the same of several
pub over-all : (count room : ℕ) (scale : Scale) (text : List ℕ) (so_far : Read ℤ) → ((k : ℕ) → k < count → drop k text ≡ 40 ∷ drop (k + 1) text)
    → so_far ≡ expression_within room scale (drop count text) → is_over so_far ≡ true → so_far ≡ expression_within (room + count) scale text
over-all zero room scale text so_far opening e over =
    let none : room ≡ room + 0 = omega arith in
    e ∙ ap (λ n. expression_within n scale text) none
over-all (suc count) room scale text so_far opening e over =
    let one_more : suc count ≡ count + 1 = omega arith in
    let all : room + 1 + count ≡ room + suc count = omega arith in
    let below : (k : ℕ) → k < count → drop k text ≡ 40 ∷ drop (k + 1) text = λ k h. opening k (omega arith) in
    let inner : so_far ≡ expression_within room scale (drop (count + 1) text) = e ∙ ap (λ n. expression_within room scale (drop n text)) one_more in
    let around : so_far ≡ expression_within (room + 1) scale (drop count text) =
    over-around room scale (drop count text) (drop (count + 1) text) so_far (opening count (omega arith)) inner over in
    over-all count (room + 1) scale text so_far below around over ∙ ap (λ n. expression_within n scale text) all

-- each of the first parentheses, and what is after it
pub opening-drop : (text : List ℕ) (room k : ℕ) → k < prefix_len is_opening (take (min (length text) room) text) → drop k text ≡ 40 ∷ drop (k + 1) text
opening-drop text room k below =
    let n = min (length text) room in
    let within = prefix_len-le-length is_opening (take n text) in
    let size = length-take n text in
    let front : k < n = omega arith in
    let is : get_or text k 0 ≡ 40 = sym (get_or-take n text k 0 front) ∙ eqb-true _ 40 (prefix_len_passes is_opening (take n text) k 0 below) in
    drop_more text k 0 (omega arith) ∙ ap (λ b. b ∷ drop (k + 1) text) is

-- ---- What a text prints, and its columns.

-- ---- single characters

blank-char_columns : char_columns 32 ≡ 1
blank-char_columns = char_columns-printable 32 (omega arith) (omega arith)

pub blank-columns : characters_columns (codes " ") ≡ 1
blank-columns = rw blank-char_columns refl

pub blanks-columns : (n : ℕ) → n ≡ characters_columns (replicate n 32)
blanks-columns n = sym (sum_by-replicate char_columns n 32 ∙ rw blank-char_columns (omega arith))

pub printed-printable : (output : Output) (c : ℕ) → 32 ≤ c → c ≤ 126 → characters_columns (char_printed output c).characters ≡ 1
printed-printable output c low high =
    let one = char_columns-printable c low high in
    let tab : (c == 9) ≡ false = grind (arith, nat_tests, low) in
    let blank : (c == 160) ≡ false = grind (arith, nat_tests, high) in
    grind (arith, nat_tests, one, tab, blank, low, high)

-- ---- the front of a text

pub front-escape : (output : Output) (text rest : List ℕ) (c : ℕ) → IsUtf8 text → text ≡ encode_utf8 c ++ rest → c ≡ 92
    → (printed_front output text (chars text) ≡ printed_escape output (escape_of false text).0) × (front_len text (chars text) ≡ (escape_of false text).1)
front-escape output text rest c utf8 is e =
    let cs : chars text ≡ 92 ∷ chars rest = chars_past_char text rest c utf8 is ∙ ap (λ d. d ∷ chars rest) e in
    (rw cs refl, rw cs refl)

pub front-character : (output : Output) (text rest : List ℕ) (c : ℕ) → IsUtf8 text → text ≡ encode_utf8 c ++ rest → c ≢ 92
    → (printed_front output text (chars text) ≡ (char_printed output c).characters) × (front_len text (chars text) ≡ length (encode_utf8 c))
front-character output text rest c utf8 is e =
    let cs = chars_past_char text rest c utf8 is in
    let other : (c == 92) ≡ false = grind (arith, nat_tests) in
    (rw (cs, other) refl, rw (cs, other) refl)

pub front-boundary : (text rest : List ℕ) (c : ℕ) → IsUtf8 text → text ≡ encode_utf8 c ++ rest → IsCharBoundary text (len_utf8 c)
front-boundary text rest c utf8 is = rw zero-add at (IsCharBoundary-past_char text rest 0 c (omega arith) utf8 is)

-- ---- a text from its front on

pub left-next : (output : Output) (text : List ℕ) (sum : ℕ) (rest : List ℕ) (columns len : ℕ) → Left output text sum rest → 0 < length rest
    → columns ≡ characters_columns (printed_front output rest (chars rest)) → len ≡ front_len rest (chars rest) → 0 < len → Left output text (sum + columns) (drop len rest)
unfolding printed_within
left-next output text sum [] columns len l some c n go = absurd (omega arith)
left-next output text sum (b ∷ bs) columns len l some c n go = at l.steps l.enough l.same
  where
    at : (k : ℕ) → length (b ∷ bs) < k → columns_of output text ≡ sum + characters_columns (printed_within k output (b ∷ bs)) → Left output text (sum + columns) (drop len (b ∷ bs))
    at zero enough same = absurd (omega arith)
    at (suc k) enough same = record {
      steps = k;
      enough = omega (arith, length-drop len (b ∷ bs));
      same =
          let parts = sum_by-append char_columns (printed_front output (b ∷ bs) (chars (b ∷ bs))) (printed_within k output (drop (front_len (b ∷ bs) (chars (b ∷ bs))) (b ∷ bs))) in
          rw (c, n) (same ∙ omega (arith, parts));
    }

pub left-none : (output : Output) (text : List ℕ) (sum : ℕ) (rest : List ℕ) → Left output text sum rest → length rest ≡ 0 → sum ≡ columns_of output text
unfolding printed_within
left-none output text sum [] l none = at l.steps l.enough l.same
  where
    at : (k : ℕ) → 0 < k → columns_of output text ≡ sum + characters_columns (printed_within k output []) → sum ≡ columns_of output text
    at zero enough same = absurd (omega arith)
    at (suc k) enough same = omega (arith, same)
left-none output text sum (b ∷ bs) l none = absurd (omega arith)

-- ---- what is at a text's front

left-past : (output : Output) (text : List ℕ) (columns len : ℕ) → 0 < length text → columns ≡ characters_columns (printed_front output text (chars text)) → len ≡ front_len text (chars text) → 0 < len
    → (whole : List ℕ) (sum : ℕ) → Left output whole sum text → Left output whole (sum + columns) (drop len text)
left-past output text columns len some c n go whole sum l = left-next output whole sum text columns len l some c n go

front-from : (output : Output) (text : List ℕ) (columns len : ℕ) → 0 < len → columns ≤ 1000 → IsCharBoundary text len → columns ≡ characters_columns (printed_front output text (chars text))
    → len ≡ front_len text (chars text) → Front output text columns len
front-from output text columns len some few cut c n =
    record { some = some; whole_characters = cut; few = omega arith; goes_on = left-past output text columns len (omega arith) c n some }

-- a character that is no backslash
pub front-of_character : (output : Output) (text rest : List ℕ) (c columns len : ℕ) → IsUtf8 text → text ≡ encode_utf8 c ++ rest → c ≢ 92 → columns ≤ 1000
    → columns ≡ characters_columns (char_printed output c).characters → len ≡ len_utf8 c → Front output text columns len
front-of_character output text rest c columns len utf8 is e few same width =
    let front = front-character output text rest c utf8 is e in
    let encoded = length-encode c in
    let some : 0 < len = omega (arith, len_utf8_bounds c) in
    front-from output text columns len some few (rw width (front-boundary text rest c utf8 is)) (same ∙ ap characters_columns (sym front.0)) (width ∙ sym encoded ∙ sym front.1)

-- an escape
pub front-of_escape : (output : Output) (text rest : List ℕ) (columns len : ℕ) → IsUtf8 text → text ≡ encode_utf8 92 ++ rest → 0 < len → columns ≤ 1000
    → columns ≡ characters_columns (printed_escape output (escape_of false text).0) → len ≡ (escape_of false text).1 → Front output text columns len
front-of_escape output text rest columns len utf8 is some few same width =
    let front = front-escape output text rest 92 utf8 is refl in
    let first : get_or text 0 0 ≡ 92 = byte_from_char text rest 92 is (omega arith) in
    front-from output text columns len some few (rw width (escape_cuts text utf8 (omega arith))) (same ∙ ap characters_columns (sym front.0)) (width ∙ sym front.1)

-- ---- what is left after it

pub past-front : (output : Output) (text : List ℕ) (columns len : ℕ) (rest : List ℕ) → Front output text columns len → rest ≡ drop len text → Past output text columns rest
past-front output text columns len rest f is =
    let short = length-drop len text in
    let same : length rest ≡ length (drop len text) = ap length is in
    record { shorter = omega (arith, short, same, f.some, f.whole_characters.0); few = omega (arith, short, same, f.few, f.whole_characters.0); goes_on = λ whole sum l. rw is (f.goes_on whole sum l) }

pub past-character : (output : Output) (text rest : List ℕ) (c columns : ℕ) → IsUtf8 text → text ≡ encode_utf8 c ++ rest → c ≢ 92 → columns ≤ 1000
    → columns ≡ characters_columns (char_printed output c).characters → Past output text columns rest
past-character output text rest c columns utf8 is e few same =
    let left : drop (len_utf8 c) text ≡ rest = rw zero-add at (drop_past_char text rest 0 c is) in
    past-front output text columns (len_utf8 c) rest (front-of_character output text rest c columns (len_utf8 c) utf8 is e few same refl) (sym left)

-- ---- Bytes of printable ASCII that are no backslashes are a column each.

-- ---- runs of them

-- a group of them comes to those before it
pub group-more : (bytes : List ℕ) (at count : ℕ) → are_plain (take at bytes) ≡ true → are_plain (take (at + count - at) (drop at bytes)) ≡ true
    → are_plain (take (at + count) bytes) ≡ true
group-more bytes at count before here =
    let same : at + count - at ≡ count = omega arith in
    let plain : are_plain (take count (drop at bytes)) ≡ true = rw same at here in
    ap are_plain (take-add at count bytes) ∙ (list_all-append is_plain (take at bytes) (take count (drop at bytes)) ∙ rw (before, plain) refl)

-- ---- their columns

range-of : (b : ℕ) → is_plain b ≡ true → (32 ≤ b) × (b ≤ 126) × (b ≢ 92)
range-of b plain = grind (arith, nat_tests, plain)

first-plain : (b : ℕ) (bs : List ℕ) → are_plain (b ∷ bs) ≡ true → (is_plain b ≡ true) × (are_plain bs ≡ true)
first-plain b bs plain = grind (arith, plain)

front-plain : (output : Output) (b : ℕ) (bs : List ℕ) → IsUtf8 (b ∷ bs) → is_plain b ≡ true
    → (1 ≡ characters_columns (printed_front output (b ∷ bs) (chars (b ∷ bs)))) × (1 ≡ front_len (b ∷ bs) (chars (b ∷ bs))) × IsUtf8 bs
front-plain output b bs utf8 plain =
    let range = range-of b plain in
    let encoded = encode_ascii b (omega (arith, range.1)) in
    let is : b ∷ bs ≡ encode_utf8 b ++ bs = rw encoded refl in
    let front = front-character output (b ∷ bs) bs b utf8 is range.2 in (
      sym (ap characters_columns front.0 ∙ printed-printable output b range.0 range.1),
      sym (front.1 ∙ ap length encoded),
      IsUtf8-past_char (b ∷ bs) bs b utf8 is,
    )

-- a run of them at the front of what is left
pub left-plain : (output : Output) (text : List ℕ) (n sum : ℕ) (rest : List ℕ) → IsUtf8 rest → n ≤ length rest → are_plain (take n rest) ≡ true → Left output text sum rest
    → Left output text (sum + n) (drop n rest) × IsUtf8 (drop n rest)
left-plain output text zero sum rest utf8 within plain l = let e : sum + 0 ≡ sum = omega arith in (rw e l, utf8)
left-plain output text (suc n) sum [] utf8 within plain l = absurd (omega arith)
left-plain output text (suc n) sum (b ∷ bs) utf8 within plain l =
    let parts = first-plain b (take n bs) plain in
    let front = front-plain output b bs utf8 parts.0 in
    let next = left-next output text sum (b ∷ bs) 1 1 l (omega arith) front.0 front.1 (omega arith) in
    let all = left-plain output text n (sum + 1) bs front.2 (omega (arith, within)) parts.1 next in
    let e : sum + suc n ≡ sum + 1 + n = omega arith in
    (rw e all.0, all.1)

pub plain-boundary : (rest : List ℕ) (n : ℕ) → n ≤ length rest → IsUtf8 (drop n rest) → IsCharBoundary rest n
plain-boundary rest n within utf8 = IsCharBoundary-from_drop rest n within utf8

after-plain : (n : ℕ) (rest : List ℕ) → IsUtf8 rest → n ≤ length rest → are_plain (take n rest) ≡ true → IsUtf8 (drop n rest)
after-plain zero rest utf8 within plain = utf8
after-plain (suc n) [] utf8 within plain = absurd (omega arith)
after-plain (suc n) (b ∷ bs) utf8 within plain =
    let parts = first-plain b (take n bs) plain in
    after-plain n bs (front-plain Utf8 b bs utf8 parts.0).2 (omega (arith, within)) parts.1

-- so it is a front of the text
pub front-of_plain : (output : Output) (text : List ℕ) (n : ℕ) → IsUtf8 text → 0 < n → n ≤ length text → are_plain (take n text) ≡ true → Front output text n n
front-of_plain output text n utf8 some within plain =
    record { some = some; whole_characters = plain-boundary text n within (after-plain n text utf8 within plain); few = omega arith; goes_on = λ whole sum l. (left-plain output whole n sum text utf8 within plain l).0 }

-- where such a character begins a text there is a byte of them
pub plain-some : (text rest : List ℕ) (c n : ℕ) → text ≡ encode_utf8 c ++ rest → 32 ≤ c → c ≤ 126 → c ≢ 92 → (n < length text → is_plain (get_or text n 0) ≡ false) → 0 < n
plain-some text rest c (suc n) is low high other all = omega arith
plain-some text rest c zero is low high other all =
    let first : get_or text 0 0 ≡ c = byte_from_char text rest c is (omega arith) in
    let long : 0 < length text = omega (arith, ap length is, length-append (encode_utf8 c) rest, length-encode c, len_utf8_bounds c) in
    let stops : is_plain c ≡ false = rw first at (all long) in
    absurd (grind (arith, nat_tests, stops, low, high, other))

-- ---- What a text prints, however many steps its definition has.

-- an escape has a byte
escape-some : (text : List ℕ) → 0 < length text → 0 < (escape_of false text).1
unfolding escape_of
escape-some text some = from (escape_len false text) (λ n e. escape_len-some false text n e)
  where
    from : (o : Option ℕ) → ((n : ℕ) → o ≡ Some n → 0 < n) → 0 < (read_escape false text o).1
    from None h = some
    from (Some n) h = h n refl

-- what is at a text's front has a byte, and what follows it is a text
pub front-cuts : (text : List ℕ) → IsUtf8 text → 0 < length text → (0 < front_len text (chars text)) × IsUtf8 (drop (front_len text (chars text)) text)
front-cuts text utf8 some =
    let f = first_of text utf8 some in
    elim (cases_Bool (f.code == 92)) [
      | inl same ↦
          let e : f.code ≡ 92 = grind (arith, nat_tests, same) in
          let front = front-escape Ascii text f.rest f.code utf8 f.is e in
          let first : get_or text 0 0 ≡ 92 = byte_from_char text f.rest 92 (rw e at f.is) (omega arith) in
          rw front.1 (escape-some text some, IsUtf8-drop text (escape_of false text).1 utf8 (escape_cuts text utf8 (omega arith)))
      | inr other ↦
          let e : f.code ≢ 92 = grind (arith, nat_tests, other) in
          let front = front-character Ascii text f.rest f.code utf8 f.is e in
          rw front.1 (omega (arith, len_utf8_bounds f.code, length-encode f.code), rw (past text f.rest f.code f.is) f.utf8)
    ]
  where
    past : (text rest : List ℕ) (c : ℕ) → text ≡ encode_utf8 c ++ rest → drop (length (encode_utf8 c)) text ≡ rest
    past text rest c is = ap (λ t. drop (length (encode_utf8 c)) t) is ∙ drop-append_seam (encode_utf8 c) rest

-- enough steps are as good as more
pub printed-same : (n m : ℕ) (output : Output) (text : List ℕ) → IsUtf8 text → length text < n → length text < m → printed_within n output text ≡ printed_within m output text
unfolding printed_within
printed-same zero m output text utf8 below above = absurd (omega arith)
printed-same (suc n) zero output text utf8 below above = absurd (omega arith)
printed-same (suc n) (suc m) output [] utf8 below above = refl
printed-same (suc n) (suc m) output (b ∷ bs) utf8 below above =
    let text = b ∷ bs in
    let k = front_len text (chars text) in
    let front = front-cuts text utf8 (omega arith) in
    ap (λ t. printed_front output text (chars text) ++ t)
    (printed-same n m output (drop k text) front.1 (omega (arith, front.0, length-drop k text)) (omega (arith, front.0, length-drop k text)))

-- what the front prints, and then what the rest prints
printed-next : (output : Output) (text : List ℕ) → IsUtf8 text → 0 < length text
    → printed_text output text ≡ printed_front output text (chars text) ++ printed_text output (drop (front_len text (chars text)) text)
unfolding printed_within
printed-next output [] utf8 some = absurd (omega arith)
printed-next output (b ∷ bs) utf8 some =
    let text = b ∷ bs in
    let k = front_len text (chars text) in
    let front = front-cuts text utf8 (omega arith) in
    ap (λ t. printed_front output text (chars text) ++ t)
    (printed-same (length text) (suc (length (drop k text))) output (drop k text) front.1 (omega (arith, front.0, length-drop k text)) (omega arith))

pub printed-none : (output : Output) → printed_text output [] ≡ []
unfolding printed_within
printed-none output = refl

pub printed-character : (output : Output) (c : ℕ) (rest : List ℕ) → IsUtf8 (encode_utf8 c ++ rest) → c ≢ 92
    → printed_text output (encode_utf8 c ++ rest) ≡ (char_printed output c).characters ++ printed_text output rest
printed-character output c rest utf8 other =
    let text = encode_utf8 c ++ rest in
    let front = front-character output text rest c utf8 refl other in
    let some : 0 < length text = omega (arith, len_utf8_bounds c, length-encode c, length-append (encode_utf8 c) rest) in
    rw (front.0, front.1, drop-append_seam (encode_utf8 c) rest) at (printed-next output text utf8 some)

pub printed-escape : (output : Output) (rest : List ℕ) → IsUtf8 (92 ∷ rest)
    → printed_text output (92 ∷ rest) ≡ printed_escape output (escape_of false (92 ∷ rest)).0 ++ printed_text output (drop (escape_of false (92 ∷ rest)).1 (92 ∷ rest))
printed-escape output rest utf8 =
    let front = front-escape output (92 ∷ rest) rest 92 utf8 (sym (ap (λ t. t ++ rest) (encode_ascii 92 (omega arith)))) refl in
    rw (front.0, front.1) at (printed-next output (92 ∷ rest) utf8 (omega arith))
