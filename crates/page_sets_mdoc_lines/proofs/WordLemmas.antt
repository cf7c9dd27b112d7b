-- The words of a macro: helpers of proofs.
use Rattle.std.proofs.Common.{◌≡◌, ℕ, zero, suc, ◌+◌, ◌-◌, ◌≤◌, Bool, true, false, List, [], ◌∷◌, length, take, drop, refl, sym, ap, ◌∙◌, inl, inr, add-one, arith, Option, None, Some, if◌then◌else◌}
use Rattle.std.specs.List.{list_any}
use Rattle.std.specs.Option.{option_or}
use Rattle.std.proofs.lemmas.Bool.{both_ways, cases_Bool}
use Rattle.std.proofs.lemmas.List.{drop-take, take-take, take_all}
use Rattle.page_roff_syntax.specs.declared.quotes.Argument.{Argument}
use Rattle.page_sets_mdoc_lines.specs.declared.macros.Inline.{Inline}
use Rattle.page_sets_mdoc_lines.specs.declared.word_spans.ReadWord.{ReadWord}
use Rattle.page_sets_mdoc_lines.specs.declared.word_spans.WordSpan.{WordSpan}
use Rattle.page_sets_mdoc_lines.specs.laws.Views.{arguments_after, is_something, parts_arguments, rest_parts, span_of, FirstIs, IsFirstOf, TakesWord, taken_onto}
use Rattle.page_sets_mdoc_lines.specs.Parts.{is_closing, is_real, takes_next, word_call, InlineCall, LineParts, call_first, front_len, has_calls, if_parsed, parts, tail_alone, inside, outside}
use Rattle.page_sets_mdoc_lines.proofs.WordSpanLemmas.{few_left, none_taken, rest_goes_on, whole, words_taken, closing_calls}

pub take_first : {A : Type 0} → (n : ℕ) (words : List A) (word : A) (others : List A) → words ≡ word ∷ others → 1 ≤ n
    → take n words ≡ word ∷ take (n - 1) others
take_first zero words word others e h = absurd (omega (arith, h))
take_first (suc n) words word others e h = let m : suc n - 1 ≡ n = omega arith in rw (e, m) refl

pub take_none : {A : Type 0} → (n : ℕ) (words : List A) → words ≡ [] → take n words ≡ []
take_none zero words e = refl
take_none (suc n) words e = rw e refl

pub all_left : (text : List ℕ) (start : ℕ) → length text ≤ 65536 → take 65536 (arguments_after start text) ≡ arguments_after start text
all_left text start h = take_all 65536 (arguments_after start text) (few_left text start h)

-- ---- the first word, which was read

pub first_or : (text : List ℕ) (arguments : List (Argument (List ℕ))) (n m : ℕ) (first : Option ReadWord) (read : ReadWord)
    → FirstIs text arguments n first → (n ≡ 0 → IsFirstOf text arguments read) → FirstIs text arguments m (option_or first (Some read))
first_or text arguments n m None read is now = now is
first_or text arguments n m (Some earlier) read is now = is

pub first_of_less : (text : List ℕ) (arguments : List (Argument (List ℕ))) (n m : ℕ) (first : Option ReadWord)
    → n ≤ m → FirstIs text arguments m first → FirstIs text arguments n first
first_of_less text arguments n m None less is = omega (arith, less, is)
first_of_less text arguments n m (Some read) less is = is

-- ---- the word that a macro takes

pub no_macro : (arguments : List (Argument (List ℕ))) → TakesWord None arguments None arguments
no_macro arguments parsed = refl

pub takes_nothing : (inline : Inline) (arguments : List (Argument (List ℕ))) → arguments ≡ [] → TakesWord (Some inline) arguments None arguments
takes_nothing inline arguments none parsed = rw none refl

pub takes_no_word : (inline : Inline) (arguments : List (Argument (List ℕ))) (word : Argument (List ℕ)) (words : List (Argument (List ℕ)))
    → arguments ≡ word ∷ words → takes_next inline word ≡ false → TakesWord (Some inline) arguments None arguments
takes_no_word inline arguments word words are t parsed = rw (are, t) refl

pub takes_first : (inline : Inline) (arguments : List (Argument (List ℕ))) (word : Argument (List ℕ)) (words : List (Argument (List ℕ)))
    → arguments ≡ word ∷ words → takes_next inline word ≡ true → TakesWord (Some inline) arguments (Some word) words
takes_first inline arguments word words are t parsed = rw (are, t) refl

pub takes_none : (inline : Inline) (arguments : List (Argument (List ℕ))) → ((word : Argument (List ℕ)) → takes_next inline word ≡ false)
    → TakesWord (Some inline) arguments None arguments
takes_none inline [] none parsed = refl
takes_none inline (word ∷ words) none parsed = rw (none word) refl

-- ---- the words in front of the closing delimiters at the end

front_by : (closing : Argument (List ℕ) → Bool) (argument : Argument (List ℕ)) (n len : ℕ) (test : Bool) → n ≤ len
    → (if test then 0 else 1 + n) ≤ suc len
front_by closing argument n len true h = omega arith
front_by closing argument n len false h = omega (arith, h)

pub front_within : (closing : Argument (List ℕ) → Bool) (words : List (Argument (List ℕ))) → front_len closing words ≤ length words
front_within closing [] = omega arith
front_within closing (word ∷ words) = grind (arith, front_by, front_within closing words)

pub inside_are : {A : Type 0} → (n count : ℕ) (words : List A) → n ≤ count → take n words ≡ take n (take count words)
inside_are n count words h = sym (take-take n count words h)

pub outside_are : {A : Type 0} → (n count : ℕ) (words : List A) → n ≤ count → take (count - n) (drop n words) ≡ drop n (take count words)
outside_are {A} n count words h =
    let e : n + (count - n) ≡ count = omega (arith, h) in
    rw e at (sym (drop-take n (count - n) words))

drop_step : {A : Type 0} → (n : ℕ) (words : List A) (word : A) (others : List A) → drop n words ≡ word ∷ others → others ≡ drop (suc n) words
drop_step zero [] word others h = let no : ⊥ = cc in absurd no
drop_step zero (first ∷ words) word others h = cc
drop_step (suc n) [] word others h = let no : ⊥ = cc in absurd no
drop_step (suc n) (first ∷ words) word others h = drop_step n words word others h

pub drop_next : {A : Type 0} → (n : ℕ) (words : List A) (word : A) (others : List A) → drop n words ≡ word ∷ others → others ≡ drop (n + 1) words
drop_next n words word others h = rw add-one (drop_step n words word others h)

-- ---- what one pass over them finds

inside_known : (n : ℕ) (words others : List (Argument (List ℕ))) → n ≤ length words → take (length words) others ≡ words
    → take n others ≡ take n words
inside_known n words others h w = rw w at (inside_are n (length words) others h)

outside_known : (n : ℕ) (words others : List (Argument (List ℕ))) → n ≤ length words → take (length words) others ≡ words
    → take (length words - n) (drop n others) ≡ drop n words
outside_known n words others h w = rw w at (outside_are n (length words) others h)

pub are_known : (parsed : Bool) (others after : List (Argument (List ℕ))) (span : WordSpan) → span ≡ span_of (parts None parsed others)
    → after ≡ drop span.inside others
    → (take span.inside others ≡ inside (take span.words others))
    × (take (span.words - span.inside) after ≡ outside (take span.words others))
    × (span.has_real ≡ list_any is_real (take span.words others))
are_known parsed others after span e a = grind (arith, words_taken, front_within, inside_known, outside_known)

-- ---- the parts of a line whose first macro takes a word

pub onto_taken : (parsed : Bool) (others : List (Argument (List ℕ))) (taken : Option (Argument (List ℕ))) → (taken_onto taken (parts None parsed others)).taken ≡ taken
onto_taken parsed others None = none_taken parsed others
onto_taken parsed others (Some word) = refl

pub onto_words : (parsed : Bool) (others : List (Argument (List ℕ))) (taken : Option (Argument (List ℕ))) (span : WordSpan) → span ≡ span_of (parts None parsed others)
    → take span.words others ≡ (taken_onto taken (parts None parsed others)).words
onto_words parsed others None span e = rw e (words_taken parsed others)
onto_words parsed others (Some word) span e = rw e (words_taken parsed others)

pub onto_rest : (p : LineParts) (taken : Option (Argument (List ℕ))) → rest_parts p ≡ rest_parts (taken_onto taken p)
onto_rest p None = refl
onto_rest p (Some word) = refl

-- ---- what comes after a macro's words

no_calls : (calls : List InlineCall) → has_calls calls ≡ false → calls ≡ []
no_calls [] h = refl
no_calls (call ∷ calls) h = cc

-- where no call follows, all that is left are the line's last delimiters
pub tail_is : (parsed : Bool) (arguments after : List (Argument (List ℕ))) (span : WordSpan) → span ≡ span_of (parts None parsed arguments)
    → span.follows ≡ false → after ≡ drop span.words arguments → tail_alone after ≡ rest_parts (parts None parsed arguments)
tail_is parsed arguments after span e f a =
    let p = parts None parsed arguments in
    let left : after ≡ drop (length p.words) arguments = a ∙ ap (λ (s : WordSpan). drop s.words arguments) e in
    let goes : parts None true after ≡ rest_parts p = rw left (rest_goes_on parsed arguments) in
    let whole_rest : parts_arguments (rest_parts p) ≡ after = rw goes at (whole None true after) in
    let none : p.calls ≡ [] = no_calls p.calls (sym (ap (λ (s : WordSpan). s.follows) e) ∙ f) in
    let tail : p.tail ≡ after = rw none at whole_rest in
    rw (none, tail) refl

if_calls : (parsed : Bool) (call : Option Inline) (inline : Inline) → if_parsed parsed call ≡ Some inline → call ≡ Some inline
if_calls true call inline h = h
if_calls false call inline h = cc

-- a word that calls is no closing delimiter
call_open : (word : Argument (List ℕ)) (inline : Inline) → word_call word ≡ Some inline → is_closing word ≡ false
call_open word inline calls =
    elim (cases_Bool (is_closing word)) [
      | inl closes ↦ absurd (both_ways _ (closing_calls true word closes) (ap is_something calls))
      | inr other ↦ other
    ]

-- where a word calls, its macro is what comes next
pub call_is : (parsed : Bool) (arguments : List (Argument (List ℕ))) (word : Argument (List ℕ)) (others : List (Argument (List ℕ))) (inline : Inline) (span : WordSpan)
    → span ≡ span_of (parts None parsed arguments) → word ∷ others ≡ drop span.words arguments → if_parsed parsed (word_call word) ≡ Some inline
    → call_first inline word (parts (Some inline) true others) ≡ rest_parts (parts None parsed arguments)
call_is parsed arguments word others inline span e a c =
    let p = parts None parsed arguments in
    let left : word ∷ others ≡ drop (length p.words) arguments = a ∙ ap (λ (s : WordSpan). drop s.words arguments) e in
    let calls : word_call word ≡ Some inline = if_calls parsed (word_call word) inline c in
    let unclosed : is_closing word ≡ false = call_open word inline calls in
    let first : parts None true (word ∷ others) ≡ call_first inline word (parts (Some inline) true others) = rw (unclosed, calls) refl in
    sym first ∙ (ap (λ l. parts None true l) left ∙ rest_goes_on parsed arguments)
