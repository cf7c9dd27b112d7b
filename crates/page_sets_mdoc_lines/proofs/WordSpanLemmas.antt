-- A text has at most half as many arguments as bytes, and one more: helpers of proofs.
use Rattle.std.proofs.Common.{◌≡◌, ℕ, zero, suc, ◌+◌, ◌-◌, ◌*◌, ◌≤◌, min, Bool, true, false, List, [], ◌∷◌, length, drop, refl, arith, inl, inr, length-drop, ◌==◌, ◌&&◌, ◌||◌, Option, None, Some, option_map, sym, ap, ◌∙◌, if◌then◌else◌, ◌++◌, take}
use Rattle.std.proofs.lemmas.Bool.{cases_Bool, and_parts, cond-false, both_ways, false_from_ne_true}
use Rattle.std.proofs.lemmas.Bool.Decides.{nat_tests}
use Rattle.page_roff_syntax.specs.Arguments.{is_blank, bare_len, quoted_len, argument_len, first_arguments, arguments, is_quoted}
use Rattle.page_roff_syntax.proofs.ArgumentLemmas.{bare_some, bare_within}
use Rattle.page_sets_mdoc_lines.specs.laws.Views.{arguments_after, is_call, is_something, span_of, rest_parts, calls_arguments, parts_arguments}
use Rattle.std.proofs.lemmas.List.{drop_all}
use Rattle.std.specs.List.{find, list_all, list_any}
use Rattle.std.specs.Str.{bytes_eq}
use Rattle.std.proofs.lemmas.Slice.Eq.{bytes_eq-Decides}
use Rattle.page_roff_syntax.specs.declared.quotes.Argument.{Argument}
use Rattle.page_sets_mdoc_lines.specs.declared.macros.Inline.{Inline}
use Rattle.page_sets_mdoc_lines.specs.declared.word_spans.WordSpan.{WordSpan}
use Rattle.page_sets_mdoc_lines.specs.Rows.{row_of, called, table}
use Rattle.page_sets_mdoc_lines.specs.Parts.{delimiters, delimiter_of, word_call, word_delimiter, closes, is_closing, is_real, LineParts, parts, part_first, if_parsed, front_len, has_calls, takes, taken_first, call_first, tail_alone}
use Rattle.page_sets_mdoc_lines.specs.declared.delimiters.Delimiter.{Delimiter}
use Rattle.std.specs.Prelude.{is_none}
use Rattle.page_core_base.specs.Messages.{row_in}
use Rattle.page_sets_mdoc_lines.specs.machine.Cursors.{has_name_len}

-- a text is at its end, or a blank parts it from what came before
abbrev is_parted : List ℕ → Bool
is_parted [] = true
is_parted (byte ∷ bytes) = is_blank byte

one_off : (n b : ℕ) (bs : List ℕ) → drop (1 + n) (b ∷ bs) ≡ drop n bs
one_off n b bs = let e : 1 + n ≡ suc n = omega arith in rw e refl

two_off : (n b c : ℕ) (cs : List ℕ) → drop (2 + n) (b ∷ c ∷ cs) ≡ drop n cs
two_off n b c cs = let e : 2 + n ≡ suc (suc n) = omega arith in rw e refl

-- an argument without quotes ends before a blank, or at the end
bare_parted : (text : List ℕ) → is_parted (drop (bare_len text) text) ≡ true
bare_parted [] = refl
bare_parted (b ∷ []) = elim (cases_Bool (is_blank b)) [ inl t ↦ rw t t | inr t ↦ rw t refl ]
bare_parted (b ∷ c ∷ cs) = grind (arith, two_off, one_off, bare_parted cs, bare_parted (c ∷ cs))

-- the arguments of a text, and of one that begins with a blank
abbrev IsFew : ℕ → ℕ → List ℕ → Type 0
IsFew n column text =
    (2 * length (first_arguments n column text) ≤ length text + 1)
    × (is_parted text ≡ true → 2 * length (first_arguments n column text) ≤ length text)

past_bare : (n column b : ℕ) (bs : List ℕ) → is_blank b ≡ false
    → IsFew n column (drop (bare_len (b ∷ bs)) (b ∷ bs))
    → 2 * length (first_arguments n column (drop (bare_len (b ∷ bs)) (b ∷ bs))) + 2 ≤ length (b ∷ bs) + 1
past_bare n column b bs t h = grind (arith, nat_tests, bare_parted, length-drop, bare_some, bare_within)

past_quoted : (n column len b : ℕ) (bs : List ℕ) → len ≡ min (length (b ∷ bs)) (quoted_len bs + 2) → IsFew n column (drop len (b ∷ bs))
    → 2 * length (first_arguments n column (drop len (b ∷ bs))) + 2 ≤ length (b ∷ bs) + 1
past_quoted n column len b [] e h = grind arith
past_quoted n column len b (c ∷ cs) e h = grind (arith, length-drop)

past_argument : (n column b : ℕ) (bs : List ℕ) → is_blank b ≡ false
    → IsFew n column (drop (argument_len (b ∷ bs)) (b ∷ bs))
    → 2 * length (first_arguments n column (drop (argument_len (b ∷ bs)) (b ∷ bs))) + 2 ≤ length (b ∷ bs) + 1
past_argument n column b bs t h = grind (arith, past_quoted, past_bare)

is_few : (n column : ℕ) (text : List ℕ) → IsFew n column text
is_few zero column text = (omega arith, λ h. omega arith)
is_few (suc n) column [] = (omega arith, λ h. omega arith)
is_few (suc n) column (b ∷ bs) =
    elim (cases_Bool (is_blank b)) [
      | inl t ↦ let few = (is_few n (column + 1) bs).0 in rw t (omega (arith, few), λ h. omega (arith, few))
      | inr t ↦
          let len = argument_len (b ∷ bs) in
          let few = past_argument n (column + len) b bs t (is_few n (column + len) (drop len (b ∷ bs))) in
          rw t (omega (arith, few), λ h. let no : ⊥ = cc in absurd no)
    ]

few_arguments : (column : ℕ) (text : List ℕ) → 2 * length (arguments column text) ≤ length text + 1
unfolding arguments
few_arguments column text = (is_few (length text) column text).0

pub few_arguments_after : (text : List ℕ) (start : ℕ) → 2 * length (arguments_after start text) ≤ length text - start + 1
few_arguments_after text start = omega (arith, few_arguments (start + 1) (drop start text), length-drop start text)

-- ---- A cursor, one argument further on: helpers of proofs.

no_arguments : (column : ℕ) (text : List ℕ) → text ≡ [] → arguments column text ≡ []
unfolding arguments
no_arguments column text e = rw e refl

at_end : (text : List ℕ) → arguments_after (length text) text ≡ []
at_end text = no_arguments (length text + 1) (drop (length text) text) (drop_all (length text) text (omega arith))

pub none_at : (text : List ℕ) (start : ℕ) → start ≡ length text → arguments_after start text ≡ []
none_at text start e = rw e (at_end text)

pub few_left : (text : List ℕ) (start : ℕ) → length text ≤ 65536 → length (arguments_after start text) ≤ 65536
few_left text start h = omega (arith, few_arguments_after text start)

-- ---- A macro's own words, found in one pass: helpers of proofs.

closing_by : (closing others : Bool) (n : ℕ) → others ≡ (n == 0) → (closing && others) ≡ ((if (n == 0) && closing then 0 else 1 + n) == 0)
closing_by true true n h = rw (← h) refl
closing_by true false n h = rw (← h) (grind (arith, nat_tests))
closing_by false true n h = rw (← h) (grind (arith, nat_tests))
closing_by false false n h = rw (← h) (grind (arith, nat_tests))

pub all_closing : (closing : Argument (List ℕ) → Bool) (arguments : List (Argument (List ℕ))) → list_all closing arguments ≡ (front_len closing arguments == 0)
all_closing closing [] = refl
all_closing closing (argument ∷ arguments) = grind (arith, closing_by, all_closing closing arguments)

less_by : (test : Bool) (n : ℕ) (closing : Bool) → (n == 0) ≡ test → n ≡ (if test && closing then 0 else 1 + n) - 1
less_by true n true e = grind (arith, nat_tests)
less_by true n false e = omega arith
less_by false n true e = omega arith
less_by false n false e = omega arith

pub one_less : (closing : Argument (List ℕ) → Bool) (argument : Argument (List ℕ)) (arguments : List (Argument (List ℕ)))
    → front_len closing arguments ≡ front_len closing (argument ∷ arguments) - 1
one_less closing argument arguments = less_by (front_len closing arguments == 0) (front_len closing arguments) (closing argument) refl

-- ---- one pass

-- the words up to the next call, or to the closing delimiters at the line's end
abbrev pub generated_words : (Argument (List ℕ) → Bool) → (Argument (List ℕ) → Bool) → List (Argument (List ℕ)) → List (Argument (List ℕ))
generated_words closing call [] = []
generated_words closing call (argument ∷ arguments) =
    if list_all closing (argument ∷ arguments) then []
    else if call argument then []
    else argument ∷ generated_words closing call arguments

-- whether calls come after the words
abbrev pub calls_follow : (Argument (List ℕ) → Bool) → (Argument (List ℕ) → Bool) → List (Argument (List ℕ)) → Bool
calls_follow closing call [] = false
calls_follow closing call (argument ∷ arguments) =
    if list_all closing (argument ∷ arguments) then false
    else if call argument then true
    else calls_follow closing call arguments

abbrev pub no_words : WordSpan
no_words = record { words = 0; inside = 0; has_real = false; follows = false }

-- with one word more, closing or not, real or not
abbrev pub one_word : WordSpan → Bool → Bool → WordSpan
one_word span is_closing is_real = record {
  words = span.words + 1;
  inside = if is_closing then span.inside else span.words + 1;
  has_real = span.has_real || is_real;
  follows = span.follows;
}

-- with the words that a list begins with, one after the other
abbrev pub span_from : (Argument (List ℕ) → Bool) → (Argument (List ℕ) → Bool) → (Argument (List ℕ) → Bool) → WordSpan → List (Argument (List ℕ)) → WordSpan
span_from closing call real span [] = span
span_from closing call real span (argument ∷ arguments) =
    if list_all closing (argument ∷ arguments) then span
    else if call argument then record span { follows = true }
    else span_from closing call real (one_word span (closing argument) (real argument)) arguments

words_from : (closing call real : Argument (List ℕ) → Bool) (arguments : List (Argument (List ℕ))) (span : WordSpan)
    → (span_from closing call real span arguments).words ≡ span.words + length (generated_words closing call arguments)
words_from closing call real [] span = omega arith
words_from closing call real (argument ∷ arguments) span =
    grind (arith, words_from closing call real arguments (one_word span (closing argument) (real argument)))

pub inside_by : (test closing : Bool) (n inside words : ℕ) → (n == 0) ≡ test
    → (if test then (if closing then inside else words + 1) else words + 1 + n)
    ≡ (if (if test && closing then 0 else 1 + n) == 0 then inside else words + (if test && closing then 0 else 1 + n))
inside_by true true n inside words e = refl
inside_by true false n inside words e = let t : (1 + n == 0) ≡ false = grind (arith, nat_tests) in let z : n ≡ 0 = grind (arith, nat_tests) in rw t (omega (arith, z))
inside_by false true n inside words e = let t : (1 + n == 0) ≡ false = grind (arith, nat_tests) in rw t (omega arith)
inside_by false false n inside words e = let t : (1 + n == 0) ≡ false = grind (arith, nat_tests) in rw t (omega arith)

abbrev inside_after : (Argument (List ℕ) → Bool) → WordSpan → List (Argument (List ℕ)) → ℕ
inside_after closing span words = if front_len closing words == 0 then span.inside else span.words + front_len closing words

inside_from : (closing call real : Argument (List ℕ) → Bool) (arguments : List (Argument (List ℕ))) (span : WordSpan)
    → (span_from closing call real span arguments).inside ≡ inside_after closing span (generated_words closing call arguments)
inside_from closing call real [] span = refl
inside_from closing call real (argument ∷ arguments) span =
    grind (arith, inside_by, inside_from closing call real arguments (one_word span (closing argument) (real argument)))

pub or_none : (a : Bool) → a ≡ (a || false)
or_none true = refl
or_none false = refl

or_some : (a : Bool) → (a || true) ≡ true
or_some true = refl
or_some false = refl

or_more : (a b c : Bool) → ((a || b) || c) ≡ (a || (b || c))
or_more true b c = refl
or_more false b c = refl

real_from : (closing call real : Argument (List ℕ) → Bool) (arguments : List (Argument (List ℕ))) (span : WordSpan)
    → (span_from closing call real span arguments).has_real ≡ (span.has_real || list_any real (generated_words closing call arguments))
real_from closing call real [] span = or_none span.has_real
real_from closing call real (argument ∷ arguments) span =
    grind (arith, or_none, or_more, real_from closing call real arguments (one_word span (closing argument) (real argument)))

follows_from : (closing call real : Argument (List ℕ) → Bool) (arguments : List (Argument (List ℕ))) (span : WordSpan)
    → span.follows ≡ false → (span_from closing call real span arguments).follows ≡ calls_follow closing call arguments
follows_from closing call real [] span h = h
follows_from closing call real (argument ∷ arguments) span h =
    grind (arith, follows_from closing call real arguments (one_word span (closing argument) (real argument)) h)

pub words_is : (closing call real : Argument (List ℕ) → Bool) (arguments : List (Argument (List ℕ)))
    → (span_from closing call real no_words arguments).words ≡ length (generated_words closing call arguments)
words_is closing call real arguments = let k = words_from closing call real arguments no_words in omega (arith, k)

pub none_inside : (n : ℕ) → (if n == 0 then 0 else 0 + n) ≡ n
none_inside n = grind arith

pub inside_is : (closing call real : Argument (List ℕ) → Bool) (arguments : List (Argument (List ℕ)))
    → (span_from closing call real no_words arguments).inside ≡ front_len closing (generated_words closing call arguments)
inside_is closing call real arguments = grind (arith, inside_from, none_inside)

pub real_is : (closing call real : Argument (List ℕ) → Bool) (arguments : List (Argument (List ℕ)))
    → (span_from closing call real no_words arguments).has_real ≡ list_any real (generated_words closing call arguments)
real_is closing call real arguments = real_from closing call real arguments no_words

pub follows_is : (closing call real : Argument (List ℕ) → Bool) (arguments : List (Argument (List ℕ)))
    → (span_from closing call real no_words arguments).follows ≡ calls_follow closing call arguments
follows_is closing call real arguments = follows_from closing call real arguments no_words refl

-- ---- one pass, which sees only at its end that the delimiters read last are those at the line's end

-- without the closing delimiters at the end of its words
abbrev pub cut_words : WordSpan → WordSpan
cut_words span = record span { words = span.inside }

abbrev pub passed : (Argument (List ℕ) → Bool) → (Argument (List ℕ) → Bool) → (Argument (List ℕ) → Bool) → WordSpan → List (Argument (List ℕ)) → WordSpan
passed closing call real span [] = cut_words span
passed closing call real span (argument ∷ arguments) =
    if call argument then record span { follows = true }
    else passed closing call real (one_word span (closing argument) (real argument)) arguments

-- a closing delimiter calls nothing, and is no word of its own
pub record AreApart (closing call real : Argument (List ℕ) → Bool) : Type 0 where
  pub no_call : (argument : Argument (List ℕ)) → closing argument ≡ true → call argument ≡ false
  pub no_real : (argument : Argument (List ℕ)) → closing argument ≡ true → real argument ≡ false

stopped : (closing call real : Argument (List ℕ) → Bool) (arguments : List (Argument (List ℕ))) (span : WordSpan)
    → list_all closing arguments ≡ true → span_from closing call real span arguments ≡ span
stopped closing call real [] span h = refl
stopped closing call real (argument ∷ arguments) span h = rw h refl

cut_again : (span : WordSpan) (real : Bool) → real ≡ false → cut_words (one_word span true real) ≡ cut_words span
cut_again span real r = rw (r, sym (or_none span.has_real)) refl

-- where all that is left closes
passed_tail : (closing call real : Argument (List ℕ) → Bool) (arguments : List (Argument (List ℕ))) (span : WordSpan) → AreApart closing call real
    → list_all closing arguments ≡ true → passed closing call real span arguments ≡ cut_words span
passed_tail closing call real [] span apart h = refl
passed_tail closing call real (argument ∷ arguments) span apart h =
    let parts = and_parts (closing argument) (list_all closing arguments) h in
    let s : call argument ≡ false = apart.no_call argument parts.0 in
    let r : real argument ≡ false = apart.no_real argument parts.0 in
    let more = passed_tail closing call real arguments (one_word span true (real argument)) apart parts.1 in
    rw (s, parts.0) (more ∙ cut_again span (real argument) r)

and_false : (a b : Bool) → (a && b) ≡ false → b ≡ true → a ≡ false
and_false true true h e = h
and_false true false h e = sym e
and_false false b h e = refl

passed_word : (closing call real : Argument (List ℕ) → Bool) (argument : Argument (List ℕ)) (arguments : List (Argument (List ℕ))) (span : WordSpan)
    → AreApart closing call real → (closing argument && list_all closing arguments) ≡ false
    → (list_all closing arguments ≡ false
    → passed closing call real (one_word span (closing argument) (real argument)) arguments
    ≡ span_from closing call real (one_word span (closing argument) (real argument)) arguments)
    → passed closing call real (one_word span (closing argument) (real argument)) arguments
    ≡ span_from closing call real (one_word span (closing argument) (real argument)) arguments
passed_word closing call real argument arguments span apart h more = grind (arith, and_false, passed_tail, stopped)

passed_from : (closing call real : Argument (List ℕ) → Bool) (arguments : List (Argument (List ℕ))) (span : WordSpan) → AreApart closing call real
    → list_all closing arguments ≡ false → passed closing call real span arguments ≡ span_from closing call real span arguments
passed_from closing call real [] span apart h = absurd (both_ways true h refl)
passed_from closing call real (argument ∷ arguments) span apart h =
    elim (cases_Bool (call argument)) [
      | inl s ↦ rw (h, s) refl
      | inr s ↦
          rw (h, s) (passed_word closing call real argument arguments span apart h
          (λ (t : list_all closing arguments ≡ false).
          passed_from closing call real arguments (one_word span (closing argument) (real argument)) apart t))
    ]

pub passed_is : (closing call real : Argument (List ℕ) → Bool) (arguments : List (Argument (List ℕ))) → AreApart closing call real
    → passed closing call real no_words arguments ≡ span_from closing call real no_words arguments
passed_is closing call real arguments apart = grind (arith, passed_tail, stopped, passed_from)

-- ---- one step of the pass

pub word_passed : (closing call real : Argument (List ℕ) → Bool) (argument : Argument (List ℕ)) (arguments : List (Argument (List ℕ))) (span : WordSpan)
    → call argument ≡ false
    → passed closing call real span (argument ∷ arguments) ≡ passed closing call real (one_word span (closing argument) (real argument)) arguments
word_passed closing call real argument arguments span s = rw s refl

pub call_passed : (closing call real : Argument (List ℕ) → Bool) (argument : Argument (List ℕ)) (arguments : List (Argument (List ℕ))) (span : WordSpan)
    → call argument ≡ true → passed closing call real span (argument ∷ arguments) ≡ record span { follows = true }
call_passed closing call real argument arguments span s = rw s refl

-- what a turn makes of the numbers is one word more
pub one_more : (closing real : Bool) (span middle last : WordSpan)
    → middle ≡ (if closing then span else record span { inside = span.words + 1 })
    → last ≡ (if real then record middle { has_real = true } else middle) → record last { words = last.words + 1 } ≡ one_word span closing real
one_more true true span middle last e f = rw (f, e, or_some span.has_real) refl
one_more true false span middle last e f = rw (f, e, sym (or_none span.has_real)) refl
one_more false true span middle last e f = rw (f, e, or_some span.has_real) refl
one_more false false span middle last e f = rw (f, e, sym (or_none span.has_real)) refl

-- ---- the words of the parts

abbrev IsOwn : Bool → List (Argument (List ℕ)) → LineParts → Type 0
IsOwn parsed arguments p =
    (generated_words is_closing (is_call parsed) arguments ≡ p.words) × (calls_follow is_closing (is_call parsed) arguments ≡ has_calls p.calls)

own_by : (parsed : Bool) (argument : Argument (List ℕ)) (arguments : List (Argument (List ℕ))) (call : Option Inline)
    → if_parsed parsed (word_call argument) ≡ call → IsOwn parsed arguments (parts None parsed arguments)
    → ((if is_call parsed argument then [] else argument ∷ generated_words is_closing (is_call parsed) arguments)
    ≡ (part_first call argument (parts None parsed arguments) (λ inline. parts (Some inline) true arguments)).words)
    × ((if is_call parsed argument then true else calls_follow is_closing (is_call parsed) arguments)
    ≡ has_calls (part_first call argument (parts None parsed arguments) (λ inline. parts (Some inline) true arguments)).calls)
own_by parsed argument arguments None e h = grind arith
own_by parsed argument arguments (Some inline) e h = grind arith

own_are : (parsed : Bool) (arguments : List (Argument (List ℕ))) → IsOwn parsed arguments (parts None parsed arguments)
own_are parsed [] = (refl, refl)
own_are parsed (argument ∷ arguments) = grind (arith, own_by, own_are parsed arguments)

abbrev span_with : ℕ → ℕ → Bool → Bool → WordSpan
span_with words inside has_real follows = record { words = words; inside = inside; has_real = has_real; follows = follows }

span_by : (w i w' i' : ℕ) (r f r' f' : Bool) → w ≡ w' → i ≡ i' → r ≡ r' → f ≡ f' → span_with w i r f ≡ span_with w' i' r' f'
span_by w i w' i' r f r' f' a b c d = rw (a, b, c, d) refl

pub span_is : (parsed : Bool) (arguments : List (Argument (List ℕ)))
    → span_from is_closing (is_call parsed) is_real no_words arguments ≡ span_of (parts None parsed arguments)
span_is parsed arguments = grind (arith, own_are, is_call, span_by, words_is, inside_is, real_is, follows_is)

-- ---- closing delimiters call nothing

not_found : {A : Type 0} (p : List ℕ → Bool) (rows : List (List ℕ × A)) (name : List ℕ)
    → list_all (λ row. p row.0) rows ≡ true → p name ≡ false → find (λ row. bytes_eq name row.0) rows ≡ None
not_found p [] name all other = refl
not_found p (row ∷ rows) name all other =
    let parts = and_parts (p row.0) (list_all (λ row. p row.0) rows) all in
    elim (cases_Bool (bytes_eq name row.0)) [
      | inl same ↦ absurd (both_ways _ other (ap p ((bytes_eq-Decides name row.0).0 same) ∙ parts.0))
      | inr differs ↦ cond-false _ _ _ differs ∙ not_found p rows name parts.1 other
    ]

none_of : {A : Type 0} (o : Option A) → is_none o ≡ true → o ≡ None
none_of None h = refl
none_of (Some what) h = cc

no_delimiter : (name : List ℕ) → is_none (called name) ≡ false → delimiter_of name ≡ None
unfolding delimiter_of row_of
no_delimiter name calls = ap (option_map (λ row. row.1)) (not_found (λ n. is_none (called n)) delimiters name refl calls)

-- a delimiter that closes is no name of a macro
no_name : (name : List ℕ) → closes (delimiter_of name) ≡ true → called name ≡ None
no_name name h = grind (arith, none_of, both_ways, no_delimiter)

no_call_by : (quoted : Bool) (text : List ℕ) → closes (if quoted then None else delimiter_of text) ≡ true
    → (if quoted then None else called text) ≡ None
no_call_by true text h = refl
no_call_by false text h = no_name text h

pub closing_calls : (parsed : Bool) (word : Argument (List ℕ)) → is_closing word ≡ true → is_call parsed word ≡ false
unfolding is_closing word_delimiter word_call
closing_calls true word h = ap is_something (no_call_by (is_quoted word.quoting) word.text h)
closing_calls false word h = refl

real_by : (delimiter : Option Delimiter) → closes delimiter ≡ true → is_none delimiter ≡ false
real_by None h = sym h
real_by (Some delimiter) h = refl

closing_real : (word : Argument (List ℕ)) → is_closing word ≡ true → is_real word ≡ false
unfolding is_closing is_real
closing_real word h = real_by (word_delimiter word) h

pub pass_is : (parsed : Bool) (arguments : List (Argument (List ℕ)))
    → passed is_closing (is_call parsed) is_real no_words arguments ≡ span_of (parts None parsed arguments)
pass_is parsed arguments = grind (arith, passed_is, is_call, closing_calls, closing_real, span_is)

-- ---- The words of a macro, and what comes after them in its line: helpers of proofs.

words_by : (word : Argument (List ℕ)) (words : List (Argument (List ℕ))) (p : LineParts) (begun : Inline → LineParts) (call : Option Inline)
    → take (length p.words) words ≡ p.words
    → take (length (part_first call word p begun).words) (word ∷ words) ≡ (part_first call word p begun).words
words_by word words p begun None h = ap (λ ws. word ∷ ws) h
words_by word words p begun (Some inline) h = refl

pub words_taken : (parsed : Bool) (arguments : List (Argument (List ℕ)))
    → take (length (parts None parsed arguments).words) arguments ≡ (parts None parsed arguments).words
words_taken parsed [] = refl
words_taken parsed (word ∷ words) = grind (arith, words_by, words_taken parsed words)

-- at the end of its words a macro's line goes on with the next call, or with the last delimiters
rest_tail : (arguments : List (Argument (List ℕ))) → list_all is_closing arguments ≡ true → parts None true arguments ≡ rest_parts (tail_alone arguments)
rest_tail [] h = refl
rest_tail (word ∷ words) h = rw h refl

rest_by : (parsed : Bool) (word : Argument (List ℕ)) (words : List (Argument (List ℕ))) → list_all is_closing (word ∷ words) ≡ false
    → (call : Option Inline) → if_parsed parsed (word_call word) ≡ call
    → parts None true (drop (length (parts None parsed words).words) words) ≡ rest_parts (parts None parsed words)
    → parts None true (drop (length (part_first call word (parts None parsed words) (λ inline. parts (Some inline) true words)).words) (word ∷ words))
    ≡ rest_parts (part_first call word (parts None parsed words) (λ inline. parts (Some inline) true words))
rest_by parsed word words n None e h = h
rest_by true word words n (Some inline) e h = let c : word_call word ≡ Some inline = e in rw (n, c) refl
rest_by false word words n (Some inline) e h = let no_call : ⊥ = cc in absurd no_call

pub rest_goes_on : (parsed : Bool) (arguments : List (Argument (List ℕ)))
    → parts None true (drop (length (parts None parsed arguments).words) arguments) ≡ rest_parts (parts None parsed arguments)
rest_goes_on parsed [] = refl
rest_goes_on parsed (word ∷ words) = grind (arith, rest_tail, rest_by, rest_goes_on parsed words)

-- ---- each argument once

joined : (xs ys zs : List (Argument (List ℕ))) → (xs ++ ys) ++ zs ≡ xs ++ (ys ++ zs)
joined [] ys zs = refl
joined (x ∷ xs) ys zs = ap (λ l. x ∷ l) (joined xs ys zs)

-- where no macro has just begun nothing is taken
none_by : (word : Argument (List ℕ)) (p : LineParts) (begun : Inline → LineParts) (call : Option Inline) → p.taken ≡ None
    → (part_first call word p begun).taken ≡ None
none_by word p begun None h = h
none_by word p begun (Some inline) h = refl

pub none_taken : (parsed : Bool) (arguments : List (Argument (List ℕ))) → (parts None parsed arguments).taken ≡ None
none_taken parsed [] = refl
none_taken parsed (word ∷ words) = grind (arith, none_by, none_taken parsed words)

abbrev after_taken : LineParts → List (Argument (List ℕ))
after_taken p = p.words ++ (calls_arguments p.calls ++ p.tail)

all_taken : (p : LineParts) (arguments : List (Argument (List ℕ))) → p.taken ≡ None → parts_arguments p ≡ arguments → after_taken p ≡ arguments
all_taken p arguments n h = rw n at h

whole_taken : (word : Argument (List ℕ)) (words : List (Argument (List ℕ))) (p : LineParts) → p.taken ≡ None → parts_arguments p ≡ words
    → parts_arguments (taken_first word p) ≡ word ∷ words
whole_taken word words p n h = ap (λ l. word ∷ l) (all_taken p words n h)

whole_call : (inline : Inline) (word : Argument (List ℕ)) (words : List (Argument (List ℕ))) (p : LineParts) → parts_arguments p ≡ words
    → parts_arguments (call_first inline word p) ≡ word ∷ words
whole_call inline word words p h = grind (arith, joined)

whole_by : (word : Argument (List ℕ)) (words : List (Argument (List ℕ))) (p : LineParts) (begun : Inline → LineParts) (call : Option Inline)
    → p.taken ≡ None → parts_arguments p ≡ words → ((inline : Inline) → parts_arguments (begun inline) ≡ words)
    → parts_arguments (part_first call word p begun) ≡ word ∷ words
whole_by word words p begun None n h m = rw n (ap (λ l. word ∷ l) (all_taken p words n h))
whole_by word words p begun (Some inline) n h m = whole_call inline word words (begun inline) (m inline)

pub whole : (begun : Option Inline) (parsed : Bool) (arguments : List (Argument (List ℕ))) → parts_arguments (parts begun parsed arguments) ≡ arguments
whole begun parsed [] = refl
whole begun parsed (word ∷ words) =
    elim (cases_Bool (takes begun word)) [
      | inl s ↦ rw s (whole_taken word words (parts None parsed words) (none_taken parsed words) (whole None parsed words))
      | inr s ↦
          elim (cases_Bool (list_all is_closing (word ∷ words))) [
            | inl t ↦ rw (s, t) refl
            | inr t ↦
                rw (s, t) (whole_by word words (parts None parsed words) (λ inline. parts (Some inline) true words) (if_parsed parsed (word_call word))
                (none_taken parsed words) (whole None parsed words) (λ inline. whole (Some inline) true words))
          ]
    ]

-- ---- Names of macros have two or three letters: no other text has a row in the table.

none_of_len : {V : Type 0} (rows : List (List ℕ × V)) (name : List ℕ) → list_all (λ row. has_name_len row.0) rows ≡ true → has_name_len name ≡ false
    → row_in rows name ≡ None
none_of_len [] name all other = refl
none_of_len (row ∷ rows) name all other =
    let parts = and_parts (has_name_len row.0) (list_all (λ row. has_name_len row.0) rows) all in
    let differs = false_from_ne_true (bytes_eq row.0 name) (λ same.
    let one : has_name_len row.0 ≡ has_name_len name = ap has_name_len ((bytes_eq-Decides row.0 name).0 same) in
    let own : has_name_len row.0 ≡ true = parts.0 in
    grind (arith, one, own, other)) in
    cond-false _ _ _ differs ∙ none_of_len rows name parts.1 other

table_len : list_all (λ row. has_name_len row.0) table ≡ true
table_len = refl

pub no_row : (name : List ℕ) → has_name_len name ≡ false → row_of name ≡ None
unfolding row_of
no_row name other = none_of_len table name table_len other
