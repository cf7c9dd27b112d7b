-- What is left of arguments that are inside one another: the content of the innermost, its delimiter, then the rest of the next.
use Rattle.std.proofs.Common.{◌≡◌, ℕ, ◌+◌, ◌-◌, ◌<◌, ◌≤◌, Bool, true, false, cond, eqb, nat_eq, List, [], ◌∷◌, length, take, drop, Option, Some, None, option_map, refl, sym, ap, ap₂, ◌∙◌, arith, length-drop, unwrap_or, zero-add, add-zero, ◌++◌, map, reverse, slice_get, drop_of_length-le, subst, get_or, not, inl, inr, ◌*◌, IsUtf8, chars, suc, ◌/◌, add-one, zero, ◌&&◌, if◌then◌else◌, ◌%◌, ◌^◌, Fits, w8}
use Rattle.std.specs.Option.{option_and_then}
use Rattle.std.specs.List.{starts_with, prefix_len}
use Rattle.std.proofs.lemmas.Bool.{cases_Bool, and_parts, not-true, cond_both, cases_lt, cond-true, cond-false, lt-ltb, le-ltb, le-leb, ne_eqb, agree_below, agree_below_at}
use Rattle.std.proofs.lemmas.Bool.Decides.{nat_tests}
use Rattle.std.proofs.lemmas.List.{drop-drop, length-take, length-take-le, take_all, reverse-append, take-append-drop, drop_more, get_or-take, get_or_past, length-append, drop_at, take_at, length-map}
use Rattle.std.proofs.lemmas.Option.{slice_get_within, get_or_from_slice_get, slice_get-get_or}
use Rattle.page_core_escapes.specs.declared.extents.Extent.{Extent}
use Rattle.page_core_escapes.specs.declared.extents.Extent.TheVariants.{QuotedFrom}
use Rattle.page_core_escapes.specs.declared.quoted.Step.{Step}
use Rattle.page_core_escapes.specs.declared.quoted.Step.TheVariants.{Passes, Opens, Closes}
use Rattle.page_core_escapes.specs.Lengths.{written_len, extent_of, quoted_len, extent_len, escape_len_by, content_len, letter_of, character_len}
use Rattle.page_core_escapes.specs.machine.Steps.{first_character, is_inner, step_over, step_of, StepFits}
use Rattle.page_core_escapes.proofs.Contents.{and_then-same, and_then-map, map-and_then, map-map, map-same, written_len-fits, next_content, content_len-next}
use Rattle.page_core_base.specs.Bytes.{is_digit, is_white, begins_white, begins_escape, begins_quote}
use Rattle.page_core_escapes.specs.Meanings.{hex_value, hex_number, nothing, letter_meaning, first_char, meaning_of, escape_of}
use Rattle.std.specs.Prelude.{slice_index}
use Rattle.std.specs.Str.{is_utf8, IsCharBoundary, continuation_len}
use Rattle.std.proofs.lemmas.Str.{is_utf8-from_IsUtf8, IsUtf8-from_is_utf8, IsUtf8-drop, IsCharBoundary-after_ascii, IsCharBoundary-from_drop}
use Rattle.std.specs.Char.{IsScalar}
use Rattle.std.proofs.Math.Utf8.{encode, encodes, scalars, scalar}
use Rattle.page_core_escapes.specs.Tokens.{TextToken, is_space, prints_itself, token_at, token_bytes, token_len, tokens_len, tokens_within, tokens_of}
use Rattle.page_core_escapes.specs.laws.Views.{begins_word}
use Rattle.std.proofs.lemmas.Simd.{chunk-drop, length-chunk, trailing_mask_l, mask_l-mod}
use Rattle.std.proofs.lemmas.List.Folds.{prefix_len-append}
use Rattle.std.proofs.lemmas.List.Sums.{prefix_len-le-length}
use lib.Bits.{bit_or}
use lib.Count.{count_trailing_zeros}
use lib.Lanes.{chunk, mask_l, top, Each1}

-- ---- what is read of `&t[at..]`

pub slice_from : (t : List ℕ) (at : ℕ) → take (length t - at) (drop at t) ≡ drop at t
slice_from t at = take_all (length t - at) (drop at t) (omega (arith, length-drop at t))

-- a step in what follows a place stays in the text
pub passes_within : (t : List ℕ) (at : ℕ) (s : Step) (n : ℕ) → at ≤ length t → StepFits (length (take (length t - at) (drop at t))) s → s ≡ Passes n → (0 < n) × (at + n ≤ length t)
passes_within t at s n within fits is =
    let here : StepFits (length (take (length t - at) (drop at t))) (Passes n) = subst (StepFits (length (take (length t - at) (drop at t)))) is fits in
    let size = ap length (slice_from t at) in
    (here.0, omega (arith, length-drop at t))

pub opens_within : (t : List ℕ) (at : ℕ) (s : Step) (n mark : ℕ) → at ≤ length t → StepFits (length (take (length t - at) (drop at t))) s → s ≡ Opens n mark → (2 ≤ n) × (0 < mark) × (at + (n + mark) ≤ length t)
opens_within t at s n mark within fits is =
    let here : StepFits (length (take (length t - at) (drop at t))) (Opens n mark) = subst (StepFits (length (take (length t - at) (drop at t)))) is fits in
    let size = ap length (slice_from t at) in
    (here.0, here.1, omega (arith, length-drop at t))

pub closes_within : (t : List ℕ) (at : ℕ) (s : Step) (n : ℕ) → at ≤ length t → StepFits (length (take (length t - at) (drop at t))) s → s ≡ Closes n → at + n ≤ length t
closes_within t at s n within fits is =
    let here : StepFits (length (take (length t - at) (drop at t))) (Closes n) = subst (StepFits (length (take (length t - at) (drop at t)))) is fits in
    let size = ap length (slice_from t at) in
    omega (arith, length-drop at t)

cond_sides : {A B C : Type 0} (c : Bool) (F : A → C) (G : B → C) (x y : A) (u v : B) → F x ≡ G u → F y ≡ G v → F (cond c x y) ≡ G (cond c u v)
cond_sides true F G x y u v here there = here
cond_sides false F G x y u v here there = there

Some-None : {x : ℕ} → Some x ≡ None → ⊥
Some-None e = cc

module _ (pairs : Bool) where
  -- the bytes of a text that end the open arguments, whose delimiters are given from the innermost on
  unfoldable pub rest_len : List (List ℕ) → List ℕ → Option ℕ
  rest_len [] t = Some 0
  rest_len (d ∷ ds) t = option_and_then (λ k. option_map (λ r. k + (length d + r)) (rest_len ds (drop (k + length d) t))) (content_len pairs d t)

  rest_len-cons : (d : List ℕ) (ds : List (List ℕ)) (t : List ℕ) → rest_len (d ∷ ds) t ≡ option_and_then (λ k. option_map (λ r. k + (length d + r)) (rest_len ds (drop (k + length d) t))) (content_len pairs d t)
  unfolding rest_len
  rest_len-cons d ds t = refl

  -- what a step leaves
  abbrev pub after_step : List ℕ → List (List ℕ) → List ℕ → Step → Option ℕ
  after_step d ds t (Passes n) = option_map (λ r. n + r) (rest_len (d ∷ ds) (drop n t))
  after_step d ds t (Opens n mark) = option_map (λ r. n + mark + r) (rest_len (first_character pairs (drop n t) ∷ d ∷ ds) (drop (n + mark) t))
  after_step d ds t (Closes n) = option_map (λ r. n + r) (rest_len ds (drop n t))

  -- where the content begins with n bytes that belong to it
  rest_len-passes : (d : List ℕ) (ds : List (List ℕ)) (t : List ℕ) (n : ℕ) → option_and_then (λ k. option_map (λ r. k + (length d + r)) (rest_len ds (drop (k + length d) t))) (option_map (λ k. n + k) (content_len pairs d (drop n t))) ≡ option_map (λ r. n + r) (rest_len (d ∷ ds) (drop n t))
  unfolding rest_len
  rest_len-passes d ds t n =
      and_then-map _ (λ k. n + k) (content_len pairs d (drop n t))
      ∙ and_then-same _ _ (content_len pairs d (drop n t)) (λ k is.
      let place : n + k + length d ≡ n + (k + length d) = omega arith in
      ap (λ m. option_map (λ r. n + k + (length d + r)) (rest_len ds (drop m t))) place
      ∙ ap (λ u. option_map (λ r. n + k + (length d + r)) (rest_len ds u)) (sym (drop-drop (k + length d) n t))
      ∙ map-same _ _ (rest_len ds (drop (k + length d) (drop n t))) (λ r. omega arith)
      ∙ sym (map-map (λ r. n + r) (λ r. k + (length d + r)) (rest_len ds (drop (k + length d) (drop n t)))))
      ∙ sym (map-and_then (λ r. n + r) (λ k. option_map (λ r. k + (length d + r)) (rest_len ds (drop (k + length d) (drop n t)))) (content_len pairs d (drop n t)))

  -- where it begins with an escape that takes n bytes, and that is known only as an option
  rest_len-escape : (d : List ℕ) (ds : List (List ℕ)) (t : List ℕ) (o : Option ℕ) → option_and_then (λ k. option_map (λ r. k + (length d + r)) (rest_len ds (drop (k + length d) t))) (option_and_then (λ n. option_map (λ k. n + k) (content_len pairs d (drop n t))) o) ≡ option_and_then (λ n. option_map (λ r. n + r) (rest_len (d ∷ ds) (drop n t))) o
  rest_len-escape d ds t None = refl
  rest_len-escape d ds t (Some n) = rest_len-passes d ds t n

  -- an argument inside the content: its own content, its delimiter, then the rest of the content
  rest_len-opens : (d : List ℕ) (ds : List (List ℕ)) (t : List ℕ) (n mark : ℕ) → written_len pairs (drop n t) ≡ Some mark → option_and_then (λ e. option_map (λ r. e + r) (rest_len (d ∷ ds) (drop e t))) (option_map (λ k. n + k) (quoted_len pairs (content_len pairs) (drop n t))) ≡ option_map (λ r. n + mark + r) (rest_len (take mark (drop n t) ∷ d ∷ ds) (drop (n + mark) t))
  unfolding quoted_len
  rest_len-opens d ds t n mark is =
      let u = drop n t in
      let e = take mark u in
      let fits = written_len-fits pairs u mark is in
      let size : length e ≡ mark = simp length-take (omega arith) in
      let F : ℕ → Option ℕ = λ k. option_map (λ r. k + r) (rest_len (d ∷ ds) (drop k t)) in
      let H : ℕ → Option ℕ = λ k. option_map (λ r. k + (length e + r)) (rest_len (d ∷ ds) (drop (k + length e) (drop (n + mark) t))) in
      let Q : ℕ → Option ℕ = λ m. option_map (λ k. m + (k + m)) (content_len pairs (take m u) (drop m u)) in
      ap (λ o. option_and_then F (option_map (λ k. n + k) (option_and_then Q o))) is
      ∙ ap (option_and_then F) (map-map (λ k. n + k) (λ k. mark + (k + mark)) (content_len pairs e (drop mark u)))
      ∙ and_then-map F (λ k. n + (mark + (k + mark))) (content_len pairs e (drop mark u))
      ∙ ap (λ v. option_and_then (λ k. F (n + (mark + (k + mark)))) (content_len pairs e v)) (drop-drop mark n t)
      ∙ and_then-same (λ k. F (n + (mark + (k + mark)))) (λ k. option_map (λ r. n + mark + r) (H k)) (content_len pairs e (drop (n + mark) t)) (λ k found. same k size)
      ∙ sym (map-and_then (λ r. n + mark + r) H (content_len pairs e (drop (n + mark) t)))
      ∙ ap (option_map (λ r. n + mark + r)) (sym (rest_len-cons e (d ∷ ds) (drop (n + mark) t)))
    where
      same : (k : ℕ) → length (take mark (drop n t)) ≡ mark → option_map (λ r. n + (mark + (k + mark)) + r) (rest_len (d ∷ ds) (drop (n + (mark + (k + mark))) t)) ≡ option_map (λ r. n + mark + r) (option_map (λ r. k + (length (take mark (drop n t)) + r)) (rest_len (d ∷ ds) (drop (k + length (take mark (drop n t))) (drop (n + mark) t))))
      same k size =
          let l = length (take mark (drop n t)) in
          let place : n + (mark + (k + mark)) ≡ n + mark + (k + l) = omega arith in
          ap (λ m. option_map (λ r. n + (mark + (k + mark)) + r) (rest_len (d ∷ ds) (drop m t))) place
          ∙ ap (λ v. option_map (λ r. n + (mark + (k + mark)) + r) (rest_len (d ∷ ds) v)) (sym (drop-drop (k + l) (n + mark) t))
          ∙ map-same (λ r. n + (mark + (k + mark)) + r) (λ r. n + mark + (k + (l + r))) (rest_len (d ∷ ds) (drop (k + l) (drop (n + mark) t))) (λ r. omega arith)
          ∙ sym (map-map (λ r. n + mark + r) (λ r. k + (l + r)) (rest_len (d ∷ ds) (drop (k + l) (drop (n + mark) t))))

  no_mark : (n : ℕ) (t : List ℕ) → written_len pairs (drop n t) ≡ None → (F : ℕ → Option ℕ) → option_and_then F (option_map (λ k. n + k) (quoted_len pairs (content_len pairs) (drop n t))) ≡ None
  unfolding quoted_len
  no_mark n t is F = ap (λ o. option_and_then F (option_map (λ k. n + k) (option_and_then (λ mark. option_map (λ k. mark + (k + mark)) (content_len pairs (take mark (drop n t)) (drop mark (drop n t)))) o))) is

  rest_len-extent : (d : List ℕ) (ds : List (List ℕ)) (t : List ℕ) (o : Option Extent) → option_and_then (λ e. option_map (λ r. e + r) (rest_len (d ∷ ds) (drop e t))) (option_and_then (extent_len pairs (content_len pairs) t) o) ≡ option_and_then (after_step d ds t) (option_and_then (step_over pairs t) o)
  unfolding extent_len
  rest_len-extent d ds t (Some (QuotedFrom n)) = go (written_len pairs (drop n t)) refl
    where
      go : (o : Option ℕ) → written_len pairs (drop n t) ≡ o → option_and_then (λ e. option_map (λ r. e + r) (rest_len (d ∷ ds) (drop e t))) (option_map (λ k. n + k) (quoted_len pairs (content_len pairs) (drop n t))) ≡ option_and_then (after_step d ds t) (option_map (λ mark. Opens n mark) o)
      go None is = no_mark n t is (λ e. option_map (λ r. e + r) (rest_len (d ∷ ds) (drop e t)))
      go (Some mark) is =
          rest_len-opens d ds t n mark is
          ∙ ap (λ m. option_map (λ r. n + mark + r) (rest_len (take (unwrap_or m 0) (drop n t) ∷ d ∷ ds) (drop (n + mark) t))) (sym is)
  rest_len-extent d ds t _ = refl

  -- what is left where k bytes are before the delimiter
  abbrev left_of : List ℕ → List (List ℕ) → List ℕ → ℕ → Option ℕ
  left_of d ds t k = option_map (λ r. k + (length d + r)) (rest_len ds (drop (k + length d) t))

  step-escape : (d : List ℕ) (ds : List (List ℕ)) (t : List ℕ) → option_and_then (left_of d ds t) (option_and_then (λ n. option_map (λ k. n + k) (content_len pairs d (drop n t))) (escape_len_by pairs (content_len pairs) t)) ≡ option_and_then (after_step d ds t) (option_and_then (step_over pairs t) (extent_of pairs t))
  unfolding escape_len_by
  step-escape d ds t = rest_len-escape d ds t (escape_len_by pairs (content_len pairs) t) ∙ rest_len-extent d ds t (extent_of pairs t)

  step-closes : (d : List ℕ) (ds : List (List ℕ)) (t : List ℕ) → left_of d ds t 0 ≡ option_map (λ r. length d + r) (rest_len ds (drop (length d) t))
  step-closes d ds t =
      map-same (λ r. 0 + (length d + r)) (λ r. length d + r) (rest_len ds (drop (0 + length d) t)) (λ r. omega arith)
      ∙ ap (λ n. option_map (λ r. length d + r) (rest_len ds (drop n t))) (zero-add (length d))

  -- the rest is a step, and what is left after it
  pub rest_len-step : (d : List ℕ) (ds : List (List ℕ)) (t : List ℕ) → rest_len (d ∷ ds) t ≡ option_and_then (after_step d ds t) (step_of pairs d t)
  rest_len-step d ds t = rest_len-cons d ds t ∙ ap (option_and_then (left_of d ds t)) (content_len-next pairs d t) ∙ go t
    where
      go : (t : List ℕ) → option_and_then (left_of d ds t) (next_content pairs (content_len pairs) d t) ≡ option_and_then (after_step d ds t) (step_of pairs d t)
      go [] = refl
      go (b ∷ bs) =
          let t = b ∷ bs in
          cond_sides (eqb b 0x5C) (option_and_then (left_of d ds t)) (option_and_then (after_step d ds t)) _ _ _ _ (step-escape d ds t)
          (cond_sides (starts_with nat_eq t d) (option_and_then (left_of d ds t)) (option_and_then (after_step d ds t)) _ _ _ _ (step-closes d ds t) (rest_len-passes d ds t 1))

  -- ---- the whole argument, seen from a place in it

  -- its bytes, where the open arguments have these delimiters, from the innermost on
  unfoldable pub total_len : List (List ℕ) → List ℕ → ℕ → Option ℕ
  total_len ds t at = option_map (λ r. at + r) (rest_len ds (drop at t))

  pub quoted_len-none : (t : List ℕ) → written_len pairs t ≡ None → quoted_len pairs (content_len pairs) t ≡ None
  unfolding quoted_len
  quoted_len-none t is = ap (option_and_then (λ mark. option_map (λ k. mark + (k + mark)) (content_len pairs (take mark t) (drop mark t)))) is

  pub quoted_len-some : (t : List ℕ) (mark : ℕ) → written_len pairs t ≡ Some mark → quoted_len pairs (content_len pairs) t ≡ total_len (take mark t ∷ []) t mark
  unfolding quoted_len rest_len total_len
  quoted_len-some t mark is =
      let fits = written_len-fits pairs t mark is in
      let size : length (take mark t) ≡ mark = length-take-le mark t fits.1 in
      ap (option_and_then (λ mark. option_map (λ k. mark + (k + mark)) (content_len pairs (take mark t) (drop mark t)))) is
      ∙ go size (content_len pairs (take mark t) (drop mark t))
    where
      go : length (take mark t) ≡ mark → (o : Option ℕ) → option_map (λ k. mark + (k + mark)) o ≡ option_map (λ r. mark + r) (option_and_then (λ k. Some (k + (length (take mark t) + 0))) o)
      go size None = refl
      go size (Some k) = let same : mark + (k + mark) ≡ mark + (k + (length (take mark t) + 0)) = omega arith in ap Some same

  total_len-step : (d : List ℕ) (ds : List (List ℕ)) (t : List ℕ) (at : ℕ) (s : Option Step) → step_of pairs d (drop at t) ≡ s → total_len (d ∷ ds) t at ≡ option_map (λ r. at + r) (option_and_then (after_step d ds (drop at t)) s)
  unfolding total_len
  total_len-step d ds t at s is =
      ap (option_map (λ r. at + r)) (rest_len-step d ds (drop at t) ∙ ap (option_and_then (after_step d ds (drop at t))) is)

  -- n bytes further on
  total_len-further : (ds : List (List ℕ)) (t : List ℕ) (at n : ℕ) → option_map (λ r. at + r) (option_map (λ r. n + r) (rest_len ds (drop n (drop at t)))) ≡ total_len ds t (at + n)
  unfolding total_len
  total_len-further ds t at n =
      map-map (λ r. at + r) (λ r. n + r) (rest_len ds (drop n (drop at t)))
      ∙ map-same (λ r. at + (n + r)) (λ r. at + n + r) (rest_len ds (drop n (drop at t))) (λ r. omega arith)
      ∙ ap (λ u. option_map (λ r. at + n + r) (rest_len ds u)) (drop-drop n at t)

  pub total_len-passes : (d : List ℕ) (ds : List (List ℕ)) (t : List ℕ) (at n : ℕ) → step_of pairs d (drop at t) ≡ Some (Passes n) → total_len (d ∷ ds) t at ≡ total_len (d ∷ ds) t (at + n)
  total_len-passes d ds t at n is = total_len-step d ds t at _ is ∙ total_len-further (d ∷ ds) t at n

  -- as many bytes further on as begin neither an escape nor the delimiter
  pub total_len-inner : (d : List ℕ) (ds : List (List ℕ)) (t : List ℕ) (at : ℕ) → 0 < length d
      → total_len (d ∷ ds) t at ≡ total_len (d ∷ ds) t (at + prefix_len (is_inner (get_or d 0 0)) (drop at t))
  total_len-inner d ds t at some = go (drop at t) at refl
    where
      passes : (d : List ℕ) → 0 < length d → (b : ℕ) (bs : List ℕ) → is_inner (get_or d 0 0) b ≡ true → step_of pairs d (b ∷ bs) ≡ Some (Passes 1)
      passes [] some b bs inner = absurd (omega arith)
      passes (x ∷ xs) some b bs inner =
          let parts = and_parts (not (eqb b 0x5C)) (not (eqb b x)) inner in
          let other : eqb x b ≡ false = grind (arith, nat_tests, not-true (eqb b x) parts.1) in
          rw (not-true (eqb b 0x5C) parts.0, other) refl

      go : (u : List ℕ) (at : ℕ) → drop at t ≡ u → total_len (d ∷ ds) t at ≡ total_len (d ∷ ds) t (at + prefix_len (is_inner (get_or d 0 0)) u)
      go [] at e = ap (total_len (d ∷ ds) t) (omega arith)
      go (b ∷ bs) at e =
          elim (cases_Bool (is_inner (get_or d 0 0) b)) [
            | inl inner ↦
                rw inner (total_len-passes d ds t at 1 (ap (step_of pairs d) e ∙ passes d some b bs inner)
                ∙ go bs (at + 1) (sym (drop-drop 1 at t) ∙ ap (drop 1) e)
                ∙ ap (total_len (d ∷ ds) t) (omega arith))
            | inr other ↦ rw other (ap (total_len (d ∷ ds) t) (omega arith))
          ]

  pub total_len-closes : (d : List ℕ) (ds : List (List ℕ)) (t : List ℕ) (at n : ℕ) → step_of pairs d (drop at t) ≡ Some (Closes n) → total_len (d ∷ ds) t at ≡ total_len ds t (at + n)
  total_len-closes d ds t at n is = total_len-step d ds t at _ is ∙ total_len-further ds t at n

  pub total_len-opens : (d : List ℕ) (ds : List (List ℕ)) (t : List ℕ) (at n mark : ℕ) → step_of pairs d (drop at t) ≡ Some (Opens n mark) → total_len (d ∷ ds) t at ≡ total_len (first_character pairs (drop (at + n) t) ∷ d ∷ ds) t (at + (n + mark))
  total_len-opens d ds t at n mark is =
      total_len-step d ds t at _ is ∙ total_len-further (first_character pairs (drop n (drop at t)) ∷ d ∷ ds) t at (n + mark)
      ∙ ap (λ u. total_len (first_character pairs u ∷ d ∷ ds) t (at + (n + mark))) (drop-drop n at t)

  pub total_len-stops : (d : List ℕ) (ds : List (List ℕ)) (t : List ℕ) (at : ℕ) → step_of pairs d (drop at t) ≡ None → total_len (d ∷ ds) t at ≡ None
  total_len-stops d ds t at is = total_len-step d ds t at _ is

  pub total_len-end : (t : List ℕ) (at : ℕ) → total_len [] t at ≡ Some at
  unfolding total_len rest_len
  total_len-end t at = ap Some (add-zero at)

  -- ---- the delimiters of the open arguments, whose places are given from the outermost on

  unfoldable pub delimiters : List ℕ → List ℕ → List (List ℕ)
  delimiters t places = map (λ p. first_character pairs (drop p t)) (reverse places)

  pub delimiters-push : (t places : List ℕ) (p : ℕ) → delimiters t (places ++ p ∷ []) ≡ first_character pairs (drop p t) ∷ delimiters t places
  unfolding delimiters
  delimiters-push t places p = ap (map (λ p. first_character pairs (drop p t))) (reverse-append places (p ∷ []))

  pub delimiters-last : (t places : List ℕ) (p : ℕ) → slice_get places (length places - 1) ≡ Some p → delimiters t places ≡ first_character pairs (drop p t) ∷ delimiters t (take (length places - 1) places)
  delimiters-last t places p is =
      let n = length places - 1 in
      let within = slice_get_within places n p is in
      let last = get_or_from_slice_get places n p 0 is in
      let all = take-append-drop n places in
      let tail = drop_more places n 0 within in
      let past : drop (n + 1) places ≡ [] = drop_of_length-le places (omega arith) in
      let split : places ≡ take n places ++ p ∷ [] = sym all ∙ ap (λ u. take n places ++ u) (tail ∙ ap₂ (λ x u. x ∷ u) last past) in
      ap (delimiters t) split ∙ delimiters-push t (take n places) p

  pub step_of-slice_from : (d t : List ℕ) (at : ℕ) (o : Option Step) → o ≡ step_of pairs d (take (length t - at) (drop at t)) → step_of pairs d (drop at t) ≡ o
  step_of-slice_from d t at o is = ap (step_of pairs d) (sym (slice_from t at)) ∙ sym is

  -- the delimiter that is looked for is that of the last place
  pub delimiters-open : (t places items d : List ℕ) (p : ℕ) → items ≡ places → Some p ≡ slice_get items (length items - 1) → d ≡ first_character pairs (take (length t - p) (drop p t)) → delimiters t places ≡ d ∷ delimiters t (take (length places - 1) places)
  delimiters-open t places items d p same last is =
      let there : slice_get places (length places - 1) ≡ Some p = ap (λ l. slice_get l (length l - 1)) (sym same) ∙ sym last in
      delimiters-last t places p there
      ∙ ap (λ e. e ∷ delimiters t (take (length places - 1) places)) (ap (first_character pairs) (sym (slice_from t p)) ∙ sym is)

  pub delimiters-first : (t : List ℕ) (mark : ℕ) → written_len pairs t ≡ Some mark → delimiters t (0 ∷ []) ≡ take mark t ∷ []
  unfolding delimiters
  delimiters-first t mark is = ap (λ o. take (unwrap_or o 0) t ∷ []) is

  -- where there is no last place none is open
  pub delimiters-none : (t places items : List ℕ) → items ≡ places → None ≡ slice_get items (length items - 1) → delimiters t places ≡ []
  unfolding delimiters
  delimiters-none t places items same last = go places (ap (λ l. slice_get l (length l - 1)) (sym same) ∙ sym last)
    where
      go : (places : List ℕ) → slice_get places (length places - 1) ≡ None → map (λ p. first_character pairs (drop p t)) (reverse places) ≡ []
      go [] none = refl
      go (p ∷ ps) none =
          let there : slice_get (p ∷ ps) (length (p ∷ ps) - 1) ≡ Some (get_or (p ∷ ps) (length (p ∷ ps) - 1) 0) = slice_get-get_or (p ∷ ps) (length (p ∷ ps) - 1) 0 (omega arith) in
          absurd (Some-None (sym there ∙ none))

-- ---- A few hexadecimal digits spell a number that fits 32 bits.

hex_value-le : (b : ℕ) → hex_value b ≤ b
hex_value-le b = cond_both (is_digit b) (b - 0x30) (b - 0x37) (λ v. v ≤ b) (λ _. omega arith) (λ _. omega arith)

pub hex_number-bound : (ds : List ℕ) → length ds ≤ 5 → ((i : ℕ) → get_or ds i 0 < 256) → hex_number ds * 16 + 255 < 4294967296
hex_number-bound [] few bytes = omega arith
hex_number-bound (a ∷ []) few bytes = omega (arith, hex_value-le a, bytes 0)
hex_number-bound (a ∷ b ∷ []) few bytes = omega (arith, hex_value-le a, hex_value-le b, bytes 0, bytes 1)
hex_number-bound (a ∷ b ∷ c ∷ []) few bytes = omega (arith, hex_value-le a, hex_value-le b, hex_value-le c, bytes 0, bytes 1, bytes 2)
hex_number-bound (a ∷ b ∷ c ∷ d ∷ []) few bytes =
    omega (arith, hex_value-le a, hex_value-le b, hex_value-le c, hex_value-le d, bytes 0, bytes 1, bytes 2, bytes 3)
hex_number-bound (a ∷ b ∷ c ∷ d ∷ e ∷ []) few bytes =
    omega (arith, hex_value-le a, hex_value-le b, hex_value-le c, hex_value-le d, hex_value-le e, bytes 0, bytes 1, bytes 2, bytes 3, bytes 4)
hex_number-bound (a ∷ b ∷ c ∷ d ∷ e ∷ f ∷ ds) few bytes = absurd (omega arith)

-- a digit more than i of them still fits
pub hex_number-take : (ds : List ℕ) (i : ℕ) → i < length ds → length ds ≤ 6 → ((k : ℕ) → get_or ds k 0 < 256) → hex_number (take i ds) * 16 + 255 < 4294967296
hex_number-take ds i lt few bytes =
    hex_number-bound (take i ds) (omega (arith, length-take i ds)) (λ k.
    elim (cases_lt k i) [
      | inl before ↦ let same = get_or-take i ds k 0 before in omega (arith, bytes k)
      | inr after ↦ let none = get_or_past (take i ds) k 0 (omega (arith, length-take i ds)) in omega arith
    ])

-- ---- The meaning of an escape that is given as a text of its own.

pub meaning_of-short : (pairs : Bool) (t : List ℕ) → length t < 2 → nothing ≡ meaning_of pairs t
unfolding meaning_of
meaning_of-short pairs (b ∷ key ∷ written) short = absurd (omega arith)
meaning_of-short pairs _ short = refl

pub meaning_of-parts : (pairs : Bool) (t : List ℕ) → 2 ≤ length t → letter_meaning pairs (letter_of (get_or t 1 0)) (drop 1 t) ≡ meaning_of pairs t
unfolding meaning_of
meaning_of-parts pairs (b ∷ key ∷ written) long = refl
meaning_of-parts pairs _ long = absurd (omega arith)

-- ---- a text's first character

pub first_char-text : (t : List ℕ) → IsUtf8 t → first_char t ≡ slice_index (chars t) 0
unfolding first_char
first_char-text t u = rw (is_utf8-from_IsUtf8 t u) refl

pub first_char-none : (t : List ℕ) → ¬ IsUtf8 t → first_char t ≡ 0xFFFD
unfolding first_char
first_char-none t u = elim (cases_Bool (is_utf8 t)) [ inl e ↦ absurd (u (IsUtf8-from_is_utf8 t e)) | inr f ↦ rw f refl ]

-- ---- The characters of a text in UTF-8, and where the text may be cut.

-- ---- the first byte of a character

-- what a character's first byte says: how many follow, and that it begins a character
pub record BeginsWith (c : ℕ) : Type 0 where
  pub lead : ℕ
  pub others : List ℕ
  pub is : encode c ≡ lead ∷ others
  pub count : continuation_len lead ≡ length others
  pub starts : 128 ≤ lead → 192 ≤ lead

pub begins_with : (c : ℕ) → BeginsWith c
unfolding encode
begins_with c =
    elim (cases_lt c 128) [
      | inl ascii ↦ record { lead = c; others = []; is = cond-true _ _ _ (lt-ltb c 128 ascii); count = grind (arith, nat_tests, ascii); starts = λ h. absurd (omega arith) }
      | inr above ↦
          let past = cond-false _ _ _ (le-ltb c 128 above) in
          elim (cases_lt c 2048) [
            | inl below ↦ record { lead = 192 + c / 64; others = _; is = past ∙ cond-true _ _ _ (lt-ltb c 2048 below); count = grind (arith, nat_tests); starts = λ h. omega arith }
            | inr above ↦
                let past = past ∙ cond-false _ _ _ (le-ltb c 2048 above) in
                elim (cases_lt c 65536) [
                  | inl below ↦ record { lead = 224 + c / 4096; others = _; is = past ∙ cond-true _ _ _ (lt-ltb c 65536 below); count = grind (arith, nat_tests); starts = λ h. omega arith }
                  | inr above ↦ record { lead = 240 + c / 262144; others = _; is = past ∙ cond-false _ _ _ (le-ltb c 65536 above); count = grind (arith, nat_tests); starts = λ h. omega arith }
                ]
          ]
    ]

-- ---- a text and its first character

pub record FirstCharacter (t : List ℕ) : Type 0 where
  pub code : ℕ
  pub rest : List ℕ
  pub scalar : IsScalar code
  pub is : t ≡ encode code ++ rest
  pub utf8 : IsUtf8 rest

pub first_of : (t : List ℕ) → IsUtf8 t → 0 < length t → FirstCharacter t
first_of t (cs, (all, e)) some = go cs all e
  where
    go : (cs : List ℕ) → scalars cs ≡ true → encodes cs ≡ t → FirstCharacter t
    go [] all e = let none = ap length e in absurd (omega arith)
    go (c ∷ cs) all e =
        let parts = and_parts (scalar c) (scalars cs) all in
        record { code = c; rest = encodes cs; scalar = parts.0; is = sym e; utf8 = (cs, (parts.1, refl)) }

-- its length is what its first byte says
pub character_len-encode : (c : ℕ) (rest : List ℕ) → character_len (encode c ++ rest) ≡ Some (length (encode c))
character_len-encode c rest =
    let b = begins_with c in
    let size : length (encode c) ≡ suc (length b.others) = ap length b.is in
    ap (λ l. character_len (l ++ rest)) b.is
    ∙ cond-true _ _ _ (le-leb (continuation_len b.lead) (length (b.others ++ rest)) (omega (arith, length-append b.others rest, b.count)))
    ∙ ap Some (ap (λ n. n + 1) b.count ∙ add-one (length b.others) ∙ sym size)

-- a text without its first character
pub record CutsAt (t : List ℕ) (n : ℕ) : Type 0 where
  pub within : n ≤ length t
  pub utf8 : IsUtf8 (drop n t)

pub CutsAt-boundary : {t : List ℕ} {n : ℕ} → CutsAt t n → IsCharBoundary t n
CutsAt-boundary {t} {n} cut = IsCharBoundary-from_drop t n cut.within cut.utf8

pub CutsAt-add : {t : List ℕ} {n m : ℕ} → CutsAt t n → CutsAt (drop n t) m → CutsAt t (n + m)
CutsAt-add {t} {n} {m} first second = record {
  within = let below = first.within in let more = second.within in omega (arith, length-drop n t);
  utf8 = subst (λ u. IsUtf8 u) (drop-drop m n t) second.utf8;
}

pub CutsAt-ascii : (b : ℕ) (bs : List ℕ) → IsUtf8 (b ∷ bs) → b < 128 → IsUtf8 bs
CutsAt-ascii b bs utf8 ascii = IsUtf8-drop (b ∷ bs) 1 utf8 (IsCharBoundary-after_ascii (b ∷ bs) 0 utf8 (omega arith) ascii)

-- what is known of a text whose first character takes m bytes
pub record Taken (t : List ℕ) (m : ℕ) : Type 0 where
  pub first : FirstCharacter t
  pub len : length (encode first.code) ≡ m
  pub cut : CutsAt t m
  pub bytes : take m t ≡ encode first.code

pub character_len-taken : (t : List ℕ) (m : ℕ) → IsUtf8 t → character_len t ≡ Some m → Taken t m
character_len-taken [] m utf8 e = cc
character_len-taken (b ∷ bs) m utf8 e =
    let t = b ∷ bs in
    let first = first_of t utf8 (omega arith) in
    let same : Some (length (encode first.code)) ≡ Some m = sym (character_len-encode first.code first.rest) ∙ ap character_len (sym first.is) ∙ e in
    let len : length (encode first.code) ≡ m = cc in
    record {
      first = first;
      len = len;
      cut = record {
        within = let all = ap length first.is in omega (arith, length-append (encode first.code) first.rest);
        utf8 = subst (λ u. IsUtf8 u) (sym (ap (drop m) first.is ∙ drop_at (encode first.code) first.rest m len)) first.utf8;
      };
      bytes = ap (take m) first.is ∙ take_at (encode first.code) first.rest m len;
    }

-- ---- The tokens of a text, one by one.

-- more tokens than bytes make no difference
tokens_enough : (quoted : Bool) (n m : ℕ) (text : List ℕ) → length text ≤ n → length text ≤ m → tokens_within quoted n text ≡ tokens_within quoted m text
tokens_enough quoted zero (suc m) (b ∷ bs) p q = absurd (omega arith)
tokens_enough quoted (suc n) zero (b ∷ bs) p q = absurd (omega arith)
tokens_enough quoted (suc n) (suc m) (b ∷ bs) p q =
    let rest = drop (token_len quoted (b ∷ bs) - 1) bs in
    let e = length-drop (token_len quoted (b ∷ bs) - 1) bs in
    ap (λ l. token_at quoted (b ∷ bs) ∷ l) (tokens_enough quoted n m rest (omega (arith, e)) (omega (arith, e)))
tokens_enough quoted _ _ _ p q = refl

past_first : (n b : ℕ) (bs : List ℕ) → 0 < n → drop (n - 1) bs ≡ drop n (b ∷ bs)
past_first zero b bs h = absurd (omega arith)
past_first (suc n) b bs h = let e : suc n - 1 ≡ n = omega arith in ap (λ k. drop k bs) e

no_token : (quoted : Bool) (n : ℕ) → 0 < n → n ≡ token_len quoted [] → ⊥
unfolding token_at
no_token false n h e = let z : n ≡ 0 = e in omega arith
no_token true n h e = let z : n ≡ 0 = e in omega arith

-- the first token, and those of the rest
pub tokens_more : (quoted : Bool) (text : List ℕ) (n : ℕ) → 0 < n → n ≡ token_len quoted text → tokens_of quoted text ≡ token_at quoted text ∷ tokens_of quoted (drop n text)
unfolding tokens_of
tokens_more quoted [] n h e = absurd (no_token quoted n h e)
tokens_more quoted (b ∷ bs) n h e =
    let cut : drop (token_len quoted (b ∷ bs) - 1) bs ≡ drop n (b ∷ bs) = rw (← e) (past_first n b bs h) in
    let l = length-drop (token_len quoted (b ∷ bs) - 1) bs in
    ap (λ l. token_at quoted (b ∷ bs) ∷ l)
    (tokens_enough quoted (length bs) (length (drop (token_len quoted (b ∷ bs) - 1) bs)) (drop (token_len quoted (b ∷ bs) - 1) bs) (omega (arith, l)) (omega arith)
    ∙ ap (tokens_of quoted) cut)

pub tokens_none : (quoted : Bool) (text : List ℕ) → length text ≤ 0 → tokens_of quoted text ≡ []
unfolding tokens_of
tokens_none quoted [] h = refl
tokens_none quoted (b ∷ bs) h = absurd (omega arith)

either_within : (test : Bool) (s t : TextToken) (n : ℕ) → length (token_bytes s) ≤ n → length (token_bytes t) ≤ n
    → length (token_bytes (if test then s else t)) ≤ n
either_within true s t n h k = h
either_within false s t n h k = k

front_within : (n : ℕ) (text : List ℕ) → length (take n text) ≤ length text
front_within n text = omega (arith, length-take n text)

token_within : (quoted : Bool) (text : List ℕ) → token_len quoted text ≤ length text
unfolding token_at
token_within quoted text =
    either_within (begins_white text) _ _ (length text) (front_within (prefix_len is_white text) text)
    (either_within (begins_escape text) _ _ (length text) (front_within (escape_of quoted text).1 text)
    (either_within (quoted && begins_quote text) _ _ (length text) (front_within 2 text)
    (front_within (prefix_len (prints_itself quoted) text) text)))

some_within : (quoted : Bool) (n : ℕ) (text : List ℕ) → tokens_len (tokens_within quoted n text) ≤ length text
some_within quoted (suc n) (b ∷ bs) =
    let cut = token_len quoted (b ∷ bs) - 1 in
    omega (arith, token_within quoted (b ∷ bs), some_within quoted n (drop cut bs), length-drop cut bs)
some_within quoted _ _ = omega arith

-- the tokens of a text have no more bytes than it
pub len_within : (quoted : Bool) (text : List ℕ) → tokens_len (tokens_of quoted text) ≤ length text
unfolding tokens_of
len_within quoted text = some_within quoted (length text) text

pub word_some : (text : List ℕ) → begins_word text ≡ true → 0 < length text
word_some [] h = grind (arith, h)
word_some (b ∷ bs) h = omega arith

pub word_token : (quoted : Bool) (b : ℕ) (bs : List ℕ) → is_white b ≡ false → is_space (token_at quoted (b ∷ bs)) ≡ false
unfolding token_at
word_token quoted b bs t = grind (arith, nat_tests)

pub space_token : (quoted : Bool) (b : ℕ) (bs : List ℕ) → is_white b ≡ true → is_space (token_at quoted (b ∷ bs)) ≡ true
unfolding token_at
space_token quoted b bs t = rw t refl

pub not_white : (b : ℕ) (bs : List ℕ) → begins_word (b ∷ bs) ≡ true → is_white b ≡ false
not_white b bs h = grind (arith, nat_tests, h)

pub white_first : (b : ℕ) (bs : List ℕ) → begins_word (b ∷ bs) ≡ false → is_white b ≡ true
white_first b bs h = grind (arith, nat_tests, h)

-- ---- Where a run of bytes that print themselves ends, by the first vector of a text.

-- what is computed of each lane, and whether its top bit says that the byte ends a run
abbrev pub stop_lane : ℕ → ℕ → ℕ
stop_lane quote x = bit_or (bit_or (cond (eqb x 32) 255 0) (cond (eqb x 9) 255 0)) (bit_or (cond (eqb x 92) 255 0) (cond (eqb x quote) 255 0))

abbrev pub is_stop : Bool → ℕ → Bool
is_stop quoted byte = not (prints_itself quoted byte)

lanes_tell : (quoted : Bool) (quote : ℕ) → quote ≡ (if quoted then 34 else 32) → agree_below (λ x. top 7 (stop_lane quote x)) (is_stop quoted) 256 ≡ true
lanes_tell true quote e = rw e refl
lanes_tell false quote e = rw e refl

module _ (quoted : Bool) (quote : ℕ) (e : quote ≡ (if quoted then 34 else 32)) where
  each_lane : (v : List ℕ) → Each1 (Fits w8) v → map (top 7) (map (stop_lane quote) v) ≡ map (is_stop quoted) v
  each_lane [] fits = refl
  each_lane (x ∷ xs) fits =
      ap₂ (λ a b. a ∷ b) (agree_below_at (λ y. top 7 (stop_lane quote y)) (is_stop quoted) 256 x (lanes_tell quoted quote e) fits.0.fits) (each_lane xs fits.1)

  pub stops_mask : (v z : List ℕ) → length v ≤ 64 → Each1 (Fits w8) v → z ≡ map (stop_lane quote) v → mask_l (map (top 7) z) % 2 ^ 64 ≡ mask_l (map (is_stop quoted) v)
  stops_mask v z short fits is =
      ap (λ l. mask_l l % 2 ^ 64) (ap (map (top 7)) is ∙ each_lane v fits) ∙ mask_l-mod (map (is_stop quoted) v) 64 (omega (arith, length-map v (is_stop quoted)))

none_fails : (b : Bool) (n l m : ℕ) → n ≤ l → cond (not b) (1 + n) 0 ≡ 1 + l → (n ≡ l → m ≡ 0) → cond b 1 0 + 2 * m ≡ 0
none_fails true n l m le e ih = let no : ⊥ = omega arith in absurd no
none_fails false n l m le e ih = let z = ih (omega arith) in omega arith

not-not : (b : Bool) → b ≡ not (not b)
not-not true = refl
not-not false = refl

module _ (q : ℕ → Bool) where
  same_run : (xs : List ℕ) → prefix_len q xs ≡ prefix_len (λ x. not (not (q x))) xs
  same_run [] = refl
  same_run (x ∷ xs) = ap₂ (λ b n. cond b (1 + n) 0) (not-not (q x)) (same_run xs)

  all_pass : (xs : List ℕ) → prefix_len (λ x. not (not (q x))) xs ≡ length xs → mask_l (map (λ x. not (q x)) xs) ≡ 0
  all_pass [] e = refl
  all_pass (x ∷ xs) e = none_fails (not (q x)) _ (length xs) _ (prefix_len-le-length (λ y. not (not (q y))) xs) (omega arith) (all_pass xs)

  -- a run that ends in the first vector
  pub first_stop : (text : List ℕ) (n : ℕ) → n ≤ length text → n ≤ 64 → 0 < mask_l (map (λ x. not (q x)) (chunk 0 n text))
      → prefix_len q text ≡ count_trailing_zeros 64 (mask_l (map (λ x. not (q x)) (chunk 0 n text)))
  first_stop text n room short some =
      let c = chunk 0 n text in
      ap (prefix_len q) (chunk-drop 0 n text) ∙ prefix_len-append q c (drop (0 + n) text)
      ∙ ap (λ b. cond b (length c + prefix_len q (drop (0 + n) text)) (prefix_len q c)) (ne_eqb _ _ (λ (e : prefix_len q c ≡ length c). omega (arith, all_pass c (sym (same_run c) ∙ e))))
      ∙ same_run c ∙ sym (trailing_mask_l (λ x. not (q x)) 64 c (omega (arith, length-chunk 0 n text (omega arith))) some)
