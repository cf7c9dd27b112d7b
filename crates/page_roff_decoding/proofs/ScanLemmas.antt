-- Bytes that all pass a test, and where a vector of them first fails it.
use Rattle.std.proofs.Common.{◌≡◌, ℕ, zero, suc, ◌+◌, ◌-◌, ◌*◌, ◌%◌, ◌^◌, ◌<◌, ◌≤◌, Bool, true, false, not, cond, eqb, List, [], ◌∷◌, ◌++◌, map, length, take, drop, Fits, w8, refl, sym, ap, ap₂, ◌∙◌, arith, get_or, append_assoc, append-nil, length-append}
use Rattle.std.specs.Prelude.{◌&&◌, nat_le, nat_lt, ◌==◌, ◌≢◌}
use Rattle.std.specs.List.{prefix_len, list_all}
use Rattle.std.proofs.lemmas.Simd.{chunk-drop, length-chunk, leading_from_mask_l, trailing_mask_l, mask_l-mod}
use Rattle.std.proofs.lemmas.List.{length-drop, length-map, take_all, drop-drop, drop_more, drop_all}
use Rattle.std.proofs.lemmas.List.Folds.{prefix_len-append, list_all-append}
use Rattle.std.proofs.lemmas.List.Sums.{prefix_len-le-length}
use Rattle.std.proofs.lemmas.Bool.{eq-eqb, ne_eqb, agree_below, agree_below_at}
use lib.Lanes.{chunk, mask_l, top, Each1}
use lib.Count.{count_trailing_zeros}
use Rattle.page_roff_decoding.specs.Decoding.{is_printable, Character, character, later_length, characters_after, characters, bytes_of, all_bytes, line_limit, characters_within, sequence_length, choice_of}
use Rattle.page_roff_decoding.specs.machine.Fronts.{is_text, as_character, width_of, later_of}
use Rattle.std.proofs.lemmas.Bool.Decides.{nat_tests}
use Rattle.page_core_base.specs.declared.page_settings.Encoding.{Encoding}
use Rattle.page_roff_decoding.specs.declared.characters.Front.{Front}
use Rattle.page_core_base.specs.declared.page_settings.Encoding.TheVariants.{Auto, Latin1, Utf8}

pub and_true : (a b : Bool) → (a && b) ≡ true → (a ≡ true) × (b ≡ true)
and_true true b h = (refl, h)
and_true false b h = cc

-- what all of a list passes, a front of it passes
pub all-take : (p : ℕ → Bool) (n : ℕ) (xs : List ℕ) → list_all p xs ≡ true → list_all p (take n xs) ≡ true
all-take p zero xs h = refl
all-take p (suc n) [] h = refl
all-take p (suc n) (x ∷ xs) h = let both = and_true (p x) (list_all p xs) h in rw both.0 (all-take p n xs both.1)

pub all-append : (p : ℕ → Bool) (xs ys : List ℕ) → list_all p xs ≡ true → list_all p ys ≡ true → list_all p (xs ++ ys) ≡ true
all-append p xs ys h g = rw (list_all-append p xs ys, h, g) refl

-- the front of a list, no longer than where it first fails a test
front-step : (b : Bool) (q : ℕ → Bool) (x : ℕ) (xs : List ℕ) (n m : ℕ) → (b ≡ true → q x ≡ true) → suc n ≤ cond b (1 + m) 0
    → (n ≤ m → list_all q (take n xs) ≡ true) → list_all q (take (suc n) (x ∷ xs)) ≡ true
front-step true q x xs n m w h g = rw (w refl) (g (omega arith))
front-step false q x xs n m w h g = absurd (omega arith)

pub all-front : (p q : ℕ → Bool) → ((x : ℕ) → p x ≡ true → q x ≡ true) → (xs : List ℕ) (n : ℕ) → n ≤ prefix_len p xs → list_all q (take n xs) ≡ true
all-front p q w xs zero h = refl
all-front p q w [] (suc n) h = refl
all-front p q w (x ∷ xs) (suc n) h = front-step (p x) q x xs n (prefix_len p xs) (w x) h (all-front p q w xs n)

pub text-printable : (xs : List ℕ) (n : ℕ) → n ≤ prefix_len is_text xs → list_all is_printable (take n xs) ≡ true
text-printable = all-front is_text is_printable (λ x h. (and_true (is_printable x) _ h).0)

-- a test of lanes, read from the top bits of what was computed lane by lane
each_byte : (f : ℕ → ℕ) (p : ℕ → Bool) → agree_below (λ x. top 7 (f x)) p 256 ≡ true → (v : List ℕ) → Each1 (Fits w8) v → map (top 7) (map f v) ≡ map p v
each_byte f p all [] fits = refl
each_byte f p all (x ∷ xs) fits = ap₂ (λ a b. a ∷ b) (agree_below_at (λ y. top 7 (f y)) p 256 x all fits.0.fits) (each_byte f p all xs fits.1)

pub masked : (f : ℕ → ℕ) (p : ℕ → Bool) (v z : List ℕ) → length v ≤ 64 → Each1 (Fits w8) v → z ≡ map f v → agree_below (λ x. top 7 (f x)) p 256 ≡ true
    → mask_l (map (top 7) z) % 2 ^ 64 ≡ mask_l (map p v)
masked f p v z short fits e all =
    ap (λ l. mask_l l % 2 ^ 64) (ap (map (top 7)) e ∙ each_byte f p all v fits) ∙ mask_l-mod (map p v) 64 (omega (arith, length-map v p))

-- what is left of a chunk from a point on, as a program writes it
pub rest_of : (xs : List ℕ) (i : ℕ) → take (length xs - i) (drop i xs) ≡ drop i xs
rest_of xs i = take_all (length xs - i) (drop i xs) (omega (arith, length-drop i xs))

pub run_bound : (q : ℕ → Bool) (d : List ℕ) (i : ℕ) → i ≤ length d → i + prefix_len q (drop i d) ≤ length d
run_bound q d i h = omega (arith, prefix_len-le-length q (drop i d), length-drop i d)

pub not-not : (b : Bool) → b ≡ not (not b)
not-not true = refl
not-not false = refl

none_fails : (b : Bool) (n l m : ℕ) → n ≤ l → cond (not b) (1 + n) 0 ≡ 1 + l → (n ≡ l → m ≡ 0) → cond b 1 0 + 2 * m ≡ 0
none_fails true n l m le e ih = let no : ⊥ = omega arith in absurd no
none_fails false n l m le e ih = let z = ih (omega arith) in omega arith

-- a run of bytes that pass q, by the vectors in which none or some fail it
module _ (p q : ℕ → Bool) (opposite : (x : ℕ) → q x ≡ not (p x)) where
  same_run : (xs : List ℕ) → prefix_len q xs ≡ prefix_len (λ x. not (p x)) xs
  same_run [] = refl
  same_run (x ∷ xs) = ap₂ (λ b n. cond b (1 + n) 0) (opposite x) (same_run xs)

  all_pass : (xs : List ℕ) → prefix_len (λ x. not (p x)) xs ≡ length xs → mask_l (map p xs) ≡ 0
  all_pass [] e = refl
  all_pass (x ∷ xs) e = none_fails (p x) _ (length xs) _ (prefix_len-le-length (λ y. not (p y)) xs) (omega arith) (all_pass xs)

  split : (d : List ℕ) (i n : ℕ) → prefix_len q (drop i d) ≡ cond (eqb (prefix_len q (chunk i n d)) (length (chunk i n d))) (length (chunk i n d) + prefix_len q (drop (i + n) d)) (prefix_len q (chunk i n d))
  split d i n = ap (prefix_len q) (chunk-drop i n d) ∙ prefix_len-append q (chunk i n d) (drop (i + n) d)

  pub run_through : (d : List ℕ) (i n : ℕ) → i + n ≤ length d → mask_l (map p (chunk i n d)) ≡ 0 → prefix_len q (drop i d) ≡ n + prefix_len q (drop (i + n) d)
  run_through d i n room none =
      let c = chunk i n d in
      split d i n ∙ ap (λ b. cond b (length c + prefix_len q (drop (i + n) d)) (prefix_len q c)) (eq-eqb _ _ (same_run c ∙ leading_from_mask_l p c none))
      ∙ ap (λ k. k + prefix_len q (drop (i + n) d)) (length-chunk i n d room)

  pub run_stops : (d : List ℕ) (i n : ℕ) → i + n ≤ length d → n ≤ 64 → 0 < mask_l (map p (chunk i n d)) → prefix_len q (drop i d) ≡ count_trailing_zeros 64 (mask_l (map p (chunk i n d)))
  run_stops d i n room short some =
      let c = chunk i n d in
      split d i n ∙ ap (λ b. cond b (length c + prefix_len q (drop (i + n) d)) (prefix_len q c)) (ne_eqb _ _ (λ (e : prefix_len q c ≡ length c). omega (arith, all_pass c (sym (same_run c) ∙ e))))
      ∙ same_run c ∙ sym (trailing_mask_l p 64 c (omega (arith, length-chunk i n d room)) some)

-- ---- The characters of a text one by one.

-- the bytes of a character before are passed over
pub characters_after-drop : (e : Encoding) (n : ℕ) (bs : List ℕ) → characters_after e n bs ≡ characters e (drop n bs)
unfolding characters_after
characters_after-drop e zero bs = refl
characters_after-drop e (suc n) [] = refl
characters_after-drop e (suc n) (b ∷ bs) = characters_after-drop e n bs

-- the character at the front, and those after it
pub characters-front : (e : Encoding) (text : List ℕ) (f : Front) → 0 < length text → as_character f text ≡ character e (get_or text 0 0) text
    → later_of f ≡ later_length e (get_or text 0 0) text → 0 < width_of f → characters e text ≡ as_character f text ∷ characters e (drop (width_of f) text)
unfolding characters_after
characters-front e [] f some is later wide = absurd (omega arith)
characters-front e (b ∷ bs) f some is later wide =
    let one : width_of f ≡ suc (width_of f - 1) = omega arith in
    ap (λ n. character e b (b ∷ bs) ∷ n) (ap (λ n. characters_after e n bs) (sym later) ∙ characters_after-drop e (width_of f - 1) bs)
    ∙ ap (λ c. c ∷ characters e (drop (width_of f - 1) bs)) (sym is)
    ∙ ap (λ n. as_character f (b ∷ bs) ∷ characters e (drop n (b ∷ bs))) (sym one)

ltb-suc : (a b : ℕ) → nat_lt (suc a) (suc b) ≡ nat_lt a b
ltb-suc a b = grind (arith, nat_tests)

ltb-zero : (b : ℕ) → nat_lt zero (suc b) ≡ true
ltb-zero b = grind (arith, nat_tests)

-- of these characters, what fits was done as far as the rest, for which this room is left
pub record FitsSoFar (cs : List Character) (out : List ℕ) (rest : List Character) : Type 0 where
  pub text : all_bytes (characters_within line_limit cs) ≡ out ++ all_bytes (characters_within (line_limit - length out) rest)
  pub count : nat_lt (length (characters_within line_limit cs)) (length cs) ≡ nat_lt (length (characters_within (line_limit - length out) rest)) (length rest)

pub so_far-more : (cs : List Character) (out : List ℕ) (c : Character) (rest : List Character)
    → nat_le (length (bytes_of c)) (line_limit - length out) ≡ true → FitsSoFar cs out (c ∷ rest) → FitsSoFar cs (out ++ bytes_of c) rest
unfolding characters_within
so_far-more cs out c rest fits so =
    let room : line_limit - length (out ++ bytes_of c) ≡ line_limit - length out - length (bytes_of c) = omega (arith, length-append out (bytes_of c)) in
    record {
      text = so.text ∙ rw (fits, room, append_assoc) refl;
      count = so.count ∙ rw (fits, room) (ltb-suc _ _);
    }

pub so_far-stop : (cs : List Character) (out : List ℕ) (c : Character) (rest : List Character)
    → nat_le (length (bytes_of c)) (line_limit - length out) ≡ false → FitsSoFar cs out (c ∷ rest)
    → (all_bytes (characters_within line_limit cs) ≡ out) × (nat_lt (length (characters_within line_limit cs)) (length cs) ≡ true)
unfolding characters_within
so_far-stop cs out c rest fits so = (so.text ∙ rw (fits, append-nil) refl, so.count ∙ rw fits (ltb-zero (length rest)))

pub so_far-end : (cs : List Character) (out : List ℕ) → FitsSoFar cs out []
    → (all_bytes (characters_within line_limit cs) ≡ out) × (nat_lt (length (characters_within line_limit cs)) (length cs) ≡ false)
unfolding characters_within
so_far-end cs out so = (so.text ∙ append-nil out, so.count)

-- the character at a place of the text
pub characters-at : (e : Encoding) (text : List ℕ) (at : ℕ) (f : Front) → at < length text
    → as_character f (drop at text) ≡ character e (get_or (drop at text) 0 0) (drop at text)
    → later_of f ≡ later_length e (get_or (drop at text) 0 0) (drop at text) → 0 < width_of f
    → characters e (drop at text) ≡ as_character f (drop at text) ∷ characters e (drop (at + width_of f) text)
characters-at e text at f some is later wide =
    characters-front e (drop at text) f (omega (arith, length-drop at text)) is later wide
    ∙ ap (λ l. as_character f (drop at text) ∷ characters e l) (drop-drop (width_of f) at text)

-- a text from a place on, as a program writes it
abbrev pub from : List ℕ → ℕ → List ℕ
from text at = take (length text - at) (drop at text)

pub characters-from : (e : Encoding) (text : List ℕ) (at : ℕ) (f : Front) → at < length text → as_character f (from text at) ≡ character e (get_or (from text at) 0 0) (from text at)
    → later_of f ≡ later_length e (get_or (from text at) 0 0) (from text at) → 0 < width_of f
    → characters e (drop at text) ≡ as_character f (drop at text) ∷ characters e (drop (at + width_of f) text)
characters-from e text at f here value later some =
    let rest = rest_of text at in characters-at e text at f here (rw rest at value) (rw rest at later) some

-- ---- What decides a page's encoding, byte by byte and line by line.

below : (a b : ℕ) → a < b → nat_lt a b ≡ true
below a b h = grind (arith, nat_tests)

above : (a b : ℕ) → b ≤ a → nat_lt a b ≡ false
above a b h = grind (arith, nat_tests)

pub choice_of-low : (text : List ℕ) (at : ℕ) → at < length text → get_or text at 0 < 128 → choice_of (drop at text) ≡ choice_of (drop (at + 1) text)
unfolding choice_of
choice_of-low text at h low = rw (drop_more text at 0 h) (rw (below (get_or text at 0) 128 low) refl)

pub choice_of-high : (text : List ℕ) (at : ℕ) → at < length text → 128 ≤ get_or text at 0
    → choice_of (drop at text) ≡ cond (sequence_length (drop at text) == 0) Latin1 Utf8
unfolding choice_of
choice_of-high text at h high = rw (drop_more text at 0 h) (rw (above (get_or text at 0) 128 high) refl)

pub choice_of-end : (text : List ℕ) (at : ℕ) → length text ≤ at → choice_of (drop at text) ≡ Auto
unfolding choice_of
choice_of-end text at h = rw (drop_all at text h) refl

pub eq_true : (a b : ℕ) → a ≡ b → (a == b) ≡ true
eq_true a b h = grind (arith, nat_tests)

pub eq_false : (a b : ℕ) → a ≢ b → (a == b) ≡ false
eq_false a b h = grind (arith, nat_tests)
