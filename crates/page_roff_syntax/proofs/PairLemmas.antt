-- Pairs of a backslash and another byte, and the vectors in which they are found: helpers of proofs.
use Rattle.std.proofs.Common.{◌≡◌, ℕ, zero, suc, ◌+◌, ◌-◌, ◌*◌, ◌%◌, ◌^◌, ◌<◌, ◌≤◌, ◌==◌, Bool, true, false, not, cond, eqb, bit_and, List, [], ◌∷◌, map, length, get_or, if◌then◌else◌, refl, sym, ap, ◌∙◌, arith}
use Rattle.std.specs.Prelude.{◌&&◌, ◌||◌}
use Rattle.std.specs.Simd.Lanes.{mask_l, zip2}
use lib.Bits.{bit_or}
use lib.Lanes.{top, chunk}
use Rattle.std.proofs.lemmas.List.{length-map}
use Rattle.std.proofs.lemmas.Simd.{length-chunk, length-zip2, get_or-chunk, mask_l-mod}
use Rattle.std.proofs.lemmas.Bool.Decides.{nat_tests}
use Rattle.page_roff_syntax.specs.LineForms.{without_comment, begins_comment}
use Rattle.page_roff_syntax.specs.machine.Closed.{is_pair, pair_at, LacksPair, LacksPairFrom}

-- a line without the pairs that begin a comment

uncommented_if : (a b : Bool) (x y : ℕ) (bytes rest : List ℕ) → (a && b) ≡ false → rest ≡ bytes
    → (if a then (if b then [] else x ∷ y ∷ rest) else x ∷ y ∷ bytes) ≡ x ∷ y ∷ bytes
uncommented_if true b x y bytes rest e h = rw (e, h) refl
uncommented_if false b x y bytes rest e h = refl

shifted : (one other x : ℕ) (xs : List ℕ) (k : ℕ) → pair_at one other (x ∷ xs) (suc k) ≡ pair_at one other xs k
shifted one other x xs k =
    let e : suc k + 1 ≡ suc (k + 1) = omega arith in
    ap (λ n. is_pair (get_or xs k 0) (get_or (x ∷ xs) n 0) one other) e

pub lacks_later : (one other x : ℕ) (xs : List ℕ) → LacksPair one other (x ∷ xs) → LacksPair one other xs
lacks_later one other x xs h = λ k l. sym (shifted one other x xs k) ∙ h (suc k) (omega arith)

pub without_pairs : (line : List ℕ) → LacksPair 34 35 line → without_comment line ≡ line
without_pairs (x ∷ y ∷ ys) h =
    let t = lacks_later 34 35 x (y ∷ ys) h in
    rw (without_pairs (y ∷ ys) t)
    (uncommented_if (x == 92) (begins_comment y) x y ys (without_comment ys) (h 0 (omega arith)) (without_pairs ys (lacks_later 34 35 y ys t)))
without_pairs _ h = refl

-- a lane of a vector is set where a pair begins

lane : (a b c : Bool) → top 7 (bit_and (cond a 255 0) (bit_or (cond b 255 0) (cond c 255 0))) ≡ (a && (b || c))
lane true true true = refl
lane true true false = refl
lane true false true = refl
lane true false false = refl
lane false true true = refl
lane false true false = refl
lane false false true = refl
lane false false false = refl

first_unset : (b : Bool) (m : ℕ) → cond b 1 0 + 2 * m ≡ 0 → b ≡ false
first_unset true m h = let no : ⊥ = omega arith in absurd no
first_unset false m h = refl

others_unset : (b : Bool) (m : ℕ) → cond b 1 0 + 2 * m ≡ 0 → m ≡ 0
others_unset true m h = omega arith
others_unset false m h = omega arith

both_unset : (b : Bool) (m : ℕ) → b ≡ false → m ≡ 0 → cond b 1 0 + 2 * m ≡ 0
both_unset b m h e = rw (h, e) refl

abbrev pub firsts : List ℕ → List ℕ
firsts v = map (λ x. cond (eqb x 92) 255 0) v

abbrev pub seconds : ℕ → ℕ → List ℕ → List ℕ
seconds one other w = map (λ y. bit_or (cond (eqb y one) 255 0) (cond (eqb y other) 255 0)) w

pub none_set : (one other : ℕ) (v w : List ℕ) → length v ≡ length w → mask_l (map (top 7) (zip2 bit_and (firsts v) (seconds one other w))) ≡ 0
    → (k : ℕ) → k < length v → is_pair (get_or v k 0) (get_or w k 0) one other ≡ false
none_set one other (x ∷ v) (y ∷ w) e h zero l =
    let s = rw (lane (eqb x 92) (eqb y one) (eqb y other)) at h in
    first_unset (is_pair x y one other) _ s
none_set one other (x ∷ v) (y ∷ w) e h (suc k) l =
    let s = rw (lane (eqb x 92) (eqb y one) (eqb y other)) at h in
    none_set one other v w (omega arith) (others_unset (is_pair x y one other) _ s) k (omega arith)
none_set one other _ _ e h _ l = absurd (omega arith)

all_unset : (one other : ℕ) (v w : List ℕ) → length v ≡ length w → ((k : ℕ) → k < length v → is_pair (get_or v k 0) (get_or w k 0) one other ≡ false)
    → mask_l (map (top 7) (zip2 bit_and (firsts v) (seconds one other w))) ≡ 0
all_unset one other [] w e h = refl
all_unset one other (x ∷ v) [] e h = absurd (omega arith)
all_unset one other (x ∷ v) (y ∷ w) e h =
    let more = all_unset one other v w (omega arith) (λ k l. h (suc k) (omega arith)) in
    rw (lane (eqb x 92) (eqb y one) (eqb y other)) (both_unset (is_pair x y one other) _ (h 0 (omega arith)) more)

-- the lanes of a load of sixteen bytes, and of the load one byte after it

no_bits : (n : ℕ) → not (n == 0) ≡ false → n ≡ 0
no_bits n h = grind (arith, nat_tests)

bits_none : (n : ℕ) → n ≡ 0 → not (n == 0) ≡ false
bits_none n h = rw h refl

lanes_short : (one other : ℕ) (v w : List ℕ) → length v ≡ 16 → length w ≡ 16 → length (map (top 7) (zip2 bit_and (firsts v) (seconds one other w))) ≤ 64
lanes_short one other v w e f =
    let a = length-map (zip2 bit_and (firsts v) (seconds one other w)) (top 7) in
    let g : length (firsts v) ≡ 16 = length-map v (λ x. cond (eqb x 92) 255 0) ∙ e in
    let h : length (seconds one other w) ≡ 16 = length-map w (λ y. bit_or (cond (eqb y one) 255 0) (cond (eqb y other) 255 0)) ∙ f in
    let b = length-zip2 bit_and (firsts v) (seconds one other w) (g ∙ sym h) in
    omega (arith, a, b, g)

pub no_pairs : (one other at : ℕ) (text z : List ℕ) → at + 16 < length text
    → z ≡ zip2 bit_and (firsts (chunk at 16 text)) (seconds one other (chunk (at + 1) 16 text))
    → not (mask_l (map (top 7) z) % 2 ^ 64 == 0) ≡ false → LacksPairFrom at 16 one other text
no_pairs one other at text z room e h k low high =
    let v = chunk at 16 text in
    let w = chunk (at + 1) 16 text in
    let lv : length v ≡ 16 = length-chunk at 16 text (omega arith) in
    let lw : length w ≡ 16 = length-chunk (at + 1) 16 text (omega arith) in
    let m = mask_l-mod (map (top 7) (zip2 bit_and (firsts v) (seconds one other w))) 64 (lanes_short one other v w lv lw) in
    let n = sym m ∙ no_bits _ (rw e at h) in
    let r = none_set one other v w (omega arith) n (k - at) (omega arith) in
    let a = get_or-chunk at 16 text (k - at) 0 (omega arith) in
    let b = get_or-chunk (at + 1) 16 text (k - at) 0 (omega arith) in
    let i : at + (k - at) ≡ k = omega arith in
    let j : at + 1 + (k - at) ≡ k + 1 = omega arith in
    rw (a, b, i, j) at r

lacks_here : (one other at : ℕ) (text : List ℕ) (k : ℕ) → k < 16 → at + 16 < length text → LacksPairFrom at 16 one other text
    → is_pair (get_or (chunk at 16 text) k 0) (get_or (chunk (at + 1) 16 text) k 0) one other ≡ false
lacks_here one other at text k l room h =
    let a = get_or-chunk at 16 text k 0 (omega arith) in
    let b = get_or-chunk (at + 1) 16 text k 0 (omega arith) in
    let j : at + 1 + k ≡ at + k + 1 = omega arith in
    rw (a, b, j) (h (at + k) (omega arith) (omega arith))

pub no_lanes : (one other at : ℕ) (text z : List ℕ) → at + 16 < length text
    → z ≡ zip2 bit_and (firsts (chunk at 16 text)) (seconds one other (chunk (at + 1) 16 text))
    → LacksPairFrom at 16 one other text → not (mask_l (map (top 7) z) % 2 ^ 64 == 0) ≡ false
no_lanes one other at text z room e h =
    let v = chunk at 16 text in
    let w = chunk (at + 1) 16 text in
    let lv : length v ≡ 16 = length-chunk at 16 text (omega arith) in
    let lw : length w ≡ 16 = length-chunk (at + 1) 16 text (omega arith) in
    let m = mask_l-mod (map (top 7) (zip2 bit_and (firsts v) (seconds one other w))) 64 (lanes_short one other v w lv lw) in
    let none = all_unset one other v w (lv ∙ sym lw) (λ k l. lacks_here one other at text k (omega arith) room h) in
    rw e (bits_none _ (m ∙ none))
