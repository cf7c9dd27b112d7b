-- Texts that are their own value: helpers of proofs.
use Rattle.std.proofs.Common.{◌≡◌, ℕ, zero, suc, ◌+◌, ◌%◌, ◌^◌, ◌<◌, ◌≤◌, ◌==◌, Bool, true, false, ◌||◌, ◌&&◌, List, [], ◌∷◌, map, length, take, drop, if◌then◌else◌, Fits, w8, Option, None, Some, is_none, unwrap_or, refl, ap, ap₂, ◌∙◌, add_assoc, arith, length-drop}
use Rattle.std.proofs.Math.Seq.{drop-length}
use Rattle.std.proofs.lemmas.Bool.{agree_below, agree_below_at}
use Rattle.std.proofs.lemmas.List.{take-append-drop, get_or-drop, length-map}
use Rattle.std.proofs.lemmas.Simd.{mask_l-mod}
use lib.Lanes.{mask_l, top, Each1}
use Rattle.memchr.specs.Find.{IsFirstByte, is_byte}
use Rattle.page_roff_syntax.specs.Delimiters.{character_len}
use Rattle.page_roff_parts.specs.Parts.{after_plain, call_cut, copies, parts, parts_up_to, plain, seen}
use Rattle.page_roff_parts.specs.machine.Verbatim.{IsFree, IsVerbatim, may_call}
use Rattle.page_roff_parts.proofs.FrontLemmas.{escape_alone, escape_pair, parts_more, plain_part}

-- ---- what is read

pub no_call : (copy : Bool) (letter : ℕ) (bs : List ℕ) → may_call letter ≡ false → call_cut copy letter bs ≡ None
no_call copy letter bs h =
    let a = neither (letter == 42) (letter == 110 || (letter == 36 || letter == 119)) h in
    let b = neither (letter == 110) (letter == 36 || letter == 119) a.1 in
    let c = neither (letter == 36) (letter == 119) b.1 in
    rw (a.0, b.0, c.0, c.1) refl
  where
    neither : (a b : Bool) → (a || b) ≡ false → (a ≡ false) × (b ≡ false)
    neither true b h = let no : ⊥ = cc in absurd no
    neither false b h = (refl, h)

-- a part that is copied, and what follows it
copied_more : (copy : Bool) (text : List ℕ) (n : ℕ) → 0 < length text → copies (take n text) (drop n text) ≡ seen copy text
    → IsVerbatim copy (drop n text) → IsVerbatim copy text
copied_more copy [] n h e v = absurd (omega arith)
copied_more copy (b ∷ bs) n h e v =
    rw (parts_more copy b bs, ← e, v) (ap (λ t. Some t) (take-append-drop n (b ∷ bs)))

pub verbatim_none : (copy : Bool) → IsVerbatim copy []
unfolding parts parts_up_to
verbatim_none copy = refl

-- bytes before the first backslash, and what follows them
pub verbatim_plain : (copy : Bool) (text : List ℕ) (r : Option ℕ) → IsFirstByte (is_byte 92) text r
    → IsVerbatim copy (drop (unwrap_or r (length text)) text) → IsVerbatim copy text
verbatim_plain copy [] r f v = verbatim_none copy
verbatim_plain copy (b ∷ bs) (Some zero) f v = v
verbatim_plain copy (b ∷ bs) (Some (suc k)) f v = copied_more copy (b ∷ bs) (suc k) (omega arith) (plain_part copy (b ∷ bs) (Some (suc k)) f (omega arith) (omega arith)) v
verbatim_plain copy (b ∷ bs) None f v = copied_more copy (b ∷ bs) (length (b ∷ bs)) (omega arith) (plain_part copy (b ∷ bs) None f (omega arith) (omega arith)) v

-- a text without a backslash
pub verbatim_all : (copy : Bool) (text : List ℕ) (r : Option ℕ) → IsFirstByte (is_byte 92) text r → is_none r ≡ true → IsVerbatim copy text
verbatim_all copy text (Some k) f e = let no : ⊥ = cc in absurd no
verbatim_all copy text None f e = verbatim_plain copy text None f (rw (drop-length text) (verbatim_none copy))

-- a lone backslash, a pair and a run of bytes before the first backslash, and what follows them
free_alone : (b : ℕ) → (b == 92) ≡ true → IsVerbatim false (b ∷ [])
free_alone b e = copied_more false (b ∷ []) 1 (omega arith) (escape_alone false (b ∷ []) e (omega arith)) (verbatim_none false)

free_pair : (b c : ℕ) (bs : List ℕ) → (b == 92) ≡ true → may_call c ≡ false
    → IsVerbatim false (drop (1 + character_len (c ∷ bs)) (b ∷ c ∷ bs)) → IsVerbatim false (b ∷ c ∷ bs)
free_pair b c bs e m v =
    copied_more false (b ∷ c ∷ bs) (1 + character_len (c ∷ bs)) (omega arith) (escape_pair false (b ∷ c ∷ bs) e refl (omega arith) (no_call false c bs m)) v

run_if : (e : Bool) (b n : ℕ) (bs : List ℕ) (p q : List ℕ) → (take n bs ≡ p) × (drop n bs ≡ q)
    → (take (if e then 0 else suc n) (b ∷ bs) ≡ (if e then [] else b ∷ p)) × (drop (if e then 0 else suc n) (b ∷ bs) ≡ (if e then b ∷ bs else q))
run_if true b n bs p q h = (refl, refl)
run_if false b n bs p q h = (ap (λ l. b ∷ l) h.0, h.1)

run_len : List ℕ → ℕ
run_len [] = 0
run_len (b ∷ bs) = if b == 92 then 0 else suc (run_len bs)

run_is : (text : List ℕ) → (take (run_len text) text ≡ plain text) × (drop (run_len text) text ≡ after_plain text)
unfolding run_len
run_is [] = (refl, refl)
run_is (b ∷ bs) = run_if (b == 92) b (run_len bs) bs (plain bs) (after_plain bs) (run_is bs)

run_view : (b : ℕ) (bs : List ℕ) → (b == 92) ≡ false → copies (take (suc (run_len bs)) (b ∷ bs)) (drop (suc (run_len bs)) (b ∷ bs)) ≡ seen false (b ∷ bs)
unfolding seen
run_view b bs e = rw (e, (run_is bs).0, (run_is bs).1) refl

free_run : (b : ℕ) (bs : List ℕ) → (b == 92) ≡ false → IsVerbatim false (drop (suc (run_len bs)) (b ∷ bs)) → IsVerbatim false (b ∷ bs)
free_run b bs e v = copied_more false (b ∷ bs) (suc (run_len bs)) (omega arith) (run_view b bs e) v

-- what is free stays so without its front
free_after : (n : ℕ) (text : List ℕ) → IsFree text → IsFree (drop n text)
free_after n text h = λ k l. rw (get_or-drop n text k 0, get_or-drop n text (k + 1) 0, ← add_assoc n k 1) (h (n + k) (omega (arith, length-drop n text)))

-- a letter after a backslash
calls_no : (b c : Bool) → b ≡ true → (b && c) ≡ false → c ≡ false
calls_no true c e h = h
calls_no false c e h = let no : ⊥ = cc in absurd no

free_up_to : (n : ℕ) (text : List ℕ) → length text ≤ n → IsFree text → IsVerbatim false text
free_up_to n [] l h = verbatim_none false
free_up_to zero (b ∷ bs) l h = absurd (omega arith)
free_up_to (suc n) (b ∷ bs) l h = first (λ t. free_up_to n t) (b == 92) bs refl l h
  where
    shorter : (m : ℕ) (text : List ℕ) → 0 < m → length text ≤ suc n → length (drop m text) ≤ n
    shorter m text p q = omega (arith, length-drop m text)

    first : ((t : List ℕ) → length t ≤ n → IsFree t → IsVerbatim false t) → (e : Bool) (ds : List ℕ) → (b == 92) ≡ e → length (b ∷ ds) ≤ suc n → IsFree (b ∷ ds) → IsVerbatim false (b ∷ ds)
    first f true [] e l h = free_alone b e
    first f true (c ∷ ds) e l h =
        let m = 1 + character_len (c ∷ ds) in
        free_pair b c ds e (calls_no (b == 92) (may_call c) e (h 0 (omega arith)))
        (f (drop m (b ∷ c ∷ ds)) (shorter m (b ∷ c ∷ ds) (omega arith) l) (free_after m (b ∷ c ∷ ds) h))
    first f false ds e l h =
        let m = suc (run_len ds) in
        free_run b ds e (f (drop m (b ∷ ds)) (shorter m (b ∷ ds) (omega arith) l) (free_after m (b ∷ ds) h))

-- a text in which no interpolation begins
pub verbatim_free : (text : List ℕ) → IsFree text → IsVerbatim false text
verbatim_free text h = free_up_to (length text) text (omega arith) h

-- ---- vectors

-- a test of lanes, read from the top bits of what was computed lane by lane
each_lane : (f : ℕ → ℕ) (p : ℕ → Bool) → agree_below (λ x. top 7 (f x)) p 256 ≡ true → (v : List ℕ) → Each1 (Fits w8) v → map (top 7) (map f v) ≡ map p v
each_lane f p all [] fits = refl
each_lane f p all (x ∷ xs) fits = ap₂ (λ a b. a ∷ b) (agree_below_at (λ y. top 7 (f y)) p 256 x all fits.0.fits) (each_lane f p all xs fits.1)

pub masked : (f : ℕ → ℕ) (p : ℕ → Bool) (v z : List ℕ) → length v ≤ 64 → Each1 (Fits w8) v → z ≡ map f v → agree_below (λ x. top 7 (f x)) p 256 ≡ true
    → mask_l (map (top 7) z) % 2 ^ 64 ≡ mask_l (map p v)
masked f p v z short fits e all =
    ap (λ l. mask_l l % 2 ^ 64) (ap (map (top 7)) e ∙ each_lane f p all v fits) ∙ mask_l-mod (map p v) 64 (omega (arith, length-map v p))
