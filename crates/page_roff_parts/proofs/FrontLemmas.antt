-- How a text is read: helpers of proofs.
use Rattle.std.proofs.Common.{◌≡◌, ℕ, zero, suc, ◌+◌, ◌<◌, ◌≤◌, Bool, true, false, not, ◌&&◌, ◌==◌, List, [], ◌∷◌, length, get_or, take, drop, if◌then◌else◌, Option, None, Some, MatchOption, option_map, unwrap_or, position, refl, ap, arith, length-drop, zero-add, ◌∙◌, length-append, length-take, ◌-◌, ◌++◌, is_none, sym, append_assoc, append-nil, ◌≢◌, nat_eq, nat_lt, set, inl, inr, drop_of_length-le, length-set}
use Rattle.std.proofs.lemmas.Bool.{eqb-true, cases_Bool, ltb-true, ltb-false}
use Rattle.std.proofs.lemmas.Bool.Decides.{nat_tests}
use Rattle.memchr.specs.Find.{IsFirstByte, is_byte}
use Rattle.page_core_base.specs.Bytes.{begins_escape}
use Rattle.page_roff_syntax.specs.Delimiters.{character_len, width_content_len, width_len}
use Rattle.page_roff_parts.specs.declared.parts.Call.{Call}
use Rattle.page_roff_parts.specs.declared.parts.Call.TheVariants.{String, Register, Argument, Width}
use Rattle.page_roff_parts.specs.Parts.{CutText, SeenText, copies, calls, cut, two_characters, bracketed, name_cut, width_cut, plain, after_plain, call_cut, pair, is_doubled, escape, seen, parts_up_to, parts}
use Rattle.std.proofs.Math.Seq.{drop-length, take-add, take-length, drop-append-add}
use Rattle.std.proofs.lemmas.List.{drop-drop, drop-append-le, get_or-drop, get_or-set_same, get_or-set_other, take-append-le, take_all}
use Rattle.std.specs.Option.{option_map_or}
use Rattle.page_roff_parts.specs.declared.parts.Part.{Part}
use Rattle.page_roff_parts.specs.declared.parts.Part.TheVariants.{Copied, Called}
use Rattle.std.specs.Prelude.{⊤, IfSome}
use Rattle.page_roff_parts.specs.machine.Verbatim.{IsFront, copied_front, IsVerbatim, copied_bytes, has_bracket}
use Rattle.page_roff_parts.proofs.BracketLemmas.{lacking}
use Rattle.std.proofs.lemmas.List.Elements.{All-weaker}
use Rattle.page_roff_parts.specs.declared.known_fronts.KnownText.{KnownText}
use Rattle.page_roff_parts.specs.machine.Known.{AreFronts, AreKnown, IsKnown, IsRun, StayBefore}

-- ---- copies

pub escape_alone : (copy : Bool) (text : List ℕ) → begins_escape text ≡ true → length text < 2 → copies text [] ≡ seen copy text
unfolding seen
escape_alone copy [] e h = let no : ⊥ = cc in absurd no
escape_alone copy (b ∷ []) e h = rw (e, eqb-true b 92 e) refl
escape_alone copy (b ∷ c ∷ bs) e h = absurd (omega arith)

pub escape_doubled : (copy : Bool) (text : List ℕ) → begins_escape text ≡ true → 2 ≤ length text → is_doubled copy (get_or text 1 0) ≡ true
    → copies (take 1 text) (drop 2 text) ≡ seen copy text
unfolding seen
escape_doubled copy (b ∷ c ∷ bs) e h d = rw (e, d, eqb-true b 92 e) refl
escape_doubled copy _ e h d = absurd (omega arith)

pub escape_called : (copy : Bool) (text : List ℕ) (x : SeenText) → begins_escape text ≡ true → is_doubled copy (get_or text 1 0) ≡ false → 2 ≤ length text
    → call_cut copy (get_or text 1 0) (drop 2 text) ≡ Some x → x ≡ seen copy text
unfolding seen
escape_called copy (b ∷ c ∷ bs) x e d h n = rw (e, d, n) refl
escape_called copy _ x e d h n = absurd (omega arith)

take_past : (k : ℕ) (b : ℕ) (bs : List ℕ) → take (1 + k) (b ∷ bs) ≡ b ∷ take k bs
take_past k b bs = let e : 1 + k ≡ suc k = omega arith in rw e refl

drop_past : (k : ℕ) (b : ℕ) (bs : List ℕ) → drop (1 + k) (b ∷ bs) ≡ drop k bs
drop_past k b bs = let e : 1 + k ≡ suc k = omega arith in rw e refl

pub escape_pair : (copy : Bool) (text : List ℕ) → begins_escape text ≡ true → is_doubled copy (get_or text 1 0) ≡ false → 2 ≤ length text
    → call_cut copy (get_or text 1 0) (drop 2 text) ≡ None
    → copies (take (1 + character_len (drop 1 text)) text) (drop (1 + character_len (drop 1 text)) text) ≡ seen copy text
unfolding seen
escape_pair copy (b ∷ c ∷ bs) e d h n =
    let k = character_len (c ∷ bs) in
    rw (take_past k b (c ∷ bs), drop_past k b (c ∷ bs), e, d, n, eqb-true b 92 e) refl
escape_pair copy _ e d h n = absurd (omega arith)

plain_to : (text : List ℕ) (k : ℕ) → k ≤ length text → ((i : ℕ) → i < k → (get_or text i 0 == 92) ≡ false)
    → (k < length text → (get_or text k 0 == 92) ≡ true) → (plain text ≡ take k text) × (after_plain text ≡ drop k text)
plain_to [] zero h n p = (refl, refl)
plain_to [] (suc k) h n p = absurd (omega arith)
plain_to (b ∷ bs) zero h n p = rw (p (omega arith)) (refl, refl)
plain_to (b ∷ bs) (suc k) h n p =
    let r = plain_to bs k (omega arith) (λ i l. n (suc i) (omega arith)) (λ l. p (omega arith)) in
    rw (n 0 (omega arith)) (ap (λ l. b ∷ l) r.0, r.1)

pub not_true : (b : Bool) → ¬ (b ≡ true) → b ≡ false
not_true true h = absurd (h refl)
not_true false h = refl

-- the part before the first backslash
pub plain_part : (copy : Bool) (text : List ℕ) (r : Option ℕ) → IsFirstByte (is_byte 92) text r → 0 < length text → 0 < unwrap_or r (length text)
    → copies (take (unwrap_or r (length text)) text) (drop (unwrap_or r (length text)) text) ≡ seen copy text
unfolding seen
plain_part copy (b ∷ bs) None h l p =
    let n = λ (i : ℕ) (u : i < length (b ∷ bs)). not_true (get_or (b ∷ bs) i 0 == 92) (h i (omega arith) u) in
    let r = plain_to bs (length bs) (omega arith) (λ i u. n (suc i) (omega arith)) (λ u. absurd (omega arith)) in
    rw (n 0 (omega arith), r.0, r.1) refl
plain_part copy (b ∷ bs) (Some (suc k)) h l p =
    let n = λ (i : ℕ) (u : i < suc k). not_true (get_or (b ∷ bs) i 0 == 92) (h.0.before i (omega arith) u) in
    let r = plain_to bs k (omega (arith, h.0.high)) (λ i u. n (suc i) (omega arith)) (λ u. h.1) in
    rw (n 0 (omega arith), r.0, r.1) refl
plain_part copy _ _ h l p = absurd (omega arith)

pub argument_view : (copy : Bool) (text : List ℕ) → begins_escape text ≡ true → 2 ≤ length text → get_or text 1 0 ≡ 36
    → (let n = 2 + character_len (drop 2 text) in Some (calls (Argument (take n text)) (drop n text)) ≡ call_cut copy (get_or text 1 0) (drop 2 text))
argument_view copy (b ∷ c ∷ bs) e h k =
    let n = character_len bs in
    let s : 2 + n ≡ suc (suc n) = omega arith in
    rw (s, k, eqb-true b 92 e) refl
argument_view copy _ e h k = absurd (omega arith)

-- ---- what follows is shorter

after_shorter : (text : List ℕ) → length (after_plain text) ≤ length text
after_shorter [] = omega arith
after_shorter (b ∷ bs) = grind (arith, nat_tests, after_shorter bs)

drop_le : (k : ℕ) (xs : List ℕ) → length (drop k xs) ≤ length xs
drop_le k xs = omega (arith, length-drop k xs)

-- what was cut leaves at most so much
abbrev CutWithin : ℕ → Option CutText → Type 0
CutWithin n o = MatchOption o (Unit {0}) (λ c. length c.rest ≤ n)

abbrev SeenWithin : ℕ → Option SeenText → Type 0
SeenWithin n o = MatchOption o (Unit {0}) (λ s. length s.rest ≤ n)

-- one of two
pub by_if : {A : Type 0} (P : A → Type 0) (b : Bool) (x y : A) → P x → P y → P (if b then x else y)
by_if P true x y h k = h
by_if P false x y h k = k

called_within : (make : List ℕ → Call (List ℕ)) (n : ℕ) (o : Option CutText) → CutWithin n o → SeenWithin n (option_map (λ c. calls (make c.front) c.rest) o)
called_within make n None h = tt
called_within make n (Some c) h = h

two_within : (text : List ℕ) → CutWithin (length text) (two_characters text)
two_within text =
    let n = character_len text in
    let m = character_len (drop n text) in
    by_if (CutWithin (length text)) (m == 0) None (Some (cut (n + m) 0 text)) tt (drop_le (n + m + 0) text)

bracketed_at : (text : List ℕ) (o : Option ℕ) → CutWithin (length text) (option_map (λ k. cut k 1 text) o)
bracketed_at text None = tt
bracketed_at text (Some k) = drop_le (k + 1) text

name_within : (text : List ℕ) → CutWithin (length text) (name_cut text)
name_within [] = tt
name_within (b ∷ bs) =
    by_if (CutWithin (suc (length bs))) (b == 40) _ _
    (wider (two_characters bs) (two_within bs))
    (by_if (CutWithin (suc (length bs))) (b == 91) _ _
    (wider (bracketed bs) (bracketed_at bs (position (λ c. c == 93) bs))) (drop_le (character_len (b ∷ bs) + 0) (b ∷ bs)))
  where
    wider : (o : Option CutText) → CutWithin (length bs) o → CutWithin (suc (length bs)) o
    wider None h = tt
    wider (Some c) h = omega arith

delimited_at : (n : ℕ) (text : List ℕ) (o : Option ℕ) → CutWithin (length text) (option_map (λ k. cut k n (drop n text)) o)
delimited_at n text None = tt
delimited_at n text (Some k) = let h = drop_le (k + n) (drop n text) in let g = drop_le n text in omega arith

width_within : (text : List ℕ) → CutWithin (length text) (width_cut text)
width_within text =
    delimited_at (character_len text) text (width_content_len text)

call_within : (copy : Bool) (letter : ℕ) (bs : List ℕ) → SeenWithin (length bs) (call_cut copy letter bs)
call_within copy letter bs =
    let either = by_if (SeenWithin (length bs)) in
    either (letter == 42) _ _ (called_within (λ t. String t) (length bs) (name_cut bs) (name_within bs))
    (either (letter == 110) _ _ (called_within (λ t. Register t) (length bs) (name_cut bs) (name_within bs))
    (either (letter == 36) _ _ (drop_le (character_len bs) bs)
    (either (letter == 119 && not copy) _ None (called_within (λ t. Width t) (length bs) (width_cut bs) (width_within bs)) tt)))

or_shorter : (o : Option SeenText) (x : SeenText) (n : ℕ) → SeenWithin n o → length x.rest ≤ n → length (unwrap_or o x).rest ≤ n
or_shorter None x n h k = k
or_shorter (Some y) x n h k = h

escape_shorter : (copy : Bool) (text : List ℕ) → length (escape copy text).rest ≤ length text
escape_shorter copy [] = omega arith
escape_shorter copy (c ∷ bs) =
    by_if (λ x. length x.rest ≤ suc (length bs)) (is_doubled copy c) (copies (92 ∷ []) bs) _ (omega arith)
    (or_shorter (call_cut copy c bs) (pair (c ∷ bs)) (suc (length bs)) (wider (call_cut copy c bs) (call_within copy c bs))
    (drop_le (character_len (c ∷ bs)) (c ∷ bs)))
  where
    wider : (o : Option SeenText) → SeenWithin (length bs) o → SeenWithin (suc (length bs)) o
    wider None h = tt
    wider (Some s) h = omega arith

pub seen_shorter : (copy : Bool) (b : ℕ) (bs : List ℕ) → length (seen copy (b ∷ bs)).rest ≤ length bs
unfolding seen
seen_shorter copy b bs =
    by_if (λ x. length x.rest ≤ length bs) (b == 92) (escape copy bs) (copies (b ∷ plain bs) (after_plain bs)) (escape_shorter copy bs) (after_shorter bs)

-- enough is enough
enough : (copy : Bool) (n m : ℕ) (text : List ℕ) → length text ≤ n → length text ≤ m → parts_up_to copy n text ≡ parts_up_to copy m text
unfolding parts_up_to
enough copy zero (suc m) (b ∷ bs) h k = absurd (omega arith)
enough copy (suc n) zero (b ∷ bs) h k = absurd (omega arith)
enough copy (suc n) (suc m) (b ∷ bs) h k =
    let x = seen copy (b ∷ bs) in
    let l = seen_shorter copy b bs in
    ap (λ ps. x.part ∷ ps) (enough copy n m x.rest (omega arith) (omega arith))
enough copy _ _ _ h k = refl

-- the first part, and the parts of what follows it
pub parts_more : (copy : Bool) (b : ℕ) (bs : List ℕ) → parts copy (b ∷ bs) ≡ (seen copy (b ∷ bs)).part ∷ parts copy (seen copy (b ∷ bs)).rest
unfolding parts parts_up_to
parts_more copy b bs =
    let x = seen copy (b ∷ bs) in
    let l = seen_shorter copy b bs in
    ap (λ ps. x.part ∷ ps) (enough copy (length bs) (length x.rest) x.rest (omega arith) (omega arith))

-- ---- The bytes at a text's front that are copied as they are: helpers of proofs.

-- ---- interpolations without an end

none_of : (b : Bool) (o : Option SeenText) → o ≡ None → (if b then o else None) ≡ None
none_of true o e = e
none_of false o e = refl

width_none : (text : List ℕ) → width_len text ≡ 0 → width_cut text ≡ None
unfolding width_content_len
width_none [] h = refl
width_none (b ∷ bs) h = go (width_content_len (b ∷ bs)) h
  where
    n : ℕ
    n = character_len (b ∷ bs)

    go : (o : Option ℕ) → option_map_or (λ k. n + k + n) o 0 ≡ 0 → option_map (λ k. cut k n (drop n (b ∷ bs))) o ≡ None
    go None e = refl
    go (Some k) e = absurd (omega (arith, e))

pub lone_width : (copy : Bool) (letter : ℕ) (rest : List ℕ) → letter ≡ 119 → width_len rest ≡ 0 → call_cut copy letter rest ≡ None
lone_width copy letter rest e h = rw (e, width_none rest h) (none_of (not copy) None refl)

-- a width whose delimiter would be a backslash
pub lone_escape : (copy : Bool) (letter : ℕ) (rest : List ℕ) → letter ≡ 119 → begins_escape rest ≡ true → call_cut copy letter rest ≡ None
unfolding width_content_len
lone_escape copy letter rest e h = rw (e, h) (none_of (not copy) None refl)

-- a name in brackets of which none closes
name_none : (text : List ℕ) → 0 < length text → get_or text 0 0 ≡ 91 → has_bracket text ≡ false → name_cut text ≡ None
name_none [] l e h = absurd (omega arith)
name_none (b ∷ bs) l e h = rw e (lacking bs (rw e at h))

pub lone_string : (copy : Bool) (letter : ℕ) (rest : List ℕ) → letter ≡ 42 → 0 < length rest → get_or rest 0 0 ≡ 91 → has_bracket rest ≡ false → call_cut copy letter rest ≡ None
lone_string copy letter rest e l f h = rw (e, name_none rest l f h) refl

pub lone_register : (copy : Bool) (letter : ℕ) (rest : List ℕ) → letter ≡ 110 → 0 < length rest → get_or rest 0 0 ≡ 91 → has_bracket rest ≡ false → call_cut copy letter rest ≡ None
lone_register copy letter rest e l f h = rw (e, name_none rest l f h) refl

-- ---- fronts

-- no bytes
pub front_none : (copy : Bool) (text : List ℕ) → IsFront copy 0 text
front_none copy text = refl

-- a part that is copied
copied_one : (n : ℕ) (run : List ℕ) (ps : List (Part (List ℕ))) → 0 < n → length run ≡ n → copied_front n (Copied run ∷ ps) ≡ Some (run, ps)
copied_one zero run ps h e = absurd (omega arith)
copied_one (suc n) run ps h e =
    let none : suc n - length run ≡ 0 = omega arith in
    rw none (ap (λ t. Some (t, ps)) (append-nil run))

pub front_part : (copy : Bool) (text : List ℕ) (n : ℕ) → 0 < n → n ≤ length text → copies (take n text) (drop n text) ≡ seen copy text → IsFront copy n text
front_part copy [] n h l x = absurd (omega arith)
front_part copy (b ∷ bs) n h l x = rw (parts_more copy b bs, ← x) (copied_one n (take n (b ∷ bs)) (parts copy (drop n (b ∷ bs))) h (omega (arith, length-take n (b ∷ bs))))

-- what an option holds
pub map_is : {A B : Type 0} (f : A → B) (o : Option A) (y : B) → option_map f o ≡ Some y → (x : A) × ((o ≡ Some x) × (f x ≡ y))
map_is f None y e = let no : ⊥ = cc in absurd no
map_is f (Some x) y e = (x, (refl, ap (λ o. unwrap_or o y) e))

-- the bytes of a front are as many as they are said to be
abbrev Front : Type 0
Front = List ℕ × List (Part (List ℕ))

some_is : (x y : Front) (o : Option Front) → o ≡ Some x → o ≡ Some y → x ≡ y
some_is x y o e f = ap (λ (o : Option Front). unwrap_or o y) (sym e ∙ f)

pub copied_then : (n m : ℕ) (ps qs rs : List (Part (List ℕ))) (x y : List ℕ) → copied_front n ps ≡ Some (x, qs) → length x ≡ n → copied_front m qs ≡ Some (y, rs)
    → copied_front (n + m) ps ≡ Some (x ++ y, rs)
copied_then zero m ps qs rs x y e l f =
    let is = some_is ([], ps) (x, qs) (copied_front 0 ps) refl e in
    let first : [] ≡ x = ap (λ (p : Front). p.0) is in
    let second : ps ≡ qs = ap (λ (p : Front). p.1) is in
    rw (zero-add m, ← first, second) f
copied_then (suc n) m (Copied run ∷ ps) qs rs x y e l f =
    let is = map_is (λ (front : Front). (run ++ front.0, front.1)) (copied_front (suc n - length run) ps) (x, qs) e in
    let bytes : run ++ is.0.0 ≡ x = ap (λ (p : Front). p.0) is.1.1 in
    let rest : is.0.1 ≡ qs = ap (λ (p : Front). p.1) is.1.1 in
    let long : length run + length is.0.0 ≡ suc n = sym (length-append run is.0.0) ∙ ap (λ (t : List ℕ). length t) bytes ∙ l in
    let less : suc (n + m) - length run ≡ (suc n - length run) + m = omega arith in
    let more = copied_then (suc n - length run) m ps is.0.1 rs is.0.0 y is.1.0 (omega arith) (rw rest f) in
    rw (suc_add n m, less, more) (ap (λ t. Some (t, rs)) (sym (append_assoc run is.0.0 y) ∙ ap (λ t. t ++ y) bytes))
  where
    suc_add : (n m : ℕ) → suc n + m ≡ suc (n + m)
    suc_add n m = omega arith
copied_then _ m _ qs rs x y e l f = let no : ⊥ = cc in absurd no

-- some bytes, and then more
pub front_then : (copy : Bool) (n m : ℕ) (text : List ℕ) → n ≤ length text → IsFront copy n text → IsFront copy m (drop n text) → IsFront copy (n + m) text
front_then copy n m text l f g =
    rw (take-add n m text, ← drop-drop m n text)
    (copied_then n m (parts copy text) (parts copy (drop n text)) (parts copy (drop m (drop n text))) (take n text) (take m (drop n text)) f (omega (arith, length-take n text)) g)

-- the bytes before the first backslash
pub front_run : (copy : Bool) (text : List ℕ) (k : ℕ) → IsFirstByte (is_byte 92) text (Some k) → IsFront copy k text
front_run copy text zero f = front_none copy text
front_run copy [] (suc k) f = absurd (omega (arith, f.0.high))
front_run copy (b ∷ bs) (suc k) f = front_part copy (b ∷ bs) (suc k) (omega arith) (omega (arith, f.0.high)) (plain_part copy (b ∷ bs) (Some (suc k)) f (omega arith) (omega arith))

pub front_all : (copy : Bool) (text : List ℕ) → IsFirstByte (is_byte 92) text None → IsFront copy (length text) text
front_all copy [] f = front_none copy []
front_all copy (b ∷ bs) f = front_part copy (b ∷ bs) (length (b ∷ bs)) (omega arith) (omega arith) (plain_part copy (b ∷ bs) None f (omega arith) (omega arith))

-- all bytes, where the rest has no backslash
pub front_end : (copy : Bool) (text : List ℕ) (at : ℕ) (r : Option ℕ) → at ≤ length text → IsFirstByte (is_byte 92) (drop at text) r → is_none r ≡ true
    → IsFront copy at text → IsFront copy (length text) text
front_end copy text at (Some k) l f e g = let no : ⊥ = cc in absurd no
front_end copy text at None l f e g =
    let n : at + length (drop at text) ≡ length text = omega (arith, length-drop at text) in
    rw n at (front_then copy at (length (drop at text)) text l g (front_all copy (drop at text) f))

-- a part that is copied has a byte
abbrev HasBytes : Part (List ℕ) → Type 0
HasBytes (Copied run) = 0 < length run
HasBytes (Called call) = ⊤

some_or : (copy : Bool) (letter : ℕ) (bs : List ℕ) (x : SeenText) → HasBytes x.part → HasBytes (unwrap_or (call_cut copy letter bs) x).part
some_or copy letter bs x h = called_or (call_cut copy letter bs) (call_called copy letter bs)
  where
    called_or : (o : Option SeenText) → IfSome o (λ y. HasBytes y.part) → HasBytes (unwrap_or o x).part
    called_or None k = h
    called_or (Some y) k = k

    named : (make : List ℕ → Call (List ℕ)) (o : Option CutText) → IfSome (option_map (λ c. calls (make c.front) c.rest) o) (λ y. HasBytes y.part)
    named make None = tt
    named make (Some c) = tt

    call_called : (copy : Bool) (letter : ℕ) (bs : List ℕ) → IfSome (call_cut copy letter bs) (λ y. HasBytes y.part)
    call_called copy letter bs =
        let either = by_if (λ o. IfSome o (λ (y : SeenText). HasBytes y.part)) in
        either (letter == 42) _ _ (named (λ t. String t) (name_cut bs))
        (either (letter == 110) _ _ (named (λ t. Register t) (name_cut bs))
        (either (letter == 36) _ _ tt
        (either (letter == 119 && not copy) _ _ (named (λ t. Width t) (width_cut bs)) tt)))

escape_some : (copy : Bool) (bs : List ℕ) → HasBytes (escape copy bs).part
escape_some copy [] = omega arith
escape_some copy (letter ∷ bs) =
    by_if (λ x. HasBytes x.part) (is_doubled copy letter) (copies (92 ∷ []) bs) (unwrap_or (call_cut copy letter bs) (pair (letter ∷ bs))) (omega arith)
    (some_or copy letter bs (pair (letter ∷ bs)) (omega arith))

seen_some : (copy : Bool) (b : ℕ) (bs : List ℕ) → HasBytes (seen copy (b ∷ bs)).part
unfolding seen
seen_some copy b bs = by_if (λ x. HasBytes x.part) (b == 92) (escape copy bs) (copies (b ∷ plain bs) (after_plain bs)) (escape_some copy bs) (omega arith)

-- a text of which all bytes are copied
copied_whole : (copy : Bool) (n : ℕ) (text x : List ℕ) → length text ≤ n → copied_bytes (parts copy text) ≡ Some x → copied_front (length x) (parts copy text) ≡ Some (x, [])
unfolding parts parts_up_to
copied_whole copy n [] x l e = let is : [] ≡ x = ap (λ (o : Option (List ℕ)). unwrap_or o []) e in rw (← is) refl
copied_whole copy zero (b ∷ bs) x l e = absurd (omega arith)
copied_whole copy (suc n) (b ∷ bs) x l e =
    let shorter = seen_shorter copy b bs in
    rw (parts_more copy b bs) (first (seen copy (b ∷ bs)).part (seen_some copy b bs) (λ y f. copied_whole copy n (seen copy (b ∷ bs)).rest y (omega arith) f) (rw (parts_more copy b bs) at e))
  where
    rest : List ℕ
    rest = (seen copy (b ∷ bs)).rest

    whole : (run y : List ℕ) (ps : List (Part (List ℕ))) → 0 < length run → copied_front (length y) ps ≡ Some (y, []) → copied_front (length run + length y) (Copied run ∷ ps) ≡ Some (run ++ y, [])
    whole [] y ps h f = absurd (omega arith)
    whole (c ∷ cs) y ps h f =
        let sum : length (c ∷ cs) + length y ≡ suc (length cs + length y) = omega arith in
        let less : suc (length cs + length y) - length (c ∷ cs) ≡ length y = omega arith in
        rw (sum, less, f) refl

    first : (p : Part (List ℕ)) → HasBytes p → ((y : List ℕ) → copied_bytes (parts copy rest) ≡ Some y → copied_front (length y) (parts copy rest) ≡ Some (y, []))
        → copied_bytes (p ∷ parts copy rest) ≡ Some x → copied_front (length x) (p ∷ parts copy rest) ≡ Some (x, [])
    first (Called call) h more f = let no : ⊥ = cc in absurd no
    first (Copied run) h more f =
        let is = map_is (λ bytes. run ++ bytes) (copied_bytes (parts copy rest)) x f in
        let long : length x ≡ length run + length is.0 = ap (λ (t : List ℕ). length t) (sym is.1.1) ∙ length-append run is.0 in
        rw long (whole run is.0 (parts copy rest) h (more is.0 is.1.0) ∙ ap (λ t. Some (t, [])) is.1.1)

pub front_whole : (copy : Bool) (text : List ℕ) → IsVerbatim copy text → IsFront copy (length text) text
unfolding parts parts_up_to
front_whole copy text v = rw (take-length text, drop-length text) (copied_whole copy (length text) text text (omega arith) v)

-- ---- Fronts of texts that are remembered: helpers of proofs.

apart : true ≡ false → ⊥
apart e = let no : ⊥ = cc in no

-- ---- the fronts of one text

-- the bytes before a backslash, or before the text's end
run_front : (text : List ℕ) (k : ℕ) → k ≤ length text → IsRun 0 k text → IsFront false k text
run_front text k l r =
    elim (cases_Bool (nat_lt k (length text))) [
      | inl t ↦
          let below = ltb-true k (length text) t in
          let slash : (get_or text k 0 == 92) ≡ true = let e = r.1 below in grind (arith, nat_tests) in
          front_run false text k (record { low = omega arith; high = below; before = λ i x y z. apart (sym z ∙ r.0 i x y) }, slash)
      | inr f ↦ let all : k ≡ length text = omega (arith, ltb-false k (length text) f) in
          rw all (front_all false text (λ i x y z. apart (sym z ∙ r.0 i x (omega arith))))
    ]

-- a run, and what is copied from its end on
front_from : (text : List ℕ) (at next end : ℕ) → at ≤ next → next ≤ end → end ≤ length text → IsRun at next text → IsFront false (end - next) (drop next text)
    → IsFront false (end - at) (drop at text)
front_from text at next end a b c r f =
    let t = drop at text in
    let m = next - at in
    let long : length t ≡ length text - at = length-drop at text in
    let byte : (k : ℕ) → get_or t k 0 ≡ get_or text (at + k) 0 = λ k. get_or-drop at text k 0 in
    let sum : at + m ≡ next = omega arith in
    let run : IsFront false m t = run_front t m (omega (arith, long))
    (λ k x y. rw (byte k) (r.0 (at + k) (omega arith) (omega arith)), λ y. rw (byte m, sum) (r.1 (omega (arith, long)))) in
    let total : m + (end - next) ≡ end - at = omega arith in
    rw total at (front_then false m (end - next) t (omega (arith, long)) run (rw (drop-drop m at text, sum) f))

-- one more byte
pub run_before : (text : List ℕ) (at next : ℕ) → IsRun (at + 1) next text → get_or text at 0 ≢ 92 → IsRun at next text
run_before text at next r n = (
  λ k x y. elim (cases_Bool (nat_lt at k)) [
    | inl t ↦ r.0 k (omega (arith, ltb-true at k t)) y
    | inr f ↦ let same : k ≡ at = omega (arith, ltb-false at k f) in rw same (grind (arith, nat_tests))
  ],
  r.1,
)

pub run_none : (text : List ℕ) (at : ℕ) → get_or text at 0 ≡ 92 → IsRun at at text
run_none text at e = (λ k x y. absurd (omega arith), λ _. e)

fronts_before : (fronts text : List ℕ) (before at front : ℕ) → before + at < length fronts → AreFronts fronts before text (at + 1) → at + front ≤ length text
    → IsFront false front (drop at text) → AreFronts (set fronts (before + at) front) before text at
fronts_before fronts text before at front w h l f k x y =
    elim (cases_Bool (nat_eq k at)) [
      | inl t ↦
          let same : k ≡ at = eqb-true k at t in
          rw (same, get_or-set_same fronts (before + at) front 0 w) (l, f)
      | inr t ↦
          let other : k ≢ at = grind (arith, nat_tests) in
          let there : before + k ≢ before + at = λ e. other (omega arith) in
          rw (get_or-set_other fronts (before + at) (before + k) front 0 there) (h k (omega arith) y)
    ]

stay_before : (old new : List ℕ) (place at front : ℕ) → StayBefore place old new → StayBefore place old (set new (place + at) front)
stay_before old new place at front h = (
  length-set new (place + at) front ∙ h.0,
  λ k x. get_or-set_other new (place + at) k front 0 (λ e. omega arith) ∙ h.1 k x,
)

-- a byte's front is written
pub fronts_step : (old fronts text : List ℕ) (before at next end : ℕ) → at < length text → before + length text ≤ length old → at ≤ next → next ≤ end → end ≤ length text
    → IsRun at next text → IsFront false (end - next) (drop next text) → AreFronts fronts before text (at + 1) → StayBefore before old fronts
    → AreFronts (set fronts (before + at) (end - at)) before text at × StayBefore before old (set fronts (before + at) (end - at))
fronts_step old fronts text before at next end w room a b c r f h s = (
  fronts_before fronts text before at (end - at) (omega (arith, s.0)) h (omega arith) (front_from text at next end a b c r f),
  stay_before old fronts before at (end - at) s,
)

-- a pair, and what is copied behind it
pub front_pair : (text : List ℕ) (at n m : ℕ) → at + n ≤ length text → IsFront false n (drop at text) → IsFront false m (drop (at + n) text)
    → IsFront false (at + n + m - at) (drop at text)
front_pair text at n m l f g =
    let sum : at + n + m - at ≡ n + m = omega arith in
    rw sum (front_then false n m (drop at text) (omega (arith, length-drop at text)) f (rw (drop-drop n at text) g))

-- all of the numbers were written
pub written_back : (old new : List ℕ) (n : ℕ) → length new ≡ length old → n ≡ length old → take n (new ++ drop (length new) old) ≡ new
written_back old new n e m =
    let none : drop (length new) old ≡ [] = drop_of_length-le old (omega arith) in
    rw (none, append-nil new) (take_all n new (omega arith))

-- ---- the texts

-- behind the texts there may come more
known_more : (texts more old new : List ℕ) (t : KnownText) → StayBefore (length texts) old new → IsKnown texts old t → IsKnown (texts ++ more) new t
known_more texts more old new t s h = (
  h.0,
  omega (arith, h.1, length-append texts more),
  omega (arith, h.2, s.0),
  λ k x y.
      let n = t.end - k in
      let same : take n (drop k (texts ++ more)) ≡ take n (drop k texts) =
      rw (drop-append-le k texts more (omega (arith, h.1))) (take-append-le n (drop k texts) more (omega (arith, length-drop k texts, h.1))) in
      rw (s.1 k (omega (arith, h.1)), same) (h.3 k x y),
)

pub all_more : (texts more old new : List ℕ) (known : List KnownText) → StayBefore (length texts) old new → AreKnown texts old known → AreKnown (texts ++ more) new known
all_more texts more old new known s h = All-weaker (IsKnown texts old) (IsKnown (texts ++ more) new) (λ t k. known_more texts more old new t s k) known h

-- the last text
pub known_last : (texts text fronts : List ℕ) (t : KnownText) → AreFronts fronts (length texts) text 0 → length texts + length text ≤ length fronts
    → t.start ≡ length texts → t.end ≡ length texts + length text → IsKnown (texts ++ text) fronts t
known_last texts text fronts t h room s e = (
  omega arith,
  omega (arith, length-append texts text),
  omega arith,
  λ k x y.
      let i = k - length texts in
      let sum : length texts + i ≡ k = omega arith in
      let n = t.end - k in
      let rest : drop k (texts ++ text) ≡ drop i text = rw sum at (drop-append-add texts text i) in
      let whole : take n (drop i text) ≡ drop i text = take_all n (drop i text) (omega (arith, length-drop i text)) in
      let f = rw sum at (h i (omega arith) (omega arith)) in
      (omega (arith, f.0), rw (rest, whole) f.1),
)
