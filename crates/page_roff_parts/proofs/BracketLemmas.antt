-- What is known of the brackets in a text: helpers of proofs.
use Rattle.std.proofs.Common.{◌≡◌, ℕ, zero, suc, ◌+◌, ◌<◌, Bool, true, false, not, ◌&&◌, ◌||◌, ◌==◌, List, [], ◌∷◌, length, get_or, drop, if◌then◌else◌, Option, None, Some, MatchOption, option_map, unwrap_or, position, refl, arith, ◌≢◌, ◌-◌, ◌≤◌, ◌++◌, take, inl, inr, sym, ap, ◌∙◌, length-drop, append_assoc, append-nil}
use Rattle.std.proofs.lemmas.Bool.{le-ltb, lt-ltb, cases_Bool}
use Rattle.std.proofs.lemmas.List.Sums.{position_or_len_is}
use Rattle.memchr.specs.Find.{IsFirstByte, is_byte}
use Rattle.page_roff_parts.specs.declared.parts.Call.{Call}
use Rattle.page_roff_parts.specs.declared.parts.Call.TheVariants.{String, Register, Width}
use Rattle.page_roff_syntax.specs.Delimiters.{character_len, width_content_len}
use Rattle.page_roff_parts.specs.machine.Verbatim.{has_bracket, IsKnown}
use Rattle.page_roff_parts.specs.Parts.{CutText, SeenText, copies, calls, cut, two_characters, bracketed, name_cut, width_cut, plain, after_plain, argument_call, call_cut, pair, is_doubled, escape, seen, without_lone}
use Rattle.std.proofs.lemmas.List.{drop_more, take_more, take-append-drop}
use Rattle.std.proofs.lemmas.Bool.Decides.{nat_tests}

abbrev pub Lacks : List ℕ → Type 0
Lacks text = has_bracket text ≡ false

first_false : (a b : Bool) → (a || b) ≡ false → a ≡ false
first_false true b h = h
first_false false b h = refl

later_false : (a b : Bool) → (a || b) ≡ false → b ≡ false
later_false true b h = let no : ⊥ = cc in absurd no
later_false false b h = h

-- ---- where a bracket is

lacks_at : (text : List ℕ) (i : ℕ) → Lacks text → i < length text → (get_or text i 0 == 93) ≡ false
lacks_at [] i h l = absurd (omega arith)
lacks_at (b ∷ bs) zero h l = first_false (b == 93) (has_bracket bs) h
lacks_at (b ∷ bs) (suc i) h l = lacks_at bs i (later_false (b == 93) (has_bracket bs) h) (omega arith)

pub lacks_all : (text : List ℕ) → ((i : ℕ) → i < length text → (get_or text i 0 == 93) ≡ false) → Lacks text
lacks_all [] n = refl
lacks_all (b ∷ bs) n = rw (n 0 (omega arith)) (lacks_all bs (λ i l. n (suc i) (omega arith)))

not_true : (b : Bool) → ¬ (b ≡ true) → b ≡ false
not_true true h = absurd (h refl)
not_true false h = refl

pub none_lacks : (text : List ℕ) → IsFirstByte (is_byte 93) text None → Lacks text
none_lacks text h = lacks_all text (λ i l. not_true (get_or text i 0 == 93) (h i (omega arith) l))

pub lacking : (text : List ℕ) → Lacks text → bracketed text ≡ None
lacking text h =
    let n = length text in
    let e = position_or_len_is (λ b. b == 93) text n 0 (omega arith) (λ i l. lacks_at text i h l) (λ l. absurd (omega arith)) in
    rw (e, le-ltb n n (omega arith)) refl

pub bracket_at : (text : List ℕ) (k : ℕ) → IsFirstByte (is_byte 93) text (Some k) → bracketed text ≡ Some (cut k 1 text)
bracket_at text k h =
    let e = position_or_len_is (λ b. b == 93) text k 0 (omega (arith, h.0.high)) (λ i l. not_true (get_or text i 0 == 93) (h.0.before i (omega arith) l)) (λ l. h.1) in
    rw (e, lt-ltb k (length text) h.0.high) refl

-- ---- what follows a part lacks it too

lacks_drop : (k : ℕ) (text : List ℕ) → Lacks text → Lacks (drop k text)
lacks_drop (suc k) (b ∷ bs) h = lacks_drop k bs (later_false (b == 93) (has_bracket bs) h)
lacks_drop _ _ h = h

lacks_if : (c : Bool) (xs ys : List ℕ) → Lacks xs → Lacks ys → Lacks (if c then xs else ys)
lacks_if true xs ys h k = h
lacks_if false xs ys h k = k

lacks_plain : (text : List ℕ) → Lacks text → Lacks (after_plain text)
lacks_plain [] h = h
lacks_plain (b ∷ bs) h = lacks_if (b == 92) (b ∷ bs) (after_plain bs) h (lacks_plain bs (later_false (b == 93) (has_bracket bs) h))

abbrev CutLacks : Option CutText → Type 0
CutLacks o = MatchOption o (Unit {0}) (λ c. Lacks c.rest)

abbrev SeenLacks : Option SeenText → Type 0
SeenLacks o = MatchOption o (Unit {0}) (λ s. Lacks s.rest)

cut_if : (c : Bool) (o p : Option CutText) → CutLacks o → CutLacks p → CutLacks (if c then o else p)
cut_if true o p h k = h
cut_if false o p h k = k

seen_if : (c : Bool) (o p : Option SeenText) → SeenLacks o → SeenLacks p → SeenLacks (if c then o else p)
seen_if true o p h k = h
seen_if false o p h k = k

called_lacks : (make : List ℕ → Call (List ℕ)) (o : Option CutText) → CutLacks o → SeenLacks (option_map (λ c. calls (make c.front) c.rest) o)
called_lacks make None h = tt
called_lacks make (Some c) h = h

cut_lacks : (n : ℕ) (text : List ℕ) (o : Option ℕ) → Lacks text → CutLacks (option_map (λ k. cut k n text) o)
cut_lacks n text None h = tt
cut_lacks n text (Some k) h = lacks_drop (k + n) text h

name_lacks : (text : List ℕ) → Lacks text → CutLacks (name_cut text)
name_lacks [] h = tt
name_lacks (b ∷ bs) h =
    let later = later_false (b == 93) (has_bracket bs) h in
    let n = character_len bs in
    let m = character_len (drop n bs) in
    let one = Some (cut (character_len (b ∷ bs)) 0 (b ∷ bs)) in
    cut_if (b == 40) (two_characters bs) (if b == 91 then bracketed bs else one)
    (cut_if (m == 0) None (Some (cut (n + m) 0 bs)) tt (lacks_drop (n + m + 0) bs later))
    (cut_if (b == 91) (bracketed bs) one (cut_lacks 1 bs (position (λ c. c == 93) bs) later) (lacks_drop (character_len (b ∷ bs) + 0) (b ∷ bs) h))

width_lacks : (text : List ℕ) → Lacks text → CutLacks (width_cut text)
width_lacks text h =
    let n = character_len text in
    cut_lacks n (drop n text) (width_content_len text) (lacks_drop n text h)

call_lacks : (copy : Bool) (letter : ℕ) (bs : List ℕ) → Lacks bs → SeenLacks (call_cut copy letter bs)
call_lacks copy letter bs h =
    let wide = if letter == 119 && not copy then option_map (λ c. calls (Width c.front) c.rest) (width_cut bs) else None in
    let argument = if letter == 36 then Some (argument_call bs) else wide in
    let register = if letter == 110 then option_map (λ c. calls (Register c.front) c.rest) (name_cut bs) else argument in
    seen_if (letter == 42) (option_map (λ c. calls (String c.front) c.rest) (name_cut bs)) register
    (called_lacks (λ t. String t) (name_cut bs) (name_lacks bs h))
    (seen_if (letter == 110) (option_map (λ c. calls (Register c.front) c.rest) (name_cut bs)) argument
    (called_lacks (λ t. Register t) (name_cut bs) (name_lacks bs h))
    (seen_if (letter == 36) (Some (argument_call bs)) wide (lacks_drop (character_len bs) bs h)
    (seen_if (letter == 119 && not copy) (option_map (λ c. calls (Width c.front) c.rest) (width_cut bs)) None
    (called_lacks (λ t. Width t) (width_cut bs) (width_lacks bs h)) tt)))

or_lacks : (o : Option SeenText) (x : SeenText) → SeenLacks o → Lacks x.rest → Lacks (unwrap_or o x).rest
or_lacks None x h k = k
or_lacks (Some y) x h k = h

doubled_lacks : (d copy : Bool) (c : ℕ) (bs : List ℕ) → Lacks (c ∷ bs)
    → Lacks (if d then copies (92 ∷ []) bs else unwrap_or (call_cut copy c bs) (pair (c ∷ bs))).rest
doubled_lacks true copy c bs h = later_false (c == 93) (has_bracket bs) h
doubled_lacks false copy c bs h =
    or_lacks (call_cut copy c bs) (pair (c ∷ bs)) (call_lacks copy c bs (later_false (c == 93) (has_bracket bs) h)) (lacks_drop (character_len (c ∷ bs)) (c ∷ bs) h)

escape_lacks : (copy : Bool) (text : List ℕ) → Lacks text → Lacks (escape copy text).rest
escape_lacks copy [] h = refl
escape_lacks copy (c ∷ bs) h = doubled_lacks (is_doubled copy c) copy c bs h

either_lacks : (copy c : Bool) (b : ℕ) (bs : List ℕ) → Lacks bs → Lacks (if c then escape copy bs else copies (b ∷ plain bs) (after_plain bs)).rest
either_lacks copy true b bs h = escape_lacks copy bs h
either_lacks copy false b bs h = lacks_plain bs h

seen_lacks : (copy : Bool) (text : List ℕ) → Lacks text → Lacks (seen copy text).rest
unfolding seen
seen_lacks copy [] h = refl
seen_lacks copy (b ∷ bs) h = either_lacks copy (b == 92) b bs (later_false (b == 93) (has_bracket bs) h)

-- what is known stays known
pub known_after : (copy u : Bool) (text : List ℕ) (x : SeenText) → IsKnown u text → x ≡ seen copy text → IsKnown u x.rest
known_after copy true text x h e = rw e (seen_lacks copy text h)
known_after copy false text x h e = refl

pub known_drop : (u : Bool) (k : ℕ) (text : List ℕ) → IsKnown u text → IsKnown u (drop k text)
known_drop true k text h = lacks_drop k text h
known_drop false k text h = refl

-- ---- before a bracket is looked for

-- ---- Values and their ends: helpers of proofs.

-- a byte that begins no pair
pub lone_plain : (text : List ℕ) (i : ℕ) → i + 1 < length text → get_or text i 0 ≢ 92
    → without_lone (drop i text) ≡ get_or text i 0 ∷ without_lone (drop (i + 1) text)
unfolding without_lone
lone_plain text i h n =
    let a = drop_more text i 0 (omega arith) in
    let b = drop_more text (i + 1) 0 h in
    let t : (get_or text i 0 == 92) ≡ false = grind (arith, nat_tests) in
    rw (a, b, t) refl

-- a pair
pub lone_pair : (text : List ℕ) (i : ℕ) → i + 1 < length text → get_or text i 0 ≡ 92
    → without_lone (drop i text) ≡ get_or text i 0 ∷ get_or text (i + 1) 0 ∷ without_lone (drop (i + 2) text)
unfolding without_lone
lone_pair text i h e =
    let a = drop_more text i 0 (omega arith) in
    let b = drop_more text (i + 1) 0 h in
    let n : i + 1 + 1 ≡ i + 2 = omega arith in
    let t : (get_or text i 0 == 92) ≡ true = grind (arith, nat_tests) in
    rw (a, b, t, n) refl

-- so far
pub one_more : (text : List ℕ) (i : ℕ) → without_lone text ≡ take i text ++ without_lone (drop i text) → i + 1 < length text → get_or text i 0 ≢ 92
    → without_lone text ≡ take (i + 1) text ++ without_lone (drop (i + 1) text)
one_more text i e h n =
    let t : i < length text = omega arith in
    e ∙ ap (λ l. take i text ++ l) (lone_plain text i h n)
    ∙ sym (ap (λ l. l ++ without_lone (drop (i + 1) text)) (take_more text i 0 t) ∙ append_assoc (take i text) (get_or text i 0 ∷ []) (without_lone (drop (i + 1) text)))

pub two_more : (text : List ℕ) (i : ℕ) → without_lone text ≡ take i text ++ without_lone (drop i text) → i + 1 < length text → get_or text i 0 ≡ 92
    → without_lone text ≡ take (i + 2) text ++ without_lone (drop (i + 2) text)
two_more text i e h n =
    let t : i < length text = omega arith in
    let k : i + 1 + 1 ≡ i + 2 = omega arith in
    let w = without_lone (drop (i + 2) text) in
    e ∙ ap (λ l. take i text ++ l) (lone_pair text i h n)
    ∙ sym (ap (λ l. l ++ w) (rw k at (take_more text (i + 1) 0 h) ∙ ap (λ l. l ++ get_or text (i + 1) 0 ∷ []) (take_more text i 0 t))
    ∙ (append_assoc (take i text ++ get_or text i 0 ∷ []) (get_or text (i + 1) 0 ∷ []) w ∙ append_assoc (take i text) (get_or text i 0 ∷ []) (get_or text (i + 1) 0 ∷ w)))

short_text : (text : List ℕ) → length text ≡ 1 → (get_or text 0 0 == 92) ≡ true → without_lone text ≡ []
unfolding without_lone
short_text (x ∷ []) h e = rw e refl
short_text _ h e = absurd (omega arith)

other_text : (text : List ℕ) → length text ≤ 1 → (0 < length text → (get_or text 0 0 == 92) ≡ false) → without_lone text ≡ text
unfolding without_lone
other_text [] h e = refl
other_text (x ∷ []) h e = rw (e (omega arith)) refl
other_text (x ∷ y ∷ ys) h e = absurd (omega arith)

first_of_drop : (text : List ℕ) (i : ℕ) → i < length text → get_or (drop i text) 0 0 ≡ get_or text i 0
first_of_drop text i h = rw (drop_more text i 0 h) refl

-- a lone backslash at the end
pub lone_end : (text : List ℕ) (i : ℕ) → without_lone text ≡ take i text ++ without_lone (drop i text) → i < length text → length text ≤ i + 1 → get_or text i 0 ≡ 92
    → take i text ≡ without_lone text
lone_end text i e h k n =
    let f = first_of_drop text i h in
    let t : (get_or (drop i text) 0 0 == 92) ≡ true = grind (arith, nat_tests) in
    sym (e ∙ (ap (λ l. take i text ++ l) (short_text (drop i text) (omega (arith, length-drop i text)) t) ∙ append-nil (take i text)))

-- none
pub whole_end : (text : List ℕ) (i : ℕ) → without_lone text ≡ take i text ++ without_lone (drop i text) → i ≤ length text → length text ≤ i + 1
    → (i < length text → get_or text i 0 ≢ 92) → text ≡ without_lone text
whole_end text i e h k n =
    let t : 0 < length (drop i text) → (get_or (drop i text) 0 0 == 92) ≡ false =
    λ l. let less : i < length text = omega (arith, length-drop i text) in let f = first_of_drop text i less in let m = n less in grind (arith, nat_tests) in
    sym (e ∙ (ap (λ l. take i text ++ l) (other_text (drop i text) (omega (arith, length-drop i text)) t) ∙ take-append-drop i text))

-- a value whose last byte is no backslash
pub other_end : (text : List ℕ) → (0 < length text → get_or text (length text - 1) 0 ≢ 92) → without_lone text ≡ text
unfolding without_lone
other_end [] n = refl
other_end (b ∷ []) n =
    let m : b ≢ 92 = n (omega arith) in
    let t : (b == 92) ≡ false = grind (arith, nat_tests) in
    rw t refl
other_end (b ∷ c ∷ bs) n =
    elim (cases_Bool (b == 92)) [
      | inl same ↦
          let rest : 0 < length bs → get_or bs (length bs - 1) 0 ≢ 92 =
          λ some. let e : length (b ∷ c ∷ bs) - 1 ≡ suc (suc (length bs - 1)) = omega (arith, some) in rw e at (n (omega arith)) in
          rw same (ap (λ l. b ∷ c ∷ l) (other_end bs rest))
      | inr other ↦
          let e : length (b ∷ c ∷ bs) - 1 ≡ suc (length (c ∷ bs) - 1) = omega arith in
          rw other (ap (λ l. b ∷ l) (other_end (c ∷ bs) (λ some. rw e at (n (omega arith)))))
    ]
