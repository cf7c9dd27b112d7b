-- A text of printable bytes is the same under each encoding.
use Rattle.std.proofs.Common.{◌≡◌, ℕ, ◌+◌, ◌-◌, ◌<◌, ◌≤◌, get_or, true, List, [], ◌∷◌, ◌++◌, suc, length, take, drop, refl, sym, ap, ◌∙◌, append-nil, append_assoc, length-append, arith, zero, ◌*◌, Bool, false, cond, subst, inl, inr, ◌/◌, ◌%◌, min}
use Rattle.std.specs.Prelude.{nat_le, nat_lt, IsUtf8, ◌==◌, ◌≢◌, ◌&&◌, ◌||◌, ◌⊎◌, codes}
use Rattle.std.specs.List.{list_all}
use Rattle.std.proofs.lemmas.Bool.Decides.{nat_tests, eqb_tells, leb_tells}
use Rattle.page_core_base.specs.declared.page_settings.Encoding.{Encoding}
use Rattle.page_core_base.specs.declared.page_settings.Encoding.TheVariants.{Auto, Latin1, Utf8}
use Rattle.page_roff_decoding.specs.Decoding.{line_limit, Character, good, is_printable, character, later_length, characters_after, characters, all_bytes, choice_of, characters_within, bad_notes, is_second, is_later, sequence_length, bad, latin1_bytes, high_character, bytes_of, bad_character, notes_of}
use Rattle.std.proofs.lemmas.List.{take-append-drop, drop-drop, length-take, length-take-le, drop_all, take_all}
use Rattle.page_roff_decoding.specs.declared.characters.Front.{Front}
use Rattle.page_roff_decoding.specs.machine.Fronts.{as_character, width_of, later_of, size_of}
use Rattle.page_roff_decoding.proofs.ScanLemmas.{FitsSoFar, so_far-more, from, characters-from, characters-at, and_true, rest_of}
use Rattle.std.specs.Int.{is_in_range}
use Rattle.std.proofs.str.Valid.{of_two, of_three, of_four}
use Rattle.std.proofs.str.Laws.{Follows}
use Rattle.page_core_base.specs.Texts.{has_no_control, is_no_control, IsLine}
use Rattle.std.proofs.lemmas.Str.{IsUtf8-append, IsUtf8-nil, IsUtf8-from_ascii}
use Rattle.std.proofs.lemmas.Str.Ascii.{IsAscii-cons, IsAscii-nil}
use Rattle.page_roff_decoding.specs.laws.Views.{line_limit_is}
use Rattle.std.specs.Char.{digit_char}
use Rattle.std.proofs.lemmas.Bool.{agree_below_at}
use Rattle.page_core_base.specs.declared.note_kinds.NoteKind.TheVariants.{BadChar}
use Rattle.page_core_base.specs.Messages.{Message, text_front}
use Rattle.page_core_base.specs.laws.Views.{IsSink}
use Rattle.page_core_base.proofs.LatchLemmas.{whole_front}
use Rattle.page_core_base.specs.Limits.{name_of}
use Rattle.page_core_base.specs.declared.limits.Limit.TheVariants.{Line as LineLimit}
use Rattle.page_roff_decoding.specs.declared.characters.Front.TheVariants.{Same}

-- each byte by itself
abbrev pub singles : List ℕ → List Character
singles [] = []
singles (b ∷ bs) = good (b ∷ []) ∷ singles bs

printable_low : (b : ℕ) → is_printable b ≡ true → nat_lt b 128 ≡ true
printable_low b h = grind (arith, nat_tests)

characters-front : (e : Encoding) (text rest : List ℕ) → list_all is_printable text ≡ true → characters e (text ++ rest) ≡ singles text ++ characters e rest
unfolding characters_after character later_length
characters-front e [] rest h = refl
characters-front e (b ∷ bs) rest h =
    let both = and_true (is_printable b) (list_all is_printable bs) h in
    rw (printable_low b both.0, both.0) (ap (λ cs. good (b ∷ []) ∷ cs) (characters-front e bs rest both.1))

pub characters-plain : (e : Encoding) (text : List ℕ) → list_all is_printable text ≡ true → characters e text ≡ singles text
unfolding characters_after
characters-plain e text h = ap (λ l. characters e l) (sym (append-nil text)) ∙ characters-front e text [] h ∙ append-nil (singles text)

-- what is printable at a place of a text
pub characters-run : (e : Encoding) (text : List ℕ) (at n : ℕ) → list_all is_printable (take n (drop at text)) ≡ true
    → characters e (drop at text) ≡ singles (take n (drop at text)) ++ characters e (drop (at + n) text)
characters-run e text at n h =
    ap (λ l. characters e l) (sym (take-append-drop n (drop at text))) ∙ characters-front e (take n (drop at text)) (drop n (drop at text)) h
    ∙ ap (λ l. singles (take n (drop at text)) ++ characters e l) (drop-drop n at text)

one_fits : (room : ℕ) → 1 ≤ room → nat_le 1 room ≡ true
one_fits room h = grind (arith, nat_tests)

-- printable bytes that fit are done
pub so_far-run : (cs : List Character) (out run : List ℕ) (rest : List Character) → length run ≤ line_limit - length out
    → FitsSoFar cs out (singles run ++ rest) → FitsSoFar cs (out ++ run) rest
so_far-run cs out [] rest h so = rw (append-nil out) so
so_far-run cs out (b ∷ bs) rest h so =
    let one = so_far-more cs out (good (b ∷ [])) (singles bs ++ rest) (one_fits (line_limit - length out) (omega arith)) so in
    rw (append_assoc out (b ∷ []) bs) at (so_far-run cs (out ++ b ∷ []) bs rest (omega (arith, length-append out (b ∷ []))) one)

-- and nothing is to be said of them
pub bad_notes-run : (number room : ℕ) (run : List ℕ) (rest : List Character) → length run ≤ room → room ≤ line_limit
    → bad_notes number (line_limit - room + 1) (characters_within room (singles run ++ rest))
    ≡ bad_notes number (line_limit - (room - length run) + 1) (characters_within (room - length run) rest)
unfolding characters_within bad_notes
bad_notes-run number room [] rest h most = let none : room - 0 ≡ room = omega arith in rw none refl
bad_notes-run number room (b ∷ bs) rest h most =
    let next : line_limit - room + 1 + 1 ≡ line_limit - (room - 1) + 1 = omega arith in
    let same : room - 1 - length bs ≡ room - suc (length bs) = omega arith in
    rw (one_fits room (omega arith), next) (bad_notes-run number (room - 1) bs rest (omega arith) (omega arith) ∙ rw same refl)

-- a run of printable bytes at a place of a text, as a program writes it, was put after what is done
pub so_far-text : (e : Encoding) (text out next : List ℕ) (i n : ℕ) → n ≤ line_limit - length out
    → list_all is_printable (take n (take (length text - i) (drop i text))) ≡ true → next ≡ out ++ take n (take (length text - i) (drop i text))
    → FitsSoFar (characters e text) out (characters e (drop i text)) → FitsSoFar (characters e text) next (characters e (drop (i + n) text))
so_far-text e text out next i n fits plain is so =
    let rest = rest_of text i in
    let run = take n (drop i text) in
    let plain_run = rw rest at plain in
    let is_run = rw rest at is in
    let start = rw (characters-run e text i n plain_run) at so in
    rw is_run (so_far-run (characters e text) out run (characters e (drop (i + n) text)) (omega (arith, length-take n (drop i text))) start)

-- and a character after it comes next
pub so_far-front : (e : Encoding) (text out next : List ℕ) (i n : ℕ) (f : Front) → n ≤ line_limit - length out → list_all is_printable (take n (from text i)) ≡ true
    → next ≡ out ++ take n (from text i) → FitsSoFar (characters e text) out (characters e (drop i text)) → i + n < length text
    → as_character f (from text (i + n)) ≡ character e (get_or (from text (i + n)) 0 0) (from text (i + n))
    → later_of f ≡ later_length e (get_or (from text (i + n)) 0 0) (from text (i + n)) → 0 < width_of f
    → FitsSoFar (characters e text) next (as_character f (drop (i + n) text) ∷ characters e (drop (i + n + width_of f) text))
so_far-front e text out next i n f fits plain is so here value later some =
    rw (characters-from e text (i + n) f here value later some) at (so_far-text e text out next i n fits plain is so)

-- one whose bytes fit is passed over
pub bad_notes-text : (e : Encoding) (number : ℕ) (text : List ℕ) (i n room : ℕ) → n ≤ length (take (length text - i) (drop i text))
    → list_all is_printable (take n (take (length text - i) (drop i text))) ≡ true → n ≤ room → room ≤ line_limit
    → bad_notes number (line_limit - room + 1) (characters_within room (characters e (drop i text)))
    ≡ bad_notes number (line_limit - (room - n) + 1) (characters_within (room - n) (characters e (drop (i + n) text)))
bad_notes-text e number text i n room within plain fits most =
    let rest = rest_of text i in
    let run = take n (drop i text) in
    let plain_run = rw rest at plain in
    let inside = rw rest at within in
    let len = length-take-le n (drop i text) inside in
    rw (characters-run e text i n plain_run)
    (bad_notes-run number room run (characters e (drop (i + n) text)) (omega (arith, len)) most ∙ rw len refl)

pub characters_within-singles : (room : ℕ) (text : List ℕ) → length text ≤ room → characters_within room (singles text) ≡ singles text
unfolding characters_within
characters_within-singles room [] h = refl
characters_within-singles room (b ∷ bs) h =
    rw (one_fits room (omega arith)) (ap (λ cs. good (b ∷ []) ∷ cs) (characters_within-singles (room - 1) bs (omega arith)))

pub all_bytes-singles : (text : List ℕ) → all_bytes (singles text) ≡ text
all_bytes-singles [] = refl
all_bytes-singles (b ∷ bs) = ap (λ l. b ∷ l) (all_bytes-singles bs)

pub bad_notes-singles : (n column : ℕ) (text : List ℕ) → bad_notes n column (singles text) ≡ []
unfolding bad_notes
bad_notes-singles n column [] = refl
bad_notes-singles n column (b ∷ bs) = bad_notes-singles n (column + 1) bs

-- it decides no encoding
pub choice_of-plain : (text : List ℕ) → list_all is_printable text ≡ true → choice_of text ≡ Auto
unfolding choice_of
choice_of-plain [] h = refl
choice_of-plain (b ∷ bs) h =
    let both = and_true (is_printable b) (list_all is_printable bs) h in
    rw (printable_low b both.0) (choice_of-plain bs both.1)

-- ---- A well-formed sequence is the UTF-8 of a character, which is no control character.

three_low : (x y z : ℕ) → 224 ≤ x → 128 ≤ y → (x ≡ 224 → 160 ≤ y) → 2048 ≤ (x - 224) * 4096 + (y - 128) * 64 + (z - 128)
three_low x y z a b low = elim (eqb_tells x 224) [ inl is ↦ let l = low is.1 in omega arith | inr n ↦ let m = n.1 in omega arith ]

three_gap : (x y z : ℕ) → 224 ≤ x → x < 240 → Follows y → Follows z → (x ≡ 237 → y < 160)
    → ((x - 224) * 4096 + (y - 128) * 64 + (z - 128) < 55296) ⊎ (57344 ≤ (x - 224) * 4096 + (y - 128) * 64 + (z - 128))
three_gap x y z a b f g high = elim (eqb_tells x 237) [
  | inl is ↦ let l = high is.1 in inl (omega arith)
  | inr n ↦ elim (leb_tells 237 x) [ inl above ↦ let m = n.1 in inr (omega arith) | inr below ↦ inl (omega arith) ]
]

four_within : (x y : ℕ) → 240 ≤ x → x < 245 → Follows y → (x ≡ 240 → 144 ≤ y) → (x ≡ 244 → y < 144)
    → (16 ≤ (x - 240) * 64 + (y - 128)) × ((x - 240) * 64 + (y - 128) < 272)
four_within x y a b f low high = (
  elim (eqb_tells x 240) [ inl is ↦ let l = low is.1 in omega arith | inr n ↦ let m = n.1 in omega arith ],
  elim (eqb_tells x 244) [ inl is ↦ let l = high is.1 in omega arith | inr n ↦ let m = n.1 in omega arith ],
)

-- what the second byte is
second-C2 : (y : ℕ) → is_second 0xC2 y ≡ true → 160 ≤ y
unfolding is_second
second-C2 y h = grind (arith, nat_tests)

second-E0 : (y : ℕ) → is_second 0xE0 y ≡ true → 160 ≤ y
unfolding is_second
second-E0 y h = grind (arith, nat_tests)

second-ED : (y : ℕ) → is_second 0xED y ≡ true → y < 160
unfolding is_second
second-ED y h = grind (arith, nat_tests)

second-F0 : (y : ℕ) → is_second 0xF0 y ≡ true → 144 ≤ y
unfolding is_second
second-F0 y h = grind (arith, nat_tests)

second-F4 : (y : ℕ) → is_second 0xF4 y ≡ true → y < 144
unfolding is_second
second-F4 y h = grind (arith, nat_tests)

later-follows : (y : ℕ) → is_later y ≡ true → Follows y
later-follows y h = (grind (arith, nat_tests), grind (arith, nat_tests))

range-follows : (lo hi y : ℕ) → 128 ≤ lo → hi < 192 → is_in_range lo hi y ≡ true → Follows y
range-follows lo hi y a b h = (grind (arith, nat_tests), grind (arith, nat_tests))

by_cond : (P : Type 0) (c a b : Bool) → (a ≡ true → P) → (b ≡ true → P) → cond c a b ≡ true → P
by_cond P true a b f g h = f h
by_cond P false a b f g h = g h

second-follows : (x y : ℕ) → is_second x y ≡ true → Follows y
unfolding is_second
second-follows x y =
    by_cond (Follows y) (x == 0xC2 || x == 0xE0) (is_in_range 0xA0 0xBF y) _ (range-follows 0xA0 0xBF y (omega arith) (omega arith))
    (by_cond (Follows y) (x == 0xED) (is_in_range 0x80 0x9F y) _ (range-follows 0x80 0x9F y (omega arith) (omega arith))
    (by_cond (Follows y) (x == 0xF0) (is_in_range 0x90 0xBF y) _ (range-follows 0x90 0xBF y (omega arith) (omega arith))
    (by_cond (Follows y) (x == 0xF4) (is_in_range 0x80 0x8F y) (is_later y) (range-follows 0x80 0x8F y (omega arith) (omega arith)) (later-follows y))))

-- a byte that is not 0 is within the text
within : (text : List ℕ) (i : ℕ) → 0 < get_or text i 0 → i < length text
within [] i h = absurd (omega arith)
within (x ∷ xs) zero h = omega arith
within (x ∷ xs) (suc i) h = let g = within xs i h in omega arith

at_lead : (x y : ℕ) → is_second x y ≡ true → (n : ℕ) → x ≡ n → is_second n y ≡ true
at_lead x y h n e = subst (λ (x : ℕ). is_second x y ≡ true) e h

-- the bytes are characters of a line, whatever precedes them except the first byte of a control character
pub record Fine (bytes : List ℕ) : Type 0 where
  pub utf8 : IsUtf8 bytes
  pub plain : (before : ℕ) (rest : List ℕ) → before ≢ 194 → ((last : ℕ) → last ≢ 194 → has_no_control last rest ≡ true) → has_no_control before (bytes ++ rest) ≡ true

pub both_true : (a b : Bool) → a ≡ true → b ≡ true → (a && b) ≡ true
both_true a b h g = rw (h, g) refl

pub ascii_plain : (before b : ℕ) → before ≢ 194 → 32 ≤ b → b < 127 → is_no_control before b ≡ true
ascii_plain before b h low high = grind (arith, nat_tests)

pub tab_plain : (before : ℕ) → is_no_control before 9 ≡ true
tab_plain before = refl

lead_plain : (before x : ℕ) → 194 ≤ x → is_no_control before x ≡ true
lead_plain before x h = grind (arith, nat_tests)

later_plain : (before y : ℕ) → (160 ≤ y) ⊎ (before ≢ 194) → Follows y → is_no_control before y ≡ true
later_plain before y (inl h) f = let low = f.0 in let high = f.1 in grind (arith, nat_tests)
later_plain before y (inr h) f = let low = f.0 in let high = f.1 in grind (arith, nat_tests)

not_lead : (y : ℕ) → Follows y → y ≢ 194
not_lead y f h = omega (arith, f)

take_two : (text : List ℕ) → 2 ≤ length text → take 2 text ≡ get_or text 0 0 ∷ get_or text 1 0 ∷ []
take_two [] h = absurd (omega arith)
take_two (x ∷ []) h = absurd (omega arith)
take_two (x ∷ y ∷ r) h = refl

take_three : (text : List ℕ) → 3 ≤ length text → take 3 text ≡ get_or text 0 0 ∷ get_or text 1 0 ∷ get_or text 2 0 ∷ []
take_three [] h = absurd (omega arith)
take_three (x ∷ []) h = absurd (omega arith)
take_three (x ∷ y ∷ []) h = absurd (omega arith)
take_three (x ∷ y ∷ z ∷ r) h = refl

take_four : (text : List ℕ) → 4 ≤ length text → take 4 text ≡ get_or text 0 0 ∷ get_or text 1 0 ∷ get_or text 2 0 ∷ get_or text 3 0 ∷ []
take_four [] h = absurd (omega arith)
take_four (x ∷ []) h = absurd (omega arith)
take_four (x ∷ y ∷ []) h = absurd (omega arith)
take_four (x ∷ y ∷ z ∷ []) h = absurd (omega arith)
take_four (x ∷ y ∷ z ∷ w ∷ r) h = refl

pub plain_two : (x y before : ℕ) (rest : List ℕ) → 194 ≤ x → (160 ≤ y) ⊎ (x ≢ 194) → Follows y
    → ((last : ℕ) → last ≢ 194 → has_no_control last rest ≡ true) → has_no_control before (x ∷ y ∷ rest) ≡ true
plain_two x y before rest lead second f go =
    both_true _ _ (lead_plain before x lead) (both_true _ _ (later_plain x y second f) (go y (not_lead y f)))

two : (text : List ℕ) → is_second (get_or text 0 0) (get_or text 1 0) ≡ true → is_in_range 0xC2 0xDF (get_or text 0 0) ≡ true → Fine (take 2 text)
two text s r =
    let x = get_or text 0 0 in
    let y = get_or text 1 0 in
    let f = second-follows x y s in
    let low : 194 ≤ x = grind (arith, nat_tests) in
    let high : x < 224 = grind (arith, nat_tests) in
    let long = within text 1 (omega (arith, f)) in
    let second : (160 ≤ y) ⊎ (x ≢ 194) = elim (eqb_tells x 0xC2) [ inl is ↦ inl (second-C2 y (at_lead x y s 0xC2 is.1)) | inr n ↦ inr n.1 ] in
    record {
      utf8 = of_two text 0 long (low, high) f;
      plain = λ before rest h go. rw (take_two text (omega arith)) (plain_two x y before rest low second f go);
    }

three : (text : List ℕ) → is_second (get_or text 0 0) (get_or text 1 0) ≡ true → is_in_range 0xE0 0xEF (get_or text 0 0) ≡ true
    → is_later (get_or text 2 0) ≡ true → Fine (take 3 text)
three text s r l =
    let x = get_or text 0 0 in
    let y = get_or text 1 0 in
    let z = get_or text 2 0 in
    let f = second-follows x y s in
    let g = later-follows z l in
    let low : 224 ≤ x = grind (arith, nat_tests) in
    let high : x < 240 = grind (arith, nat_tests) in
    let long = within text 2 (omega (arith, g)) in
    record {
      utf8 = of_three text 0 long (low, high) f g
          (three_low x y z low f.0 (λ e. second-E0 y (at_lead x y s 0xE0 e)))
          (three_gap x y z low high f g (λ e. second-ED y (at_lead x y s 0xED e)));
      plain = λ before rest h go. rw (take_three text (omega arith))
          (plain_two x y before (z ∷ rest) (omega arith) (inr (λ e. omega arith)) f
          (λ last h. both_true _ _ (later_plain last z (inr h) g) (go z (not_lead z g))));
    }

four : (text : List ℕ) → is_second (get_or text 0 0) (get_or text 1 0) ≡ true → is_in_range 0xF0 0xF4 (get_or text 0 0) ≡ true
    → is_later (get_or text 2 0) ≡ true → is_later (get_or text 3 0) ≡ true → Fine (take 4 text)
four text s r l k =
    let x = get_or text 0 0 in
    let y = get_or text 1 0 in
    let z = get_or text 2 0 in
    let w = get_or text 3 0 in
    let f = second-follows x y s in
    let g = later-follows z l in
    let j = later-follows w k in
    let low : 240 ≤ x = grind (arith, nat_tests) in
    let high : x < 245 = grind (arith, nat_tests) in
    let long = within text 3 (omega (arith, j)) in
    record {
      utf8 = of_four text 0 long low f g j
          (four_within x y low high f (λ e. second-F0 y (at_lead x y s 0xF0 e)) (λ e. second-F4 y (at_lead x y s 0xF4 e)));
      plain = λ before rest h go. rw (take_four text (omega arith))
          (plain_two x y before (z ∷ w ∷ rest) (omega arith) (inr (λ e. omega arith)) f
          (λ last h. both_true _ _ (later_plain last z (inr h) g) (both_true _ _ (later_plain z w (inr (not_lead z g)) j) (go w (not_lead w j)))));
    }

pub split_true : (a b : Bool) → (a && b) ≡ true → (a ≡ true) × (b ≡ true)
split_true true b h = (refl, h)
split_true false b h = cc

fine_by : (s a b c : Bool) (text : List ℕ) → (s ≡ true → a ≡ true → Fine (take 2 text)) → (s ≡ true → b ≡ true → Fine (take 3 text))
    → (s ≡ true → c ≡ true → Fine (take 4 text)) → (cond s (cond a 2 (cond b 3 (cond c 4 0))) 0 == 0) ≡ false
    → Fine (take (cond s (cond a 2 (cond b 3 (cond c 4 0))) 0) text)
fine_by true true b c text f g h e = f refl refl
fine_by true false true c text f g h e = g refl refl
fine_by true false false true text f g h e = h refl refl
fine_by true false false false text f g h e = cc
fine_by false a b c text f g h e = cc

-- where there is a sequence, its bytes are characters of a line
pub sequence-fine : (text : List ℕ) → (sequence_length text == 0) ≡ false → Fine (take (sequence_length text) text)
unfolding sequence_length
sequence-fine text =
    let x = get_or text 0 0 in
    fine_by (is_second x (get_or text 1 0)) (is_in_range 0xC2 0xDF x) (is_in_range 0xE0 0xEF x && is_later (get_or text 2 0))
    (is_in_range 0xF0 0xF4 x && (is_later (get_or text 2 0) && is_later (get_or text 3 0))) text
    (λ s a. two text s a)
    (λ s b. let p = split_true _ _ b in three text s p.0 p.1)
    (λ s c. let p = split_true _ _ c in let q = split_true _ _ p.1 in four text s p.0 q.0 q.1)

-- ---- A decoded text is a line: UTF-8 without control characters but the tab.

-- a printable byte of ASCII, or a tab
fine_ascii : (b : ℕ) → 32 ≤ b → b < 127 → Fine (b ∷ [])
fine_ascii b low high = record {
  utf8 = IsUtf8-from_ascii (b ∷ []) (IsAscii-cons b [] (omega arith) IsAscii-nil);
  plain = λ before rest h go. both_true _ _ (ascii_plain before b h low high) (go b (λ e. omega arith));
}

fine_tab : Fine (9 ∷ [])
fine_tab = record {
  utf8 = IsUtf8-from_ascii (9 ∷ []) (IsAscii-cons 9 [] (omega arith) IsAscii-nil);
  plain = λ before rest h go. both_true _ _ (tab_plain before) (go 9 (λ e. cc));
}

fine_printable : (b : ℕ) → is_printable b ≡ true → Fine (b ∷ [])
fine_printable b h = elim (eqb_tells b 9) [
  | inl is ↦ subst (λ (c : ℕ). Fine (c ∷ [])) (sym is.1) fine_tab
  | inr n ↦
      let m = n.1 in
      let low : 32 ≤ b = grind (arith, nat_tests) in
      let high : b < 127 = grind (arith, nat_tests) in
      fine_ascii b low high
]

fine_latin1 : (b : ℕ) → 160 ≤ b → b < 256 → Fine (latin1_bytes b)
fine_latin1 b low high =
    let x : ℕ = 192 + b / 64 in
    let y : ℕ = 128 + b % 64 in
    let lead : 194 ≤ x = omega arith in
    let most : x < 224 = omega arith in
    let later : (128 ≤ y) × (y < 192) = (omega arith, omega arith) in
    let second : (160 ≤ y) ⊎ (x ≢ 194) = elim (leb_tells 192 b) [ inl h ↦ inr (λ e. omega arith) | inr h ↦ inl (omega arith) ] in
    record {
      utf8 = of_two (x ∷ y ∷ []) 0 (omega arith) (lead, most) later;
      plain = λ before rest h go. plain_two x y before rest lead second later go;
    }

-- each character is fine
abbrev AllFine : List Character → Type 0
AllFine [] = Unit {0}
AllFine (c ∷ cs) = Fine (bytes_of c) × AllFine cs

fine_question : Fine (63 ∷ [])
fine_question = fine_ascii 63 (omega arith) (omega arith)

either_fine : (c : Bool) (x y : Character) → (c ≡ true → Fine (bytes_of x)) → (c ≡ false → Fine (bytes_of y)) → Fine (bytes_of (cond c x y))
either_fine true x y f g = f refl
either_fine false x y f g = g refl

high_character-fine : (e : Encoding) (b : ℕ) (text : List ℕ) → b < 256 → Fine (bytes_of (high_character e b text))
unfolding high_character
high_character-fine Utf8 b text h =
    either_fine (sequence_length text == 0) (bad b) (good (take (sequence_length text) text)) (λ _. fine_question) (λ n. sequence-fine text n)
high_character-fine Latin1 b text h =
    either_fine (nat_lt b 160) (bad b) (good (latin1_bytes b)) (λ _. fine_question) (λ n. let low : 160 ≤ b = grind (arith, nat_tests) in fine_latin1 b low h)
high_character-fine _ b text h = fine_question

character-fine : (e : Encoding) (b : ℕ) (text : List ℕ) → b < 256 → Fine (bytes_of (character e b text))
unfolding character
character-fine e b text h =
    either_fine (is_printable b) (good (b ∷ [])) (cond (nat_lt b 128) (bad b) (high_character e b text)) (λ p. fine_printable b p)
    (λ _. either_fine (nat_lt b 128) (bad b) (high_character e b text) (λ _. fine_question) (λ _. high_character-fine e b text h))

characters_after-fine : (e : Encoding) (n : ℕ) (text : List ℕ) → ((i : ℕ) → get_or text i 0 < 256) → AllFine (characters_after e n text)
unfolding characters_after
characters_after-fine e n [] h = tt
characters_after-fine e (suc n) (b ∷ bs) h = characters_after-fine e n bs (λ i. h (suc i))
characters_after-fine e zero (b ∷ bs) h =
    (character-fine e b (b ∷ bs) (h 0), characters_after-fine e (later_length e b (b ∷ bs)) bs (λ i. h (suc i)))

either_all : (c : Bool) (xs : List Character) → AllFine xs → AllFine (cond c xs [])
either_all true xs h = h
either_all false xs h = tt

characters_within-fine : (room : ℕ) (cs : List Character) → AllFine cs → AllFine (characters_within room cs)
unfolding characters_within
characters_within-fine room [] h = tt
characters_within-fine room (c ∷ cs) h =
    either_all (nat_le (length (bytes_of c)) room) (c ∷ characters_within (room - length (bytes_of c)) cs) (h.0, characters_within-fine (room - length (bytes_of c)) cs h.1)

all_bytes-utf8 : (cs : List Character) → AllFine cs → IsUtf8 (all_bytes cs)
all_bytes-utf8 [] h = IsUtf8-nil
all_bytes-utf8 (c ∷ cs) h = IsUtf8-append (bytes_of c) (all_bytes cs) h.0.utf8 (all_bytes-utf8 cs h.1)

all_bytes-plain : (cs : List Character) (before : ℕ) → before ≢ 194 → AllFine cs → has_no_control before (all_bytes cs) ≡ true
all_bytes-plain [] before n h = refl
all_bytes-plain (c ∷ cs) before n h = h.0.plain before (all_bytes cs) n (λ last m. all_bytes-plain cs last m h.1)

-- what fits, fits
either_short : (c : Bool) (a b room : ℕ) (cs : List Character) → (c ≡ true → length (all_bytes cs) ≤ room) → length (all_bytes (cond c cs [])) ≤ room
either_short true a b room cs h = h refl
either_short false a b room cs h = omega arith

characters_within-short : (room : ℕ) (cs : List Character) → length (all_bytes (characters_within room cs)) ≤ room
unfolding characters_within
characters_within-short room [] = omega arith
characters_within-short room (c ∷ cs) =
    let size = length (bytes_of c) in
    either_short (nat_le size room) 0 0 room (c ∷ characters_within (room - size) cs)
    (λ fits.
    let rest = characters_within-short (room - size) cs in
    let le : size ≤ room = grind (arith, nat_tests) in
    omega (arith, length-append (bytes_of c) (all_bytes (characters_within (room - size) cs))))

pub decode_line-is_line : (e : Encoding) (text : List ℕ) → ((i : ℕ) → get_or text i 0 < 256) → IsLine (all_bytes (characters_within line_limit (characters e text)))
decode_line-is_line e text h =
    let fine = characters_within-fine line_limit (characters e text) (characters_after-fine e 0 text h) in
    let short = characters_within-short line_limit (characters e text) in
    let limit = line_limit_is in
    record {
      utf8 = all_bytes-utf8 _ fine;
      bounded = omega (arith, short, limit);
      plain = all_bytes-plain _ 0 (λ n. cc) fine;
    }

-- a text of printable bytes
pub singles_fine : (text : List ℕ) → list_all is_printable text ≡ true → IsUtf8 text × ((before : ℕ) → before ≢ 194 → has_no_control before text ≡ true)
singles_fine [] h = (IsUtf8-nil, λ before n. refl)
singles_fine (b ∷ bs) h =
    let both = split_true (is_printable b) (list_all is_printable bs) h in
    let one = fine_printable b both.0 in
    let rest = singles_fine bs both.1 in
    (IsUtf8-append (b ∷ []) bs one.utf8 rest.0, λ before n. one.plain before bs n rest.1)

pub plain-is_line : (text : List ℕ) → list_all is_printable text ≡ true → length text ≤ 65536 → IsLine text
plain-is_line text h short =
    let fine = singles_fine text h in
    record { utf8 = fine.0; bounded = short; plain = fine.1 0 (λ n. cc) }

-- ---- The messages about the bytes of a line that are no characters, one by one.

size_is : (f : Front) (text : List ℕ) → width_of f ≤ length text → length (bytes_of (as_character f text)) ≡ size_of f
size_is (Same n) text h = length-take-le n text h
size_is _ text h = refl

fits_true : (a b : ℕ) → a ≤ b → nat_le a b ≡ true
fits_true a b h = grind (arith, nat_tests)

fits_false : (a b : ℕ) → b < a → nat_le a b ≡ false
fits_false a b h = grind (arith, nat_tests)

front_fits : (number room column size : ℕ) (c : Character) (rest : List Character) → length (bytes_of c) ≡ size → size ≤ room → room ≤ line_limit
    → column ≡ line_limit - room + 1
    → bad_notes number (line_limit - room + 1) (characters_within room (c ∷ rest))
    ≡ notes_of number column c ++ bad_notes number (line_limit - (room - size) + 1) (characters_within (room - size) rest)
unfolding characters_within bad_notes
front_fits number room column size c rest is fits most at =
    let next : line_limit - room + 1 + size ≡ line_limit - (room - size) + 1 = omega arith in
    rw (is, fits_true size room fits, ← next, at) (rw is refl)

front_stops : (number room column size : ℕ) (c : Character) (rest : List Character) → length (bytes_of c) ≡ size → room < size
    → bad_notes number column (characters_within room (c ∷ rest)) ≡ []
unfolding characters_within bad_notes
front_stops number room column size c rest is over = rw (is, fits_false size room over) refl

-- the character at a place of the text fits
pub bad_notes-more : (e : Encoding) (number : ℕ) (text : List ℕ) (at room column size : ℕ) (f : Front) → at < length text
    → as_character f (drop at text) ≡ character e (get_or (drop at text) 0 0) (drop at text)
    → later_of f ≡ later_length e (get_or (drop at text) 0 0) (drop at text) → 0 < width_of f → width_of f ≤ length (drop at text)
    → size ≡ size_of f → size ≤ room → room ≤ line_limit → column ≡ line_limit - room + 1
    → bad_notes number (line_limit - room + 1) (characters_within room (characters e (drop at text)))
    ≡ notes_of number column (as_character f (drop at text))
    ++ bad_notes number (line_limit - (room - size) + 1) (characters_within (room - size) (characters e (drop (at + width_of f) text)))
bad_notes-more e number text at room column size f some value later wide within is fits most col =
    rw (characters-at e text at f some value later wide)
    (front_fits number room column size (as_character f (drop at text)) _ (size_is f (drop at text) within ∙ sym is) fits most col)

-- it doesn't
pub bad_notes-stop : (e : Encoding) (number : ℕ) (text : List ℕ) (at room column size : ℕ) (f : Front) → at < length text
    → as_character f (drop at text) ≡ character e (get_or (drop at text) 0 0) (drop at text)
    → later_of f ≡ later_length e (get_or (drop at text) 0 0) (drop at text) → 0 < width_of f → width_of f ≤ length (drop at text)
    → size ≡ size_of f → room < size → bad_notes number column (characters_within room (characters e (drop at text))) ≡ []
bad_notes-stop e number text at room column size f some value later wide within is over =
    rw (characters-at e text at f some value later wide)
    (front_stops number room column size (as_character f (drop at text)) _ (size_is f (drop at text) within ∙ sym is) over)

-- the text's end
pub bad_notes-end : (e : Encoding) (number : ℕ) (text : List ℕ) (at room column : ℕ) → length text ≤ at
    → bad_notes number column (characters_within room (characters e (drop at text))) ≡ []
unfolding characters_after characters_within bad_notes
bad_notes-end e number text at room column h = rw (drop_all at text h) refl

-- a text that is printable is a detail as it is
pub whole_detail : (text : List ℕ) → list_all is_printable text ≡ true → length text ≤ 64 → text_front 64 text ≡ text
whole_detail text plain short =
    let all = take_all (length text) text (omega arith) in
    let len : length text ≡ min 64 (length text) = omega arith in
    sym (whole_front 64 text (length text) text len (sym all) (rw all (singles_fine text plain).0))

-- a run of printable bytes is passed over, and then a character that fits
pub bad_notes-front : (e : Encoding) (number : ℕ) (text : List ℕ) (i n room size : ℕ) (f : Front) → n ≤ length (from text i)
    → list_all is_printable (take n (from text i)) ≡ true → n ≤ room → room ≤ line_limit → i + n < length text
    → as_character f (from text (i + n)) ≡ character e (get_or (from text (i + n)) 0 0) (from text (i + n))
    → later_of f ≡ later_length e (get_or (from text (i + n)) 0 0) (from text (i + n)) → 0 < width_of f → width_of f ≤ length (from text (i + n)) → size ≡ size_of f → size ≤ room - n
    → bad_notes number (line_limit - room + 1) (characters_within room (characters e (drop i text)))
    ≡ notes_of number (65536 - (room - n) + 1) (as_character f (drop (i + n) text))
    ++ bad_notes number (line_limit - (room - n - size) + 1) (characters_within (room - n - size) (characters e (drop (i + n + width_of f) text)))
bad_notes-front e number text i n room size f inside plain fits most here value later some within is left =
    let rest = rest_of text (i + n) in
    let limit = line_limit_is in
    bad_notes-text e number text i n room inside plain fits most
    ∙ bad_notes-more e number text (i + n) (room - n) (65536 - (room - n) + 1) size f here (rw rest at value) (rw rest at later) some (rw rest at within) is left (omega arith) (omega (arith, limit))

digit : (d : ℕ) → d < 16 → is_printable (digit_char d) ≡ true
digit d h = agree_below_at (λ d. is_printable (digit_char d)) (λ _. true) 16 d refl h

pub hex_detail : (b : ℕ) → b < 256
    → text_front 64 (codes "0x" ++ digit_char (b / 16) ∷ digit_char (b % 16) ∷ []) ≡ codes "0x" ++ digit_char (b / 16) ∷ digit_char (b % 16) ∷ []
hex_detail b h =
    whole_detail _ (rw (digit (b / 16) (omega arith), digit (b % 16) (omega arith)) refl) (omega arith)

pub limit_detail : text_front 64 (name_of LineLimit) ≡ name_of LineLimit
limit_detail = whole_detail (name_of LineLimit) refl (omega arith)

-- a sink that does not take messages about bytes that are no characters was given all of them
pub untaken : {S : Type 0} {gave within : S → List Message → S → Type 0} → IsSink gave within → (s : S)
    → ((message : Message) → message.kind ≡ BadChar → gave s (message ∷ []) s)
    → (number column : ℕ) (cs : List Character) → gave s (bad_notes number column cs) s
unfolding bad_notes
untaken k s h number column [] = k.none s
untaken k s h number column (good bytes ∷ cs) = untaken k s h number (column + length bytes) cs
untaken k s h number column (bad b ∷ cs) =
    k.more s s s (bad_character number column b ∷ []) _ (h (bad_character number column b) refl) (untaken k s h number (column + 1) cs)
