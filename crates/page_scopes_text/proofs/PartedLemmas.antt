-- The words of a text, token by token.
use Rattle.std.proofs.Common.{◌≡◌, ℕ, zero, ◌+◌, ◌<◌, ◌≤◌, ◌||◌, cond, not, nat_lt, Bool, true, false, List, [], ◌∷◌, ◌++◌, length, take, drop, refl, ap, ◌∙◌, arith, sym, suc, length-drop, Option, None, Some, inl, inr, ◌-◌, ◌==◌, ◌&&◌, map, ap₂, append-nil, append_assoc, length-append}
use Rattle.std.specs.List.{list_all, prefix_len, list_any}
use Rattle.std.proofs.lemmas.List.Folds.{length-prefix_len, list_all-append}
use Rattle.std.proofs.lemmas.Bool.{cases_Bool}
use Rattle.std.proofs.lemmas.Bool.Decides.{nat_tests}
use Rattle.std.proofs.lemmas.Grind.{common_steps}
use Rattle.page_core_base.specs.Bytes.{is_white, begins_white}
use Rattle.page_core_base.specs.laws.Views.{is_word, is_lettered, is_printable, is_printable_ascii, letters_of, word_letters}
use Rattle.page_core_base.specs.declared.places.Place.{Place}
use Rattle.page_core_escapes.specs.Tokens.{TextToken, white, plain, is_space, prints_itself, token_at, token_len, escaped, quotes, token_bytes}
use Rattle.page_core_escapes.specs.laws.Views.{begins_word}
use Rattle.page_core_escapes.specs.Meanings.{escape_of, read_escape, Face, is_known}
use Rattle.page_core_escapes.specs.Lengths.{escape_len}
use Rattle.page_core_escapes.proofs.Contents.{escape_len-some}
use Rattle.page_core_escapes.proofs.Unwinding.{tokens_more as text_tokens, tokens_none, word_token, not_white, space_token, white_first}
use Rattle.page_scopes_text.specs.Texts.{printed_items, tokens_items, Parted, after_token, parted, words_of, parts_items}
use Rattle.page_scopes_words.specs.Words.{pen_after, pen_through, is_glue, token_prints, tokens_notes}
use Rattle.page_scopes_words.specs.declared.pens.Pen.{Pen}
use Rattle.page_scopes_text.specs.laws.Views.{spaced_front}
use Rattle.page_scopes_text.specs.machine.Letters.{ReadsPlain, Lettered, ReadsLetters, inside, ReadsToken, later_items}
use Rattle.std.proofs.lemmas.List.{drop_all, length-map, map-append, take_all, length-take-le}
use Rattle.page_core_base.specs.Rows.{Item, shown, hyphen, parts_after, parts_of}
use Rattle.page_core_base.proofs.LatchLemmas.{whole-first, joined, joined-parts}
use Rattle.page_core_base.specs.declared.cells.Cell.{Cell}
use Rattle.page_core_base.specs.declared.cells.Font.{Font}
use Rattle.page_core_base.specs.declared.pieces.Piece.{Piece}
use Rattle.page_core_base.specs.declared.pieces.Piece.TheVariants.{Char, Text, Split}
use Rattle.page_core_escapes.specs.Meanings as meanings
use Rattle.page_scopes_words.specs.declared.settings.Setting.{Setting}
use Rattle.page_scopes_words.specs.declared.fonts.Fonts.{Fonts}
use Rattle.page_scopes_words.specs.Fonts.{fonts_after, face_fonts}
use Rattle.page_scopes_words.specs.machine.Letters.{letters_in}
use Rattle.page_core_escapes.specs.machine.Steps.{ShortFont}

token_before : (token : TextToken) (text : Parted) → is_space token ≡ false → after_token token text ≡ record { word = token ∷ text.word; others = text.others }
token_before (white bytes) text h = let no : ⊥ = cc in absurd no
token_before _ text h = refl

-- a word goes on with its first token
pub words_more : (quoted : Bool) (text : List ℕ) (n : ℕ) → begins_word text ≡ true → 0 < n → n ≡ token_len quoted text
    → words_of quoted text
    ≡ record { word = token_at quoted text ∷ (words_of quoted (drop n text)).word; others = (words_of quoted (drop n text)).others }
words_more quoted [] n h k e = grind arith
words_more quoted (b ∷ bs) n h k e = grind (arith, text_tokens, token_before, word_token, not_white)

pub white_token : (quoted : Bool) (b : ℕ) (bs : List ℕ) → is_white b ≡ true → token_at quoted (b ∷ bs) ≡ white (take (prefix_len is_white (b ∷ bs)) (b ∷ bs))
unfolding token_at
white_token quoted b bs h = rw h refl

white_bytes : (quoted : Bool) (b : ℕ) (bs : List ℕ) → is_white b ≡ true → token_at quoted (b ∷ bs) ≡ white (take (token_len quoted (b ∷ bs)) (b ∷ bs))
white_bytes quoted b bs h = grind (arith, common_steps, white_token, length-prefix_len)

white_fst : (b : ℕ) (bs : List ℕ) → begins_white (b ∷ bs) ≡ true → is_white b ≡ true
white_fst b bs h = h

-- white space parts what follows it from what is before it
pub spaced_more : (quoted : Bool) (text : List ℕ) (n : ℕ) → begins_white text ≡ true → 0 < n → n ≡ token_len quoted text
    → words_of quoted text ≡ record { word = []; others = spaced_front quoted text ∷ (words_of quoted (drop n text)).others }
spaced_more quoted [] n h k e = grind arith
spaced_more quoted (b ∷ bs) n h k e = grind (arith, text_tokens, white_bytes, white_fst)

pub white_some : (quoted : Bool) (text : List ℕ) → begins_white text ≡ true → 0 < token_len quoted text
white_some quoted [] h = grind arith
white_some quoted (b ∷ bs) t = rw (white_token quoted b bs t, length-prefix_len is_white (b ∷ bs), t) (omega arith)

pub words_none : (quoted : Bool) (text : List ℕ) → length text ≤ 0 → words_of quoted text ≡ record { word = []; others = [] }
words_none quoted text h = ap parted (tokens_none quoted text h)

-- where white space or nothing is at the front, no word is
pub no_word : (quoted : Bool) (text : List ℕ) → begins_word text ≡ false → (words_of quoted text).word ≡ []
no_word quoted [] h = ap (λ (t : Parted). t.word) (words_none quoted [] (omega arith))
no_word quoted (b ∷ bs) h =
    let t = white_first b bs h in
    ap (λ (p : Parted). p.word) (spaced_more quoted (b ∷ bs) (token_len quoted (b ∷ bs)) t (white_some quoted (b ∷ bs) t) refl)

-- where a text goes on and no word is at its front, white space is
pub white_front : (text : List ℕ) → 0 < length text → begins_word text ≡ false → begins_white text ≡ true
white_front [] h w = absurd (omega arith)
white_front (b ∷ bs) h w = white_first b bs w

-- ---- the token at a text's front has a byte

take_some : (n b : ℕ) (bs : List ℕ) → 0 < n → 0 < length (take n (b ∷ bs))
take_some zero b bs h = absurd (omega arith)
take_some (suc n) b bs h = omega arith

read_some : (quoted : Bool) (text : List ℕ) (len : Option ℕ) → 0 < length text → ((n : ℕ) → len ≡ Some n → 0 < n) → 0 < (read_escape quoted text len).1
read_some quoted text None h k = h
read_some quoted text (Some n) h k = k n refl

escape_some : (quoted : Bool) (b : ℕ) (bs : List ℕ) → 0 < (escape_of quoted (b ∷ bs)).1
unfolding escape_of
escape_some quoted b bs = read_some quoted (b ∷ bs) (escape_len quoted (b ∷ bs)) (omega arith) (λ n h. escape_len-some quoted (b ∷ bs) n h)

token_some : (quoted : Bool) (b : ℕ) (bs : List ℕ) → is_white b ≡ false → 0 < token_len quoted (b ∷ bs)
unfolding token_at
token_some quoted b bs t = grind (arith, take_some, escape_some)

pub word_some : (quoted : Bool) (text : List ℕ) → begins_word text ≡ true → 0 < token_len quoted text
word_some quoted [] h = grind arith
word_some quoted (b ∷ bs) h = token_some quoted b bs (not_white b bs h)

-- what a word's first token gives, and what its other tokens give
pub tokens_more : (quoted : Bool) (place : Place) (pen : Pen) (text : List ℕ) (n : ℕ) → begins_word text ≡ true → 0 < n → n ≡ token_len quoted text
    → tokens_items quoted place pen (words_of quoted text).word
    ≡ printed_items quoted pen.splits pen.fonts.value.font place (token_at quoted text) ++ tokens_items quoted place (pen_after pen (token_at quoted text)) (words_of quoted (drop n text)).word
tokens_more quoted place pen text n h k e = ap (λ (t : Parted). tokens_items quoted place pen t.word) (words_more quoted text n h k e)

pub pen_more : (quoted : Bool) (pen : Pen) (text : List ℕ) (n : ℕ) → begins_word text ≡ true → 0 < n → n ≡ token_len quoted text
    → pen_through pen (words_of quoted text).word ≡ pen_through (pen_after pen (token_at quoted text)) (words_of quoted (drop n text)).word
pen_more quoted pen text n h k e = ap (λ (t : Parted). pen_through pen t.word) (words_more quoted text n h k e)

pub others_same : (quoted : Bool) (text : List ℕ) (n : ℕ) → begins_word text ≡ true → 0 < n → n ≡ token_len quoted text
    → (words_of quoted (drop n text)).others ≡ (words_of quoted text).others
others_same quoted text n h k e = sym (ap (λ (t : Parted). t.others) (words_more quoted text n h k e))

pub front_not_space : (quoted : Bool) (text : List ℕ) → begins_word text ≡ true → is_space (token_at quoted text) ≡ false
front_not_space quoted [] h = grind arith
front_not_space quoted (b ∷ bs) h = word_token quoted b bs (not_white b bs h)

-- ---- a word that prints itself

pub plain_begins : (quoted : Bool) (text word : List ℕ) → token_at quoted text ≡ plain word → 0 < length word → length word ≤ length text → begins_word text ≡ true
plain_begins quoted [] word e h k = absurd (omega (arith, h, k))
plain_begins quoted (b ∷ bs) word e h k =
    elim (cases_Bool (is_white b)) [ inl t ↦ absurd (never (sym (space_token quoted b bs t) ∙ ap is_space e)) | inr f ↦ rw f refl ]
  where
    never : true ≡ false → ⊥
    never e = grind (arith, e)

-- the one token of a word, where no word goes on after it
pub reads_plain : (quoted : Bool) (text word : List ℕ) → token_at quoted text ≡ plain word → 0 < length word → length word ≤ length text
    → is_word word ≡ true → begins_word (drop (length word) text) ≡ false → ReadsPlain quoted text word (drop (length word) text)
reads_plain quoted text word e h k is ends =
    let w = plain_begins quoted text word e h k in
    let len : length word ≡ token_len quoted text = rw e refl in
    record {
      len = omega (arith, length-drop (length word) text, k);
      is_a_word = is;
      only = ap (λ (t : Parted). t.word) (words_more quoted text (length word) w h len) ∙ rw (e, no_word quoted (drop (length word) text) ends) refl;
      ends = ends;
      others = others_same quoted text (length word) w h len;
    }

-- what prints itself at a text's front is its first token
pub plain_token : (quoted : Bool) (text : List ℕ) → 0 < prefix_len (prints_itself quoted) text → token_at quoted text ≡ plain (take (prefix_len (prints_itself quoted) text) text)
unfolding token_at
plain_token quoted [] h = absurd (omega arith)
plain_token quoted (b ∷ bs) h = grind arith

-- what prints itself has no blank
no_blank : (x y z : Bool) → not ((x || y) || z) ≡ true → not x ≡ true
no_blank true y z h = h
no_blank false y z h = refl

front_without : (b : Bool) (q : ℕ → Bool) (x : ℕ) (xs : List ℕ) (n m : ℕ) → (b ≡ true → q x ≡ true) → suc n ≤ cond b (1 + m) 0
    → (n ≤ m → list_all q (take n xs) ≡ true) → list_all q (take (suc n) (x ∷ xs)) ≡ true
front_without true q x xs n m w h g = rw (w refl) (g (omega arith))
front_without false q x xs n m w h g = absurd (omega arith)

pub all_before : (p q : ℕ → Bool) → ((x : ℕ) → p x ≡ true → q x ≡ true) → (xs : List ℕ) (n : ℕ) → n ≤ prefix_len p xs → list_all q (take n xs) ≡ true
all_before p q w xs zero h = refl
all_before p q w [] (suc n) h = refl
all_before p q w (x ∷ xs) (suc n) h = front_without (p x) q x xs n (prefix_len p xs) (w x) h (all_before p q w xs n)

some_less : (n : ℕ) → 0 < n → nat_lt 0 n ≡ true
some_less n h = grind (arith, nat_tests, h)

-- some bytes that print themselves are a word
pub plain_word : (quoted : Bool) (text : List ℕ) (n : ℕ) → n ≡ prefix_len (prints_itself quoted) text → 0 < length (take n text) → is_word (take n text) ≡ true
plain_word quoted text n e some = grind (arith, all_before, no_blank, some_less)

pub reads_front : (quoted : Bool) (text : List ℕ) (n : ℕ) → n ≡ prefix_len (prints_itself quoted) text → n ≤ length text → 0 < length (take n text)
    → begins_word (drop n text) ≡ false → ReadsPlain quoted text (take n text) (drop n text)
reads_front quoted text n e k some ends =
    let len : length (take n text) ≡ n = rw e (length-prefix_len (prints_itself quoted) text) in
    let token : token_at quoted text ≡ plain (take n text) = rw e (plain_token quoted text (omega (arith, len, some, e))) in
    rw len at (reads_plain quoted text (take n text) token some (omega (arith, len, k)) (plain_word quoted text n e some) (rw len ends))

-- ---- one blank

no_white : (text : List ℕ) → begins_word text ≡ true → prefix_len is_white text ≡ 0
no_white [] h = refl
no_white (b ∷ bs) h = rw (not_white b bs h) refl

pub blank_len : (quoted : Bool) (text : List ℕ) → begins_word text ≡ true → token_len quoted (32 ∷ text) ≡ 1
unfolding token_at
blank_len quoted text h = rw (no_white text h) refl

-- ---- Letters of a word, token by token.

-- ---- tokens that are letters

pub plain_lettered : (bytes : List ℕ) → is_word bytes ≡ true → parts_of bytes ≡ bytes ∷ [] → Lettered (plain bytes) bytes
plain_lettered [] is one = let no : ⊥ = cc in absurd no
plain_lettered (b ∷ bytes) is one = record {
  notes = λ quoted place. refl;
  glues = refl;
  prints = grind (arith, nat_tests);
  items = λ quoted font place. (Text (b ∷ bytes) font place ∷ [], rw one refl, rw is refl, append-nil (letters_in font (b ∷ bytes)));
}

pub quote_lettered : (bytes : List ℕ) → Lettered (quotes bytes) (34 ∷ [])
quote_lettered bytes = record {
  notes = λ quoted place. refl;
  glues = refl;
  prints = refl;
  items = λ quoted font place. (Char 34 font place ∷ [], refl, refl, refl);
}

pub char_lettered : (bytes : List ℕ) (c : ℕ) → (c == 32) ≡ false → Lettered (escaped bytes (meanings.character c)) (c ∷ [])
char_lettered bytes c h = record {
  notes = λ quoted place. refl;
  glues = refl;
  prints = refl;
  items = λ quoted font place. (Char c font place ∷ [], refl, rw h refl, refl);
}

pub font_lettered : (bytes : List ℕ) (font : Face) → is_known font ≡ true → Lettered (escaped bytes (meanings.face font)) []
font_lettered bytes font h = grind arith

-- the bytes of a token that print themselves are a word
pub plain_letters : (quoted : Bool) (text bytes : List ℕ) → token_at quoted text ≡ plain bytes → 0 < length bytes → is_word bytes ≡ true
unfolding token_at
plain_letters quoted [] bytes e some = grind arith
plain_letters quoted (b ∷ bs) bytes e some =
    elim (cases_Bool (is_white b)) [
      | inl t ↦ let is = rw t at e in let no : ⊥ = cc in absurd no
      | inr t ↦ elim (cases_Bool (b == 92)) [
        | inl k ↦ let is = rw (t, k) at e in let no : ⊥ = cc in absurd no
        | inr k ↦ elim (cases_Bool (quoted && b == 34)) [
          | inl q ↦ let is = rw (t, k, q) at e in let no : ⊥ = cc in absurd no
          | inr q ↦ printed quoted b bs bytes t k q (rw (t, k, q) at e) some
        ]
      ]
    ]
  where
    printed : (quoted : Bool) (b : ℕ) (bs bytes : List ℕ) → is_white b ≡ false → (b == 92) ≡ false → (quoted && b == 34) ≡ false
        → plain (take (1 + prefix_len (prints_itself quoted) bs) (b ∷ bs)) ≡ plain bytes → 0 < length bytes → is_word bytes ≡ true
    printed quoted b bs bytes t k q e some =
        let n = 1 + prefix_len (prints_itself quoted) bs in
        let is : take n (b ∷ bs) ≡ bytes = ap token_bytes e in
        let len : n ≡ prefix_len (prints_itself quoted) (b ∷ bs) = rw (t, k, q) refl in
        let has : 0 < length (take n (b ∷ bs)) = omega (arith, some, ap (λ (l : List ℕ). length l) is) in
        rw is at (plain_word quoted (b ∷ bs) n len has)

-- ---- some tokens, and one more

pub letters_none : (quoted : Bool) (fonts : Setting Fonts) (text : List ℕ) → ReadsLetters quoted fonts text fonts text []
letters_none quoted fonts text = grind arith

word_letters-append : (xs ys : List (Piece (List ℕ))) → word_letters (xs ++ ys) ≡ word_letters xs ++ word_letters ys
word_letters-append [] ys = refl
word_letters-append (x ∷ xs) ys = ap (λ (cells : List Cell). letters_of x ++ cells) (word_letters-append xs ys) ∙ sym (append_assoc (letters_of x) (word_letters xs) (word_letters ys))

some_more : (m n : ℕ) → (nat_lt 0 m || nat_lt 0 n) ≡ nat_lt 0 (m + n)
some_more m n = grind (arith, nat_tests)

has_more : (font : Font) (cells : List Cell) (bytes : List ℕ) (b : Bool) → b ≡ nat_lt 0 (length bytes)
    → (nat_lt 0 (length cells) || b) ≡ nat_lt 0 (length (cells ++ letters_in font bytes))
has_more font cells bytes b e = grind (arith, length-append, length-map, some_more)

inside_after : (fonts : Setting Fonts) (column after : ℕ) (has more : Bool) (token : TextToken) → is_glue token ≡ false → column + length (token_bytes token) ≡ after
    → (has || token_prints token) ≡ more → pen_after (inside fonts column has) token ≡ inside (fonts_after token fonts) after more
inside_after fonts column after has more token glues columns cell = rw (glues, columns, cell) refl

joined_items : (xs ys : List (Piece (List ℕ))) (items : List Item) → map shown xs ++ (map shown ys ++ items) ≡ map shown (xs ++ ys) ++ items
joined_items xs ys items = sym (append_assoc (map shown xs) (map shown ys) items) ∙ ap (λ (front : List Item). front ++ items) (sym (map-append shown xs ys))

pub letters_more : (quoted : Bool) (fonts : Setting Fonts) (text : List ℕ) (mid : Setting Fonts) (rest : List ℕ) (cells : List Cell) (bytes : List ℕ) (n : ℕ)
    → ReadsLetters quoted fonts text mid rest cells → begins_word rest ≡ true → 0 < n → n ≡ token_len quoted rest → n ≤ length rest
    → Lettered (token_at quoted rest) bytes
    → ReadsLetters quoted fonts text (fonts_after (token_at quoted rest) mid) (drop n rest) (cells ++ letters_in mid.value.font bytes)
letters_more quoted fonts text mid rest cells bytes n r begins some is within t =
    let token = token_at quoted rest in
    let font = mid.value.font in
    let left = length-drop n rest in
    let words = words_more quoted rest n begins some is in
    let later = (words_of quoted (drop n rest)).word in
    let has = nat_lt 0 (length cells) in
    let more = nat_lt 0 (length (cells ++ letters_in font bytes)) in
    record {
      less = omega (arith, r.less, left);
      others = others_same quoted rest n begins some is ∙ r.others;
      notes = λ place.
          r.notes place ∙ ap (λ (p : Parted). tokens_notes quoted place p.word) words
          ∙ ap (λ (items : List Item). items ++ tokens_notes quoted place later) (t.notes quoted place);
      items = λ place column after e.
          let here : (after - n) + length rest ≡ column + length text = omega (arith, e, left, within, r.less) in
          let columns : (after - n) + length (token_bytes token) ≡ after = omega (arith, e, left, within, r.less, is) in
          let pen = inside_after mid (after - n) after has more token t.glues columns (has_more font cells bytes (token_prints token) t.prints) in
          let i = r.items place column (after - n) here in
          let p = t.items quoted font place in (
            i.0 ++ p.0,
            list_all-append is_lettered i.0 p.0 ∙ ap₂ (λ (a b : Bool). a && b) i.1 p.2,
            word_letters-append i.0 p.0 ∙ ap₂ (λ (a b : List Cell). a ++ b) i.2 p.3,
            i.3 ∙ ap (λ (items : List Item). map shown i.0 ++ items)
                (tokens_more quoted place (inside mid (after - n) has) rest n begins some is
                ∙ ap₂ (λ (items : List Item) (q : Pen). items ++ tokens_items quoted place q later) p.1 pen)
                ∙ joined_items i.0 p.0 (tokens_items quoted place (inside (fonts_after token mid) after more) later),
          );
      pens = λ column after e.
          let here : (after - n) + length rest ≡ column + length text = omega (arith, e, left, within, r.less) in
          let columns : (after - n) + length (token_bytes token) ≡ after = omega (arith, e, left, within, r.less, is) in
          let pen = inside_after mid (after - n) after has more token t.glues columns (has_more font cells bytes (token_prints token) t.prints) in
          r.pens column (after - n) here ∙ pen_more quoted (inside mid (after - n) has) rest n begins some is ∙ ap (λ (q : Pen). pen_through q later) pen;
    }

-- ---- a token that is taken

pub one_part_of : (bytes : List ℕ) (n : ℕ) → parts_of bytes ≡ take n bytes ∷ parts_of (drop n bytes) → n ≡ length bytes → parts_of bytes ≡ bytes ∷ []
unfolding parts_after
one_part_of bytes n e k = grind (arith, take_all, drop_all)

all_three : (p q r : Bool) → ((p && not q) && r) ≡ true → (p ≡ true) × (q ≡ false) × (r ≡ true)
all_three true false r h = (refl, refl, h)
all_three true true r h = let no : ⊥ = cc in absurd no
all_three false q r h = let no : ⊥ = cc in absurd no

plain_bytes : (bytes : List ℕ) → list_all (λ b. is_printable b && not (b == hyphen)) bytes ≡ true
    → (is_printable_ascii bytes ≡ true) × (list_any (λ byte. byte == hyphen) bytes ≡ false)
plain_bytes [] h = (refl, refl)
plain_bytes (b ∷ bytes) h =
    let is = all_three (is_printable b) (b == hyphen) (list_all (λ b. is_printable b && not (b == hyphen)) bytes) h in
    grind (arith, plain_bytes bytes is.2)

-- bytes without a hyphen are one part
pub plain_part : (bytes : List ℕ) → is_word bytes ≡ true → list_all (λ b. is_printable b && not (b == hyphen)) bytes ≡ true
    → (is_printable_ascii bytes ≡ true) × (parts_of bytes ≡ bytes ∷ [])
plain_part [] is h = let no : ⊥ = cc in absurd no
plain_part (b ∷ bytes) is h =
    let p = plain_bytes (b ∷ bytes) h in
    let some : (length (b ∷ bytes) == 0) ≡ false = grind (arith, nat_tests) in
    (p.0, one_part_of (b ∷ bytes) (length (b ∷ bytes)) (whole-first (b ∷ bytes) some p.1) refl)

pub begins_some : (text : List ℕ) → begins_word text ≡ true → 0 < length text
begins_some [] h = let no : ⊥ = cc in absurd no
begins_some (b ∷ bs) h = omega arith

-- ---- Tokens at a text's front that are taken as letters.

-- ---- escapes that ask for fonts

font_token : (quoted : Bool) (text : List ℕ) (font : Face) (n : ℕ) → ShortFont text font n → token_at quoted text ≡ escaped (take n text) (meanings.face font)
unfolding token_at
font_token quoted [] font n short = absurd (omega (arith, short.escape.not_empty, short.escape.within))
font_token quoted (b ∷ bs) font n short = grind arith

set_anyway : (b known : Bool) → known ≡ true → true ≡ (b || known)
set_anyway true known h = refl
set_anyway false known h = sym h

pub font_reads : (quoted : Bool) (fonts : Setting Fonts) (cells : List Cell) (text : List ℕ) (font : Face) (n : ℕ) → ShortFont text font n → is_known font ≡ true
    → ReadsToken quoted fonts cells text (record { value = face_fonts font fonts.value; is_set = true }) cells (drop n text)
font_reads quoted fonts cells text font n short known =
    let token = font_token quoted text font n short in
    grind (arith, length-take-le, font_lettered, append-nil, set_anyway)

-- ---- Parts of a word, one after another.

pub no_parts : (font : Font) (place : Place) (bytes : List ℕ) → length bytes ≤ 0 → parts_items font place bytes ≡ []
unfolding parts_after
no_parts font place [] none = refl
no_parts font place (b ∷ bytes) none = absurd (omega (arith, none))

pub no_later : (font : Font) (place : Place) (bytes : List ℕ) → length bytes ≤ 0 → later_items font place bytes ≡ []
unfolding parts_after
no_later font place [] none = refl
no_later font place (b ∷ bytes) none = absurd (omega (arith, none))

later-of : (font : Font) (place : Place) (bytes : List ℕ) (parts : List (List ℕ)) → 0 < length bytes → parts_of bytes ≡ parts
    → later_items font place bytes ≡ shown Split ∷ parts_items font place bytes
later-of font place bytes [] some are =
    let none : bytes ≡ [] = sym (joined-parts bytes) ∙ ap joined are in
    absurd (omega (arith, some, ap (λ (bs : List ℕ). length bs) none))
later-of font place bytes (part ∷ parts) some are = rw are refl

pub later_more : (font : Font) (place : Place) (bytes : List ℕ) → 0 < length bytes → later_items font place bytes ≡ shown Split ∷ parts_items font place bytes
later_more font place bytes some = later-of font place bytes (parts_of bytes) some refl
