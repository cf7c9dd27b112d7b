-- Words of letters, word by word.
use Rattle.std.proofs.Common.{◌≡◌, ℕ, suc, ◌+◌, ◌-◌, ◌<◌, ◌&&◌, nat_lt, Bool, true, false, List, [], ◌∷◌, ◌++◌, length, map, drop, get_or, inl, inr, refl, ap, ap₂, sym, ◌∙◌, append-nil, append_assoc, length-append, arith, zero, ◌≤◌, ◌==◌, ◌||◌, not, cond, eqb-true, take}
use Rattle.std.proofs.lemmas.Bool.{cases_lt}
use Rattle.std.proofs.lemmas.List.{map-append, drop-drop, get_or-drop, length-drop, length-map, length-take-le}
use Rattle.std.proofs.lemmas.List.Folds.{list_all-append, list_all_at}
use Rattle.std.proofs.lemmas.Bool.Decides.{nat_tests}
use Rattle.page_core_base.specs.Rows.{Item, shown, hyphen}
use Rattle.page_core_base.specs.laws.Views.{is_lettered_word, lettered_cells, lettered_pieces, word_letters}
use Rattle.page_core_base.specs.declared.cells.Cell.{Cell}
use Rattle.page_core_base.specs.declared.cells.Font.TheVariants.{R}
use Rattle.page_core_base.specs.declared.pieces.Piece.{Piece}
use Rattle.page_core_base.specs.declared.pieces.Piece.TheVariants.{Blank}
use Rattle.page_core_escapes.specs.Tokens.{TextToken, token_len, plain, prints_itself, token_at, token_bytes}
use Rattle.page_core_escapes.specs.laws.Views.{begins_word}
use Rattle.page_scopes_words.specs.Words.{at, pen_through, white_after, word_after, tokens_notes}
use Rattle.page_scopes_words.specs.declared.settings.Setting.{Setting}
use Rattle.page_scopes_words.specs.declared.fonts.Fonts.{Fonts}
use Rattle.page_scopes_text.proofs.PartedLemmas.{blank_len, no_word, plain_token, plain_word, letters_more, letters_none, one_part_of, plain_lettered}
use Rattle.page_scopes_text.proofs.TextLemmas.{others_more, spaced_word}
use Rattle.page_scopes_text.specs.Texts.{Spaced, words_of, others_after, others_items, place_after, spaced_after, spaced_items, white_items, tokens_items, word_items}
use Rattle.page_scopes_text.specs.laws.Views.{spaced_front}
use Rattle.page_scopes_words.specs.machine.Letters.{resting, letters_in, GoesOn, ends_run, ends_run_at}
use Rattle.page_scopes_text.specs.machine.Letters.{AddsAfterBlank, AddsWord, AddsWords, PrintsFirst, ReadsAfterBlank, ReadsLetters, ReadsWords, inside, Lettered}
use Rattle.page_scopes_words.specs.declared.pens.Pen.{Pen}
use Rattle.page_scopes_words.specs.declared.pens.TextStyle.{TextStyle}
use Rattle.std.specs.List.{list_all, list_any, prefix_len}
use Rattle.std.proofs.Math.Bool.{or-false}
use Rattle.std.proofs.Math.Seq.{take-add}
use Rattle.std.proofs.lemmas.List.Sums.{prefix_len-le-length}
use Rattle.page_core_base.specs.Bytes.{is_white}
use Rattle.page_core_base.specs.declared.cells.Font.{Font}
use Rattle.page_core_base.proofs.LatchLemmas.{whole-first}
use Rattle.page_scopes_words.specs.Fonts.{fonts_after}

-- ---- one blank and a word

abbrev pub white_pen : TextStyle → Setting Fonts → ℕ → Pen
white_pen style fonts column = white_after style (resting fonts column) (32 ∷ [])

-- what a word of letters gives
word_gives : (style : TextStyle) (line : ℕ) (fonts next : Setting Fonts) (column after : ℕ) (word : List TextToken) (pieces : List (Piece (List ℕ))) → style.is_literal ≡ false
    → tokens_notes style.is_quoted (at line (column + 1)) word ≡ []
    → tokens_items style.is_quoted (at line (column + 1)) (inside fonts (column + 1) false) word ≡ map shown pieces
    → pen_through (inside fonts (column + 1) false) word ≡ inside next after true
    → white_items style (place_after line (resting fonts column) (32 ∷ [])) (32 ∷ []) ++ word_items style line false (white_pen style fonts column) word
    ≡ shown (Blank 1 false) ∷ map shown pieces
word_gives style line fonts next column after word pieces literal notes items pens = grind (arith, ap₂, append-nil)

-- and the pen after it
word_rests : (style : TextStyle) (fonts next : Setting Fonts) (column after : ℕ) (word : List TextToken) → style.is_literal ≡ false
    → pen_through (inside fonts (column + 1) false) word ≡ inside next after true → word_after style (white_pen style fonts column) word ≡ resting next after
word_rests style fonts next column after word literal pens = grind arith

has_piece : (pieces : List (Piece (List ℕ))) (cells : List Cell) → word_letters pieces ≡ cells → 0 < length cells → nat_lt 0 (length pieces) ≡ true
has_piece [] cells e some = absurd (omega (arith, some, ap (λ (c : List Cell). length c) e))
has_piece (piece ∷ pieces) cells e some = grind (arith, nat_tests)

one_pieces : (pieces : List (Piece (List ℕ))) → lettered_pieces 1 (pieces ∷ []) ≡ Blank 1 false ∷ pieces
unfolding lettered_pieces
one_pieces pieces = ap (λ (p : List (Piece (List ℕ))). Blank 1 false ∷ p) (append-nil pieces)

one_cells : (pieces : List (Piece (List ℕ))) (cells : List Cell) → word_letters pieces ≡ cells → lettered_cells (pieces ∷ []) ≡ record { c = 32; font = R } ∷ cells
unfolding lettered_cells
one_cells pieces cells e = ap (λ (c : List Cell). record { c = 32; font = R } ∷ c) (append-nil (word_letters pieces) ∙ e)

pub word_reads : (style : TextStyle) (fonts : Setting Fonts) (tail : List ℕ) (next : Setting Fonts) (rest : List ℕ) (cells : List Cell) → style.is_literal ≡ false
    → begins_word tail ≡ true → begins_word rest ≡ false → 0 < length cells → ReadsLetters style.is_quoted fonts tail next rest cells
    → ReadsWords style fonts (32 ∷ tail) next rest (record { c = 32; font = R } ∷ cells)
word_reads style fonts tail next rest cells literal begins ends some r =
    let quoted = style.is_quoted in
    let one = blank_len quoted tail begins in
    let word = (words_of quoted tail).word in
    let has : nat_lt 0 (length cells) ≡ true = grind (arith, nat_tests, some) in
    let none = no_word quoted rest ends in
    let later = (words_of quoted (drop (token_len quoted (32 ∷ tail)) (32 ∷ tail))).others in
    let left : later ≡ (words_of quoted rest).others = ap (λ (n : ℕ). (words_of quoted (drop n (32 ∷ tail))).others) one ∙ sym r.others in
    let through : (column after : ℕ) → after + length rest ≡ column + suc (length tail) → pen_through (inside fonts (column + 1) false) word ≡ inside next after true =
    λ column after e. r.pens (column + 1) after (omega (arith, e)) ∙ rw (none, has) refl in
    let rests : (column after : ℕ) → after + length rest ≡ column + suc (length tail)
    → spaced_after style (resting fonts column) (spaced_front quoted (32 ∷ tail)) ≡ resting next after =
    λ column after e. (spaced_word style 0 0 (resting fonts column) (32 ∷ tail) (32 ∷ []) tail 1 (sym one) refl refl begins).1
    ∙ word_rests style fonts next column after word literal (through column after e) in
    record {
      less = omega (arith, r.less);
      ends = ends;
      gives = λ line last column after e.
          let i = r.items (at line (column + 1)) (column + 1) after (omega (arith, e)) in
          let items : tokens_items quoted (at line (column + 1)) (inside fonts (column + 1) false) word ≡ map shown i.0 = i.3 ∙ rw none (append-nil (map shown i.0)) in
          let notes : tokens_notes quoted (at line (column + 1)) word ≡ [] = r.notes (at line (column + 1)) ∙ rw none refl in
          let first : spaced_items style line last (resting fonts column) (spaced_front quoted (32 ∷ tail)) ≡ shown (Blank 1 false) ∷ map shown i.0 =
          (spaced_word style line last (resting fonts column) (32 ∷ tail) (32 ∷ []) tail 1 (sym one) refl refl begins).0
          ∙ word_gives style line fonts next column after word i.0 literal notes items (through column after e) in (
            i.0 ∷ [],
            rw (has_piece i.0 cells i.2 some, i.1) refl,
            one_cells i.0 cells i.2,
            (others_more style line last (resting fonts column) (32 ∷ tail) refl).0
                ∙ ap₂ (λ (a : List Item) (p : Pen). a ++ others_items style line last p later) first (rests column after e)
                ∙ ap (λ (o : List Spaced). (shown (Blank 1 false) ∷ map shown i.0) ++ others_items style line last (resting next after) o) left
                ∙ ap (λ (p : List (Piece (List ℕ))). map shown p ++ others_items style line last (resting next after) (words_of quoted rest).others) (sym (one_pieces i.0)),
          );
      pens = λ column after e.
          sym ((others_more style 0 0 (resting fonts column) (32 ∷ tail) refl).1 ∙ ap (λ (p : Pen). others_after style p later) (rests column after e)
          ∙ ap (others_after style (resting next after)) left);
    }

-- ---- words after a blank

some_cells : (n : ℕ) → 0 < n → nat_lt 0 n ≡ true
some_cells n h = grind (arith, nat_tests, h)

word_prints : (quoted : Bool) (fonts next : Setting Fonts) (text rest : List ℕ) (cells : List Cell) → 0 < length cells → begins_word rest ≡ false
    → ReadsLetters quoted fonts text next rest cells → PrintsFirst quoted fonts text
word_prints quoted fonts next text rest cells some ends r = (
  λ column. ap (λ (p : Pen). p.has_cell) (r.pens column (column + length text - length rest) (omega (arith, r.less)))
      ∙ rw (no_word quoted rest ends) (some_cells (length cells) some),
  λ place. r.notes place ∙ rw (no_word quoted rest ends) refl,
)

pub reads_after_blank : (style : TextStyle) (fonts next : Setting Fonts) (text rest : List ℕ) (cells : List Cell) → style.is_literal ≡ false → begins_word text ≡ true
    → begins_word rest ≡ false → 0 < length cells → ReadsLetters style.is_quoted fonts text next rest cells → ReadsAfterBlank style fonts text next rest cells
reads_after_blank style fonts next text rest cells literal begins ends some r = record {
  prints = word_prints style.is_quoted fonts next text rest cells some ends r;
  some = some;
  words = word_reads style fonts text next rest cells literal begins ends some r;
}

pub word_adds : (style : TextStyle) (fonts next : Setting Fonts) (text rest : List ℕ) (before after : List Cell) → style.is_literal ≡ false → begins_word text ≡ true
    → begins_word rest ≡ false → AddsWord style.is_quoted fonts before text next after rest → (length after ≡ length before → ⊥) → AddsAfterBlank style fonts before text next after rest
word_adds style fonts next text rest before after literal begins ends adds more =
    let size : length after ≡ length before + length adds.0 = ap (λ (c : List Cell). length c) adds.1 ∙ length-append before adds.0 in
    let has : 0 < length adds.0 = elim (cases_lt 0 (length adds.0)) [ inl has ↦ has | inr none ↦ absurd (more (omega (arith, size, none))) ] in
    (adds.0, adds.1, reads_after_blank style fonts next text rest adds.0 literal begins ends has adds.2)

-- ---- words, one after another

pieces-append : (xs ys : List (List (Piece (List ℕ)))) → lettered_pieces 1 (xs ++ ys) ≡ lettered_pieces 1 xs ++ lettered_pieces 1 ys
unfolding lettered_pieces
pieces-append [] ys = refl
pieces-append (x ∷ xs) ys = grind (arith, append_assoc, lettered_pieces, pieces-append xs ys)

cells-append : (xs ys : List (List (Piece (List ℕ)))) → lettered_cells (xs ++ ys) ≡ lettered_cells xs ++ lettered_cells ys
unfolding lettered_cells
cells-append [] ys = refl
cells-append (x ∷ xs) ys = grind (arith, word_letters, append_assoc, lettered_cells, cells-append xs ys)

no_pieces : lettered_pieces 1 [] ≡ []
unfolding lettered_pieces
no_pieces = refl

no_cells : lettered_cells [] ≡ []
unfolding lettered_cells
no_cells = refl

pub words_none : (style : TextStyle) (fonts : Setting Fonts) (text : List ℕ) → begins_word text ≡ false → ReadsWords style fonts text fonts text []
words_none style fonts text ends = grind (arith, no_cells, no_pieces)

pub words_join : (style : TextStyle) (fonts : Setting Fonts) (text : List ℕ) (mid : Setting Fonts) (middle : List ℕ) (next : Setting Fonts) (rest : List ℕ) (a b : List Cell)
    → ReadsWords style fonts text mid middle a → ReadsWords style mid middle next rest b → ReadsWords style fonts text next rest (a ++ b)
words_join style fonts text mid middle next rest a b r s = record {
  less = omega (arith, r.less, s.less);
  ends = s.ends;
  gives = λ line last column after e.
      let m = column + length text - length middle in
      let here : m + length middle ≡ column + length text = omega (arith, r.less) in
      let there : after + length rest ≡ m + length middle = omega (arith, e, here) in
      let x = r.gives line last column m here in
      let y = s.gives line last m after there in
      let others = others_items style line last (resting next after) (words_of style.is_quoted rest).others in (
        x.0 ++ y.0,
        list_all-append is_lettered_word x.0 y.0 ∙ ap₂ (λ (c d : Bool). c && d) x.1 y.1,
        cells-append x.0 y.0 ∙ ap₂ (λ (c d : List Cell). c ++ d) x.2 y.2,
        x.3 ∙ ap (λ (i : List Item). map shown (lettered_pieces 1 x.0) ++ i) y.3
            ∙ sym (append_assoc (map shown (lettered_pieces 1 x.0)) (map shown (lettered_pieces 1 y.0)) others)
            ∙ ap (λ (i : List Item). i ++ others) (sym (ap (map shown) (pieces-append x.0 y.0) ∙ map-append shown (lettered_pieces 1 x.0) (lettered_pieces 1 y.0))),
      );
  pens = λ column after e.
      let m = column + length text - length middle in
      let here : m + length middle ≡ column + length text = omega (arith, r.less) in
      let there : after + length rest ≡ m + length middle = omega (arith, e, here) in
      s.pens m after there ∙ r.pens column m here;
}

pub adds_none : (style : TextStyle) (fonts : Setting Fonts) (before : List Cell) (text : List ℕ) → begins_word text ≡ false → AddsWords style fonts before text fonts before text
adds_none style fonts before text ends = ([], sym (append-nil before), words_none style fonts text ends)

pub adds_join : (style : TextStyle) (fonts mid next : Setting Fonts) (before between after : List Cell) (text middle rest : List ℕ)
    → AddsWords style fonts before text mid between middle → AddsWords style mid between middle next after rest → AddsWords style fonts before text next after rest
adds_join style fonts mid next before between after text middle rest x y = (
  x.0 ++ y.0,
  y.1 ∙ ap (λ (c : List Cell). c ++ y.0) x.1 ∙ append_assoc before x.0 y.0,
  words_join style fonts text mid middle next rest x.0 y.0 x.2 y.2,
)

-- ---- one blank and a word, from a text's front

blank_text : (text : List ℕ) → 0 < length text → get_or text 0 0 ≡ 32 → text ≡ 32 ∷ drop 1 text
blank_text [] some e = absurd (omega (arith, some))
blank_text (b ∷ bs) some e = ap (λ (x : ℕ). x ∷ bs) e

pub blank_adds : (style : TextStyle) (fonts next : Setting Fonts) (text rest : List ℕ) (before between after : List Cell) → 0 < length text → get_or text 0 0 ≡ 32
    → between ≡ before ++ letters_in R (32 ∷ []) → AddsAfterBlank style fonts between (drop 1 text) next after rest → AddsWords style fonts before text next after rest
blank_adds style fonts next text rest before between after some blank e adds = grind (arith, append_assoc, blank_text)

-- ---- The words of a text up to a place before which no run of words ends: they are letters.

-- ---- one byte

blank_of : (k a b n : Bool) → not ((k || a) || b) ≡ false → ((a || b) || (k && n)) ≡ false → k ≡ true
blank_of true a b n p e = refl
blank_of false true b n p e = let no : ⊥ = cc in absurd no
blank_of false false true n p e = let no : ⊥ = cc in absurd no
blank_of false false false n p e = let no : ⊥ = cc in absurd no

white_blank : (k a y n : Bool) → not (k || a) ≡ false → ((a || y) || (k && n)) ≡ false → k ≡ true
white_blank true a y n p e = refl
white_blank false true y n p e = let no : ⊥ = cc in absurd no
white_blank false false y n p e = let no : ⊥ = cc in absurd no

one_blank : (y k n : Bool) → k ≡ true → (y || (k && n)) ≡ false → n ≡ false
one_blank true k n h e = let no : ⊥ = cc in absurd no
one_blank false true n h e = e
one_blank false false n h e = let no : ⊥ = cc in absurd no

neither : (h y : Bool) → (h || y) ≡ false → (h ≡ false) × (y ≡ false)
neither true y e = let no : ⊥ = cc in absurd no
neither false y e = (refl, e)

-- a byte that ends no run is no hyphen, and nothing else that ends one
no_end : (quoted : Bool) (x next : ℕ) → ends_run quoted x next ≡ false
    → ((x == 45) ≡ false) × (((x == 9 || (x == 92 || (quoted && x == 34))) || (x == 32 && next == 32)) ≡ false)
no_end quoted x next e = grind arith

-- what does not print itself and ends no run is a blank
blank_byte : (quoted : Bool) (x next : ℕ) → prints_itself quoted x ≡ false → ends_run quoted x next ≡ false → x ≡ 32
blank_byte quoted x next p e = eqb-true x 32 (blank_of (x == 32) (x == 9) (x == 92 || (quoted && x == 34)) (next == 32) p (no_end quoted x next e).1)

-- the same of white space
front_blank : (quoted : Bool) (x next : ℕ) → not (is_white x) ≡ false → ends_run quoted x next ≡ false → x ≡ 32
front_blank quoted x next p e = eqb-true x 32 (white_blank (x == 32) (x == 9) (x == 92 || (quoted && x == 34)) (next == 32) p (no_end quoted x next e).1)

-- after a blank that ends no run no blank comes
after_blank : (quoted : Bool) (x next : ℕ) → x ≡ 32 → ends_run quoted x next ≡ false → (next == 32) ≡ false
after_blank quoted x next b e = one_blank (x == 9 || (x == 92 || (quoted && x == 34))) (x == 32) (next == 32) (rw b refl) (no_end quoted x next e).1

-- ---- one word

word_more : (p : Bool) (x m n : ℕ) (xs : List ℕ) → (p ≡ false → x ≡ 32) → (m ≤ n) × (get_or xs m 32 ≡ 32)
    → (cond p (1 + m) 0 ≤ suc n) × (get_or (x ∷ xs) (cond p (1 + m) 0) 32 ≡ 32)
word_more true x m n xs k h = let next : 1 + m ≡ suc m = omega arith in (omega (arith, h.0), rw next h.1)
word_more false x m n xs k h = (omega arith, k refl)

word_none : (p : Bool) (x m : ℕ) (xs : List ℕ) → p ≡ false → x ≡ 32 → (cond p (1 + m) 0 ≤ 0) × (get_or (x ∷ xs) (cond p (1 + m) 0) 32 ≡ 32)
word_none true x m xs e b = let no : ⊥ = cc in absurd no
word_none false x m xs e b = (omega arith, b)

not_printed : (quoted : Bool) (x : ℕ) → x ≡ 32 → prints_itself quoted x ≡ false
not_printed quoted x e = rw e refl

goes_after : (quoted : Bool) (x : ℕ) (xs : List ℕ) (n : ℕ) → GoesOn quoted (x ∷ xs) 0 (suc n) → GoesOn quoted xs 0 n
goes_after quoted x xs n h = λ k low high. h (suc k) (omega arith) (omega (arith, high))

-- no hyphen is among bytes of which none ends a run
free_word : (quoted : Bool) (text : List ℕ) (n m : ℕ) → m ≤ n → GoesOn quoted text 0 n → list_any (λ byte. byte == hyphen) (take m text) ≡ false
free_word quoted text n zero le h = refl
free_word quoted [] n (suc m) le h = refl
free_word quoted (x ∷ xs) zero (suc m) le h = absurd (omega (arith, le))
free_word quoted (x ∷ xs) (suc n) (suc m) le h =
    rw ((no_end quoted x (get_or xs 0 32) (h 0 (omega arith) (omega arith))).0) (free_word quoted xs n m (omega (arith, le)) (goes_after quoted x xs n h))

-- the bytes that print themselves at a text's front end before a blank, or the text
word_to : (quoted : Bool) (text : List ℕ) (n : ℕ) → GoesOn quoted text 0 n → get_or text n 32 ≡ 32
    → (prefix_len (prints_itself quoted) text ≤ n) × (get_or text (prefix_len (prints_itself quoted) text) 32 ≡ 32)
word_to quoted [] n h e = (omega arith, refl)
word_to quoted (x ∷ xs) zero h e = word_none (prints_itself quoted x) x (prefix_len (prints_itself quoted) xs) xs (not_printed quoted x e) e
word_to quoted (x ∷ xs) (suc n) h e =
    word_more (prints_itself quoted x) x (prefix_len (prints_itself quoted) xs) n xs (λ f. blank_byte quoted x (get_or xs 0 32) f (h 0 (omega arith) (omega arith)))
    (word_to quoted xs n (goes_after quoted x xs n h) e)

word_ends : (text : List ℕ) (n : ℕ) → get_or text n 32 ≡ 32 → begins_word (drop n text) ≡ false
word_ends [] zero e = refl
word_ends [] (suc n) e = refl
word_ends (x ∷ xs) zero e = rw e refl
word_ends (x ∷ xs) (suc n) e = word_ends xs n e

word_some : (text : List ℕ) (n : ℕ) → get_or text n 32 ≡ 32 → (get_or text 0 32 == 32) ≡ false → 0 < n
word_some text zero e f = grind arith
word_some text (suc n) e f = omega arith

not_blank : (c d : Bool) → not (c || d) ≡ true → c ≡ false
not_blank true d k = let no : ⊥ = cc in absurd no
not_blank false d k = refl

begins_byte : (text : List ℕ) → begins_word text ≡ true → (get_or text 0 32 == 32) ≡ false
begins_byte [] h = let no : ⊥ = cc in absurd no
begins_byte (b ∷ bs) h = not_blank (b == 32) (b == 9) h

some_length : (n : ℕ) → 0 < n → (n == 0) ≡ false
some_length n h = grind (arith, nat_tests, h)

plain_fonts : (fonts : Setting Fonts) (bytes : List ℕ) → fonts_after (plain bytes) fonts ≡ fonts
plain_fonts fonts bytes = ap (λ (b : Bool). record { value = fonts.value; is_set = b }) (or-false fonts.is_set)

-- the word at a text's front prints itself up to its end, and is letters
pub first_reads : (quoted : Bool) (fonts : Setting Fonts) (text : List ℕ) (n m : ℕ) → m ≡ prefix_len (prints_itself quoted) text → begins_word text ≡ true → GoesOn quoted text 0 n
    → get_or text n 32 ≡ 32
    → (m ≤ n) × (begins_word (drop m text) ≡ false) × (get_or text m 32 ≡ 32) × (0 < length (letters_in fonts.value.font (take m text)))
    × ReadsLetters quoted fonts text fonts (drop m text) (letters_in fonts.value.font (take m text))
first_reads quoted fonts text n m is begins goes end =
    let bytes = take m text in
    let to = word_to quoted text n goes end in
    let last : get_or text m 32 ≡ 32 = rw is to.1 in
    let some = word_some text m last (begins_byte text begins) in
    let within : m ≤ n = omega (arith, to.0, is) in
    let le = prefix_len-le-length (prints_itself quoted) text in
    let fits : m ≤ length text = omega (arith, le, is) in
    let size : length bytes ≡ m = length-take-le m text fits in
    let has : 0 < length bytes = omega (arith, size, some) in
    let token : token_at quoted text ≡ plain bytes = plain_token quoted text (omega (arith, is, some)) ∙ ap (λ (k : ℕ). plain (take k text)) (sym is) in
    let len : m ≡ token_len quoted text = sym (ap (λ (t : TextToken). length (token_bytes t)) token ∙ size) in
    let whole = whole-first bytes (some_length (length bytes) has) (free_word quoted text n m within goes) in
    let lettered : Lettered (token_at quoted text) bytes = rw token (plain_lettered bytes (plain_word quoted text m is has) (one_part_of bytes (length bytes) whole refl)) in
    let same : fonts_after (token_at quoted text) fonts ≡ fonts = ap (λ (t : TextToken). fonts_after t fonts) token ∙ plain_fonts fonts bytes in
    let reads = letters_more quoted fonts text fonts text [] bytes m (letters_none quoted fonts text) begins some len fits lettered in
    grind (arith, length-map, word_ends)

-- a text without a blank is one word
pub one_word : (text : List ℕ) (m : ℕ) → m ≤ length text → get_or text m 32 ≡ 32 → list_all (λ byte. not (byte == 32)) text ≡ true → m ≡ length text
one_word text m le last all = grind (arith, cases_lt, list_all_at)

-- ---- words, one after another

-- after a blank that ends no run a word begins
next_begins : (quoted : Bool) (text : List ℕ) (n : ℕ) → GoesOn quoted text 0 n → get_or text n 32 ≡ 32 → (get_or text 0 32 == 32) ≡ false → begins_word text ≡ true
next_begins quoted [] n h e f = let no : ⊥ = cc in absurd no
next_begins quoted (x ∷ xs) zero h e f = grind arith
next_begins quoted (x ∷ xs) (suc n) h e f =
    let parts = neither ((x == 9 || (x == 92 || (quoted && x == 34)))) (x == 32 && get_or xs 0 32 == 32) (no_end quoted x (get_or xs 0 32) (h 0 (omega arith) (omega arith))).1 in
    grind arith

goes_beyond : (quoted : Bool) (text : List ℕ) (m n k : ℕ) → m + k ≡ n → GoesOn quoted text 0 n → GoesOn quoted (drop m text) 0 k
goes_beyond quoted text m n k e h = grind (arith, ap₂, get_or-drop)

-- up to a blank, or the text's end, such a text is words of letters
run_up_to : (most : ℕ) (style : TextStyle) (fonts : Setting Fonts) (text : List ℕ) (n : ℕ) → style.is_literal ≡ false → fonts.value.font ≡ R → n ≤ most → n ≤ length text
    → begins_word text ≡ false → (0 < n → get_or text n 32 ≡ 32) → GoesOn style.is_quoted text 0 n → ReadsWords style fonts text fonts (drop n text) (letters_in R (take n text))
run_up_to most style fonts text zero literal roman le short begins e h = words_none style fonts text begins
run_up_to zero style fonts text (suc n) literal roman le short begins e h = absurd (omega (arith, le))
run_up_to (suc most) style fonts [] (suc n) literal roman le short begins e h = absurd (omega (arith, short))
run_up_to (suc most) style fonts (x ∷ xs) (suc n) literal roman le short begins e h =
    let quoted = style.is_quoted in
    let first = h 0 (omega arith) (omega arith) in
    let blank = front_blank quoted x (get_or xs 0 32) begins first in
    let goes = goes_after quoted x xs n h in
    let end : get_or xs n 32 ≡ 32 = e (omega arith) in
    let next = next_begins quoted xs n goes end (after_blank quoted x (get_or xs 0 32) blank first) in
    let m = prefix_len (prints_itself quoted) xs in
    let w = first_reads quoted fonts xs n m refl next goes end in
    let k = n - m in
    let sum : m + k ≡ n = omega (arith, w.0) in
    let last : get_or (drop m xs) k 32 ≡ 32 = get_or-drop m xs k 32 ∙ ap (λ (j : ℕ). get_or xs j 32) sum ∙ end in
    let more = run_up_to most style fonts (drop m xs) k literal roman (omega (arith, sum, le)) (omega (arith, length-drop m xs, sum, short)) w.1 (λ _. last) (goes_beyond quoted xs m n k sum goes) in
    let word = letters_in fonts.value.font (take m xs) in
    let others = letters_in R (take k (drop m xs)) in
    let both = words_join style fonts (32 ∷ xs) fonts (drop m xs) fonts (drop k (drop m xs)) (record { c = 32; font = R } ∷ word) others
    (word_reads style fonts xs fonts (drop m xs) word literal next w.1 w.3 w.4) more in
    let front : take n xs ≡ take m xs ++ take k (drop m xs) = ap (λ (j : ℕ). take j xs) (sym sum) ∙ take-add m k xs in
    let back : drop n xs ≡ drop k (drop m xs) = ap (λ (j : ℕ). drop j xs) (sym sum) ∙ sym (drop-drop k m xs) in
    let cells : letters_in R (x ∷ take n xs) ≡ record { c = 32; font = R } ∷ (word ++ others) =
    ap₂ (λ (b : ℕ) (bs : List ℕ). letters_in R (b ∷ bs)) blank front
    ∙ ap (λ (l : List Cell). record { c = 32; font = R } ∷ l)
    (map-append (λ c. record { c = c; font = R }) (take m xs) (take k (drop m xs)) ∙ ap (λ (f : Font). letters_in f (take m xs) ++ others) (sym roman)) in
    grind arith

first_goes : (quoted : Bool) (b : ℕ) → (b == 32) ≡ false → ends_run quoted 32 b ≡ false
first_goes true b h = rw h refl
first_goes false b h = rw h refl

-- the blank before a word ends no run
goes_before : (quoted : Bool) (text : List ℕ) (n : ℕ) → begins_word text ≡ true → GoesOn quoted text 0 n
    → (k : ℕ) → 0 ≤ k → k < suc n → ends_run_at quoted (32 ∷ text) k ≡ false
goes_before quoted text n h g zero low high = first_goes quoted (get_or text 0 32) (begins_byte text h)
goes_before quoted text n h g (suc k) low high = g k (omega arith) (omega (arith, high))

-- the same of a text that begins with a word, after a blank
pub run_reads : (style : TextStyle) (fonts : Setting Fonts) (text : List ℕ) (n : ℕ) → style.is_literal ≡ false → fonts.value.font ≡ R → begins_word text ≡ true
    → 0 < n → n ≤ length text → get_or text n 32 ≡ 32 → GoesOn style.is_quoted text 0 n → ReadsAfterBlank style fonts text fonts (drop n text) (letters_in R (take n text))
run_reads style fonts text n literal roman begins some le end h =
    let m = prefix_len (prints_itself style.is_quoted) text in
    let w = first_reads style.is_quoted fonts text n m refl begins h end in
    let word = reads_after_blank style fonts fonts text (drop m text) (letters_in fonts.value.font (take m text)) literal begins w.1 w.3 w.4 in
    let cells : length (letters_in R (take n text)) ≡ length (take n text) = length-map (take n text) (λ (c : ℕ). record { c = c; font = R }) in
    record {
      prints = word.prints;
      some = omega (arith, cells, length-take-le n text le, some);
      words = run_up_to (suc n) style fonts (32 ∷ text) (suc n) literal roman (omega arith) (omega (arith, le)) refl (λ _. end) (goes_before style.is_quoted text n begins h);
    }
