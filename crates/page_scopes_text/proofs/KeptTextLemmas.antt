-- Texts that begin with words of letters, after blanks: they give what they would give with one blank at their front, but for the count of the blanks.
use Rattle.std.proofs.Common.{◌≡◌, ℕ, suc, ◌+◌, ◌-◌, ◌<◌, Bool, true, false, not, List, [], ◌∷◌, ◌++◌, length, map, take, drop, refl, ap, ap₂, sym, ◌∙◌, append_assoc, arith, nat_lt, append-nil, length-append}
use Rattle.std.specs.Prelude.{◌==◌, if◌then◌else◌}
use Rattle.std.specs.List.{list_all, prefix_len}
use Rattle.std.proofs.lemmas.List.{get_or_past, take_all, map-append, take-append-drop}
use Rattle.std.proofs.lemmas.Bool.Decides.{nat_tests}
use Rattle.page_core_base.specs.laws.Views.{Came, CameUpTo, lettered_cells, lettered_pieces, font_cells, is_kept, is_word, letters_of, word_letters}
use Rattle.page_core_base.specs.Rows.{Item, shown, hyphen, later_pieces, part_pieces, parts_of}
use Rattle.page_core_base.specs.declared.cells.Cell.{Cell}
use Rattle.page_core_base.specs.declared.cells.Font.{Font}
use Rattle.page_core_base.specs.declared.cells.Font.TheVariants.{R, I, B, BI}
use Rattle.page_core_base.specs.declared.pieces.Piece.{Piece}
use Rattle.page_core_base.specs.declared.pieces.Piece.TheVariants.{Blank, Text}
use Rattle.page_core_base.specs.declared.places.Place.{Place}
use Rattle.page_core_escapes.specs.Tokens.{TextToken, prints_itself, token_len, plain}
use Rattle.page_core_escapes.specs.laws.Views.{begins_word}
use Rattle.page_scopes_words.specs.Words.{at, gap_after, pen_after, pen_through, word_after, word_begun, tokens_notes, body_after, white_after, has_tab, white_cells}
use Rattle.page_scopes_words.specs.declared.fonts.Fonts.{Fonts}
use Rattle.page_scopes_words.specs.declared.settings.Setting.{Setting}
use Rattle.page_scopes_words.specs.machine.Letters.{GivesLetters, letters_in, GoesOn as RunGoesOn, resting}
use Rattle.page_scopes_text.proofs.PartedLemmas.{begins_some, blank_len, all_before, no_word, white_token}
use Rattle.page_scopes_text.proofs.RunWordLemmas.{reads_after_blank, white_pen, first_reads, one_word, run_reads}
use Rattle.page_scopes_text.proofs.TextLemmas.{others_more, spaced_word}
use Rattle.page_scopes_text.specs.Texts.{Spaced, words_of, others_after, others_items, spaced_items, empty_items, tokens_items, word_items, place_after, spaced_after, printed_items}
use Rattle.page_scopes_text.specs.laws.Views.{spaced_front}
use Rattle.page_scopes_words.specs.declared.pens.Pen.{Pen}
use Rattle.page_scopes_words.specs.declared.pens.TextStyle.{TextStyle}
use Rattle.page_scopes_text.specs.machine.Letters.{GivesFront, GoesOn, is_in_font, AddsAfterBlank, AddsWords, PrintsFirst, ReadsAfterBlank, inside, first_after, first_items, ReadsPlain, AreCells, IsKept, ReadsKept, kept_pen}
use Rattle.std.proofs.Math.Bool.{or-false, or-true}
use Rattle.std.proofs.Math.Seq.{take-append_seam}
use Rattle.std.proofs.lemmas.List.Folds.{length-prefix_len, list_all-append}
use Rattle.std.proofs.lemmas.Grind.{common_steps}
use Rattle.page_core_base.specs.Bytes.{is_white, begins_white}
use Rattle.page_core_base.proofs.LatchLemmas.{joined, joined-parts, parts-full}

-- ---- words that were read

-- a whole text that is one word in a font, after a blank
word_whole : (style : TextStyle) (fonts : Setting Fonts) (font : Font) (text : List ℕ) → fonts.value.font ≡ font → style.is_literal ≡ false → begins_word text ≡ true
    → list_all (λ byte. not (byte == 32)) text ≡ true → RunGoesOn style.is_quoted text 0 (length text)
    → ReadsAfterBlank style fonts text fonts (drop (length text) text) (letters_in font text)
word_whole style fonts font text e literal begins one goes =
    let m = prefix_len (prints_itself style.is_quoted) text in
    let w = first_reads style.is_quoted fonts text (length text) m refl begins goes (get_or_past text (length text) 32 (omega arith)) in
    let word = letters_in fonts.value.font (take m text) in
    let all = take_all (length text) text (omega arith) in
    let cells : word ≡ letters_in font text = ap (λ (f : Font). letters_in f (take m text)) e ∙ ap (letters_in font) (rw (one_word text m w.0 w.2 one) all) in
    rw (← cells, ← one_word text m w.0 w.2 one) (reads_after_blank style fonts fonts text (drop m text) word literal begins w.1 w.3 w.4)

-- a whole text that is in its font, after a blank
pub whole_reads : (style : TextStyle) (fonts : Setting Fonts) (font : Font) (text : List ℕ) → fonts.value.font ≡ font → style.is_literal ≡ false → begins_word text ≡ true
    → is_in_font font text ≡ true → RunGoesOn style.is_quoted text 0 (length text)
    → ReadsAfterBlank style fonts text fonts (drop (length text) text) (letters_in font text)
whole_reads style fonts R text e literal begins one goes =
    rw (take_all (length text) text (omega arith)) at
    (run_reads style fonts text (length text) literal e begins (begins_some text begins) (omega arith) (get_or_past text (length text) 32 (omega arith)) goes)
whole_reads style fonts I text e literal begins one goes = word_whole style fonts I text e literal begins one goes
whole_reads style fonts B text e literal begins one goes = word_whole style fonts B text e literal begins one goes
whole_reads style fonts BI text e literal begins one goes = word_whole style fonts BI text e literal begins one goes

-- after the one blank
pub front_adds : (style : TextStyle) (fonts next : Setting Fonts) (text rest : List ℕ) (before after : List Cell) → before ≡ letters_in R (32 ∷ [])
    → AddsAfterBlank style fonts before text next after rest → AddsWords style fonts [] (32 ∷ text) next after rest
front_adds style fonts next text rest before after e adds = grind arith

-- ---- the blank before the text

-- what a word prints does not depend on what was before it
tokens_same : (quoted : Bool) (place : Place) (pen : Pen) (n : ℕ) (a b : Bool) (word : List TextToken)
    → tokens_items quoted place (record pen { gap = n; is_after_word = a; ends_blank = b }) word ≡ tokens_items quoted place pen word
tokens_same quoted place pen n a b [] = refl
tokens_same quoted place pen n a b (token ∷ word) = rw (tokens_same quoted place (pen_after pen token) n a b word) refl

through_same : (pen : Pen) (n : ℕ) (a b : Bool) (word : List TextToken)
    → pen_through (record pen { gap = n; is_after_word = a; ends_blank = b }) word ≡ record (pen_through pen word) { gap = n; is_after_word = a; ends_blank = b }
through_same pen n a b [] = refl
through_same pen n a b (token ∷ word) = through_same (pen_after pen token) n a b word

-- what a word prints that begins so
abbrev prints_word : Bool → Place → Setting Fonts → ℕ → List TextToken → List Item
prints_word quoted place fonts column word =
    tokens_items quoted place (inside fonts column false) word ++ empty_items (pen_through (inside fonts column false) word).has_cell place

-- in the text
here_gives : (style : TextStyle) (line : ℕ) (pen : Pen) (word : List TextToken) → GoesOn style pen → tokens_notes style.is_quoted (at line pen.column) word ≡ []
    → word_items style line false pen word ≡ shown (Blank pen.gap false) ∷ prints_word style.is_quoted (at line pen.column) pen.fonts pen.column word
here_gives style line pen word h notes =
    let quoted = style.is_quoted in
    let place = at line pen.column in
    let some : (pen.gap == 0) ≡ false = let above = h.gap in grind (arith, nat_tests, above) in
    let tokens = tokens_same quoted place (inside pen.fonts pen.column false) pen.gap pen.is_after_word pen.ends_blank word in
    let through = through_same (inside pen.fonts pen.column false) pen.gap pen.is_after_word pen.ends_blank word in
    grind arith

-- and after a blank of the text
there_gives : (style : TextStyle) (line last : ℕ) (fonts : Setting Fonts) (column : ℕ) (text : List ℕ) → style.is_literal ≡ false → begins_word text ≡ true
    → tokens_notes style.is_quoted (at line (column + 1)) (words_of style.is_quoted text).word ≡ []
    → spaced_items style line last (resting fonts column) (spaced_front style.is_quoted (32 ∷ text))
    ≡ shown (Blank 1 false) ∷ prints_word style.is_quoted (at line (column + 1)) fonts (column + 1) (words_of style.is_quoted text).word
there_gives style line last fonts column text literal begins notes =
    (spaced_word style line last (resting fonts column) (32 ∷ text) (32 ∷ []) text 1 (sym (blank_len style.is_quoted text begins)) refl refl begins).0 ∙ rw (literal, notes) refl

-- the pen after it
here_rests : (style : TextStyle) (pen : Pen) (word : List TextToken) → GoesOn style pen → (pen_through (inside pen.fonts pen.column false) word).has_cell ≡ true
    → word_after style pen word ≡ word_after style (white_pen style pen.fonts (pen.column - 1)) word
here_rests style pen word h has =
    let white = white_pen style pen.fonts (pen.column - 1) in
    let back : pen.column - 1 + 1 ≡ pen.column = omega (arith, h.column) in
    let own = inside pen.fonts pen.column false in
    let through = through_same own pen.gap pen.is_after_word pen.ends_blank word in
    let other : word_begun (gap_after style white) ≡ own = rw (h.filled, back) refl in
    grind arith

-- a text gives what it gives with a blank at its front, but for the count of blanks
text_same : (style : TextStyle) (line last : ℕ) (pen : Pen) (text : List ℕ) → GoesOn style pen → begins_word text ≡ true → PrintsFirst style.is_quoted pen.fonts text
    → first_items style line last false pen (words_of style.is_quoted text)
    ≡ shown (Blank pen.gap false) ∷ drop 1 (others_items style line last (resting pen.fonts (pen.column - 1)) (words_of style.is_quoted (32 ∷ text)).others)
text_same style line last pen text h begins prints =
    let quoted = style.is_quoted in
    let word = (words_of quoted text).word in
    let c = pen.column - 1 in
    let back : c + 1 ≡ pen.column = omega (arith, h.column) in
    let one = blank_len quoted text begins in
    let rests = (spaced_word style 0 0 (resting pen.fonts c) (32 ∷ text) (32 ∷ []) text 1 (sym one) refl refl begins).1 in
    let quiet = prints.1 (at line pen.column) in
    let there = there_gives style line last pen.fonts c text h.filled begins (rw back quiet) in
    grind (arith, white_pen, here_gives, here_rests, others_more)

after_same : (style : TextStyle) (pen : Pen) (text : List ℕ) → GoesOn style pen → begins_word text ≡ true → PrintsFirst style.is_quoted pen.fonts text
    → first_after style pen (words_of style.is_quoted text) ≡ others_after style (resting pen.fonts (pen.column - 1)) (words_of style.is_quoted (32 ∷ text)).others
after_same style pen text h begins prints =
    let c = pen.column - 1 in
    let one = blank_len style.is_quoted text begins in
    let rests = (spaced_word style 0 0 (resting pen.fonts c) (32 ∷ text) (32 ∷ []) text 1 (sym one) refl refl begins).1 in
    let quoted = style.is_quoted in
    let word = (words_of quoted text).word in
    let others = (words_of quoted text).others in
    let left : (words_of quoted (drop (token_len quoted (32 ∷ text)) (32 ∷ text))).others ≡ others = ap (λ (n : ℕ). (words_of quoted (drop n (32 ∷ text))).others) one in
    let here : first_after style pen (words_of quoted text) ≡ others_after style (word_after style (white_pen style pen.fonts c) word) others =
    ap (λ (p : Pen). others_after style p others) (here_rests style pen word h (prints.0 pen.column)) in
    let other : others_after style (resting pen.fonts c) (words_of quoted (32 ∷ text)).others ≡ others_after style (word_after style (white_pen style pen.fonts c) word) others =
    (others_more style 0 0 (resting pen.fonts c) (32 ∷ text) refl).1
    ∙ ap₂ (λ (p : Pen) (o : List Spaced). others_after style p o) rests left in
    here ∙ sym other

-- ---- words that were read, and are taken

-- the count of blanks before the first word
counted_blanks : (blanks : ℕ) (words : List (List (Piece (List ℕ)))) (items more : List Item) → 0 < length (lettered_cells words)
    → items ≡ map shown (lettered_pieces 1 words) ++ more → shown (Blank blanks false) ∷ drop 1 items ≡ map shown (lettered_pieces blanks words) ++ more
unfolding lettered_cells lettered_pieces
counted_blanks blanks [] items more some e = absurd (omega (arith, some))
counted_blanks blanks (word ∷ words) items more some e = ap (λ (all : List Item). shown (Blank blanks false) ∷ drop 1 all) e

pub front_came : {P S : Type 0} (left : P → S → List Item → Type 0) (style : TextStyle) (line last : ℕ) (pen : Pen) (fonts : Setting Fonts) (text rest : List ℕ)
    (s t u : S) → GoesOn style pen → begins_word text ≡ true → Came left s [] t → GivesFront style pen text fonts rest (Came left) t u
    → CameUpTo left s (first_items style line last false pen (words_of style.is_quoted text))
    (others_items style line last (resting fonts (pen.column + (length text - length rest))) (words_of style.is_quoted rest).others) u
front_came left style line last pen fonts text rest s t u h begins none front = λ plan more k.
    let after = pen.column + (length text - length rest) in
    let e : after + length rest ≡ pen.column - 1 + suc (length text) = omega (arith, front.less, h.column) in
    let g = front.adds.2.gives line last (pen.column - 1) after e in
    let cells : length (lettered_cells g.0) ≡ length front.cells = ap (λ (c : List Cell). length c) (g.2 ∙ sym front.adds.1) in
    let here = text_same style line last pen text h begins front.prints ∙ counted_blanks pen.gap g.0 _ _ (omega (arith, cells, front.some)) g.3 in
    front.gives g.0 g.1 (front.adds.1 ∙ sym g.2) plan _ (none plan _ (rw (here, append_assoc) at k))

pub front_pen : {S : Type 0} (gave : S → List Item → S → Type 0) (style : TextStyle) (pen : Pen) (fonts : Setting Fonts) (text rest : List ℕ) (s t : S)
    → GoesOn style pen → begins_word text ≡ true → GivesFront style pen text fonts rest gave s t
    → others_after style (resting fonts (pen.column + (length text - length rest))) (words_of style.is_quoted rest).others
    ≡ first_after style pen (words_of style.is_quoted text)
front_pen gave style pen fonts text rest s t h begins front = grind (arith, after_same)

-- where they are not taken nothing came
pub front_left : {P S : Type 0} (left : P → S → List Item → Type 0) (style : TextStyle) (blanks : ℕ) (fonts next : Setting Fonts) (text rest : List ℕ) (cells : List Cell)
    (s t : S) → AddsWords style fonts [] (32 ∷ text) next cells rest → GivesLetters blanks cells false (Came left) s t → Came left s [] t
front_left left style blanks fonts next text rest cells s t adds gives =
    let g = adds.2.gives 0 0 0 (suc (length text) - length rest) (omega (arith, adds.2.less)) in
    gives g.0 g.1 (adds.1 ∙ sym g.2)

-- ---- no words

pub none_given : {P S : Type 0} (left : P → S → List Item → Type 0) (blanks : ℕ) (taken : Bool) (s t : S)
    → Came left s (if taken then map shown (lettered_pieces blanks []) else []) t → Came left s [] t
unfolding lettered_pieces
none_given left blanks true s t h = h
none_given left blanks false s t h = h

-- ---- Words and blanks of a row that is kept as it is: pieces whose cells they are.

plain_begins : (quoted : Bool) (text word rest : List ℕ) → ReadsPlain quoted text word rest → begins_word text ≡ true
plain_begins quoted text word rest r = grind (arith, begins_word, no_word)

-- ---- blanks

abbrev blank_pieces : Place → List ℕ → List (Piece (List ℕ))
blank_pieces place white = map (λ b. Text (32 ∷ []) R place) white

a_blank : (b : ℕ) → is_white b ≡ true → (b == 9) ≡ false → b ≡ 32
a_blank b white tab = grind (arith, nat_tests, white, tab)

white_pieces : (place : Place) (white : List ℕ) → has_tab white ≡ false → white_cells place white ≡ map shown (blank_pieces place white)
white_pieces place [] none = refl
white_pieces place (b ∷ bytes) none =
    let tab : (b == 9) ≡ false = grind (arith, none) in
    let others : has_tab bytes ≡ false = grind (arith, none) in
    rw tab (ap (λ (items : List Item). shown (Text (32 ∷ []) R place) ∷ items) (white_pieces place bytes others))

white_kept : (place : Place) (white : List ℕ) → list_all is_kept (blank_pieces place white) ≡ true
white_kept place [] = refl
white_kept place (b ∷ bytes) = white_kept place bytes

white_letters : (place : Place) (white : List ℕ) → list_all is_white white ≡ true → has_tab white ≡ false → font_cells R white ≡ word_letters (blank_pieces place white)
white_letters place [] all none = refl
white_letters place (b ∷ bytes) all none =
    let first : is_white b ≡ true = grind (arith, all) in
    let more : list_all is_white bytes ≡ true = grind (arith, all) in
    let tab : (b == 9) ≡ false = grind (arith, none) in
    let others : has_tab bytes ≡ false = grind (arith, none) in
    rw (a_blank b first tab) (ap (λ (cells : List Cell). record { c = 32; font = R } ∷ cells) (white_letters place bytes more others))

white_are : (place : Place) (white : List ℕ) → list_all is_white white ≡ true → has_tab white ≡ false → AreCells white (blank_pieces place white)
white_are place white all none = (white_kept place white, white_letters place white all none)

-- ---- a word

abbrev full : List (List ℕ) → Bool
full parts = list_all (λ (part : List ℕ). not (length part == 0)) parts

later_kept : (place : Place) (parts : List (List ℕ)) → full parts ≡ true → list_all is_kept (later_pieces R place parts) ≡ true
later_kept place [] all = refl
later_kept place (part ∷ parts) all =
    let own : nat_lt 0 (length part) ≡ true = grind (arith, nat_tests, all) in
    let others : full parts ≡ true = grind (arith, all) in
    rw own (later_kept place parts others)

later_letters : (place : Place) (parts : List (List ℕ)) → word_letters (later_pieces R place parts) ≡ font_cells R (joined parts)
later_letters place [] = refl
later_letters place (part ∷ parts) = grind (arith, font_cells, map-append, joined, later_letters place parts)

parts_are : (place : Place) (parts : List (List ℕ)) → full parts ≡ true → AreCells (joined parts) (part_pieces R place parts)
parts_are place [] all = (refl, refl)
parts_are place (part ∷ parts) all = grind (arith, later_kept, map-append, joined, font_cells, later_letters)

abbrev word_pieces : Bool → Place → List ℕ → List (Piece (List ℕ))
word_pieces true place word = part_pieces R place (parts_of word)
word_pieces false place word = Text word R place ∷ []

word_are : (splits : Bool) (place : Place) (word : List ℕ) → is_word word ≡ true → AreCells word (word_pieces splits place word)
word_are true place word is = rw (joined-parts word) at (parts_are place (parts_of word) (parts-full hyphen word))
word_are false place word is = grind (arith, append-nil, font_cells)

word_printed : (quoted splits : Bool) (place : Place) (word : List ℕ) → printed_items quoted splits R place (plain word) ≡ map shown (word_pieces splits place word)
word_printed quoted true place word = refl
word_printed quoted false place word = refl

-- in a row that is kept no other blanks are before a word after white space
kept_word : (style : TextStyle) (line : ℕ) (tab : Bool) (pen : Pen) (word : List ℕ) → style.is_literal ≡ true → pen.gap ≡ 0 → pen.fonts.value.font ≡ R
    → word_items style line tab pen (plain word ∷ []) ≡ map shown (word_pieces pen.splits (at line pen.column) word)
kept_word style line tab pen word literal none roman = grind (arith, word_printed, append-nil)

-- ---- the pen

abbrev pen_plain : Pen → List ℕ → Pen
pen_plain pen bytes = record pen { column = pen.column + length bytes; gap = 1; is_after_word = true; has_cell = true; is_cut = false; ends_blank = false }

body_plain : (pen : Pen) (bytes : List ℕ) → body_after pen (plain bytes ∷ []) ≡ pen_plain pen bytes
body_plain pen bytes = rw (or-false pen.fonts.is_set, or-true pen.has_cell) refl

pub kept_some : (pen : Pen) (bytes : List ℕ) → 0 < length bytes → kept_pen pen bytes ≡ body_after pen (plain bytes ∷ [])
kept_some pen [] some = absurd (omega (arith, some))
kept_some pen (b ∷ bytes) some = refl

kept_both : (pen : Pen) (front back : List ℕ) → kept_pen (kept_pen pen front) back ≡ kept_pen pen (front ++ back)
kept_both pen [] back = refl
kept_both pen (x ∷ front) [] = rw (append-nil front) refl
kept_both pen (x ∷ front) (y ∷ back) = grind (arith, length-append, body_plain)

kept_still : (style : TextStyle) (pen : Pen) (front : List ℕ) → IsKept style pen → IsKept style (kept_pen pen front)
kept_still style pen [] is = is
kept_still style pen (b ∷ front) is = record { literal = is.literal; roman = is.roman }

-- white space, and a word after it
kept_spaced : (style : TextStyle) (pen : Pen) (white word : List ℕ) → 0 < length white → style.is_literal ≡ true
    → word_after style (white_after style pen white) (plain word ∷ []) ≡ kept_pen pen (white ++ word)
kept_spaced style pen white word some literal = grind (arith, length-append, body_plain, kept_some)

-- ---- white space at a text's front, and the word after it

-- of a text the white space is read, and the word after it, which prints itself, is read too
pub record Spaces (quoted : Bool) (text white after word rest : List ℕ) (n : ℕ) : Type 0 where
  pub begins : begins_white text ≡ true
  pub len : n ≡ token_len quoted text
  pub front : white ≡ take n text
  pub back : after ≡ drop n text
  pub some : 0 < length white
  pub blanks : list_all is_white white ≡ true
  pub no_tab : has_tab white ≡ false
  pub plain_word : ReadsPlain quoted after word rest
  pub word_whole : after ≡ word ++ rest

spaced_kept : (style : TextStyle) (line last : ℕ) (pen : Pen) (text white after word rest : List ℕ) (n : ℕ) → Spaces style.is_quoted text white after word rest n
    → style.is_literal ≡ true → pen.fonts.value.font ≡ R
    → spaced_items style line last pen (spaced_front style.is_quoted text)
    ≡ map shown (blank_pieces (place_after line pen white) white ++ word_pieces pen.splits (at line (pen.column + length white)) word)
spaced_kept style line last pen text white after word rest n s literal roman =
    let word_first = plain_begins style.is_quoted after word rest s.plain_word in
    let parts = (spaced_word style line last pen text white after n s.len s.front s.back word_first).0 in
    let pen_white = white_after style pen white in
    let gap : pen_white.gap ≡ 0 = rw literal refl in
    let printed = kept_word style line (has_tab white) pen_white word literal gap roman in
    grind (arith, white_pieces, map-append)

after_kept : (style : TextStyle) (pen : Pen) (text white after word rest : List ℕ) (n : ℕ) → Spaces style.is_quoted text white after word rest n
    → style.is_literal ≡ true → spaced_after style pen (spaced_front style.is_quoted text) ≡ kept_pen pen (white ++ word)
after_kept style pen text white after word rest n s literal = grind (arith, plain_begins, spaced_word, kept_spaced)

rest_others : (quoted : Bool) (text white after word rest : List ℕ) (n : ℕ) → Spaces quoted text white after word rest n
    → (words_of quoted (drop (token_len quoted text) text)).others ≡ (words_of quoted rest).others
rest_others quoted text white after word rest n s = rw (← s.len, ← s.back) (sym s.plain_word.others)

are_both : (front back : List ℕ) (first others : List (Piece (List ℕ))) → AreCells front first → AreCells back others → AreCells (front ++ back) (first ++ others)
are_both front back first others a b = (
  list_all-append is_kept first others ∙ rw (a.0, b.0) refl,
  map-append (λ c. record { c = c; font = R }) front back ∙ (rw (a.1, b.1) (sym (letters-append first others))),
)
  where
    letters-append : (first others : List (Piece (List ℕ))) → word_letters (first ++ others) ≡ word_letters first ++ word_letters others
    letters-append [] others = refl
    letters-append (p ∷ ps) others = ap (λ (cells : List Cell). letters_of p ++ cells) (letters-append ps others) ∙ sym (append_assoc (letters_of p) (word_letters ps) (word_letters others))

gives_word : (style : TextStyle) (line last : ℕ) (pen : Pen) (text white after word rest : List ℕ) (n : ℕ) → Spaces style.is_quoted text white after word rest n
    → style.is_literal ≡ true → pen.fonts.value.font ≡ R
    → (pieces : List (Piece (List ℕ))) × AreCells (white ++ word) pieces
    × (others_items style line last pen (words_of style.is_quoted text).others
    ≡ map shown pieces ++ others_items style line last (kept_pen pen (white ++ word)) (words_of style.is_quoted rest).others)
gives_word style line last pen text white after word rest n s literal roman =
    let blanks = blank_pieces (place_after line pen white) white in
    let letters = word_pieces pen.splits (at line (pen.column + length white)) word in (
      blanks ++ letters,
      are_both white word blanks letters (white_are (place_after line pen white) white s.blanks s.no_tab) (word_are pen.splits (at line (pen.column + length white)) word s.plain_word.is_a_word),
      (others_more style line last pen text s.begins).0
          ∙ rw (spaced_kept style line last pen text white after word rest n s literal roman, after_kept style pen text white after word rest n s literal, rest_others style.is_quoted text white after word rest n s) refl,
    )

after_word : (style : TextStyle) (pen : Pen) (text white after word rest : List ℕ) (n : ℕ) → Spaces style.is_quoted text white after word rest n
    → style.is_literal ≡ true
    → others_after style pen (words_of style.is_quoted text).others ≡ others_after style (kept_pen pen (white ++ word)) (words_of style.is_quoted rest).others
after_word style pen text white after word rest n s literal =
    (others_more style 0 0 pen text s.begins).1
    ∙ rw (after_kept style pen text white after word rest n s literal, rest_others style.is_quoted text white after word rest n s) refl

pub reads_word : (style : TextStyle) (text white after word rest : List ℕ) (n : ℕ) → Spaces style.is_quoted text white after word rest n → ReadsKept style text rest
reads_word style text white after word rest n s = record {
  front = white ++ word;
  whole = sym (take-append-drop n text) ∙ (rw (← s.front, ← s.back, s.word_whole) (sym (append_assoc white word rest)));
  gives = λ line last pen is. gives_word style line last pen text white after word rest n s is.literal is.roman;
  after = λ pen is. after_word style pen text white after word rest n s is.literal;
}

-- ---- more of them

pub reads_more : (style : TextStyle) (text middle rest : List ℕ) → ReadsKept style text middle → ReadsKept style middle rest → ReadsKept style text rest
reads_more style text middle rest a b = record {
  front = a.front ++ b.front;
  whole = a.whole ∙ (ap (λ (bytes : List ℕ). a.front ++ bytes) b.whole ∙ sym (append_assoc a.front b.front rest));
  gives = λ line last pen is.
      let first = a.gives line last pen is in
      let others = b.gives line last (kept_pen pen a.front) (kept_still style pen a.front is) in
      let left = others_items style line last (kept_pen pen (a.front ++ b.front)) (words_of style.is_quoted rest).others in
      let later : others_items style line last (kept_pen pen a.front) (words_of style.is_quoted middle).others ≡ map shown others.0 ++ left =
      others.2 ∙ ap (λ (p : Pen). map shown others.0 ++ others_items style line last p (words_of style.is_quoted rest).others) (kept_both pen a.front b.front) in
      let both : map shown first.0 ++ (map shown others.0 ++ left) ≡ map shown (first.0 ++ others.0) ++ left =
      sym (append_assoc (map shown first.0) (map shown others.0) left) ∙ ap (λ (items : List Item). items ++ left) (sym (map-append shown first.0 others.0)) in (
        first.0 ++ others.0,
        are_both a.front b.front first.0 others.0 first.1 others.1,
        first.2 ∙ (ap (λ (items : List Item). map shown first.0 ++ items) later ∙ both),
      );
  after = λ pen is.
      a.after pen is
      ∙ (b.after (kept_pen pen a.front) (kept_still style pen a.front is)
      ∙ ap (λ (p : Pen). others_after style p (words_of style.is_quoted rest).others) (kept_both pen a.front b.front));
}

-- what was read is at the front
pub front_of : (style : TextStyle) (text rest : List ℕ) (r : ReadsKept style text rest) → take (length text - length rest) text ≡ r.front
front_of style text rest r = grind (arith, common_steps, length-append, take-append_seam)

-- ---- what the code reads

pub white_all : (quoted : Bool) (text : List ℕ) (n : ℕ) → begins_white text ≡ true → n ≡ token_len quoted text → list_all is_white (take n text) ≡ true
white_all quoted [] n begins len = grind arith
white_all quoted (b ∷ bytes) n begins len =
    let token = white_token quoted b bytes begins in
    let is : token_len quoted (b ∷ bytes) ≡ prefix_len is_white (b ∷ bytes) = rw token (length-prefix_len is_white (b ∷ bytes)) in
    all_before is_white is_white (λ x h. h) (b ∷ bytes) n (omega (arith, len, is))
