-- A plain text that the open row has room for.
use Rattle.std.proofs.Common.{◌≡◌, ℕ, ◌+◌, ◌<◌, ◌≤◌, zero, suc, true, false, ◌==◌, Bool, List, [], ◌∷◌, ◌++◌, length, replicate, min, take, drop, append_assoc, append-nil, length-append, ◌<◌, refl, ap, sym, ◌∙◌, arith}
use Rattle.std.proofs.lemmas.Bool.Decides.{nat_tests}
use Rattle.std.specs.List.{list_all}
use Rattle.std.proofs.lemmas.List.Folds.{list_all-append}
use Rattle.std.proofs.lemmas.List.{take-append-drop, length-map, length-replicate}
use Rattle.std.proofs.lemmas.List.Sums.{sum_by-append}
use Rattle.unicode_width.specs.Width.{char_width}
use Rattle.page_core_base.proofs.LatchLemmas.{characters_of-text}
use Rattle.page_core_base.specs.Texts.{characters_of}
use Rattle.page_core_base.specs.declared.cells.Cell.{Cell}
use Rattle.page_core_base.specs.declared.cells.Font.{Font}
use Rattle.page_core_base.specs.declared.places.Place.{Place}
use Rattle.page_core_base.specs.Rows.{nothing}
use Rattle.page_core_base.specs.laws.Views.{cells_in, is_printable, is_printable_ascii}
use Rattle.page_core_tables.specs.Glyphs.{char_printed, known}
use Rattle.page_fill_rows.specs.OpenRows.{Sheet}
use Rattle.page_fill_cells.specs.Cells.{cell_columns, columns, blank, cell_of, cells_of}
use Rattle.page_fill_rows.specs.machine.Sheets.{counted, passes, letter, letters, space, spaces}
use Rattle.page_core_base.specs.declared.limits.TheConstants.{CELLS}
use Rattle.page_fill_rows.specs.declared.TheConstants.{TAG_COLUMNS}
use Rattle.page_fill_rows.specs.laws.Views.{character, characters}
use Rattle.page_fill_rows.specs.machine.RowPlans.{IsSound}
use Rattle.page_core_base.specs.declared.page_settings.Output.{Output}
use Rattle.std.proofs.lemmas.Str.{chars-IsAscii, IsUtf8-from_ascii}
use Rattle.std.proofs.lemmas.Str.Ascii.{IsAscii-nil}
use Rattle.std.specs.Str.{IsAscii}
use Rattle.std.proofs.lemmas.Grind.{common_steps}
pub use Rattle.page_fill_cells.proofs.PlaceLemmas.{columns-plain, first-plain, plain-columns, rest-plain}
use Rattle.page_fill_rows.specs.machine.Plain.{has_room, taken, has_word_room, spaced_by}

-- both parts of a plain text are plain
pub parts-plain : (n : ℕ) (bytes : List ℕ) → is_printable_ascii bytes ≡ true → (is_printable_ascii (take n bytes) ≡ true) × (is_printable_ascii (drop n bytes) ≡ true)
parts-plain n bytes plain =
    let both = ap is_printable_ascii (sym (take-append-drop n bytes)) ∙ list_all-append is_printable (take n bytes) (drop n bytes) in
    grind arith

-- ---- cells of plain bytes

abbrev pub are_plain : List Cell → Bool
are_plain cells = list_all (λ cell. is_printable cell.c) cells

pub first-column : (cell : Cell) (cells : List Cell) → are_plain (cell ∷ cells) ≡ true → cell_columns cell ≡ 1
first-column cell cells plain = let byte : is_printable cell.c ≡ true = grind (arith, plain) in plain-columns cell.font cell.c byte

pub others-plain : (cell : Cell) (cells : List Cell) → are_plain (cell ∷ cells) ≡ true → are_plain cells ≡ true
others-plain cell cells plain = grind (arith, plain)

pub of-plain : (font : Font) (bytes : List ℕ) → is_printable_ascii bytes ≡ true → are_plain (cells_of font bytes) ≡ true
of-plain font [] plain = refl
of-plain font (b ∷ bytes) plain = rw (first-plain b bytes plain) (of-plain font bytes (rest-plain b bytes plain))

pub in-plain : (bytes : List ℕ) (fonts : List Font) → is_printable_ascii bytes ≡ true → are_plain (cells_in bytes fonts) ≡ true
in-plain [] fonts plain = refl
in-plain (b ∷ bytes) [] plain = refl
in-plain (b ∷ bytes) (font ∷ fonts) plain = rw (first-plain b bytes plain) (in-plain bytes fonts (rest-plain b bytes plain))

pub columns-cells : (cells : List Cell) → are_plain cells ≡ true → columns cells ≡ length cells
columns-cells [] plain = refl
columns-cells (cell ∷ cells) plain = grind (arith, common_steps, first-column, others-plain, sum_by-append, columns-cells cells (others-plain cell cells plain))

-- ---- one cell

not-passed : (s : Sheet) (cell : Cell) (n : ℕ) → cell_columns cell ≡ 1 → has_room s (suc n) ≡ true → passes (counted s cell) cell ≡ false
not-passed s cell n one room = grind (arith, nat_tests, one, room)

not-full : (s : Sheet) (n : ℕ) → has_room s (suc n) ≡ true → (length s.cells == CELLS) ≡ false
not-full s n room = grind (arith, nat_tests, room)

pub has-some : (cells : List Cell) (n : ℕ) → length cells ≡ suc n → (length cells == 0) ≡ false
has-some cells n is = grind (arith, nat_tests, is)

pub has-more : (cells : List Cell) (cell : Cell) → (length (cells ++ cell ∷ []) == 0) ≡ false
has-more cells cell = has-some (cells ++ cell ∷ []) (length cells) (length-append cells (cell ∷ []) ∙ omega arith)

letter-at : (s : Sheet) (cells : List Cell) (cell : Cell) (n : ℕ) (place : Place) → s.cells ≡ cells → cell_columns cell ≡ 1 → has_room s (suc n) ≡ true
    → letter s cell place ≡ nothing (taken s (cell ∷ []))
unfolding letter
letter-at s [] cell n place is one room = rw (not-passed s cell n one room, not-full s n room, is, one) refl
letter-at s (c ∷ cs) cell n place is one room = rw (not-passed s cell n one room, not-full s n room, has-some s.cells (length cs) (ap length is), one) refl

pub letter-fits : (s : Sheet) (cell : Cell) (n : ℕ) (place : Place) → cell_columns cell ≡ 1 → has_room s (suc n) ≡ true
    → letter s cell place ≡ nothing (taken s (cell ∷ []))
letter-fits s cell n place one room = letter-at s s.cells cell n place refl one room

-- ---- the others

room-at : (s : Sheet) (cells : List Cell) (cell : Cell) (n : ℕ) → s.cells ≡ cells → cell_columns cell ≡ 1 → has_room s (suc n) ≡ true
    → has_room (taken s (cell ∷ [])) n ≡ true
room-at s [] cell n is one room = rw is (grind (arith, nat_tests, one, rw is at room))
room-at s (c ∷ cs) cell n is one room = grind (arith, sum_by-append, has-some, length-append)

-- room for the others
pub room-less : (s : Sheet) (cell : Cell) (n : ℕ) → cell_columns cell ≡ 1 → has_room s (suc n) ≡ true → has_room (taken s (cell ∷ [])) n ≡ true
room-less s cell n one room = room-at s s.cells cell n refl one room

pub counts-more : (columns n : ℕ) → min (min (columns + 1) TAG_COLUMNS + suc n) TAG_COLUMNS ≡ min (columns + suc (suc n)) TAG_COLUMNS
counts-more columns n = omega arith

taken-at : (s : Sheet) (front : List Cell) (cell next : Cell) (cells : List Cell) → s.cells ≡ front
    → taken (taken s (cell ∷ [])) (next ∷ cells) ≡ taken s (cell ∷ next ∷ cells)
taken-at s [] cell next cells is = grind arith
taken-at s (c ∷ cs) cell next cells is = grind (arith, has-more, has-some, counts-more, append_assoc)

pub taken-more : (s : Sheet) (cell next : Cell) (cells : List Cell) → taken (taken s (cell ∷ [])) (next ∷ cells) ≡ taken s (cell ∷ next ∷ cells)
taken-more s cell next cells = taken-at s s.cells cell next cells refl

-- ---- a text

pub cells-fit : (s : Sheet) (cell : Cell) (cells : List Cell) (place : Place) → are_plain (cell ∷ cells) ≡ true → has_room s (length (cell ∷ cells)) ≡ true
    → letters s (cell ∷ cells) place ≡ nothing (taken s (cell ∷ cells))
unfolding letters
cells-fit s cell [] place plain room = rw (letter-fits s cell 0 place (first-column cell [] plain) room) refl
cells-fit s cell (next ∷ cells) place plain room =
    let one = first-column cell (next ∷ cells) plain in
    let less = room-less s cell (suc (length cells)) one room in
    let others = cells-fit (taken s (cell ∷ [])) next cells place (others-plain cell (next ∷ cells) plain) less in
    rw (letter-fits s cell (suc (length cells)) place one room) (others ∙ ap nothing (taken-more s cell next cells))

-- a text with a byte
pub letters-fits : (s : Sheet) (bytes : List ℕ) (font : Font) (place : Place) → (length bytes == 0) ≡ false → is_printable_ascii bytes ≡ true → has_room s (length bytes) ≡ true
    → letters s (cells_of font bytes) place ≡ nothing (taken s (cells_of font bytes))
letters-fits s [] font place some plain room = absurd (grind (arith, some))
letters-fits s (b ∷ bytes) font place some plain room = grind (arith, cells-fit, of-plain, length-map)

-- a sound row with more cells of plain bytes is sound
pub sound-cells : {blanks : ℕ} (cells more : List Cell) (count gap word tag tag-now : ℕ) → IsSound cells count gap word tag blanks
    → are_plain more ≡ true → length cells + length more ≤ CELLS → tag-now ≤ TAG_COLUMNS
    → IsSound (cells ++ more) (count + length more) gap word tag-now blanks
sound-cells cells more count gap word tag tag-now sound plain room tagged = grind (arith, length-append, sum_by-append, columns-cells)

-- the same of a plain text
pub sound-more : {blanks : ℕ} (cells : List Cell) (bytes : List ℕ) (font : Font) (count gap word tag tag-now : ℕ) → IsSound cells count gap word tag blanks
    → is_printable_ascii bytes ≡ true → length cells + length bytes ≤ CELLS → tag-now ≤ TAG_COLUMNS
    → IsSound (cells ++ cells_of font bytes) (count + length bytes) gap word tag-now blanks
sound-more cells bytes font count gap word tag tag-now sound plain room tagged =
    let len = length-map bytes (cell_of font) in
    rw len at (sound-cells cells (cells_of font bytes) count gap word tag tag-now sound (of-plain font bytes plain) (rw len room) tagged)

-- ---- blanks and their cells

pub blank-one : cell_columns blank ≡ 1
unfolding char_width
blank-one = refl

pub columns-blanks : (n : ℕ) → columns (replicate n blank) ≡ n
columns-blanks zero = refl
columns-blanks (suc n) = grind (arith, common_steps, blank-one, sum_by-append, columns-blanks n)

has-front : (cells more : List Cell) → (length cells == 0) ≡ false → (length (cells ++ more) == 0) ≡ false
has-front cells more some = let len = length-append cells more in grind (arith, nat_tests, some, len)

-- blanks and cells count for the open tag one after another, or together
counts-both : (columns blanks n : ℕ) → min (min (columns + blanks) TAG_COLUMNS + n) TAG_COLUMNS ≡ min (columns + (blanks + n)) TAG_COLUMNS
counts-both columns blanks n = omega arith

pub taken-cells : (s : Sheet) (blanks : ℕ) (cells : List Cell) → (length s.cells == 0) ≡ false
    → taken (spaced_by s blanks) cells ≡ record s {
      cells = s.cells ++ replicate blanks blank ++ cells;
      gap = length s.cells;
      word = length s.cells + blanks;
      tag_columns = min (s.tag_columns + (blanks + length cells)) TAG_COLUMNS;
      tag_begun = true;
    }
taken-cells s blanks cells some = rw (has-front s.cells (replicate blanks blank) some, counts-both s.tag_columns blanks (length cells)) refl

-- a sound row with blanks before its next word is sound
pub sound-spaces : {held : ℕ} (cells : List Cell) (blanks count gap word tag tag-now : ℕ) → IsSound cells count gap word tag held
    → length cells + blanks ≤ CELLS → tag-now ≤ TAG_COLUMNS → IsSound (cells ++ replicate blanks blank) (count + blanks) (length cells) (length cells + blanks) tag-now held
sound-spaces cells blanks count gap word tag tag-now sound room tagged = grind (arith, length-append, length-replicate, sum_by-append, columns-blanks)

-- ---- its characters

ascii-plain : (bytes : List ℕ) → is_printable_ascii bytes ≡ true → IsAscii bytes
ascii-plain [] plain = IsAscii-nil
ascii-plain (b ∷ bytes) plain = grind (arith, ascii-plain bytes (rest-plain b bytes plain))

characters_of-ascii : (bytes : List ℕ) → IsAscii bytes → characters_of bytes ≡ bytes
characters_of-ascii bytes ascii = characters_of-text bytes (IsUtf8-from_ascii bytes ascii) ∙ chars-IsAscii bytes ascii

pub characters_of-plain : (bytes : List ℕ) → is_printable_ascii bytes ≡ true → characters_of bytes ≡ bytes
characters_of-plain bytes plain = characters_of-ascii bytes (ascii-plain bytes plain)

-- a plain byte prints itself
prints-itself : (output : Output) (b : ℕ) → is_printable b ≡ true → char_printed output b ≡ known (b ∷ [])
prints-itself output b byte = grind arith

pub characters-plain : (output : Output) (s : Sheet) (bytes : List ℕ) (font : Font) (place : Place) → is_printable_ascii bytes ≡ true
    → characters output s bytes font place ≡ letters s (cells_of font bytes) place
unfolding characters character letters
characters-plain output s [] font place plain = refl
characters-plain output s (b ∷ bytes) font place plain =
    grind (arith, prints-itself, append-nil, characters-plain output (letter s (cell_of font b) place).edge bytes font place (rest-plain b bytes plain))

-- ---- a word after blanks

pub space-fits : (s : Sheet) (place : Place) → s.literal ≡ false → (length s.cells == 0) ≡ false → length s.cells < CELLS
    → s.margin + columns s.cells + 1 ≤ s.width
    → space s place ≡ nothing (record s { cells = s.cells ++ blank ∷ []; word = length s.cells + 1; tag_columns = min (s.tag_columns + 1) TAG_COLUMNS; tag_begun = true })
unfolding space
space-fits s place literal some room wide = grind (arith, blank-one)

pub spaces-fit : (s : Sheet) (n : ℕ) (place : Place) → s.literal ≡ false → (length s.cells == 0) ≡ false → length s.cells + suc n ≤ CELLS
    → s.margin + columns s.cells + suc n ≤ s.width
    → spaces s (suc n) place ≡ nothing (record s {
      cells = s.cells ++ replicate (suc n) blank;
      word = length s.cells + suc n;
      tag_columns = min (s.tag_columns + suc n) TAG_COLUMNS;
      tag_begun = true;
    })
unfolding spaces
spaces-fit s zero place literal some room wide = rw (space-fits s place literal some (omega (arith, room)) wide) refl
spaces-fit s (suc n) place literal some room wide =
    let t = record s { cells = s.cells ++ blank ∷ []; word = length s.cells + 1; tag_columns = min (s.tag_columns + 1) TAG_COLUMNS; tag_begun = true } in
    let len = length-append s.cells (blank ∷ []) in
    let last : columns (blank ∷ []) ≡ 1 = omega (arith, blank-one) in
    let sum : columns (s.cells ++ blank ∷ []) ≡ columns s.cells + 1 = sum_by-append cell_columns s.cells (blank ∷ []) ∙ ap (λ k. columns s.cells + k) last in
    let others = spaces-fit t n place literal (has-more s.cells blank) (omega (arith, len, room)) (omega (arith, sum, wide)) in
    grind (arith, space-fits, append_assoc, counts-more)

pub spaced-room : (s : Sheet) (blanks n : ℕ) → has_word_room s blanks n ≡ true → has_room (spaced_by s blanks) n ≡ true
spaced-room s blanks n room = grind (arith, sum_by-append, columns-blanks, length-append, length-replicate)
