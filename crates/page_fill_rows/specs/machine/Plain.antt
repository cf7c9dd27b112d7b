-- A machine, which settles what the steps of Sheets settle: the fast way for plain texts (plain_law), and for words that a row takes at once
-- (`Edge::put_words` of page_fill). They are characters of printable ASCII, each a cell of one column, so that an open row with room for them takes them as
-- a whole.
use Rattle.std.specs.Prelude.{ℕ, ◌+◌, Bool, true, not, ◌&&◌, ◌||◌, ◌==◌, ◌-◌, nat_le, nat_lt, min, List, [], ◌∷◌, ◌++◌, length, replicate, if◌then◌else◌}
use Rattle.std.specs.List.{prefix_len}
use Rattle.page_core_base.specs.declared.cells.Cell.{Cell}
use Rattle.page_core_base.specs.Rows.{Laid}
pub use Rattle.page_core_base.specs.laws.Views.{is_printable, is_printable_ascii}
use Rattle.page_fill_rows.specs.OpenRows.{Sheet, over, TAG_COLUMNS}
use Rattle.page_fill_rows.specs.machine.Sheets.{begins, counted, emptied, gives, opens, passes}
use Rattle.page_fill_cells.specs.Cells.{columns, blank}
use Rattle.page_core_base.specs.Limits.{CELLS}

-- neither the width nor the row's end comes before the end of this count of cells of a column each
abbrev pub has_room : Sheet → ℕ → Bool
has_room s count =
    nat_le (length s.cells + count) CELLS
    && (s.literal || (s.gap == 0 || nat_le (s.margin + columns s.cells + count) s.width))

-- how many cells of a column each it takes before they come
abbrev pub room : Sheet → ℕ
room s = if s.literal || s.gap == 0 then CELLS - length s.cells else min (CELLS - length s.cells) (s.width - s.margin - columns s.cells)

-- `has_room` of a row that has a cell
abbrev pub has_part_room : Sheet → ℕ → Bool
has_part_room s count = not (length s.cells == 0) && has_room s count

-- an open row that is filled has room for blanks and this count of cells of a column each after them
abbrev pub has_word_room : Sheet → ℕ → ℕ → Bool
has_word_room s blanks count =
    not s.literal
    && (not (length s.cells == 0)
    && (nat_le (length s.cells + blanks + count) CELLS && nat_le (s.margin + columns s.cells + blanks + count) s.width))

-- an open row that is filled ends before a word after one blank, with this count of cells of a column each
abbrev pub ends_before : Sheet → ℕ → Bool
ends_before s count =
    not s.literal
    && (not (length s.cells == 0)
    && (nat_le (length s.cells + 1 + count) CELLS && nat_lt s.width (s.margin + columns s.cells + 1 + count)))

-- the row took a blank before its next word
abbrev pub spaced : Sheet → Sheet
spaced s = let t = counted (opens s) blank in record t { cells = t.cells ++ blank ∷ []; word = length t.cells + 1 }

-- the same of a count of blanks
abbrev pub spaced_by : Sheet → ℕ → Sheet
spaced_by s n = record s {
  cells = s.cells ++ replicate n blank;
  gap = length s.cells;
  word = length s.cells + n;
  tag_columns = min (s.tag_columns + n) TAG_COLUMNS;
  tag_begun = true;
}

-- a row is open, perhaps without cells
abbrev pub opened : Sheet → Sheet
opened s = if length s.cells == 0 then begins s [] else s

-- the row took cells of a column each
abbrev pub taken : Sheet → List Cell → Sheet
taken s cells =
    record s {
      margin = (opened s).margin;
      first = (opened s).first;
      cells = s.cells ++ cells;
      gap = (opened s).gap;
      word = (opened s).word;
      tag_columns = min (s.tag_columns + length cells) TAG_COLUMNS;
      tag_begun = true;
    }

-- the blank before a word counts for the open tag where it does not pass the width itself
abbrev pub blank_counted : Sheet → Sheet
blank_counted s = if passes (opens s) blank then opens s else counted (opens s) blank

-- the row ended before a word of a column a cell, which begins the next row
abbrev pub wraps_plain : Sheet → List Cell → Laid Sheet
wraps_plain s cells = over (gives (blank_counted s) s.cells) (λ t. taken (emptied t) cells)

-- the next row begins with words, cells of a column each, of which the last word starts at a place
abbrev pub begun_with : Sheet → List Cell → ℕ → Sheet
begun_with s cells start = record (taken (emptied s) cells) { gap = start - 1; word = start }

-- the row ended before words, which begin the next row
abbrev pub wraps_words : Sheet → List Cell → ℕ → Laid Sheet
wraps_words s cells start = over (gives (blank_counted s) s.cells) (λ t. begun_with t cells start)

-- how many cells of a column each go into the next row, which is filled, before it ends
abbrev pub next_free_cells : Sheet → ℕ
next_free_cells s = min CELLS (s.width - s.first)

-- how many cells of a column each go into an open row that is filled, before it ends
abbrev pub free_cells : Sheet → ℕ
free_cells s = if s.literal || length s.cells == 0 then 0 else min (CELLS - length s.cells) (s.width - s.margin - columns s.cells)

-- where the letters after the last blank begin; 0 where there is no blank
unfoldable pub word_start : List ℕ → ℕ
word_start [] = 0
word_start (b ∷ bytes) = if not (word_start bytes == 0) then word_start bytes + 1 else if b == 32 then 1 else 0

-- how many bytes come before the first blank
abbrev pub word_end : List ℕ → ℕ
word_end bytes = prefix_len (λ b. not (b == 32)) bytes

-- the row took blanks and words with a blank between two, one after another: cells of a column each, of which the last word starts at a place
abbrev pub words_taken : Sheet → ℕ → List Cell → ℕ → Sheet
words_taken s blanks cells start = record s {
  cells = s.cells ++ replicate blanks blank ++ cells;
  gap = if start == 0 then length s.cells else length s.cells + blanks + (start - 1);
  word = length s.cells + blanks + start;
  tag_columns = min (s.tag_columns + (blanks + length cells)) TAG_COLUMNS;
  tag_begun = true;
}
