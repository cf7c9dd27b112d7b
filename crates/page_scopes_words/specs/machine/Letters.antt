-- Letters in their fonts, which are read once and given at once: a fast way of the code, which no definition of a page cites.
-- Source: roff(7), `\f`.
use Rattle.std.specs.Prelude.{◌≡◌, ℕ, ◌+◌, Bool, true, List, [], ◌++◌, length, map, take, drop, if◌then◌else◌, suc, ◌≤◌, ◌<◌, ◌==◌, ◌&&◌, ◌||◌, not, false, get_or}
use Rattle.std.specs.List.{list_all}
use Rattle.page_core_base.specs.Rows.{Item, shown, hyphen}
use Rattle.page_core_base.specs.laws.Views.{is_lettered_word, lettered_cells, lettered_pieces, is_printable}
use Rattle.page_core_base.specs.declared.cells.Cell.{Cell}
use Rattle.page_core_base.specs.declared.cells.Font.{Font}
use Rattle.page_core_base.specs.declared.pieces.Piece.{Piece}
use Rattle.page_scopes_words.specs.declared.fonts.Fonts.{Fonts}
use Rattle.page_scopes_words.specs.declared.pens.Pen.{Pen}
use Rattle.page_scopes_words.specs.declared.settings.Setting.{Setting}

-- letters in one font
abbrev pub letters_in : Font → List ℕ → List Cell
letters_in font bytes = map (λ c. record { c = c; font = font }) bytes

-- what stood at a start and after it is put anew
abbrev pub put_at : {A : Type 0} → List A → ℕ → List A → List A
put_at old start others = take start old ++ (others ++ drop (start + length others) old)

-- these cells are words of letters with a blank before each, and a call took all of them after so many blanks, or none
abbrev pub GivesLetters : {S : Type 0} → ℕ → List Cell → Bool → (S → List Item → S → Type 0) → S → S → Type 0
GivesLetters {S} blanks cells taken gave s t =
    (words : List (List (Piece (List ℕ)))) → list_all is_lettered_word words ≡ true → cells ≡ lettered_cells words
    → gave s (if taken then map shown (lettered_pieces blanks words) else []) t

-- ---- Where a run of words of printable ASCII ends, with one blank before each: a fast way of the code, which no definition of a page cites.

-- whether a run ends at a byte, by the one after it: a hyphen, what is not printable ASCII, a backslash, in a quoted argument a quote, or a blank
-- before a blank
abbrev pub ends_run : Bool → ℕ → ℕ → Bool
ends_run quoted byte next = byte == hyphen || ((not (is_printable byte) || (byte == 92 || (quoted && byte == 34))) || (byte == 32 && next == 32))

-- the same at a place of a text; after its end there is taken to be a blank
abbrev pub ends_run_at : Bool → List ℕ → ℕ → Bool
ends_run_at quoted text place = ends_run quoted (get_or text place 32) (get_or text (suc place) 32)

-- from one place up to another no run ends
abbrev pub GoesOn : Bool → List ℕ → ℕ → ℕ → Type 0
GoesOn quoted text from to = (k : ℕ) → from ≤ k → k < to → ends_run_at quoted text k ≡ false

-- ---- The pen between words that print themselves: a fast way of the code, which no definition of a page cites.

-- a pen after a word that prints itself, where words are parted
abbrev pub resting : Setting Fonts → ℕ → Pen
resting fonts column = record {
  fonts = fonts;
  column = column;
  gap = 1;
  is_after_word = true;
  has_cell = true;
  is_cut = false;
  ends_blank = false;
  splits = true;
}
