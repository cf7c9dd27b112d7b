-- Rows and messages without control characters.
use Rattle.std.specs.List.{All}
use Rattle.std.specs.Prelude.{ℕ, List, ◌≡◌, ◌++◌, ◌⊎◌, flat_map, encode_utf8, codes, true, false}
use Rattle.page_core_base.specs.Rows.{LaidRow}
use Rattle.page_core_base.specs.Texts.{has_no_control}
use Rattle.page_core_base.specs.declared.cells.Cell.{Cell}
use Rattle.page_core_tables.specs.Glyphs.{is_control}
use Rattle.page_core_streams.specs.Streams.{backspace}

-- cells of which each has a character that is no control character
abbrev pub AreShown : List Cell → Type 0
AreShown cells = All (λ (cell : Cell). is_control cell.c ≡ false) cells

-- rows of such cells
abbrev pub AreShownRows : List LaidRow → Type 0
AreShownRows rows = All (λ (row : LaidRow). AreShown row.cells) rows

-- the bytes of a row: those of characters, and a line feed. Each is no control character, or the backspace between two that are printed over one
-- another.
pub record IsRowText (bytes : List ℕ) : Type 0 where
  pub characters : List ℕ
  pub parts : bytes ≡ flat_map encode_utf8 characters ++ codes "\n"
  pub shown : All (λ (c : ℕ). (is_control c ≡ false) ⊎ (c ≡ backspace)) characters

-- the bytes of a message about a file: but for the name of the file, which the caller gives, they have no control character but the tab, and a line feed
-- at their end
pub record IsMessageText (file bytes : List ℕ) : Type 0 where
  pub text : List ℕ
  pub parts : bytes ≡ codes "mandoc: " ++ (file ++ (text ++ codes "\n"))
  pub plain : has_no_control 0 text ≡ true
