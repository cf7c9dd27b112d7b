-- The bytes of rows and messages, and the sinks and sources of bytes. Source: mandoc(1), DESCRIPTION.
use Rattle.std.specs.Io.KnownBytes.{Consumes}
use Rattle.std.specs.Prelude.{ℕ, List, ◌∷◌, ◌++◌, encode_utf8, [], if◌then◌else◌, replicate, flat_map, codes, decimal, ◌≡◌, ⊤, Option, None, Some, ◌+◌, ◌-◌, ◌^◌, min, length, ◌≤◌, ◌<◌, ◌⊎◌, Bool, true, false, Result, MatchResult}
use Rattle.page_core_base.specs.Bytes.{ascii}
use Rattle.page_core_base.specs.Messages.{Message, level_of, level_name, text_of, Rose}
use Rattle.page_core_base.specs.Rows.{is_blank, LaidRow, trimmed}
use Rattle.page_core_base.specs.Texts.{has_no_control}
use Rattle.page_core_base.specs.declared.cells.Cell.{Cell}
use Rattle.page_core_base.specs.declared.cells.Font.{Font}
use Rattle.page_core_base.specs.declared.cells.Font.TheVariants.{R, B, I, BI}

-- ---- The bytes of cells and rows. Source: mandoc(1), "ASCII Output".

-- backspace
abbrev pub backspace : ℕ
backspace = 8

-- a character in a font: bold is printed over itself, italic over an underscore
abbrev pub marked_bytes : ℕ → Font → List ℕ
marked_bytes c R = encode_utf8 c
marked_bytes c B = encode_utf8 c ++ backspace ∷ encode_utf8 c
marked_bytes c I = ascii "_" ∷ backspace ∷ encode_utf8 c
marked_bytes c BI = ascii "_" ∷ backspace ∷ (encode_utf8 c ++ backspace ∷ encode_utf8 c)

-- a blank is never marked
abbrev pub cell_bytes_of : Cell → List ℕ
cell_bytes_of cell = if is_blank cell then codes " " else marked_bytes cell.c cell.font

-- a margin in blanks, the cells and a line feed; where there is no cell, the line feed alone
abbrev pub printed : ℕ → List Cell → List ℕ
printed margin [] = codes "\n"
printed margin (cell ∷ cells) = replicate margin (ascii " ") ++ (flat_map cell_bytes_of (cell ∷ cells) ++ codes "\n")

abbrev pub row_bytes : LaidRow → List ℕ
row_bytes row = printed row.margin (trimmed row.cells)

-- ---- The bytes of a message. Source: mandoc(1), "DIAGNOSTICS".

-- a detail is shown after a colon
abbrev pub detail_bytes : List ℕ → List ℕ
detail_bytes [] = []
detail_bytes (byte ∷ bytes) = codes ": " ++ byte ∷ bytes

-- mandoc: FILE:LINE:COLUMN: LEVEL: TEXT: DETAIL
abbrev pub parts_bytes : List ℕ → List ℕ → List ℕ → List ℕ → List ℕ → List ℕ → List ℕ
parts_bytes file line column level text detail =
    codes "mandoc: " ++ (file ++ (ascii ":" ∷ (line ++ (ascii ":" ∷ (column ++ (ascii ":" ∷ ascii " " ∷ (level ++ (ascii ":" ∷ ascii " " ∷
    (text ++ (detail_bytes detail ++ codes "\n"))))))))))

-- a detail with a control character is not shown; a tab may be in it
abbrev pub shown_detail : List ℕ → List ℕ
shown_detail detail = if has_no_control 0 detail then detail else []

abbrev pub message_bytes : List ℕ → Message → List ℕ
message_bytes file m = parts_bytes file (decimal m.line) (decimal m.column) (level_name (level_of m.kind)) (text_of m.kind) (shown_detail m.detail)

-- ---- A sink that is seen as a list, where the list is known.

-- the known list grows by more
abbrev pub Grows : {A : Type 0} → Option (List A) → Option (List A) → List A → Type 0
Grows None new more = ⊤
Grows (Some xs) None more = ⊥
Grows (Some xs) (Some ys) more = ys ≡ xs ++ more

-- the known list grows by a prefix of all
pub record GrowsInto {A : Type 0} (old new : Option (List A)) (all : List A) : Type 0 where
  pub done : List A
  pub rest : List A
  pub parts : all ≡ done ++ rest
  pub grows : Grows old new done

-- what stands for each item comes to the list
abbrev pub Adds : {S I A : Type 0} → (S → Option (List A)) → (I → List A) → S → List I → S → Type 0
Adds held stands s xs t = Grows (held s) (held t) (flat_map stands xs)

abbrev pub AddsInto : {S I A : Type 0} → (S → Option (List A)) → (I → List A) → S → List I → S → Type 0
AddsInto held stands s xs t = GrowsInto (held s) (held t) (flat_map stands xs)

-- ---- A source of bytes, as its counts show it.

-- the bytes to come, where they are known; how often it failed and was asked, how many bytes it gave, and how many of its calls were empty:
-- those that gave no byte, though they were neither the end nor a failure
pub record SourceState : Type 0 where
  pub remaining : Option (List ℕ)
  pub failed : ℕ
  pub calls : ℕ
  pub given : ℕ
  pub empty : ℕ

-- a count with more, which stays at 2^64 - 1
abbrev pub counted : ℕ → ℕ → ℕ
counted count more = count + min more (2 ^ 64 - 1 - count)

-- by this number of calls it gave these bytes
pub record HasGiven (s t : SourceState) (asked : ℕ) (bytes : List ℕ) : Type 0 where
  pub read : Consumes s.remaining t.remaining bytes
  pub calls : t.calls ≡ counted s.calls asked
  pub given : t.given ≡ counted s.given (length bytes)

-- of these calls each gave a byte or was empty, but for one at most: the end, or a failure
pub record IsLean (s t : SourceState) (asked : ℕ) (bytes : List ℕ) : Type 0 where
  pub idle : ℕ
  pub empty : t.empty ≡ counted s.empty idle
  pub most : asked ≤ length bytes + idle + 1

-- the bound on calls was reached, or the bound on bytes was passed
abbrev pub IsTooLong : ℕ → List ℕ → Type 0
IsTooLong asked bytes = (asked ≡ 2 ^ 32 - 1) ⊎ (2 ^ 31 - 1 < length bytes)

-- ---- How often what bytes are written to has failed, where that is counted.

-- where it is counted, the count rose, or is at its end
abbrev pub RisesIf : (counts : Bool) → ℕ → ℕ → Type 0
RisesIf true old new = Rose old new
RisesIf false old new = ⊤

-- the count of a call that answers a result rose where it failed, and only there
abbrev pub ErrsBy : {T E : Type 0} → (counts : Bool) → Result T E → ℕ → ℕ → Type 0
ErrsBy counts result old new = MatchResult result (λ _. new ≡ old) (λ _. RisesIf counts old new)
