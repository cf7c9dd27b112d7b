-- The record of a page: its names, its section and what it is for. Source: mandoc(1), makewhatis; whatis(1).
use Rattle.std.specs.Prelude.{ℕ, ◌+◌, ◌==◌, nat_eq, nat_lt, Bool, false, if◌then◌else◌, List, [], ◌∷◌, ◌++◌, length, take, drop, Option, Some, None, codes}
use Rattle.std.specs.List.{slice_split, starts_with}
use Rattle.page_core_base.specs.declared.page_settings.Output.TheVariants.{Ascii}
use Rattle.page_core_escapes.specs.Tokens.{tokens_of}
use Rattle.page_engine_header.specs.Header.{tokens_items}
use Rattle.page_engine_index.specs.declared.records.Record.{Record}
use Rattle.page_roff_syntax.specs.Delimiters.{kept_len}
use Rattle.page_scopes_words.specs.Fonts.{roman_fonts}
use Rattle.page_scopes_words.specs.Words.{at}
use Rattle.page_engine_records.specs.NameTexts.{kept_text, signs_of}

-- ---- names

abbrev pub is_comma : ℕ → Bool
is_comma byte = byte == 44

abbrev pub is_blank : ℕ → Bool
is_blank byte = byte == 32

-- a text without the blanks at its front, and without those at its ends
unfoldable pub without_front : List ℕ → List ℕ
without_front [] = []
without_front (byte ∷ bytes) = if is_blank byte then without_front bytes else byte ∷ bytes

abbrev pub trimmed : List ℕ → List ℕ
trimmed text = take (kept_len is_blank (without_front text)) (without_front text)

-- names, and another one after them, unless it is empty
abbrev pub with_name : List ℕ → List ℕ → List ℕ
with_name names [] = names
with_name [] (byte ∷ name) = byte ∷ name
with_name (first ∷ names) (byte ∷ name) = (first ∷ names) ++ (codes ", " ++ (byte ∷ name))

unfoldable pub with_names : List ℕ → List (List ℕ) → List ℕ
with_names names [] = names
with_names names (part ∷ parts) = with_names (with_name names (trimmed part)) parts

-- the names in a text, separated by commas, without the blanks around them and without the empty ones, joined by `, `
abbrev pub names_in : List ℕ → List ℕ
names_in text = with_names [] (slice_split is_comma text)

-- ---- the text of the section NAME

unfoldable pub begins_dash : List ℕ → Bool
begins_dash text = starts_with nat_eq text (codes " - ")

-- the bytes before the first ` - `; all of them where there is none
unfoldable pub dash_place : List ℕ → ℕ
dash_place [] = 0
dash_place (byte ∷ bytes) = if begins_dash (byte ∷ bytes) then 0 else 1 + dash_place bytes

-- what is before the first ` - ` are names, what is after it is what the page is for
abbrev pub record_with : (names section description : List ℕ) → Option Record
record_with [] section description = None
record_with (byte ∷ names) section description =
    Some (record { names = byte ∷ names; section = section; description = description })

-- without ` - `, or without a name, there is no record
abbrev pub record_of : (text section : List ℕ) → Option Record
record_of text section =
    if nat_lt (dash_place text) (length text)
    then record_with (names_in (take (dash_place text) text)) section (drop (dash_place text + 3) text)
    else None

-- ---- a page

-- the section of the manual of a title, as the header prints it in ASCII
abbrev pub section_text : List ℕ → List ℕ
section_text section = kept_text (signs_of 0 (tokens_items Ascii (at 1 1) roman_fonts (tokens_of false section)))

-- by the text of the section NAME, and the section of the title; a page without a section NAME has no record
abbrev pub record_by : Option (List ℕ) → (section : List ℕ) → Option Record
record_by None section = None
record_by (Some text) section = record_of text (section_text section)
