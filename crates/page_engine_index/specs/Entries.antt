-- An index of pages by their names: its lines and its entries. Source: makewhatis(8), whatis(1).
use Rattle.std.specs.Prelude.{ℕ, ◌+◌, ◌==◌, Bool, if◌then◌else◌, nat_le, List, [], ◌∷◌, ◌++◌, length, Option, Some, None, codes}
use Rattle.std.specs.List.{onto_first, slice_split}
use Rattle.std.specs.Str.{bytes_eq}
use Rattle.page_core_base.specs.Limits.{LINE}
use Rattle.page_engine_index.specs.declared.entries.Version.{Version}
use Rattle.page_engine_index.specs.declared.entries.Version.TheVariants.{One, Two}

-- the bytes of a line
abbrev pub Line : Type 0
Line = List ℕ

abbrev pub is_line_feed : ℕ → Bool
is_line_feed byte = byte == 10

abbrev pub is_tab : ℕ → Bool
is_tab byte = byte == 9

-- ---- lines

-- the lines of bytes, each without the line feed that ends it; the last may lack it
unfoldable pub lines : List ℕ → List Line
lines [] = []
lines (byte ∷ bytes) = if is_line_feed byte then [] ∷ lines bytes else onto_first byte (lines bytes)

-- a byte before the first of the lines, where there is one
abbrev pub with_byte : ℕ → List Line → List Line
with_byte byte [] = []
with_byte byte (line ∷ lines) = (byte ∷ line) ∷ lines

-- those lines alone that a line feed ends
unfoldable pub whole_lines : List ℕ → List Line
whole_lines [] = []
whole_lines (byte ∷ bytes) = if is_line_feed byte then [] ∷ whole_lines bytes else with_byte byte (whole_lines bytes)

-- ---- entries

-- a page: its names separated by `, `, its section, its description, and its file, empty where that is unknown
pub record Entry : Type 0 where
  pub names : List ℕ
  pub section : List ℕ
  pub description : List ℕ
  pub file : List ℕ

-- by its first line
unfoldable pub version_of : Line → Option Version
version_of line = if bytes_eq line (codes "whatis 1") then Some One else (if bytes_eq line (codes "whatis 2") then Some Two else None)

-- the fields of a line by the index's version; another number of fields makes no entry
abbrev pub entry_in : Version → List (List ℕ) → Option Entry
entry_in One (names ∷ section ∷ description ∷ []) =
    Some (record { names = names; section = section; description = description; file = [] })
entry_in Two (names ∷ section ∷ description ∷ file ∷ []) =
    Some (record { names = names; section = section; description = description; file = file })
entry_in _ _ = None

-- fields are separated by tabs; a line has at most LINE bytes
unfoldable pub entry_of : Version → Line → Option Entry
entry_of version line = if nat_le (length line) LINE then entry_in version (slice_split is_tab line) else None

-- what an index holds: its entries up to the first bad line, and the number of that line
pub record Index : Type 0 where
  pub entries : List Entry
  pub bad : Option ℕ

abbrev pub all_read : Index
all_read = record { entries = []; bad = None }

abbrev pub bad_at : ℕ → Index
bad_at number = record { entries = []; bad = Some number }

abbrev pub with_entries : List Entry → Index → Index
with_entries entries index = record { entries = entries ++ index.entries; bad = index.bad }

-- an entry and what follows it; a line that is none is bad
abbrev pub entry_then : ℕ → Option Entry → Index → Index
entry_then number None index = bad_at number
entry_then number (Some entry) index = with_entries (entry ∷ []) index

-- a first line and what follows it by its version
abbrev pub version_then : ℕ → Option Version → (Version → Index) → Index
version_then number None follows = bad_at number
version_then number (Some version) follows = follows version

-- the lines from a number on; before the first line no version is known
unfoldable pub index_from : Option Version → ℕ → List Line → Index
index_from version number [] = all_read
index_from None number (line ∷ lines) = version_then number (version_of line) (λ version. index_from (Some version) (number + 1) lines)
index_from (Some version) number (line ∷ lines) =
    entry_then number (entry_of version line) (index_from (Some version) (number + 1) lines)

-- an index by its bytes; an empty one has no entry
abbrev pub index : List ℕ → Index
index bytes = index_from None 1 (lines bytes)

-- an index by the lines alone that a line feed ends
abbrev pub whole_index : List ℕ → Index
whole_index bytes = index_from None 1 (whole_lines bytes)
