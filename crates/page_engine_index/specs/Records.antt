-- A record of a page, as it is written. Source: makewhatis(8), whatis(1).
use Rattle.std.specs.Prelude.{◌≡◌, ℕ, ◌+◌, ◌≤◌, Bool, false, ◌||◌, List, [], ◌∷◌, ◌++◌, length, ⊤, codes}
use Rattle.std.specs.List.{list_any}
use Rattle.page_core_base.specs.Limits.{LINE}
use Rattle.page_engine_index.specs.Entries.{Entry, is_line_feed, is_tab}
use Rattle.page_engine_index.specs.Whatis.{described}
use Rattle.page_engine_index.specs.declared.records.Record.{Record}

-- the entry that a record makes with the page's file
abbrev pub entry_with : Record → List ℕ → Entry
entry_with record_ file =
    record { names = record_.names; section = record_.section; description = record_.description; file = file }

-- the line of an entry in an index of version 2: its fields, with a tab between them, and a line feed
abbrev pub entry_line : Entry → List ℕ
entry_line entry = entry.names ++ (codes "\t" ++ (entry.section ++ (codes "\t" ++ (entry.description ++ (codes "\t" ++ (entry.file ++ codes "\n"))))))

abbrev pub printed_record : Record → List ℕ
printed_record record_ = described record_.names record_.section record_.description

-- a byte that ends a field or a line
abbrev pub is_end : ℕ → Bool
is_end byte = is_tab byte || is_line_feed byte

-- an entry that a line can hold: no field has a tab or a line feed, and the line is not too long
pub record IsKept (entry : Entry) : Type 0 where
  pub names : list_any is_end entry.names ≡ false
  pub section : list_any is_end entry.section ≡ false
  pub description : list_any is_end entry.description ≡ false
  pub file : list_any is_end entry.file ≡ false
  pub short : length (entry_line entry) ≤ LINE + 1

abbrev pub AreKept : List Entry → Type 0
AreKept [] = ⊤
AreKept (entry ∷ entries) = IsKept entry × AreKept entries
