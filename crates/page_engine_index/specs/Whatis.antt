-- What is shown of an index for words. Source: whatis(1).
use Rattle.std.specs.Prelude.{ℕ, Bool, true, ◌&&◌, if◌then◌else◌, List, [], ◌∷◌, ◌++◌, Option, Some, None, option_map, map, codes}
use Rattle.std.specs.List.{flat_map, list_any}
use Rattle.std.specs.Str.{bytes_eq}
use Rattle.std.specs.Borrow.{Bor}
use Rattle.page_engine_index.specs.Entries.{Entry}
use Rattle.page_engine_index.specs.Matches.{has_match}
use Rattle.page_engine_index.specs.declared.queries.Query.{Query}
use Rattle.page_engine_index.specs.declared.queries.Show.{Show}
use Rattle.page_engine_index.specs.declared.queries.Show.TheVariants as show

-- what is looked for: words, in one section or in each, and what is shown of an entry
pub record Asked : Type 0 where
  pub words : List (List ℕ)
  pub section : Option (List ℕ)
  pub show : Show

abbrev pub asked : List (Bor (List ℕ)) → Option (Bor (List ℕ)) → Show → Asked
asked words section show =
    record { words = map (λ word. word.now) words; section = option_map (λ section. section.now) section; show = show }

abbrev pub asked_of : Query → Asked
asked_of query = asked query.words.now query.section query.show

abbrev pub is_in : Option (List ℕ) → List ℕ → Bool
is_in None section = true
is_in (Some wanted) section = bytes_eq wanted section

-- one of the words matches, and the section is the one that is wanted, byte for byte
unfoldable pub is_shown : Asked → Entry → Bool
is_shown q entry = is_in q.section entry.section && list_any (λ word. has_match word entry.names) q.words

-- `names(section) - description`
abbrev pub described : List ℕ → List ℕ → List ℕ → List ℕ
described names section description = names ++ (codes "(" ++ (section ++ (codes ") - " ++ (description ++ codes "\n"))))

-- the file, where it is known
abbrev pub file_row : List ℕ → List (List ℕ)
file_row [] = []
file_row (byte ∷ bytes) = ((byte ∷ bytes) ++ codes "\n") ∷ []

abbrev pub entry_row : Show → Entry → List (List ℕ)
entry_row show.Entry entry = described entry.names entry.section entry.description ∷ []
entry_row show.File entry = file_row entry.file

-- the row of an entry, where it has one
unfoldable pub row_of : Asked → Entry → List (List ℕ)
row_of q entry = if is_shown q entry then entry_row q.show entry else []

-- the rows of entries, in their order
abbrev pub rows : Asked → List Entry → List (List ℕ)
rows q entries = flat_map (row_of q) entries
