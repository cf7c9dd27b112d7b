-- Rows of a table that is sorted by its keys, and what the characters that have a spelling have to do with the table of the names.
use Rattle.std.specs.Prelude.{ℕ, List, [], ◌∷◌, ◌+◌, Bool, true, ◌&&◌, ◌||◌, ◌==◌, nat_le}
use Rattle.std.specs.Borrow.{Bor}
use Rattle.std.specs.Str.{bytes_eq}
use Rattle.std.specs.List.{list_any, list_all}
use Rattle.page_core_tables.specs.Glyphs.{Entry, table, first_spelling}

-- each key is at least `least`, and above the key before it
unfoldable pub keys_rise : ℕ → List Entry → Bool
keys_rise least [] = true
keys_rise least (e ∷ es) = nat_le least e.key && keys_rise (e.key + 1) es

abbrev pub has_key : List Entry → ℕ → Bool
has_key rows key = list_any (λ e. e.key == key) rows

-- each row has the first spelling of its key, a code point
unfoldable pub rows_are_spelled : List Entry → Bool
rows_are_spelled rows = list_all (λ e. bytes_eq (first_spelling e.key table) e.symbol.spelling) rows

-- the entry's character has no spelling, or a row
unfoldable pub is_spelled : List Entry → Entry → Bool
is_spelled rows e = bytes_eq e.symbol.spelling [] || has_key rows e.symbol.code

-- each character of the table that has a spelling has a row
unfoldable pub spellings_have_rows : List Entry → Bool
spellings_have_rows rows = list_all (is_spelled rows) table

-- the texts are the characters from `first` on, one each
unfoldable pub are_characters_from : ℕ → List (Bor (List ℕ)) → Bool
are_characters_from first [] = true
are_characters_from first (t ∷ ts) = bytes_eq t.now (first ∷ []) && are_characters_from (first + 1) ts
