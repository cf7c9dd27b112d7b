-- What contracts of the code say by the definitions, and what is proved of these.
use Rattle.std.specs.Borrow.{Bor}
use Rattle.std.specs.Prelude.{ℕ, List, map, [], ◌∷◌, encode_utf8}
use Rattle.page_core_tables.specs.Glyphs.{Symbol, Entry, entry, Printing, known, unknown_text}
use Rattle.page_core_tables.specs.declared.printing.Printed as code
use Rattle.page_core_tables.specs.declared.printing.Printed.TheVariants.{Char, Spelling, NoSpelling, NoGlyph}
use Rattle.page_core_tables.specs.declared.rows.Glyph.{Glyph}

-- a `Glyph` of the code as such a symbol
abbrev pub symbol_of : Glyph → Symbol
symbol_of g = record { code = g.code; spelling = g.ascii.now }

-- rows of the code as such entries
abbrev pub entries : List (ℕ × ℕ × Bor (List ℕ)) → List Entry
entries rows = map (λ row. entry row.0 row.1 row.2.now) rows

-- a `Printed` of the code
abbrev pub printed_view : code.Printed → Printing
printed_view (Char c) = known (c ∷ [])
printed_view (Spelling text) = known text.now
printed_view (NoSpelling c) = unknown_text (encode_utf8 c)
printed_view (NoGlyph name) = unknown_text name.now
