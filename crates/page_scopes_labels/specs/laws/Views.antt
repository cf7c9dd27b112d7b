-- What contracts of the code say by the definitions, and what is proved of these.
use Rattle.std.specs.Borrow.{Bor}
use Rattle.std.specs.Prelude.{ℕ, List}
use Rattle.page_scopes_labels.specs.declared.labels.LabelRow.{LabelRow}
use Rattle.page_scopes_labels.specs.declared.labels.ScopeEnd.{ScopeEnd}
use Rattle.page_scopes_labels.specs.declared.labels.ScopeEnd.TheVariants.{Implied, Line, Closer}

-- what texts of a row hold
abbrev pub end_view : ScopeEnd (Bor (List ℕ)) → ScopeEnd (List ℕ)
end_view Implied = Implied
end_view Line = Line
end_view (Closer name) = Closer name.now

abbrev pub row_view : LabelRow (Bor (List ℕ)) → LabelRow (List ℕ)
row_view row = record {
  name = row.name.now;
  end = end_view row.end;
  is_level = row.is_level;
  owns_prevailing = row.owns_prevailing;
  guards_fonts = row.guards_fonts;
}
