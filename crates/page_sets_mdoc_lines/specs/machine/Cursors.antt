-- How far a line has been read.
use Rattle.std.specs.Prelude.{◌≤◌, ℕ, List, length, Bool, ◌==◌, ◌||◌}
use Rattle.page_sets_mdoc_lines.specs.declared.cursors.Cursor.{Cursor}

-- it is in the line
abbrev pub IsCursorOf : List ℕ → Cursor → Type 0
IsCursorOf text cursor = cursor.rest ≤ length text

-- ---- A fast way of the code, which no public clause cites: how long the names of macros are. Trust needs no reading of it.

abbrev pub has_name_len : List ℕ → Bool
has_name_len text = length text == 2 || length text == 3
