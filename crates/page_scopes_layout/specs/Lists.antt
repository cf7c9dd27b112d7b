-- Lists and other scopes: what is known of an open one, and what it gives where it begins and ends, but its words. Source: man(7), mdoc(7).
use Rattle.std.proofs.Common.{arith}
use Rattle.std.specs.Prelude.{◌-◌, replicate, nat_lt, Bool, ℕ, ◌+◌, min, if◌then◌else◌, slice_set, get_or, true, false, ◌&&◌, ◌||◌, ◌^◌, Some, ℤ, pos, ◌+ℤ◌, Option, None, List, [], ◌∷◌, ◌++◌}
use Rattle.page_core_base.specs.Limits.{COLUMNS}
use Rattle.page_core_base.specs.Rows.{Item, shown}
use Rattle.page_core_base.specs.declared.cells.Font.TheVariants.{B}
use Rattle.page_core_base.specs.declared.pieces.Piece.TheVariants as pieces
use Rattle.page_core_base.specs.declared.pieces.TagForm.{TagForm}
use Rattle.page_core_base.specs.declared.pieces.TagForm.TheVariants.{Row, Hang, Inset}
use Rattle.page_sets_lines.specs.declared.blocks.Block.TheVariants as blocks
use Rattle.page_sets_lines.specs.declared.lists.ListKind.{ListKind}
use Rattle.page_sets_lines.specs.declared.lists.ListKind.TheVariants as kinds
use Rattle.page_sets_lines.specs.declared.openers.LineOpener.{LineOpener}
use Rattle.page_sets_lines.specs.declared.openers.LineOpener.TheVariants as lines
use Rattle.page_scopes_labels.specs.declared.labels.Explicit.TheVariants.{RelativeMargin, Syntax, Block}
use Rattle.page_scopes_labels.specs.declared.labels.Label.{Label}
use Rattle.page_scopes_labels.specs.declared.labels.Label.TheVariants as labels
use Rattle.page_scopes_layout.specs.Contexts.{MARGIN, flat, further_in, hold, font_begun, margins}
use Rattle.page_scopes_layout.specs.declared.contexts.Context.{Context}
use Rattle.page_scopes_layout.specs.declared.contexts.PagePart.{PagePart}
use Rattle.page_scopes_layout.specs.declared.contexts.PagePart.TheVariants as parts
use Rattle.page_scopes_layout.specs.declared.lists.ColumnWidths.{ColumnWidths}
use Rattle.page_scopes_layout.specs.declared.lists.OpenList.{OpenList}

-- ---- Lists: what is known of an open one, and the contexts of its items. Source: mdoc(7), `Bl`.

-- ---- the widths of columns; `fits` bounds their count

abbrev pub no_widths : ColumnWidths
no_widths = record { widths = replicate COLUMNS 0; count = 0; fits = omega arith }

abbrev pub has_room : ColumnWidths → Bool
has_room w = nat_lt w.count COLUMNS

-- a width that has no room is not kept
abbrev pub with_width : ColumnWidths → ℕ → ColumnWidths
with_width w width = if has_room w then record { widths = slice_set w.widths w.count width; count = min (w.count + 1) COLUMNS; fits = omega arith } else w

-- the width of a column that is given none
abbrev pub COLUMN_WIDTH : ℕ
COLUMN_WIDTH = 6

abbrev pub width_of : ColumnWidths → ℕ → ℕ
width_of w column = if nat_lt column w.count then get_or w.widths column 0 else COLUMN_WIDTH

-- ---- an open list

abbrev pub is_column : ListKind → Bool
is_column kinds.Column = true
is_column _ = false

abbrev pub has_columns : OpenList → Bool
has_columns list = is_column list.kind

-- a count is held to 2^32 - 1
abbrev pub one_more : ℕ → ℕ
one_more count = min (count + 1) (2 ^ 32 - 1)

-- the columns between two columns of a list
abbrev pub COLUMN_GAP : ℕ
COLUMN_GAP = 4

-- a column is after the width of the one before it and the gap, no further from the margin than a margin can be
abbrev pub next_cell : OpenList → OpenList
next_cell list = record list {
  cells = one_more list.cells;
  column = min (list.column + width_of list.widths list.cells + COLUMN_GAP) MARGIN;
}

-- ---- contexts

-- a list is some columns further in than the text
abbrev pub list_begun : OpenList → ℤ → Context → Context
list_begun list offset c = record (flat c) { margin = further_in c.margin c.hang offset; list = Some list }

-- the text of an item hangs from its head or its mark, which is at the margin
abbrev pub item_margin : OpenList → Context → ℕ
item_margin list c = hold (pos c.margin +ℤ pos list.hang)

-- a row that is still to come after a name (`Nm`) without a cell is the item's first, and its hang is of later rows
abbrev pub item_first : Option ℕ → (has_row : Bool) → ℕ → Option ℕ
item_first (Some first) false margin = Some margin
item_first _ has_row margin = None

-- the hang of a name before it goes on in an item
abbrev pub item_begun : Option OpenList → Context → Context
item_begun (Some list) c = record c {
  margin = item_margin list c;
  first = item_first c.first c.has_row (item_margin list c);
  list = Some (record list { head = c.margin; items = one_more list.items; cells = 0; column = 0 });
}
item_begun None c = c

abbrev pub tag_at : ℕ → Context → Context
tag_at margin c = record c { first = Some margin; has_row = false; part = parts.Tag }

-- a head that is no tag stays in the tag that it is in
abbrev pub head_part : PagePart → PagePart
head_part parts.Tag = parts.Tag
head_part _ = parts.Head

-- a head is a tag (`-tag`, `-hang`), or words of a row (`-inset`, `-ohang`, and `-diag` in bold)
abbrev pub head_of : ListKind → ℕ → Context → Context
head_of kinds.Tag margin c = tag_at margin c
head_of kinds.Hang margin c = tag_at margin c
head_of kinds.Inset margin c = record c { part = head_part c.part }
head_of kinds.Ohang margin c = record c { part = head_part c.part }
head_of kinds.Diag margin c = record (font_begun B c) { part = head_part c.part }
head_of _ margin c = c

abbrev pub head_begun : Option OpenList → Context → Context
head_begun (Some list) c = head_of list.kind list.head c
head_begun None c = c

-- ---- What a scope gives where it begins and where it ends, but its words. Source: man(7), "MACRO OVERVIEW"; mdoc(7), "MACRO REFERENCE".

abbrev pub margin_items : Context → List Item
margin_items c = shown (pieces.Indent (margins c).first (margins c).rest) ∷ []

-- ---- items of lists (`Bl`)

-- a blank row before an item; only the end of the row where the list is compact, and where its items are rows of cells before all but the first
abbrev pub item_begin_items : Option OpenList → Context → List Item
item_begin_items (Some list) c =
    if list.is_compact || (has_columns list && nat_lt 1 list.items) then shown pieces.Break ∷ [] else shown (pieces.Para c.distance.value) ∷ []
item_begin_items None c = []

-- a head that is a tag is at its margin, with the list's hang
abbrev pub hanging_items : OpenList → TagForm → Context → List Item
hanging_items list form c = shown (pieces.Indent (margins c).first (margins c).rest) ∷ shown (pieces.Tag (hold (pos list.hang)) form) ∷ []

abbrev pub head_items : ListKind → OpenList → Context → List Item
head_items kinds.Tag list c = hanging_items list Row c
head_items kinds.Hang list c = hanging_items list Hang c
head_items _ list c = []

abbrev pub head_begin_items : Option OpenList → Context → List Item
head_begin_items (Some list) c = head_items list.kind list c
head_begin_items None c = []

-- a head above its text (`-ohang`)
abbrev pub is_ohang : ListKind → Bool
is_ohang kinds.Ohang = true
is_ohang _ = false

abbrev pub is_row : Option OpenList → Bool
is_row (Some list) = is_ohang list.kind
is_row None = false

-- a head that is set in has blanks after it, whatever is in it
abbrev pub head_last_items : ListKind → List Item
head_last_items kinds.Inset = shown (pieces.Tag 0 (Inset 1)) ∷ []
head_last_items kinds.Diag = shown (pieces.Tag 0 (Inset 2)) ∷ []
head_last_items _ = []

abbrev pub open_head_last_items : Option OpenList → List Item
open_head_last_items (Some list) = head_last_items list.kind
open_head_last_items None = []

-- ---- where a scope begins

-- a tag is in front of its text, which hangs
abbrev pub line_begin_items : LineOpener → Context → List Item
line_begin_items lines.Head c = head_begin_items c.list c
line_begin_items (lines.Heading name) c = margin_items c
line_begin_items (lines.Tag name) c =
    shown (pieces.Indent (margins c).first (margins c).rest) ∷ shown (pieces.Tag (hold c.hang) Row) ∷ []
line_begin_items (lines.OneLine name) c = shown pieces.Break ∷ margin_items c
line_begin_items _ c = []

-- in the context of a scope's front: a section is a paragraph, and filled; a relative margin and a synopsis break the row
abbrev pub begin_items : Label → Context → List Item
begin_items labels.Item c = item_begin_items c.list c
begin_items labels.Section c = shown (pieces.Para c.distance.value) ∷ shown (pieces.Literal false) ∷ []
begin_items labels.Subsection c = shown (pieces.Para c.distance.value) ∷ shown (pieces.Literal false) ∷ []
begin_items labels.Paragraph c = shown (pieces.Para c.distance.value) ∷ margin_items c
begin_items (labels.Explicit RelativeMargin) c = shown pieces.Break ∷ margin_items c
begin_items (labels.Explicit Syntax) c = shown pieces.Break ∷ []
begin_items (labels.Line opener) c = line_begin_items opener c
begin_items _ c = []

-- ---- where a scope ends

-- In the context after a scope: its margins hold again. After a relative margin, a synopsis, a list (`Bl`), a head above its text and a row that is
-- alone the row ends; after a display (`Bd`) it does, too, and rows are kept or filled as before it.
abbrev pub end_items : Label → Context → List Item
end_items (labels.Explicit RelativeMargin) c = shown pieces.Break ∷ margin_items c
end_items (labels.Explicit Syntax) c = shown pieces.Break ∷ margin_items c
end_items (labels.Explicit (Block (blocks.List kind))) c = shown pieces.Break ∷ margin_items c
end_items (labels.Explicit (Block blocks.Display)) c = shown pieces.Break ∷ shown (pieces.Literal c.is_literal.value) ∷ margin_items c
end_items (labels.Line lines.Head) c =
    if is_row c.list then shown pieces.Break ∷ margin_items c else open_head_last_items c.list ++ (shown pieces.TagEnd ∷ margin_items c)
end_items (labels.Line (lines.Heading name)) c = shown pieces.Heading ∷ margin_items c
end_items (labels.Line (lines.Tag name)) c = shown pieces.TagEnd ∷ margin_items c
end_items (labels.Line (lines.FontWords name)) c = []
end_items (labels.Line (lines.OneLine name)) c = shown pieces.Break ∷ margin_items c
end_items _ c = margin_items c
