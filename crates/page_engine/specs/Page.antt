-- A page: the rows and messages that its lines settle, by their levels, and the page to its end. Source: mandoc(1).
use Rattle.std.specs.Prelude.{Bool, true, false, List, [], if◌then◌else◌, not, Option, None, Some, filter, fold, map, ℕ}
use Rattle.page_core_base.specs.Messages.{is_below, Message, level_of}
use Rattle.page_core_base.specs.Rows.{LaidRow, Laid, seq}
use Rattle.page_core_base.specs.declared.note_kinds.Level.{Level}
use Rattle.page_core_base.specs.declared.page_settings.Output.{Output}
use Rattle.page_core_base.specs.declared.page_settings.Output.TheVariants.{Lint}
use Rattle.page_roff_lines.specs.Lines.{Line}
use Rattle.page_roff_source.specs.Runs.{SourceLine}
use Rattle.page_fill.specs.Filling.{filled, row_end}
use Rattle.page_fill.specs.declared.edges.FillEdge.{FillEdge}
use Rattle.page_engine_lines.specs.Acts.{raw_line, lines_after, lines_items, page_items}
use Rattle.page_engine_lines.specs.Edges.{footer_items}
use Rattle.page_engine.specs.Edges.{Edge, last_line}

-- ---- Rows that are given or not. Source: mandoc(1), -T lint.

-- lint gives no row
abbrev pub is_silent : Output → Bool
is_silent Lint = true
is_silent _ = false

unfoldable pub shown_rows : Bool → List LaidRow → List LaidRow
shown_rows silent rows = if silent then [] else rows

-- ---- Messages by their levels. Source: mandoc(1), -W and "EXIT STATUS".

-- whether messages of a level are reported: those at or above the least, and none where there is no least
abbrev pub is_reported_level : Option Level → Level → Bool
is_reported_level None level = false
is_reported_level (Some least) level = not (is_below level least)

unfoldable pub reported : Option Level → List Message → List Message
reported least messages = filter (λ m. is_reported_level least (level_of m.kind)) messages

-- the greatest level, from a first one
abbrev pub worse : Option Level → Level → Option Level
worse None level = Some level
worse (Some worst) level = if is_below worst level then Some level else Some worst

unfoldable pub worst_of : Option Level → List Message → Option Level
worst_of worst messages = fold (λ found (m : Message). worse found (level_of m.kind)) worst messages

-- ---- A page: the rows and messages that its lines settle, and the page to its end. The forest of all lines (roff(7)) gives lines and messages, these are the
-- acts of one block tree (man(7), mdoc(7)), after that of the lines that leave its language open; its pieces are filled (roff(7), "Filling and
-- adjusting"), messages go by their levels, and lint has no rows. Source: mandoc(1).

-- of what is filled, the rows unless the output is lint, the messages by their levels, and the worst of these
abbrev pub of_page : Edge → Edge → Laid FillEdge → Laid Edge
of_page e next l = record {
  rows = shown_rows (is_silent e.fill.output) l.rows;
  notes = reported e.least l.notes;
  edge = record next { worst = worst_of e.worst (reported e.least l.notes); fill = l.edge };
}

-- ---- lines

-- lines as roff takes them: the messages of the cutting of each are before what it gives
abbrev pub raw_lines : List Line → List SourceLine
raw_lines lines = map (λ (line : Line). raw_line line.number line.text line.notes) lines

-- the number of the last of them, or of the one before them
abbrev pub last_number : Option ℕ → List Line → Option ℕ
last_number number lines = fold (λ last (line : Line). Some line.number) number lines

-- where the forest of lines and the block tree of their acts leave a page
abbrev pub after : Edge → List Line → Edge
after e lines = record e { last = last_number e.last lines; lines = lines_after e.lines (raw_lines lines) }

-- the rows and messages that lines settle, and the edge from which the rest goes on: the pieces of the block tree of all that roff gives, filled
unfoldable pub settled : Edge → List Line → Laid Edge
settled e lines = of_page e (after e lines) (filled e.fill (lines_items e.lines (raw_lines lines)))

abbrev pub edge : Edge → List Line → Edge
edge e lines = (settled e lines).edge

-- ---- the whole page

-- the footer after a blank row, unless one is there, and the end of the row
abbrev pub footer_laid : Edge → FillEdge → Laid FillEdge
footer_laid e f = seq (filled f (footer_items e.lines (last_line e) f.sheet.blank_rows)) row_end

-- a page from an edge, to its end: its rows and messages, and at its last edge the worst level and the counts. The pieces and messages are those of the
-- lines and of the page's end after them: what roff left open, a missing header, the end of all scopes.
unfoldable pub page : Edge → List Line → Laid Edge
page e lines =
    let f = after e lines in
    of_page e f (seq (filled e.fill (page_items e.lines (raw_lines lines) (last_line f))) (λ h. footer_laid f h))
