-- What a scope and a line end with. Source: man(7), mdoc(7).
use Rattle.std.specs.Prelude.{Option, None, Some, false, if◌then◌else◌, not, ◌&&◌, [], ◌∷◌}
use Rattle.page_core_base.specs.Rows.{shown}
use Rattle.page_core_base.specs.declared.pieces.Piece.TheVariants as pieces
use Rattle.page_core_base.specs.declared.places.Place.{Place}
use Rattle.page_sets_names.specs.declared.macro_names.HeadingName.TheVariants as headings
use Rattle.page_sets_lines.specs.declared.blocks.Block.TheVariants as blocks
use Rattle.page_sets_lines.specs.declared.openers.LineOpener.TheVariants as lines
use Rattle.page_scopes_labels.specs.declared.labels.Explicit.TheVariants as explicits
use Rattle.page_scopes_labels.specs.declared.labels.Label.{Label}
use Rattle.page_scopes_labels.specs.declared.labels.Label.TheVariants as labels
use Rattle.page_scopes_layout.specs.Contexts.{restored}
use Rattle.page_scopes_layout.specs.Headings.{headed_section}
use Rattle.page_scopes_layout.specs.Lists.{is_row, end_items}
use Rattle.page_scopes_layout.specs.declared.contexts.Context.{Context}
use Rattle.page_scopes_layout.specs.declared.contexts.PageSection.{PageSection}
use Rattle.page_scopes_layout.specs.declared.headings.HeadingSoFar.{HeadingSoFar}
use Rattle.page_scopes_phrases.specs.Phrases.{EventOutcome, row_ended, in_context, followed_by, line_ended}
use Rattle.page_scopes_phrases.specs.declared.formatting.Formatting.{Formatting}
use Rattle.page_scopes_phrases.specs.declared.kept_texts.KeptText.{KeptText}
use Rattle.page_scopes_blocks.specs.Blocks.{last_words}
use Rattle.page_scopes_nodes.specs.Begins.{target_word}

-- ---- What a scope ends with: the target of a link or the mark of an enclosure, its own pieces, and what is known after it. Source: man(7), "MACRO OVERVIEW"; mdoc(7), "MACRO REFERENCE".

-- the target of a link (`UR` up to `UE`, `MT` up to `ME`) is its last word
abbrev pub last_word : Place → Label → Option KeptText → Formatting → EventOutcome
last_word place label None s = last_words place label s
last_word place label (Some target) s = target_word place target s

-- after `RE`, `YS`, `El`, `Ed`, a row that is alone and a heading the row has ended; after a heading nothing is yet; the padding of a tag takes the place of a
-- blank; a head of an item that is a row of its own has ended it, and any other has blanks after it
abbrev pub label_state : Label → Formatting → Formatting
label_state (labels.Line lines.Head) s = if is_row s.context.list then row_ended s else record s { gap = 0 }
label_state (labels.Line (lines.Heading name)) s = record (row_ended s) { has_content = false }
label_state (labels.Line (lines.Tag name)) s = record s { gap = 0 }
label_state (labels.Line (lines.OneLine name)) s = row_ended s
label_state (labels.Explicit explicits.RelativeMargin) s = row_ended s
label_state (labels.Explicit explicits.Syntax) s = row_ended s
label_state (labels.Explicit (explicits.Block (blocks.List kind))) s = row_ended s
label_state (labels.Explicit (explicits.Block blocks.Display)) s = row_ended s
label_state _ s = s

-- after the heading of a section it is known which one begins
abbrev pub label_section : Label → HeadingSoFar → PageSection → PageSection
label_section (labels.Line (lines.Heading headings.SH)) heading section = headed_section heading
label_section (labels.Line (lines.Heading headings.Sh)) heading section = headed_section heading
label_section _ heading section = section

-- in the context after the scope its margins hold again
abbrev pub left : Label → Context → Formatting → EventOutcome
left label before s =
    let d = restored label before s.context in
    let after = record d { section = label_section label s.heading d.section } in
    record { items = end_items label d; state = label_state label (in_context after s) }

unfoldable pub ended : Label → Context → Option KeptText → Place → Formatting → EventOutcome
ended label before target place s = followed_by (last_word place label target s) (left label before)

-- ---- The end of a line: what it gives. Source: roff(7), `nf`, `\c`.

-- where rows are kept, a line with words of the page's text is a row, unless it ends in `\c`
abbrev pub line_end : Formatting → EventOutcome
line_end s = record {
  items = if s.context.is_literal.value && (not s.line.is_cut && s.line.has_row_words) then shown pieces.RowEnd ∷ [] else [];
  state = line_ended s;
}
