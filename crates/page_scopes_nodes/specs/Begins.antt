-- What a scope begins with, of any event that opens one, and what it keeps. Source: man(7), mdoc(7).
use Rattle.std.specs.Prelude.{List, [], ◌∷◌, ◌++◌, ℕ, false, true, codes, Option, option_map, unwrap_or, if◌then◌else◌, None, Some, ◌+◌, pos, ◌+ℤ◌}
use Rattle.page_core_base.specs.Rows.{Item, shown, says}
use Rattle.page_core_base.specs.declared.cells.Font.{Font}
use Rattle.page_core_base.specs.declared.cells.Font.TheVariants.{B}
use Rattle.page_core_base.specs.declared.cells.Font.TheVariants as faces
use Rattle.page_core_base.specs.declared.note_kinds.NoteKind.TheVariants.{SkipPara}
use Rattle.page_core_base.specs.declared.pieces.Piece.TheVariants.{Text}
use Rattle.page_core_base.specs.declared.places.Place.{Place}
use Rattle.page_core_escapes.specs.Tokens.{tokens_of}
use Rattle.page_roff_syntax.specs.Arguments.{is_quoted}
use Rattle.page_roff_syntax.specs.declared.quotes.Argument.{Argument}
use Rattle.page_sets_names.specs.Names.{paragraph_name}
use Rattle.page_sets_names.specs.declared.macro_names.FontMacro.{FontMacro}
use Rattle.page_sets_names.specs.declared.macro_names.FontMacro.TheVariants as fonts
use Rattle.page_sets_names.specs.declared.macro_names.HeadingName.{HeadingName}
use Rattle.page_sets_names.specs.declared.macro_names.HeadingName.TheVariants as headings
use Rattle.page_sets_names.specs.declared.macro_names.ParagraphName.{ParagraphName}
use Rattle.page_sets_lines.specs.declared.blocks.BlockOpener.{BlockOpener}
use Rattle.page_sets_lines.specs.declared.blocks.BlockOpener.TheVariants as block_openers
use Rattle.page_sets_lines.specs.declared.events.Event.{Event}
use Rattle.page_sets_lines.specs.declared.events.EventKind.{EventKind}
use Rattle.page_sets_lines.specs.declared.events.EventKind.TheVariants as kinds
use Rattle.page_sets_lines.specs.declared.events.Join.TheVariants.{Apart}
use Rattle.page_sets_lines.specs.declared.openers.LineOpener.{LineOpener}
use Rattle.page_sets_lines.specs.declared.openers.LineOpener.TheVariants as lines
use Rattle.page_sets_lines.specs.declared.openers.Opener.{Opener}
use Rattle.page_sets_lines.specs.declared.openers.Opener.TheVariants as openers
use Rattle.page_scopes_labels.specs.declared.labels.Explicit.TheVariants.{RelativeMargin, Syntax}
use Rattle.page_scopes_labels.specs.declared.labels.Label.{Label}
use Rattle.page_scopes_labels.specs.declared.labels.Label.TheVariants as labels
use Rattle.page_scopes_words.specs.Widths.{name_columns}
use Rattle.page_scopes_words.specs.Words.{tokens_notes, at, columns_notes, columns_value}
use Rattle.page_scopes_words.specs.declared.fonts.Fonts.{Fonts}
use Rattle.page_scopes_words.specs.declared.settings.Setting.{Setting}
use Rattle.page_scopes_layout.specs.Contexts.{entered_context, indented_begun, hold, margin_begun, syntax_begun, text_margin, subsection_begun, font_begun, heading_begun, first_at_margin, flat, reset, PREVAILING}
use Rattle.page_scopes_layout.specs.Headings.{heading_broken, no_heading}
use Rattle.page_scopes_layout.specs.Lists.{begin_items, head_begun, line_begin_items}
use Rattle.page_scopes_layout.specs.declared.contexts.Context.{Context}
use Rattle.page_scopes_phrases.specs.LineWords.{argument_word}
use Rattle.page_scopes_phrases.specs.Names.{cut_notes, fonts_through, after_kept, gap_items, parts_items, kept_of}
use Rattle.page_scopes_phrases.specs.Phrases.{EventOutcome, in_context, row_ended, after_notes, nothing, followed_by}
use Rattle.page_scopes_phrases.specs.declared.formatting.Formatting.{Formatting}
use Rattle.page_scopes_phrases.specs.declared.kept_texts.KeptText.{KeptText}
use Rattle.page_scopes_blocks.specs.Blocks.{block_opened, line_words}
use Rattle.page_scopes_blocks.specs.Lists.{tag, list_opened, item_opened}
use Rattle.page_scopes_nodes.specs.declared.page_layouts.PageLayout.{PageLayout}
use Rattle.page_scopes_layout.specs.declared.contexts.PagePart.TheVariants as parts
use Rattle.page_scopes_layout.specs.declared.contexts.PageSection.TheVariants.{Other}

-- ---- The target of a link: its messages where the link begins, and the target in angles where it ends. Source: man(7), `UR`, `MT`.

-- ---- where the link begins

-- its escapes are reported at its column, and that it is cut at the macro
abbrev pub target_notes : Place → Argument (List ℕ) → List Item
target_notes place argument =
    tokens_notes (is_quoted argument.quoting) (at place.line argument.column) (tokens_of (is_quoted argument.quoting) argument.text)
    ++ cut_notes place argument

-- ---- where it ends

abbrev pub target_fonts : KeptText → Context → Setting Fonts
target_fonts target c = fonts_through c.fonts (tokens_of false target.text)

abbrev pub mark_items : Font → Place → List ℕ → List Item
mark_items font place mark = shown (Text mark font place) ∷ []

-- the target in angles, a word, without the messages of its escapes, all at the place where the link ends; a mark ends no sentence, and leaves one that has ended
unfoldable pub target_word : Place → KeptText → Formatting → EventOutcome
target_word place target s = record {
  items = gap_items s place
      ++ (mark_items s.context.fonts.value.font place (codes "<")
      ++ (parts_items s.context.is_literal.value 1 place s.context.fonts (tokens_of false target.text)
      ++ mark_items (target_fonts target s.context).value.font place (codes ">")));
  state = after_kept place (record s {
    context = record s.context { fonts = target_fonts target s.context; has_row = true };
    heading = heading_broken s.context.part s.heading;
  });
}

-- ---- What the scopes that go on after their line begin with, macro by macro. Source: man(7), "MACRO OVERVIEW"; mdoc(7), "MACRO REFERENCE".

-- the messages of a number that may be given
abbrev pub given_notes : Place → Option (List ℕ) → List Item
given_notes place number = unwrap_or (option_map (columns_notes place) number) []

-- a scope begins in the context of its front, and the row ends
abbrev pub begun : Label → Context → Formatting → EventOutcome
begun label front s = record { items = begin_items label front; state = row_ended (in_context front s) }

-- `PP`, `LP`, `P`: skipped where there is nothing before them since the heading
abbrev pub plain : Place → ParagraphName → Formatting → EventOutcome
plain place name s =
    if s.has_content then begun labels.Paragraph (record (flat (reset (entered_context s.context))) { prevailing = PREVAILING }) s
    else record { items = says SkipPara place (paragraph_name name) ∷ []; state = in_context (entered_context s.context) s }

-- `TP`, `IP`: the text is a number of columns, or the prevailing indent, further in
abbrev pub indented : Place → Option (List ℕ) → Formatting → EventOutcome
indented place hang s = after_notes (given_notes place hang) (begun labels.Paragraph (indented_begun (option_map columns_value hang) (entered_context s.context)) s)

-- the tag of `IP` is at the margin
abbrev pub given_tag : ℕ → Option (Argument (List ℕ)) → Formatting → EventOutcome
given_tag line None s = nothing s
given_tag line (Some argument) s =
    tag (record { margin = s.context.margin; hang = hold s.context.hang }) line (argument_word None Apart argument) s

-- `HP`: the rows after the first are further in
abbrev pub hanging : Place → Option (List ℕ) → Formatting → EventOutcome
hanging place hang s =
    after_notes (given_notes place hang) (begun labels.Paragraph (first_at_margin (indented_begun (option_map columns_value hang) (entered_context s.context))) s)

-- `RS`: all is further in
abbrev pub margin : Place → Option (List ℕ) → Formatting → EventOutcome
margin place columns s =
    after_notes (given_notes place columns)
    (begun (labels.Explicit RelativeMargin) (margin_begun (option_map columns_value columns) (entered_context s.context)) s)

-- `SY`: the name in bold is a tag at the margin of the text, which hangs by the name's columns and a blank
abbrev pub name_hang : PageLayout → Argument (List ℕ) → ℕ
name_hang page name = name_columns page.output (is_quoted name.quoting) name.text + 1

abbrev pub synopsis : PageLayout → ℕ → Argument (List ℕ) → Formatting → EventOutcome
synopsis page line name s =
    followed_by (begun (labels.Explicit Syntax) (syntax_begun (text_margin s.context) (name_hang page name) (entered_context s.context)) s)
    (tag (record { margin = text_margin s.context; hang = hold (pos (name_hang page name)) }) line (argument_word (Some B) Apart name))

-- `Bl`, and the other blocks
abbrev pub block : PageLayout → Place → BlockOpener (List ℕ) → Formatting → EventOutcome
block page place (block_openers.List kind is_compact options) s = list_opened page.output place kind is_compact options s
block page place opener s = block_opened page.output place opener s

-- ---- all of them: `SH`, `SS`, `Sh` and `Ss` are at the page's indent, and a link (`UR`, `MT`) gives the messages of its target. Which section begins is known
-- once its heading ends; a subsection stays in its section

unfoldable pub opened : PageLayout → Place → Opener (List ℕ) → Formatting → EventOutcome
opened page place openers.Item s = item_opened place s
opened page place openers.Section s = begun labels.Section (record (subsection_begun page.indent (entered_context s.context)) { section = Other }) s
opened page place openers.Subsection s = begun labels.Section (subsection_begun page.indent (entered_context s.context)) s
opened page place (openers.Paragraph name) s = plain place name s
opened page place (openers.Tagged hang) s = indented place hang s
opened page place (openers.Indented argument hang) s = followed_by (indented place hang s) (given_tag place.line argument)
opened page place (openers.Hanging hang) s = hanging place hang s
opened page place (openers.RelativeMargin columns) s = margin place columns s
opened page place (openers.Target kind target) s = record { items = target_notes place target; state = in_context (entered_context s.context) s }
opened page place (openers.Syntax name) s = synopsis page place.line name s
opened page place (openers.Block opener) s = block page place opener s

-- ---- What a scope begins with, of any event that opens one, and what it keeps. Source: man(7), "MACRO OVERVIEW"; mdoc(7), "MACRO REFERENCE".

-- ---- scopes that end with a line: heads of items (`It`), headings at the left edge (`SH`, `Sh`) or 3 columns in (`SS`, `Ss`), tags (`TP`, `TQ`), fonts (`B`, `I`, `SM`,
-- `SB`), rows that are alone (`D1`, `Dl`), enclosures and descriptions (`Nd`)

abbrev pub heading_column : HeadingName → ℕ
heading_column headings.SH = 0
heading_column headings.Sh = 0
heading_column headings.SS = 3
heading_column headings.Ss = 3

abbrev pub font_of : FontMacro → Font
font_of fonts.B = faces.B
font_of fonts.SB = faces.B
font_of fonts.I = faces.I
font_of fonts.SM = faces.R

-- a row that is alone (`D1`, `Dl`) is 6 columns further in than the text
abbrev pub line_context : LineOpener → Context → Context
line_context lines.Head c = head_begun c.list c
line_context (lines.Heading name) c = heading_begun (heading_column name) c
line_context (lines.Tag name) c = record (first_at_margin c) { part = parts.Tag }
line_context (lines.FontWords font_macro) c = font_begun (font_of font_macro) c
line_context (lines.OneLine name) c = record (flat c) { margin = hold (pos c.margin +ℤ (c.hang +ℤ pos 6)) }
line_context _ c = c

abbrev pub line_state : LineOpener → Formatting → Formatting
line_state (lines.Heading name) s = record s { gap = 1; heading = no_heading }
line_state (lines.OneLine name) s = row_ended s
line_state _ s = s

-- its pieces, and then what it prints itself
abbrev pub line_opened : Place → LineOpener → Formatting → EventOutcome
line_opened place opener s =
    let front = line_context opener (entered_context s.context) in
    followed_by (record { items = line_begin_items opener front; state = line_state opener (in_context front s) }) (line_words place opener)

-- ---- an event that opens a scope

abbrev pub kind_begun : PageLayout → Event (List ℕ) → EventKind (List ℕ) → Formatting → EventOutcome
kind_begun page event (kinds.Open opener) s = opened page event.place opener s
kind_begun page event (kinds.LineScope opener) s = line_opened event.place opener s
kind_begun page event _ s = nothing s

unfoldable pub begun_by : PageLayout → Event (List ℕ) → Formatting → EventOutcome
begun_by page event s = kind_begun page event event.kind s

-- ---- what a link keeps

abbrev pub kept_target : EventKind (List ℕ) → Option KeptText
kept_target (kinds.Open (openers.Target link target)) = Some (kept_of target)
kept_target _ = None
