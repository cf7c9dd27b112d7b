-- What opens and closes nothing: what each leaf gives, and what it leaves. Source: man(7), mdoc(7), roff(7).
use Rattle.std.specs.Prelude.{ℕ, List, [], ◌∷◌, ◌==◌, ◌++◌, if◌then◌else◌, nat_lt, ◌||◌, true, length, Option, option_map, unwrap_or, Bool, false, None, Some, ℤ, pos, ◌+ℤ◌, not, ◌&&◌, max}
use Rattle.page_core_base.specs.Bytes.{begins_sign}
use Rattle.page_core_base.specs.Rows.{Item, shown, says}
use Rattle.page_core_base.specs.declared.cells.Font.{Font}
use Rattle.page_core_base.specs.declared.note_kinds.NoteKind.TheVariants.{SkipPara, BlankFill}
use Rattle.page_core_base.specs.declared.pieces.Piece.TheVariants as pieces
use Rattle.page_core_base.specs.declared.places.Place.{Place}
use Rattle.page_core_escapes.specs.Meanings.{Face, is_known, face_of}
use Rattle.page_core_escapes.specs.Meanings as meanings
use Rattle.page_core_numbers.specs.Expressions.{in_range}
use Rattle.page_roff_syntax.specs.Arguments.{is_quoted}
use Rattle.page_roff_syntax.specs.declared.quotes.Argument.{Argument}
use Rattle.page_sets_names.specs.Names.{body_paragraph_name}
use Rattle.page_sets_names.specs.declared.generated_texts.GeneratedText.TheVariants.{Comma}
use Rattle.page_sets_names.specs.declared.generated_texts.GeneratedText.TheVariants as owns
use Rattle.page_sets_names.specs.declared.macro_names.BodyParagraphName.{BodyParagraphName}
use Rattle.page_sets_lines.specs.declared.events.EventKind.{EventKind}
use Rattle.page_sets_lines.specs.declared.events.EventKind.TheVariants as event_kinds
use Rattle.page_sets_lines.specs.declared.events.Join.TheVariants.{Glued, Apart}
use Rattle.page_sets_lines.specs.declared.leaves.Leaf.{Leaf}
use Rattle.page_sets_lines.specs.declared.leaves.Leaf.TheVariants as leaves
use Rattle.page_sets_lines.specs.declared.leaves.RequestLeaf.{RequestLeaf}
use Rattle.page_sets_lines.specs.declared.leaves.RequestLeaf.TheVariants as requests
use Rattle.page_sets_lines.specs.declared.line_steps.LineStep.{LineStep}
use Rattle.page_sets_lines.specs.declared.line_steps.LineStep.TheVariants as steps
use Rattle.page_sets_lines.specs.declared.line_steps.SynopsisStep.{SynopsisStep}
use Rattle.page_sets_lines.specs.declared.line_steps.SynopsisStep.TheVariants.{Break, Include, NameBegins, NameEnds}
use Rattle.page_scopes_words.specs.Fonts.{set_to, face_fonts}
use Rattle.page_scopes_words.specs.Words.{rows_value, rows_notes, columns_value, columns_notes, face_notes, white_cells, has_tab, shown_part}
use Rattle.page_scopes_words.specs.declared.fonts.Fonts.{Fonts}
use Rattle.page_scopes_words.specs.declared.settings.Setting.{Setting}
use Rattle.page_scopes_layout.specs.Contexts.{flat, name_ended, font_begun, first_at_margin}
use Rattle.page_scopes_layout.specs.Headings.{heading_broken, in_synopsis}
use Rattle.page_scopes_layout.specs.Lists.{margin_items}
use Rattle.page_scopes_layout.specs.declared.contexts.Context.{Context}
use Rattle.page_scopes_layout.specs.declared.contexts.SeriesSoFar.{SeriesSoFar}
use Rattle.page_scopes_layout.specs.declared.contexts.SeriesSoFar.TheVariants as series
use Rattle.page_scopes_phrases.specs.LineWords.{generated_word, own_word, column_step, argument_word, line_word, in_columns, white_columns}
use Rattle.page_scopes_phrases.specs.Names.{function_end, manual_name, name_notes, named}
use Rattle.page_scopes_phrases.specs.Phrases.{EventOutcome, row_ended, with_content, in_context, after_notes, at_margins, row_break, joined_gap, nothing, counting, changed}
use Rattle.page_scopes_phrases.specs.declared.formatting.Formatting.{Formatting}
use Rattle.page_scopes_phrases.specs.declared.kept_texts.KeptText.{KeptText}
use Rattle.page_scopes_nodes.specs.Ends.{line_end}

-- ---- Lines of tables, equations and pictures: rows of their characters as they are. Source: roff(7), `TS`, `EQ`, `PS`.

-- the characters up to a tab are one text
abbrev pub part_items : Place → Font → List ℕ → List Item
part_items place font [] = []
part_items place font (byte ∷ bytes) = shown (pieces.Text (byte ∷ bytes) font place) ∷ []

-- the characters that are left, after those of a part that is open
abbrev pub cells_after : Place → Font → List ℕ → List ℕ → List Item
cells_after place font part [] = part_items place font part
cells_after place font part (byte ∷ bytes) =
    if byte == 9 then (part_items place font part ++ shown (pieces.Tab font place) ∷ cells_after place font [] bytes)
    else cells_after place font (part ++ byte ∷ []) bytes

-- a row of its own, which is kept: the characters as they are, in the font in use
unfoldable pub raw_line : Place → List ℕ → Formatting → EventOutcome
raw_line place text s = record {
  items = shown pieces.Break ∷ shown (pieces.Literal true)
      ∷ (cells_after place s.context.fonts.value.font [] text ++ shown pieces.RowEnd ∷ shown (pieces.Literal s.context.is_literal.value) ∷ []);
  state = row_ended (with_content (record s {
    context = record s.context { has_row = s.context.has_row || nat_lt 0 (length text) };
    heading = heading_broken s.context.part s.heading;
  }));
}

-- ---- Requests that change rows: what they give, and what they leave. Source: roff(7), "REQUEST REFERENCE".

-- ---- `sp`: rows, one where no number is given

abbrev pub given_rows : Option (List ℕ) → ℕ
given_rows rows = unwrap_or (option_map rows_value rows) 1

abbrev pub given_rows_notes : Place → Option (List ℕ) → List Item
given_rows_notes place rows = unwrap_or (option_map (rows_notes place) rows) []

-- ---- `in`: the shift of margins; a number with a sign changes it, one without sets it; none sets it to 0

abbrev pub given_shift : Option (List ℕ) → ℤ → ℤ
given_shift None shift = pos 0
given_shift (Some text) shift = if begins_sign text then in_range (shift +ℤ columns_value text) else columns_value text

-- ---- `ft`: fonts; without a name the former one; a name that no font has changes nothing

abbrev pub fonts_named : Face → Setting Fonts → Setting Fonts
fonts_named face fonts = record { value = face_fonts face fonts.value; is_set = fonts.is_set || is_known face }

-- messages show a pair of quotes in a quoted name as one
abbrev pub font_notes : Place → Option (Argument (List ℕ)) → List Item
font_notes place None = []
font_notes place (Some name) = face_notes (is_quoted name.quoting) place (face_of name.text)

abbrev pub with_font_named : Option (Argument (List ℕ)) → Context → Context
with_font_named name c = record c { fonts = fonts_named (unwrap_or (option_map (λ name. face_of name.text) name) meanings.former) c.fonts }

-- ---- rows that are kept (`nf`, `EX`), or filled (`fi`, `EE`)

abbrev pub literal : Bool → Formatting → EventOutcome
literal on s = record {
  items = shown pieces.Break ∷ shown (pieces.Literal on) ∷ [];
  state = row_ended (in_context (record s.context { is_literal = set_to on }) s);
}

-- ---- br, sp, ft, in, nf and fi

abbrev pub request : Place → RequestLeaf (List ℕ) → Formatting → EventOutcome
request place requests.Break s = row_break s
request place (requests.Space rows) s = record {
  items = given_rows_notes place rows ++ shown (pieces.Space (given_rows rows)) ∷ [];
  state = row_ended (with_content s);
}
request place (requests.Font name) s = record { items = font_notes place name; state = in_context (with_font_named name s.context) s }
request place (requests.Shift columns) s =
    after_notes (unwrap_or (option_map (columns_notes place) columns) [])
    (at_margins (in_context (record s.context { shift = set_to (given_shift columns s.context.shift.value) }) s))
request place (requests.Literal on) s = literal on s

-- ---- What macros of mdoc(7) change in their line, or print there. Source: mdoc(7), "MACRO REFERENCE".

-- `Pp`, `Lp`: fonts and the shift stay as they are; skipped where there is nothing before them since the heading
abbrev pub body_paragraph : Place → BodyParagraphName → Formatting → EventOutcome
body_paragraph place name s =
    if s.has_content then record {
      items = shown (pieces.Para s.context.distance.value) ∷ margin_items (flat s.context);
      state = row_ended (in_context (flat s.context) s);
    }
    else record { items = says SkipPara place (body_paragraph_name name) ∷ []; state = s }

-- a comma parts a field of a reference (`%A` and so on) from the one before, and so the arguments of a function (`Fo`, `Fa`); after the first they have begun
abbrev pub next_of : SeriesSoFar → (begun : Context) → Place → Formatting → EventOutcome
next_of series.Outside begun place s = nothing s
next_of series.Empty begun place s = nothing (in_context begun s)
next_of series.Begun begun place s = generated_word place (own_word Comma Glued Apart) s

-- ---- the section SYNOPSIS

abbrev pub name_hung : Option ℕ → Formatting → EventOutcome
name_hung None s = nothing s
name_hung (Some columns) s = record {
  items = margin_items (name_ended columns s.context);
  state = counting None (in_context (name_ended columns s.context) s);
}

-- for `In` a word comes before its file; the name of the manual (`Nm`) begins a row at the margin
abbrev pub synopsis_step : Place → SynopsisStep → Formatting → EventOutcome
synopsis_step place Break s = row_break s
synopsis_step place Include s = generated_word place (own_word owns.Include Apart Apart) s
synopsis_step place NameBegins s = changed (counting (Some 0)) (at_margins (in_context (first_at_margin (flat s.context)) s))
synopsis_step place NameEnds s = name_hung s.line.name_columns s

-- ---- `Sm`

-- where there are blanks between words again, there is one here
abbrev pub spaced : Bool → Formatting → EventOutcome
spaced on s = nothing (record s { context = record s.context { has_spacing = set_to on }; gap = if on then max s.gap 1 else s.gap })

-- ---- all of them

-- `Ns`: the next word is glued to the one before, unless blanks part them; the address of `Lk` is a word
abbrev pub step_outcome : Place → LineStep (List ℕ) → Option KeptText → Formatting → EventOutcome
step_outcome place steps.NextColumn name s = column_step place s.context.list s
step_outcome place steps.Glue name s = nothing (record s { gap = joined_gap Glued (s.line.ends_blank && not s.context.is_literal.value) s.gap })
step_outcome place (steps.BodyParagraph paragraph) name s = body_paragraph place paragraph s
step_outcome place (steps.Uri uri) name s = line_word place.line (argument_word None Apart uri) s
step_outcome place steps.ManualName name s = manual_name place name s
step_outcome place steps.NextField name s = next_of s.context.fields (record s.context { fields = series.Begun }) place s
step_outcome place steps.NextArgument name s = next_of s.context.arguments (record s.context { arguments = series.Begun }) place s
step_outcome place steps.FunctionEnd name s = function_end place s
step_outcome place (steps.Spacing on) name s = spaced (unwrap_or on (not s.context.has_spacing.value)) s
step_outcome place (steps.Synopsis step) name s = if in_synopsis s.context then synopsis_step place step s else nothing s

-- ---- What opens and closes nothing: what each leaf gives, and what it leaves. Source: man(7), mdoc(7); roff(7).

-- ---- lines without words

-- a blank line is a row, where rows are kept; else a blank row, which is reported
abbrev pub blank_line : Place → Formatting → EventOutcome
blank_line place s = record {
  items = if s.context.is_literal.value then shown pieces.RowEnd ∷ [] else says BlankFill place [] ∷ shown (pieces.Space 1) ∷ [];
  state = row_ended (with_content s);
}

-- blanks and tabs are a row, where rows are kept; in columns each tab begins the next one
abbrev pub kept_line : Place → List ℕ → Formatting → EventOutcome
kept_line place text s =
    if in_columns s.context && has_tab text then white_columns text s
    else record {
      items = white_cells place text;
      state = record s { context = record s.context { has_row = s.context.has_row || nat_lt 0 (length text) }; line = record s.line { has_row_words = true } };
    }

-- else they end the row; a line of nothing does nothing
abbrev pub wordless_line : (literal : Bool) → Place → List ℕ → Formatting → EventOutcome
wordless_line true place text s = kept_line place text s
wordless_line false place [] s = nothing s
wordless_line false place (byte ∷ bytes) s = row_break s

-- ---- macros

-- `PD`: the blank rows before a paragraph
abbrev pub distance : Place → Option (List ℕ) → Formatting → EventOutcome
distance place rows s =
    record { items = given_rows_notes place rows; state = in_context (record s.context { distance = set_to (given_rows rows) }) s }

-- the words of a font macro (`B`, `I`, `SM`, `SB`) are in its font; after them the fonts are those before them
abbrev pub fonts : Option Font → Formatting → EventOutcome
fonts (Some font) s = nothing (record s { context = font_begun font s.context; line = record s.line { fonts_before = Some s.context.fonts } })
fonts None s =
    nothing (record s { context = record s.context { fonts = unwrap_or s.line.fonts_before s.context.fonts }; line = record s.line { fonts_before = None } })

-- ---- one row for each leaf; the name is that of the manual; a further tag (`TQ`) is in front of text that hangs by the prevailing indent

unfoldable pub leaf_outcome : Place → Leaf (List ℕ) → Option KeptText → Formatting → EventOutcome
leaf_outcome place leaves.BlankLine name s = blank_line place s
leaf_outcome place (leaves.Wordless text) name s = wordless_line s.context.is_literal.value place text s
leaf_outcome place (leaves.Request row_request) name s = request place row_request s
leaf_outcome place (leaves.Prologue macro rest) name s = nothing s
leaf_outcome place (leaves.Generated word) name s = generated_word place word s
leaf_outcome place (leaves.Example begins) name s = literal begins s
leaf_outcome place (leaves.Distance rows) name s = distance place rows s
leaf_outcome place (leaves.Fonts font) name s = fonts font s
leaf_outcome place leaves.FurtherTag name s = at_margins (in_context (record s.context { hang = s.context.prevailing; first = None }) s)
leaf_outcome place (leaves.Step step) name s = step_outcome place step name s

-- ---- What an event gives that opens and closes nothing, and what it leaves. Source: man(7), mdoc(7); mandoc(1), "DIAGNOSTICS".

-- a word, a leaf, a line as it is, a line's end, or a message; the name is that of the manual
unfoldable pub kind_outcome : Place → EventKind (List ℕ) → Option KeptText → Formatting → EventOutcome
kind_outcome place (event_kinds.Word word) name s =
    after_notes (name_notes place.line word.role word.arg name) (line_word place.line word s)
kind_outcome place (event_kinds.Leaf leaf) name s = leaf_outcome place leaf name s
kind_outcome place (event_kinds.Raw text) name s = raw_line place text s
kind_outcome place (event_kinds.End fills) name s = line_end s
kind_outcome place (event_kinds.Note kind detail is_quoted begins_body) name s =
    after_notes (says kind place (shown_part is_quoted detail) ∷ []) (nothing s)
kind_outcome place _ name s = nothing s

-- the name of the manual after it
abbrev pub name_after : EventKind (List ℕ) → Option KeptText → Option KeptText
name_after (event_kinds.Word word) name = named word.role word.arg name
name_after _ name = name
