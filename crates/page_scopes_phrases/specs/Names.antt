-- Texts that are kept of an argument and printed later: the name of the manual, the target of a link, the end of a function. Source: mdoc(7), `Nm`, `Fo`; man(7), `UR`.
use Rattle.std.specs.List.{list_any}
use Rattle.std.specs.Prelude.{refl, ℕ, List, nat_lt, [], ◌∷◌, length, codes, if◌then◌else◌, false, ◌==◌, Bool, ◌++◌, fold, true, ◌||◌, Option, None, Some, ◌&&◌, max}
use Rattle.page_core_base.specs.Limits.{FIELD}
use Rattle.page_core_base.specs.Messages.{text_front}
use Rattle.page_core_base.specs.Rows.{Item, shown, says}
use Rattle.page_core_base.specs.declared.cells.Font.{Font}
use Rattle.page_core_base.specs.declared.cells.Font.TheVariants.{R, B}
use Rattle.page_core_base.specs.declared.note_kinds.NoteKind.TheVariants.{Limit, MissingName}
use Rattle.page_core_base.specs.declared.pieces.Piece.TheVariants.{Blank, Text}
use Rattle.page_core_base.specs.declared.places.Place.{Place}
use Rattle.page_core_escapes.specs.Tokens.{TextToken, white, tokens_of}
use Rattle.page_roff_syntax.specs.Arguments.{argument_value}
use Rattle.page_roff_syntax.specs.declared.quotes.Argument.{Argument}
use Rattle.page_sets_names.specs.declared.generated_texts.GeneratedText.TheVariants.{Semicolon, CloseParenthesis}
use Rattle.page_sets_lines.specs.declared.events.Join.TheVariants.{Apart, Glued}
use Rattle.page_sets_lines.specs.declared.events.Role.{Role}
use Rattle.page_sets_lines.specs.declared.events.Role.TheVariants as roles
use Rattle.page_scopes_words.specs.Fonts.{fonts_after}
use Rattle.page_scopes_words.specs.Words.{blank_cells, token_items, has_tab, white_cells, token_prints, at}
use Rattle.page_scopes_words.specs.declared.fonts.Fonts.{Fonts}
use Rattle.page_scopes_words.specs.declared.settings.Setting.{Setting}
use Rattle.page_scopes_layout.specs.Headings.{heading_further, in_synopsis}
use Rattle.page_scopes_phrases.specs.LineWords.{with_sentence, generated_word, own_word}
use Rattle.page_scopes_phrases.specs.Phrases.{next_gap, is_text, EventOutcome, after_notes, changed, own_phrase, phrase_outcome, own_fonts, followed_by, nothing, row_break}
use Rattle.page_scopes_phrases.specs.declared.formatting.Formatting.{Formatting}
use Rattle.page_scopes_phrases.specs.declared.kept_texts.KeptText.{KeptText}

-- ---- Texts that are kept of an argument and printed later: the target of a link, and the name of the manual. Source: man(7), `UR`, `MT`; mdoc(7), `Nm`.

-- The first FIELD bytes of what an argument says are kept, up to a character's end, and each that there is was so cut of a text (`is_front`). A pair of
-- quotes in a quoted argument is one byte.
abbrev pub kept_of : Argument (List ℕ) → KeptText
kept_of argument = record { text = text_front FIELD (argument_value argument); is_front = ∣ (argument_value argument, refl) ∣₁ }

abbrev pub cut_notes : Place → Argument (List ℕ) → List Item
cut_notes place argument = if nat_lt FIELD (length (argument_value argument)) then says Limit place (codes "FIELD") ∷ [] else []

-- ---- where it is printed

-- the blanks before it
abbrev pub gap_items : Formatting → Place → List Item
gap_items s place =
    if s.context.is_literal.value then (if s.line.is_after_word then blank_cells (next_gap s) R place else [])
    else if next_gap s == 0 then [] else shown (Blank (next_gap s) false) ∷ []

-- its parts are as many blanks apart, which are reported where they stand for a tab, or as they are written
abbrev pub part_items : (literal : Bool) → ℕ → Place → Font → TextToken → List Item
part_items literal gap place font (white bytes) = if literal then white_cells place bytes else shown (Blank gap (has_tab bytes)) ∷ []
part_items literal gap place font token = token_items false font place token

-- without the messages of its escapes, all at one place; white space at its front is this many blanks, and any other one
abbrev pub parts_items : (literal : Bool) → ℕ → Place → Setting Fonts → List TextToken → List Item
parts_items literal gap place fonts [] = []
parts_items literal gap place fonts (token ∷ tokens) =
    part_items literal gap place fonts.value.font token ++ parts_items literal 1 place (fonts_after token fonts) tokens

abbrev pub fonts_through : Setting Fonts → List TextToken → Setting Fonts
fonts_through fonts tokens = fold (λ before token. fonts_after token before) fonts tokens

-- whether one of its parts is a cell
abbrev pub part_prints : Bool → TextToken → Bool
part_prints literal (white bytes) = literal
part_prints literal token = token_prints token

abbrev pub prints_cell : Bool → List TextToken → Bool
prints_cell literal tokens = list_any (part_prints literal) tokens

-- it is a word at a place
abbrev pub after_kept : Place → Formatting → Formatting
after_kept place s = record s {
  has_content = true;
  gap = if s.context.has_spacing.value then 1 else 0;
  line = record s.line {
    has_words = true;
    has_row_words = s.line.has_row_words || is_text s.context.part;
    is_after_word = true;
    is_cut = false;
    ends_blank = false;
    joins_next = false;
    last_word = if s.context.is_literal.value then place.column else s.line.last_word;
  };
}

-- ---- The name of the manual: the first word of the first `Nm` that has one, which each `Nm` without words prints. Source: mdoc(7), `Nm`.

-- ---- which word it is

abbrev pub named : Role → Argument (List ℕ) → Option KeptText → Option KeptText
named (roles.Name column) argument None = Some (kept_of argument)
named _ argument name = name

-- that it is cut is reported at its macro
abbrev pub name_notes : ℕ → Role → Argument (List ℕ) → Option KeptText → List Item
name_notes line (roles.Name column) argument None = cut_notes (at line column) argument
name_notes line _ argument name = []

-- ---- where it is printed

-- where there is no name, its place is taken by a word of no bytes
unfoldable pub missing_name : Place → Formatting → EventOutcome
missing_name place s =
    after_notes (says MissingName place [] ∷ []) (changed (with_sentence []) (phrase_outcome place.line (own_phrase place [] (Some B) Apart Apart) s))

-- a name of no bytes is a text without characters
abbrev pub empty_items : Place → KeptText → List Item
empty_items place name = if length name.text == 0 then shown (Text [] B place) ∷ [] else []

-- where rows are kept the blanks before it are cells
abbrev pub has_gap_cells : Formatting → Bool
has_gap_cells s = s.context.is_literal.value && (s.line.is_after_word && nat_lt 0 (next_gap s))

-- in bold, without the messages of its escapes, with the blanks before it where it begins with some; a sentence ends as it is written, and a row begins with a
-- cell; it may be of a heading
unfoldable pub name_word : Place → KeptText → Formatting → EventOutcome
name_word place name s = record {
  items = gap_items s place
      ++ (empty_items place name ++ parts_items s.context.is_literal.value (max (next_gap s) 1) place (own_fonts (Some B) s.context.fonts) (tokens_of false name.text));
  state = with_sentence name.text (after_kept place (record s {
    context = record s.context { has_row = s.context.has_row || (has_gap_cells s || prints_cell s.context.is_literal.value (tokens_of false name.text)) };
    heading = heading_further s.context.part false (next_gap s) name.text s.heading;
  }));
}

abbrev pub manual_name : Place → Option KeptText → Formatting → EventOutcome
manual_name place (Some name) s = name_word place name s
manual_name place None s = missing_name place s

-- ---- What ends a function, of `Fn` or of `Fo`. Source: mdoc(7), "MACRO REFERENCE".

-- in the SYNOPSIS a semicolon follows what closes its arguments, and the row ends
abbrev pub declaration_end : Place → Formatting → EventOutcome
declaration_end place s = if in_synopsis s.context then followed_by (generated_word place (own_word Semicolon Glued Apart) s) row_break else nothing s

unfoldable pub function_end : Place → Formatting → EventOutcome
function_end place s = followed_by (generated_word place (own_word CloseParenthesis Glued Apart) s) (declaration_end place)
