-- Words of a line, those that a macro prints itself, and those in the columns of a list. Source: man(7), mdoc(7).
use Rattle.std.specs.Prelude.{Bool, false, option_map, unwrap_or, [], ◌∷◌, Some, Option, None, if◌then◌else◌, ℕ, ◌==◌, position, ◌+◌, List, length, ◌&&◌, is_some, take, drop, ◌-◌, ◌||◌, nat_lt, zero, suc, not, true}
use Rattle.page_core_base.specs.Bytes.{ascii}
use Rattle.page_core_base.specs.Rows.{shown, Item, says}
use Rattle.page_core_base.specs.declared.cells.Font.{Font}
use Rattle.page_core_base.specs.declared.note_kinds.NoteKind.TheVariants.{ItemOutside, Unterminated}
use Rattle.page_core_base.specs.declared.pieces.Piece.TheVariants as pieces
use Rattle.page_core_base.specs.declared.places.Place.{Place}
use Rattle.page_core_escapes.specs.Meanings.{tab}
use Rattle.page_core_escapes.specs.Tokens.{TextToken, white, escaped, token_bytes, is_space, tokens_of}
use Rattle.page_roff_syntax.specs.Arguments.{after_blanks, is_quoted}
use Rattle.page_roff_syntax.specs.declared.quotes.Argument.{Argument}
use Rattle.page_roff_syntax.specs.declared.quotes.Quoting.{Quoting}
use Rattle.page_roff_syntax.specs.declared.quotes.Quoting.TheVariants.{Unclosed}
use Rattle.page_sets_names.specs.Names.{generated_spaced, generated_text, generated_ends_sentence, generated_is_word, generated_joins_next}
use Rattle.page_sets_names.specs.declared.generated_texts.GeneratedText.{GeneratedText}
use Rattle.page_sets_lines.specs.declared.events.Join.{Join}
use Rattle.page_sets_lines.specs.declared.events.Join.TheVariants.{Apart}
use Rattle.page_sets_lines.specs.declared.events.Role.{Role}
use Rattle.page_sets_lines.specs.declared.events.Role.TheVariants as roles
use Rattle.page_sets_lines.specs.declared.events.Word.{Word}
use Rattle.page_sets_lines.specs.declared.leaves.GeneratedWord.{GeneratedWord}
use Rattle.page_scopes_words.specs.Words.{at, ends_sentence}
use Rattle.page_scopes_layout.specs.Lists.{has_columns, next_cell}
use Rattle.page_scopes_layout.specs.declared.contexts.Context.{Context}
use Rattle.page_scopes_layout.specs.declared.lists.OpenList.{OpenList}
use Rattle.page_scopes_phrases.specs.Phrases.{EventOutcome, nothing, phrase_outcome, is_text, followed_by, after_notes, changed, own_phrase}
use Rattle.page_scopes_phrases.specs.declared.cells.CellSpan.{CellSpan}
use Rattle.page_scopes_phrases.specs.declared.formatting.Formatting.{Formatting}
use Rattle.page_scopes_phrases.specs.declared.phrases.Phrase.{Phrase}

-- ---- Texts in the columns of a list. Source: mdoc(7), `Bl -column`, `Ta`.

-- ---- columns

-- the innermost list has columns
abbrev pub in_columns : Context → Bool
in_columns c = unwrap_or (option_map has_columns c.list) false

-- what is before the next word there takes the place of a blank
abbrev pub next_column : Option OpenList → Formatting → EventOutcome
next_column (Some list) s =
    if has_columns list then record {
      items = shown (pieces.Column (next_cell list).column) ∷ [];
      state = record s { context = record s.context { list = Some (next_cell list) }; gap = 0; line = record s.line { ends_blank = false } };
    }
    else nothing s
next_column None s = nothing s

-- `Ta`: it is reported where no list is open, and does nothing in a list without columns
abbrev pub column_step : Place → Option OpenList → Formatting → EventOutcome
column_step place (Some list) s = next_column (Some list) s
column_step place None s = record { items = says ItemOutside place [] ∷ []; state = s }

-- ---- the first cell of a text

-- the bytes of a token before its first tab, where it has one
abbrev pub tab_in : TextToken → Option ℕ
tab_in (white bytes) = position (λ byte. byte == 9) bytes
tab_in (escaped bytes tab) = Some 0
tab_in _ = None

-- the bytes before the first tab; all of them where there is none
abbrev pub before_tab : List TextToken → ℕ
before_tab [] = 0
before_tab (token ∷ tokens) = unwrap_or (tab_in token) (length (token_bytes token) + before_tab tokens)

-- the bytes of a token and of what follows it; blanks that nothing follows are none
abbrev pub with_more : TextToken → ℕ → ℕ
with_more token more = if is_space token && more == 0 then 0 else length (token_bytes token) + more

-- the bytes before the first tab and before the blanks in front of it
abbrev pub before_blanks : List TextToken → ℕ
before_blanks [] = 0
before_blanks (token ∷ tokens) = if is_some (tab_in token) then 0 else with_more token (before_blanks tokens)

abbrev pub span_of : Bool → List ℕ → CellSpan
span_of quoted text = record { end = before_blanks (tokens_of quoted text); tab = before_tab (tokens_of quoted text) }

-- ---- the texts of cells

-- after a tab, which is one byte or the two of an escape
abbrev pub after_tab : List ℕ → List ℕ
after_tab [] = []
after_tab (byte ∷ bytes) = if byte == ascii "\t" then bytes else drop 1 bytes

-- blanks beside a tab are nothing
abbrev pub other_cells_text : CellSpan → List ℕ → List ℕ
other_cells_text span text = after_blanks (after_tab (drop span.tab text))

abbrev pub other_cells : CellSpan → Phrase (List ℕ) → Phrase (List ℕ)
other_cells span p =
    let rest = other_cells_text span p.text in
    record p { text = rest; column = p.column + (length p.text - length rest); is_line = false; before = Apart }

-- ---- a text in cells

-- a cell without a byte beside a tab is no word
abbrev pub cell : ℕ → Phrase (List ℕ) → Formatting → EventOutcome
cell line p s = if length p.text == 0 then nothing s else phrase_outcome line p s

-- a tab is a word of its row
abbrev pub tab_step : Formatting → EventOutcome
tab_step s = next_column s.context.list (record s { line = record s.line { has_row_words = s.line.has_row_words || is_text s.context.part } })

-- the first cell, and the next column
abbrev pub first_part : CellSpan → ℕ → Phrase (List ℕ) → Formatting → EventOutcome
first_part span line p s = followed_by (cell line (record p { text = take span.end p.text; after = Apart }) s) tab_step

abbrev pub span : Phrase (List ℕ) → CellSpan
span p = span_of p.is_quoted p.text

abbrev pub has_tab : Phrase (List ℕ) → Bool
has_tab p = nat_lt (span p).tab (length p.text)

-- each tab begins the next column; a text has no more of them than bytes
unfoldable pub cells_within : ℕ → ℕ → Phrase (List ℕ) → Formatting → EventOutcome
cells_within zero line p s = cell line p s
cells_within (suc n) line p s =
    if has_tab p then followed_by (first_part (span p) line p s) (cells_within n line (other_cells (span p) p))
    else cell line p s

abbrev pub cells : ℕ → Phrase (List ℕ) → Formatting → EventOutcome
cells line p s = cells_within (length p.text) line p s

-- a text is separated by tabs where columns are open; one without a byte is a word, as everywhere
abbrev pub text_outcome : ℕ → Phrase (List ℕ) → Formatting → EventOutcome
text_outcome line p s = if in_columns s.context && not (length p.text == 0) then cells line p s else phrase_outcome line p s

-- ---- white space without a word

abbrev pub white_columns : List ℕ → Formatting → EventOutcome
white_columns [] s = nothing s
white_columns (byte ∷ bytes) s = followed_by (if byte == ascii "\t" then tab_step s else nothing s) (white_columns bytes)

-- ---- Words of a line, and words that a macro prints itself. Source: man(7), mdoc(7); roff(7), "Macro syntax".

abbrev pub is_line : Role → Bool
is_line roles.Line = true
is_line _ = false

-- a quote without its end is reported at the quote
abbrev pub quote_items : ℕ → Quoting → ℕ → List Item
quote_items line Unclosed column = says Unterminated (at line (column - 1)) [] ∷ []
quote_items line _ column = []

abbrev pub word_phrase : Word (List ℕ) → Phrase (List ℕ)
word_phrase word = record {
  text = word.arg.text;
  column = word.arg.column;
  is_quoted = is_quoted word.arg.quoting;
  is_line = is_line word.role;
  is_written = true;
  font = word.font;
  before = word.before;
  after = word.after;
}

-- a sentence ends as its last word is written, with the blanks of an escape that reaches to the line's end
abbrev pub with_sentence : List ℕ → Formatting → Formatting
with_sentence text s = record s { line = record s.line { is_sentence = ends_sentence s.line.ends_blank text } }

-- a word of a line
unfoldable pub line_word : ℕ → Word (List ℕ) → Formatting → EventOutcome
line_word line word s =
    after_notes (quote_items line word.arg.quoting word.arg.column) (changed (with_sentence word.arg.text) (text_outcome line (word_phrase word) s))

-- an argument as a word
abbrev pub argument_word : Option Font → Join → Argument (List ℕ) → Word (List ℕ)
argument_word font before argument = record { arg = argument; role = roles.Argument; font = font; before = before; after = Apart }

-- ---- words of a macro's own

abbrev pub own_word : GeneratedText → (before after : Join) → GeneratedWord
own_word text before after = record { text = text; font = None; before = before; after = after }

-- a mark of a macro ends no sentence, and leaves one that has ended; after a word none has ended, but after those of `Ex` and `Rv` one has. A dash may be glued to what comes after it in its line
abbrev pub after_generated : GeneratedText → Formatting → Formatting
after_generated own s = record s {
  line = record s.line {
    is_sentence = generated_ends_sentence own || (s.line.is_sentence && not (generated_is_word own));
    joins_next = generated_joins_next own;
  };
}

unfoldable pub generated_word : Place → GeneratedWord → Formatting → EventOutcome
generated_word place word s =
    changed (after_generated word.text)
    (phrase_outcome place.line (own_phrase place (generated_text (generated_spaced s.context.has_spacing.value word.text)) word.font word.before word.after) s)
