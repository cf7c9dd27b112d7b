-- What the blocks of mdoc(7) begin with, and the words that they print themselves. Source: mdoc(7).
use Rattle.std.specs.Prelude.{None, codes, ℕ, List, Some, Bool, ◌∷◌, if◌then◌else◌, Option, unwrap_or, pos, ◌+◌, min, false}
use Rattle.page_core_base.specs.Rows.{shown}
use Rattle.page_core_base.specs.declared.cells.Font.TheVariants.{B}
use Rattle.page_core_base.specs.declared.page_settings.Output.{Output}
use Rattle.page_core_base.specs.declared.pieces.Piece.TheVariants as pieces
use Rattle.page_core_base.specs.declared.places.Place.{Place}
use Rattle.page_roff_syntax.specs.Arguments.{is_quoted}
use Rattle.page_roff_syntax.specs.declared.quotes.Argument.{Argument}
use Rattle.page_sets_names.specs.Marks.{opening, quotation_marks, closing}
use Rattle.page_sets_names.specs.declared.generated_texts.GeneratedText.TheVariants.{OpenParenthesis, FullStop}
use Rattle.page_sets_lines.specs.declared.blocks.Block.TheVariants as blocks
use Rattle.page_sets_lines.specs.declared.blocks.BlockOpener.{BlockOpener}
use Rattle.page_sets_lines.specs.declared.blocks.BlockOpener.TheVariants as openers
use Rattle.page_sets_lines.specs.declared.events.EventKind.{EventKind}
use Rattle.page_sets_lines.specs.declared.events.EventKind.TheVariants as kinds
use Rattle.page_sets_lines.specs.declared.events.Join.TheVariants.{Apart, Glued}
use Rattle.page_sets_lines.specs.declared.events.Role.{Role}
use Rattle.page_sets_lines.specs.declared.events.Role.TheVariants as roles
use Rattle.page_sets_lines.specs.declared.events.Word.{Word}
use Rattle.page_sets_lines.specs.declared.leaves.Leaf.TheVariants as leaves
use Rattle.page_sets_lines.specs.declared.line_steps.LineStep.TheVariants as steps
use Rattle.page_sets_lines.specs.declared.openers.LineOpener.{LineOpener}
use Rattle.page_sets_lines.specs.declared.openers.LineOpener.TheVariants as lines
use Rattle.page_scopes_labels.specs.declared.labels.Explicit.TheVariants.{Block}
use Rattle.page_scopes_labels.specs.declared.labels.Label.{Label}
use Rattle.page_scopes_labels.specs.declared.labels.Label.TheVariants as labels
use Rattle.page_scopes_words.specs.Widths.{name_columns}
use Rattle.page_scopes_layout.specs.Contexts.{display_begun, font_if_given, entered_context, MARGIN}
use Rattle.page_scopes_layout.specs.Lists.{margin_items}
use Rattle.page_scopes_layout.specs.declared.contexts.SeriesSoFar.{SeriesSoFar}
use Rattle.page_scopes_layout.specs.declared.contexts.SeriesSoFar.TheVariants.{Begun, Empty}
use Rattle.page_scopes_phrases.specs.LineWords.{generated_word, own_word, argument_word, line_word}
use Rattle.page_scopes_phrases.specs.Names.{function_end}
use Rattle.page_scopes_phrases.specs.Phrases.{EventOutcome, own_phrase, phrase_outcome, nothing, followed_by, row_ended, after_notes, in_context, counting}
use Rattle.page_scopes_phrases.specs.declared.formatting.Formatting.{Formatting}
use Rattle.page_scopes_phrases.specs.declared.kept_texts.KeptText.{KeptText}
use Rattle.page_scopes_blocks.specs.Lists.{given_columns, given_notes}

-- ---- The words that blocks and line scopes of mdoc(7) print themselves, where they begin and where they end. Source: mdoc(7), "MACRO REFERENCE".

-- ---- where a scope begins

-- `Aq Bq Brq Dq Op Pq Ql Qq Sq`, and `Nd`; the words of an enclosure are glued to its marks
abbrev pub line_words : Place → LineOpener → Formatting → EventOutcome
line_words place (lines.Enclosure marks) s = generated_word place (own_word (opening marks) Apart Glued) s
line_words place lines.Description s = phrase_outcome place.line (own_phrase place (codes "\\(en") None Apart Apart) s
line_words place _ s = nothing s

-- `Ao Bo Bro Do Oo Po Qo So`, and `Eo`, of which the mark is a word; no other block has one
abbrev pub block_words : Place → BlockOpener (List ℕ) → Formatting → EventOutcome
block_words place (openers.Quotation quotation) s = generated_word place (own_word (opening (quotation_marks quotation)) Apart Glued) s
block_words place (openers.Custom (Some mark)) s = line_word place.line (record (argument_word None Apart mark) { after = Glued }) s
block_words place _ s = nothing s

-- a function (`Fo`) begins with its name in bold, and what opens its arguments
abbrev pub function_name : Place → Argument (List ℕ) → Formatting → EventOutcome
function_name place name s =
    followed_by (line_word place.line (argument_word (Some B) Apart name) s) (generated_word place (own_word OpenParenthesis Glued Glued))

-- ---- where it ends, by its closer, with its line, by force or with the page

-- after the last field of a reference (`Rs`), where it has one
abbrev pub reference_end : SeriesSoFar → Place → Formatting → EventOutcome
reference_end Begun place s = generated_word place (own_word FullStop Glued Apart) s
reference_end _ place s = nothing s

-- the mark of `Ec` is a word after its block has ended
abbrev pub last_words : Place → Label → Formatting → EventOutcome
last_words place (labels.Line (lines.Enclosure marks)) s = generated_word place (own_word (closing marks) Glued Apart) s
last_words place (labels.Explicit (Block (blocks.Quotation quotation))) s =
    generated_word place (own_word (closing (quotation_marks quotation)) Glued Apart) s
last_words place (labels.Explicit (Block blocks.Reference)) s = reference_end s.context.fields place s
last_words place (labels.Explicit (Block blocks.Function)) s = function_end place s
last_words place _ s = nothing s

-- ---- What the blocks of mdoc(7) begin with. Source: mdoc(7), "MACRO REFERENCE".

-- ---- displays (`Bd`)

-- a paragraph, or a row of its own
abbrev pub display_begins : (is_compact : Bool) → Formatting → EventOutcome
display_begins is_compact s = record {
  items = shown (if is_compact then pieces.Break else pieces.Para s.context.distance.value) ∷ shown (pieces.Literal s.context.is_literal.value) ∷ margin_items s.context;
  state = row_ended s;
}

-- as far in as its offset says
abbrev pub display : Output → Place → Bool → Bool → Option (Argument (List ℕ)) → Formatting → EventOutcome
display output place is_literal is_compact offset s =
    after_notes (given_notes place offset) (display_begins is_compact (in_context (display_begun is_literal (unwrap_or (given_columns output offset) (pos 0)) s.context) s))

-- ---- all of them

-- `Bd`; `Bf`, whose words are in its font; `Rs`, which has no field yet; `Fo`, which has no argument yet; the others print their marks
abbrev pub block_front : Output → Place → BlockOpener (List ℕ) → Formatting → EventOutcome
block_front output place (openers.Display is_literal is_compact offset) s = display output place is_literal is_compact offset s
block_front output place (openers.Fonts font) s = nothing (in_context (font_if_given font s.context) s)
block_front output place openers.Reference s = nothing (in_context (record s.context { fields = Empty }) s)
block_front output place (openers.Function name) s = function_name place name (in_context (record s.context { arguments = Empty }) s)
block_front output place opener s = block_words place opener s

-- nothing is set in it yet
unfoldable pub block_opened : Output → Place → BlockOpener (List ℕ) → Formatting → EventOutcome
block_opened output place opener s = block_front output place opener (in_context (entered_context s.context) s)

-- ---- The columns of the words of `Nm` that begin a row of the SYNOPSIS: later rows are as many further in. Source: mdoc(7), `Nm`.

-- the words of a name are counted, each with the blank after it; their columns are held to as many as a margin
abbrev pub counted : Option ℕ → Option ℕ → Formatting → Formatting
counted (Some so_far) (Some columns) s = counting (Some (min (so_far + columns + 1) MARGIN)) s
counted _ _ s = s

abbrev pub word_columns : Output → Role → Word (List ℕ) → Option ℕ
word_columns output roles.Delimiter word = None
word_columns output _ word = Some (name_columns output (is_quoted word.arg.quoting) word.arg.text)

-- the columns of an event: of a word that is no delimiter, and of the name of the manual, which may have none
abbrev pub kind_columns : Output → EventKind (List ℕ) → Option KeptText → Option ℕ
kind_columns output (kinds.Word word) name = word_columns output word.role word
kind_columns output (kinds.Leaf (leaves.Step steps.ManualName)) None = Some 0
kind_columns output (kinds.Leaf (leaves.Step steps.ManualName)) (Some name) = Some (name_columns output false name.text)
kind_columns output _ name = None

-- before an event is laid out, on a page whose manual has this name
unfoldable pub kind_counted : Output → EventKind (List ℕ) → Option KeptText → Formatting → Formatting
kind_counted output kind name s = counted s.line.name_columns (kind_columns output kind name) s
