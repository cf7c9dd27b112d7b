-- Lists: their widths, their tags, and the marks and numbers of their items. Source: mdoc(7), `Bl`, `It`; man(7), `TP`.
use Rattle.std.specs.Prelude.{false, Some, None, [], ◌∷◌, ◌++◌, ℕ, List, Option, codes, decimal, pos, Bool, true, ◌+◌, option_map, unwrap_or, if◌then◌else◌, ℤ, fold}
use Rattle.page_core_base.specs.Rows.{shown, Item, says}
use Rattle.page_core_base.specs.declared.note_kinds.NoteKind.TheVariants.{Limit}
use Rattle.page_core_base.specs.declared.page_settings.Output.{Output}
use Rattle.page_core_base.specs.declared.pieces.Piece.TheVariants as pieces
use Rattle.page_core_base.specs.declared.pieces.TagForm.TheVariants.{Row}
use Rattle.page_core_base.specs.declared.places.Place.{Place}
use Rattle.page_roff_syntax.specs.Arguments.{is_quoted}
use Rattle.page_roff_syntax.specs.declared.quotes.Argument.{Argument}
use Rattle.page_sets_lines.specs.Blocks.{columns_after, no_options, list_options}
use Rattle.page_sets_lines.specs.Lines.{arguments_after}
use Rattle.page_sets_lines.specs.declared.events.Join.TheVariants.{Apart}
use Rattle.page_sets_lines.specs.declared.events.Word.{Word}
use Rattle.page_sets_lines.specs.declared.lists.ListKind.{ListKind}
use Rattle.page_sets_lines.specs.declared.lists.ListKind.TheVariants as kinds
use Rattle.page_sets_lines.specs.declared.lists.ListOptions.{ListOptions}
use Rattle.page_scopes_labels.specs.declared.labels.Label.TheVariants as labels
use Rattle.page_scopes_words.specs.Widths.{width_columns, width_notes, name_columns}
use Rattle.page_scopes_layout.specs.Contexts.{hold, entered_context}
use Rattle.page_scopes_layout.specs.Lists.{margin_items, item_begun, begin_items, has_room, with_width, no_widths, list_begun}
use Rattle.page_scopes_layout.specs.declared.contexts.Context.{Context}
use Rattle.page_scopes_layout.specs.declared.contexts.PagePart.TheVariants as parts
use Rattle.page_scopes_layout.specs.declared.lists.ColumnWidths.{ColumnWidths}
use Rattle.page_scopes_layout.specs.declared.lists.OpenList.{OpenList}
use Rattle.page_scopes_phrases.specs.LineWords.{line_word}
use Rattle.page_scopes_phrases.specs.Phrases.{in_context, EventOutcome, followed_by, phrase_outcome, own_phrase, nothing, row_ended, at_margins, after_notes}
use Rattle.page_scopes_phrases.specs.declared.formatting.Formatting.{Formatting}
use Rattle.page_scopes_phrases.specs.declared.phrases.Phrase.{Phrase}
use Rattle.page_scopes_blocks.specs.declared.open_lists.SaidList.{SaidList}
use Rattle.page_scopes_blocks.specs.declared.tags.TagPlace.{TagPlace}
use Rattle.page_scopes_blocks.specs.declared.widths.GivenWidths.{GivenWidths}

-- ---- Tags: words in front of a text that hangs. Source: man(7), `IP`, `SY`.

-- its row begins at its margin
abbrev pub tag_context : TagPlace → Context → Context
tag_context tag c = record c { first = Some tag.margin; has_row = false; part = parts.Tag }

-- after it rows begin where they did
abbrev pub after_tag : Context → Context → Context
after_tag before c = record c { first = None; part = before.part }

-- it is in front of its text, which hangs
abbrev pub tag_begun : TagPlace → Formatting → EventOutcome
tag_begun tag s = record {
  items = margin_items (tag_context tag s.context) ++ shown (pieces.Tag tag.hang Row) ∷ [];
  state = in_context (tag_context tag s.context) s;
}

-- what pads it takes the place of a blank
abbrev pub tag_ended : Context → Formatting → EventOutcome
tag_ended before s = record {
  items = shown pieces.TagEnd ∷ margin_items (after_tag before s.context);
  state = record s { context = after_tag before s.context; gap = 0 };
}

-- a tag of the words of an argument
unfoldable pub tag : TagPlace → ℕ → Word (List ℕ) → Formatting → EventOutcome
tag place line word s = followed_by (tag_begun place s) (λ t. followed_by (line_word line word t) (tag_ended s.context))

-- `tag` of the words of a phrase
unfoldable pub phrase_tag : TagPlace → ℕ → Phrase (List ℕ) → Formatting → EventOutcome
phrase_tag place line phrase s = followed_by (tag_begun place s) (λ t. followed_by (phrase_outcome line phrase t) (tag_ended s.context))

-- ---- Items of lists: their marks and numbers. Source: mdoc(7), `Bl` and `It`.

-- ---- marks

-- the mark of the open item, of which the number counts from 1
abbrev pub mark_of : ListKind → ℕ → Option (List ℕ)
mark_of kinds.Bullet number = Some (codes "\\(bu")
mark_of kinds.Dash number = Some (codes "-")
mark_of kinds.Hyphen number = Some (codes "-")
mark_of kinds.Enum number = Some (decimal number ++ codes ".")
mark_of _ number = None

-- a mark is a tag of its item's text; in other lists the text is at its margin
abbrev pub given_mark : Place → OpenList → Option (List ℕ) → Formatting → EventOutcome
given_mark place list (Some mark) s =
    phrase_tag (record { margin = list.head; hang = hold (pos list.hang) }) place.line (own_phrase place mark None Apart Apart) s
given_mark place list None s = record { items = margin_items s.context; state = s }

abbrev pub mark : Place → Option OpenList → Formatting → EventOutcome
mark place (Some list) s = given_mark place list (mark_of list.kind list.items) s
mark place None s = nothing s

-- ---- items

abbrev pub item_begins : Formatting → EventOutcome
item_begins s =
    let front = item_begun s.context.list s.context in
    record { items = begin_items labels.Item front; state = row_ended (in_context front s) }

-- after a blank row or in a new row, with its mark
unfoldable pub item_opened : Place → Formatting → EventOutcome
item_opened place s = followed_by (item_begins (in_context (entered_context s.context) s)) (λ t. mark place t.context.list t)

-- ---- The widths that the arguments of `Bl` give. Source: mdoc(7), `Bl`.

-- ---- how far the text of an item is from its head or mark

-- the width of a list that is given none
abbrev pub default_width : ListKind → ℕ
default_width kinds.Tag = 6
default_width kinds.Hang = 6
default_width kinds.Enum = 3
default_width _ = 2

-- lists of these types have a hang
abbrev pub hangs : ListKind → Bool
hangs kinds.Bullet = true
hangs kinds.Dash = true
hangs kinds.Enum = true
hangs kinds.Hang = true
hangs kinds.Hyphen = true
hangs kinds.Tag = true
hangs _ = false

-- two columns part the width from the text
abbrev pub hang_of : ListKind → Option ℤ → ℕ
hang_of kind width = if hangs kind then unwrap_or (option_map hold width) (default_width kind) + 2 else 0

-- the columns of an option's value, and its messages
abbrev pub given_columns : Output → Option (Argument (List ℕ)) → Option ℤ
given_columns output value = option_map (width_columns output) value

abbrev pub given_notes : Place → Option (Argument (List ℕ)) → List Item
given_notes place value = unwrap_or (option_map (width_notes place) value) []

-- ---- columns

-- the width of a column is that of its text
abbrev pub column_width : Output → Argument (List ℕ) → ℕ
column_width output word = hold (pos (name_columns output (is_quoted word.quoting) word.text))

-- 16 are kept; whether there were more
abbrev pub one_more : Output → GivenWidths → Argument (List ℕ) → GivenWidths
one_more output given word =
    if has_room given.widths then record given { widths = with_width given.widths (column_width output word) } else record given { is_cut = true }

abbrev pub no_widths_given : GivenWidths
no_widths_given = record { widths = no_widths; is_cut = false }

-- of the arguments in a text; only a list of columns has such widths
abbrev pub columns_of : Output → ListKind → List ℕ → GivenWidths
columns_of output kinds.Column options = fold (one_more output) no_widths_given (columns_after no_options (arguments_after 0 options))
columns_of output _ options = no_widths_given

abbrev pub cut_notes : Place → GivenWidths → List Item
cut_notes place given = if given.is_cut then says Limit place (codes "COLUMNS") ∷ [] else []

-- ---- What lists begin with. Source: mdoc(7), `Bl`.

-- before its first item
abbrev pub new_list : ListKind → Bool → ℕ → ColumnWidths → OpenList
new_list kind is_compact hang widths = record {
  kind = kind;
  is_compact = is_compact;
  hang = hang;
  head = 0;
  items = 0;
  cells = 0;
  column = 0;
  widths = widths;
}

-- what its arguments say, with the messages of its width, of its offset, and of its columns
abbrev pub said_list : Output → ListKind → Bool → List ℕ → ListOptions (List ℕ) → SaidList
said_list output kind is_compact text options = record {
  list = new_list kind is_compact (hang_of kind (given_columns output options.width)) (columns_of output kind text).widths;
  offset = given_columns output options.offset;
}

abbrev pub list_notes : Output → Place → ListKind → List ℕ → ListOptions (List ℕ) → List Item
list_notes output place kind text options =
    given_notes place options.width ++ (given_notes place options.offset ++ cut_notes place (columns_of output kind text))

abbrev pub list_by : SaidList → Formatting → EventOutcome
list_by said s = at_margins (in_context (list_begun said.list (unwrap_or said.offset (pos 0)) (entered_context s.context)) s)

-- a list of a type, compact or not, with these arguments
unfoldable pub list_opened : Output → Place → ListKind → Bool → List ℕ → Formatting → EventOutcome
list_opened output place kind is_compact text s =
    after_notes (list_notes output place kind text (list_options (arguments_after 0 text)))
    (list_by (said_list output kind is_compact text (list_options (arguments_after 0 text))) s)
