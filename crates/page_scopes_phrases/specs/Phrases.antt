-- What a page is formatted by, what an event gives and leaves, and the text that it prints. Source: man(7), mdoc(7).
use Rattle.std.specs.Prelude.{false, None, ℕ, if◌then◌else◌, Bool, not, ◌==◌, ◌||◌, true, Option, List, [], ◌∷◌, ◌++◌, Some, max, ◌+◌, min, ◌&&◌, is_some}
use Rattle.page_core_base.specs.Limits.{LINE}
use Rattle.page_core_base.specs.Rows.{Item, shown}
use Rattle.page_core_base.specs.declared.cells.Font.{Font}
use Rattle.page_core_base.specs.declared.pieces.Piece.TheVariants.{Break}
use Rattle.page_core_base.specs.declared.places.Place.{Place}
use Rattle.page_sets_lines.specs.declared.events.Join.{Join}
use Rattle.page_sets_lines.specs.declared.events.Join.TheVariants.{Apart, Glued, Parted}
use Rattle.page_scopes_words.specs.Fonts.{with_font}
use Rattle.page_scopes_words.specs.declared.fonts.Fonts.{Fonts}
use Rattle.page_scopes_words.specs.declared.pens.Pen.{Pen}
use Rattle.page_scopes_words.specs.declared.pens.TextStyle.{TextStyle}
use Rattle.page_scopes_words.specs.declared.settings.Setting.{Setting}
use Rattle.page_scopes_layout.specs.Contexts as contexts
use Rattle.page_scopes_layout.specs.Headings.{no_heading, heading_further}
use Rattle.page_scopes_layout.specs.Lists.{margin_items}
use Rattle.page_scopes_layout.specs.declared.contexts.Context.{Context}
use Rattle.page_scopes_layout.specs.declared.contexts.PagePart.{PagePart}
use Rattle.page_scopes_layout.specs.declared.contexts.PagePart.TheVariants as parts
use Rattle.page_scopes_text.specs.Texts.{words_of, text_after, last_word, text_items}
use Rattle.page_scopes_phrases.specs.declared.formatting.Formatting.{Formatting}
use Rattle.page_scopes_phrases.specs.declared.formatting.LineSoFar.{LineSoFar}
use Rattle.page_scopes_phrases.specs.declared.phrases.Phrase.{Phrase}

-- ---- What a page is formatted by: the context of the open scopes, and what no scope restores, which is known along the page and of its line. Source: man(7); roff(7), "Sentences", `\c`.

-- at the front of a line
abbrev pub no_line : LineSoFar
no_line = record {
  has_words = false;
  has_row_words = false;
  is_after_word = false;
  is_cut = false;
  ends_blank = false;
  is_sentence = false;
  joins_next = false;
  fonts_before = None;
  name_columns = None;
  last_word = 1;
}

-- the blanks before the next word; none after a dash that is glued to what comes after it in its line
abbrev pub next_gap : Formatting → ℕ
next_gap s = if s.line.joins_next then 0 else s.gap

-- before a page's first line
abbrev pub start : (page_indent : ℕ) → Formatting
start page_indent = record { context = contexts.start page_indent; has_content = false; gap = 1; line = no_line; heading = no_heading }

-- there is one blank after a line with words, two after a sentence, none where it ends in `\c` or where no blanks are between words; what is glued stays glued
abbrev pub line_gap : (spacing : Bool) → LineSoFar → ℕ → ℕ
line_gap spacing line gap = if not line.has_words then gap else if line.is_cut || (gap == 0 || not spacing) then 0 else if line.is_sentence then 2 else 1

abbrev pub line_ended : Formatting → Formatting
line_ended s = record s { gap = line_gap s.context.has_spacing.value s.line s.gap; line = no_line }

-- another context holds
abbrev pub in_context : Context → Formatting → Formatting
in_context c s = record s { context = c }

-- the row ends: no word is in it yet
abbrev pub row_ended : Formatting → Formatting
row_ended s = record s { line = record s.line { has_row_words = false; is_after_word = false } }

-- something came since the last heading
abbrev pub with_content : Formatting → Formatting
with_content s = record s { has_content = true }

-- `Nm`: the columns of its words are counted from here on, and later rows are as many further in
abbrev pub counting : Option ℕ → Formatting → Formatting
counting columns s = record s { line = record s.line { name_columns = columns } }

-- ---- What an event gives, and what it leaves. Source: man(7), mdoc(7).

-- pieces and messages, and by what the page is then formatted
pub record EventOutcome : Type 0 where
  pub items : List Item
  pub state : Formatting

-- it prints nothing, and leaves this state
abbrev pub nothing : Formatting → EventOutcome
nothing s = record { items = []; state = s }

-- the row ends
abbrev pub row_break : Formatting → EventOutcome
row_break s = record { items = shown Break ∷ []; state = row_ended s }

-- and rows go on in their context
abbrev pub at_margins : Formatting → EventOutcome
at_margins s = record { items = shown Break ∷ margin_items s.context; state = row_ended s }

-- messages come first, or other items
abbrev pub after_notes : List Item → EventOutcome → EventOutcome
after_notes notes o = record o { items = notes ++ o.items }

-- then the state changes
abbrev pub changed : (Formatting → Formatting) → EventOutcome → EventOutcome
changed change o = record o { state = change o.state }

-- one after the other
abbrev pub followed_by : EventOutcome → (Formatting → EventOutcome) → EventOutcome
followed_by first next = after_notes first.items (next first.state)

-- ---- A text that an event prints: its fonts, and how it is beside the words around it. Source: man(7), `B`, `BR`; roff(7), `\f`, `\c`.

-- ---- before its words

-- a font of its own is in use in it, and the one before is the former one
abbrev pub own_fonts : Option Font → Setting Fonts → Setting Fonts
own_fonts None fonts = fonts
own_fonts (Some font) fonts = record { value = with_font font fonts.value; is_set = fonts.is_set }

-- where rows are filled, blanks at a text's end part it from the next one even where that is glued; what is parted has a blank at least, after `Sm off` too
abbrev pub joined_gap : Join → Bool → ℕ → ℕ
joined_gap Apart parts gap = gap
joined_gap Glued parts gap = if parts then gap else 0
joined_gap Parted parts gap = max gap 1

abbrev pub is_tag : PagePart → Bool
is_tag parts.Tag = true
is_tag _ = false

-- what a macro prints itself is at the macro, which is in a line: no column of a line is beyond that limit
abbrev pub own_phrase : Place → List ℕ → Option Font → (before after : Join) → Phrase (List ℕ)
own_phrase place text font before after = record {
  text = text;
  column = min place.column (LINE + 1);
  is_quoted = false;
  is_line = false;
  is_written = false;
  font = font;
  before = before;
  after = after;
}

-- where rows are filled, a row may end within the words of what is written in the page, but for tags
abbrev pub splits : Phrase (List ℕ) → Context → Bool
splits p c = p.is_written && (not c.is_literal.value && not (is_tag c.part))

abbrev pub phrase_style : Phrase (List ℕ) → Context → TextStyle
phrase_style p c = record { is_quoted = p.is_quoted; is_literal = c.is_literal.value; is_line = p.is_line }

abbrev pub phrase_pen : Phrase (List ℕ) → Formatting → Pen
phrase_pen p s = record {
  fonts = own_fonts p.font s.context.fonts;
  column = p.column;
  gap = joined_gap p.before (s.line.ends_blank && not s.context.is_literal.value) (next_gap s);
  is_after_word = s.line.is_after_word;
  has_cell = false;
  is_cut = false;
  ends_blank = false;
  splits = splits p s.context;
}

-- ---- after its words

-- a font of its own leaves the fonts as they were; in the words of a font macro escapes set them, but not for good
abbrev pub kept_fonts : Option Font → Bool → Setting Fonts → Setting Fonts → Setting Fonts
kept_fonts (Some font) is_guarded before now = before
kept_fonts None is_guarded before now = record { value = now.value; is_set = if is_guarded then before.is_set else now.is_set }

abbrev pub context_after : Phrase (List ℕ) → Bool → Pen → Context → Context
context_after p is_guarded pen c = record c { fonts = kept_fonts p.font is_guarded c.fonts pen.fonts; has_row = c.has_row || pen.has_cell }

-- blanks at its end are at least one; there is none after its last word where there are to be none between words (`Sm off`)
abbrev pub end_gap : (spacing : Bool) → Pen → ℕ
end_gap spacing pen = if pen.ends_blank then max pen.gap 1 else if spacing then pen.gap else 0

abbrev pub is_text : PagePart → Bool
is_text parts.Text = true
is_text _ = false

-- the column of its line's last word, where rows are kept. That of a whole line is not needed: no white space without a word comes after it
abbrev pub last_after : Phrase (List ℕ) → Formatting → ℕ
last_after p s =
    if s.context.is_literal.value && not p.is_line then last_word p.column s.line.last_word (words_of p.is_quoted p.text) else s.line.last_word

abbrev pub state_after : Phrase (List ℕ) → Pen → Formatting → Formatting
state_after p pen s = record s {
  context = context_after p (is_some s.line.fonts_before) pen s.context;
  has_content = true;
  gap = joined_gap p.after (pen.ends_blank && not s.context.is_literal.value) (end_gap s.context.has_spacing.value pen);
  line = record s.line {
    has_words = true;
    has_row_words = s.line.has_row_words || is_text s.context.part;
    is_after_word = true;
    is_cut = pen.is_cut;
    ends_blank = pen.ends_blank;
    joins_next = false;
    last_word = last_after p s;
  };
}

-- ---- all of it; it may be of a heading

abbrev pub phrase_outcome : ℕ → Phrase (List ℕ) → Formatting → EventOutcome
phrase_outcome line p s = record {
  items = text_items (phrase_style p s.context) line s.line.last_word (phrase_pen p s) (words_of p.is_quoted p.text);
  state = state_after p (text_after (phrase_style p s.context) (phrase_pen p s) (words_of p.is_quoted p.text))
      (record s { heading = heading_further s.context.part p.is_quoted (phrase_pen p s).gap p.text s.heading });
}
