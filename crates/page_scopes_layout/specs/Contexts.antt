-- The context of a text: its margins, the one in which a scope begins, and what stays of it after the scope. Source: man(7), mdoc(7).
use Rattle.std.specs.Prelude.{ℕ, if◌then◌else◌, ℤ, pos, int_lt, nat_abs, ◌+ℤ◌, Bool, false, Option, Some, None, true, ◌||◌, unwrap_or}
use Rattle.page_core_base.specs.declared.cells.Font.{Font}
use Rattle.page_core_base.specs.declared.cells.Font.TheVariants.{R, B}
use Rattle.page_sets_lines.specs.declared.blocks.Block.TheVariants as blocks
use Rattle.page_sets_lines.specs.declared.lists.ListKind.{ListKind}
use Rattle.page_sets_lines.specs.declared.lists.ListKind.TheVariants as kinds
use Rattle.page_sets_lines.specs.declared.openers.LineOpener.TheVariants as lines
use Rattle.page_scopes_labels.specs.Labels.{is_list, label_row}
use Rattle.page_scopes_labels.specs.declared.labels.Explicit.TheVariants.{Block}
use Rattle.page_scopes_labels.specs.declared.labels.Label.{Label}
use Rattle.page_scopes_labels.specs.declared.labels.Label.TheVariants as labels
use Rattle.page_scopes_words.specs.Fonts.{at_first, roman_fonts, after_scope, entered, set_to, with_font}
use Rattle.page_scopes_layout.specs.declared.contexts.Context.{Context}
use Rattle.page_scopes_layout.specs.declared.contexts.PagePart.{PagePart}
use Rattle.page_scopes_layout.specs.declared.contexts.PagePart.TheVariants as parts
use Rattle.page_scopes_layout.specs.declared.contexts.PagePart.TheVariants.{Text}
use Rattle.page_scopes_layout.specs.declared.contexts.PageSection.TheVariants.{Other}
use Rattle.page_scopes_layout.specs.declared.contexts.SeriesSoFar.TheVariants.{Outside}
use Rattle.page_scopes_layout.specs.declared.lists.OpenList.{OpenList}
use Rattle.page_scopes_layout.specs.declared.margins.Margins.{Margins}

-- ---- The margins of rows. Source: man(7), "MACRO OVERVIEW"; roff(7), `in`.

-- the columns at most of a margin
abbrev pub MARGIN : ℕ
MARGIN = 1_000

-- a margin is held to 0 to so many columns
abbrev pub hold : ℤ → ℕ
hold columns = if int_lt columns (pos 0) then 0 else if int_lt (pos MARGIN) columns then MARGIN else nat_abs columns

-- a margin that is a hang, and some columns more, further in
abbrev pub further_in : ℕ → ℤ → ℤ → ℕ
further_in margin hang more = hold (pos margin +ℤ hang +ℤ more)

-- the text of a paragraph is its hang further in, and the shift of `in`
abbrev pub rest_margin : Context → ℕ
rest_margin c = further_in c.margin c.hang c.shift.value

abbrev pub same_margins : ℕ → Margins
same_margins column = record { first = column; rest = column }

-- before its first row has begun a paragraph may have a margin of its own for it
abbrev pub part_margins : PagePart → Option ℕ → Bool → Context → Margins
part_margins (parts.Heading column) first has_row c = same_margins column
part_margins _ (Some first) false c = record { first = hold (pos first +ℤ c.shift.value); rest = rest_margin c }
part_margins _ first has_row c = same_margins (rest_margin c)

abbrev pub margins : Context → Margins
margins c = part_margins c.part c.first c.has_row c

-- ---- The context of a text, and what stays of it after a scope. Source: man(7), "MACRO OVERVIEW"; mdoc(7), `Bl`, `Rs`, `Fo`, `Sm`.

-- the prevailing indent, in columns, of a section, a relative margin and a plain paragraph
abbrev pub PREVAILING : ℤ
PREVAILING = pos 7

-- before the first line of a page: at its indent, filled, in R
abbrev pub start : ℕ → Context
start page_indent = record {
  list = None;
  margin = page_indent;
  hang = pos 0;
  first = None;
  has_row = true;
  part = Text;
  prevailing = PREVAILING;
  fonts = at_first roman_fonts;
  is_literal = at_first false;
  shift = at_first (pos 0);
  distance = at_first 1;
  fields = Outside;
  arguments = Outside;
  has_spacing = at_first true;
  section = Other;
}

abbrev pub is_diag : ListKind → Bool
is_diag kinds.Diag = true
is_diag _ = false

-- the head of an item of a list of messages (`-diag`) leaves the fonts as they were before it
abbrev pub is_message : Label → Option OpenList → Bool
is_message (labels.Line lines.Head) (Some list) = is_diag list.kind
is_message _ _ = false

-- a reference (`Rs`) has fields of its own
abbrev pub owns_fields : Label → Bool
owns_fields (labels.Explicit (Block blocks.Reference)) = true
owns_fields _ = false

-- a function (`Fo`) has arguments of its own
abbrev pub owns_arguments : Label → Bool
owns_arguments (labels.Explicit (Block blocks.Function)) = true
owns_arguments _ = false

-- Margins, hang, part and section are those before the scope, and so are the prevailing indent and the fonts where the label's row says it; a row that
-- has begun has begun; what a request or an escape set stays.
abbrev pub restored : Label → Context → Context → Context
restored label before now = record {
  list = if is_list label then before.list else now.list;
  margin = before.margin;
  hang = before.hang;
  first = before.first;
  has_row = before.has_row || now.has_row;
  part = before.part;
  prevailing = if (label_row label).owns_prevailing then before.prevailing else now.prevailing;
  fonts = if (label_row label).guards_fonts || is_message label before.list then before.fonts else after_scope before.fonts now.fonts;
  is_literal = after_scope before.is_literal now.is_literal;
  shift = after_scope before.shift now.shift;
  distance = after_scope before.distance now.distance;
  fields = if owns_fields label then before.fields else now.fields;
  arguments = if owns_arguments label then before.arguments else now.arguments;
  has_spacing = after_scope before.has_spacing now.has_spacing;
  section = before.section;
}

-- ---- The context in which a scope begins. Source: man(7), "MACRO OVERVIEW"; mdoc(7), "MACRO REFERENCE".

-- at the front of a scope nothing is set in it yet
abbrev pub entered_context : Context → Context
entered_context c = record c {
  fonts = entered c.fonts;
  is_literal = entered c.is_literal;
  shift = entered c.shift;
  distance = entered c.distance;
  has_spacing = entered c.has_spacing;
}

-- paragraphs and headings begin in R, without a shift
abbrev pub reset : Context → Context
reset c = record c { fonts = set_to roman_fonts; shift = set_to (pos 0) }

-- no paragraph is further in
abbrev pub flat : Context → Context
flat c = record c { hang = pos 0; first = None }

-- a section (`SH`, `SS`, `Sh`, `Ss`) is at the page's indent, filled
abbrev pub subsection_begun : ℕ → Context → Context
subsection_begun page_indent c = record (flat (reset c)) {
  margin = page_indent;
  part = parts.Text;
  prevailing = PREVAILING;
  is_literal = set_to false;
}

-- a heading (of `SH`, `SS`, `Sh`, `Ss`) is at its column, bold
abbrev pub heading_begun : ℕ → Context → Context
heading_begun column c = record c {
  part = parts.Heading column;
  fonts = record { value = record { font = B; former = R }; is_set = c.fonts.is_set };
}

-- the text is the prevailing indent further in (`TP`, `IP`), and an indent that is given prevails from here on
abbrev pub indented_begun : Option ℤ → Context → Context
indented_begun columns c = record (flat (reset c)) { prevailing = unwrap_or columns c.prevailing; hang = unwrap_or columns c.prevailing }

-- the first row is at the margin
abbrev pub first_at_margin : Context → Context
first_at_margin c = record c { first = Some c.margin; has_row = false }

-- a font macro's words (`B`, `I`, `SM`, `SB`) are in its font; what `\fP` goes back to is the font before them
abbrev pub font_begun : Font → Context → Context
font_begun font c = record c { fonts = record { value = with_font font c.fonts.value; is_set = c.fonts.is_set } }

abbrev pub margin_begun : Option ℤ → Context → Context
margin_begun columns c = record (flat c) {
  margin = hold (pos c.margin +ℤ unwrap_or columns c.prevailing);
  prevailing = PREVAILING;
}

-- where the text of a paragraph is, without the shift
abbrev pub text_margin : Context → ℕ
text_margin c = hold (pos c.margin +ℤ c.hang)

-- the words of a synopsis (`SY`) are after the command's name, which is its tag
abbrev pub syntax_begun : (at hang : ℕ) → Context → Context
syntax_begun at hang c = record (flat c) { margin = hold (pos at +ℤ pos hang) }

-- a display (`Bd`) is this many columns further in than the text; its rows are kept as they are, or filled
abbrev pub display_begun : Bool → ℤ → Context → Context
display_begun is_literal offset c = record (flat c) {
  margin = further_in c.margin c.hang offset;
  is_literal = record { value = is_literal; is_set = c.is_literal.is_set };
}

-- a block's words (`Bf`) are in its font, where it names one
abbrev pub font_if_given : Option Font → Context → Context
font_if_given None c = c
font_if_given (Some font) c = font_begun font c

-- its words have ended: later rows are further in by their columns
abbrev pub name_ended : ℕ → Context → Context
name_ended columns c = record c { hang = pos columns }
