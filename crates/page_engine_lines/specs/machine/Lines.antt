-- A machine: what one source line of a page gives, and the page's end, as the code takes them. That all lines together give their block tree, and
-- then this end, is the law `tree_law`, and trust needs no reading of this. Source: roff(7), "LANGUAGE SYNTAX"; mandoc(1), "DIAGNOSTICS".
use Rattle.std.specs.Prelude.{ℕ, ◌+◌, nat_lt, List, [], ◌∷◌, ◌++◌, length, map, if◌then◌else◌, Bool}
use Rattle.page_core_base.specs.Bytes.{is_white}
use Rattle.page_core_base.specs.Rows.{Item, noted, says}
use Rattle.page_core_base.specs.declared.note_kinds.NoteKind.TheVariants.{TrailingBlank, NoBody}
use Rattle.page_roff_syntax.specs.Delimiters.{kept_len}
use Rattle.page_roff_source.specs.Runs as roff
use Rattle.page_roff_source.specs.machine.RoffLines as taking
use Rattle.page_roff_source.specs.Runs.{SourceLine}
use Rattle.page_engine_lines.specs.laws.Views as bodies
use Rattle.page_scopes_words.specs.Words.{at}
use Rattle.page_engine_lines.specs.Edges.{LinesEdge}
use Rattle.page_engine_lines.specs.machine.Given.{given_items, body_after}
use Rattle.std.specs.List.{flat_map}
use Rattle.page_core_base.specs.Messages.{Message}
use Rattle.page_core_base.specs.declared.places.Place.{Place}
use Rattle.page_scopes.specs.Bodies.{begins}
use Rattle.page_scopes.specs.laws.Views.{layout_tables}
use Rattle.page_scopes.specs.declared.layouts.Kept.{Kept}
use Rattle.page_scopes.specs.declared.layouts.LayoutState.{LayoutState}
use Rattle.page_scopes_tree.specs.machine.Nestings.{With, act, aside, with_asides, Beside, Sides, layout_with, beside, Layout, settled, edge, Nesting}
use Rattle.page_scopes_tree.specs.Ends.{TreeEdge}
use Rattle.page_scopes_tree.specs.laws.Views.{Step, comes, does, steps_of}
use Rattle.page_scopes_tree.specs.machine.Stacks.{framed, Fact, coming, scopes_nesting}
use Rattle.page_scopes_tree.specs.declared.acts.Act.TheVariants as acts
use Rattle.page_scopes_labels.specs.declared.labels.Label.{Label}
use Rattle.page_sets_lines.specs.declared.events.EventKind.{EventKind}
use Rattle.page_sets_lines.specs.declared.events.EventKind.TheVariants.{Leaf}
use Rattle.page_sets_lines.specs.declared.events.Event.{Event}
use Rattle.page_sets_lines.specs.declared.leaves.Leaf.TheVariants.{Prologue}
use Rattle.page_sets_names.specs.declared.macro_names.Prologue.{Prologue as PrologueName}
use Rattle.page_engine_lines.specs.Bodies.{BodyEdge, HeaderEdge, title_items, title_fields}
use Rattle.page_engine_lines.specs.Trees.{header_at}
use Rattle.page_engine_lines.specs.Trees as page

abbrev pub source_line : List ℕ → ℕ → SourceLine
source_line text number = record { text = text; number = number; notes = [] }

-- white space at a line's end
abbrev pub trailing_notes : ℕ → List ℕ → List Item
trailing_notes number text =
    if nat_lt (kept_len is_white text) (length text) then says TrailingBlank (at number (kept_len is_white text + 1)) [] ∷ [] else []

-- a source line: what roff gives of it goes through the macros, one after another
unfoldable pub source_items : LinesEdge → ℕ → List ℕ → List Item
source_items e number text = trailing_notes number text ++ given_items e.body (taking.line_given e.roff (source_line text number))

abbrev pub source_after : LinesEdge → ℕ → List ℕ → LinesEdge
source_after e number text = record {
  roff = taking.line_done e.roff (source_line text number);
  body = body_after e.body (taking.line_given e.roff (source_line text number));
}

-- the end of a page, after the line of a number: what roff left open, and then the body's end
unfoldable pub end_items : LinesEdge → ℕ → List Item
end_items e line = map noted (roff.end_notes e.roff) ++ bodies.end_items e.body line

-- ---- A machine: the block tree of a body by that of any language (`page_scopes_tree`), with its messages, the macros of its prologue and its late header as
-- asides among the acts of its events. That it gives what the definitions say is the law `machine_law`; trust needs no reading of it.

-- what is among the acts of events: a message; a macro of the prologue, with the rest of its line; the page's end, on a line, before its scopes end
pub data Aside : Type 0 where
  reports : Message → Aside
  titles : Place → PrologueName → List ℕ → Aside
  closes : ℕ → Aside

-- ---- the acts of events

-- a macro of the prologue sets the fields, even where events are passed over
abbrev pub kind_steps : EventKind (List ℕ) → Event (List ℕ) → List (With Aside Step)
kind_steps (Leaf (Prologue name rest)) event = aside (titles event.place name rest) ∷ []
kind_steps _ event = map act (steps_of event)

abbrev pub events_steps : List (Event (List ℕ)) → List (With Aside Step)
events_steps events = flat_map (λ (event : Event (List ℕ)). kind_steps event.kind event) events

-- a step of a page as an act or what is beside it
abbrev pub as_act : page.Step → With Aside Step
as_act (page.reports m) = aside (reports m)
as_act (page.titles place name rest) = aside (titles place name rest)
as_act (page.comes event) = act (comes event)
as_act (page.does a) = act (does a)
as_act (page.closes line) = aside (closes line)

-- the page's end on a line
abbrev pub page_end_steps : ℕ → List (With Aside Step)
page_end_steps line = aside (closes line) ∷ act (does (acts.PageEnd line)) ∷ []

-- ---- what they give

-- the header is before the event that begins the body
abbrev pub before_fact : Fact → HeaderEdge → LayoutState → List Item
before_fact (coming event) h s = if begins event.kind s.has_begun then header_at event.place.line h else []
before_fact _ h s = []

-- at the page's end a header that is missing comes with a message
abbrev pub aside_items : Aside → HeaderEdge → LayoutState → List Item
aside_items (reports m) h s = noted m ∷ []
aside_items (titles place name rest) h s = title_items s.has_begun place name rest
aside_items (closes line) h s = if s.has_begun then [] else (header_at line h ++ says NoBody (at line 1) [] ∷ [])

abbrev pub aside_header : Aside → HeaderEdge → LayoutState → HeaderEdge
aside_header (titles place name rest) h s =
    record h { fields = title_fields s.has_begun name h.os rest h.fields }
aside_header _ h s = h

abbrev pub body_sides : Sides Aside Step Fact HeaderEdge LayoutState Item
body_sides = record {
  before = λ f h s. before_fact f h s;
  items = λ y h s. aside_items y h s;
  own = λ y h s. aside_header y h s;
  in_place = λ y. does (acts.PageEnd 0);
}

-- ---- the block tree of a body

abbrev pub body_nesting : Nesting Bool Label (With Aside Step) (With Aside Fact)
body_nesting = with_asides scopes_nesting

abbrev pub body_layout : Layout Label (With Aside Step) (With Aside Fact) (Beside HeaderEdge LayoutState) Kept Item
body_layout = layout_with (framed layout_tables) body_sides

-- the open scopes of a body, with its header beside the state of their layout, and the body that they are of
abbrev pub opened : BodyEdge → TreeEdge Bool Label (Beside HeaderEdge LayoutState) Kept
opened b = beside b.header b.scopes

abbrev pub body_of : TreeEdge Bool Label (Beside HeaderEdge LayoutState) Kept → BodyEdge
body_of d = record { header = d.state.own; scopes = record { mode = d.mode; scopes = d.scopes; state = d.state.rest } }

-- the pieces and messages of the block tree of all acts, inside the open scopes
abbrev pub tree_items : BodyEdge → List (With Aside Step) → List Item
tree_items b steps = settled body_nesting body_layout (opened b) steps

-- what decides those of the acts to come
abbrev pub tree_after : BodyEdge → List (With Aside Step) → BodyEdge
tree_after b steps = body_of (edge body_nesting body_layout (opened b) steps)
