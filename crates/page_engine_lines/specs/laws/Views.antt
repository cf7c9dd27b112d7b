-- What contracts of the code say by the definitions, and what is proved of these.
use Rattle.std.specs.Prelude.{ℕ, List, Bool, ◌&&◌, [], if◌then◌else◌, ◌++◌, ◌∷◌, ◌≡◌, ◌≤◌, length}
use Rattle.page_core_base.specs.Limits.{FIELD}
use Rattle.page_core_base.specs.Rows.{Item, says}
use Rattle.page_core_base.specs.Texts.{TakenLine}
use Rattle.page_core_base.specs.laws.Views.{Came}
use Rattle.page_core_base.specs.declared.note_kinds.NoteKind.TheVariants.{NoBody}
use Rattle.page_sets_names.specs.declared.macro_names.Prologue.{Prologue as PrologueName}
use Rattle.page_sets_lines.specs.Lines.{event_at, line_start, plain_kind}
use Rattle.page_sets_lines.specs.declared.events.Event.{Event}
use Rattle.page_sets_lines.specs.declared.events.EventKind.{EventKind}
use Rattle.page_sets_lines.specs.declared.events.EventKind.TheVariants.{Leaf}
use Rattle.page_sets_lines.specs.declared.leaves.Leaf.TheVariants.{Prologue}
use Rattle.page_sets_lines.specs.declared.plain_lines.PlainLine.{PlainLine}
use Rattle.page_scopes_words.specs.Words.{at}
use Rattle.page_scopes.specs.Bodies.{PageEdge}
use Rattle.page_scopes.specs.laws.Views as scopes
use Rattle.page_scopes.specs.laws.Views.{ScopesFit}
use Rattle.page_engine_header.specs.Header.{header_items}
use Rattle.page_engine_header.specs.declared.fields.Fields.{Fields}
use Rattle.page_engine_lines.specs.Acts.{end_steps}
use Rattle.page_engine_lines.specs.Bodies.{BodyEdge, is_mdoc, title_items, title_fields, chosen_if, language_of}
use Rattle.page_engine_lines.specs.Edges.{LinesEdge}
use Rattle.page_engine_lines.specs.Trees.{tree_items}

-- the pieces and messages of the page's end alone, on a line
abbrev pub ending_items : LinesEdge → ℕ → List Item
ending_items e line = tree_items e.body (end_steps e.roff line)

-- whether the body began
abbrev pub has_begun : BodyEdge → Bool
has_begun b = b.scopes.state.has_begun

-- Whether the title is settled: the body began, and the language is decided. A macro of the title comes too late then.
abbrev pub has_title : BodyEdge → Bool
has_title b = b.header.is_decided && has_begun b

-- the header is before the event that begins the body
abbrev pub header_of : BodyEdge → ℕ → List Item
header_of b line = header_items (is_mdoc b.header.set) b.header.measure (at line 1) b.header.fields

abbrev pub begin_items : BodyEdge → Event (List ℕ) → List Item
begin_items b event =
    if scopes.begins_body b.scopes event then header_of b event.place.line else []

-- ---- events

abbrev pub with_scopes : BodyEdge → PageEdge → BodyEdge
with_scopes b edge = record { header = b.header; scopes = edge }

abbrev pub scope_items : BodyEdge → Event (List ℕ) → List Item
scope_items b event = begin_items b event ++ scopes.event_items b.scopes event

-- a macro of the prologue sets the fields, and is nothing to the scopes
abbrev pub kind_items : EventKind (List ℕ) → BodyEdge → Event (List ℕ) → List Item
kind_items (Leaf (Prologue name rest)) b event = title_items (has_begun b) event.place name rest
kind_items _ b event = scope_items b event

abbrev pub with_title : BodyEdge → PrologueName → List ℕ → BodyEdge
with_title b name rest =
    record {
      header = record b.header { fields = title_fields (has_begun b) name b.header.os rest b.header.fields };
      scopes = b.scopes;
    }

abbrev pub kind_after : EventKind (List ℕ) → BodyEdge → Event (List ℕ) → BodyEdge
kind_after (Leaf (Prologue name rest)) b event = with_title b name rest
kind_after _ b event = with_scopes b (scopes.event_after b.scopes event)

unfoldable pub event_items : BodyEdge → Event (List ℕ) → List Item
event_items b event = kind_items event.kind b event

unfoldable pub event_after : BodyEdge → Event (List ℕ) → BodyEdge
event_after b event = kind_after event.kind b event

unfoldable pub events_items : BodyEdge → List (Event (List ℕ)) → List Item
events_items b [] = []
events_items b (event ∷ events) = event_items b event ++ events_items (event_after b event) events

unfoldable pub events_after : BodyEdge → List (Event (List ℕ)) → BodyEdge
events_after b [] = b
events_after b (event ∷ events) = events_after (event_after b event) events

-- an event was given: its pieces and messages came to a latch, and the body is at the edge after it
pub record GivesEvent {P O : Type 0} (left : P → O → List Item → Type 0) (event : Event (List ℕ)) (old : BodyEdge) (out : O)
    (new : BodyEdge) (next : O) : Type 0 where
  pub came : Came left out (event_items old event) next
  pub after : new ≡ event_after old event

-- events were given, one after another
pub record GivesEvents {P O : Type 0} (left : P → O → List Item → Type 0) (events : List (Event (List ℕ))) (old : BodyEdge) (out : O)
    (new : BodyEdge) (next : O) : Type 0 where
  pub came : Came left out (events_items old events) next
  pub after : new ≡ events_after old events

-- what a line that is no control line does, before it ends
abbrev pub plain_event : ℕ → List ℕ → PlainLine → Event (List ℕ)
plain_event number text line = event_at (line_start number) (plain_kind line text)

-- ---- the page's end, after the line of a number

-- without a body the header comes at last, with a message
abbrev pub late_header : BodyEdge → ℕ → List Item
late_header b line =
    if has_begun b then [] else (header_of b line ++ says NoBody (at line 1) [] ∷ [])

unfoldable pub end_items : BodyEdge → ℕ → List Item
end_items b line = late_header b line ++ scopes.end_items b.scopes line

-- the body for a line, which decides the language unless one is decided
abbrev pub decided : BodyEdge → TakenLine → BodyEdge
decided b line = if b.header.is_decided then b else chosen_if b (language_of line)

-- the fields of header and footer
pub record FieldsFit (fields : Fields) : Type 0 where
  pub title : length fields.title ≤ FIELD
  pub section : length fields.section ≤ FIELD
  pub date : length fields.date ≤ FIELD
  pub source : length fields.source ≤ FIELD
  pub volume : length fields.volume ≤ FIELD

-- these; the bytes of the system's name; and the open scopes, with the targets of links and the widths of lists
pub record BodyFits (b : BodyEdge) : Type 0 where
  pub os : length b.header.os ≤ FIELD
  pub fields : FieldsFit b.header.fields
  pub scopes : ScopesFit b.scopes
