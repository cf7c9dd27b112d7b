-- What the block tree of a page's steps gives and leaves, by that of the machine: helpers of proofs.
use Rattle.std.proofs.Common.{◌≡◌, ℕ, true, List, [], ◌∷◌, ◌++◌, map, refl, sym, ap, ◌∙◌, Bool, false, Option, None, Some}
use Rattle.std.proofs.lemmas.List.{map-append}
use Rattle.page_core_base.specs.Messages.{Message}
use Rattle.page_core_base.specs.Rows.{Item, noted}
use Rattle.page_engine_lines.specs.Bodies.{BodyEdge, chosen_if}
use Rattle.page_engine_lines.specs.laws.Views.{end_items, events_after, events_items, has_begun}
use Rattle.page_engine_lines.specs.Trees.{Step, reports, kind_steps, events_steps, page_end_steps, tree_items, tree_after}
use Rattle.page_engine_lines.specs.machine.Lines as machine
use Rattle.page_engine_lines.specs.machine.Lines.{Aside, as_act}
use Rattle.page_engine_lines.proofs.BodySharedLemmas as shared
use Rattle.page_engine_lines.proofs.BodySharedLemmas.{shared_of, Shared, sharing}
use Rattle.page_engine_lines.proofs.BodyTreeLemmas as trees
use Rattle.page_engine_lines.proofs.LaySameLemmas.{tree_items_law, tree_after_law}
use Rattle.page_scopes_tree.specs.laws.Views as acts
use Rattle.page_scopes_tree.specs.machine.Nestings.{With}
use Rattle.page_sets_lines.specs.declared.events.Event.{Event}
use Rattle.page_sets_lines.specs.declared.events.EventKind.{EventKind}
use Rattle.page_sets_lines.specs.declared.events.EventKind.TheVariants.{Leaf}
use Rattle.page_sets_lines.specs.declared.leaves.Leaf.TheVariants.{Prologue}
use Rattle.std.specs.Prelude.{if◌then◌else◌}
use Rattle.page_core_base.specs.declared.page_settings.Output.{Output}
use Rattle.page_roff_effects.specs.States.{Given}
use Rattle.page_roff_source.specs.Runs.{SourceLine, given}
use Rattle.page_engine_lines.specs.Acts.{first_language, front_steps, lines_after, reader, rest_steps}
use Rattle.page_engine_lines.specs.Edges.{LinesEdge}
use Rattle.page_sets.specs.declared.either.Either.{Either}

abbrev Acts : Type 0
Acts = List (With Aside acts.Step)

-- of other acts that are the same
items_by : (b : BodyEdge) (steps : List Step) (same : Acts) → map as_act steps ≡ same → tree_items b steps ≡ machine.tree_items b same
items_by b steps same h = sym (tree_items_law b steps) ∙ ap (λ (x : Acts). machine.tree_items b x) h

after_by : (b : BodyEdge) (steps : List Step) (same : Acts) → map as_act steps ≡ same → tree_after b steps ≡ machine.tree_after b same
after_by b steps same h = sym (tree_after_law b steps) ∙ ap (λ (x : Acts). machine.tree_after b x) h

-- ---- cut anywhere

pub items-append : (b : BodyEdge) (above below : List Step) → tree_items b (above ++ below) ≡ tree_items b above ++ tree_items (tree_after b above) below
items-append b above below =
    items_by b (above ++ below) (map as_act above ++ map as_act below) (map-append as_act above below)
    ∙ trees.tree_items-append b (map as_act above) (map as_act below)
    ∙ ap (λ (c : BodyEdge). machine.tree_items b (map as_act above) ++ machine.tree_items c (map as_act below)) (tree_after_law b above)
    ∙ ap (λ (t : List Item). t ++ machine.tree_items (tree_after b above) (map as_act below)) (tree_items_law b above)
    ∙ ap (λ (t : List Item). tree_items b above ++ t) (tree_items_law (tree_after b above) below)

pub after-append : (b : BodyEdge) (above below : List Step) → tree_after b (above ++ below) ≡ tree_after (tree_after b above) below
after-append b above below =
    after_by b (above ++ below) (map as_act above ++ map as_act below) (map-append as_act above below)
    ∙ trees.tree_after-append b (map as_act above) (map as_act below)
    ∙ ap (λ (c : BodyEdge). machine.tree_after c (map as_act below)) (tree_after_law b above)
    ∙ tree_after_law (tree_after b above) below

pub items-none : (b : BodyEdge) → tree_items b [] ≡ []
items-none b = items_by b [] [] refl ∙ trees.tree_items-none b

pub after-none : (b : BodyEdge) → tree_after b [] ≡ b
after-none b = after_by b [] [] refl ∙ trees.tree_after-none b

-- ---- what steps give

pub message_items : (b : BodyEdge) (m : Message) → tree_items b (reports m ∷ []) ≡ noted m ∷ []
message_items b m = items_by b (reports m ∷ []) (as_act (reports m) ∷ []) refl ∙ trees.aside_items_is b (machine.reports m)

pub message_after : (b : BodyEdge) (m : Message) → tree_after b (reports m ∷ []) ≡ b
message_after b m = after_by b (reports m ∷ []) (as_act (reports m) ∷ []) refl ∙ trees.aside_after_is b (machine.reports m)

kind_same : (kind : EventKind (List ℕ)) (event : Event (List ℕ)) → map as_act (kind_steps kind event) ≡ machine.kind_steps kind event
kind_same (Leaf (Prologue name rest)) event = refl
kind_same _ event = refl

events_same : (events : List (Event (List ℕ))) → map as_act (events_steps events) ≡ machine.events_steps events
events_same [] = refl
events_same (event ∷ events) =
    map-append as_act (kind_steps event.kind event) (events_steps events)
    ∙ ap (λ (more : Acts). map as_act (kind_steps event.kind event) ++ more) (events_same events)
    ∙ ap (λ (first : Acts). first ++ machine.events_steps events) (kind_same event.kind event)

pub events_tree_items : (b : BodyEdge) (events : List (Event (List ℕ))) → tree_items b (events_steps events) ≡ events_items b events
events_tree_items b events =
    items_by b (events_steps events) (machine.events_steps events) (events_same events) ∙ trees.events_tree_items b events

pub events_tree_after : (b : BodyEdge) (events : List (Event (List ℕ))) → tree_after b (events_steps events) ≡ events_after b events
events_tree_after b events =
    after_by b (events_steps events) (machine.events_steps events) (events_same events) ∙ trees.events_tree_after b events

pub end_tree : (b : BodyEdge) (line : ℕ) → tree_items b (page_end_steps line) ≡ end_items b line
end_tree b line = items_by b (page_end_steps line) (machine.page_end_steps line) refl ∙ trees.end_tree b line

-- ---- what steps leave as it was

pub tree_shared : (b : BodyEdge) (steps : List Step) → shared_of (tree_after b steps) ≡ shared_of b
tree_shared b steps = ap shared_of (sym (tree_after_law b steps)) ∙ shared.tree_shared b (map as_act steps)

pub tree_title : (b : BodyEdge) (steps : List Step) → has_begun b ≡ true → b.header.is_decided ≡ true
    → (tree_after b steps).header.fields ≡ b.header.fields
tree_title b steps begun decided =
    ap (λ (c : BodyEdge). c.header.fields) (sym (tree_after_law b steps)) ∙ shared.tree_title b (map as_act steps) begun decided

-- ---- What the lines of a page leave as it was: the measure of rows, but for the indent of its language, and the system of the settings; and the scopes
-- have the indent and the output of the measure: helpers of proofs.

module _ (width : ℕ) (output : Output) (indent : Option ℕ) (os : List ℕ) where
  abbrev pub IsShared : BodyEdge → Type 0
  IsShared b = shared_of b ≡ sharing width output indent os b.header.set

  tree_is_shared : (b : BodyEdge) (steps : List Step) → IsShared b → IsShared (tree_after b steps)
  tree_is_shared b steps h =
      let k = tree_shared b steps in
      k ∙ h ∙ ap (λ (s : Shared). sharing width output indent os s.set) (sym k)

  -- once the language is decided, the indent is its own
  chosen_is_shared : (b : BodyEdge) (set : Option Either) → IsShared b → IsShared (chosen_if b set)
  chosen_is_shared b None h = h
  chosen_is_shared b (Some set) h = ap (λ (s : Shared). sharing s.measure.width s.measure.output s.indent s.os set) h

  either_is_shared : (first : Bool) (b c : BodyEdge) → IsShared b → IsShared c → IsShared (if first then b else c)
  either_is_shared true b c h g = h
  either_is_shared false b c h g = g

  reader_is_shared : (b : BodyEdge) (all : List Given) → IsShared b → IsShared (reader b all)
  reader_is_shared b all h =
      let c = tree_after b (front_steps b all) in
      either_is_shared b.header.is_decided b (chosen_if c (first_language all)) h
      (chosen_is_shared c (first_language all) (tree_is_shared b (front_steps b all) h))

  pub lines_shared : (e : LinesEdge) (lines : List SourceLine) → IsShared e.body → IsShared (lines_after e lines).body
  lines_shared e lines h =
      let all = given e.roff lines in
      tree_is_shared (reader e.body all) (rest_steps e.body all) (reader_is_shared e.body all h)
