-- The events of a line, one after another.
use Rattle.std.proofs.Common.{◌≡◌, ℕ, List, [], ◌∷◌, ◌++◌, ap, append-nil, refl, Bool, true, Option, ◌∙◌, sym, append_assoc, None, Some, MatchOption, suc, ◌≤◌, length, arith}
use Rattle.page_engine_lines.specs.Bodies.{BodyEdge, HeaderEdge, indent_of, title_fields}
use Rattle.page_engine_lines.specs.laws.Views.{event_after, event_items, events_after, events_items, has_begun, GivesEvent}
use Rattle.page_sets_lines.specs.declared.events.Event.{Event}
use Rattle.page_core_base.specs.declared.page_settings.Output.{Output}
use Rattle.page_engine_header.specs.declared.fields.Fields.{Fields}
use Rattle.page_engine_header.specs.declared.headers.Measure.{Measure}
use Rattle.page_scopes.specs.Bodies.{begun_after}
use Rattle.page_scopes.specs.declared.layouts.LayoutState.{LayoutState}
use Rattle.page_scopes_tree.specs.machine.Nestings.{With, act, aside, Beside, Ender, by_act, still_open, Forest, none, leaf, node, After, Rest, tree, Layout, scope_of, closing_state, after, after_outer, after_rest, edge}
use Rattle.page_scopes_tree.specs.laws.Views.{labels, Step}
use Rattle.page_scopes_tree.specs.declared.nestings.Scope.{Scope}
use Rattle.page_scopes_tree.specs.machine.Stacks.{Fact, coming, standing, refused}
use Rattle.page_sets.specs.declared.either.Either.{Either}
use Rattle.page_sets_lines.specs.declared.events.EventKind.{EventKind}
use Rattle.page_sets_names.specs.declared.macro_names.Prologue.{Prologue}
use Rattle.page_engine_lines.specs.machine.Lines.{Aside, reports, titles, closes, body_layout, body_nesting, opened, tree_after}
use Rattle.std.specs.Borrow.{GName}
use Rattle.page_core_base.specs.laws.Views.{Came, CameUpTo}
use Rattle.page_core_base.specs.Rows.{Item, noted}
use Rattle.page_engine_lines.specs.machine.Given.{LeftEvents, PlannedEvents, given_items, line_items, line_after, body_after}
use Rattle.std.specs.Prelude.{map}
use Rattle.page_core_base.specs.Texts.{TakenLine}
use Rattle.page_core_base.specs.Messages.{Message}
use Rattle.page_roff_effects.specs.States.{Given, says, takes}
use Rattle.page_roff_source.specs.Runs.{RoffEdge}
use Rattle.page_roff_source.specs.laws.Views.{given_of, line_taken}
use Rattle.page_roff_machine.specs.Giving.{notes_before, next_line, after_line}
use Rattle.page_sets_lines.specs.declared.plain_lines.PlainLine.{PlainLine}
use Rattle.page_sets_lines.specs.Lines.{plain_events, plain_line}
use Rattle.page_sets.specs.Mdoc.{either_events, control_events as mdoc_control_events, mdoc_events}
use Rattle.page_sets.specs.declared.either.Either.TheVariants as sets
use Rattle.page_sets.specs.Man.{control_events as man_control_events, man_events}
use Rattle.std.specs.Option.{option_map_or}

pub items_more : (b : BodyEdge) (event : Event (List ℕ)) (others : List (Event (List ℕ)))
    → events_items b (event ∷ others) ≡ event_items b event ++ events_items (event_after b event) others
unfolding events_items
items_more b event others = refl

pub after_more : (b : BodyEdge) (event : Event (List ℕ)) (others : List (Event (List ℕ)))
    → events_after b (event ∷ others) ≡ events_after (event_after b event) others
unfolding events_after
after_more b event others = refl

pub items_none : (b : BodyEdge) → events_items b [] ≡ []
unfolding events_items
items_none b = refl

pub after_none : (b : BodyEdge) → events_after b [] ≡ b
unfolding events_after
after_none b = refl

-- two events and no more

pub two_items : (b : BodyEdge) (first last : Event (List ℕ))
    → events_items b (first ∷ last ∷ []) ≡ event_items b first ++ event_items (event_after b first) last
unfolding events_items
two_items b first last = ap (λ l. event_items b first ++ l) (append-nil (event_items (event_after b first) last))

pub two_after : (b : BodyEdge) (first last : Event (List ℕ))
    → events_after b (first ∷ last ∷ []) ≡ event_after (event_after b first) last
unfolding events_after
two_after b first last = refl

-- ---- What the block tree of a body leaves as it was: the measure of rows, the indent and the system of the settings, and the set of macros; and the
-- scopes' indent and output; and, once the body has begun, the title: helpers of proofs.

-- ---- block trees

-- what the tables of a layout keep of a state
record KeepsStates {L A F S B I : Type 0} (lays : Layout L A F S B I) (P : S → Type 0) : Type 0 where
  begins : (l : L) (a : A) (s : S) → P s → P (lays.begin_state l a s)
  leaves : (f : F) (s : S) → P s → P (lays.leaf_state f s)
  ends : (l : L) (b : B) (a : A) (s : S) → P s → P (lays.end_state l b a s)

module _ {L A F S B I : Type 0} (lays : Layout L A F S B I) (P : S → Type 0) (k : KeepsStates lays P) where
  closing_keeps : (scope : Scope L B) (x : Ender A) (s : S) → P s → P (closing_state lays scope x s)
  closing_keeps scope (by_act a) s h = k.ends scope.label scope.before a s h
  closing_keeps scope still_open s h = h

  forest_keeps : (x : Forest L A F) (s : S) → P s → P (after lays x s)
  forest_keeps none s h = h
  forest_keeps (leaf f next) s h = forest_keeps next (lays.leaf_state f s) (k.leaves f s h)
  forest_keeps (node l a inner x next) s h =
      let t = after lays inner (lays.begin_state l a s) in
      forest_keeps next (closing_state lays (scope_of lays l a s) x t)
      (closing_keeps (scope_of lays l a s) x t (forest_keeps inner (lays.begin_state l a s) (k.begins l a s h)))

  outer_keeps : (scopes : List (Scope L B)) (outer : List (After L A F)) (s : S) → P s → P (after_outer lays scopes s outer)
  outer_keeps scopes [] s h = h
  outer_keeps [] (next ∷ outer) s h = h
  outer_keeps (scope ∷ scopes) (next ∷ outer) s h =
      let t = closing_state lays scope next.ender s in
      outer_keeps scopes outer (after lays next.siblings t) (forest_keeps next.siblings t (closing_keeps scope next.ender s h))

  rest_keeps : (scopes : List (Scope L B)) (s : S) (r : Rest L A F) → P s → P (after_rest lays scopes s r)
  rest_keeps scopes s r h = outer_keeps scopes r.outer (after lays r.here s) (forest_keeps r.here s h)

-- ---- the body of a page

-- what is at several places of a body's edge, or is of the settings
pub record Shared : Type 0 where
  pub measure : Measure
  pub indent : Option ℕ
  pub set : Either
  pub os : List ℕ
  -- of the scopes
  pub scopes_indent : ℕ
  pub scopes_output : Output

abbrev pub shared_in : HeaderEdge → LayoutState → Shared
shared_in h s = record { measure = h.measure; indent = h.indent; set = h.set; os = h.os; scopes_indent = s.page.indent; scopes_output = s.page.output }

abbrev pub shared_of : BodyEdge → Shared
shared_of b = shared_in b.header b.scopes.state

-- of a page with this width, this output, and the settings' indent and system
abbrev pub sharing : ℕ → Output → Option ℕ → List ℕ → Either → Shared
sharing width output indent os set = record {
  measure = record { width = width; indent = indent_of indent set; output = output };
  indent = indent;
  set = set;
  os = os;
  scopes_indent = indent_of indent set;
  scopes_output = output;
}

abbrev pub shared_beside : Beside HeaderEdge LayoutState → Shared
shared_beside s = shared_in s.own s.rest

leaf_shared : (f : With Aside Fact) (s : Beside HeaderEdge LayoutState) → shared_beside (body_layout.leaf_state f s) ≡ shared_beside s
leaf_shared (act (coming event)) s = refl
leaf_shared (act (standing a)) s = refl
leaf_shared (act (refused obstacle a)) s = refl
leaf_shared (aside (reports m)) s = refl
leaf_shared (aside (titles place name rest)) s = refl
leaf_shared (aside (closes line)) s = refl

keeps_shared : (kept : Shared) → KeepsStates body_layout (λ s. shared_beside s ≡ kept)
keeps_shared kept = record {
  begins = λ l a s h. h;
  leaves = λ f s h. leaf_shared f s ∙ h;
  ends = λ l b a s h. h;
}

pub tree_shared : (b : BodyEdge) (steps : List (With Aside Step)) → shared_of (tree_after b steps) ≡ shared_of b
unfolding edge
tree_shared b steps =
    let d = opened b in
    rest_keeps body_layout (λ s. shared_beside s ≡ shared_of b) (keeps_shared (shared_of b)) d.scopes d.state
    (tree body_nesting d.mode (labels d.scopes) steps) refl

-- ---- the title of a body that has begun

-- the body has begun, its language is decided, and these are the fields of its title
record HasTitle (fields : Fields) (s : Beside HeaderEdge LayoutState) : Type 0 where
  begun : s.rest.has_begun ≡ true
  decided : s.own.is_decided ≡ true
  same : s.own.fields ≡ fields

begun_stays : (kind : EventKind (List ℕ)) (begun : Bool) → begun ≡ true → begun_after kind begun ≡ true
begun_stays kind begun h = rw h refl

fields_stay : (begun : Bool) (name : Prologue) (os rest : List ℕ) (fields : Fields) → begun ≡ true → title_fields begun name os rest fields ≡ fields
fields_stay begun name os rest fields h = rw h refl

leaf_title : (fields : Fields) (f : With Aside Fact) (s : Beside HeaderEdge LayoutState) → HasTitle fields s → HasTitle fields (body_layout.leaf_state f s)
leaf_title fields (act (coming event)) s h =
    record { begun = begun_stays event.kind s.rest.has_begun h.begun; decided = h.decided; same = h.same }
leaf_title fields (act (standing a)) s h = record { begun = h.begun; decided = h.decided; same = h.same }
leaf_title fields (act (refused obstacle a)) s h = record { begun = h.begun; decided = h.decided; same = h.same }
leaf_title fields (aside (reports m)) s h = record { begun = h.begun; decided = h.decided; same = h.same }
leaf_title fields (aside (titles place name rest)) s h = record {
  begun = h.begun;
  decided = h.decided;
  same = fields_stay s.rest.has_begun name s.own.os rest s.own.fields h.begun ∙ h.same;
}
leaf_title fields (aside (closes line)) s h = record { begun = h.begun; decided = h.decided; same = h.same }

keeps_title : (fields : Fields) → KeepsStates body_layout (HasTitle fields)
keeps_title fields = record {
  begins = λ l a s h. record { begun = h.begun; decided = h.decided; same = h.same };
  leaves = λ f s h. leaf_title fields f s h;
  ends = λ l b a s h. record { begun = h.begun; decided = h.decided; same = h.same };
}

-- the acts of a body that has begun, of a decided language, leave the fields of its title
pub tree_title : (b : BodyEdge) (steps : List (With Aside Step)) → has_begun b ≡ true → b.header.is_decided ≡ true
    → (tree_after b steps).header.fields ≡ b.header.fields
unfolding edge
tree_title b steps begun decided =
    let d = opened b in
    let title = rest_keeps body_layout (HasTitle b.header.fields) (keeps_title b.header.fields) d.scopes d.state
    (tree body_nesting d.mode (labels d.scopes) steps) (record { begun = begun; decided = decided; same = refl }) in
    title.same

-- ---- How a body takes events for a latch.

came_if : {P O : Type 0} (left : P → O → List Item → Type 0) (plan : Option P) (s t : O) (front next rest : List Item) → Came left s front t
    → MatchOption plan (Unit {0}) (λ p. left p s ((front ++ next) ++ rest)) → MatchOption plan (Unit {0}) (λ p. left p t (next ++ rest))
came_if left None s t front next rest came h = tt
came_if left (Some p) s t front next rest came h = came p (next ++ rest) (rw (append_assoc front next rest) at h)

-- it took the first of the events that are still to come
pub left_more : {P O : Type 0} (left : P → O → List Item → Type 0) (plan : PlannedEvents P) (body_name out_name : GName) (old new : BodyEdge) (out next : O)
    (event : Event (List ℕ)) (events : List (Event (List ℕ))) → GivesEvent left event old out new next
    → LeftEvents left plan body_name out_name old out (event ∷ events) → LeftEvents left plan body_name out_name new next events
left_more left plan body_name out_name old new out next event events gives h = rw gives.after (record {
  same_body = h.same_body;
  same_out = h.same_out;
  items = came_if left plan.plan out next (event_items old event) (events_items (event_after old event) events) plan.rest gives.came
      (rw (items_more old event events) at h.items);
  after = sym (after_more old event events) ∙ h.after;
})

-- ---- What is given up to the next line, and then the rest.

-- a line that is no control line has the events that all sets of macros give of it
pub plain_gives : (set : Either) (line : TakenLine) (plain : PlainLine) → plain_line line.form line.text ≡ Some plain
    → either_events set line ≡ plain_events line.number line.text plain
unfolding man_events mdoc_events
plain_gives sets.Man line plain h = ap (λ found. option_map_or (plain_events line.number line.text) found (man_control_events line)) h
plain_gives sets.Mdoc line plain h = ap (λ found. option_map_or (plain_events line.number line.text) found (mdoc_control_events line)) h

one_before : {A B : Type 0} (x : A) (o : Option B) (all front : List A) (rest : B → List A)
    → MatchOption o (all ≡ front) (λ b. all ≡ front ++ rest b) → MatchOption o (x ∷ all ≡ x ∷ front) (λ b. x ∷ all ≡ x ∷ (front ++ rest b))
one_before x None all front rest h = ap (λ l. x ∷ l) h
one_before x (Some b) all front rest h = ap (λ l. x ∷ l) h

pub given_items_parts : (body : BodyEdge) (given : List Given) → MatchOption (next_line given)
    (given_items body given ≡ map noted (notes_before given))
    (λ line. given_items body given ≡ map noted (notes_before given) ++ (line_items body line ++ given_items (line_after body line) (after_line given)))
unfolding given_items
given_items_parts body [] = refl
given_items_parts body (says note ∷ more) =
    one_before (noted note) (next_line more) (given_items body more) (map noted (notes_before more))
    (λ line. line_items body line ++ given_items (line_after body line) (after_line more)) (given_items_parts body more)
given_items_parts body (takes line ∷ more) = refl

pub body_after_parts : (body : BodyEdge) (given : List Given) → MatchOption (next_line given)
    (body_after body given ≡ body)
    (λ line. body_after body given ≡ body_after (line_after body line) (after_line given))
unfolding body_after
body_after_parts body [] = refl
body_after_parts body (says note ∷ more) = body_after_parts body more
body_after_parts body (takes line ∷ more) = refl

-- ---- one line for the set of macros after another

pub given_next : (e : RoffEdge) (line : TakenLine) → next_line (given_of e) ≡ Some line → given_of (line_taken e) ≡ after_line (given_of e)
given_next e line h = rw h refl

pub shorter : (given : List Given) (line : TakenLine) → next_line given ≡ Some line → suc (length (after_line given)) ≤ length given
shorter [] line h = let no : ⊥ = cc in absurd no
shorter (says note ∷ more) line h = let l = shorter more line h in omega (arith, l)
shorter (takes first ∷ more) line h = omega arith

pub taken_shorter : (e f : RoffEdge) (line : TakenLine) → f ≡ line_taken e → Some line ≡ next_line (given_of e) → suc (length (given_of f)) ≤ length (given_of e)
taken_shorter e f line k h = rw (k, given_next e line (sym h)) (shorter (given_of e) line (sym h))

pub same_but_taken : (e f next : RoffEdge) → next ≡ line_taken f → f ≡ record e { to_come = f.to_come } → next ≡ record e { to_come = next.to_come }
same_but_taken e f next h k = rw h (ap (λ (x : RoffEdge). record x { to_come = (line_taken f).to_come }) k)

pub body_taken : (body : BodyEdge) (e : RoffEdge) (line : TakenLine) (next : BodyEdge) (f : RoffEdge) (end : BodyEdge) → f ≡ line_taken e → Some line ≡ next_line (given_of e)
    → next ≡ line_after body line → body_after body (given_of e) ≡ end → body_after next (given_of f) ≡ end
body_taken body e line next f end k h n q =
    let z = rw (sym h) at (body_after_parts body (given_of e)) in
    rw (k, given_next e line (sym h), n) (sym z ∙ q)

pub body_done : (body : BodyEdge) (e : RoffEdge) (end : BodyEdge) → None ≡ next_line (given_of e) → body_after body (given_of e) ≡ end → body ≡ end
body_done body e end h q = let z = rw (sym h) at (body_after_parts body (given_of e)) in sym z ∙ q

-- the messages before a line, and then what it gives
pub items_taken : {P S : Type 0} (left : P → S → List Item → Type 0) → {a b c d : S} (body : BodyEdge) (e f : RoffEdge) (line : TakenLine) (next : BodyEdge) (all : List Item)
    → f ≡ line_taken e → Some line ≡ next_line (given_of e) → next ≡ line_after body line
    → CameUpTo left a all (given_items body (given_of e)) b
    → ((plan : P × List Item) (more : List Message) → left plan.0 b (map noted (notes_before (given_of e) ++ more) ++ plan.1) → left plan.0 c (map noted more ++ plan.1))
    → Came left c (line_items body line) d → CameUpTo left a all (given_items next (given_of f)) d
items_taken left {b = b} body e f line next all k h n up notes came plan rest x =
    let front = notes_before (given_of e) in
    let more = given_items (line_after body line) (after_line (given_of e)) in
    let items = line_items body line ++ more in
    let z : given_items body (given_of e) ≡ map noted front ++ items = rw (sym h) at (given_items_parts body (given_of e)) in
    let y : left plan b (map noted front ++ (items ++ rest)) = rw (← append_assoc (map noted front) items rest, ← z) (up plan rest x) in
    let v = notes (plan, items ++ rest) [] (rw (append-nil front) y) in
    rw (k, given_next e line (sym h), n) (came plan (more ++ rest) (rw (append_assoc (line_items body line) more rest) at v))

pub items_done : {P S : Type 0} (left : P → S → List Item → Type 0) → {a b c : S} (body : BodyEdge) (e : RoffEdge) (all : List Item) → None ≡ next_line (given_of e)
    → CameUpTo left a all (given_items body (given_of e)) b
    → ((plan : P × List Item) (more : List Message) → left plan.0 b (map noted (notes_before (given_of e) ++ more) ++ plan.1) → left plan.0 c (map noted more ++ plan.1))
    → Came left a all c
items_done left {b = b} body e all h up notes plan rest x =
    let front = notes_before (given_of e) in
    let z : given_items body (given_of e) ≡ map noted front = rw (sym h) at (given_items_parts body (given_of e)) in
    let y : left plan b (map noted front ++ rest) = rw (← z) (up plan rest x) in
    notes (plan, rest) [] (rw (append-nil front) y)

-- the messages of an end, and then the items after them
pub items_after_notes : {P S : Type 0} (left : P → S → List Item → Type 0) → {a b c : S} (front : List Message) (items : List Item)
    → ((plan : P × List Item) (more : List Message) → left plan.0 a (map noted (front ++ more) ++ plan.1) → left plan.0 b (map noted more ++ plan.1))
    → Came left b items c → Came left a (map noted front ++ items) c
items_after_notes left {a = a} front items notes came plan rest x =
    let y : left plan a (map noted front ++ (items ++ rest)) = rw (append_assoc (map noted front) items rest) at x in
    came plan rest (notes (plan, items ++ rest) [] (rw (append-nil front) y))

-- a source line that gives itself alone, after what is before it
pub lent_items : {P S : Type 0} (left : P → S → List Item → Type 0) → {a b c : S} (body : BodyEdge) (given : List Given) (line : TakenLine) (front : List Item)
    → given ≡ takes line ∷ [] → Came left a front b → Came left b (line_items body line) c → Came left a (front ++ given_items body given) c
unfolding given_items
lent_items left {a = a} body given line front e before came plan rest x =
    let y : left plan a ((front ++ (line_items body line ++ [])) ++ rest) = rw e at x in
    let z : left plan a (front ++ (line_items body line ++ rest)) = rw (append-nil (line_items body line), append_assoc front (line_items body line) rest) at y in
    came plan rest (before plan (line_items body line ++ rest) z)

pub lent_after : (body : BodyEdge) (given : List Given) (line : TakenLine) → given ≡ takes line ∷ [] → body_after body given ≡ line_after body line
unfolding body_after
lent_after body given line e = rw e refl
