-- The number that roff remembers is the one of its last line, whatever that line does: helpers of proofs.
use Rattle.std.proofs.Common.{◌≡◌, ℕ, ◌==◌, Bool, true, false, is_some, List, [], ◌∷◌, length, Option, Some, None, refl, ap, ◌∙◌, zero, suc, ◌||◌, drop, map, sym, arith}
use Rattle.std.specs.Prelude.{if◌then◌else◌}
use Rattle.page_roff_syntax.specs.declared.regions.RegionKind.{RegionKind}
use Rattle.page_roff_syntax.specs.declared.regions.RegionKind.TheVariants.{Define, Append}
use Rattle.page_roff_syntax.specs.LineForms.{form_of}
use Rattle.page_roff_syntax.specs.declared.line_forms.LineForm.{LineForm}
use Rattle.page_roff_syntax.specs.declared.line_forms.LineForm.TheVariants.{Control}
use Rattle.page_roff_blocks.specs.Parts.{line_parts, loop_text}
use Rattle.page_roff_syntax.specs.Regions.{Opened}
use Rattle.page_roff_values.specs.Values.{expanded, units_of}
use Rattle.page_roff_blocks.specs.machine.Languages.{Kind}
use Rattle.page_roff_blocks.proofs.LinePartLemmas.{IsIfSome, IsAny, HasLeaves, HasLoopTexts, any_leaves, any_lines}
use Rattle.page_roff_blocks.proofs.LedgerLemmas.{IsKeptAfter, KeepsEffects, page_keeps}
use Rattle.page_roff_effects.specs.Lines.{command_of, copies, ControlLine, command_outcome, control_line, control_outcome, form_outcome, leaf_outcome}
use Rattle.page_roff_effects.specs.States.{Memory, PartOutcome, Product, no_product, line_product, call_product, loop_product, counted, TextSetting, surroundings, nothing, budget_outcome, block_outcome, end_of_block_outcome}
use Rattle.page_roff_effects.specs.laws.Views.{State, after}
use Rattle.page_roff_effects.specs.Regions.{body_outcome, kind_outcome, line_outcome, close_outcome}
use Rattle.page_roff_effects.specs.machine.Acting.{effects, setting_of, tested_after, done_by, done_after}
use Rattle.page_roff_effects.proofs.CountLemmas.{does_keeps, longer_keeps, head_keeps, end_keeps, finish_keeps, loop_keeps, collect_keeps, close_keeps}
use Rattle.page_roff_source.specs.Runs.{RoffEdge, SourceLine, done}
use Rattle.page_roff_source.specs.machine.RoffLines.{before_line, run_line, line_done, lines_done}
use Rattle.page_roff_source.proofs.CountLemmas.{done-by_line}
use Rattle.page_core_base.specs.declared.places.Place.{Place}
use Rattle.page_sets_lines.specs.declared.events.EventKind.{EventKind}
use Rattle.page_sets_lines.specs.declared.events.EventKind.TheVariants as kinds
use Rattle.page_scopes_labels.specs.declared.labels.Label.{Label}
use Rattle.page_scopes_tree.specs.Ends.{event_of, act_ends}
use Rattle.page_scopes_tree.specs.laws.Views as oldsteps
use Rattle.page_scopes_tree.specs.machine.Nestings.{With, act, aside, stands_with, as_nothing, inside}
use Rattle.page_scopes_tree.specs.machine.Nestings as old
use Rattle.page_scopes_tree.specs.machine.Stacks.{Fact, coming, standing, refused, standing_by}
use Rattle.page_scopes_tree.specs.Placements.{act_placement, act_skips, closer_skips, is_passed_over}
use Rattle.page_scopes_tree.specs.declared.acts.Act.TheVariants as acts
use Rattle.page_scopes_tree.specs.declared.placements.Placement.{Placement}
use Rattle.page_scopes_tree.specs.declared.placements.Placement.TheVariants as placements
use Rattle.page_engine_lines.specs.machine.Lines.{Aside, as_act, body_nesting}
use Rattle.page_engine_lines.specs.machine.Lines as trees
use Rattle.page_engine_lines.specs.Trees as new
use Rattle.page_engine_lines.specs.Trees.{PageAct, PageEvent, Step, BlockForest, After, Rest, after_ends, around_node, placed, tree}

either_number : (b : Bool) (o p : PartOutcome) (n : ℕ) → o.memory.number ≡ n → p.memory.number ≡ n → (if b then o else p).memory.number ≡ n
either_number true o p n h g = h
either_number false o p n h g = g

-- ---- leaves

-- a macro or a request, once its line is expanded
control_number : (setting : TextSetting) (may_call : Bool) (line : ControlLine) (m : Memory) → (control_outcome setting may_call line m).memory.number ≡ m.number
unfolding control_outcome command_outcome
control_number setting may_call line m =
    let command = command_of line.name m.definitions in
    let laid = expanded (surroundings (copies command) setting m) m.number line.text in
    either_number (length line.name == 0) (nothing m) _ m.number refl
    (ap (λ (p : ℕ × ℕ). p.0) (does_keeps may_call command line laid.edge.text (counted laid.edge.count m)))

form_number : (setting : TextSetting) (may_call : Bool) (raw : List ℕ) (form : LineForm (List ℕ)) (m : Memory)
    → (form_outcome setting may_call raw form m).memory.number ≡ m.number
form_number setting may_call raw (Control name column rest rest_column) m =
    control_number setting may_call (control_line raw name column rest_column) m
form_number setting may_call raw _ m = refl

leaf_number : (setting : TextSetting) (may_call : Bool) (raw : List ℕ) (m : Memory) → (leaf_outcome setting may_call raw m).memory.number ≡ m.number
unfolding leaf_outcome
leaf_number setting may_call raw m = form_number setting may_call raw (form_of raw) m

-- ---- regions

body_number : (setting : TextSetting) (line : List ℕ) (m : Memory) → (body_outcome setting line m).memory.number ≡ m.number
body_number setting line m =
    let laid = expanded (surroundings true setting m) m.number line in
    either_number (is_some m.body) _ _ m.number (ap (λ (p : ℕ × ℕ). p.0) (longer_keeps m.body laid.edge.text (counted laid.edge.count m))) refl

kind_number : (setting : TextSetting) (kind : RegionKind) (line : List ℕ) (m : Memory) → (kind_outcome setting kind line m).memory.number ≡ m.number
kind_number setting Define line m = body_number setting line m
kind_number setting Append line m = body_number setting line m
kind_number setting _ line m = refl

line_number : (setting : TextSetting) (o : Opened) (is_run : Bool) (line : List ℕ) (m : Memory) → (line_outcome setting o is_run line m).memory.number ≡ m.number
unfolding line_outcome
line_number setting o true line m = kind_number setting o.kind line m
line_number setting o false line m = refl

-- ---- all effects

any_kind : Kind → Type 0
any_kind kind = Unit {0}

abbrev IsAt : ℕ → State → Type 0
IsAt n s = s.memory.number ≡ n

module _ (units : List ℕ → ℕ) (n : ℕ) where
  done_number : (p : Product) (s : State) → IsAt n s → IsKeptAfter IsAny any_kind (IsAt n) (done_by p s)
  unfolding done_by any_kind
  done_number no_product s h = h
  done_number (line_product line) s h = h
  done_number (call_product lines arguments) s h = (any_lines lines, tt, h)
  done_number (loop_product condition lines) s h = (tt, any_lines lines, h)

  keeps_number : KeepsEffects IsAny any_kind (IsAt n) (effects units)
  unfolding effects done_after tested_after budget_outcome block_outcome end_of_block_outcome any_kind
  keeps_number = record {
    inner = λ kind k. tt;
    exhausts = λ s h. h;
    tests = λ kind condition s h. h;
    leaf = λ may_call kind text s k t h.
        let o = leaf_outcome (setting_of units kind) may_call text s.memory in
        done_number o.product (after s o) (leaf_number (setting_of units kind) may_call text s.memory ∙ h);
    refuses = λ head s h. h;
    unopened = λ s h. h;
    opens_region = λ kind head is_run s h. ap (λ (p : ℕ × ℕ). p.0) (head_keeps head is_run s.memory) ∙ h;
    reads = λ kind o is_run line s k t h. line_number (setting_of units kind) o is_run line s.memory ∙ h;
    ends_region = λ kind o is_run line s h. ap (λ (p : ℕ × ℕ). p.0) (end_keeps o is_run s.memory) ∙ h;
    opens_loop = λ head s t h. ap (λ (p : ℕ × ℕ). p.0) (loop_keeps head s.memory) ∙ h;
    collects = λ is_run text s t h. ap (λ (p : ℕ × ℕ). p.0) (collect_keeps is_run text s.memory) ∙ h;
    closes = λ is_run may_run s h.
        let o = close_outcome is_run may_run s.memory in
        done_number o.product (after s o) (ap (λ (p : ℕ × ℕ). p.0) (close_keeps is_run may_run s.memory) ∙ h);
    turns = λ kind condition s k t h. h;
    finish = λ region in_loop gave_up s h. ap (λ (p : ℕ × ℕ). p.0) (finish_keeps region in_loop gave_up s.memory) ∙ h;
  }

-- ---- lines of the page

leaves_any : HasLeaves IsAny
leaves_any line t = any_leaves (line_parts line)

text_any : (text : Option (List ℕ)) → IsIfSome IsAny text
text_any None = tt
text_any (Some text) = tt

texts_any : HasLoopTexts IsAny
texts_any open_blocks line t = text_any (loop_text open_blocks line)

one_number : (e : RoffEdge) (line : SourceLine) → (line_done e line).memory.number ≡ line.number
unfolding run_line before_line any_kind
one_number e line =
    page_keeps IsAny any_kind (IsAt line.number) (effects (units_of e.output)) leaves_any texts_any (keeps_number (units_of e.output) line.number) tt
    (line.text ∷ []) (before_line e line) (any_lines (line.text ∷ [])) refl

-- the number of the last of these lines, or of the one before them
abbrev pub last_of : ℕ → List SourceLine → ℕ
last_of n [] = n
last_of n (line ∷ lines) = last_of line.number lines

lines_number : (e : RoffEdge) (lines : List SourceLine) → (lines_done e lines).memory.number ≡ last_of e.memory.number lines
unfolding lines_done
lines_number e [] = refl
lines_number e (line ∷ lines) = lines_number (line_done e line) lines ∙ ap (λ n. last_of n lines) (one_number e line)

pub done_number_is : (e : RoffEdge) (lines : List SourceLine) → e.to_come ≡ None → (done e lines).memory.number ≡ last_of e.memory.number lines
done_number_is e lines idle = ap (λ (f : RoffEdge). f.memory.number) (done-by_line e lines idle) ∙ lines_number e lines

-- ---- The block tree of a page is that of the machine: helpers of proofs.

abbrev pub A : Type 0
A = With Aside oldsteps.Step

abbrev pub F : Type 0
F = With Aside Fact

abbrev pub OldForest : Type 0
OldForest = old.Forest Label A F

abbrev pub OldRest : Type 0
OldRest = old.Rest Label A F

-- ---- the same steps, and trees

abbrev pub leaf_old : Step → F
leaf_old (new.reports m) = aside (trees.reports m)
leaf_old (new.titles place name rest) = aside (trees.titles place name rest)
leaf_old (new.comes event) = act (coming event)
leaf_old (new.does a) = act (standing a)
leaf_old (new.closes n) = aside (trees.closes n)

abbrev pub opens_old : PageEvent → A
opens_old event = act (oldsteps.does (acts.Event event))

abbrev pub forest_old : BlockForest → OldForest
forest_old new.none = old.none
forest_old (new.leaf x next) = old.leaf (leaf_old x) (forest_old next)
forest_old (new.refused obstacle a next) = old.leaf (act (refused obstacle a)) (forest_old next)
forest_old (new.node label event inside a next) = old.node label (opens_old event) (forest_old inside) (old.by_act (act (oldsteps.does a))) (forest_old next)
forest_old (new.open_node label event inside) = old.node label (opens_old event) (forest_old inside) old.still_open old.none

abbrev pub after_old : After → old.After Label A F
after_old (new.ended_by a siblings) = record { ender = old.by_act (act (oldsteps.does a)); siblings = forest_old siblings }
after_old new.stays = record { ender = old.still_open; siblings = old.none }

abbrev pub afters_old : List After → List (old.After Label A F)
afters_old [] = []
afters_old (x ∷ xs) = after_old x ∷ afters_old xs

abbrev pub rest_old : Rest → OldRest
rest_old r = record { here = forest_old r.here; outer = afters_old r.outer }

-- ---- what is passed over passes over the rest of its line

passed_closer : (skips : Bool) → skips || true ≡ true
passed_closer true = refl
passed_closer false = refl

passed_kind : (kind : EventKind (List ℕ)) (place : Place) (n : ℕ) (nodes : List Label) → is_passed_over true (acts.Event (record { place = place; kind = kind })) ≡ true
    → act_skips true (acts.Event (record { place = place; kind = kind })) n nodes ≡ true
passed_kind (kinds.End fills) place n nodes e = e
passed_kind (kinds.Open opener) place n nodes e = refl
passed_kind (kinds.LineScope opener) place n nodes e = refl
passed_kind (kinds.Close closer) place n nodes e = passed_closer (closer_skips closer n)
passed_kind _ place n nodes e = refl

-- ---- trees

all_open_law : (nodes : List Label) → old.all_open nodes ≡ afters_old (map (λ label. new.stays) nodes)
all_open_law [] = refl
all_open_law (l ∷ nodes) = ap (λ xs. after_old new.stays ∷ xs) (all_open_law nodes)

ended_law : (n : ℕ) (a : PageAct) (r : Rest) → old.ended n (act (oldsteps.does a)) (rest_old r) ≡ rest_old (after_ends n a r)
ended_law zero a r = refl
ended_law (suc n) a r =
    ap (λ (q : OldRest). let x : OldRest = record { here = old.none; outer = record { ender = old.by_act (act (oldsteps.does a)); siblings = q.here } ∷ q.outer } in x)
    (ended_law n a r)

node_law : (label : Label) (event : PageEvent) (r : Rest) (outer : List After)
    → old.node_of label (opens_old event) (forest_old r.here) (afters_old outer) ≡ rest_old (around_node label event r outer)
node_law label event r [] = refl
node_law label event r (new.stays ∷ outer) = refl
node_law label event r (new.ended_by a siblings ∷ outer) = refl

passed_law : (skips : Bool) (a : PageAct) (n : ℕ) (nodes : List Label) → is_passed_over skips a ≡ true → act_skips skips a n nodes ≡ skips
passed_law true (acts.Event event) n nodes e = passed_kind event.kind event.place n nodes e
passed_law true (acts.PageEnd line) n nodes e = refl
passed_law false (acts.Event event) n nodes e = grind (arith, e)
passed_law false (acts.PageEnd line) n nodes e = refl

-- what rests of a list of acts inside open nodes, as both say it
Alike : (List Label → OldRest) → (List Label → Rest) → Type 0
Alike k l = (x : List Label) → k x ≡ rest_old (l x)

placed_event : (event : PageEvent) (p : Placement) (nodes : List Label) (k : List Label → OldRest) (l : List Label → Rest) → Alike k l
    → old.placed (stands_with (standing_by (acts.Event event) p)) (opens_old event) nodes k ≡ rest_old (placed p (acts.Event event) nodes l)
unfolding Alike
placed_event event (placements.Node label) nodes k l e =
    ap (λ (r : OldRest). old.node_of label (opens_old event) r.here r.outer) (e (label ∷ nodes)) ∙ node_law label event (l (label ∷ nodes)) (l (label ∷ nodes)).outer
placed_event event placements.Leaf nodes k l e = ap (λ r. old.leaf_first (act (standing (acts.Event event))) r) (e nodes)
placed_event event (placements.Refused obstacle) nodes k l e = ap (λ r. old.leaf_first (act (refused obstacle (acts.Event event))) r) (e nodes)
placed_event event placements.Nothing nodes k l e = e nodes

placed_law : (a : PageAct) (n : ℕ) (nodes : List Label) (k : List Label → OldRest) (l : List Label → Rest) → Alike k l
    → old.placed (stands_with (standing_by a (act_placement a n nodes))) (act (oldsteps.does a)) nodes k ≡ rest_old (placed (act_placement a n nodes) a nodes l)
unfolding Alike
placed_law (acts.Event event) n nodes k l e = placed_event event (act_placement (acts.Event event) n nodes) nodes k l e
placed_law (acts.PageEnd x) n nodes k l e = ap (λ r. old.leaf_first (act (standing (acts.PageEnd x))) r) (e nodes)

abbrev old_tree : Bool → List Label → List Step → OldRest
old_tree skips nodes steps = old.tree body_nesting skips nodes (map as_act steps)

does_law : (p skips : Bool) (a : PageAct) (nodes : List Label) (steps : List Step) → is_passed_over skips a ≡ p
    → ((s : Bool) (x : List Label) → old_tree s x steps ≡ rest_old (tree s x steps))
    → (let n = if p then 0 else act_ends a nodes in
    let left = drop n nodes in
    old.ended n (act (oldsteps.does a)) (old.placed (stands_with (if p then as_nothing else standing_by a (act_placement a n left))) (act (oldsteps.does a)) left
    (λ x. old_tree (act_skips skips a n left) x steps)))
    ≡ rest_old (if p then tree skips nodes steps else (let n = act_ends a nodes in
    let remaining = drop n nodes in
    after_ends n a (placed (act_placement a n remaining) a remaining (λ x. tree (act_skips skips a n remaining) x steps))))
unfolding Alike
does_law true skips a nodes steps e more = ap (λ s. old_tree s nodes steps) (passed_law skips a 0 nodes e) ∙ more skips nodes
does_law false skips a nodes steps e more =
    let n = act_ends a nodes in
    let left = drop n nodes in
    ap (λ r. old.ended n (act (oldsteps.does a)) r)
    (placed_law a n left (λ x. old_tree (act_skips skips a n left) x steps) (λ x. tree (act_skips skips a n left) x steps) (λ x. more (act_skips skips a n left) x))
    ∙ ended_law n a (placed (act_placement a n left) a left (λ x. tree (act_skips skips a n left) x steps))

comes_law : (skips : Bool) (event : PageEvent) (nodes : List Label) (steps : List Step) → old_tree skips nodes steps ≡ rest_old (tree skips nodes steps)
    → old_tree skips nodes (new.comes event ∷ steps) ≡ rest_old (tree skips nodes (new.comes event ∷ steps))
unfolding tree
comes_law true event nodes steps e = e
comes_law false event nodes steps e = ap (λ r. old.leaf_first (act (coming event)) r) e

pub tree_law : (steps : List Step) (skips : Bool) (nodes : List Label) → old_tree skips nodes steps ≡ rest_old (tree skips nodes steps)
unfolding tree
tree_law [] skips nodes = ap (λ xs. let x : OldRest = record { here = old.none; outer = xs } in x) (all_open_law nodes)
tree_law (new.does a ∷ steps) skips nodes = does_law (is_passed_over skips a) skips a nodes steps refl (λ s x. tree_law steps s x)
tree_law (new.comes event ∷ steps) skips nodes = comes_law skips event nodes steps (tree_law steps skips nodes)
tree_law (new.reports m ∷ steps) skips nodes = ap (λ r. old.leaf_first (aside (trees.reports m)) r) (tree_law steps skips nodes)
tree_law (new.titles place name rest ∷ steps) skips nodes = ap (λ r. old.leaf_first (aside (trees.titles place name rest)) r) (tree_law steps skips nodes)
tree_law (new.closes n ∷ steps) skips nodes = ap (λ r. old.leaf_first (aside (trees.closes n)) r) (tree_law steps skips nodes)

-- ---- whether the rest of a line is passed over

ends_skips : (n : ℕ) (a : PageAct) (r : Rest) → (after_ends n a r).skips ≡ r.skips
ends_skips zero a r = refl
ends_skips (suc n) a r = ends_skips n a r

around_skips : (label : Label) (event : PageEvent) (r : Rest) (outer : List After) → (around_node label event r outer).skips ≡ r.skips
around_skips label event r [] = refl
around_skips label event r (new.stays ∷ outer) = refl
around_skips label event r (new.ended_by a siblings ∷ outer) = refl

placed_skips : (a : PageAct) (p : Placement) (nodes : List Label) (k : List Label → Rest)
    → (placed p a nodes k).skips ≡ (k (inside (stands_with {Y = Aside} (standing_by a p)) nodes)).skips
placed_skips a (placements.Node label) nodes k = around_skips label (event_of a) (k (label ∷ nodes)) (k (label ∷ nodes)).outer
placed_skips a placements.Leaf nodes k = refl
placed_skips a (placements.Refused obstacle) nodes k = refl
placed_skips a placements.Nothing nodes k = refl

abbrev old_mode : Bool → List Label → List Step → Bool
old_mode skips nodes steps = old.mode_after body_nesting skips nodes (map as_act steps)

does_mode : (p skips : Bool) (a : PageAct) (nodes : List Label) (steps : List Step) → is_passed_over skips a ≡ p
    → ((s : Bool) (x : List Label) → old_mode s x steps ≡ (tree s x steps).skips)
    → (let n = if p then 0 else act_ends a nodes in
    let left = drop n nodes in
    old_mode (act_skips skips a n left) (inside (stands_with {Y = Aside} (if p then as_nothing else standing_by a (act_placement a n left))) left) steps)
    ≡ (if p then tree skips nodes steps else (let n = act_ends a nodes in
    let remaining = drop n nodes in
    after_ends n a (placed (act_placement a n remaining) a remaining (λ x. tree (act_skips skips a n remaining) x steps)))).skips
does_mode true skips a nodes steps e more = ap (λ s. old_mode s nodes steps) (passed_law skips a 0 nodes e) ∙ more skips nodes
does_mode false skips a nodes steps e more =
    let n = act_ends a nodes in
    let left = drop n nodes in
    more (act_skips skips a n left) (inside (stands_with {Y = Aside} (standing_by a (act_placement a n left))) left)
    ∙ sym (placed_skips a (act_placement a n left) left (λ x. tree (act_skips skips a n left) x steps))
    ∙ sym (ends_skips n a (placed (act_placement a n left) a left (λ x. tree (act_skips skips a n left) x steps)))

comes_mode : (skips : Bool) (event : PageEvent) (nodes : List Label) (steps : List Step) → old_mode skips nodes steps ≡ (tree skips nodes steps).skips
    → old_mode skips nodes (new.comes event ∷ steps) ≡ (tree skips nodes (new.comes event ∷ steps)).skips
unfolding tree
comes_mode true event nodes steps e = e
comes_mode false event nodes steps e = e

pub mode_law : (steps : List Step) (skips : Bool) (nodes : List Label) → old_mode skips nodes steps ≡ (tree skips nodes steps).skips
unfolding tree
mode_law [] skips nodes = refl
mode_law (new.does a ∷ steps) skips nodes = does_mode (is_passed_over skips a) skips a nodes steps refl (λ s x. mode_law steps s x)
mode_law (new.comes event ∷ steps) skips nodes = comes_mode skips event nodes steps (mode_law steps skips nodes)
mode_law (new.reports m ∷ steps) skips nodes = mode_law steps skips nodes
mode_law (new.titles place name rest ∷ steps) skips nodes = mode_law steps skips nodes
mode_law (new.closes n ∷ steps) skips nodes = mode_law steps skips nodes

-- ---- the nodes that stay open are the outermost

abbrev pub AllStay : List After → Type 0
AllStay [] = Unit {0}
AllStay (new.stays ∷ outer) = AllStay outer
AllStay (new.ended_by a siblings ∷ outer) = ⊥

abbrev pub Proper : List After → Type 0
Proper [] = Unit {0}
Proper (new.stays ∷ outer) = AllStay outer
Proper (new.ended_by a siblings ∷ outer) = Proper outer

stay_map : (nodes : List Label) → AllStay (map (λ label. new.stays) nodes)
stay_map [] = tt
stay_map (l ∷ nodes) = stay_map nodes

proper_map : (nodes : List Label) → Proper (map (λ label. new.stays) nodes)
proper_map [] = tt
proper_map (l ∷ nodes) = stay_map nodes

proper_stay : (outer : List After) → AllStay outer → Proper outer
proper_stay [] p = tt
proper_stay (new.stays ∷ outer) p = p
proper_stay (new.ended_by a siblings ∷ outer) p = absurd p

ends_proper : (n : ℕ) (a : PageAct) (r : Rest) → Proper r.outer → Proper (after_ends n a r).outer
ends_proper zero a r p = p
ends_proper (suc n) a r p = ends_proper n a r p

around_proper : (label : Label) (event : PageEvent) (r : Rest) (outer : List After) → Proper outer → Proper (around_node label event r outer).outer
around_proper label event r [] p = tt
around_proper label event r (new.stays ∷ outer) p = proper_stay outer p
around_proper label event r (new.ended_by a siblings ∷ outer) p = p

placed_proper : (a : PageAct) (p : Placement) (nodes : List Label) (k : List Label → Rest) → ((x : List Label) → Proper (k x).outer)
    → Proper (placed p a nodes k).outer
placed_proper a (placements.Node label) nodes k e = around_proper label (event_of a) (k (label ∷ nodes)) (k (label ∷ nodes)).outer (e (label ∷ nodes))
placed_proper a placements.Leaf nodes k e = e nodes
placed_proper a (placements.Refused obstacle) nodes k e = e nodes
placed_proper a placements.Nothing nodes k e = e nodes

does_proper : (p skips : Bool) (a : PageAct) (nodes : List Label) (steps : List Step) → ((s : Bool) (x : List Label) → Proper (tree s x steps).outer)
    → Proper (if p then tree skips nodes steps else (let n = act_ends a nodes in
    let remaining = drop n nodes in
    after_ends n a (placed (act_placement a n remaining) a remaining (λ x. tree (act_skips skips a n remaining) x steps)))).outer
does_proper true skips a nodes steps more = more skips nodes
does_proper false skips a nodes steps more =
    let n = act_ends a nodes in
    let left = drop n nodes in
    ends_proper n a (placed (act_placement a n left) a left (λ x. tree (act_skips skips a n left) x steps))
    (placed_proper a (act_placement a n left) left (λ x. tree (act_skips skips a n left) x steps) (λ x. more (act_skips skips a n left) x))

comes_proper : (skips : Bool) (event : PageEvent) (nodes : List Label) (steps : List Step) → Proper (tree skips nodes steps).outer
    → Proper (tree skips nodes (new.comes event ∷ steps)).outer
unfolding tree
comes_proper true event nodes steps p = p
comes_proper false event nodes steps p = p

pub tree_proper : (steps : List Step) (skips : Bool) (nodes : List Label) → Proper (tree skips nodes steps).outer
unfolding tree
tree_proper [] skips nodes = proper_map nodes
tree_proper (new.does a ∷ steps) skips nodes = does_proper (is_passed_over skips a) skips a nodes steps (λ s x. tree_proper steps s x)
tree_proper (new.comes event ∷ steps) skips nodes = comes_proper skips event nodes steps (tree_proper steps skips nodes)
tree_proper (new.reports m ∷ steps) skips nodes = tree_proper steps skips nodes
tree_proper (new.titles place name rest ∷ steps) skips nodes = tree_proper steps skips nodes
tree_proper (new.closes n ∷ steps) skips nodes = tree_proper steps skips nodes
