-- No event ends more scopes than are open, and none opens where too many are.
use Rattle.std.proofs.Common.{◌≡◌, ℕ, zero, suc, ◌<◌, ◌≤◌, ◌&&◌, Bool, true, false, not, List, length, if◌then◌else◌, None, Some, refl, arith}
use Rattle.std.specs.Prelude.{ℤ}
use Rattle.std.proofs.lemmas.Bool.Decides.{nat_tests}
use Rattle.std.proofs.lemmas.List.Sums.{prefix_len-le-length}
use Rattle.page_core_numbers.specs.Expressions.{expression_of}
use Rattle.page_core_numbers.specs.declared.scales.Scale.TheVariants.{Basic}
use Rattle.page_scopes_tree.specs.machine.Nestings.{as_node, as_nothing, IsSound, Standing, as_leaf}
use Rattle.page_sets_lines.specs.Blocks.{closed_block}
use Rattle.page_sets_lines.specs.declared.events.Event.{Event}
use Rattle.page_sets_lines.specs.declared.events.EventKind.{EventKind}
use Rattle.page_sets_lines.specs.declared.events.EventKind.TheVariants as kinds
use Rattle.page_sets_lines.specs.declared.leaves.Leaf.{Leaf}
use Rattle.page_sets_lines.specs.declared.leaves.Leaf.TheVariants as leaves
use Rattle.page_sets_lines.specs.declared.openers.Opener.{Opener}
use Rattle.page_sets_lines.specs.declared.openers.Opener.TheVariants as openers
use Rattle.page_sets_lines.specs.declared.openers.LineOpener.{LineOpener}
use Rattle.page_sets_lines.specs.declared.openers.LineOpener.TheVariants as lines
use Rattle.page_sets_lines.specs.declared.openers.Closer.{Closer}
use Rattle.page_sets_lines.specs.declared.openers.Closer.TheVariants as closers
use Rattle.page_scopes_tree.specs.laws.Views.{Step, comes, does}
use Rattle.page_scopes_tree.specs.Ends.{inside, up_to, line_scopes, up_to_explicit, up_to_paragraph, up_to_margin, opener_ends, closer_ends, kind_ends, act_ends}
use Rattle.page_scopes_labels.specs.Labels.{is_line, is_enclosure, is_section, is_item, is_list, is_explicit}
use Rattle.page_scopes_tree.specs.machine.Stacks.{standing_by, step_ends, step_standing, scopes_nesting, Fact, standing, refused}
use Rattle.page_scopes_tree.specs.Placements.{has_room, in_list, in_headed_list, opened, opener_placement, line_placement, closed, closer_placement, in_line_scope, is_dropped, kind_placement, act_placement, opener_label, is_passed_over}
use Rattle.page_core_base.specs.declared.limits.TheConstants.{SCOPES}
use Rattle.page_scopes_tree.specs.declared.acts.Act.{Act}
use Rattle.page_scopes_tree.specs.declared.acts.Act.TheVariants as acts
use Rattle.page_scopes_labels.specs.declared.labels.Explicit.{Explicit}
use Rattle.page_scopes_labels.specs.declared.labels.Explicit.TheVariants.{RelativeMargin, Target, Syntax, Block}
use Rattle.page_scopes_labels.specs.declared.labels.Label.{Label}
use Rattle.page_scopes_labels.specs.declared.labels.Label.TheVariants as labels
use Rattle.page_scopes_tree.specs.declared.placements.Placement.{Placement}
use Rattle.page_scopes_tree.specs.declared.placements.Placement.TheVariants as placements
use Rattle.page_scopes_tree.specs.declared.placements.Obstacle.{Obstacle}
use Rattle.page_scopes_tree.specs.declared.placements.Obstacle.TheVariants.{OutsideList, Scopes}

up_to-fits : (found end most : ℕ) → end ≤ most → up_to found end ≤ most
up_to-fits found end most h = grind (arith, nat_tests, h)

explicit-fits : (explicit : Explicit) (nodes : List Label) → up_to_explicit explicit nodes ≤ length nodes
explicit-fits explicit nodes = up_to-fits (inside (is_explicit explicit) nodes) (length nodes) (length nodes) (omega arith)

item-fits : (nodes : List Label) → (up_to (inside is_item nodes) (inside is_list nodes)) ≤ length nodes
item-fits nodes = up_to-fits (inside is_item nodes) (inside is_list nodes) (length nodes) (prefix_len-le-length (λ label. not (is_list label)) nodes)

paragraph-fits : (nodes : List Label) → up_to_paragraph nodes ≤ length nodes
paragraph-fits nodes = grind (arith, up_to-fits, prefix_len-le-length)

either-fits : (test : Bool) (m n most : ℕ) → m ≤ most → n ≤ most → (if test then m else n) ≤ most
either-fits true m n most h k = h
either-fits false m n most h k = k

margin-fits : (number : ℤ) (nodes : List Label) → up_to_margin number nodes ≤ length nodes
margin-fits number nodes = grind arith

opener-fits : (opener : Opener (List ℕ)) (nodes : List Label) → opener_ends opener nodes ≤ length nodes
opener-fits openers.Item nodes = item-fits nodes
opener-fits openers.Subsection nodes = prefix_len-le-length (λ label. not (is_section label)) nodes
opener-fits (openers.Paragraph name) nodes = paragraph-fits nodes
opener-fits (openers.Tagged hang) nodes = paragraph-fits nodes
opener-fits (openers.Indented tag hang) nodes = paragraph-fits nodes
opener-fits (openers.Hanging hang) nodes = paragraph-fits nodes
opener-fits (openers.Syntax name) nodes = explicit-fits Syntax nodes
opener-fits _ nodes = omega arith

closer-fits : (closer : Closer (List ℕ)) (nodes : List Label) → closer_ends closer nodes ≤ length nodes
closer-fits closers.Line nodes = prefix_len-le-length is_line nodes
closer-fits (closers.RelativeMargin None) nodes = explicit-fits RelativeMargin nodes
closer-fits (closers.RelativeMargin (Some number)) nodes = margin-fits (expression_of Basic number).value nodes
closer-fits (closers.Target link suffix) nodes = explicit-fits (Target link) nodes
closer-fits closers.Syntax nodes = explicit-fits Syntax nodes
closer-fits closers.Enclosures nodes = prefix_len-le-length is_enclosure nodes
closer-fits (closers.Block closer) nodes = explicit-fits (Block (closed_block closer)) nodes

leaf-fits : (leaf : Leaf (List ℕ)) (nodes : List Label) → kind_ends (kinds.Leaf leaf) nodes ≤ length nodes
leaf-fits leaves.BlankLine nodes = prefix_len-le-length is_line nodes
leaf-fits _ nodes = omega arith

kind-fits : (kind : EventKind (List ℕ)) (nodes : List Label) → kind_ends kind nodes ≤ length nodes
kind-fits (kinds.Open opener) nodes = opener-fits opener nodes
kind-fits (kinds.Close closer) nodes = closer-fits closer nodes
kind-fits (kinds.Leaf leaf) nodes = leaf-fits leaf nodes
kind-fits (kinds.Raw text) nodes = prefix_len-le-length is_line nodes
kind-fits (kinds.End fills) nodes = either-fits fills (line_scopes nodes) 0 (length nodes) (prefix_len-le-length is_line nodes) (omega arith)
kind-fits _ nodes = omega arith

pub act-fits : (act : Act (Event (List ℕ))) (nodes : List Label) → act_ends act nodes ≤ length nodes
act-fits (acts.Event event) nodes = kind-fits event.kind nodes
act-fits (acts.PageEnd line) nodes = omega arith

step-fits : (skips : Bool) (step : Step) (nodes : List Label) → step_ends skips step nodes ≤ length nodes
step-fits skips (comes event) nodes = omega arith
step-fits skips (does act) nodes = either-fits (is_passed_over skips act) 0 _ (length nodes) (omega arith) (act-fits act nodes)

-- ---- room

-- whether a placement opens a scope
Opens : Placement → Type 0
Opens (placements.Node label) = Unit {0}
Opens _ = ⊥

opened-by : (room : Bool) (remaining : List Label) (label : Label) → has_room remaining ≡ room
    → Opens (if room then placements.Node label else placements.Refused Scopes) → length remaining < SCOPES
unfolding Opens
opened-by true remaining label e k = grind (arith, nat_tests)
opened-by false remaining label e k = absurd k

opened-room : (remaining : List Label) (label : Label) → Opens (opened remaining label) → length remaining < SCOPES
opened-room remaining label h = opened-by (has_room remaining) remaining label refl h

item-room : (test : Bool) (remaining : List Label) → Opens (if test then opened remaining labels.Item else placements.Refused OutsideList) → length remaining < SCOPES
unfolding Opens
item-room true remaining h = opened-room remaining labels.Item h
item-room false remaining h = absurd h

opener-room : (opener : Opener (List ℕ)) (remaining : List Label) → Opens (opener_placement opener remaining) → length remaining < SCOPES
unfolding opener_placement
opener-room openers.Item remaining h = item-room (in_list remaining) remaining h
opener-room openers.Section remaining h = opened-room remaining (opener_label openers.Section) h
opener-room openers.Subsection remaining h = opened-room remaining (opener_label openers.Subsection) h
opener-room (openers.Paragraph name) remaining h = opened-room remaining (opener_label (openers.Paragraph name)) h
opener-room (openers.Tagged hang) remaining h = opened-room remaining (opener_label (openers.Tagged hang)) h
opener-room (openers.Indented tag hang) remaining h = opened-room remaining (opener_label (openers.Indented tag hang)) h
opener-room (openers.Hanging hang) remaining h = opened-room remaining (opener_label (openers.Hanging hang)) h
opener-room (openers.RelativeMargin columns) remaining h = opened-room remaining (opener_label (openers.RelativeMargin columns)) h
opener-room (openers.Target link target) remaining h = opened-room remaining (opener_label (openers.Target link target)) h
opener-room (openers.Syntax name) remaining h = opened-room remaining (opener_label (openers.Syntax name)) h
opener-room (openers.Block opener) remaining h = opened-room remaining (opener_label (openers.Block opener)) h

head-room : (test : Bool) (remaining : List Label) → Opens (if test then opened remaining (labels.Line lines.Head) else placements.Nothing) → length remaining < SCOPES
unfolding Opens
head-room true remaining h = opened-room remaining (labels.Line lines.Head) h
head-room false remaining h = absurd h

line-room : (opener : LineOpener) (remaining : List Label) → Opens (line_placement opener remaining) → length remaining < SCOPES
unfolding line_placement
line-room lines.Head remaining h = head-room (in_headed_list remaining) remaining h
line-room (lines.Heading name) remaining h = opened-room remaining (labels.Line (lines.Heading name)) h
line-room (lines.Tag name) remaining h = opened-room remaining (labels.Line (lines.Tag name)) h
line-room (lines.FontWords name) remaining h = opened-room remaining (labels.Line (lines.FontWords name)) h
line-room (lines.Enclosure marks) remaining h = opened-room remaining (labels.Line (lines.Enclosure marks)) h
line-room lines.Description remaining h = opened-room remaining (labels.Line lines.Description) h
line-room (lines.OneLine name) remaining h = opened-room remaining (labels.Line (lines.OneLine name)) h

closed-opens : (obstacle : Obstacle) (n : ℕ) → Opens (closed obstacle n) → ⊥
unfolding Opens
closed-opens obstacle zero h = h
closed-opens obstacle (suc n) h = h

closer-opens : (closer : Closer (List ℕ)) (n : ℕ) → Opens (closer_placement closer n) → ⊥
unfolding Opens
closer-opens (closers.RelativeMargin None) n h = closed-opens _ n h
closer-opens (closers.RelativeMargin (Some number)) n h = closed-opens _ n h
closer-opens (closers.Target link suffix) n h = closed-opens _ n h
closer-opens closers.Syntax n h = closed-opens _ n h
closer-opens (closers.Block closer) n h = closed-opens _ n h
closer-opens _ n h = h

dropped-opens : (test : Bool) → Opens (if test then placements.Nothing else placements.Leaf) → ⊥
unfolding Opens
dropped-opens true h = h
dropped-opens false h = h

leaf-opens : (leaf : Leaf (List ℕ)) (n : ℕ) (remaining : List Label) → Opens (kind_placement (kinds.Leaf leaf) n remaining) → ⊥
unfolding Opens
leaf-opens (leaves.Request request) n remaining h = dropped-opens (in_line_scope remaining && is_dropped request) h
leaf-opens _ n remaining h = h

kind-room : (kind : EventKind (List ℕ)) (n : ℕ) (remaining : List Label) → Opens (kind_placement kind n remaining) → length remaining < SCOPES
unfolding Opens
kind-room (kinds.Open opener) n remaining h = opener-room opener remaining h
kind-room (kinds.Close closer) n remaining h = absurd (closer-opens closer n h)
kind-room (kinds.LineScope opener) n remaining h = line-room opener remaining h
kind-room (kinds.Leaf leaf) n remaining h = absurd (leaf-opens leaf n remaining h)
kind-room _ n remaining h = absurd h

pub act-room : (act : Act (Event (List ℕ))) (n : ℕ) (remaining : List Label) (label : Label) → act_placement act n remaining ≡ placements.Node label → length remaining < SCOPES
unfolding Opens
act-room (acts.Event event) n remaining label h = kind-room event.kind n remaining (rw h tt)
act-room (acts.PageEnd line) n remaining label h = let no : ⊥ = cc in absurd no

node-placement : (act : Act (Event (List ℕ))) (placement : Placement) (label : Label) → standing_by act placement ≡ as_node label → placement ≡ placements.Node label
node-placement act (placements.Node other) label h = cc
node-placement act _ label h = let no : ⊥ = cc in absurd no

placed-room : (test : Bool) (act : Act (Event (List ℕ))) (n : ℕ) (remaining : List Label) (label : Label)
    → (if test then as_nothing else standing_by act (act_placement act n remaining)) ≡ as_node label → length remaining < SCOPES
placed-room true act n remaining label h = let no : ⊥ = cc in absurd no
placed-room false act n remaining label h = act-room act n remaining label (node-placement act (act_placement act n remaining) label h)

step-room : (skips : Bool) (step : Step) (n : ℕ) (remaining : List Label) (label : Label) → step_standing skips step n remaining ≡ as_node label → length remaining < SCOPES
step-room true (comes event) n remaining label h = let no : ⊥ = cc in absurd no
step-room false (comes event) n remaining label h = let no : ⊥ = cc in absurd no
step-room skips (does act) n remaining label h = placed-room (is_passed_over skips act) act n remaining label h

pub scopes-sound : IsSound scopes_nesting SCOPES
scopes-sound = record { fits = step-fits; room = step-room }

-- ---- What becomes of an act that is done: a node, a leaf that is no event to come, or nothing.

-- what holds of each of these
pub record OfDone (P : Standing Label Fact → Type 0) : Type 0 where
  pub node : (label : Label) → P (as_node label)
  pub leaf : (a : Act (Event (List ℕ))) → P (as_leaf (standing a))
  pub refusal : (obstacle : Obstacle) (a : Act (Event (List ℕ))) → P (as_leaf (refused obstacle a))
  pub nothing : P as_nothing

module _ (P : Standing Label Fact → Type 0) (k : OfDone P) where
  placement-standing : (a : Act (Event (List ℕ))) (placement : Placement) → P (standing_by a placement)
  placement-standing a (placements.Node label) = k.node label
  placement-standing a placements.Leaf = k.leaf a
  placement-standing a (placements.Refused obstacle) = k.refusal obstacle a
  placement-standing a placements.Nothing = k.nothing

  either-standing : (test : Bool) (x : Standing Label Fact) → P x → P (if test then as_nothing else x)
  either-standing true x h = k.nothing
  either-standing false x h = h

  pub done-standing : (skips : Bool) (a : Act (Event (List ℕ))) (n : ℕ) (nodes : List Label) → P (step_standing skips (does a) n nodes)
  done-standing skips a n nodes =
      either-standing (is_passed_over skips a) (standing_by a (act_placement a n nodes)) (placement-standing a (act_placement a n nodes))
