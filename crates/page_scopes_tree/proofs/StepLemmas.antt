-- An act that is not passed over is a step: what it ends, and then the act itself. Helpers of proofs.
use Rattle.std.proofs.Common.{◌≡◌, ℕ, Bool, true, false, List, drop, refl, sym, subst, append_assoc, if◌then◌else◌, arith}
use Rattle.page_core_base.specs.laws.Views.{Came}
use Rattle.page_core_base.specs.Rows.{Item}
use Rattle.page_scopes_tree.proofs.RunLemmas.{left_labels}
use Rattle.page_scopes_tree.specs.Ends.{TreeEdge, act_ends}
use Rattle.page_scopes_tree.specs.laws.Views.{labels, does}
use Rattle.page_scopes_tree.specs.machine.Nestings.{ended_items, ended_state, placed_items, placed_scopes, placed_state}
use Rattle.page_scopes_tree.specs.declared.nestings.Scope.{Scope}
use Rattle.page_sets_lines.specs.declared.events.Event.{Event}
use Rattle.page_scopes_tree.specs.machine.Stacks.{Tables, framed, standing_by, TakesStep}
use Rattle.page_scopes_tree.specs.Placements.{act_placement, act_skips, is_passed_over}
use Rattle.page_scopes_tree.specs.declared.acts.Act.{Act}
use Rattle.page_scopes_labels.specs.declared.labels.Label.{Label}

-- which of two is taken, by a test that fails
second_of : {A : Type 0} (test : Bool) (a b : A) → test ≡ false → (if test then a else b) ≡ b
second_of true a b h = let P : Bool → Type 0 = λ t. (if t then a else b) ≡ b in subst P (sym h) refl
second_of false a b h = refl

edge_of : {S B : Type 0} (m n : Bool) (xs ys : List (Scope Label B)) (s t : S) → m ≡ n → xs ≡ ys → s ≡ t
    → (let d : TreeEdge Bool Label S B = record { mode = m; scopes = xs; state = s } in let e : TreeEdge Bool Label S B = record { mode = n; scopes = ys; state = t } in d ≡ e)
edge_of m n xs ys s t h k l = rw (h, k, l) refl

pub step-taken : {P O S B : Type 0} (left : P → O → List Item → Type 0) (tables : Tables S B) (act : Act (Event (List ℕ))) (skips next : Bool)
    (inner mid last : List (Scope Label B)) (s t u : S) (out ended given : O) (n : ℕ)
    → is_passed_over skips act ≡ false → n ≡ act_ends act (labels inner) → mid ≡ drop n inner → next ≡ act_skips skips act n (labels mid)
    → t ≡ ended_state (framed tables) n (does act) inner s → Came left out (ended_items (framed tables) n (does act) inner s) ended
    → Came left ended (placed_items (framed tables) (standing_by act (act_placement act n (labels mid))) (does act) t) given
    → u ≡ placed_state (framed tables) (standing_by act (act_placement act n (labels mid))) (does act) t
    → last ≡ placed_scopes (framed tables) (standing_by act (act_placement act n (labels mid))) (does act) mid t
    → TakesStep left tables (does act) (record { mode = skips; scopes = inner; state = s }) out (record { mode = next; scopes = last; state = u }) given
step-taken {P} {O} {S} {B} left tables act skips next inner mid last s t u out ended given n goes count cut skip state came placed put kept =
    grind (arith, second_of, left_labels, append_assoc, edge_of)
