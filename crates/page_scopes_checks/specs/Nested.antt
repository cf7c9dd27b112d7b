-- A layout for tests: each scope is four columns further in, and is shown by its name. Source: man(7).
use Rattle.std.specs.Prelude.{ℕ, ◌+◌, ◌-◌, ◌^◌, min, List, [], ◌∷◌}
use Rattle.page_core_base.specs.Rows.{Item, shown}
use Rattle.page_core_base.specs.declared.cells.Font.TheVariants.{R}
use Rattle.page_core_base.specs.declared.pieces.Piece.TheVariants.{Text, Break, Indent}
use Rattle.page_core_base.specs.declared.places.Place.{Place}
use Rattle.page_sets_lines.specs.declared.events.Event.{Event}
use Rattle.page_sets_lines.specs.declared.events.EventKind.{EventKind}
use Rattle.page_sets_lines.specs.declared.events.EventKind.TheVariants as kinds
use Rattle.page_sets_lines.specs.declared.leaves.Leaf.{Leaf}
use Rattle.page_sets_lines.specs.declared.leaves.Leaf.TheVariants as leaves
use Rattle.page_scopes_labels.specs.Labels.{label_name}
use Rattle.page_scopes_tree.specs.machine.Stacks.{Tables}
use Rattle.page_scopes_tree.specs.declared.acts.Act.{Act}
use Rattle.page_scopes_tree.specs.declared.acts.Act.TheVariants as acts
use Rattle.page_scopes_checks.specs.declared.nested.Nested.{Nested}

abbrev pub nested_at : ℕ → Nested
nested_at margin = record { margin = margin }

-- words are shown, and requests as breaks
abbrev pub leaf_shown : Leaf (List ℕ) → List Item
leaf_shown (leaves.Request request) = shown Break ∷ []
leaf_shown _ = []

abbrev pub kind_shown : EventKind (List ℕ) → Place → List Item
kind_shown (kinds.Word word) place = shown (Text word.arg.text R place) ∷ []
kind_shown (kinds.Leaf leaf) place = leaf_shown leaf
kind_shown _ place = []

abbrev pub act_shown : Act (Event (List ℕ)) → List Item
act_shown (acts.Event event) = kind_shown event.kind event.place
act_shown (acts.PageEnd line) = []

abbrev pub nested_tables : Tables Nested ℕ
nested_tables = record {
  keep = λ label event s. s.margin;
  begin_items = λ label event s. shown (Text (label_name label) R event.place) ∷ [];
  begin_state = λ label event s. nested_at (min (s.margin + 4) (2 ^ 32 - 1));
  coming_items = λ event s. [];
  coming_state = λ event s. s;
  leaf_items = λ act s. act_shown act;
  leaf_state = λ act s. s;
  end_items = λ label before place s. shown (Indent before before) ∷ [];
  end_state = λ label before place s. nested_at before;
}
