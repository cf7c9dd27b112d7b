-- What happens to the open scopes of a page, and how many of them an event ends. Source: man(7), mdoc(7).
use Rattle.std.specs.List.{prefix_len}
use Rattle.std.specs.Option.{option_map, option_map_or}
use Rattle.std.specs.Prelude.{ℕ, false, List, Bool, not, ◌+◌, nat_lt, if◌then◌else◌, length, suc, ◌-◌, ◌==◌, [], ◌∷◌, Option, None, Some, reverse, ℤ, pos, int_lt, nat_abs}
use Rattle.page_core_numbers.specs.Expressions.{expression_of}
use Rattle.page_core_numbers.specs.declared.scales.Scale.TheVariants.{Basic}
use Rattle.page_sets_lines.specs.Blocks.{closed_block}
use Rattle.page_sets_lines.specs.declared.events.Event.{Event}
use Rattle.page_sets_lines.specs.declared.events.EventKind.{EventKind}
use Rattle.page_sets_lines.specs.declared.events.EventKind.TheVariants.{End}
use Rattle.page_sets_lines.specs.declared.events.EventKind.TheVariants as kinds
use Rattle.page_sets_lines.specs.declared.leaves.Leaf.TheVariants as leaves
use Rattle.page_sets_lines.specs.declared.openers.Closer.{Closer}
use Rattle.page_sets_lines.specs.declared.openers.Closer.TheVariants as closers
use Rattle.page_sets_lines.specs.declared.openers.Opener.{Opener}
use Rattle.page_sets_lines.specs.declared.openers.Opener.TheVariants as openers
use Rattle.page_scopes_labels.specs.Labels.{is_line, is_explicit, is_paragraph, is_level, is_item, is_list, is_margin, is_section, is_enclosure}
use Rattle.page_scopes_labels.specs.declared.labels.Explicit.{Explicit}
use Rattle.page_scopes_labels.specs.declared.labels.Explicit.TheVariants.{Syntax, RelativeMargin, Target, Block}
use Rattle.page_scopes_labels.specs.declared.labels.Label.{Label}
use Rattle.page_scopes_tree.specs.declared.acts.Act.{Act}
use Rattle.page_scopes_tree.specs.declared.acts.Act.TheVariants as acts
use Rattle.page_scopes_tree.specs.declared.nestings.Scope.{Scope}

-- ---- What happens to the open scopes of a page. Source: man(7).

-- the event of an act; the page's end is at the first column of its line, and opens nothing
abbrev pub event_of : Act (Event (List ℕ)) → Event (List ℕ)
event_of (acts.Event event) = event
event_of (acts.PageEnd line) = record { place = record { line = line; column = 1 }; kind = End false }

-- ---- The open nodes of a page, the innermost first, and what decides the rest. Source: man(7), mdoc(7).

-- what decides the rest: the mode, the open nodes, the innermost first, each with what it keeps, and the state
pub record TreeEdge (M L S B : Type 0) : Type 0 where
  pub mode : M
  pub scopes : List (Scope L B)
  pub state : S

-- ---- How many of the open scopes, the innermost first, an event ends. Source: man(7), "MACRO OVERVIEW"; mdoc(7), "MACRO REFERENCE".

-- the scopes inside the innermost one of which something holds; all where it holds of none
abbrev pub inside : (Label → Bool) → List Label → ℕ
inside is nodes = prefix_len (λ label. not (is label)) nodes

-- all scopes up to one that was found and with it, and none where it does not come before an end
abbrev pub up_to : (found end : ℕ) → ℕ
up_to found end = if nat_lt found end then found + 1 else 0

-- the line scopes that are innermost
abbrev pub line_scopes : List Label → ℕ
line_scopes nodes = prefix_len is_line nodes

-- up to the innermost scope of a closer
abbrev pub up_to_explicit : Explicit → List Label → ℕ
up_to_explicit explicit nodes = up_to (inside (is_explicit explicit) nodes) (length nodes)

-- up to the open paragraph (`PP LP P TP IP HP`) of the same relative margin or section
abbrev pub up_to_paragraph : List Label → ℕ
up_to_paragraph nodes = up_to (inside is_paragraph nodes) (inside is_level nodes)

-- where the relative margin of a number is, counted from the outermost scope on
abbrev pub place_of_margin : ℕ → List Label → Option ℕ
place_of_margin k [] = None
place_of_margin k (label ∷ nodes) =
    if is_margin label then (if k == 1 then Some 0 else option_map suc (place_of_margin (k - 1) nodes))
    else option_map suc (place_of_margin k nodes)

-- `RE` with a number: up to the relative margin of that number from the outside, and none where it is not there
abbrev pub up_to_margin : ℤ → List Label → ℕ
up_to_margin number nodes =
    if int_lt number (pos 1) then 0
    else option_map_or (λ outside. length nodes - outside) (place_of_margin (nat_abs number) (reverse nodes)) 0

abbrev pub opener_ends : Opener (List ℕ) → List Label → ℕ
opener_ends openers.Item nodes = up_to (inside is_item nodes) (inside is_list nodes)
opener_ends openers.Section nodes = length nodes
opener_ends openers.Subsection nodes = inside is_section nodes
opener_ends (openers.Paragraph name) nodes = up_to_paragraph nodes
opener_ends (openers.Tagged hang) nodes = up_to_paragraph nodes
opener_ends (openers.Indented tag hang) nodes = up_to_paragraph nodes
opener_ends (openers.Hanging hang) nodes = up_to_paragraph nodes
opener_ends (openers.Syntax name) nodes = up_to_explicit Syntax nodes
opener_ends _ nodes = 0

abbrev pub closer_ends : Closer (List ℕ) → List Label → ℕ
closer_ends closers.Line nodes = line_scopes nodes
closer_ends (closers.RelativeMargin None) nodes = up_to_explicit RelativeMargin nodes
closer_ends (closers.RelativeMargin (Some number)) nodes = up_to_margin (expression_of Basic number).value nodes
closer_ends (closers.Target link suffix) nodes = up_to_explicit (Target link) nodes
closer_ends closers.Syntax nodes = up_to_explicit Syntax nodes
closer_ends closers.Enclosures nodes = prefix_len is_enclosure nodes
closer_ends (closers.Block closer) nodes = up_to_explicit (Block (closed_block closer)) nodes

abbrev pub kind_ends : EventKind (List ℕ) → List Label → ℕ
kind_ends (kinds.Open opener) nodes = opener_ends opener nodes
kind_ends (kinds.Close closer) nodes = closer_ends closer nodes
kind_ends (kinds.Leaf leaves.BlankLine) nodes = line_scopes nodes
kind_ends (kinds.Raw text) nodes = line_scopes nodes
kind_ends (kinds.End fills) nodes = if fills then line_scopes nodes else 0
kind_ends _ nodes = 0

-- the page's end ends all
abbrev pub act_ends : Act (Event (List ℕ)) → List Label → ℕ
act_ends (acts.Event event) nodes = kind_ends event.kind nodes
act_ends (acts.PageEnd line) nodes = length nodes
