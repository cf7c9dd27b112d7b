-- The code's own search among open scopes: how many of the innermost ones lie before what it looks for. Source: man(7), "MACRO OVERVIEW".
use Rattle.std.specs.Prelude.{Bool, not, ◌≡◌, ℕ, ◌≤◌, ◌<◌, List, ◌∷◌, length, drop, zero, suc, [], ◌++◌}
use Rattle.page_scopes_labels.specs.Labels.{is_line, is_enclosure, is_section, is_paragraph, is_item, is_list, is_headed_list, is_explicit, is_level}
use Rattle.page_scopes_labels.specs.declared.labels.Label.{Label}
use Rattle.page_scopes_tree.specs.declared.runs.Run.{Run}
use Rattle.page_scopes_tree.specs.declared.runs.Run.TheVariants as runs
use Rattle.page_scopes_tree.specs.Ends.{TreeEdge}
use Rattle.page_scopes_tree.specs.laws.Views.{labels}
use Rattle.page_scopes_tree.specs.declared.nestings.Scope.{Scope}

-- which scopes a run goes over
abbrev pub run_takes : Run → Label → Bool
run_takes runs.InsideItem = λ label. not (is_item label)
run_takes runs.InsideList = λ label. not (is_list label)
run_takes runs.InsideHeadedList = λ label. not (is_headed_list label)
run_takes runs.Lines = is_line
run_takes runs.Enclosures = is_enclosure
run_takes runs.InsideSection = λ label. not (is_section label)
run_takes runs.InsideLevel = λ label. not (is_level label)
run_takes runs.InsideParagraph = λ label. not (is_paragraph label)
run_takes (runs.InsideExplicit explicit) = λ label. not (is_explicit explicit label)

-- ---- A machine: when nodes open and end, by what a language's tables say of each act of a page. Trust needs no reading of it.

-- what becomes of an act itself, once it ended what it ends: a node of a label opens, there is a leaf, or neither
pub data Standing (L F : Type 0) : Type 0 where
  as_node : L → Standing L F
  as_leaf : F → Standing L F
  as_nothing : Standing L F

-- Of acts inside open nodes, whose labels are the innermost first, under a mode: how many of the innermost nodes an act ends; what becomes of it
-- where it ended this many and these are left; and the mode after it.
pub record Nesting (M L A F : Type 0) : Type 0 where
  pub ends : M → A → List L → ℕ
  pub standing : M → A → ℕ → List L → Standing L F
  pub mode : M → A → ℕ → List L → M

-- an act ends no more nodes than are open, and opens none where that many are
pub record IsSound {M L A F : Type 0} (nests : Nesting M L A F) (most : ℕ) : Type 0 where
  pub fits : (m : M) (a : A) (nodes : List L) → nests.ends m a nodes ≤ length nodes
  pub room : (m : M) (a : A) (n : ℕ) (left : List L) (l : L) → nests.standing m a n left ≡ as_node l → length left < most

-- the nodes that an act leaves open
abbrev pub left_by : {M L A F : Type 0} → Nesting M L A F → M → A → List L → List L
left_by nests m a nodes = drop (nests.ends m a nodes) nodes

abbrev pub standing_of : {M L A F : Type 0} → Nesting M L A F → M → A → List L → Standing L F
standing_of nests m a nodes = nests.standing m a (nests.ends m a nodes) (left_by nests m a nodes)

-- the mode after an act
abbrev pub mode_of : {M L A F : Type 0} → Nesting M L A F → M → A → List L → M
mode_of nests m a nodes = nests.mode m a (nests.ends m a nodes) (left_by nests m a nodes)

-- the nodes that are open after it
abbrev pub inside : {L F : Type 0} → Standing L F → List L → List L
inside (as_node l) nodes = l ∷ nodes
inside _ nodes = nodes

-- ---- A machine: the block tree of a list of acts of any language, inside open nodes. Trust needs no reading of it.

-- what ends a node: an act, or nothing yet
pub data Ender (A : Type 0) : Type 0 where
  by_act : A → Ender A
  still_open : Ender A

-- siblings: none, a leaf and those after it, or a node (its label, its opener, what is in it, what ends it) and those after it
pub data Forest (L A F : Type 0) : Type 0 where
  none : Forest L A F
  leaf : F → Forest L A F → Forest L A F
  node : L → A → Forest L A F → Ender A → Forest L A F → Forest L A F

-- after a node: what ended it, and the siblings that follow it
pub record After (L A F : Type 0) : Type 0 where
  pub ender : Ender A
  pub siblings : Forest L A F

-- What a list of acts is inside open nodes: what goes into the innermost of them, and for each of them, the innermost first, what ends it and what
-- follows it in the one around it.
pub record Rest (L A F : Type 0) : Type 0 where
  pub here : Forest L A F
  pub outer : List (After L A F)

abbrev pub leaf_first : {L A F : Type 0} → F → Rest L A F → Rest L A F
leaf_first f r = record { here = leaf f r.here; outer = r.outer }

-- the rest inside a node that an act opens, seen from the node around it
abbrev pub node_of : {L A F : Type 0} → L → A → Forest L A F → List (After L A F) → Rest L A F
node_of l a inner [] = record { here = node l a inner still_open none; outer = [] }
node_of l a inner (next ∷ outer) = record { here = node l a inner next.ender next.siblings; outer = outer }

abbrev pub node_first : {L A F : Type 0} → L → A → Rest L A F → Rest L A F
node_first l a r = node_of l a r.here r.outer

-- the act ends this many nodes before what follows
abbrev pub ended : {L A F : Type 0} → ℕ → A → Rest L A F → Rest L A F
ended zero a r = r
ended (suc n) a r = record {
  here = none;
  outer = record { ender = by_act a; siblings = (ended n a r).here } ∷ (ended n a r).outer;
}

-- the act itself, in front of the rest inside the nodes that it leaves
abbrev pub placed : {L A F : Type 0} → Standing L F → A → List L → (List L → Rest L A F) → Rest L A F
placed (as_node l) a nodes rest = node_first l a (rest (l ∷ nodes))
placed (as_leaf f) a nodes rest = leaf_first f (rest nodes)
placed as_nothing a nodes rest = rest nodes

-- where the list ends, each open node is still open
abbrev pub all_open : {L A F : Type 0} → List L → List (After L A F)
all_open [] = []
all_open (l ∷ nodes) = record { ender = still_open; siblings = none } ∷ all_open nodes

abbrev pub tree : {M L A F : Type 0} → Nesting M L A F → M → List L → List A → Rest L A F
tree nests m nodes [] = record { here = none; outer = all_open nodes }
tree nests m nodes (a ∷ acts) =
    ended (nests.ends m a nodes) a
    (placed (standing_of nests m a nodes) a (left_by nests m a nodes) (λ open_nodes. tree nests (mode_of nests m a nodes) open_nodes acts))

-- ---- A machine: laying out a block tree of any language: what it gives, sibling after sibling, and what decides the rest. Trust needs no reading of it.

-- What a language's tables say of a state: what a node keeps of the state before it; what its beginning, a leaf, and its end by an act give; and the
-- state after each.
pub record Layout (L A F S B I : Type 0) : Type 0 where
  pub keep : L → A → S → B
  pub begin_items : L → A → S → List I
  pub begin_state : L → A → S → S
  pub leaf_items : F → S → List I
  pub leaf_state : F → S → S
  pub end_items : L → B → A → S → List I
  pub end_state : L → B → A → S → S

-- the open node that an opener makes
abbrev pub scope_of : {L A F S B I : Type 0} → Layout L A F S B I → L → A → S → Scope L B
scope_of lays l a s = record { label = l; before = lays.keep l a s }

-- what the end of a node gives, and the state after it; a node that goes on has no end yet
abbrev pub closing_items : {L A F S B I : Type 0} → Layout L A F S B I → Scope L B → Ender A → S → List I
closing_items lays scope (by_act a) s = lays.end_items scope.label scope.before a s
closing_items lays scope still_open s = []

abbrev pub closing_state : {L A F S B I : Type 0} → Layout L A F S B I → Scope L B → Ender A → S → S
closing_state lays scope (by_act a) s = lays.end_state scope.label scope.before a s
closing_state lays scope still_open s = s

-- the state after a forest, sibling after sibling
abbrev pub after : {L A F S B I : Type 0} → Layout L A F S B I → Forest L A F → S → S
after lays none s = s
after lays (leaf f next) s = after lays next (lays.leaf_state f s)
after lays (node l a inner x next) s =
    after lays next (closing_state lays (scope_of lays l a s) x (after lays inner (lays.begin_state l a s)))

-- what a forest gives, sibling after sibling
abbrev pub lay : {L A F S B I : Type 0} → Layout L A F S B I → Forest L A F → S → List I
lay lays none s = []
lay lays (leaf f next) s = lays.leaf_items f s ++ lay lays next (lays.leaf_state f s)
lay lays (node l a inner x next) s =
    lays.begin_items l a s ++ lay lays inner (lays.begin_state l a s)
    ++ closing_items lays (scope_of lays l a s) x (after lays inner (lays.begin_state l a s))
    ++ lay lays next (closing_state lays (scope_of lays l a s) x (after lays inner (lays.begin_state l a s)))

-- what ends the open nodes and follows them gives, the innermost first
abbrev pub lay_outer : {L A F S B I : Type 0} → Layout L A F S B I → List (Scope L B) → S → List (After L A F) → List I
lay_outer lays scopes s [] = []
lay_outer lays [] s (next ∷ outer) = []
lay_outer lays (scope ∷ scopes) s (next ∷ outer) =
    closing_items lays scope next.ender s ++ lay lays next.siblings (closing_state lays scope next.ender s)
    ++ lay_outer lays scopes (after lays next.siblings (closing_state lays scope next.ender s)) outer

abbrev pub lay_rest : {L A F S B I : Type 0} → Layout L A F S B I → List (Scope L B) → S → Rest L A F → List I
lay_rest lays scopes s r = lay lays r.here s ++ lay_outer lays scopes (after lays r.here s) r.outer

-- the first where the node is still open, else the second
abbrev pub if_open : {A X : Type 0} → Ender A → X → X → X
if_open still_open a b = a
if_open (by_act e) a b = b

-- the nodes of a forest that are still open, the innermost first, each with what it keeps
abbrev pub open_in : {L A F S B I : Type 0} → Layout L A F S B I → Forest L A F → S → List (Scope L B)
open_in lays none s = []
open_in lays (leaf f next) s = open_in lays next (lays.leaf_state f s)
open_in lays (node l a inner x next) s =
    if_open x (open_in lays inner (lays.begin_state l a s) ++ scope_of lays l a s ∷ [])
    (open_in lays next (closing_state lays (scope_of lays l a s) x (after lays inner (lays.begin_state l a s))))

-- the open nodes and those in what follows them
abbrev pub open_outer : {L A F S B I : Type 0} → Layout L A F S B I → List (Scope L B) → List (Scope L B) → S → List (After L A F) → List (Scope L B)
open_outer lays found scopes s [] = found ++ scopes
open_outer lays found [] s (next ∷ outer) = found
open_outer lays found (scope ∷ scopes) s (next ∷ outer) =
    if_open next.ender (found ++ scope ∷ scopes)
    (open_outer lays (open_in lays next.siblings (closing_state lays scope next.ender s)) scopes
    (after lays next.siblings (closing_state lays scope next.ender s)) outer)

abbrev pub open_rest : {L A F S B I : Type 0} → Layout L A F S B I → List (Scope L B) → S → Rest L A F → List (Scope L B)
open_rest lays scopes s r = open_outer lays (open_in lays r.here s) scopes (after lays r.here s) r.outer

-- the state after what follows the open nodes
abbrev pub after_outer : {L A F S B I : Type 0} → Layout L A F S B I → List (Scope L B) → S → List (After L A F) → S
after_outer lays scopes s [] = s
after_outer lays [] s (next ∷ outer) = s
after_outer lays (scope ∷ scopes) s (next ∷ outer) =
    after_outer lays scopes (after lays next.siblings (closing_state lays scope next.ender s)) outer

abbrev pub after_rest : {L A F S B I : Type 0} → Layout L A F S B I → List (Scope L B) → S → Rest L A F → S
after_rest lays scopes s r = after_outer lays scopes (after lays r.here s) r.outer

-- the mode after a list of acts
abbrev pub mode_after : {M L A F : Type 0} → Nesting M L A F → M → List L → List A → M
mode_after nests m nodes [] = m
mode_after nests m nodes (a ∷ acts) =
    mode_after nests (mode_of nests m a nodes) (inside (standing_of nests m a nodes) (left_by nests m a nodes)) acts

-- what acts give while the page goes on
unfoldable pub settled : {M L A F S B I : Type 0} → Nesting M L A F → Layout L A F S B I → TreeEdge M L S B → List A → List I
settled nests lays d acts = lay_rest lays d.scopes d.state (tree nests d.mode (labels d.scopes) acts)

-- what decides the rest after them
unfoldable pub edge : {M L A F S B I : Type 0} → Nesting M L A F → Layout L A F S B I → TreeEdge M L S B → List A → TreeEdge M L S B
edge nests lays d acts = record {
  mode = mode_after nests d.mode (labels d.scopes) acts;
  scopes = open_rest lays d.scopes d.state (tree nests d.mode (labels d.scopes) acts);
  state = after_rest lays d.scopes d.state (tree nests d.mode (labels d.scopes) acts);
}

-- ---- The code's own steps: the same by a stack of open nodes, the innermost first, and no tree. Source: man(7), mdoc(7).

-- an act ends this many of the innermost nodes
abbrev pub ended_items : {L A F S B I : Type 0} → Layout L A F S B I → ℕ → A → List (Scope L B) → S → List I
ended_items lays zero a scopes s = []
ended_items lays (suc n) a [] s = []
ended_items lays (suc n) a (scope ∷ scopes) s =
    lays.end_items scope.label scope.before a s ++ ended_items lays n a scopes (lays.end_state scope.label scope.before a s)

abbrev pub ended_state : {L A F S B I : Type 0} → Layout L A F S B I → ℕ → A → List (Scope L B) → S → S
ended_state lays zero a scopes s = s
ended_state lays (suc n) a [] s = s
ended_state lays (suc n) a (scope ∷ scopes) s = ended_state lays n a scopes (lays.end_state scope.label scope.before a s)

-- the act itself
abbrev pub placed_items : {L A F S B I : Type 0} → Layout L A F S B I → Standing L F → A → S → List I
placed_items lays (as_node l) a s = lays.begin_items l a s
placed_items lays (as_leaf f) a s = lays.leaf_items f s
placed_items lays as_nothing a s = []

abbrev pub placed_state : {L A F S B I : Type 0} → Layout L A F S B I → Standing L F → A → S → S
placed_state lays (as_node l) a s = lays.begin_state l a s
placed_state lays (as_leaf f) a s = lays.leaf_state f s
placed_state lays as_nothing a s = s

abbrev pub placed_scopes : {L A F S B I : Type 0} → Layout L A F S B I → Standing L F → A → List (Scope L B) → S → List (Scope L B)
placed_scopes lays (as_node l) a scopes s = scope_of lays l a s ∷ scopes
placed_scopes lays (as_leaf f) a scopes s = scopes
placed_scopes lays as_nothing a scopes s = scopes

abbrev pub count_ended : {M L A F S B : Type 0} → Nesting M L A F → TreeEdge M L S B → A → ℕ
count_ended nests d a = nests.ends d.mode a (labels d.scopes)

-- the state where the act has ended what it ends
abbrev pub state_left : {M L A F S B I : Type 0} → Nesting M L A F → Layout L A F S B I → TreeEdge M L S B → A → S
state_left nests lays d a = ended_state lays (count_ended nests d a) a d.scopes d.state

abbrev pub step_items : {M L A F S B I : Type 0} → Nesting M L A F → Layout L A F S B I → TreeEdge M L S B → A → List I
step_items nests lays d a =
    ended_items lays (count_ended nests d a) a d.scopes d.state
    ++ placed_items lays (standing_of nests d.mode a (labels d.scopes)) a (state_left nests lays d a)

abbrev pub step : {M L A F S B I : Type 0} → Nesting M L A F → Layout L A F S B I → TreeEdge M L S B → A → TreeEdge M L S B
step nests lays d a = record {
  mode = mode_of nests d.mode a (labels d.scopes);
  scopes = placed_scopes lays (standing_of nests d.mode a (labels d.scopes)) a (drop (count_ended nests d a) d.scopes) (state_left nests lays d a);
  state = placed_state lays (standing_of nests d.mode a (labels d.scopes)) a (state_left nests lays d a);
}

abbrev pub run_items : {M L A F S B I : Type 0} → Nesting M L A F → Layout L A F S B I → TreeEdge M L S B → List A → List I
run_items nests lays d [] = []
run_items nests lays d (a ∷ acts) = step_items nests lays d a ++ run_items nests lays (step nests lays d a) acts

abbrev pub run : {M L A F S B I : Type 0} → Nesting M L A F → Layout L A F S B I → TreeEdge M L S B → List A → TreeEdge M L S B
run nests lays d [] = d
run nests lays d (a ∷ acts) = run nests lays (step nests lays d a) acts

-- ---- The block tree node by node: what lies ahead of an inner forest goes to the enclosing one. Source: man(7), mdoc(7).

-- What still lies ahead: nothing; a list, under a mode; or an act that still ends this many nodes (of this many in all), and those after it, under the
-- mode before it.
pub data Ahead (M A : Type 0) : Type 0 where
  over : Ahead M A
  on : M → List A → Ahead M A
  ending : ℕ → ℕ → M → A → List A → Ahead M A

-- a forest, what ends the node that it is in, and what lies ahead of it
pub record Part (M L A F : Type 0) : Type 0 where
  pub forest : Forest L A F
  pub ender : Ender A
  pub ahead : Ahead M A

abbrev pub with_leaf : {M L A F : Type 0} → F → Part M L A F → Part M L A F
with_leaf f p = record p { forest = leaf f p.forest }

abbrev pub with_node : {M L A F : Type 0} → L → A → Part M L A F → Part M L A F → Part M L A F
with_node l a inner next = record next { forest = node l a inner.forest inner.ender next.forest }

-- the act itself: a node is a forest one deeper, and the enclosing forest goes on with what lies ahead of that
abbrev pub stand : {M L A F : Type 0} → Standing L F → M → A → List L → List A → (List L → Ahead M A → Part M L A F) → Part M L A F
stand (as_node l) m a nodes acts part = with_node l a (part (l ∷ nodes) (on m acts)) (part nodes (part (l ∷ nodes) (on m acts)).ahead)
stand (as_leaf f) m a nodes acts part = with_leaf f (part nodes (on m acts))
stand as_nothing m a nodes acts part = part nodes (on m acts)

-- the forest of the innermost node, in at most this many steps
abbrev pub part : {M L A F : Type 0} → Nesting M L A F → ℕ → List L → Ahead M A → Part M L A F
part nests zero nodes r = record { forest = none; ender = still_open; ahead = over }
part nests (suc k) nodes over = record { forest = none; ender = still_open; ahead = over }
part nests (suc k) nodes (on m []) = record { forest = none; ender = still_open; ahead = over }
part nests (suc k) nodes (on m (a ∷ acts)) = part nests k nodes (ending (nests.ends m a nodes) (nests.ends m a nodes) m a acts)
part nests (suc k) nodes (ending (suc more) n m a acts) = record { forest = none; ender = by_act a; ahead = ending more n m a acts }
part nests (suc k) nodes (ending zero n m a acts) =
    stand (nests.standing m a n nodes) (nests.mode m a n nodes) a nodes acts (λ open_nodes r. part nests k open_nodes r)

-- for each node around it, from the inside out: what ends the node, and the forest that follows it
abbrev pub around : {M L A F : Type 0} → Nesting M L A F → ℕ → List L → Part M L A F → List (After L A F)
around nests k [] p = []
around nests k (l ∷ nodes) p =
    record { ender = p.ender; siblings = (part nests k nodes p.ahead).forest } ∷ around nests k nodes (part nests k nodes p.ahead)

-- what lies ahead inside open nodes, part by part
abbrev pub rest_by : {M L A F : Type 0} → Nesting M L A F → ℕ → List L → Ahead M A → Rest L A F
rest_by nests k nodes r = record { here = (part nests k nodes r).forest; outer = around nests k nodes (part nests k nodes r) }

-- ---- A machine: asides: what is among a page's acts and is not of its language, as a message. Each is a leaf where it comes, under
-- every mode, and neither ends nor opens anything. Trust needs no reading of it.

-- an act of the language, or an aside; of a leaf the same
pub data With (Y A : Type 0) : Type 0 where
  act : A → With Y A
  aside : Y → With Y A

-- of an act what the language says, with its leaf wrapped; an aside ends nothing and is a leaf, and the mode stays
abbrev pub ends_with : {Y M L A F : Type 0} → Nesting M L A F → M → With Y A → List L → ℕ
ends_with nests m (act a) nodes = nests.ends m a nodes
ends_with nests m (aside y) nodes = 0

abbrev pub stands_with : {Y L F : Type 0} → Standing L F → Standing L (With Y F)
stands_with (as_node l) = as_node l
stands_with (as_leaf f) = as_leaf (act f)
stands_with as_nothing = as_nothing

abbrev pub standing_with : {Y M L A F : Type 0} → Nesting M L A F → M → With Y A → ℕ → List L → Standing L (With Y F)
standing_with nests m (act a) n nodes = stands_with (nests.standing m a n nodes)
standing_with nests m (aside y) n nodes = as_leaf (aside y)

abbrev pub mode_with : {Y M L A F : Type 0} → Nesting M L A F → M → With Y A → ℕ → List L → M
mode_with nests m (act a) n nodes = nests.mode m a n nodes
mode_with nests m (aside y) n nodes = m

abbrev pub with_asides : {Y M L A F : Type 0} → Nesting M L A F → Nesting M L (With Y A) (With Y F)
with_asides nests = record { ends = ends_with nests; standing = standing_with nests; mode = mode_with nests }

-- a state that asides have for themselves, beside a layout's
pub record Beside (H S : Type 0) : Type 0 where
  pub own : H
  pub rest : S

-- What is given before a leaf of the language; what an aside gives, and its own state after it; and an act that a layout's tables are asked with in
-- place of an aside, which they never are, since it opens and ends nothing.
pub record Sides (Y A F H S I : Type 0) : Type 0 where
  pub before : F → H → S → List I
  pub items : Y → H → S → List I
  pub own : Y → H → S → H
  pub in_place : Y → A

abbrev pub act_in : {Y A F H S I : Type 0} → Sides Y A F H S I → With Y A → A
act_in sides (act a) = a
act_in sides (aside y) = sides.in_place y

-- a leaf of the language gives what is before it and then its own; an aside what the sides say
abbrev pub leaf_items_with : {Y L A F H S B I : Type 0} → Layout L A F S B I → Sides Y A F H S I → With Y F → Beside H S → List I
leaf_items_with lays sides (act f) s = sides.before f s.own s.rest ++ lays.leaf_items f s.rest
leaf_items_with lays sides (aside y) s = sides.items y s.own s.rest

abbrev pub leaf_state_with : {Y L A F H S B I : Type 0} → Layout L A F S B I → Sides Y A F H S I → With Y F → Beside H S → Beside H S
leaf_state_with lays sides (act f) s = record { own = s.own; rest = lays.leaf_state f s.rest }
leaf_state_with lays sides (aside y) s = record { own = sides.own y s.own s.rest; rest = s.rest }

-- a layout of a language, and what its sides add
abbrev pub layout_with : {Y L A F H S B I : Type 0} → Layout L A F S B I → Sides Y A F H S I → Layout L (With Y A) (With Y F) (Beside H S) B I
layout_with lays sides = record {
  keep = λ l a s. lays.keep l (act_in sides a) s.rest;
  begin_items = λ l a s. lays.begin_items l (act_in sides a) s.rest;
  begin_state = λ l a s. record { own = s.own; rest = lays.begin_state l (act_in sides a) s.rest };
  leaf_items = λ f s. leaf_items_with lays sides f s;
  leaf_state = λ f s. leaf_state_with lays sides f s;
  end_items = λ l b a s. lays.end_items l b (act_in sides a) s.rest;
  end_state = λ l b a s. record { own = s.own; rest = lays.end_state l b (act_in sides a) s.rest };
}

-- an edge of the language, with the state beside it
abbrev pub beside : {M L H S B : Type 0} → H → TreeEdge M L S B → TreeEdge M L (Beside H S) B
beside own d = record { mode = d.mode; scopes = d.scopes; state = record { own = own; rest = d.state } }

-- what is given before the leaf that an act is
abbrev pub before_leaf : {Y L A F H S I : Type 0} → Sides Y A F H S I → Standing L F → H → S → List I
before_leaf sides (as_node l) own s = []
before_leaf sides (as_leaf f) own s = sides.before f own s
before_leaf sides as_nothing own s = []
