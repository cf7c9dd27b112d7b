-- What becomes of an event itself, once it ended what it ends, and the messages of scopes that end otherwise than by their own closer. Source: man(7), mdoc(7).
use Rattle.std.specs.Option.{option_to_list}
use Rattle.std.specs.Prelude.{ℕ, List, Bool, nat_lt, length, if◌then◌else◌, ◌&&◌, nat_le, zero, suc, Some, false, [], ◌∷◌, true, ◌||◌, not, ◌==◌, codes, Option, None, map}
use Rattle.std.specs.Str.{bytes_eq}
use Rattle.page_core_base.specs.Limits.{SCOPES, name_of}
use Rattle.page_core_base.specs.Rows.{Item, says}
use Rattle.page_core_base.specs.declared.limits.Limit.TheVariants as limits
use Rattle.page_core_base.specs.declared.note_kinds.NoteKind.{NoteKind}
use Rattle.page_core_base.specs.declared.note_kinds.NoteKind.TheVariants as note_kinds
use Rattle.page_sets_names.specs.Names.{link_closer_name}
use Rattle.page_sets_lines.specs.Blocks.{opened_block, block_closer_name, closed_block}
use Rattle.page_sets_lines.specs.declared.blocks.BlockOpener.TheVariants as block_openers
use Rattle.page_sets_lines.specs.declared.events.Event.{Event}
use Rattle.page_sets_lines.specs.declared.events.EventKind.{EventKind}
use Rattle.page_sets_lines.specs.declared.events.EventKind.TheVariants as kinds
use Rattle.page_sets_lines.specs.declared.leaves.Leaf.TheVariants as leaves
use Rattle.page_sets_lines.specs.declared.leaves.RequestLeaf.{RequestLeaf}
use Rattle.page_sets_lines.specs.declared.leaves.RequestLeaf.TheVariants as requests
use Rattle.page_sets_lines.specs.declared.openers.Closer.{Closer}
use Rattle.page_sets_lines.specs.declared.openers.Closer.TheVariants as closers
use Rattle.page_sets_lines.specs.declared.openers.LineOpener.{LineOpener}
use Rattle.page_sets_lines.specs.declared.openers.LineOpener.TheVariants.{Head, Description, OneLine}
use Rattle.page_sets_lines.specs.declared.openers.Opener.{Opener}
use Rattle.page_sets_lines.specs.declared.openers.Opener.TheVariants as openers
use Rattle.page_scopes_labels.specs.Labels.{is_list, is_headed_list, is_line, label_row, label_name}
use Rattle.page_scopes_labels.specs.declared.labels.Explicit.TheVariants.{RelativeMargin, Target, Syntax, Block}
use Rattle.page_scopes_labels.specs.declared.labels.Label.{Label}
use Rattle.page_scopes_labels.specs.declared.labels.Label.TheVariants as labels
use Rattle.page_scopes_labels.specs.declared.labels.ScopeEnd.{ScopeEnd}
use Rattle.page_scopes_labels.specs.declared.labels.ScopeEnd.TheVariants as ends
use Rattle.page_scopes_tree.specs.Ends.{inside, event_of, TreeEdge}
use Rattle.page_scopes_tree.specs.declared.acts.Act.{Act}
use Rattle.page_scopes_tree.specs.declared.acts.Act.TheVariants as acts
use Rattle.page_scopes_tree.specs.declared.placements.Obstacle.{Obstacle}
use Rattle.page_scopes_tree.specs.declared.placements.Obstacle.TheVariants.{Scopes, OutsideList, NotOpen, FewerMargins}
use Rattle.page_scopes_tree.specs.declared.placements.Placement.{Placement}
use Rattle.page_scopes_tree.specs.declared.placements.Placement.TheVariants as placements

-- ---- What becomes of an event itself, once it ended what it ends. Source: man(7), "MACRO OVERVIEW"; mdoc(7), "MACRO REFERENCE".

-- the scope that an opener opens
abbrev pub opener_label : Opener (List ℕ) → Label
opener_label openers.Item = labels.Item
opener_label openers.Section = labels.Section
opener_label openers.Subsection = labels.Subsection
opener_label (openers.Paragraph name) = labels.Paragraph
opener_label (openers.Tagged hang) = labels.Paragraph
opener_label (openers.Indented tag hang) = labels.Paragraph
opener_label (openers.Hanging hang) = labels.Paragraph
opener_label (openers.RelativeMargin columns) = labels.Explicit RelativeMargin
opener_label (openers.Target link target) = labels.Explicit (Target link)
opener_label (openers.Syntax name) = labels.Explicit Syntax
opener_label (openers.Block opener) = labels.Explicit (Block (opened_block opener))

abbrev pub has_room : List Label → Bool
has_room remaining = nat_lt (length remaining) SCOPES

-- a scope opens where fewer than `SCOPES` are remaining
abbrev pub opened : List Label → Label → Placement
opened remaining label = if has_room remaining then placements.Node label else placements.Refused Scopes

-- a list is open
abbrev pub in_list : List Label → Bool
in_list remaining = nat_lt (inside is_list remaining) (length remaining)

-- the items of the innermost list have heads: such a list is open, and none is inside it
abbrev pub in_headed_list : List Label → Bool
in_headed_list remaining =
    nat_lt (inside is_headed_list remaining) (length remaining) && nat_le (inside is_headed_list remaining) (inside is_list remaining)

-- an item needs a list
unfoldable pub opener_placement : Opener (List ℕ) → List Label → Placement
opener_placement openers.Item remaining = if in_list remaining then opened remaining labels.Item else placements.Refused OutsideList
opener_placement opener remaining = opened remaining (opener_label opener)

-- the words of `It` are a head where items have heads, and else those of the item's text
unfoldable pub line_placement : LineOpener → List Label → Placement
line_placement Head remaining = if in_headed_list remaining then opened remaining (labels.Line Head) else placements.Nothing
line_placement opener remaining = opened remaining (labels.Line opener)

-- a closer that ended a scope is a leaf, as its suffix is; one that ended none is refused
abbrev pub closed : Obstacle → ℕ → Placement
closed obstacle zero = placements.Refused obstacle
closed obstacle (suc n) = placements.Leaf

-- with a number `RE` speaks of how many there are
abbrev pub closer_placement : Closer (List ℕ) → ℕ → Placement
closer_placement closers.Line n = placements.Nothing
closer_placement closers.Enclosures n = placements.Nothing
closer_placement (closers.RelativeMargin (Some number)) n = closed FewerMargins n
closer_placement _ n = closed NotOpen n

-- whether the innermost scope is a line scope
abbrev pub in_line_scope : List Label → Bool
in_line_scope [] = false
in_line_scope (label ∷ nodes) = is_line label

-- a line scope drops breaks and blank rows
abbrev pub is_dropped : RequestLeaf (List ℕ) → Bool
is_dropped requests.Break = true
is_dropped (requests.Space rows) = true
is_dropped _ = false

-- of an event that ended this many scopes, where these are remaining
abbrev pub kind_placement : EventKind (List ℕ) → ℕ → List Label → Placement
kind_placement (kinds.Open opener) n remaining = opener_placement opener remaining
kind_placement (kinds.Close closer) n remaining = closer_placement closer n
kind_placement (kinds.LineScope opener) n remaining = line_placement opener remaining
kind_placement (kinds.Leaf (leaves.Request request)) n remaining =
    if in_line_scope remaining && is_dropped request then placements.Nothing else placements.Leaf
kind_placement _ n remaining = placements.Leaf

abbrev pub act_placement : Act (Event (List ℕ)) → ℕ → List Label → Placement
act_placement (acts.Event event) n remaining = kind_placement event.kind n remaining
act_placement (acts.PageEnd line) n remaining = placements.Leaf

-- ---- what is passed over

-- a paragraph, list or item whose opener is refused passes over the rest of its line
abbrev pub opens_paragraph : Opener (List ℕ) → Bool
opens_paragraph openers.Item = true
opens_paragraph (openers.Block (block_openers.List kind is_compact options)) = true
opens_paragraph (openers.Paragraph name) = true
opens_paragraph (openers.Tagged hang) = true
opens_paragraph (openers.Indented tag hang) = true
opens_paragraph (openers.Hanging hang) = true
opens_paragraph _ = false

unfoldable pub opener_skips : Opener (List ℕ) → List Label → Bool
opener_skips openers.Item remaining = not (in_list remaining) || not (has_room remaining)
opener_skips opener remaining = opens_paragraph opener && not (has_room remaining)

-- so does a description (`Nd`), or a row that is alone (`D1`, `Dl`)
abbrev pub opens_row : LineOpener → Bool
opens_row Description = true
opens_row (OneLine name) = true
opens_row _ = false

-- so does the closer of a link that ended none (`UE`, `ME`): its further words are nothing either
abbrev pub closer_skips : Closer (List ℕ) → ℕ → Bool
closer_skips (closers.Target link suffix) n = n == 0
closer_skips _ n = false

-- whether the rest of the line is passed over after an event that ended this many scopes
abbrev pub kind_skips : Bool → EventKind (List ℕ) → ℕ → List Label → Bool
kind_skips skips (kinds.End fills) n remaining = false
kind_skips skips (kinds.Open opener) n remaining = skips || opener_skips opener remaining
kind_skips skips (kinds.LineScope opener) n remaining = skips || (opens_row opener && not (has_room remaining))
kind_skips skips (kinds.Close closer) n remaining = closer_skips closer n || skips
kind_skips skips _ n remaining = skips

abbrev pub act_skips : Bool → Act (Event (List ℕ)) → ℕ → List Label → Bool
act_skips skips (acts.Event event) n remaining = kind_skips skips event.kind n remaining
act_skips skips (acts.PageEnd line) n remaining = skips

-- what ends a line is never passed over, nor is the page's end
abbrev pub ends_line : EventKind (List ℕ) → Bool
ends_line (kinds.End fills) = true
ends_line _ = false

abbrev pub is_passed_over : Bool → Act (Event (List ℕ)) → Bool
is_passed_over skips (acts.Event event) = skips && not (ends_line event.kind)
is_passed_over skips (acts.PageEnd line) = false

-- ---- The message of a scope that ends otherwise than by its own closer, and of an event that is refused. Source: mandoc(1), "DIAGNOSTICS".

-- ---- the names of closers

abbrev pub closer_name : Closer (List ℕ) → List ℕ
closer_name (closers.RelativeMargin number) = codes "RE"
closer_name (closers.Target link suffix) = link_closer_name link
closer_name closers.Syntax = codes "YS"
closer_name (closers.Block closer) = block_closer_name (closed_block closer)
closer_name _ = []

-- the next synopsis ends one as its closer does
abbrev pub opener_closer_name : Opener (List ℕ) → List ℕ
opener_closer_name (openers.Syntax name) = codes "YS"
opener_closer_name _ = []

-- ---- a scope that has a closer of this name ends by it, or breaks

abbrev pub broken_unless : Bool → NoteKind → Option NoteKind
broken_unless is_generated kind = if is_generated then None else Some kind

abbrev pub explicit_broken : EventKind (List ℕ) → List ℕ → Option NoteKind
explicit_broken (kinds.Close closer) own = broken_unless (bytes_eq (closer_name closer) own) note_kinds.BadNest
explicit_broken (kinds.Open opener) own = broken_unless (bytes_eq (opener_closer_name opener) own) note_kinds.MissingEnd
explicit_broken _ own = Some note_kinds.MissingEnd

-- ---- a line scope

-- macros that no line scope takes, blank lines and raw lines break line scopes
abbrev pub line_broken : EventKind (List ℕ) → Option NoteKind
line_broken (kinds.Close closers.Line) = Some note_kinds.LineScope
line_broken (kinds.Leaf leaves.BlankLine) = Some note_kinds.LineScope
line_broken (kinds.Raw text) = Some note_kinds.LineScope
line_broken _ = None

-- ---- any scope, by its end

abbrev pub end_broken : EventKind (List ℕ) → ScopeEnd (List ℕ) → Option NoteKind
end_broken kind ends.Implied = None
end_broken kind ends.Line = line_broken kind
end_broken kind (ends.Closer own) = explicit_broken kind own

-- at the page's end line scopes end without a message
abbrev pub page_end_broken : ScopeEnd (List ℕ) → Option NoteKind
page_end_broken (ends.Closer own) = Some note_kinds.MissingEnd
page_end_broken _ = None

abbrev pub broken : Act (Event (List ℕ)) → Label → Option NoteKind
broken (acts.Event event) label = end_broken event.kind (label_row label).end
broken (acts.PageEnd line) label = page_end_broken (label_row label).end

-- the message of a scope that an act ends
abbrev pub broken_notes : Act (Event (List ℕ)) → Label → List Item
broken_notes act label = map (λ kind. says kind (event_of act).place (label_name label)) (option_to_list (broken act label))

-- ---- refused events

abbrev pub kind_closer_name : EventKind (List ℕ) → List ℕ
kind_closer_name (kinds.Close closer) = closer_name closer
kind_closer_name _ = []

abbrev pub obstacle_notes : Obstacle → Act (Event (List ℕ)) → List Item
obstacle_notes OutsideList act = says note_kinds.ItemOutside (event_of act).place [] ∷ []
obstacle_notes Scopes act = says note_kinds.Limit (event_of act).place (name_of limits.Scopes) ∷ []
obstacle_notes NotOpen act = says note_kinds.NotOpen (event_of act).place (kind_closer_name (event_of act).kind) ∷ []
obstacle_notes FewerMargins act = says note_kinds.FewerRs (event_of act).place [] ∷ []

-- ---- What the events of a page give, by the block tree of its scopes, and what decides the rest. Source: man(7), mdoc(7).

-- what decides the rest of a page: whether the rest of a line is passed over, the open scopes, and the layout's state
abbrev pub ScopesEdge : Type 0 → Type 0 → Type 0
ScopesEdge S B = TreeEdge Bool Label S B
