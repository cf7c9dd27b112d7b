-- The body of a page: what its events give, by the block tree of its scopes laid out. Source: man(7), mdoc(7).
use Rattle.std.specs.Prelude.{ℕ, Bool, true, false, List, not, ◌&&◌, if◌then◌else◌, [], ◌∷◌, ◌++◌, Some, Option, None}
use Rattle.page_core_base.specs.Rows.{Item, shown, says}
use Rattle.page_core_base.specs.declared.note_kinds.NoteKind.TheVariants.{BeforeSection}
use Rattle.page_core_base.specs.declared.page_settings.Output.{Output}
use Rattle.page_core_base.specs.declared.pieces.Piece.TheVariants as pieces
use Rattle.page_core_base.specs.declared.places.Place.{Place}
use Rattle.page_core_numbers.specs.declared.scales.Scale.TheVariants.{Basic}
use Rattle.page_roff_syntax.specs.declared.quotes.Argument.{Argument}
use Rattle.page_sets_lines.specs.declared.blocks.BlockCloser.TheVariants as block_closers
use Rattle.page_sets_lines.specs.declared.events.Event.{Event}
use Rattle.page_sets_lines.specs.declared.events.EventKind.{EventKind}
use Rattle.page_sets_lines.specs.declared.events.EventKind.TheVariants as kinds
use Rattle.page_sets_lines.specs.declared.events.Join.TheVariants.{Glued}
use Rattle.page_sets_lines.specs.declared.leaves.Leaf.{Leaf}
use Rattle.page_sets_lines.specs.declared.leaves.Leaf.TheVariants as leaves
use Rattle.page_sets_lines.specs.declared.line_steps.LineStep.TheVariants as steps
use Rattle.page_sets_lines.specs.declared.openers.Closer.{Closer}
use Rattle.page_sets_lines.specs.declared.openers.Closer.TheVariants as closers
use Rattle.page_sets_lines.specs.declared.openers.LineOpener.TheVariants as lines
use Rattle.page_sets_lines.specs.declared.openers.Opener.TheVariants as openers
use Rattle.page_scopes_tree.specs.Placements.{ScopesEdge}
use Rattle.page_scopes_tree.specs.declared.acts.Act.{Act}
use Rattle.page_scopes_tree.specs.declared.acts.Act.TheVariants as acts
use Rattle.page_scopes_words.specs.Words.{at, number_notes}
use Rattle.page_scopes_layout.specs.Lists.{margin_items}
use Rattle.page_scopes_layout.specs.declared.contexts.Context.{Context}
use Rattle.page_scopes_phrases.specs.LineWords.{argument_word, line_word}
use Rattle.page_scopes_phrases.specs.Phrases.{EventOutcome, nothing, row_break}
use Rattle.page_scopes_phrases.specs.Phrases as formatting
use Rattle.page_scopes_phrases.specs.declared.formatting.Formatting.{Formatting}
use Rattle.page_scopes_phrases.specs.declared.kept_texts.KeptText.{KeptText}
use Rattle.page_scopes_blocks.specs.Blocks.{kind_counted}
use Rattle.page_scopes_nodes.specs.Begins.{kept_target}
use Rattle.page_scopes_nodes.specs.Leaves.{kind_outcome, name_after}
use Rattle.page_scopes_nodes.specs.declared.page_layouts.PageLayout.{PageLayout}
use Rattle.page_scopes.specs.declared.layouts.Kept.{Kept}
use Rattle.page_scopes.specs.declared.layouts.LayoutState.{LayoutState}

-- ---- The front of a page's body, and what events give that open no scope. Source: man(7), mdoc(7); mandoc(1), "DIAGNOSTICS".

-- ---- what begins the body: words, scopes, and lines as they are; a message where its macro does

-- an item and its head need a list, which has begun it
abbrev pub kind_begins : EventKind (List ℕ) → Bool
kind_begins (kinds.Word word) = true
kind_begins (kinds.Raw text) = true
kind_begins (kinds.Open openers.Item) = false
kind_begins (kinds.Open opener) = true
kind_begins (kinds.LineScope lines.Head) = false
kind_begins (kinds.LineScope opener) = true
kind_begins (kinds.Leaf (leaves.Generated word)) = true
kind_begins (kinds.Leaf leaves.FurtherTag) = true
kind_begins (kinds.Leaf (leaves.Step (steps.Uri uri))) = true
kind_begins (kinds.Leaf (leaves.Step steps.ManualName)) = true
kind_begins (kinds.Leaf (leaves.Step steps.FunctionEnd)) = true
kind_begins (kinds.Note kind detail is_quoted begins_body) = begins_body
kind_begins _ = false

abbrev pub begins : EventKind (List ℕ) → (has_begun : Bool) → Bool
begins kind has_begun = not has_begun && kind_begins kind

-- a body that has begun stays so
abbrev pub begun_after : EventKind (List ℕ) → (has_begun : Bool) → Bool
begun_after kind has_begun = if begins kind has_begun then true else has_begun

-- it is to begin by a section
abbrev pub is_section : EventKind (List ℕ) → Bool
is_section (kinds.Open openers.Section) = true
is_section _ = false

abbrev pub front_items : Place → EventKind (List ℕ) → Context → List Item
front_items place kind c =
    (if is_section kind then [] else says BeforeSection (at place.line 1) [] ∷ []) ++ shown (pieces.Literal c.is_literal.value) ∷ margin_items c

-- ---- an event comes: it may begin the body, and the number of its closer is read

abbrev pub kind_notes : Place → EventKind (List ℕ) → List Item
kind_notes place (kinds.Close (closers.RelativeMargin (Some number))) = number_notes Basic place number
kind_notes place _ = []

unfoldable pub coming : Place → EventKind (List ℕ) → Context → (has_begun : Bool) → List Item
coming place kind c has_begun = (if begins kind has_begun then front_items place kind c else []) ++ kind_notes place kind

-- ---- an act that opens nothing: after a closer its suffix is glued to what its scope ended with

-- the suffix of `UE` and `ME`, and the mark of `Ec`
abbrev pub closer_suffix : Closer (List ℕ) → Option (Argument (List ℕ))
closer_suffix (closers.Target link argument) = argument
closer_suffix (closers.Block (block_closers.Custom mark)) = mark
closer_suffix _ = None

abbrev pub given_suffix : ℕ → Option (Argument (List ℕ)) → Formatting → EventOutcome
given_suffix line None s = nothing s
given_suffix line (Some argument) s = line_word line (argument_word None Glued argument) s

-- before the body requests, blank lines and lines without a word give nothing
abbrev pub is_early : Leaf (List ℕ) → (has_begun : Bool) → Bool
is_early leaves.BlankLine has_begun = not has_begun
is_early (leaves.Wordless text) has_begun = not has_begun
is_early (leaves.Request request) has_begun = not has_begun
is_early _ has_begun = false

abbrev pub kind_stands : Place → EventKind (List ℕ) → Option KeptText → (has_begun : Bool) → Formatting → EventOutcome
kind_stands place (kinds.Close closer) name has_begun s = given_suffix place.line (closer_suffix closer) s
kind_stands place (kinds.Leaf leaf) name has_begun s =
    if is_early leaf has_begun then nothing s else kind_outcome place (kinds.Leaf leaf) name s
kind_stands place kind name has_begun s = kind_outcome place kind name s

-- with the columns of a name that begins a row of the SYNOPSIS; the name is that of the manual; at the page's end the row ends
unfoldable pub stands : Output → Act (Event (List ℕ)) → Option KeptText → (has_begun : Bool) → Formatting → EventOutcome
stands output (acts.Event event) name has_begun s = kind_stands event.place event.kind name has_begun (kind_counted output event.kind name s)
stands output (acts.PageEnd line) name has_begun s = row_break s

abbrev pub act_name : Act (Event (List ℕ)) → Option KeptText → Option KeptText
act_name (acts.Event event) name = name_after event.kind name
act_name (acts.PageEnd line) name = name

-- ---- The layout of man(7) and mdoc(7): what scopes keep, begin with and end with, and what other events give. Source: man(7), "MACRO OVERVIEW"; mdoc(7), "MACRO REFERENCE".

-- before a page's first line
abbrev pub start : PageLayout → LayoutState
start page = record { page = page; formatting = formatting.start page.indent; has_begun = false; name = None }

abbrev pub kept : Event (List ℕ) → LayoutState → Kept
kept event s = record { context = s.formatting.context; target = kept_target event.kind }

-- ---- What the events of a page give, by the block tree of its scopes laid out, and what decides the rest. Source: man(7), mdoc(7).

-- scopes' part of a page's edge: the open scopes, and what the page is formatted by
abbrev pub PageEdge : Type 0
PageEdge = ScopesEdge LayoutState Kept

-- before a page's first line no scope is open
abbrev pub start_edge : PageLayout → PageEdge
start_edge page = record { mode = false; scopes = []; state = start page }
