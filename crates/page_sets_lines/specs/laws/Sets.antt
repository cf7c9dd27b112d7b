-- What contracts of the code say by the definitions, and what is proved of these.
use Rattle.std.specs.Prelude.{◌≡◌, ℕ, ◌+◌, ◌≤◌, Bool, true, false, List, length, take, drop, ◌-◌, Option, None, Some, [], ◌∷◌}
use Rattle.page_roff_syntax.specs.declared.quotes.Argument.{Argument}
use Rattle.page_sets_lines.specs.declared.blocks.BlockCloser.{BlockCloser}
use Rattle.page_sets_lines.specs.declared.blocks.BlockCloser.TheVariants as block_closers
use Rattle.page_sets_lines.specs.declared.blocks.BlockOpener.{BlockOpener}
use Rattle.page_sets_lines.specs.declared.blocks.BlockOpener.TheVariants as block_openers
use Rattle.page_sets_lines.specs.declared.events.Event.{Event}
use Rattle.page_sets_lines.specs.declared.events.EventKind.{EventKind}
use Rattle.page_sets_lines.specs.declared.events.EventKind.TheVariants as kinds
use Rattle.page_sets_lines.specs.declared.leaves.Leaf.{Leaf}
use Rattle.page_sets_lines.specs.declared.leaves.Leaf.TheVariants as leaves
use Rattle.page_sets_lines.specs.declared.leaves.RequestLeaf.{RequestLeaf}
use Rattle.page_sets_lines.specs.declared.leaves.RequestLeaf.TheVariants as requests
use Rattle.page_sets_lines.specs.declared.line_steps.LineStep.{LineStep}
use Rattle.page_sets_lines.specs.declared.line_steps.LineStep.TheVariants as steps
use Rattle.page_sets_lines.specs.declared.openers.Closer.{Closer}
use Rattle.page_sets_lines.specs.declared.openers.Closer.TheVariants as closers
use Rattle.page_sets_lines.specs.declared.openers.Opener.{Opener}
use Rattle.page_sets_lines.specs.declared.openers.Opener.TheVariants as openers

-- a text is the slice of the line that begins after this many bytes
pub record IsSlice (line : List ℕ) (start : ℕ) (text : List ℕ) : Type 0 where
  pub within : start + length text ≤ length line
  pub bytes : take (length text) (drop start line) ≡ text

-- a text is a slice of the line
abbrev pub IsPart : List ℕ → List ℕ → Type 0
IsPart line text = (start : ℕ) × IsSlice line start text

-- an argument is the slice of the line at its column, which counts from 1
pub record IsArgument (line : List ℕ) (argument : Argument (List ℕ)) : Type 0 where
  pub column : 1 ≤ argument.column
  pub slice : IsSlice line (argument.column - 1) argument.text

-- `IsPart` of what may be missing
abbrev pub IsPartIfGiven : List ℕ → Option (List ℕ) → Type 0
IsPartIfGiven line None = Unit {0}
IsPartIfGiven line (Some text) = IsPart line text

abbrev pub IsArgumentIfGiven : List ℕ → Option (Argument (List ℕ)) → Type 0
IsArgumentIfGiven line None = Unit {0}
IsArgumentIfGiven line (Some argument) = IsArgument line argument

-- each argument of an event is the slice of the line at its column, and each other text a slice of it
abbrev pub BlockOpensSlices : List ℕ → BlockOpener (List ℕ) → Type 0
BlockOpensSlices line (block_openers.List kind is_compact options) = IsPart line options
BlockOpensSlices line (block_openers.Custom mark) = IsArgumentIfGiven line mark
BlockOpensSlices line (block_openers.Display is_literal is_compact offset) = IsArgumentIfGiven line offset
BlockOpensSlices line (block_openers.Function name) = IsArgument line name
BlockOpensSlices line _ = Unit {0}

abbrev pub BlockClosesSlices : List ℕ → BlockCloser (List ℕ) → Type 0
BlockClosesSlices line (block_closers.Custom mark) = IsArgumentIfGiven line mark
BlockClosesSlices line _ = Unit {0}

abbrev pub OpensSlices : List ℕ → Opener (List ℕ) → Type 0
OpensSlices line (openers.Tagged hang) = IsPartIfGiven line hang
OpensSlices line (openers.Indented tag hang) = IsArgumentIfGiven line tag × IsPartIfGiven line hang
OpensSlices line (openers.Hanging hang) = IsPartIfGiven line hang
OpensSlices line (openers.RelativeMargin columns) = IsPartIfGiven line columns
OpensSlices line (openers.Target link target) = IsArgument line target
OpensSlices line (openers.Syntax name) = IsArgument line name
OpensSlices line (openers.Block opener) = BlockOpensSlices line opener
OpensSlices line _ = Unit {0}

abbrev pub ClosesSlices : List ℕ → Closer (List ℕ) → Type 0
ClosesSlices line (closers.RelativeMargin number) = IsPartIfGiven line number
ClosesSlices line (closers.Target link suffix) = IsArgumentIfGiven line suffix
ClosesSlices line (closers.Block closer) = BlockClosesSlices line closer
ClosesSlices line _ = Unit {0}

abbrev pub RequestsSlices : List ℕ → RequestLeaf (List ℕ) → Type 0
RequestsSlices line (requests.Space rows) = IsPartIfGiven line rows
RequestsSlices line (requests.Font name) = IsArgumentIfGiven line name
RequestsSlices line (requests.Shift columns) = IsPartIfGiven line columns
RequestsSlices line _ = Unit {0}

abbrev pub StepsSlices : List ℕ → LineStep (List ℕ) → Type 0
StepsSlices line (steps.Uri uri) = IsArgument line uri
StepsSlices line _ = Unit {0}

abbrev pub LeavesSlices : List ℕ → Leaf (List ℕ) → Type 0
LeavesSlices line (leaves.Wordless text) = IsPart line text
LeavesSlices line (leaves.Request request) = RequestsSlices line request
LeavesSlices line (leaves.Prologue name rest) = IsPart line rest
LeavesSlices line (leaves.Distance rows) = IsPartIfGiven line rows
LeavesSlices line (leaves.Step step) = StepsSlices line step
LeavesSlices line _ = Unit {0}

abbrev pub HasSlices : List ℕ → EventKind (List ℕ) → Type 0
HasSlices line (kinds.Word word) = IsArgument line word.arg
HasSlices line (kinds.Open opener) = OpensSlices line opener
HasSlices line (kinds.Close closer) = ClosesSlices line closer
HasSlices line (kinds.Leaf leaf) = LeavesSlices line leaf
HasSlices line (kinds.Raw text) = IsPart line text
HasSlices line (kinds.Note kind detail is_quoted begins_body) = IsPart line detail
HasSlices line _ = Unit {0}

-- each event is so
abbrev pub AreAll : (Event (List ℕ) → Type 0) → List (Event (List ℕ)) → Type 0
AreAll IsSo [] = Unit {0}
AreAll IsSo (event ∷ events) = IsSo event × AreAll IsSo events

abbrev pub AreSlices : List ℕ → List (Event (List ℕ)) → Type 0
AreSlices line events = AreAll (λ event. HasSlices line event.kind) events

-- an event prints an argument, or a text of the macro's own
abbrev pub prints_text : EventKind (List ℕ) → Bool
prints_text (kinds.Word word) = true
prints_text (kinds.Leaf (leaves.Generated word)) = true
prints_text _ = false

-- the column from which the next word may begin, after this event
abbrev pub past : ℕ → EventKind (List ℕ) → ℕ
past from (kinds.Word word) = word.arg.column + length word.arg.text
past from _ = from

abbrev pub BeginsFrom : ℕ → EventKind (List ℕ) → Type 0
BeginsFrom from (kinds.Word word) = from ≤ word.arg.column
BeginsFrom from _ = Unit {0}

-- the words are in order: none begins before the one in front of it has ended
abbrev pub AreInOrder : ℕ → List (Event (List ℕ)) → Type 0
AreInOrder from [] = Unit {0}
AreInOrder from (event ∷ events) = BeginsFrom from event.kind × AreInOrder (past from event.kind) events
