-- What contracts of the code say by the definitions, and what is proved of these.
use Rattle.std.specs.Borrow.{Bor}
use Rattle.std.specs.Prelude.{ℕ, ◌==◌, Bool, ◌≡◌, ◌≤◌, MatchOption, List, [], ◌∷◌, length, Option, ◌<◌, ◌+◌, ◌^◌, None, Some}
use Rattle.page_core_base.specs.Limits.{LINE}
use Rattle.page_roff_syntax.specs.laws.Views.{argument_view}
use Rattle.page_roff_syntax.specs.declared.quotes.Argument.{Argument}
use Rattle.page_sets_lines.specs.Lines.{arguments_after}
use Rattle.page_sets_lines.specs.laws.Events.{given_view}
use Rattle.page_sets_lines.specs.declared.blocks.BlockCloser.{BlockCloser}
use Rattle.page_sets_lines.specs.declared.blocks.BlockCloser.TheVariants as block_closers
use Rattle.page_sets_lines.specs.declared.blocks.BlockOpener.{BlockOpener}
use Rattle.page_sets_lines.specs.declared.blocks.BlockOpener.TheVariants as block_openers
use Rattle.page_sets_lines.specs.declared.events.Event.{Event}
use Rattle.page_sets_lines.specs.declared.events.EventKind.{EventKind}
use Rattle.page_sets_lines.specs.declared.events.EventKind.TheVariants as kinds
use Rattle.page_sets_lines.specs.declared.leaves.Leaf.{Leaf}
use Rattle.page_sets_lines.specs.declared.leaves.Leaf.TheVariants as leaves
use Rattle.page_sets_lines.specs.declared.line_steps.LineStep.{LineStep}
use Rattle.page_sets_lines.specs.declared.line_steps.LineStep.TheVariants as steps
use Rattle.page_sets_lines.specs.declared.lists.ListOptions.{ListOptions}
use Rattle.page_sets_lines.specs.declared.openers.Closer.{Closer}
use Rattle.page_sets_lines.specs.declared.openers.Closer.TheVariants as closers
use Rattle.page_sets_lines.specs.declared.openers.Opener.{Opener}
use Rattle.page_sets_lines.specs.declared.openers.Opener.TheVariants as openers

-- the byte around an argument
abbrev pub is_quote : ℕ → Bool
is_quote byte = byte == 34

-- the first of the arguments that begin after this many bytes, if there is one, and where the others begin
abbrev pub ReadsAfter : ℕ → List ℕ → Option (Argument (Bor (List ℕ)) × ℕ) → Type 0
ReadsAfter start text result =
    MatchOption result (arguments_after start text ≡ [])
    (λ read. (read.1 ≤ length text) × (arguments_after start text ≡ argument_view read.0 ∷ arguments_after read.1 text))

-- ---- options of the program, with what their texts hold

abbrev pub options_view : ListOptions (Bor (List ℕ)) → ListOptions (List ℕ)
options_view options = record {
  kind = options.kind;
  is_compact = options.is_compact;
  width = given_view options.width;
  offset = given_view options.offset;
  awaited = options.awaited;
}

-- a text of a line, up to whose end columns have room
pub record FitsAt (column : ℕ) (text : List ℕ) : Type 0 where
  pub short : length text ≤ LINE
  pub room : column + length text < 2 ^ 32

abbrev pub ArgumentFits : Argument (List ℕ) → Type 0
ArgumentFits argument = FitsAt argument.column argument.text

abbrev pub GivenFits : Option (Argument (List ℕ)) → Type 0
GivenFits None = Unit {0}
GivenFits (Some argument) = ArgumentFits argument

abbrev pub BlockOpenerFits : BlockOpener (List ℕ) → Type 0
BlockOpenerFits (block_openers.List kind is_compact options) = length options ≤ LINE
BlockOpenerFits (block_openers.Custom mark) = GivenFits mark
BlockOpenerFits (block_openers.Display is_literal is_compact offset) = GivenFits offset
BlockOpenerFits (block_openers.Function name) = ArgumentFits name
BlockOpenerFits _ = Unit {0}

abbrev pub BlockCloserFits : BlockCloser (List ℕ) → Type 0
BlockCloserFits (block_closers.Custom mark) = GivenFits mark
BlockCloserFits _ = Unit {0}

abbrev pub OpenerFits : Opener (List ℕ) → Type 0
OpenerFits (openers.Indented tag hang) = GivenFits tag
OpenerFits (openers.Target link target) = ArgumentFits target
OpenerFits (openers.Syntax name) = ArgumentFits name
OpenerFits (openers.Block opener) = BlockOpenerFits opener
OpenerFits _ = Unit {0}

abbrev pub CloserFits : Closer (List ℕ) → Type 0
CloserFits (closers.Target link suffix) = GivenFits suffix
CloserFits (closers.Block closer) = BlockCloserFits closer
CloserFits _ = Unit {0}

abbrev pub StepFits : LineStep (List ℕ) → Type 0
StepFits (steps.Uri uri) = ArgumentFits uri
StepFits _ = Unit {0}

abbrev pub LeafFits : Leaf (List ℕ) → Type 0
LeafFits (leaves.Step step) = StepFits step
LeafFits _ = Unit {0}

-- the texts that an event prints are in a line
abbrev pub KindFits : EventKind (List ℕ) → Type 0
KindFits (kinds.Word word) = ArgumentFits word.arg
KindFits (kinds.Open opener) = OpenerFits opener
KindFits (kinds.Close closer) = CloserFits closer
KindFits (kinds.Leaf leaf) = LeafFits leaf
KindFits _ = Unit {0}

-- what follows a macro of the prologue is no longer than a line
abbrev pub RestIsShort : EventKind (List ℕ) → Type 0
RestIsShort (kinds.Leaf (leaves.Prologue name rest)) = length rest ≤ LINE
RestIsShort _ = Unit {0}

-- the texts of a kind of event, or of an event, are in a line
abbrev pub IsShortKind : EventKind (List ℕ) → Type 0
IsShortKind kind = KindFits kind × RestIsShort kind

abbrev pub IsShort : Event (List ℕ) → Type 0
IsShort event = IsShortKind event.kind
