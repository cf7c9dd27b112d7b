-- What contracts of the code say by the definitions, and what is proved of these.
use Rattle.std.specs.Borrow.{Bor}
use Rattle.std.specs.Prelude.{ℕ, List, Option, None, Some, ◌≡◌, [], ◌∷◌, MatchOption, codes}
use Rattle.page_roff_syntax.specs.laws.Views.{argument_view}
use Rattle.page_roff_syntax.specs.declared.quotes.Argument.{Argument}
use Rattle.page_sets_names.specs.Marks.{row_of_marks}
use Rattle.page_sets_names.specs.Names.{font_macro_name, heading_name, one_line_name, tag_name}
use Rattle.page_sets_lines.specs.declared.blocks.BlockCloser.{BlockCloser}
use Rattle.page_sets_lines.specs.declared.blocks.BlockCloser.TheVariants as block_closers
use Rattle.page_sets_lines.specs.declared.blocks.BlockOpener.{BlockOpener}
use Rattle.page_sets_lines.specs.declared.blocks.BlockOpener.TheVariants as block_openers
use Rattle.page_sets_lines.specs.declared.events.Event.{Event}
use Rattle.page_sets_lines.specs.declared.events.EventKind.{EventKind}
use Rattle.page_sets_lines.specs.declared.events.EventKind.TheVariants as kinds
use Rattle.page_sets_lines.specs.declared.events.Word.{Word}
use Rattle.page_sets_lines.specs.declared.leaves.Leaf.{Leaf}
use Rattle.page_sets_lines.specs.declared.leaves.Leaf.TheVariants as leaves
use Rattle.page_sets_lines.specs.declared.leaves.RequestLeaf.{RequestLeaf}
use Rattle.page_sets_lines.specs.declared.leaves.RequestLeaf.TheVariants as requests
use Rattle.page_sets_lines.specs.declared.line_steps.LineStep.{LineStep}
use Rattle.page_sets_lines.specs.declared.line_steps.LineStep.TheVariants as steps
use Rattle.page_sets_lines.specs.declared.openers.Closer.{Closer}
use Rattle.page_sets_lines.specs.declared.openers.Closer.TheVariants as closers
use Rattle.page_sets_lines.specs.declared.openers.LineOpener.{LineOpener}
use Rattle.page_sets_lines.specs.declared.openers.LineOpener.TheVariants.{Head, Heading, Tag, FontWords, Enclosure, Description, OneLine}
use Rattle.page_sets_lines.specs.declared.openers.Opener.{Opener}
use Rattle.page_sets_lines.specs.declared.openers.Opener.TheVariants as openers

-- a text that may be there
abbrev pub text_view : Option (Bor (List ℕ)) → Option (List ℕ)
text_view None = None
text_view (Some text) = Some text.now

-- an argument that may be there
abbrev pub given_view : Option (Argument (Bor (List ℕ))) → Option (Argument (List ℕ))
given_view None = None
given_view (Some argument) = Some (argument_view argument)

abbrev pub block_opener_view : BlockOpener (Bor (List ℕ)) → BlockOpener (List ℕ)
block_opener_view (block_openers.List kind is_compact options) = block_openers.List kind is_compact options.now
block_opener_view (block_openers.Quotation quotation) = block_openers.Quotation quotation
block_opener_view (block_openers.Custom mark) = block_openers.Custom (given_view mark)
block_opener_view block_openers.Extension = block_openers.Extension
block_opener_view (block_openers.Display is_literal is_compact offset) = block_openers.Display is_literal is_compact (given_view offset)
block_opener_view (block_openers.Fonts font) = block_openers.Fonts font
block_opener_view block_openers.Keep = block_openers.Keep
block_opener_view block_openers.Reference = block_openers.Reference
block_opener_view (block_openers.Function name) = block_openers.Function (argument_view name)

abbrev pub block_closer_view : BlockCloser (Bor (List ℕ)) → BlockCloser (List ℕ)
block_closer_view block_closers.List = block_closers.List
block_closer_view (block_closers.Quotation quotation) = block_closers.Quotation quotation
block_closer_view (block_closers.Custom mark) = block_closers.Custom (given_view mark)
block_closer_view block_closers.Extension = block_closers.Extension
block_closer_view block_closers.Display = block_closers.Display
block_closer_view block_closers.Fonts = block_closers.Fonts
block_closer_view block_closers.Keep = block_closers.Keep
block_closer_view block_closers.Reference = block_closers.Reference
block_closer_view block_closers.Function = block_closers.Function

abbrev pub opener_view : Opener (Bor (List ℕ)) → Opener (List ℕ)
opener_view openers.Item = openers.Item
opener_view openers.Section = openers.Section
opener_view openers.Subsection = openers.Subsection
opener_view (openers.Paragraph name) = openers.Paragraph name
opener_view (openers.Tagged hang) = openers.Tagged (text_view hang)
opener_view (openers.Indented tag hang) = openers.Indented (given_view tag) (text_view hang)
opener_view (openers.Hanging hang) = openers.Hanging (text_view hang)
opener_view (openers.RelativeMargin columns) = openers.RelativeMargin (text_view columns)
opener_view (openers.Target link target) = openers.Target link (argument_view target)
opener_view (openers.Syntax name) = openers.Syntax (argument_view name)
opener_view (openers.Block opener) = openers.Block (block_opener_view opener)

abbrev pub closer_view : Closer (Bor (List ℕ)) → Closer (List ℕ)
closer_view closers.Line = closers.Line
closer_view (closers.RelativeMargin number) = closers.RelativeMargin (text_view number)
closer_view (closers.Target link suffix) = closers.Target link (given_view suffix)
closer_view closers.Syntax = closers.Syntax
closer_view closers.Enclosures = closers.Enclosures
closer_view (closers.Block closer) = closers.Block (block_closer_view closer)

abbrev pub request_view : RequestLeaf (Bor (List ℕ)) → RequestLeaf (List ℕ)
request_view requests.Break = requests.Break
request_view (requests.Space rows) = requests.Space (text_view rows)
request_view (requests.Font name) = requests.Font (given_view name)
request_view (requests.Shift columns) = requests.Shift (text_view columns)
request_view (requests.Literal on) = requests.Literal on

abbrev pub step_view : LineStep (Bor (List ℕ)) → LineStep (List ℕ)
step_view steps.NextColumn = steps.NextColumn
step_view steps.Glue = steps.Glue
step_view (steps.BodyParagraph name) = steps.BodyParagraph name
step_view (steps.Uri uri) = steps.Uri (argument_view uri)
step_view steps.ManualName = steps.ManualName
step_view steps.NextField = steps.NextField
step_view steps.NextArgument = steps.NextArgument
step_view steps.FunctionEnd = steps.FunctionEnd
step_view (steps.Spacing on) = steps.Spacing on
step_view (steps.Synopsis step) = steps.Synopsis step

abbrev pub leaf_view : Leaf (Bor (List ℕ)) → Leaf (List ℕ)
leaf_view leaves.BlankLine = leaves.BlankLine
leaf_view (leaves.Wordless text) = leaves.Wordless text.now
leaf_view (leaves.Request request) = leaves.Request (request_view request)
leaf_view (leaves.Prologue name rest) = leaves.Prologue name rest.now
leaf_view (leaves.Generated word) = leaves.Generated word
leaf_view (leaves.Example begins) = leaves.Example begins
leaf_view (leaves.Distance rows) = leaves.Distance (text_view rows)
leaf_view (leaves.Fonts font) = leaves.Fonts font
leaf_view leaves.FurtherTag = leaves.FurtherTag
leaf_view (leaves.Step step) = leaves.Step (step_view step)

abbrev pub word_view : Word (Bor (List ℕ)) → Word (List ℕ)
word_view word = record {
  arg = argument_view word.arg;
  role = word.role;
  font = word.font;
  before = word.before;
  after = word.after;
}

abbrev pub kind_view : EventKind (Bor (List ℕ)) → EventKind (List ℕ)
kind_view (kinds.Word word) = kinds.Word (word_view word)
kind_view (kinds.Open opener) = kinds.Open (opener_view opener)
kind_view (kinds.Close closer) = kinds.Close (closer_view closer)
kind_view (kinds.LineScope opener) = kinds.LineScope opener
kind_view (kinds.Leaf leaf) = kinds.Leaf (leaf_view leaf)
kind_view (kinds.Raw text) = kinds.Raw text.now
kind_view (kinds.End fills) = kinds.End fills
kind_view (kinds.Note kind detail is_quoted begins_body) = kinds.Note kind detail.now is_quoted begins_body

-- an event of the program, with what its texts hold
abbrev pub event_view : Event (Bor (List ℕ)) → Event (List ℕ)
event_view event = record { place = event.place; kind = kind_view event.kind }

-- the first of the events that are still to come is given, if there is one, and the others are still to come
abbrev pub TakesNext : List (Event (List ℕ)) → Option (Event (Bor (List ℕ))) → List (Event (List ℕ)) → Type 0
TakesNext old result new = MatchOption result ((old ≡ []) × (new ≡ [])) (λ event. old ≡ event_view event ∷ new)

abbrev pub line_opener_name : LineOpener → List ℕ
line_opener_name Head = codes "It"
line_opener_name (Heading heading) = heading_name heading
line_opener_name (Tag tag) = tag_name tag
line_opener_name (FontWords font_macro) = font_macro_name font_macro
line_opener_name (Enclosure marks) = (row_of_marks marks).name
line_opener_name Description = codes "Nd"
line_opener_name (OneLine name) = one_line_name name
