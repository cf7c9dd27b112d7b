-- What contracts of the code say by the definitions, and what is proved of these.
use Rattle.std.specs.Borrow.{Bor}
use Rattle.std.specs.Prelude.{ℕ, List, Option, Some, None, [], ◌≤◌, length, ◌+◌, ◌≡◌, ◌∷◌, MatchOption, Bool, true, false, nat_lt, suc, zero, not, IfSome}
use Rattle.page_core_base.specs.Limits.{LINE, CONDS}
use Rattle.page_roff_syntax.specs.laws.Views.{text_view, region_view, RegionFits}
use Rattle.page_roff_syntax.specs.declared.line_forms.LineForm.{LineForm}
use Rattle.page_roff_syntax.specs.declared.line_forms.LineForm.TheVariants.{Control}
use Rattle.page_roff_heads.specs.laws.Views.{condition_view, FitsTest}
use Rattle.page_roff_heads.specs.declared.loops.LoopHead.{LoopHead}
use Rattle.page_roff_blocks.specs.Forest.{bit_after, Levels, SourcePlace}
use Rattle.page_roff_blocks.specs.Parts.{plain_part, keyword_part, left_of, line_parts}
use Rattle.page_roff_blocks.specs.declared.block_cursors.Pass.{Pass}
use Rattle.page_roff_blocks.specs.declared.block_cursors.Pass.TheVariants as passes
use Rattle.page_roff_blocks.specs.declared.block_cursors.Reached.{Reached}
use Rattle.page_roff_blocks.specs.declared.block_cursors.Reached.TheVariants.{PassedOver, First, Remainder}
use Rattle.page_roff_blocks.specs.declared.levels.Answer.{Answer}
use Rattle.page_roff_blocks.specs.declared.levels.Ended.{Ended}
use Rattle.page_roff_blocks.specs.declared.levels.Ended.TheVariants as endings
use Rattle.page_roff_blocks.specs.declared.levels.Way.{Way}
use Rattle.page_roff_blocks.specs.declared.levels.Way.TheVariants.{Runs, Exceeds, Skips}
use Rattle.page_roff_blocks.specs.declared.line_parts.Branch.{Branch}
use Rattle.page_roff_blocks.specs.declared.line_parts.Branch.TheVariants.{If, IfElse, Else}
use Rattle.page_roff_blocks.specs.declared.line_parts.Head.{Head}
use Rattle.page_roff_blocks.specs.declared.line_parts.LinePart.{LinePart}
use Rattle.page_roff_blocks.specs.declared.line_parts.LinePart.TheVariants.{Loop, Leaf, Guard, Block, End, Region}
use Rattle.page_roff_blocks.specs.declared.line_parts.Opening.{Opening}
use Rattle.page_roff_blocks.specs.declared.line_parts.Opening.TheVariants as openings
use Rattle.page_roff_blocks.specs.declared.parts.Columns.{Columns}
use Rattle.page_roff_blocks.specs.declared.parts.Keyword.{Keyword}
use Rattle.page_roff_blocks.specs.declared.parts.RawPart.{RawPart}

-- ---- of the program: a control line's columns, and its first part by what it heads

abbrev pub columns_of : LineForm (List ℕ) → Option Columns
columns_of (Control name column rest rest_column) = Some (record { name = column; rest = rest_column })
columns_of _ = None

abbrev pub named_part : Keyword → List ℕ → LineForm (List ℕ) → RawPart (List ℕ)
named_part keyword line (Control name column rest rest_column) = keyword_part keyword line column rest rest_column
named_part keyword line _ = plain_part line

-- what is left of the rest of a line
abbrev pub left_rest : ℕ → Option (List ℕ) → Option (List ℕ)
left_rest blocks None = None
left_rest blocks (Some line) = left_of blocks line

-- the parts of what is left of a line
abbrev pub line_parts_left : Option (List ℕ) → List (LinePart (List ℕ))
line_parts_left None = []
line_parts_left (Some line) = line_parts line

-- ---- of the program, with what its texts hold

abbrev pub branch_view : Branch (Bor (List ℕ)) → Branch (List ℕ)
branch_view (If condition) = If (condition_view condition)
branch_view (IfElse condition) = IfElse (condition_view condition)
branch_view Else = Else

abbrev pub head_view : Head (Bor (List ℕ)) → Head (List ℕ)
head_view head = record { column = head.column; branch = branch_view head.branch }

abbrev pub loop_head_view : LoopHead (Bor (List ℕ)) → LoopHead (List ℕ)
loop_head_view head = record { condition = head.condition.now; body = text_view head.body }

abbrev pub opening_view : Opening (Bor (List ℕ)) → Opening (List ℕ)
opening_view (openings.Conditional head) = openings.Conditional (head_view head)
opening_view (openings.Loop head) = openings.Loop (loop_head_view head)

abbrev pub line_part_view : LinePart (Bor (List ℕ)) → LinePart (List ℕ)
line_part_view (Leaf text) = Leaf text.now
line_part_view (Guard head) = Guard (head_view head)
line_part_view (Block opening) = Block (opening_view opening)
line_part_view (Loop head) = Loop (loop_head_view head)
line_part_view End = End
line_part_view (Region head) = Region (region_view head)

abbrev pub part_view : RawPart (Bor (List ℕ)) → RawPart (List ℕ)
part_view part = record { line_part = line_part_view part.line_part; is_end = part.is_end; rest = text_view part.rest }

-- texts lie within a line
abbrev pub FitsBranch : Branch (List ℕ) → Type 0
FitsBranch (If condition) = FitsTest condition.test
FitsBranch (IfElse condition) = FitsTest condition.test
FitsBranch Else = Unit {0}

abbrev pub FitsRest : Option (List ℕ) → Type 0
FitsRest None = Unit {0}
FitsRest (Some line) = length line ≤ LINE

abbrev pub FitsLoopHead : LoopHead (List ℕ) → Type 0
FitsLoopHead head = (length head.condition ≤ LINE) × FitsRest head.body

abbrev pub FitsOpening : Opening (List ℕ) → Type 0
FitsOpening (openings.Conditional head) = FitsBranch head.branch
FitsOpening (openings.Loop head) = FitsLoopHead head

abbrev pub FitsLinePart : LinePart (List ℕ) → Type 0
FitsLinePart (Leaf text) = length text ≤ LINE
FitsLinePart (Guard head) = FitsBranch head.branch
FitsLinePart (Block opening) = FitsOpening opening
FitsLinePart (Loop head) = FitsLoopHead head
FitsLinePart _ = Unit {0}

abbrev pub FitsPart : RawPart (List ℕ) → Type 0
FitsPart part = FitsLinePart part.line_part × FitsRest part.rest

-- a column after the control character, in a line or at its end
pub record IsWithin (column : ℕ) (line : List ℕ) : Type 0 where
  pub past : 2 ≤ column
  pub within : column ≤ length line + 1

-- the first of the parts that are still to be read, if there is one, and then the others
abbrev pub ReadsNext : List (LinePart (List ℕ)) → Option (LinePart (Bor (List ℕ))) → List (LinePart (List ℕ)) → Type 0
ReadsNext old result new = MatchOption result ((old ≡ []) × (new ≡ [])) (λ line_part. old ≡ line_part_view line_part ∷ new)

-- what a head leaves at a level with this bit; its value, if it is run
abbrev pub answered : Branch (List ℕ) → Bool → Option Bool → Option Answer
answered branch bit None = None
answered branch bit (Some value) = Some (record { value = value; bit = bit_after branch value bit })

unfoldable pub way_in : Bool → Way
way_in true = Runs
way_in false = Exceeds

-- how a block is entered whose head has this value, where this many true blocks are open
unfoldable pub way_of : Bool → ℕ → Way
way_of false count = Skips
way_of true count = way_in (nat_lt count CONDS)

-- a block is entered in a level that is run, whose bit is this one from then on
unfoldable pub enter : Way → Bool → Levels → Levels
enter Runs bit l = record { bit = false; outer = bit ∷ l.outer; in_loop = false; skipped = 0 }
enter _ bit l = record { bit = bit; outer = l.outer; in_loop = false; skipped = 1 }

-- a block is skipped
unfoldable pub skip : Levels → Levels
skip l = record l { skipped = suc l.skipped }

-- a loop begins to be collected in a level that is run
unfoldable pub open_loop : Levels → Levels
open_loop l = record l { in_loop = true }

-- What is innermost ends: a skipped block first, then a loop, then a level, if there is one.
unfoldable pub leave_level : List Bool → Levels → Levels
leave_level [] l = l
leave_level (bit ∷ outer) l = record { bit = bit; outer = outer; in_loop = false; skipped = 0 }

unfoldable pub leave_loop : Bool → Levels → Levels
leave_loop true l = record l { in_loop = false }
leave_loop false l = leave_level l.outer l

unfoldable pub leave_from : ℕ → Levels → Levels
leave_from zero l = leave_loop l.in_loop l
leave_from (suc skipped) l = record l { skipped = skipped }

unfoldable pub leave : Levels → Levels
leave l = leave_from l.skipped l

-- what that is
unfoldable pub level_ends : List Bool → Ended
level_ends [] = endings.Nothing
level_ends (bit ∷ outer) = endings.Block

unfoldable pub loop_ends : Bool → List Bool → Ended
loop_ends true outer = endings.Loop
loop_ends false outer = level_ends outer

unfoldable pub ends_from : ℕ → Bool → List Bool → Ended
ends_from zero in_loop outer = loop_ends in_loop outer
ends_from (suc skipped) in_loop outer = endings.Block

unfoldable pub what_ends : Levels → Ended
what_ends l = ends_from l.skipped l.in_loop l.outer

-- Where a source is in a line: its levels, whether a part of the line was reached, and whether the next
-- part is passed over, since a head guards it.
pub record BlockCursor : Type 0 where
  pub levels : Levels
  pub begun : Bool
  pub passing : Bool

-- a line begins
unfoldable pub at_line : Levels → BlockCursor
at_line l = record { levels = l; begun = false; passing = false }

-- after a part of a line
unfoldable pub after_part : Levels → BlockCursor
after_part l = record { levels = l; begun = true; passing = false }

-- after a head without a block that is run, and has this value
unfoldable pub guarded_by : Branch (List ℕ) → Bool → Levels → BlockCursor
guarded_by branch value l =
    record { levels = record l { bit = bit_after branch value l.bit }; begun = true; passing = not value }

-- after a head without a block that leaves this, if it is run
abbrev pub after_guard : Option Answer → BlockCursor → BlockCursor
after_guard None s = record s { begun = true }
after_guard (Some a) s = record { levels = record s.levels { bit = a.bit }; begun = true; passing = not a.value }

-- in the block of a conditional whose head leaves this, if it is run
abbrev pub in_block : Option Answer → Levels → Levels
in_block None l = skip l
in_block (Some a) l = enter (way_of a.value (length l.outer)) a.bit l

-- in the block of a loop, which is collected or passed over
abbrev pub in_loop_block : Bool → Levels → Levels
in_loop_block true l = open_loop l
in_loop_block false l = skip l

-- a part of a line is passed
abbrev pub passed : Pass → BlockCursor → BlockCursor
passed passes.Leaf s = after_part s.levels
passed (passes.Guard answer) s = after_guard answer s
passed (passes.Block answer) s = after_part (in_block answer s.levels)
passed (passes.Loop is_run) s = after_part (in_loop_block is_run s.levels)
passed passes.End s = after_part (leave s.levels)

-- how a part is reached where no block is skipped, and no loop collected
unfoldable pub reached_if : Bool → Bool → Reached
reached_if true begun = PassedOver
reached_if false false = First
reached_if false true = Remainder

unfoldable pub reached_from : ℕ → Bool → Bool → Reached
reached_from zero passing begun = reached_if passing begun
reached_from (suc skipped) passing begun = PassedOver

unfoldable pub reached_in : Bool → ℕ → Bool → Bool → Reached
reached_in true skipped passing begun = PassedOver
reached_in false skipped passing begun = reached_from skipped passing begun

unfoldable pub reached : BlockCursor → Reached
reached s = reached_in s.levels.in_loop s.levels.skipped s.passing s.begun

-- an open region is within its caps, and as many true blocks are open as may be
pub record PlaceFits (p : SourcePlace) : Type 0 where
  pub region : IfSome p.region RegionFits
  pub blocks : length p.levels.outer ≤ CONDS
