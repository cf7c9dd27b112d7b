-- Places in a raw line, between its parts: how the code goes through a line. Trust needs no reading of it. Source: roff(7), "if", "ie", "el".
use Rattle.std.specs.Prelude.{◌≡◌, ℕ, ◌-◌, ◌≤◌, Bool, true, false, not, ◌&&◌, is_none, List, [], ◌∷◌, length, drop, Option, Some, None}
use Rattle.page_roff_blocks.specs.declared.line_parts.LinePart.{LinePart}
use Rattle.page_roff_blocks.specs.declared.line_parts.LinePart.TheVariants.{Leaf, Block, Guard, Loop, End, Region}
use Rattle.page_roff_blocks.specs.declared.line_places.LinePlace.{LinePlace}
use Rattle.page_roff_blocks.specs.laws.Views.{line_parts_left, way_of, enter, open_loop, skip, leave, what_ends, BlockCursor, at_line, after_part, guarded_by, reached}
use Rattle.page_roff_blocks.specs.Parts.{ends_first, line_parts}
use Rattle.page_roff_heads.specs.declared.conditions.Condition.{Condition}
use Rattle.page_roff_heads.specs.declared.loops.LoopHead.{LoopHead}
use Rattle.page_roff_blocks.specs.declared.line_parts.Branch.{Branch}
use Rattle.page_roff_blocks.specs.declared.line_parts.Branch.TheVariants.{If, IfElse, Else}
use Rattle.page_roff_blocks.specs.declared.line_parts.Head.{Head}
use Rattle.page_roff_blocks.specs.declared.levels.Ended.{Ended}
use Rattle.page_roff_blocks.specs.declared.levels.Ended.TheVariants as endings
use Rattle.page_roff_blocks.specs.declared.levels.Way.{Way}
use Rattle.page_roff_blocks.specs.declared.levels.Way.TheVariants.{Runs, Skips, Exceeds}
use Rattle.page_roff_blocks.specs.declared.block_cursors.Reached.{Reached}
use Rattle.page_roff_blocks.specs.declared.block_cursors.Reached.TheVariants.{PassedOver, First, Remainder}
use Rattle.page_roff_blocks.specs.Forest.{Levels, SourcePlace, bit_after}
use Rattle.page_roff_syntax.specs.declared.region_heads.RegionHead.{RegionHead}
use Rattle.page_roff_syntax.specs.Regions.{Opened, opened, is_ending}
use Rattle.page_roff_blocks.specs.declared.line_parts.Opening.{Opening}
use Rattle.page_roff_blocks.specs.declared.line_parts.Opening.TheVariants as openings

-- after the last part
abbrev pub line_end : LinePlace
line_end = record { is_whole = false; is_end = false; rest = None }

abbrev pub is_at_end : LinePlace → Bool
is_at_end place = not place.is_whole && (not place.is_end && is_none place.rest)

-- what is left of a line from a place on
abbrev pub rest_at : List ℕ → Option ℕ → Option (List ℕ)
rest_at line None = None
rest_at line (Some start) = Some (drop start line)

-- all of a line as a part, and then the others
abbrev pub whole_first : Bool → List ℕ → List (LinePart (List ℕ)) → List (LinePart (List ℕ))
whole_first true line more = Leaf line ∷ more
whole_first false line more = more

-- the parts of a line after a place in it
abbrev pub parts_at : List ℕ → LinePlace → List (LinePart (List ℕ))
parts_at line place = whole_first place.is_whole line (ends_first place.is_end (line_parts_left (rest_at line place.rest)))

-- whether the first of parts opens a block
abbrev pub is_block : LinePart (List ℕ) → Bool
is_block (Block opening) = true
is_block _ = false

abbrev pub opens_block : List (LinePart (List ℕ)) → Bool
opens_block [] = false
opens_block (part ∷ more) = is_block part

-- it lies in a line
abbrev pub IsRestIn : List ℕ → Option ℕ → Type 0
IsRestIn line None = Unit {0}
IsRestIn line (Some start) = start ≤ length line

abbrev pub IsPlaceIn : List ℕ → LinePlace → Type 0
IsPlaceIn line place = IsRestIn line place.rest

-- a text is the end of a line
abbrev pub IsEndOf : List ℕ → Option (List ℕ) → Type 0
IsEndOf line None = Unit {0}
IsEndOf line (Some text) = (length text ≤ length line) × (text ≡ drop (length line - length text) line)

abbrev pub place_after : List ℕ → Option (List ℕ) → Option ℕ
place_after line None = None
place_after line (Some text) = Some (length line - length text)

-- ---- A machine: what the parts of a source do to a state, whatever they mean. Trust needs no reading of it.

-- What the parts of a source do to a state: all that the levels of its blocks have no part in.
pub record Meaning (S : Type 0) : Type 0 where
  -- a raw line begins outside of regions
  pub begins : List ℕ → S → S
  -- A node is reached that no block and no head passes over, with whether it is a remainder: whether it is
  -- run.
  pub meets : Bool → S → Bool × S
  -- the condition of an `if` or `ie` that is run
  pub tests : Condition (List ℕ) → S → Bool × S
  -- a leaf that is run
  pub gives : List ℕ → S → S
  -- a true block beyond the limit of open ones
  pub refuses : Head (List ℕ) → S → S
  -- the end of a block where none is open
  pub unopened : S → S
  -- the head of a region, with whether it is run; a line of the region, and its end line
  pub opens_region : RegionHead (List ℕ) → Bool → S → S
  pub reads : Opened → List ℕ → S → S
  pub ends_region : Opened → List ℕ → S → S
  -- a loop that is run begins, with what of its head's line belongs to it
  pub opens_loop : LoopHead (List ℕ) → S → S
  -- a raw line begins in a loop that is collected, in which this many blocks are open
  pub collects : ℕ → List ℕ → S → S
  -- a raw line of a region in such a loop, all of which belongs to it
  pub keeps : List ℕ → S → S
  -- a loop is whole
  pub closes_loop : S → S

-- where a source is between two lines, and the state
pub record At (S : Type 0) : Type 0 where
  pub place : SourcePlace
  pub state : S

module _ {S : Type 0} (m : Meaning S) where
  -- a node is reached where nothing is skipped: whether it is run
  unfoldable pub meet_as : Reached → S → Bool × S
  meet_as PassedOver s = (false, s)
  meet_as First s = m.meets false s
  meet_as Remainder s = m.meets true s

  -- the value of a head that is run; `el` has that of its level's bit
  unfoldable pub value : Branch (List ℕ) → Bool → S → Bool × S
  value (If condition) bit s = m.tests condition s
  value (IfElse condition) bit s = m.tests condition s
  value Else bit s = (bit, s)

  -- a line of a region belongs to the loop around it, if one is collected
  unfoldable pub keep_if : Bool → List ℕ → S → S
  keep_if true l s = m.keeps l s
  keep_if false l s = s

  unfoldable pub leaf_if : Bool → List ℕ → S → S
  leaf_if true text s = m.gives text s
  leaf_if false text s = s

  unfoldable pub refuse_if : Way → Head (List ℕ) → S → S
  refuse_if Runs h s = s
  refuse_if Skips h s = s
  refuse_if Exceeds h s = m.refuses h s

  -- a loop of one line
  unfoldable pub loop_if : Bool → LoopHead (List ℕ) → S → S
  loop_if true h s = m.closes_loop (m.opens_loop h s)
  loop_if false h s = s

  -- what is innermost ends, if there is anything
  unfoldable pub end_by : Ended → S → S
  end_by endings.Block s = s
  end_by endings.Loop s = m.closes_loop s
  end_by endings.Nothing s = m.unopened s

  abbrev pub open_region : RegionHead (List ℕ) → Levels → Bool × S → At S
  open_region r l q = record { place = record { region = Some (opened r q.0); levels = l }; state = m.opens_region r q.0 q.1 }

-- ---- A machine: the parts of a source, one after another. That this is what the definitions say of its forest is the law `forest_law` of `page_roff_source`; trust needs no
-- reading of it. Source: roff(7), "if", "while", "de", "ig".

module _ {S : Type 0} (m : Meaning S) where
  -- how the next part is met
  unfoldable pub met : BlockCursor → S → Bool × S
  met cursor s = meet_as m (reached cursor) s

  unfoldable pub step_leaf : List ℕ → BlockCursor → S → BlockCursor × S
  step_leaf text cursor s = let q = met cursor s in (after_part cursor.levels, leaf_if m q.0 text q.1)

  -- a head without a block that is run, and has this value
  unfoldable pub guard_with : Head (List ℕ) → BlockCursor → Bool × S → BlockCursor × S
  guard_with h cursor v = (guarded_by h.branch v.0 cursor.levels, v.1)

  unfoldable pub guard_met : Bool → Head (List ℕ) → BlockCursor → S → BlockCursor × S
  guard_met true h cursor s = guard_with h cursor (value m h.branch cursor.levels.bit s)
  guard_met false h cursor s = (record cursor { begun = true }, s)

  unfoldable pub step_guard : Head (List ℕ) → BlockCursor → S → BlockCursor × S
  step_guard h cursor s = let q = met cursor s in guard_met q.0 h cursor q.1

  -- a head with a block that is run, and has this value
  unfoldable pub block_with : Head (List ℕ) → BlockCursor → Bool × S → BlockCursor × S
  block_with h cursor v =
      let way = way_of v.0 (length cursor.levels.outer) in
      (after_part (enter way (bit_after h.branch v.0 cursor.levels.bit) cursor.levels), refuse_if m way h v.1)

  unfoldable pub opening_met : Opening (List ℕ) → BlockCursor → S → BlockCursor × S
  opening_met (openings.Conditional h) cursor s = block_with h cursor (value m h.branch cursor.levels.bit s)
  opening_met (openings.Loop h) cursor s = (after_part (open_loop cursor.levels), m.opens_loop h s)

  unfoldable pub block_met : Bool → Opening (List ℕ) → BlockCursor → S → BlockCursor × S
  block_met true h cursor s = opening_met h cursor s
  block_met false h cursor s = (after_part (skip cursor.levels), s)

  unfoldable pub step_block : Opening (List ℕ) → BlockCursor → S → BlockCursor × S
  step_block h cursor s = let q = met cursor s in block_met q.0 h cursor q.1

  -- a loop of one line
  unfoldable pub step_loop : LoopHead (List ℕ) → BlockCursor → S → BlockCursor × S
  step_loop h cursor s = let q = met cursor s in (after_part cursor.levels, loop_if m q.0 h q.1)

  -- the end of a block
  unfoldable pub step_end : BlockCursor → S → BlockCursor × S
  step_end cursor s = (after_part (leave cursor.levels), end_by m (what_ends cursor.levels) s)

  -- the head of a region, with which its line ends
  unfoldable pub step_region : RegionHead (List ℕ) → BlockCursor → S → At S
  step_region head cursor s = open_region m head cursor.levels (met cursor s)

  -- the parts of a line that are left
  unfoldable pub step_parts : List (LinePart (List ℕ)) → BlockCursor → S → At S
  step_parts [] cursor s = record { place = record { region = None; levels = cursor.levels }; state = s }
  step_parts (Leaf text ∷ rest) cursor s = let r = step_leaf text cursor s in step_parts rest r.0 r.1
  step_parts (Guard h ∷ rest) cursor s = let r = step_guard h cursor s in step_parts rest r.0 r.1
  step_parts (Block h ∷ rest) cursor s = let r = step_block h cursor s in step_parts rest r.0 r.1
  step_parts (Loop h ∷ rest) cursor s = let r = step_loop h cursor s in step_parts rest r.0 r.1
  step_parts (End ∷ rest) cursor s = let r = step_end cursor s in step_parts rest r.0 r.1
  step_parts (Region head ∷ rest) cursor s = step_region head cursor s

  -- a line in an open region
  unfoldable pub step_inside : Bool → Opened → List ℕ → Levels → S → At S
  step_inside true o line l s = record { place = record { region = None; levels = l }; state = keep_if m l.in_loop line (m.ends_region o line s) }
  step_inside false o line l s = record { place = record { region = Some o; levels = l }; state = keep_if m l.in_loop line (m.reads o line s) }

  -- a line that begins, in a loop that is collected or not
  unfoldable pub collect_if : Bool → ℕ → List ℕ → S → S
  collect_if true k line s = m.collects k line s
  collect_if false k line s = s

  unfoldable pub begin_line : List ℕ → Levels → S → S
  begin_line line l s = collect_if l.in_loop l.skipped line (m.begins line s)

  unfoldable pub step_from : Option Opened → List ℕ → Levels → S → At S
  step_from None line l s = step_parts (line_parts line) (at_line l) (begin_line line l s)
  step_from (Some o) line l s = step_inside (is_ending o.ending line) o line l s

  -- one line
  unfoldable pub step : List ℕ → At S → At S
  step line a = step_from a.place.region line a.place.levels a.state

  -- line after line
  unfoldable pub step_lines : List (List ℕ) → At S → At S
  step_lines [] a = a
  step_lines (line ∷ lines) a = step_lines lines (step line a)

  -- lines that each have more than a text, as a number: what comes before a line, and then what its text does
  module _ {X : Type 0} (text : X → List ℕ) (head : X → S → S) where
    abbrev pub after_head : X → At S → At S
    after_head x a = record { place = a.place; state = head x a.state }

    unfoldable pub each_line : List X → At S → At S
    each_line [] a = a
    each_line (x ∷ xs) a = each_line xs (step (text x) (after_head x a))
