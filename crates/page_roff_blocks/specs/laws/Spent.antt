-- What the parts of a source spend, as interpolations: the same number each at most. A line that is taken is one of them: a text or control line, the
-- head of a conditional, which has one condition, a line of a region or a turn of a loop; what follows a part on its line is a line of its own.
-- Source: mandoc(1), "input stack limit".
use Rattle.std.specs.Prelude.{◌≡◌, ℕ, ◌+◌, ◌≤◌, Bool, true, false, List, Option}
use Rattle.page_roff_syntax.specs.Regions.{Opened}
use Rattle.page_roff_syntax.specs.declared.region_heads.RegionHead.{RegionHead}
use Rattle.page_roff_heads.specs.declared.conditions.Condition.{Condition}
use Rattle.page_roff_heads.specs.declared.loops.LoopHead.{LoopHead}
use Rattle.page_roff_blocks.specs.machine.Languages.{Effects, Kind, state_of}
use Rattle.page_roff_blocks.specs.declared.line_parts.Head.{Head}

-- a condition, that of a turn too, a leaf and a line of a region that is run spend a number at most, and all else nothing
pub record Spends {R : Type 0} (spent : R → ℕ) (most : ℕ) (e : Effects R) : Type 0 where
  pub exhausts : (r : R) → spent (e.exhausts r) ≡ spent r
  pub tests : (kind : Kind) (condition : Condition (List ℕ)) (r : R) → spent (e.tests kind condition r).1 ≤ spent r + most
  pub leaf : (may_call : Bool) (kind : Kind) (text : List ℕ) (r : R) → spent (state_of (e.leaf may_call kind text r)) ≤ spent r + most
  pub refuses : (h : Head (List ℕ)) (r : R) → spent (e.refuses h r) ≡ spent r
  pub unopened : (r : R) → spent (e.unopened r) ≡ spent r
  pub opens_region : (kind : Kind) (head : RegionHead (List ℕ)) (is_run : Bool) (r : R) → spent (e.opens_region kind head is_run r) ≡ spent r
  pub reads : (kind : Kind) (o : Opened) (line : List ℕ) (r : R) → spent (e.reads kind o true line r) ≤ spent r + most
  pub passes : (kind : Kind) (o : Opened) (line : List ℕ) (r : R) → spent (e.reads kind o false line r) ≡ spent r
  pub ends_region : (kind : Kind) (o : Opened) (is_run : Bool) (line : List ℕ) (r : R) → spent (e.ends_region kind o is_run line r) ≡ spent r
  pub opens_loop : (h : LoopHead (List ℕ)) (r : R) → spent (e.opens_loop h r) ≡ spent r
  pub collects : (is_run : Bool) (text : List ℕ) (r : R) → spent (e.collects is_run text r) ≡ spent r
  pub closes : (is_run may_run : Bool) (r : R) → spent (state_of (e.closes is_run may_run r)) ≡ spent r
  pub turns : (kind : Kind) (condition : List ℕ) (r : R) → spent (e.turns kind condition r).1 ≤ spent r + most
  pub finish : (region : Option Opened) (in_loop gave_up : Bool) (r : R) → spent (e.finish region in_loop gave_up r) ≡ spent r
