-- How many interpolations the parts of a source make. Source: mandoc(1), "DIAGNOSTICS".
use Rattle.std.specs.Prelude.{◌≡◌, ◌≤◌, ℕ, ◌+◌, Bool, true, false, List, Option}
use Rattle.page_core_base.specs.Limits.{EXPAND}
use Rattle.page_roff_syntax.specs.Regions.{Opened}
use Rattle.page_roff_syntax.specs.declared.region_heads.RegionHead.{RegionHead}
use Rattle.page_roff_heads.specs.declared.conditions.Condition.{Condition}
use Rattle.page_roff_heads.specs.declared.loops.LoopHead.{LoopHead}
use Rattle.page_roff_values.specs.Values.{units_of}
use Rattle.page_roff_effects.specs.Lines.{leaf_outcome}
use Rattle.page_roff_effects.specs.Regions.{collect_outcome, loop_outcome, close_outcome, head_outcome, line_outcome, end_outcome, finish_outcome}
use Rattle.page_roff_effects.specs.States.{Memory, PartOutcome, TextSetting, answer_of, test_outcome, budget_outcome, block_outcome, end_of_block_outcome}
use Rattle.page_roff_source.specs.Runs.{RoffEdge}

-- the setting at an edge, where a macro with these arguments runs, or none does
abbrev pub setting_at : RoffEdge → Option (List (List ℕ)) → TextSetting
setting_at e arguments = record { units = units_of e.output; arguments = arguments }

-- a part makes `EXPAND` at most
abbrev pub MakesFew : Memory → PartOutcome → Type 0
MakesFew m o = o.memory.expansions ≤ m.expansions + EXPAND

abbrev pub MakesNone : Memory → PartOutcome → Type 0
MakesNone m o = o.memory.expansions ≡ m.expansions

-- A line that is taken is a leaf, a line of a region that is run, the head of a conditional, which has one condition, or a turn of a loop, which has
-- one, too; what follows a part on its line is a line of its own. All else makes none.
pub record EachIsWithin (e : RoffEdge) : Type 0 where
  pub leaf : (arguments : Option (List (List ℕ))) (may_run : Bool) (text : List ℕ) (m : Memory)
      → MakesFew m (leaf_outcome (setting_at e arguments) may_run text m)
  pub condition : (arguments : Option (List (List ℕ))) (condition : Condition (List ℕ)) (m : Memory)
      → MakesFew m (test_outcome (answer_of (setting_at e arguments) condition m) m)
  pub region_line : (arguments : Option (List (List ℕ))) (o : Opened) (text : List ℕ) (m : Memory)
      → MakesFew m (line_outcome (setting_at e arguments) o true text m)
  pub passed_line : (arguments : Option (List (List ℕ))) (o : Opened) (text : List ℕ) (m : Memory)
      → MakesNone m (line_outcome (setting_at e arguments) o false text m)
  pub region_head : (head : RegionHead (List ℕ)) (is_run : Bool) (m : Memory) → MakesNone m (head_outcome head is_run m)
  pub region_end : (o : Opened) (is_run : Bool) (m : Memory) → MakesNone m (end_outcome o is_run m)
  pub loop_head : (head : LoopHead (List ℕ)) (m : Memory) → MakesNone m (loop_outcome head m)
  pub loop_line : (is_run : Bool) (text : List ℕ) (m : Memory) → MakesNone m (collect_outcome is_run text m)
  pub loop_end : (is_run may_run : Bool) (m : Memory) → MakesNone m (close_outcome is_run may_run m)
  pub reread_line : (m : Memory) → MakesNone m (budget_outcome m)
  pub block_head : (column : ℕ) (m : Memory) → MakesNone m (block_outcome column m)
  pub block_end : (m : Memory) → MakesNone m (end_of_block_outcome m)
  pub finish : (region : Option Opened) (in_loop gave_up : Bool) (m : Memory) → MakesNone m (finish_outcome region in_loop gave_up m)
