-- What contracts of the code say by the definitions, and what is proved of these.
use Rattle.std.specs.Borrow.{Bor}
use Rattle.std.specs.Prelude.{ℕ, List, ◌+◌, ◌≤◌, length, Option, option_map, IfSome}
use Rattle.page_core_base.specs.Limits.{LINE}
use Rattle.page_roff_heads.specs.Conditions.{placed, reads}
use Rattle.page_roff_heads.specs.declared.conditions.Condition.{Condition}
use Rattle.page_roff_heads.specs.declared.conditions.Test.{Test}
use Rattle.page_roff_heads.specs.declared.conditions.Test.TheVariants as tests
use Rattle.page_roff_heads.specs.declared.conditions.TestRead.{TestRead}
use Rattle.page_roff_heads.specs.declared.heads.BlockEnd.{BlockEnd}
use Rattle.page_roff_heads.specs.declared.heads.Conditional.{Conditional}
use Rattle.page_roff_heads.specs.declared.heads.Guarded.{Guarded}
use Rattle.page_roff_heads.specs.declared.loops.LoopRead.{LoopRead}
use Rattle.page_roff_heads.specs.declared.texts.Placed.{Placed}

-- a text of the program, with what it holds
abbrev pub placed_view : Placed (Bor (List ℕ)) → Placed (List ℕ)
placed_view text = placed text.column text.text.now

-- it lies within a line
abbrev pub FitsPlaced : Placed (List ℕ) → Type 0
FitsPlaced text = (length text.text ≤ LINE) × (text.column + length text.text ≤ LINE + 1)

abbrev pub remainder_view : Option (Placed (Bor (List ℕ))) → Option (Placed (List ℕ))
remainder_view remainder = option_map placed_view remainder

-- ---- of the program, with what its texts hold

abbrev pub test_view : Test (Bor (List ℕ)) → Test (List ℕ)
test_view (tests.Always holds) = tests.Always holds
test_view (tests.Unknown letter) = tests.Unknown letter.now
test_view (tests.IsDefined name) = tests.IsDefined name.now
test_view (tests.IsRegister name) = tests.IsRegister name.now
test_view (tests.Expression text) = tests.Expression (placed_view text)
test_view (tests.Texts first second) = tests.Texts (placed_view first) (placed_view second)
test_view tests.Missing = tests.Missing

abbrev pub read_view : TestRead (Bor (List ℕ)) → TestRead (List ℕ)
read_view read = reads (test_view read.test) read.len

abbrev pub condition_view : Condition (Bor (List ℕ)) → Condition (List ℕ)
condition_view condition =
    record { column = condition.column; is_turned = condition.is_turned; test = test_view condition.test }

-- its texts lie within a line
abbrev pub FitsTest : Test (List ℕ) → Type 0
FitsTest (tests.Unknown letter) = length letter ≤ LINE
FitsTest (tests.IsDefined name) = length name ≤ LINE
FitsTest (tests.IsRegister name) = length name ≤ LINE
FitsTest (tests.Expression text) = FitsPlaced text
FitsTest (tests.Texts first second) = FitsPlaced first × FitsPlaced second
FitsTest _ = Unit {0}

-- ---- of the program, with what its texts hold

abbrev pub guarded_view : Guarded (Bor (List ℕ)) → Guarded (List ℕ)
guarded_view guarded = record { opens_block = guarded.opens_block; remainder = remainder_view guarded.remainder }

abbrev pub conditional_view : Conditional (Bor (List ℕ)) → Conditional (List ℕ)
conditional_view head = record { condition = condition_view head.condition; guarded = guarded_view head.guarded }

abbrev pub one_end_view : BlockEnd (Bor (List ℕ)) → BlockEnd (List ℕ)
one_end_view end = record { before = end.before.now; remainder = remainder_view end.remainder }

abbrev pub block_end_view : Option (BlockEnd (Bor (List ℕ))) → Option (BlockEnd (List ℕ))
block_end_view end = option_map one_end_view end

-- texts and columns lie within a line
abbrev pub FitsGuarded : Guarded (List ℕ) → Type 0
FitsGuarded guarded = IfSome guarded.remainder FitsPlaced

abbrev pub FitsConditional : Conditional (List ℕ) → Type 0
FitsConditional head = FitsTest head.condition.test × FitsGuarded head.guarded

abbrev pub FitsBlockEnd : BlockEnd (List ℕ) → Type 0
FitsBlockEnd end = (length end.before ≤ LINE) × IfSome end.remainder FitsPlaced

-- ---- of the program, with what its texts hold

abbrev pub loop_view : LoopRead (Bor (List ℕ)) → LoopRead (List ℕ)
loop_view read = record { condition = read.condition.now; guarded = guarded_view read.guarded; first = read.first.now }

-- texts lie within a line
pub record FitsLoop (read : LoopRead (List ℕ)) : Type 0 where
  pub condition : length read.condition ≤ LINE
  pub guarded : FitsGuarded read.guarded
  pub first : length read.first ≤ LINE
