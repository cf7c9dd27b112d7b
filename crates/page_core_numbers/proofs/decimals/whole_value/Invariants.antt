use Rattle.std.proofs.Common.{◌≡◌, ◌≤◌, ◌^◌, min, take}
use Rattle.page_core_numbers.specs.Expressions.{decimal}
use Rattle.page_core_numbers.proofs.decimals.whole_value.Given as goal

abbrev pub invariant-loop-digit : goal.invariant-loop-digit
invariant-loop-digit l = (l.value ≡ min (decimal (take l.digit-index l.digits)) (2 ^ 31)) × (l.value ≤ 2 ^ 31)
