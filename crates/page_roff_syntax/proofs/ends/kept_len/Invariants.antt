use Rattle.std.proofs.Common.{◌≡◌, ◌≤◌, ℕ, Bool, length, take}
use Rattle.page_roff_syntax.specs.laws.Views.{IsTest}
use Rattle.page_roff_syntax.specs.Delimiters.{kept_len}
use Rattle.page_roff_syntax.proofs.ends.kept_len.Given as goal

abbrev pub invariant-loop-len : goal.invariant-loop-len
invariant-loop-len g l = (l.len ≤ length l.text) × ((test : ℕ → Bool) → IsTest (goal.F-post g l.fn.drops) test → kept_len test l.text ≡ kept_len test (take l.len l.text))

abbrev pub decreases-loop-len : goal.decreases-loop-len
decreases-loop-len g l = l.len
