use Rattle.std.proofs.Common.{◌≡◌, ◌-◌, ◌≤◌, [], ◌∷◌, length}
use Rattle.page_core_escapes.specs.Lengths.{quoted_len, content_len}
use Rattle.page_core_escapes.proofs.Unwinding.{total_len}
use Rattle.page_core_escapes.proofs.quoted.quoted_len.Given as goal

abbrev pub invariant-loop-len : goal.invariant-loop-len
invariant-loop-len l = record {
  inside : l.at ≤ length l.text;
  same : quoted_len l.pairs (content_len l.pairs) l.text ≡ total_len l.pairs (l.delimiter ∷ []) l.text l.at;
}

abbrev pub decreases-loop-len : goal.decreases-loop-len
decreases-loop-len l = length l.text - l.at
