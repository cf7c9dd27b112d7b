use Rattle.std.proofs.Common.{◌≡◌, ◌+◌, ◌-◌, ◌*◌, ◌≤◌, length, All}
use Rattle.page_core_escapes.specs.Lengths.{quoted_len, content_len}
use Rattle.page_core_escapes.proofs.Unwinding.{total_len, delimiters}
use Rattle.page_core_escapes.proofs.quoted.nested_len_in.Given as goal

abbrev pub invariant-loop-place : goal.invariant-loop-place
invariant-loop-place g l = record {
  inside : l.at ≤ length l.text;
  few : 3 * length l.open.items ≤ l.at + 2;
  places : All (λ p. p ≤ length l.text) l.open.items;
  same : quoted_len l.pairs (content_len l.pairs) l.text ≡ total_len l.pairs (delimiters l.pairs l.text l.open.items) l.text l.at;
}

abbrev pub decreases-loop-place : goal.decreases-loop-place
decreases-loop-place g l = (length l.text - l.at) + length l.open.items
