use Rattle.std.proofs.Common.{◌≡◌, ◌≤◌, ◌+◌, drop}
use Rattle.page_core_numbers.specs.machine.Signs.{minus_count, after_signs}
use Rattle.page_core_numbers.proofs.expressions.split_signs.Given as goal

abbrev pub invariant-loop-place : goal.invariant-loop-place
invariant-loop-place l = record {
  minuses : minus_count l.text ≡ l.minuses + minus_count (drop l.place l.text);
  rest : after_signs l.text ≡ after_signs (drop l.place l.text);
  few : l.minuses ≤ l.place;
}
