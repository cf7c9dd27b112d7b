use Rattle.std.proofs.Common.{◌≡◌, ℕ, ◌≤◌, false}
use Rattle.page_roff_values.specs.Values.{Surroundings, TextSoFar}
use Rattle.page_roff_values.specs.machine.Rest.{texts_of, size, rest}
use Rattle.page_roff_values.proofs.sources.Sources.next.Given as goal

abbrev pub invariant-loop-self : goal.invariant-loop-self
invariant-loop-self l = record {
  same : (env : Surroundings) (room : ℕ) (s : TextSoFar) → s.ended ≡ false → rest env room (texts_of l.fn.self) s ≡ rest env room (texts_of l.self) s;
  falls : size (texts_of l.self) ≤ size (texts_of l.fn.self);
}

abbrev pub decreases-loop-self : goal.decreases-loop-self
decreases-loop-self l = size (texts_of l.self)
