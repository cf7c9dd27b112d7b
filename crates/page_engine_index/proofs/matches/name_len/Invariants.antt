use Rattle.std.proofs.Common.{◌≡◌, ◌+◌, ◌≤◌, length}
use Rattle.page_engine_index.specs.machine.Steps.{name_len}
use Rattle.page_engine_index.proofs.matches.name_len.Given as goal

abbrev pub invariant-loop-byte : goal.invariant-loop-byte
invariant-loop-byte l = record {
  short : length l.rest ≤ length l.names;
  len : name_len l.names + length l.rest ≡ length l.names + name_len l.rest;
}

abbrev pub decreases-loop-byte : goal.decreases-loop-byte
decreases-loop-byte l = length l.rest
