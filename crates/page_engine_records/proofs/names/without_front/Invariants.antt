use Rattle.std.proofs.Common.{◌≡◌, ◌≤◌, length}
use Rattle.page_engine_records.specs.Records.{without_front}
use Rattle.page_engine_records.proofs.names.without_front.Given as goal

abbrev pub invariant-loop-byte : goal.invariant-loop-byte
invariant-loop-byte l = record {
  short : length l.rest ≤ length l.text;
  same : without_front l.rest ≡ without_front l.text;
}

abbrev pub decreases-loop-byte : goal.decreases-loop-byte
decreases-loop-byte l = length l.rest
