use Rattle.std.proofs.Common.{◌≡◌, ◌+◌, ◌≤◌, length}
use Rattle.page_engine_records.specs.Records.{dash_place}
use Rattle.page_engine_records.proofs.names.dash_place.Given as goal

abbrev pub invariant-loop-byte : goal.invariant-loop-byte
invariant-loop-byte l = record {
  short : length l.rest ≤ length l.text;
  place : dash_place l.text + length l.rest ≡ length l.text + dash_place l.rest;
}

abbrev pub decreases-loop-byte : goal.decreases-loop-byte
decreases-loop-byte l = length l.rest
