use Rattle.std.proofs.Common.{◌≡◌, ◌+◌, ◌*◌, ◌≤◌, length}
use Rattle.std.specs.List.{slice_split}
use Rattle.page_engine_records.specs.Records.{is_comma, with_names}
use Rattle.page_engine_records.specs.declared.texts.TheConstants.{NAMES}
use Rattle.page_engine_records.proofs.names.add_names.Given as goal

abbrev pub invariant-loop-name : goal.invariant-loop-name
invariant-loop-name l = record {
  same : with_names l.names (slice_split is_comma l.rest) ≡ with_names l.fn.names (slice_split is_comma l.text);
  room : length l.names + 2 * length l.rest + 2 ≤ NAMES;
}

abbrev pub decreases-loop-name : goal.decreases-loop-name
decreases-loop-name l = length l.rest
