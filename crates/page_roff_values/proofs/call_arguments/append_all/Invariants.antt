use Rattle.std.proofs.Common.{◌≡◌, ◌+◌, ◌*◌, ◌<◌, ◌≤◌, ◌++◌, length}
use Rattle.std.specs.Vec.{vec_len, vec_capacity}
use Rattle.page_roff_values.specs.Values.{arguments_in, spaced, spaced_quoted}
use Rattle.page_roff_values.proofs.call_arguments.append_all.Given as goal

abbrev pub invariant-loop-rest : goal.invariant-loop-rest
invariant-loop-rest l = record {
  count : l.count + length (arguments_in l.rest) ≡ length (arguments_in l.packed);
  within : l.count + length l.rest ≤ length l.packed;
  joined : l.joined.items ++ spaced (arguments_in l.rest) ≡ spaced (arguments_in l.packed);
  quoted : l.quoted.items ++ spaced_quoted (arguments_in l.rest) ≡ spaced_quoted (arguments_in l.packed);
  joined_room : 0 < length l.rest → vec_len l.joined + length l.rest + 1 ≤ vec_capacity l.joined;
  quoted_room : 0 < length l.rest → vec_len l.quoted + 3 * (length l.rest + 1) ≤ vec_capacity l.quoted;
  joined_kept : vec_capacity l.fn.joined ≤ vec_capacity l.joined;
  quoted_kept : vec_capacity l.fn.quoted ≤ vec_capacity l.quoted;
}

abbrev pub decreases-loop-rest : goal.decreases-loop-rest
decreases-loop-rest l = length l.rest
