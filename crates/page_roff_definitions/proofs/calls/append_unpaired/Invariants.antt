use Rattle.std.proofs.Common.{◌≡◌, ◌+◌, ◌≤◌, ◌++◌, length}
use Rattle.std.specs.Vec.{vec_len, vec_capacity}
use Rattle.page_core_base.specs.Texts.{unpaired}
use Rattle.page_roff_definitions.proofs.calls.append_unpaired.Given as goal

abbrev pub invariant-loop-rest : goal.invariant-loop-rest
invariant-loop-rest l = record {
  items : l.text.items ++ unpaired l.rest ≡ l.fn.text.items ++ unpaired l.quoted;
  short : vec_len l.text + length l.rest ≤ vec_len l.fn.text + length l.quoted;
  kept : vec_capacity l.text ≡ vec_capacity l.fn.text;
}

abbrev pub decreases-loop-rest : goal.decreases-loop-rest
decreases-loop-rest l = length l.rest
