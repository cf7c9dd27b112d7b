use Rattle.std.proofs.Common.{◌≡◌, ◌+◌, length}
use Rattle.std.specs.List.{sum_by}
use Rattle.page_core_base.specs.declared.limits.TheConstants.{FIELD}
use Rattle.page_engine_header.specs.Header.{said_len}
use Rattle.page_engine_header.proofs.fields.is_long.Given as goal

abbrev pub invariant-loop-argument : goal.invariant-loop-argument
invariant-loop-argument l =
    sum_by (λ a. 1 + said_len a) l.arguments + (FIELD + 1) ≡ sum_by (λ a. 1 + said_len a) l.fn.arguments + l.room

abbrev pub decreases-loop-argument : goal.decreases-loop-argument
decreases-loop-argument l = length l.arguments
