use Rattle.std.proofs.Common.{◌≤◌, length, take}
use Rattle.page_core_streams.specs.Streams.{Grows}
use Rattle.mandoc_formats.proofs.waiting.write_front.Given as goal

abbrev pub invariant-loop : goal.invariant-loop
invariant-loop g l = (l.sent ≤ length l.bytes) × Grows (g.W.Write.contents l.fn.out) (g.W.Write.contents l.out) (take l.sent l.bytes)
