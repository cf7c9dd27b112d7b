use Rattle.std.proofs.Common.{◌≤◌, length, take}
use Rattle.std.specs.Io.KnownBytes.{Consumes}
use Rattle.mandoc_programs.proofs.page_records.read_head.Given as goal

abbrev pub invariant-loop : goal.invariant-loop
invariant-loop g l = (l.count ≤ length l.head) × Consumes (g.I.Read.remaining l.fn.input) (g.I.Read.remaining l.input) (take l.count l.head)
