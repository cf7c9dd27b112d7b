use Rattle.std.proofs.Common.{◌≡◌, ◌+◌, ◌≤◌, ◌++◌, ℕ, List, length}
use Rattle.page_engine_index.specs.Searches.{rows_to}
use Rattle.page_engine_index.specs.machine.Steps.{Here}
use Rattle.page_engine_index.specs.Whatis.{asked_of}
use Rattle.page_engine_index.proofs.searches.Search.take_chunk.Given as goal

abbrev pub invariant-loop-rest : goal.invariant-loop-rest
invariant-loop-rest g l =
    let o = g.L.LineSink in
    (done : List ℕ) × (l.chunk ≡ done ++ l.rest)
    × (l.self.place.lines ≤ l.fn.self.place.lines + length done) × (l.self.rows ≤ l.self.place.lines)
    × ((first : g.row.L.Denot) (bytes : List ℕ) → Here (rows_to o.gave o.within o.failed) (asked_of l.query) first l.fn.out l.fn.self bytes
    → Here (rows_to o.gave o.within o.failed) (asked_of l.query) first l.out l.self (bytes ++ done))
    × (o.loans l.out ≡ o.loans l.fn.out)

abbrev pub decreases-loop-rest : goal.decreases-loop-rest
decreases-loop-rest g l = length l.rest
