use Rattle.std.proofs.Common.{◌≡◌, ◌≤◌, ℕ, List, length}
use Rattle.page_core_streams.specs.laws.Views.{AreRead}
use Rattle.page_engine_index.specs.Searches.{rows_to}
use Rattle.page_engine_index.specs.machine.Steps.{Here}
use Rattle.page_engine_index.specs.Whatis.{asked_of}
use Rattle.page_engine_index.proofs.searches.Search.read_all.Given as goal

abbrev pub invariant-loop-self : goal.invariant-loop-self
invariant-loop-self g l =
    let s = g.S.Source in
    let o = g.L.LineSink in
    (read : List ℕ) × AreRead (s.state l.fn.source) (s.state l.source) l.chunks read
    × Here (rows_to o.gave o.within o.failed) (asked_of l.query) l.fn.out l.out l.self read
    × (l.self.place.lines ≤ length read) × (l.self.rows ≤ l.self.place.lines)
    × (s.loans l.source ≡ s.loans l.fn.source) × (o.loans l.out ≡ o.loans l.fn.out)

abbrev pub decreases-loop-self : goal.decreases-loop-self
decreases-loop-self g l = l.chunks.calls_left
