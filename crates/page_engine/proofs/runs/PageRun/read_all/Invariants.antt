use Rattle.std.proofs.Common.{◌≡◌, [], ℕ, List}
use Rattle.page_core_base.specs.declared.page_settings.Settings.{Settings as PageSettings}
use Rattle.page_core_streams.specs.laws.Views.{AreRead}
use Rattle.page_engine.specs.laws.Reads.{HasTaken, IsOut}
use Rattle.page_engine.specs.laws.Views.{sinks}
use Rattle.page_engine.proofs.WholeRuns.{HasCome}
use Rattle.page_engine.proofs.runs.PageRun.read_all.Given as goal

abbrev pub invariant-loop-self : goal.invariant-loop-self
invariant-loop-self g l =
    let s = g.S.Source in
    let r = g.R.RowSink in
    let n = g.N.NoteSink in
    let k = sinks r.gave r.within r.failed n.gave n.within n.failed in
    (read : List ℕ) × AreRead (s.state l.fn.source) (s.state l.source) l.chunks read
    × ((settings : PageSettings) → HasTaken l.fn.self settings [] → HasCome k l.self l.fn.rows l.rows l.fn.notes l.notes settings read)
    × (s.loans l.source ≡ s.loans l.fn.source)
    × (r.loans l.rows ≡ r.loans l.fn.rows) × (n.loans l.notes ≡ n.loans l.fn.notes)
    × IsOut r.is_out n.is_out l.fn.rows l.rows l.fn.notes l.notes

abbrev pub decreases-loop-self : goal.decreases-loop-self
decreases-loop-self g l = l.chunks.calls_left
