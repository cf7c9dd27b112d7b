use Rattle.std.proofs.Common.{◌≡◌, take}
use Rattle.page_engine.specs.Edges.{Edge}
use Rattle.page_engine.specs.laws.States.{IsOpenAt}
use Rattle.page_engine.specs.laws.Views.{sinks}
use Rattle.page_laws.specs.Fed.{lines_given}
use Rattle.page_laws.proofs.ShownLemmas.{HasFed}
use Rattle.page_laws.proofs.feeding.feed_lines.Given as goal

-- what the lines so far settle came, and the page is at the edge after them
abbrev pub invariant-loop-line : goal.invariant-loop-line
invariant-loop-line g l =
    let r = g.R.RowSink in
    let n = g.N.NoteSink in
    ((e : Edge) → IsOpenAt l.fn.page e → HasFed (sinks r.gave r.within r.failed n.gave n.within n.failed)
    l.fn.rows l.rows l.fn.notes l.notes e (lines_given (take l.line-index l.lines)) l.page)
    × (r.loans l.rows ≡ r.loans l.fn.rows) × (n.loans l.notes ≡ n.loans l.fn.notes)
