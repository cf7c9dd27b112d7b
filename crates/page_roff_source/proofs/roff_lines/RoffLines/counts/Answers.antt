use Rattle.std.proofs.Common.{ap, ◌∙◌}
use Rattle.page_roff_source.specs.machine.RoffLines.{LinesState}
use Rattle.page_roff_source.specs.Runs.{counts_of}
use Rattle.page_roff_source.proofs.RoffLineLemmas.{none_in, counts_at}
use Rattle.page_roff_source.proofs.roff_lines.RoffLines.counts.Goals as goal

pub returns : goal.returns
returns c = λ none.
    let a = c.self.inside in
    rw (c.taken.ensures, c.expansions.ensures)
    (counts_at a.machine a.source a.remaining c.self.invariant (none_in a.machine a.source a.remaining _ c.self.view_is none)
    ∙ ap (λ (r : LinesState). counts_of r.edge) c.self.view_is)
