use Rattle.std.proofs.Common.{sym, ap, ◌∙◌}
use Rattle.page_roff_source.specs.machine.RoffLines.{LinesState}
use Rattle.page_roff_source.specs.Runs.{end_notes}
use Rattle.page_roff_source.proofs.RoffLineLemmas.{none_in, end_notes_at, end_invariant}
use Rattle.page_roff_source.proofs.roff_lines.RoffLines.end_into.Goals as goal

pub invariant_of-self : goal.invariant_of-self
invariant_of-self g c =
    let a = c.self.inside in
    end_invariant a.machine c.end.new.self a.source a.remaining c.self.invariant (none_in a.machine a.source a.remaining _ c.self.view_is c.requires)
    c.end.ensures.stack c.end.ensures.budget c.end.ensures.memory

pub returns-clause-came : goal.returns-clause-came
returns-clause-came g c =
    let a = c.self.inside in
    rw (sym (ap (λ (r : LinesState). end_notes r.edge) c.self.view_is)
    ∙ end_notes_at a.machine a.source a.remaining c.self.invariant (none_in a.machine a.source a.remaining _ c.self.view_is c.requires))
    c.end.ensures.came
