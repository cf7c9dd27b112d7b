use Rattle.std.proofs.Common.{ap, sym, ◌∙◌}
use Rattle.page_roff_source.specs.machine.RoffLines.{LinesState}
use Rattle.page_roff_source.specs.laws.Views.{part_of}
use Rattle.page_roff_source.proofs.RoffLineLemmas.{none_in, part_at, is_part_at}
use Rattle.page_roff_source.proofs.roff_lines.RoffLines.part.Goals as goal

pub invariant_of-result : goal.invariant_of-result
invariant_of-result c =
    let a = c.self.inside in
    rw (c.standing.ensures, c.in_ok-remembered.ensures, c.taken.ensures)
    (is_part_at a.machine a.source a.remaining c.self.invariant (none_in a.machine a.source a.remaining _ c.self.view_is c.requires) c.passed_law.ensures)

pub returns : goal.returns
returns c =
    let a = c.self.inside in
    rw (c.standing.ensures, c.in_ok-remembered.ensures, c.taken.ensures)
    (sym (part_at a.machine a.source a.remaining c.self.invariant (none_in a.machine a.source a.remaining _ c.self.view_is c.requires))
    ∙ ap (λ (r : LinesState). part_of r.edge) c.self.view_is)
