use Rattle.std.proofs.Common.{subst}
use Rattle.page_roff_source.specs.laws.Views.{RoffFits, RunsWithin}
use Rattle.page_roff_source.specs.machine.RoffLines.{LinesState}
use Rattle.page_roff_source.proofs.RoffLineLemmas.{none_in, fits_at}
use Rattle.page_roff_source.proofs.roff_lines.RoffLines.caps_law.Goals as goal

pub returns-clause-fits : goal.returns-clause-fits
returns-clause-fits c = λ none.
    let a = c.self.inside in
    subst (λ (r : LinesState). RoffFits r.edge) c.self.view_is
    (fits_at a.machine a.source a.remaining c.self.invariant (none_in a.machine a.source a.remaining _ c.self.view_is none)
    c.caps_law.ensures.place c.caps_law.ensures.memory)

pub returns-clause-running : goal.returns-clause-running
returns-clause-running c =
    subst (λ (r : LinesState). RunsWithin r.running) c.self.view_is
    (record { macros = c.caps_law.ensures.count; bytes = c.caps_law.ensures.bytes })
