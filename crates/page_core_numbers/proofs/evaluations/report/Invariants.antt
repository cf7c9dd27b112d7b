use Rattle.std.proofs.Common.{◌≡◌, length}
use Rattle.page_core_base.specs.laws.Views.{UpTo}
use Rattle.page_core_numbers.proofs.evaluations.report.Given as goal

abbrev pub invariant-loop-note : goal.invariant-loop-note
invariant-loop-note g l =
    UpTo g.N.NoteSink.gave l.fn.notes l.fn.left l.left l.notes
    × (g.N.NoteSink.failed l.notes ≡ g.N.NoteSink.failed l.fn.notes) × (g.N.NoteSink.loans l.notes ≡ g.N.NoteSink.loans l.fn.notes)

abbrev pub decreases-loop-note : goal.decreases-loop-note
decreases-loop-note g l = length l.left
