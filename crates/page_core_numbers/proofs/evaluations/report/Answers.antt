use Rattle.std.proofs.Common.{◌∙◌}
use Rattle.std.proofs.lemmas.Result.{err_from_is_err_and}
use Rattle.page_core_base.proofs.LatchLemmas.{UpTo-more, UpTo-within}
use Rattle.page_core_numbers.proofs.evaluations.report.Goals as goal

pub loop-note-preserved : goal.loop-note-preserved
loop-note-preserved g c =
    let i = c.loop-note.invariant in (
      UpTo-more g.met.N.NoteSink.laws _ _ _ i.0 c.in-Some.ensures c.in_ok-note.ensures.gives,
      c.in_ok-note.ensures.fault ∙ i.1,
      c.in_ok-note.ensures.same ∙ i.2,
    )

pub returns-in_err-note-clause-gives : goal.returns-in_err-note-clause-gives
returns-in_err-note-clause-gives g c =
    let p = err_from_is_err_and c.from_residual.result c.from_residual.ensures.1 in
    rw p.1 (UpTo-within g.met.N.NoteSink.laws _ _ _ c.loop-note.invariant.0 c.in-Some.ensures c.in_err-note.ensures.gives)
