use Rattle.std.proofs.Common.{refl, ap, ◌∙◌}
use Rattle.page_engine.specs.machine.PageSinks.{ended}
use Rattle.page_engine.specs.laws.States.{PageState}
use Rattle.page_engine.proofs.WholeLines.{open_layers, failed_at, no_cause, page_none}
use Rattle.page_engine.proofs.pages.Page.end.Goals as goal

pub returns-in-Err-clause-ends : goal.returns-in-Err-clause-ends
returns-in-Err-clause-ends g c = λ e h.
    let i = open_layers c.self.inside.layers e c.self.invariant c.self.view_is h in
    rw (page_none e h.reached)
    (record { gave = c.in-Err.ensures.gets e i; cause = c.in-Err.ensures.faults e i }, failed_at c.self.inside.layers e c.self.view_is h refl refl refl)

pub returns-in-Err-clause-works : goal.returns-in-Err-clause-works
returns-in-Err-clause-works g c = λ e h w.
    let i = open_layers c.self.inside.layers e c.self.invariant c.self.view_is h in
    no_cause c.in-Err.fault _ _ _ _ w.rows_room w.rows w.notes_room w.notes (c.in-Err.ensures.faults e i)

pub returns-clause-ends : goal.returns-clause-ends
unfolding ended
returns-clause-ends g c = λ e h.
    let i = open_layers c.self.inside.layers e c.self.invariant c.self.view_is h in
    let done = c.in_default-end.ensures in
    let f = done.faults e i in
    rw (page_none e h.reached) (
      record { gave = done.gets e i; rows_quiet = f.0; notes_quiet = f.1 },
      record { phase = refl; worst = done.worst e i; counts = ap (λ (p : PageState). p.counts) c.self.view_is ∙ h.counts },
    )
