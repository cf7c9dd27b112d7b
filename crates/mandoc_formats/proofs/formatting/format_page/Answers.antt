use Rattle.std.proofs.Common.{◌++◌, Result, Ok, Err, refl, ◌∙◌, subst}
use Rattle.page_core_base.specs.declared.faults.Fault.{Fault}
use Rattle.page_core_streams.specs.laws.Views.{Grows-append}
use Rattle.page_engine.specs.declared.runs.Outcome.{Outcome}
use Rattle.mandoc_formats.specs.Formats.{HasCause, IsReported, page_out, page_err}
use Rattle.mandoc_formats.proofs.Turns.{none_below}
use Rattle.mandoc_formats.proofs.formatting.format_page.Goals as goal

pub returns-in-Ok : goal.returns-in-Ok
returns-in-Ok g c =
    let r = c.run_waiting.ensures.ran in
    let kind = c.args.settings.now.output in
    let empty = rw c.in-Ok.is at c.run_waiting.ensures.empty in (
      record { out = page_out kind r.0; err = page_err kind r.0; end = c.with.result },
      record {
        page = r.0;
        is = r.1;
        read = r.2;
        result = Ok c.in-Ok.outcome;
        ended = subst (λ (x : Result Outcome Fault). IsReported r.0.end x) c.in-Ok.is r.3;
        cause = subst (HasCause _) c.in-Ok.is c.run_waiting.ensures.cause;
        out = refl;
        told = (refl, c.with.ensures.status ∙ c.status_of.ensures, c.with.ensures.goes_on);
      },
      r.4,
      r.5,
      refl,
      λ p. empty,
    )

pub returns-in-Err : goal.returns-in-Err
returns-in-Err g c =
    let r = c.run_waiting.ensures.ran in
    let kind = c.args.settings.now.output in
    let f = c.report_fault in
    let line = f.ensures.line in (
      record { out = page_out kind r.0; err = page_err kind r.0 ++ line.part; end = f.result },
      record {
        page = r.0;
        is = r.1;
        read = r.2;
        result = Err c.in-Err.fault;
        ended = subst (λ (x : Result Outcome Fault). IsReported r.0.end x) c.in-Err.is r.3;
        cause = subst (HasCause _) c.in-Err.is c.run_waiting.ensures.cause;
        out = refl;
        told = ((line.part, refl, line.told), f.ensures.status, f.ensures.stops);
      },
      r.4,
      Grows-append _ _ _ _ line.part r.5 line.grows,
      refl,
      none_below _ _ f.ensures.status,
    )
