use Rattle.std.proofs.Common.{ℕ, [], Result, Ok, Err, refl, ◌∙◌, subst}
use Rattle.page_core_base.specs.declared.faults.Fault.{Fault}
use Rattle.page_core_streams.specs.laws.Views.{Grows-nil}
use Rattle.mandoc_formats.specs.Formats.{HasCause}
use Rattle.mandoc_programs.specs.Searches.{IsAnswered}
use Rattle.mandoc_formats.proofs.Turns.{none_below}
use Rattle.mandoc_programs.proofs.searching.search_found.Goals as goal

pub returns-in-Ok : goal.returns-in-Ok
returns-in-Ok g c =
    let r = c.print_waiting.ensures.ran in
    let empty = rw c.in-Ok.is at c.print_waiting.ensures.empty in (
      record { out = r.0.rows; err = []; end = c.with.result },
      record {
        search = r.0;
        is = r.1;
        read = r.2;
        result = Ok c.in-Ok.count;
        ended = subst (λ (x : Result ℕ Fault). IsAnswered r.0.end x) c.in-Ok.is r.3;
        cause = λ e. subst (HasCause _) c.in-Ok.is (c.print_waiting.ensures.cause e);
        out = refl;
        told = (refl, c.with.ensures.status ∙ c.status_by.ensures);
      },
      r.4,
      Grows-nil _,
      refl,
      λ l. (empty, refl),
    )

pub returns-in-Err : goal.returns-in-Err
returns-in-Err g c =
    let r = c.print_waiting.ensures.ran in
    let f = c.report_fault in
    let line = f.ensures.line in (
      record { out = r.0.rows; err = line.part; end = f.result },
      record {
        search = r.0;
        is = r.1;
        read = r.2;
        result = Err c.in-Err.fault;
        ended = subst (λ (x : Result ℕ Fault). IsAnswered r.0.end x) c.in-Err.is r.3;
        cause = λ e. subst (HasCause _) c.in-Err.is (c.print_waiting.ensures.cause e);
        out = refl;
        told = (line.told, f.ensures.status);
      },
      r.4,
      line.grows,
      refl,
      none_below _ _ f.ensures.status,
    )
