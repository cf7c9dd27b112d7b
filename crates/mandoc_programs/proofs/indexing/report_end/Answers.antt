use Rattle.std.proofs.Common.{[], ℕ, List, ◌++◌, Result, false, refl, sym, subst}
use Rattle.page_core_base.specs.declared.faults.Fault.{Fault}
use Rattle.mandoc_formats.specs.Formats.{HasFailed, Tells, fault_line, shown, stops_after}
use Rattle.mandoc_programs.specs.declared.pages.Tally.{Tally}
use Rattle.mandoc_programs.specs.Indexes.{Reported, tail}
use Rattle.mandoc_formats.proofs.Turns.{done_is}
use Rattle.mandoc_programs.proofs.Parts.{said_or}
use Rattle.mandoc_programs.proofs.indexing.report_end.Goals as goal

pub returns-in-Ok-clause-came : goal.returns-in-Ok-clause-came
returns-in-Ok-clause-came g c =
    let done = done_is c.with.result c.in-Ok.tally.status false c.with.ensures.status c.with.ensures.goes_on in
    ([], c.put_all_out.ensures.same, subst (λ (end : Result Tally Fault). Reported (HasFailed g.V.Target.counts g.V.Target.failures) (shown c.args.dir.now ++ tail c.args.form) end [] c.with.result) (sym c.in-Ok.is) (refl, done))

pub returns-in-Ok-clause-said : goal.returns-in-Ok-clause-said
returns-in-Ok-clause-said g c l = said_or c.put_all_out.result _ _ c.put_all_out.ensures.empty c.put_all_out.ensures.failed

pub returns-in-Err-clause-came : goal.returns-in-Err-clause-came
returns-in-Err-clause-came g c =
    let f = c.report_fault_at in
    let why = c.in-Err.fault in
    let dir = shown c.args.dir.now in
    let a = g.V.Target.contents c.args.err.now in
    let b = g.V.Target.contents f.new.err in
    let line = subst (λ (t : List ℕ). Tells (HasFailed g.V.Target.counts g.V.Target.failures) a b (fault_line (dir ++ t) why)) c.tail.ensures f.ensures.line in
    let done = done_is f.result 6 (stops_after why) f.ensures.status f.ensures.stops in
    (line.part, line.grows, subst (λ (end : Result Tally Fault). Reported (HasFailed g.V.Target.counts g.V.Target.failures) (dir ++ tail c.args.form) end line.part f.result) (sym c.in-Err.is) (line.told, done))
