use Rattle.std.proofs.Common.{sym, subst, inl, inr}
use Rattle.page_core_base.specs.declared.faults.Fault.{Fault}
use Rattle.page_core_streams.specs.laws.Views.{Writes}
use Rattle.mandoc_formats.specs.Formats.{fault_text, line_end}
use Rattle.mandoc_formats.proofs.faults.put_end.Goals as goal

pub returns-in-Read-clause-writes : goal.returns-in-Read-clause-writes
returns-in-Read-clause-writes g c =
    let w = c.put_text-in-Read in
    subst (λ (f : Fault). Writes w.result (g.V.Target.contents c.args.err.now) (g.V.Target.contents w.new.err) (line_end c.args.name.now (fault_text f)))
    (sym c.in-Read.is) w.ensures.writes

pub returns-in-TooLong-clause-writes : goal.returns-in-TooLong-clause-writes
returns-in-TooLong-clause-writes g c =
    let w = c.put_text-in-TooLong in
    subst (λ (f : Fault). Writes w.result (g.V.Target.contents c.args.err.now) (g.V.Target.contents w.new.err) (line_end c.args.name.now (fault_text f)))
    (sym c.in-TooLong.is) w.ensures.writes

pub returns-in-Failed-clause-writes : goal.returns-in-Failed-clause-writes
returns-in-Failed-clause-writes g c =
    let w = c.put_text-in-Failed in
    let at = λ (f : Fault). Writes w.result (g.V.Target.contents c.args.err.now) (g.V.Target.contents w.new.err) (line_end c.args.name.now (fault_text f)) in
    elim c.in-Failed.is [ inl e ↦ subst at (sym e) w.ensures.writes | inr e ↦ subst at (sym e) w.ensures.writes ]
