use Rattle.std.proofs.Common.{ℕ, List, sym, subst}
use Rattle.page_core_streams.specs.laws.Views.{Writes}
use Rattle.mandoc_formats.proofs.Turns.{bad_line}
use Rattle.mandoc_formats.proofs.faults.put_bad_line.Goals as goal

pub returns-clause-writes : goal.returns-clause-writes
returns-clause-writes g c =
    let a = g.V.Target.contents c.args.err.now in
    let b = g.V.Target.contents c.put_through.new.self in
    let came = rw (c.as_bytes.ensures.value, c.as_bytes-2.ensures.value, c.format.ensures.text) at c.put_through.ensures.writes in
    subst (λ (l : List ℕ). Writes c.put_through.result a b l) (sym (bad_line c.args.name.now c.args.line)) came
