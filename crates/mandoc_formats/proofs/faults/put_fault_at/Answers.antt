use Rattle.std.proofs.Common.{ℕ, List, ◌++◌, sym, subst}
use Rattle.std.specs.Prelude.{codes}
use Rattle.page_core_streams.specs.Streams.{GrowsInto}
use Rattle.page_core_streams.specs.laws.Views.{Writes}
use Rattle.mandoc_formats.specs.Formats.{fault_text, line_end, shown}
use Rattle.mandoc_formats.proofs.Turns.{writes_on, ended_before, line_parts}
use Rattle.mandoc_formats.proofs.faults.put_fault_at.Goals as goal

pub returns-then-put_front-clause-writes : goal.returns-then-put_front-clause-writes
returns-then-put_front-clause-writes g c =
    let a = g.V.Target.contents c.args.err.now in
    let b = g.V.Target.contents c.put_front.new.err in
    let d = g.V.Target.contents c.put_end.new.err in
    let r = c.put_end.result in
    let dir = shown c.args.dir.now in
    let name = c.args.name.now in
    let text = fault_text c.args.fault in
    subst (λ (l : List ℕ). Writes r a d l) (sym (line_parts dir name text))
    (writes_on r a b d (codes "mandoc: " ++ dir) (line_end name text) c.if-put_front.ensures.writes c.put_end.ensures.writes)

pub returns-clause-writes : goal.returns-clause-writes
returns-clause-writes g c =
    let a = g.V.Target.contents c.args.err.now in
    let b = g.V.Target.contents c.put_front.new.err in
    let dir = shown c.args.dir.now in
    let name = c.args.name.now in
    let text = fault_text c.args.fault in
    subst (λ (l : List ℕ). GrowsInto a b l) (sym (line_parts dir name text)) (ended_before a b (codes "mandoc: " ++ dir) (line_end name text) c.if-put_front.ensures.writes)

pub returns-clause-failed : goal.returns-clause-failed
returns-clause-failed g c e = c.put_front.ensures.failed c.if-put_front.false
