use Rattle.std.proofs.Common.{◌≤◌, ◌<◌, length, sym, ◌∙◌, arith}
use Rattle.std.proofs.lemmas.Bool.Decides.{nat_tests}
use Rattle.page_engine_index.specs.Searches.{rows_to}
use Rattle.page_engine_index.specs.Whatis.{asked_of}
use Rattle.page_engine_index.proofs.SearchLemmas.{end_empty, end_line, end_stopped, empty_of, not_empty}
use Rattle.page_engine_index.proofs.searches.Search.finish.Goals as goal

pub returns-then-is_empty-clause-ends : goal.returns-then-is_empty-clause-ends
returns-then-is_empty-clause-ends g c = λ first bytes h.
    let l = g.L.LineSink in
    let none : length c.bytes.result.now ≤ 0 = grind (arith, nat_tests) in
    end_empty (rows_to l.gave l.within l.failed) (asked_of c.args.query.now) first c.args.out.now c.args.self.now bytes
    (sym c.bytes.ensures.value ∙ empty_of c.bytes.result.now none) h

pub returns-in-Ok-clause-ends : goal.returns-in-Ok-clause-ends
returns-in-Ok-clause-ends g c = λ first bytes h.
    let l = g.L.LineSink in
    let some : 0 < length c.bytes.result.now = grind (arith, nat_tests) in
    end_line (rows_to l.gave l.within l.failed) (asked_of c.args.query.now) g.met.L.LineSink.laws first c.args.out.now c.take_line.new.out c.args.self.now c.take_line.new.self
    bytes (λ e. not_empty c.bytes.result.now some (c.bytes.ensures.value ∙ e)) c.in-Ok.ensures.takes h

pub returns-in-Err-clause-ends : goal.returns-in-Err-clause-ends
returns-in-Err-clause-ends g c = λ first bytes h.
    let l = g.L.LineSink in
    let some : 0 < length c.bytes.result.now = grind (arith, nat_tests) in
    end_stopped (rows_to l.gave l.within l.failed) (asked_of c.args.query.now) g.met.L.LineSink.laws first c.args.out.now c.take_line.new.out c.args.self.now bytes
    c.in-Err.fault (λ e. not_empty c.bytes.result.now some (c.bytes.ensures.value ∙ e)) c.in-Err.ensures.takes h
