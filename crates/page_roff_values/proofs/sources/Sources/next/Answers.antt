use Rattle.std.proofs.Common.{◌∷◌, length, arith, ap, ◌∙◌, sym, rules}
use Rattle.page_roff_values.specs.machine.Rest.{rest}
use Rattle.page_roff_parts.specs.machine.Verbatim.{part_of}
use Rattle.page_roff_values.proofs.LineLemmas.{front_reads, same_rest}
use Rattle.page_roff_values.proofs.TextLemmas.{outer_of, rest_none, rest_pop, size_pop, rest_reads, shorter}
use Rattle.page_roff_values.proofs.sources.Sources.next.Goals as goal

pub returns-in-None-clause-reads : goal.returns-in-None-clause-reads
returns-in-None-clause-reads c = λ env room s copy e _.
    let l = c.loop-self.self in
    c.loop-self.invariant.same env room s e ∙ rest_none env room l.inner l.outer.items s e (sym c.is_empty.ensures ∙ c.loop-self-test.true) (search rules)

pub loop-self-preserved : goal.loop-self-preserved
loop-self-preserved c =
    let l = c.loop-self.self in
    let k = size_pop l.inner l.outer.items c.pop.new.self.items c.in-Some.text c.in-Some.ensures.items in
    let n = c.new-self.ensures in
    let f = c.loop-self.invariant.falls in record {
      same = λ env room s e. c.loop-self.invariant.same env room s e ∙ rest_pop env room l.inner l.outer.items c.pop.new.self.items c.in-Some.text s e (sym c.is_empty.ensures ∙ c.loop-self-test.true) c.in-Some.ensures.items ∙ ap (λ t. rest env room (t ∷ outer_of c.pop.new.self.items) s) (sym c.new-self.ensures);
      falls = rw n (omega arith);
    }

pub returns-then-not-is_empty-clause-reads : goal.returns-then-not-is_empty-clause-reads
returns-then-not-is_empty-clause-reads c = λ env room s copy e h.
    let l = c.loop-self.self in
    let f = c.take_front-front.ensures in
    let n = length c.take_front-front.result.now in
    let reads = front_reads env room n l.inner (outer_of l.outer.items) s e (omega (arith, f.fits)) (rw (← copy) at f.front) in
    c.loop-self.invariant.same env room s e ∙ rw (← f.value, ← f.rest) at reads

-- the same text, of which nothing was taken
pub returns-then-not-is_empty-2-clause-reads : goal.returns-then-not-is_empty-2-clause-reads
returns-then-not-is_empty-2-clause-reads c = λ env room s copy e h.
    let l = c.loop-self.self in
    let t = l.inner in
    let same = same_rest c.take_front-front.result.now t c.take_front-front.new.self (sym c.is_empty-2.ensures ∙ c.if-not-is_empty.false) c.take_front-front.ensures.rest in
    let f = c.take_lone-lone.ensures in
    let n = length c.take_lone-lone.result.now in
    let value = rw same at f.value in
    let rest = rw same at f.rest in
    let reads = front_reads env room n t (outer_of l.outer.items) s e (omega (arith, f.fits)) (rw (same, ← copy) at f.front) in
    c.loop-self.invariant.same env room s e ∙ rw (← value, ← rest) at reads

-- the same text, of which nothing was taken twice
pub returns-clause-reads : goal.returns-clause-reads
returns-clause-reads c = λ env room s copy e _.
    let l = c.loop-self.self in
    let t = l.inner in
    let first = same_rest c.take_front-front.result.now t c.take_front-front.new.self (sym c.is_empty-2.ensures ∙ c.if-not-is_empty.false) c.take_front-front.ensures.rest in
    let same = same_rest c.take_lone-lone.result.now t c.take_lone-lone.new.self (sym c.is_empty-3.ensures ∙ c.if-not-is_empty-2.false) (rw first at c.take_lone-lone.ensures.rest) in
    c.loop-self.invariant.same env room s e
    ∙ rest_reads env room t (record { part = part_of c.next.result; rest = c.next.new.self }) (outer_of l.outer.items) s (search rules) (rw (same, ← copy) at c.next.ensures)

pub returns-clause-falls : goal.returns-clause-falls
returns-clause-falls c =
    let l = c.loop-self.self in
    let t = l.inner in
    let first = same_rest c.take_front-front.result.now t c.take_front-front.new.self (sym c.is_empty-2.ensures ∙ c.if-not-is_empty.false) c.take_front-front.ensures.rest in
    let same = same_rest c.take_lone-lone.result.now t c.take_lone-lone.new.self (sym c.is_empty-3.ensures ∙ c.if-not-is_empty-2.false) (rw first at c.take_lone-lone.ensures.rest) in
    let k = shorter c.args.copy t (record { part = part_of c.next.result; rest = c.next.new.self }) (search rules) (rw same at c.next.ensures) in
    let f = c.loop-self.invariant.falls in
    omega arith
