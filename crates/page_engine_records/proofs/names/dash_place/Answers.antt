use Rattle.std.proofs.Common.{sym, ◌∙◌, arith}
use Rattle.page_engine_records.proofs.NameLemmas.{place_stop, place_on, place_end}
use Rattle.page_engine_records.proofs.names.dash_place.Goals as goal

pub returns-then-begins_dash : goal.returns-then-begins_dash
returns-then-begins_dash c =
    let l = c.loop-byte in
    let is = sym c.begins_dash.ensures.value ∙ c.if-begins_dash.true in
    let room = c.begins_dash.ensures.room c.if-begins_dash.true in record {
      value = place_stop c.args.text.now l.rest.now _ _ l.invariant.place c.in-Some.ensures.cases.0 is;
      bound = omega arith;
      room = λ _. omega (arith, room, l.invariant.short);
    }

pub loop-byte-preserved : goal.loop-byte-preserved
loop-byte-preserved c =
    let l = c.loop-byte in
    let e = c.in-Some.ensures.cases in record {
      short = omega (arith, e.1, l.invariant.short);
      place = place_on c.args.text.now l.rest.now _ _ l.invariant.place e.0 (sym c.begins_dash.ensures.value ∙ c.if-begins_dash.false);
    }

pub returns-clause-value : goal.returns-clause-value
returns-clause-value c = let l = c.loop-byte in place_end c.args.text.now l.rest.now l.invariant.place c.in_default.ensures.cases
