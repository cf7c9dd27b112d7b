use Rattle.std.proofs.Common.{sym, ◌∙◌, arith}
use Rattle.page_engine_index.proofs.MatchLemmas.{len_stop, len_on, len_end, len_most, names_room}
use Rattle.page_engine_index.proofs.matches.name_len.Goals as goal

pub returns-then-ends_name : goal.returns-then-ends_name
returns-then-ends_name c =
    let l = c.loop-byte in
    let z = len_stop c.args.names.now l.rest.now _ _ l.invariant.len c.in-Some.ensures.cases.0 (sym c.ends_name.ensures ∙ c.if-ends_name.true) in
    record {
      value = z;
      bound = rw z (len_most c.args.names.now);
      room = rw z (names_room c.args.names.now);
    }

pub loop-byte-preserved : goal.loop-byte-preserved
loop-byte-preserved c =
    let l = c.loop-byte in
    let e = c.in-Some.ensures.cases in record {
      short = omega (arith, e.1, l.invariant.short);
      len = len_on c.args.names.now l.rest.now _ _ l.invariant.len e.0 (sym c.ends_name.ensures ∙ c.if-ends_name.false);
    }

pub returns-clause-value : goal.returns-clause-value
returns-clause-value c = let l = c.loop-byte in len_end c.args.names.now l.rest.now l.invariant.len c.in_default.ensures.cases
