use Rattle.std.proofs.Common.{length, sym, ap, ◌∙◌, [], arith}
use Rattle.std.specs.List.{slice_split}
use Rattle.page_engine_records.specs.Records.{is_comma, with_names}
use Rattle.page_engine_records.proofs.NameLemmas.{names_more, names_none, name_length}
use Rattle.page_engine_records.proofs.names.add_names.Goals as goal

pub loop-name-preserved : goal.loop-name-preserved
loop-name-preserved c =
    let l = c.loop-name in
    let e = c.in-Some.ensures in
    let rest = slice_split is_comma c.in-Some.after.now in record {
      same = rw (c.add_name.ensures, c.trimmed.ensures.value)
          (sym (names_more l.names c.in-Some.name.now rest) ∙ (ap (with_names l.names) (sym e.split) ∙ l.invariant.same));
      room = omega (arith, name_length l.names c.trimmed.result.now, c.trimmed.ensures.bound, e.room, l.invariant.room, ap length c.add_name.ensures);
    }

pub returns : goal.returns
returns c =
    let l = c.loop-name in
    rw (c.add_name-2.ensures, c.trimmed-2.ensures.value)
    (sym (names_none _) ∙ (sym (names_more l.names l.rest.now []) ∙ (ap (with_names l.names) (sym c.in_default.ensures.split) ∙ l.invariant.same)))
