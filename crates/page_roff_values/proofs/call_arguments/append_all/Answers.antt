use Rattle.std.proofs.Common.{◌∙◌, sym}
use Rattle.page_roff_values.proofs.ArgumentLemmas.{counted_end, spaced_end, quoted_end}
use Rattle.page_roff_values.proofs.call_arguments.append_all.Goals as goal

pub returns : goal.returns
returns c =
    let l = c.loop-rest in
    record {
      count = counted_end l.rest.now l.count _ (sym c.is_empty.ensures ∙ c.loop-rest-test.false) l.invariant.count;
      joined = (spaced_end l.rest.now l.joined.items _ (sym c.is_empty.ensures ∙ c.loop-rest-test.false) l.invariant.joined, l.invariant.joined_kept);
      quoted = (quoted_end l.rest.now l.quoted.items _ (sym c.is_empty.ensures ∙ c.loop-rest-test.false) l.invariant.quoted, l.invariant.quoted_kept);
    }
