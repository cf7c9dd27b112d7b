use Rattle.std.proofs.Common.{◌∙◌, sym, arith}
use Rattle.page_roff_blocks.specs.laws.Views.{part_view}
use Rattle.page_roff_blocks.proofs.TieLemmas.{len_found, len_none, next_left, next_further, blocks_most, ends_from}
use Rattle.page_roff_blocks.proofs.loops.len_of.Goals as goal

pub returns-in-None : goal.returns-in-None
returns-in-None c =
    let l = c.loop-left in
    let part = part_view c.written_part-part.result in
    let f = len_found c.args.open_blocks _ l.start c.args.line.now part l.invariant.inside c.written_part-part.ensures.value l.invariant.same
    (sym c.blocks_after.ensures ∙ c.in-None.is) in
    record { value = rw c.before_end.ensures (sym f.0); within = rw c.before_end.ensures f.1 }

pub place_after-requires : goal.place_after-requires
place_after-requires c =
    let l = c.loop-left in
    ends_from l.start c.args.line.now (part_view c.written_part-part.result) l.invariant.inside c.written_part-part.ensures.value

pub returns-in-None-place_after : goal.returns-in-None-place_after
returns-in-None-place_after c =
    let l = c.loop-left in
    let part = part_view c.written_part-part.result in
    record {
      value = sym (len_none c.args.open_blocks _ c.in-Some.left l.start c.args.line.now part c.written_part-part.ensures.value l.invariant.same
          (sym c.blocks_after.ensures ∙ c.in-Some.is) (sym c.place_after.ensures ∙ c.in-None-place_after.is));
      within = tt;
    }

pub loop-left-smaller : goal.loop-left-smaller
loop-left-smaller c =
    let l = c.loop-left in
    let part = part_view c.written_part-part.result in
    let f = next_further l.start c.in-Some-place_after.next c.args.line.now part l.invariant.inside c.written_part-part.ensures.value
    (sym c.place_after.ensures ∙ c.in-Some-place_after.is) in
    omega (arith, f.0, f.1)

pub loop-left-preserved : goal.loop-left-preserved
loop-left-preserved c =
    let l = c.loop-left in
    let part = part_view c.written_part-part.result in
    let place = sym c.place_after.ensures ∙ c.in-Some-place_after.is in
    let goes = sym c.blocks_after.ensures ∙ c.in-Some.is in
    let f = next_further l.start c.in-Some-place_after.next c.args.line.now part l.invariant.inside c.written_part-part.ensures.value place in
    let m = blocks_most part.line_part part.is_end _ c.in-Some.left goes in
    record {
      inside = f.1;
      few = omega (arith, m, f.0, l.invariant.few);
      same = next_left c.args.open_blocks _ c.in-Some.left l.start c.in-Some-place_after.next c.args.line.now part l.invariant.inside
          c.written_part-part.ensures.value l.invariant.same goes place;
    }
