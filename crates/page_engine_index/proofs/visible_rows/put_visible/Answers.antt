use Rattle.std.proofs.Common.{[], ◌+◌, drop, sym, ap, ◌∙◌, append-nil, arith}
use Rattle.std.specs.List.{flat_map}
use Rattle.page_core_streams.proofs.AsciiLemmas.{GrowsUpTo-more, GrowsUpTo-broken, GrowsUpTo-last}
use Rattle.page_engine_index.specs.Written.{visible_from}
use Rattle.page_engine_index.proofs.VisibleLemmas.{parts_more, parts_end}
use Rattle.page_engine_index.proofs.visible_rows.put_visible.Goals as goal

pub returns-in-None-clause-writes : goal.returns-in-None-clause-writes
returns-in-None-clause-writes g c =
    let i = c.loop-part.part-index in
    let held = c.loop-part.held in
    let more = parts_more c.args.parts.now i c.loop-part-test.true in
    let broken = c.in-None.ensures.writes (flat_map (λ part. part.now) (drop (i + 1) c.args.parts.now)) in
    GrowsUpTo-broken _ _ [] c.loop-part.invariant.0 (ap (visible_from held) more ∙ sym (append-nil _)) broken

pub loop-part-preserved : goal.loop-part-preserved
loop-part-preserved g c =
    let i = c.loop-part.part-index in
    let held = c.loop-part.held in
    let more = parts_more c.args.parts.now i c.loop-part-test.true in
    let came = c.in-Some.ensures.writes (flat_map (λ part. part.now) (drop (i + 1) c.args.parts.now)) in
    (GrowsUpTo-more _ came.done _ c.loop-part.invariant.0 (ap (visible_from held) more ∙ came.parts) came.grows, c.in-Some.ensures.fails ∙ c.loop-part.invariant.1)

pub returns-clause-writes : goal.returns-clause-writes
returns-clause-writes g c =
    GrowsUpTo-last _ _ c.put_held.result c.loop-part.invariant.0 (parts_end c.loop-part.held c.args.parts.now c.loop-part.part-index (omega arith)) c.put_held.ensures.writes
