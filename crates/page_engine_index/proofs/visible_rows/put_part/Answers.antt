use Rattle.std.proofs.Common.{◌∙◌}
use Rattle.page_core_streams.proofs.AsciiLemmas.{GrowsUpTo-more, GrowsUpTo-broken}
use Rattle.page_engine_index.proofs.VisibleLemmas.{at_more}
use Rattle.page_engine_index.proofs.visible_rows.put_part.Goals as goal

pub returns-then-not-put_byte-clause-writes : goal.returns-then-not-put_byte-clause-writes
returns-then-not-put_byte-clause-writes g c = λ rest.
    let more = at_more c.loop-byte.held c.args.part.now rest c.loop-byte.byte-index c.loop-byte-test.true in
    GrowsUpTo-broken _ _ _ (c.loop-byte.invariant.0 rest) more c.if-not-put_byte.ensures.writes

pub loop-byte-preserved : goal.loop-byte-preserved
loop-byte-preserved g c = (
  λ rest.
      let more = at_more c.loop-byte.held c.args.part.now rest c.loop-byte.byte-index c.loop-byte-test.true in
      GrowsUpTo-more _ _ _ (c.loop-byte.invariant.0 rest) more c.if-not-put_byte.ensures.writes,
  c.if-not-put_byte.ensures.fails ∙ c.loop-byte.invariant.1,
)
