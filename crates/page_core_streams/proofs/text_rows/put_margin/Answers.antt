use Rattle.std.proofs.Common.{◌-◌, replicate, arith, ◌∙◌}
use Rattle.page_core_streams.proofs.AsciiLemmas.{GrowsUpTo-more, GrowsUpTo-broken, rises-after, blanks_moved}
use Rattle.page_core_streams.proofs.text_rows.put_margin.Goals as goal

pub returns-then-not-put-clause-writes : goal.returns-then-not-put-clause-writes
returns-then-not-put-clause-writes g c =
    let left = c.loop-left.left in
    GrowsUpTo-broken _ (replicate 256 32) (replicate (left - 256) 32) c.loop-left.invariant.0 (blanks_moved 256 left (omega arith)) c.if-not-put.ensures.writes

pub loop-left-preserved : goal.loop-left-preserved
loop-left-preserved g c =
    let left = c.loop-left.left in (
      GrowsUpTo-more _ (replicate 256 32) (replicate (left - 256) 32) c.loop-left.invariant.0 (blanks_moved 256 left (omega arith)) c.if-not-put.ensures.writes,
      c.if-not-put.ensures.fails ∙ c.loop-left.invariant.1,
    )

pub returns-then-not-put-clause-fails : goal.returns-then-not-put-clause-fails
returns-then-not-put-clause-fails g c = rises-after _ _ _ _ c.loop-left.invariant.1 c.if-not-put.ensures.fails

-- the blanks that wait are at the front of the bytes
pub returns-clause-writes : goal.returns-clause-writes
returns-clause-writes g c = (omega arith, rw c.put_blanks.ensures c.loop-left.invariant.0)
