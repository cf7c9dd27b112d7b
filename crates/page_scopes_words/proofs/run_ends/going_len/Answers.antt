use Rattle.std.proofs.Common.{sym, arith}
use Rattle.page_scopes_words.proofs.RunEndLemmas.{goes_more}
use Rattle.page_scopes_words.proofs.run_ends.going_len.Goals as goal

pub loop-at-preserved : goal.loop-at-preserved
loop-at-preserved c = (omega arith, goes_more c.args.quoted c.args.text.now c.loop-at.at c.loop-at.invariant.1 (sym c.if-not-ends_at.ensures))
