use Rattle.std.proofs.Common.{refl}
use Rattle.page_core_streams.proofs.AsciiLemmas.{sends}
use Rattle.page_core_streams.proofs.writing.add.Goals as goal

pub returns-then-send-clause-sent : goal.returns-then-send-clause-sent
returns-then-send-clause-sent g c =
    sends _ _ _ c.args.unsent.now.items c.args.text.now c.send.new.unsent.items _ c.if-send.ensures.sent (c.if-send.ensures.empty refl) c.put.ensures.writes
