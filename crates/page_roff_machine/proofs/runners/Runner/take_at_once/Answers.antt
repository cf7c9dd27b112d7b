use Rattle.std.proofs.Common.{refl}
use Rattle.page_roff_machine.proofs.runners.Runner.take_at_once.Goals as goal

pub returns-in-Call : goal.returns-in-Call
returns-in-Call c =
    rw c.in-Call.is (record {
      outside = c.is_outside.ensures c.if-not-is_outside.false;
      before = record { stack = c.args.self.now.stack; doing = record { actions = c.take_at_once-at_once.new.self; budget = c.begin-in-Call.new.self } };
      stack = refl;
      budget = c.begin-in-Call.ensures;
      call = rw (c.in-Call.is, c.begin_line.ensures) at c.take_at_once-at_once.ensures;
      enters = c.enter_call.ensures;
    })
