use Rattle.std.proofs.Common.{ap, ◌∙◌}
use Rattle.page_core_base.specs.laws.Views.{line_view}
use Rattle.page_roff_effects.specs.machine.Acting.{with_number}
use Rattle.page_roff_machine.proofs.AtOnceLemmas.{takes_line, taken_sound, calls_line, called_sound, kept_begins, kept_sound}
use Rattle.page_roff_machine.proofs.machines.Machine.begin.Goals as goal

pub invariant_of-self : goal.invariant_of-self
invariant_of-self c =
    taken_sound c.self.inside.runner c.take_at_once.new.self (line_view c.in-Line.taken) c.args.line.now c.args.number
    (rw (← c.self.view_is) at c.requires.idle) c.self.invariant (rw c.in-Line.is at c.take_at_once.ensures)

pub returns-in-Line : goal.returns-in-Line
returns-in-Line c =
    rw (← c.self.view_is)
    (takes_line c.self.inside.runner c.take_at_once.new.self (line_view c.in-Line.taken) c.args.line.now c.args.number
    (rw (← c.self.view_is) at c.requires.idle) c.self.invariant (rw c.in-Line.is at c.take_at_once.ensures))

pub invariant_of-self-in-Call : goal.invariant_of-self-in-Call
invariant_of-self-in-Call c =
    called_sound c.self.inside.runner c.take_at_once.new.self c.args.line.now c.args.number (rw (← c.self.view_is) at c.requires.idle)
    c.self.invariant (rw c.in-Call.is at c.take_at_once.ensures)

pub returns-in-Call : goal.returns-in-Call
returns-in-Call c =
    rw (← c.self.view_is)
    (calls_line c.self.inside.runner c.take_at_once.new.self c.args.line.now c.args.number (rw (← c.self.view_is) at c.requires.idle)
    c.self.invariant (rw c.in-Call.is at c.take_at_once.ensures))

pub invariant_of-self-in-Nothing : goal.invariant_of-self-in-Nothing
invariant_of-self-in-Nothing c =
    kept_sound c.self.inside.runner c.take_at_once.new.self
    (record { stack = c.set_line.new.self; doing = record { actions = c.begin_line.new.self; budget = c.renew.new.self } })
    c.args.line.now c.args.number (rw c.in-Nothing.is at c.take_at_once.ensures)
    c.set_line.ensures (c.begin_line.ensures ∙ ap (with_number c.args.number) c.leave.ensures) c.renew.ensures
    (rw (← c.self.view_is) at c.requires.count) c.self.invariant

pub returns-in-Nothing : goal.returns-in-Nothing
returns-in-Nothing c =
    rw (← c.self.view_is)
    (kept_begins c.self.inside.runner c.take_at_once.new.self
    (record { stack = c.set_line.new.self; doing = record { actions = c.begin_line.new.self; budget = c.renew.new.self } })
    c.args.line.now c.args.number (rw c.in-Nothing.is at c.take_at_once.ensures)
    c.set_line.ensures (c.begin_line.ensures ∙ ap (with_number c.args.number) c.leave.ensures) c.renew.ensures)
