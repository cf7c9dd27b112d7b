use Rattle.page_roff_effects.specs.machine.Acting.{measured}
use Rattle.page_roff_effects.proofs.CallLemmas.{leaf_callable}
use Rattle.page_roff_effects.proofs.actions.Actions.leaf.Goals as goal

pub returns-clause-call : goal.returns-clause-call
returns-clause-call g c =
    leaf_callable (measured c.args.self.now.setting) c.args.may_call c.args.text.now c.args.self.now.memory c.take_form.result c.take_form.new.self
    c.take_form.ensures.kind c.take_form.ensures.lends
