use Rattle.std.proofs.Common.{◌≡◌, ap, ◌∙◌}
use Rattle.page_roff_machine.proofs.AtOnceLemmas.{may_call_on_page}
use Rattle.page_roff_machine.specs.declared.runners.Runner.{Runner}
use Rattle.page_roff_machine.specs.machine.Moving.{called}
use Rattle.page_roff_machine.specs.machine.Machines.{page_after}
use Rattle.page_roff_machine.proofs.runners.Runner.enter_call.Goals as goal

pub call-requires : goal.call-requires
call-requires c =
    let fits = c.requires.fits in
    rw c.pass_page_line.ensures (record { room = may_call_on_page; body = fits.body; packed = fits.packed })

pub returns : goal.returns
returns c =
    let passed : Runner = record { stack = c.pass_page_line.new.self; doing = c.args.self.now.doing } in
    let same : passed ≡ page_after c.args.self.now = ap (λ stack. let r : Runner = record { stack = stack; doing = c.args.self.now.doing } in r) c.pass_page_line.ensures in
    c.call.ensures ∙ ap called same
