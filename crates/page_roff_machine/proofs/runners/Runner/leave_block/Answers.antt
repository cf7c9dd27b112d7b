use Rattle.std.proofs.Common.{ap, sym, ◌∙◌}
use Rattle.page_roff_blocks.specs.Forest.{Levels}
use Rattle.page_roff_blocks.specs.laws.Views.{what_ends}
use Rattle.page_roff_machine.proofs.GoLemmas.{leaves_block, leaves_none, leaves_setting, leaves_loop}
use Rattle.page_roff_machine.proofs.runners.Runner.leave_block.Goals as goal

pub returns-in-Block : goal.returns-in-Block
returns-in-Block g c =
    let ended = c.ended-ended.ensures ∙ ap (λ (l : Levels). what_ends l) c.levels.ensures.value in
    leaves_block g.O.NoteOut.left c.args.self.now (record { stack = c.go.new.self; doing = c.args.self.now.doing }) c.args.out.now
    (sym c.in-Block.is ∙ ended) (ap (λ stack. record { stack = stack; doing = c.args.self.now.doing }) c.go.ensures) c.requires

pub returns-in-Loop : goal.returns-in-Loop
returns-in-Loop g c =
    let ended = c.ended-ended.ensures ∙ ap (λ (l : Levels). what_ends l) c.levels.ensures.value in
    leaves_loop g.O.NoteOut.left c.args.self.now (record { stack = c.go.new.self; doing = c.args.self.now.doing }) c.close_loop.new.self c.args.out.now c.close_loop.new.out
    (sym c.in-Loop.is ∙ ended) (ap (λ stack. record { stack = stack; doing = c.args.self.now.doing }) c.go.ensures) c.close_loop.ensures

pub returns-in-Nothing : goal.returns-in-Nothing
returns-in-Nothing g c =
    let ended = c.ended-ended.ensures ∙ ap (λ (l : Levels). what_ends l) c.levels.ensures.value in
    rw c.go.ensures
    (leaves_none g.O.NoteOut.left c.args.self.now c.report_unopened.new.self c.args.out.now c.report_unopened.new.out c.is_page-is_page.result
    (sym c.in-Nothing.is ∙ ended) c.is_page-is_page.ensures c.report_unopened.ensures c.requires)

pub close_loop-requires : goal.close_loop-requires
close_loop-requires g c = leaves_setting g.O.NoteOut.left c.args.self.now c.go.new.self c.go.ensures c.requires
