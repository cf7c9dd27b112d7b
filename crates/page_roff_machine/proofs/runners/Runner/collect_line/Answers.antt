use Rattle.std.proofs.Common.{ap, sym, ◌∙◌}
use Rattle.page_roff_blocks.specs.Forest.{Levels}
use Rattle.page_roff_machine.proofs.ActLemmas.{collects_here, collects_nothing}
use Rattle.page_roff_machine.proofs.runners.Runner.collect_line.Goals as goal

pub returns-then-not-in_loop : goal.returns-then-not-in_loop
returns-then-not-in_loop g c =
    let levels = c.levels-levels.ensures.value in
    let in_loop = c.in_loop.ensures ∙ ap (λ (l : Levels). l.in_loop) levels in
    collects_nothing g.O.NoteOut.left c.args.self.now c.args.out.now (sym in_loop ∙ c.if-not-in_loop.true)

pub returns : goal.returns
returns g c =
    let levels = c.levels-levels.ensures.value in
    let in_loop = c.in_loop.ensures ∙ ap (λ (l : Levels). l.in_loop) levels in
    let open_blocks = c.skipped-open_blocks.ensures ∙ ap (λ (l : Levels). l.skipped) levels in
    collects_here g.O.NoteOut.left c.args.self.now c.collect.new.self c.args.out.now c.collect.new.out c.in-Line.line.now c.skipped-open_blocks.result
    (sym in_loop ∙ c.if-not-in_loop.false) open_blocks c.in-Line.ensures.value c.collect.ensures
