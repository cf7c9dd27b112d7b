use Rattle.std.proofs.Common.{ap, ◌∙◌}
use Rattle.page_roff_stack.specs.machine.Stacks.{Stack, next_of, is_line}
use Rattle.page_roff_machine.specs.machine.Moving.{line_in}
use Rattle.page_roff_machine.proofs.ActLemmas.{room, is_the_line, line_there, begins}
use Rattle.page_roff_machine.proofs.runners.Runner.begin_line.Goals as goal

pub begin_line-requires : goal.begin_line-requires
begin_line-requires g c =
    let next = next_of c.args.self.now.stack in
    rw c.is_page-is_page.ensures
    (room c.args.self.now c.requires.sound (line_there c.args.self.now.stack (line_in next) (is_the_line next c.requires.line)))

pub go-requires : goal.go-requires
go-requires g c = ap (λ (s : Stack). is_line (next_of s)) c.collect_line.ensures.stack ∙ c.requires.line

pub returns : goal.returns
returns g c =
    begins g.O.NoteOut.left c.args.self.now c.collect_line.new.self c.begin_line.new.self c.args.out.now c.begin_line.new.out c.collect_line.new.out c.is_page-is_page.result c.go.new.self
    c.requires.line c.is_page-is_page.ensures c.requires.sound.setting c.begin_line.ensures c.collect_line.ensures c.go.ensures
