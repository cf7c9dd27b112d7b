use Rattle.std.proofs.Common.{sym, ◌∙◌}
use Rattle.page_roff_stack.proofs.InputStackLemmas.{rest_before, rest_none}
use Rattle.page_roff_stack.proofs.input_frames.pass_line.Goals as goal
use Rattle.page_roff_stack.proofs.input_frames.pass_line.Goals.{then-line-lines, else-line-lines}

pub returns-clause-rest : goal.returns-clause-rest
returns-clause-rest c =
    let lines = c.args.lines.now in
    let text = c.args.text.now in
    let rest = rw c.of.ensures at c.line_len.ensures.rest in
    elim c.if-line-lines.branch [
      | then-line-lines w ↦ rw w.lines-is (sym (rest_before lines.start lines.end c.line_len.result text w.if-line-lines.true) ∙ rest)
      | else-line-lines w ↦ rw w.lines-is (sym (rest_none lines.start lines.end c.line_len.result text w.if-line-lines.false) ∙ rest)
    ]

pub line_len-requires : goal.line_len-requires
line_len-requires c = rw c.of.ensures c.requires.lines
