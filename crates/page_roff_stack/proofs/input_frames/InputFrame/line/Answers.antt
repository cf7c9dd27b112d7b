use Rattle.std.proofs.Common.{◌≡◌, ◌==◌, true, false, length, ap, sym, ◌∙◌}
use Rattle.page_roff_values.specs.Values.{lines_in}
use Rattle.page_roff_stack.specs.machine.Stacks.{AreShort}
use Rattle.page_roff_stack.proofs.InputStackLemmas.{no_lines, some_line}
use Rattle.page_roff_stack.proofs.InputFrameLemmas.{next_line_is}
use Rattle.page_roff_stack.proofs.input_frames.InputFrame.line.Goals as goal

pub returns-then-is_empty : goal.returns-then-is_empty
returns-then-is_empty c =
    let lines = c.of-lines.result.now in
    let empty : (length lines == 0) ≡ true = cc in
    sym (ap lines_in c.of-lines.ensures) ∙ no_lines lines empty

pub returns : goal.returns
returns c =
    let lines = c.of-lines.result.now in
    let same = ap lines_in c.of-lines.ensures in
    let some : (length lines == 0) ≡ false = cc in
    let short : AreShort (lines_in lines) = rw same c.requires.bounds.short in
    rw (← same) (next_line_is (lines_in lines) _ c.line_len.ensures.first short (some_line lines some))

pub line_len-requires : goal.line_len-requires
line_len-requires c = rw c.of-lines.ensures c.requires.only
