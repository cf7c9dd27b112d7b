use Rattle.std.proofs.Common.{◌≡◌}
use Rattle.page_roff_values.specs.Values.{lines_in}
use Rattle.page_roff_stack.specs.machine.Stacks.{only_line}
use Rattle.page_roff_stack.proofs.InputStackLemmas.{whole_line}
use Rattle.page_roff_stack.proofs.input_frames.line_len.Goals as goal

pub returns-in-Page-clause-first : goal.returns-in-Page-clause-first
returns-in-Page-clause-first c =
    let only : lines_in c.args.lines.now ≡ only_line c.args.lines.now = rw c.in-Page.is at c.requires in
    (whole_line c.args.lines.now c.saturating_sub.result only c.saturating_sub.ensures).0

pub returns-in-Page-clause-rest : goal.returns-in-Page-clause-rest
returns-in-Page-clause-rest c =
    let only : lines_in c.args.lines.now ≡ only_line c.args.lines.now = rw c.in-Page.is at c.requires in
    (whole_line c.args.lines.now c.saturating_sub.result only c.saturating_sub.ensures).1
