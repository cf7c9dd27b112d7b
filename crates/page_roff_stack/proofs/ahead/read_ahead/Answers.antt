use Rattle.page_roff_blocks.specs.machine.Steps.{parts_at}
use Rattle.page_roff_stack.proofs.InputFrameLemmas.{reads_first, reads_rest}
use Rattle.page_roff_stack.proofs.ahead.read_ahead.Goals as goal

pub returns-clause-value : goal.returns-clause-value
returns-clause-value c =
    let line = c.args.line.now in
    reads_first (parts_at line c.args.place) c.next_line_part-part.result (parts_at line c.next_line_part-part.new.self) c.next_line_part-part.ensures.next

pub returns-clause-after : goal.returns-clause-after
returns-clause-after c =
    let line = c.args.line.now in
    record {
      next = reads_rest (parts_at line c.args.place) c.next_line_part-part.result (parts_at line c.next_line_part-part.new.self) c.next_line_part-part.ensures.next;
      within = c.next_line_part-part.ensures.within;
    }
