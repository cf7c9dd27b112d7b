use Rattle.std.proofs.Common.{sym}
use Rattle.page_fill_cells.proofs.BlankRunLemmas.{blanks-added}
use Rattle.page_fill_cells.proofs.row_cells.RowCells.add_part.Goals as goal

pub returns-then-is_long_run-clause-answer : goal.returns-then-is_long_run-clause-answer
returns-then-is_long_run-clause-answer c = sym (c.is_long_run.ensures.printable c.if-is_long_run.true)

pub returns-then-is_long_run-clause-cells : goal.returns-then-is_long_run-clause-cells
returns-then-is_long_run-clause-cells c =
    blanks-added c.args.self.now _ c.args.font c.args.bytes.now (c.is_long_run.ensures.blanks c.if-is_long_run.true) c.add_blanks.ensures
