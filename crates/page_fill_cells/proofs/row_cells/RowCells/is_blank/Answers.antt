use Rattle.std.proofs.Common.{◌≤◌, length, take, sym, arith, ap, ◌∙◌}
use Rattle.std.proofs.lemmas.List.{length-take-le}
use Rattle.page_core_base.specs.Rows.{is_blank_row, row_of}
use Rattle.page_fill_cells.proofs.BlankRunLemmas.{blank-front, known-front}
use Rattle.page_fill_cells.proofs.row_cells.RowCells.is_blank.Goals as goal

pub returns-then-end-self : goal.returns-then-end-self
returns-then-end-self c =
    let row = c.self.inside in
    let held = c.self.invariant in
    let len = length-take-le row.len row.places (omega (arith, held.0, held.1)) in
    let front : c.args.end ≤ length (take row.len row.places) = rw (← c.self.view_is) at c.requires in
    sym (
    ap (λ cells. is_blank_row (row_of 0 (take c.args.end cells))) (sym c.self.view_is)
    ∙ known-front row.places row.blanks row.len c.args.end held.3 c.if-end-self.true (omega (arith, len, front))
    )

pub returns-then-end-self-2 : goal.returns-then-end-self-2
returns-then-end-self-2 c =
    let row = c.self.inside in
    let held = c.self.invariant in
    let room : row.len ≤ length row.places = omega (arith, held.0, held.1) in
    let len = length-take-le row.len row.places room in
    let front : c.args.end ≤ length (take row.len row.places) = rw (← c.self.view_is) at c.requires in
    sym (
    ap (λ cells. is_blank_row (row_of 0 (take c.args.end cells))) (sym c.self.view_is)
    ∙ blank-front row.places row.run.start row.run.end row.len c.args.end row.run.font held.2 c.if-self-eq0.true c.if-end-self-2.true (omega (arith, len, front)) room
    )
