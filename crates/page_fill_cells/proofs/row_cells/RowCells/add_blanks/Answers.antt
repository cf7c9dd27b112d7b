use Rattle.std.proofs.Common.{◌≡◌, ◌+◌, ◌≤◌, ◌++◌, length, take, replicate, true, sym, ap, refl, ◌∙◌, arith}
use Rattle.std.proofs.lemmas.List.{length-replicate, length-take-le}
use Rattle.page_core_base.specs.declared.limits.TheConstants.{CELLS}
use Rattle.page_fill_cells.specs.Cells.{cell_of}
use Rattle.page_fill_cells.specs.machine.BlankRuns.{put_at}
use Rattle.page_fill_cells.proofs.PlaceLemmas.{put-before, put-front, put-length}
use Rattle.page_fill_cells.proofs.BlankRunLemmas.{grown-front, put-run, run-cells}
use Rattle.page_core_base.specs.Rows.{is_blank_row, row_of}
use Rattle.page_fill_cells.proofs.row_cells.RowCells.add_blanks.Goals as goal
use Rattle.page_fill_cells.proofs.row_cells.RowCells.add_blanks.Goals.{then-start-self, else-start-self}

pub returns-then-has : goal.returns-then-has
returns-then-has c =
    let row = c.self.inside in
    let held = c.self.invariant in
    let known = c.has.ensures c.if-has.true in
    let count = c.args.count in
    let len = length-take-le row.len row.places (omega (arith, held.0, held.1)) in
    let free : length (take row.len row.places) + count ≤ CELLS = rw (← c.self.view_is) at c.requires in
    rw (← c.self.view_is) (
    run-cells row.places row.run.start row.run.end row.len count row.run.font held.2 known.0 known.1 (omega (arith, held.0, len, free))
    ∙ ap (λ font. take row.len row.places ++ replicate count (cell_of font 32)) known.2
    )

pub invariant_of-self-2 : goal.invariant_of-self-2
invariant_of-self-2 c =
    let row = c.self.inside in
    let held = c.self.invariant in
    let count = c.args.count in
    let old = row.places in
    let blanks = replicate count (cell_of c.args.font 32) in
    let n : length blanks ≡ count = length-replicate count (cell_of c.args.font 32) in
    let within : row.len ≤ length old = omega (arith, held.0, held.1) in
    let len = length-take-le row.len old within in
    let free : length (take row.len old) + count ≤ CELLS = rw (← c.self.view_is) at c.requires in
    let fits : row.len + length blanks ≤ length old = omega (arith, n, len, free, held.0) in
    let put : c.put_blanks.new.self ≡ put_at old row.len blanks = c.put_blanks.ensures in
    let filled : take (row.len + count) c.put_blanks.new.self ≡ take row.len old ++ blanks =
    ap (take (row.len + count)) put ∙ (ap (λ k. take (row.len + k) (put_at old row.len blanks)) (sym n) ∙ put-front old blanks row.len within) in
    let before : take row.len c.put_blanks.new.self ≡ take row.len old = ap (take row.len) put ∙ put-before old blanks row.len row.len (omega arith) within in
    let run = put-run old c.put_blanks.new.self row.len count c.args.font filled within in
    let front : is_blank_row (row_of 0 (take c.if-start-self.self c.put_blanks.new.self)) ≡ true = elim c.if-start-self.branch [
      | then-start-self w ↦ rw w.self-is (grown-front old c.put_blanks.new.self row.len count row.blanks c.args.font held.3 w.if-start-self.true filled)
      | else-start-self w ↦ rw w.self-is refl
    ] in (
      ap length put ∙ (put-length old blanks row.len fits ∙ held.0),
      omega (arith, len, free),
      c.with-self-inside.ensures old c.put_blanks.new.self held.2 before run,
      front,
    )
