use Rattle.std.proofs.Common.{◌≡◌, ◌≢◌, ℕ, ◌+◌, ◌<◌, ◌≤◌, length, take, get_or, ap, ◌∙◌, refl, arith}
use Rattle.std.proofs.lemmas.List.{get_or-set_other, length-take-le}
use Rattle.page_core_base.specs.declared.cells.Cell.{Cell}
use Rattle.page_core_base.specs.declared.limits.TheConstants.{CELLS}
use Rattle.page_fill_cells.proofs.BlankRunLemmas.{cut-run}
use Rattle.page_fill_cells.proofs.row_cells.RowCells.push.Goals as goal
use Rattle.page_fill_cells.proofs.row_cells.RowCells.push.Goals.{then-stays, else-stays}

pub invariant_of-self : goal.invariant_of-self
invariant_of-self c =
    let row = c.self.inside in
    let held = c.self.invariant in
    let new = c.put-stays.new.self in
    let len = length-take-le row.len row.places (omega (arith, held.0, held.1)) in
    let free : length (take row.len row.places) < CELLS = rw (← c.self.view_is) at c.requires in
    let size : length new ≡ CELLS = c.put-stays.ensures.len ∙ held.0 in
    let fits : row.len + 1 ≤ CELLS = omega (arith, len, free) in
    elim c.if-stays.branch [
      | then-stays w ↦
          let after : (k : ℕ) (d : Cell) → row.len + 1 ≤ k → get_or new k d ≡ get_or row.places k d =
          λ k d from. let other : k ≢ row.len = omega (arith, from) in
          ap (λ l. get_or l k d) (c.put-stays.ensures.same w.if-stays.true) ∙ get_or-set_other row.places row.len k c.args.cell d other in
          rw w.self-inside-is (size, fits, rw (w.cut.ensures.start, w.cut.ensures.end, w.cut.ensures.font) (cut-run row.places new row.run.start row.run.end (row.len + 1) row.run.font held.2 after), refl)
      | else-stays w ↦ rw w.self-inside-is (size, fits, record { at = λ k h g. absurd (omega (arith, g)) }, refl)
    ]
