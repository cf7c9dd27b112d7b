use Rattle.std.proofs.Common.{◌≡◌, ℕ, get_or, ◌+◌, ◌≤◌, length, take, sym, ap, refl, ◌∙◌, arith}
use Rattle.std.proofs.lemmas.List.{length-take-le}
use Rattle.page_core_base.specs.declared.cells.Cell.{Cell}
use Rattle.page_core_base.specs.declared.limits.TheConstants.{CELLS}
use Rattle.page_core_base.specs.laws.Views.{cells_in}
use Rattle.page_fill_cells.specs.machine.BlankRuns.{put_at}
use Rattle.page_fill_cells.proofs.PlaceLemmas.{in-length, put-after, put-front, put-length}
use Rattle.page_fill_cells.proofs.BlankRunLemmas.{cut-run}
use Rattle.page_fill_cells.proofs.row_cells.RowCells.add_letters.Goals as goal

pub invariant_of-self : goal.invariant_of-self
invariant_of-self c =
    let row = c.self.inside in
    let held = c.self.invariant in
    let old = row.places in
    let cells = cells_in c.args.bytes.now c.args.fonts.now in
    let n : length cells ≡ length c.args.bytes.now = in-length c.args.bytes.now c.args.fonts.now c.requires.fonts in
    let within : row.len ≤ length old = omega (arith, held.0, held.1) in
    let len = length-take-le row.len old within in
    let free : length (take row.len old) + length c.args.bytes.now ≤ CELLS = rw (← c.self.view_is) at c.requires.room in
    let put : c.put_letters.new.self ≡ put_at old row.len cells = c.put_letters.ensures in
    let after : (k : ℕ) (d : Cell) → row.len + length c.args.bytes.now ≤ k → get_or c.put_letters.new.self k d ≡ get_or old k d =
    λ k d from. ap (λ l. get_or l k d) put ∙ put-after old cells row.len k d within (omega (arith, n, from)) in (
      ap length put ∙ (put-length old cells row.len (omega (arith, n, len, free, held.0)) ∙ held.0),
      omega (arith, len, free),
      rw (c.cut.ensures.start, c.cut.ensures.end, c.cut.ensures.font)
          (cut-run old c.put_letters.new.self row.run.start row.run.end (row.len + length c.args.bytes.now) row.run.font held.2 after),
      refl,
    )

pub returns : goal.returns
returns c =
    let row = c.self.inside in
    let held = c.self.invariant in
    let old = row.places in
    let cells = cells_in c.args.bytes.now c.args.fonts.now in
    let n : length cells ≡ length c.args.bytes.now = in-length c.args.bytes.now c.args.fonts.now c.requires.fonts in
    let within : row.len ≤ length old = omega (arith, held.0, held.1) in
    let put : c.put_letters.new.self ≡ put_at old row.len cells = c.put_letters.ensures in
    rw (← c.self.view_is) (ap (take (row.len + length c.args.bytes.now)) put ∙ (ap (λ k. take (row.len + k) (put_at old row.len cells)) (sym n) ∙ put-front old cells row.len within))
