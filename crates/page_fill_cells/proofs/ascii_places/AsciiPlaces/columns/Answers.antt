use Rattle.std.proofs.Common.{take, sym, ap, ◌∙◌, arith}
use Rattle.page_fill_cells.specs.Cells.{columns}
use Rattle.page_fill_cells.proofs.PlaceLemmas.{all-held, front-columns}
use Rattle.page_fill_cells.proofs.ascii_places.AsciiPlaces.columns.Goals as goal

pub overflow_cast-result : goal.overflow_cast-result
overflow_cast-result c =
    let p = c.self.inside in
    let all = all-held p.bytes.items p.fonts.items c.args.self.now c.self.invariant c.self.view_is in
    omega (arith, all, c.self.invariant.0, c.requires)

pub returns-clause-value : goal.returns-clause-value
returns-clause-value c =
    let p = c.self.inside in
    let held = c.self.invariant in
    let all = all-held p.bytes.items p.fonts.items c.args.self.now c.self.invariant c.self.view_is in
    sym (ap (λ l. columns (take c.args.end l)) (sym c.self.view_is) ∙ front-columns p.bytes.items p.fonts.items c.args.end (held.1 ∙ sym held.0) (omega (arith, all, c.requires)) held.2)
