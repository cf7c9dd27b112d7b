use Rattle.std.proofs.Common.{◌≡◌, length, take, sym, ap, ◌∙◌, arith}
use Rattle.std.proofs.lemmas.List.{length-take-le}
use Rattle.page_core_base.specs.laws.Views.{cells_in}
use Rattle.page_fill_cells.proofs.PlaceLemmas.{all-held, front-row, put-first, slices}
use Rattle.page_fill_cells.proofs.ascii_places.AsciiPlaces.copy_cells.Goals as goal

pub slice_bounds-put_cells_in-end : goal.slice_bounds-put_cells_in-end
slice_bounds-put_cells_in-end c =
    let p = c.self.inside in
    let all = all-held p.bytes.items p.fonts.items c.args.self.now c.self.invariant c.self.view_is in
    sym (length-take-le c.args.end c.deref.result.now (omega (arith, ap length c.deref.ensures.value, all, c.requires.0)))

pub slice_bounds-put_cells_in-end-2 : goal.slice_bounds-put_cells_in-end-2
slice_bounds-put_cells_in-end-2 c =
    let p = c.self.inside in
    let s = slices p.bytes.items c.deref.result.now p.fonts.items c.deref-2.result.now c.args.self.now c.self.invariant c.self.view_is c.deref.ensures.value c.deref-2.ensures.value in
    sym (length-take-le c.args.end c.deref-2.result.now (omega (arith, s.0, s.1, c.requires.0)))

pub returns : goal.returns
returns c =
    let p = c.self.inside in
    let row = front-row p.bytes.items c.deref.result.now p.fonts.items c.deref-2.result.now c.args.self.now c.args.end c.self.view_is c.deref.ensures.value c.deref-2.ensures.value in
    let count : length (take c.args.end c.args.self.now) ≡ c.args.end = length-take-le c.args.end c.args.self.now c.requires.0 in
    ap (take c.args.end) c.put_cells_in.ensures
    ∙ (put-first c.args.places.now (cells_in (take c.args.end c.deref.result.now) (take c.args.end c.deref-2.result.now)) c.args.end (ap length row ∙ count) ∙ row)
