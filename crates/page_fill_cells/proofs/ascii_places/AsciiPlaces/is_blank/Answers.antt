use Rattle.std.proofs.Common.{length, take, sym, ap, ◌∙◌, arith}
use Rattle.std.proofs.lemmas.List.{length-take-le}
use Rattle.std.specs.List.{list_all}
use Rattle.page_core_base.specs.Rows.{is_blank_row, row_of}
use Rattle.page_fill_cells.specs.machine.BlankRuns.{is_blank_byte}
use Rattle.page_fill_cells.proofs.PlaceLemmas.{all-held, front-blank}
use Rattle.page_fill_cells.proofs.ascii_places.AsciiPlaces.is_blank.Goals as goal

pub slice_bounds-is_blank_text-end : goal.slice_bounds-is_blank_text-end
slice_bounds-is_blank_text-end c =
    let p = c.self.inside in
    let all = all-held p.bytes.items p.fonts.items c.args.self.now c.self.invariant c.self.view_is in
    sym (length-take-le c.args.end c.deref.result.now (omega (arith, ap length c.deref.ensures.value, all, c.requires)))

pub returns : goal.returns
returns c =
    let p = c.self.inside in
    let held = c.self.invariant in
    let all = all-held p.bytes.items p.fonts.items c.args.self.now c.self.invariant c.self.view_is in
    c.is_blank_text.ensures
    ∙ (ap (λ l. list_all is_blank_byte (take c.args.end l)) c.deref.ensures.value
    ∙ (sym (front-blank p.bytes.items p.fonts.items c.args.end (held.1 ∙ sym held.0) (omega (arith, all, c.requires))) ∙ ap (λ l. is_blank_row (row_of 0 (take c.args.end l))) c.self.view_is))
