use Rattle.std.proofs.Common.{◌≡◌, length, take, sym, ap, ◌∙◌, arith}
use Rattle.std.proofs.lemmas.List.{length-take-le}
use Rattle.page_core_base.specs.laws.Views.{AreAscii, is_printable_ascii}
use Rattle.page_core_base.specs.Rows.{is_blank_row, row_of}
use Rattle.page_fill_cells.proofs.PlaceLemmas.{all-held, front-row, printable-ascii, slices}
use Rattle.page_fill_cells.proofs.ascii_places.AsciiPlaces.give.Goals as goal

pub slice_bounds-give_ascii-end : goal.slice_bounds-give_ascii-end
slice_bounds-give_ascii-end g c =
    let p = c.self.inside in
    let all = all-held p.bytes.items p.fonts.items c.args.self.now c.self.invariant c.self.view_is in
    sym (length-take-le c.args.end c.deref.result.now (omega (arith, ap length c.deref.ensures.value, all, c.requires.within)))

pub slice_bounds-give_ascii-end-2 : goal.slice_bounds-give_ascii-end-2
slice_bounds-give_ascii-end-2 g c =
    let p = c.self.inside in
    let s = slices p.bytes.items c.deref.result.now p.fonts.items c.deref-2.result.now c.args.self.now c.self.invariant c.self.view_is c.deref.ensures.value c.deref-2.ensures.value in
    sym (length-take-le c.args.end c.deref-2.result.now (omega (arith, s.0, s.1, c.requires.within)))

pub give_ascii-requires : goal.give_ascii-requires
give_ascii-requires g c =
    let p = c.self.inside in
    let s = slices p.bytes.items c.deref.result.now p.fonts.items c.deref-2.result.now c.args.self.now c.self.invariant c.self.view_is c.deref.ensures.value c.deref-2.ensures.value in
    let row = front-row p.bytes.items c.deref.result.now p.fonts.items c.deref-2.result.now c.args.self.now c.args.end c.self.view_is c.deref.ensures.value c.deref-2.ensures.value in
    let b : length (take c.args.end c.deref.result.now) ≡ c.args.end = length-take-le c.args.end c.deref.result.now (omega (arith, s.0, c.requires.within)) in
    let f : length (take c.args.end c.deref-2.result.now) ≡ c.args.end = length-take-le c.args.end c.deref-2.result.now (omega (arith, s.0, s.1, c.requires.within)) in
    let are : AreAscii (take c.args.end c.deref.result.now) (take c.args.end c.deref-2.result.now) c.args.is_blank = record {
      sizes = f ∙ sym b;
      ascii = printable-ascii c.deref.result.now c.args.end (ap is_printable_ascii c.deref.ensures.value ∙ c.self.invariant.2);
      letters = λ blank. ap (λ l. is_blank_row (row_of 0 l)) row ∙ c.requires.blank blank;
    } in
    (are, omega (arith, b, s.0, ap length c.deref.ensures.value, c.self.invariant.0, c.requires.within, c.requires.room))

pub returns-clause-gives : goal.returns-clause-gives
returns-clause-gives g c = λ plan more said left.
    let p = c.self.inside in
    let row = front-row p.bytes.items c.deref.result.now p.fonts.items c.deref-2.result.now c.args.self.now c.args.end c.self.view_is c.deref.ensures.value c.deref-2.ensures.value in
    c.give_ascii.ensures.rows plan more said (rw (ap (row_of c.args.margin) (sym row)) at left)
