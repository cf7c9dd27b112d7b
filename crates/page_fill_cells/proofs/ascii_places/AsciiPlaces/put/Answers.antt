use Rattle.std.proofs.Common.{[], ◌∷◌, refl, sym, ◌∙◌, arith}
use Rattle.page_fill_cells.specs.Cells.{cell_of}
use Rattle.page_fill_cells.proofs.PlaceLemmas.{ArePut, back, are-put, set-put, slices}
use Rattle.page_fill_cells.proofs.ascii_places.AsciiPlaces.put.Goals as goal

pub put_byte-requires : goal.put_byte-requires
put_byte-requires c =
    let p = c.self.inside in
    let s = slices p.bytes.items c.deref_mut.result.now p.fonts.items c.deref_mut-2.result.now c.args.self.now c.self.invariant c.self.view_is c.deref_mut.ensures.value c.deref_mut-2.ensures.value in
    (omega (arith, s.0, c.requires.0), s.1)

after : (c : goal.After-self-2-1) → ArePut (back c.put_byte.new.bytes c.self.inside.bytes.items c.self.inside.bytes.len) (back c.put_byte.new.fonts c.self.inside.fonts.items c.self.inside.fonts.len) c.args.self.now c.args.place
    (c.args.byte ∷ []) (c.args.font ∷ [])
after c =
    let p = c.self.inside in
    let s = slices p.bytes.items c.deref_mut.result.now p.fonts.items c.deref_mut-2.result.now c.args.self.now c.self.invariant c.self.view_is c.deref_mut.ensures.value c.deref_mut-2.ensures.value in
    are-put p.bytes.items c.deref_mut.result.now c.put_byte.new.bytes p.fonts.items c.deref_mut-2.result.now c.put_byte.new.fonts c.args.self.now c.args.place p.bytes.len p.fonts.len
    (c.args.byte ∷ []) (c.args.font ∷ []) c.self.invariant c.self.view_is c.deref_mut.ensures.value c.deref_mut.ensures.len (c.put_byte.ensures.bytes ∙ set-put c.deref_mut.result.now c.args.place c.args.byte (omega (arith, s.0, c.requires.0))) c.deref_mut-2.ensures.value c.deref_mut-2.ensures.len (c.put_byte.ensures.fonts ∙ set-put c.deref_mut-2.result.now c.args.place c.args.font (omega (arith, s.0, s.1, c.requires.0)))
    (rw c.requires.1 refl) (refl) (omega (arith, c.requires.0))

pub invariant_of-self : goal.invariant_of-self
invariant_of-self c = (after c).held

pub returns : goal.returns
returns c = record { value = (after c).value ∙ sym (set-put c.args.self.now c.args.place (cell_of c.args.font c.args.byte) c.requires.0); len = (after c).len }
