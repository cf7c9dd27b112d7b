use Rattle.std.proofs.Common.{arith}
use Rattle.page_fill_cells.proofs.PlaceLemmas.{ArePut, back, are-put, slices}
use Rattle.page_fill_cells.proofs.ascii_places.AsciiPlaces.put_letters.Goals as goal

pub put_letters-requires-clause-within : goal.put_letters-requires-clause-within
put_letters-requires-clause-within c =
    let p = c.self.inside in
    let s = slices p.bytes.items c.deref_mut.result.now p.fonts.items c.deref_mut-2.result.now c.args.self.now c.self.invariant c.self.view_is c.deref_mut.ensures.value c.deref_mut-2.ensures.value in
    (omega (arith, s.0, c.requires.room), s.1)

after : (c : goal.After-self-2-1) → ArePut (back c.put_letters.new.bytes c.self.inside.bytes.items c.self.inside.bytes.len) (back c.put_letters.new.fonts c.self.inside.fonts.items c.self.inside.fonts.len) c.args.self.now c.args.start
    c.args.letters.now c.args.fonts.now
after c =
    let p = c.self.inside in
    are-put p.bytes.items c.deref_mut.result.now c.put_letters.new.bytes p.fonts.items c.deref_mut-2.result.now c.put_letters.new.fonts c.args.self.now c.args.start p.bytes.len p.fonts.len
    (c.args.letters.now) (c.args.fonts.now) c.self.invariant c.self.view_is c.deref_mut.ensures.value c.deref_mut.ensures.len c.put_letters.ensures.bytes c.deref_mut-2.ensures.value c.deref_mut-2.ensures.len c.put_letters.ensures.fonts
    (c.requires.plain) (c.requires.fonts) (c.requires.room)

pub invariant_of-self : goal.invariant_of-self
invariant_of-self c = (after c).held

pub returns : goal.returns
returns c = record { value = (after c).value; len = (after c).len }
