use Rattle.std.proofs.Common.{length, replicate, ap, ◌∙◌, arith}
use Rattle.std.proofs.lemmas.List.{length-replicate}
use Rattle.page_fill_cells.specs.machine.BlankRuns.{put_at}
use Rattle.page_fill_cells.proofs.PlaceLemmas.{ArePut, back, are-put, in-font, slices}
use Rattle.page_fill_cells.proofs.ascii_places.AsciiPlaces.put_text.Goals as goal

pub put_text-requires : goal.put_text-requires
put_text-requires c =
    let p = c.self.inside in
    let s = slices p.bytes.items c.deref_mut.result.now p.fonts.items c.deref_mut-2.result.now c.args.self.now c.self.invariant c.self.view_is c.deref_mut.ensures.value c.deref_mut-2.ensures.value in
    (omega (arith, s.0, c.requires.room), s.1)

after : (c : goal.After-self-2-1) → ArePut (back c.put_text.new.bytes c.self.inside.bytes.items c.self.inside.bytes.len) (back c.put_text.new.fonts c.self.inside.fonts.items c.self.inside.fonts.len) c.args.self.now c.args.start
    c.args.text.now (replicate (length c.args.text.now) c.args.font)
after c =
    let p = c.self.inside in
    are-put p.bytes.items c.deref_mut.result.now c.put_text.new.bytes p.fonts.items c.deref_mut-2.result.now c.put_text.new.fonts c.args.self.now c.args.start p.bytes.len p.fonts.len
    (c.args.text.now) (replicate (length c.args.text.now) c.args.font) c.self.invariant c.self.view_is c.deref_mut.ensures.value c.deref_mut.ensures.len c.put_text.ensures.bytes c.deref_mut-2.ensures.value c.deref_mut-2.ensures.len c.put_text.ensures.fonts
    (c.requires.plain) (length-replicate (length c.args.text.now) c.args.font) (c.requires.room)

pub invariant_of-self : goal.invariant_of-self
invariant_of-self c = (after c).held

pub returns : goal.returns
returns c = record { value = (after c).value ∙ ap (put_at c.args.self.now c.args.start) (in-font c.args.text.now c.args.font); len = (after c).len }
