use Rattle.std.proofs.Common.{ℕ, replicate, refl, sym, ap, ◌∙◌, arith}
use Rattle.std.proofs.lemmas.List.{length-replicate}
use Rattle.page_core_base.specs.laws.Views.{is_printable}
use Rattle.page_fill_cells.specs.machine.BlankRuns.{put_at}
use Rattle.page_fill_cells.proofs.PlaceLemmas.{ArePut, back, are-put, in-blanks, same-passes, slices}
use Rattle.page_fill_cells.proofs.ascii_places.AsciiPlaces.put_blanks.Goals as goal

pub put_blanks-requires : goal.put_blanks-requires
put_blanks-requires c =
    let p = c.self.inside in
    let s = slices p.bytes.items c.deref_mut.result.now p.fonts.items c.deref_mut-2.result.now c.args.self.now c.self.invariant c.self.view_is c.deref_mut.ensures.value c.deref_mut-2.ensures.value in
    (omega (arith, s.0, c.requires), s.1)

after : (c : goal.After-self-2-1) → ArePut (back c.put_blanks.new.bytes c.self.inside.bytes.items c.self.inside.bytes.len) (back c.put_blanks.new.fonts c.self.inside.fonts.items c.self.inside.fonts.len) c.args.self.now c.args.start
    (replicate {A = ℕ} c.args.count 32) (replicate c.args.count c.args.font)
after c =
    let p = c.self.inside in
    are-put p.bytes.items c.deref_mut.result.now c.put_blanks.new.bytes p.fonts.items c.deref_mut-2.result.now c.put_blanks.new.fonts c.args.self.now c.args.start p.bytes.len p.fonts.len
    (replicate {A = ℕ} c.args.count 32) (replicate c.args.count c.args.font) c.self.invariant c.self.view_is c.deref_mut.ensures.value c.deref_mut.ensures.len c.put_blanks.ensures.bytes c.deref_mut-2.ensures.value c.deref_mut-2.ensures.len c.put_blanks.ensures.fonts
    (same-passes is_printable c.args.count 32 refl) (length-replicate c.args.count c.args.font ∙ sym (length-replicate {A = ℕ} c.args.count 32)) (omega (arith, length-replicate {A = ℕ} c.args.count 32, c.requires))

pub invariant_of-self : goal.invariant_of-self
invariant_of-self c = (after c).held

pub returns : goal.returns
returns c = record { value = (after c).value ∙ ap (put_at c.args.self.now c.args.start) (in-blanks c.args.count c.args.font); len = (after c).len }
