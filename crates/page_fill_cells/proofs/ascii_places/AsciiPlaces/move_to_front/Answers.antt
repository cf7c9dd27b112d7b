use Rattle.std.proofs.Common.{◌≡◌, ◌-◌, length, take, drop, sym, ap, ◌∙◌, arith}
use Rattle.page_core_base.specs.laws.Views.{cells_in, is_printable_ascii}
use Rattle.page_fill_cells.specs.machine.BlankRuns.{put_at}
use Rattle.page_fill_cells.proofs.PlaceLemmas.{ArePut, back, all-held, are-put, in-part, moved-passes, part-length, slices}
use Rattle.page_fill_cells.proofs.ascii_places.AsciiPlaces.move_to_front.Goals as goal

pub move_to_front-requires : goal.move_to_front-requires
move_to_front-requires c =
    let p = c.self.inside in
    let all = all-held p.bytes.items p.fonts.items c.args.self.now c.self.invariant c.self.view_is in
    (c.requires.0, omega (arith, ap length c.deref_mut.ensures.value, all, c.requires.1))

pub move_to_front-requires-2 : goal.move_to_front-requires-2
move_to_front-requires-2 c =
    let p = c.self.inside in
    let s = slices p.bytes.items c.deref_mut.result.now p.fonts.items c.deref_mut-2.result.now c.args.self.now c.self.invariant c.self.view_is c.deref_mut.ensures.value c.deref_mut-2.ensures.value in
    (c.requires.0, omega (arith, s.0, s.1, c.requires.1))

after : (c : goal.After-self-2-1) → ArePut (back c.move_to_front.new.places c.self.inside.bytes.items c.self.inside.bytes.len) (back c.move_to_front-2.new.places c.self.inside.fonts.items c.self.inside.fonts.len) c.args.self.now 0
    (take (c.args.end - c.args.start) (drop c.args.start c.deref_mut.result.now)) (take (c.args.end - c.args.start) (drop c.args.start c.deref_mut-2.result.now))
after c =
    let p = c.self.inside in
    let s = slices p.bytes.items c.deref_mut.result.now p.fonts.items c.deref_mut-2.result.now c.args.self.now c.self.invariant c.self.view_is c.deref_mut.ensures.value c.deref_mut-2.ensures.value in
    let n = c.args.end - c.args.start in
    let b : length (take n (drop c.args.start c.deref_mut.result.now)) ≡ n = part-length c.deref_mut.result.now c.args.start c.args.end (c.requires.0, omega (arith, s.0, c.requires.1)) in
    let f : length (take n (drop c.args.start c.deref_mut-2.result.now)) ≡ n = part-length c.deref_mut-2.result.now c.args.start c.args.end (c.requires.0, omega (arith, s.0, s.1, c.requires.1)) in
    are-put p.bytes.items c.deref_mut.result.now c.move_to_front.new.places p.fonts.items c.deref_mut-2.result.now c.move_to_front-2.new.places c.args.self.now 0 p.bytes.len p.fonts.len
    (take (c.args.end - c.args.start) (drop c.args.start c.deref_mut.result.now)) (take (c.args.end - c.args.start) (drop c.args.start c.deref_mut-2.result.now)) c.self.invariant c.self.view_is c.deref_mut.ensures.value c.deref_mut.ensures.len c.move_to_front.ensures c.deref_mut-2.ensures.value c.deref_mut-2.ensures.len c.move_to_front-2.ensures
    (moved-passes c.deref_mut.result.now c.args.start (c.args.end - c.args.start) (ap is_printable_ascii c.deref_mut.ensures.value ∙ c.self.invariant.2)) (f ∙ sym b) (omega (arith, b, s.0, c.requires))

pub invariant_of-self : goal.invariant_of-self
invariant_of-self c = (after c).held

pub returns-clause-value : goal.returns-clause-value
returns-clause-value c =
    let p = c.self.inside in
    let s = slices p.bytes.items c.deref_mut.result.now p.fonts.items c.deref_mut-2.result.now c.args.self.now c.self.invariant c.self.view_is c.deref_mut.ensures.value c.deref_mut-2.ensures.value in
    let n = c.args.end - c.args.start in
    (after c).value ∙ ap (put_at c.args.self.now 0)
    (in-part c.deref_mut.result.now c.deref_mut-2.result.now c.args.start n s.1
    ∙ (ap (λ l. take n (drop c.args.start (cells_in l c.deref_mut-2.result.now))) c.deref_mut.ensures.value
    ∙ (ap (λ l. take n (drop c.args.start (cells_in p.bytes.items l))) c.deref_mut-2.ensures.value ∙ ap (λ l. take n (drop c.args.start l)) c.self.view_is)))

pub returns-clause-len : goal.returns-clause-len
returns-clause-len c = (after c).len
