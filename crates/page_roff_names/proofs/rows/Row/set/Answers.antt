use Rattle.std.proofs.Common.{ℕ, List, ◌∙◌, ap, arith, refl, set}
use Rattle.std.proofs.lemmas.List.Edits.{length-insert, length-remove}
use Rattle.std.specs.List.{insert, remove}
use Rattle.page_roff_names.specs.Names.{size, Definition, definition}
use Rattle.page_roff_names.proofs.Laid.{Lies, lies, closed, count, appended, replaced, reads, size-insert, size-remove}
use Rattle.page_roff_names.proofs.rows.Row.set.Goals as goal

after : (c : goal.After-self-2-1) → Lies (set c.make_room.new.spans.items c.args.i c.put_entry.result) c.put_entry.new.text.items (insert (remove c.args.self.now c.args.i) c.args.i (c.args.name.now, definition c.args.meaning c.args.value.now))
after c =
    replaced c.args.i c.put_entry.result (appended _ (lies c.make_room.ensures.within (c.make_room.ensures.same ∙ c.self.view_is)) c.put_entry.ensures.items)
    c.requires.place c.put_entry.ensures.is.1 c.put_entry.ensures.is.0 refl

pub overflow_sub-self : goal.overflow_sub-self
overflow_sub-self c =
    let r = reads c.args.i c.index-old.result.now (lies c.make_room.ensures.within (c.make_room.ensures.same ∙ c.self.view_is)) c.requires.place c.index-old.ensures in
    let n = c.self.invariant.bytes ∙ ap size c.self.view_is in
    let z = size-remove c.args.self.now c.args.i c.requires.place in
    omega (arith, r.name, r.value, n, z)

pub invariant_of-self : goal.invariant_of-self
invariant_of-self c =
    let r = reads c.args.i c.index-old.result.now (lies c.make_room.ensures.within (c.make_room.ensures.same ∙ c.self.view_is)) c.requires.place c.index-old.ensures in
    let n = c.self.invariant.bytes ∙ ap size c.self.view_is in
    let z = size-remove c.args.self.now c.args.i c.requires.place in
    let e : List ℕ × Definition = (c.args.name.now, definition c.args.meaning c.args.value.now) in
    let s = size-insert (remove c.args.self.now c.args.i) c.args.i e in
    let k = length-remove c.args.self.now c.args.i c.requires.place in
    let l = length-insert (remove c.args.self.now c.args.i) c.args.i e (omega (arith, k, c.requires.place)) in
    closed (after c)
    (omega (arith, r.name, r.value, n, z, s)) (omega (arith, k, l, count (lies c.self.invariant.within c.self.view_is), c.self.invariant.few)) (omega (arith, s, c.requires.bytes))
    (omega (arith, c.self.invariant.names_fit, c.make_room.ensures.spans))
    (omega (arith, c.self.invariant.bytes_fit, c.make_room.ensures.capacity, c.put_entry.ensures.capacity))
    (omega (arith, c.self.invariant.spare_fit, c.make_room.ensures.spare))

pub returns : goal.returns
returns c = (after c).is
