use Rattle.std.proofs.Common.{ℕ, List, ◌∙◌, ap, arith}
use Rattle.std.proofs.lemmas.List.Edits.{length-insert, length-remove}
use Rattle.std.specs.List.{insert, remove}
use Rattle.page_roff_names.specs.Names.{size, Definition}
use Rattle.page_roff_names.specs.laws.Views.{definition_at}
use Rattle.page_roff_names.specs.machine.Changes.{entry}
use Rattle.page_roff_names.proofs.Laid.{Lies, Reads, lies, closed, count, appended, inserted, removed, reads, size-insert, size-remove}
use Rattle.page_roff_names.proofs.rows.Row.rename.Goals as goal

before : (c : goal.After-self-1) → Lies c.make_room.new.spans.items c.put.new.text.items c.args.self.now
before c = appended _ (lies c.make_room.ensures.within (c.make_room.ensures.same ∙ c.self.view_is)) c.put.ensures.items

old : (c : goal.After-self-1) → Reads c.put.new.text.items c.args.self.now c.args.i c.remove-span.result
old c = reads c.args.i c.remove-span.result (before c) c.requires.from c.remove-span.ensures.value

after : (c : goal.After-self-1) → Lies c.put_span.new.spans.items c.put.new.text.items (insert (remove c.args.self.now c.args.i) c.args.to (c.args.name.now, definition_at c.args.self.now c.args.i))
after c =
    inserted c.args.to _ (removed c.args.i (before c) c.remove-span.ensures.items) (c.put.ensures.is.2, (old c).within.1)
    (ap (λ name. (name, (entry c.put.new.text.items c.remove-span.result).1)) c.put.ensures.is.0 ∙ ap (λ e. (c.args.name.now, e.1)) (old c).is)
    c.put_span.ensures.items

pub overflow_sub-self : goal.overflow_sub-self
overflow_sub-self c =
    let r = reads c.args.i c.remove-span.result (lies c.make_room.ensures.within (c.make_room.ensures.same ∙ c.self.view_is)) c.requires.from c.remove-span.ensures.value in
    let n = c.self.invariant.bytes ∙ ap size c.self.view_is in
    let z = size-remove c.args.self.now c.args.i c.requires.from in
    omega (arith, r.name, n, z)

pub invariant_of-self : goal.invariant_of-self
invariant_of-self c =
    let r = old c in
    let n = c.self.invariant.bytes ∙ ap size c.self.view_is in
    let z = size-remove c.args.self.now c.args.i c.requires.from in
    let e : List ℕ × Definition = (c.args.name.now, definition_at c.args.self.now c.args.i) in
    let s = size-insert (remove c.args.self.now c.args.i) c.args.to e in
    let k = length-remove c.args.self.now c.args.i c.requires.from in
    let l = length-insert (remove c.args.self.now c.args.i) c.args.to e (omega (arith, k, c.requires.to)) in
    closed (after c)
    (omega (arith, r.name, n, z, s)) (omega (arith, k, l, count (lies c.self.invariant.within c.self.view_is), c.self.invariant.few)) (omega (arith, s, c.requires.bytes))
    (omega (arith, c.self.invariant.names_fit, c.make_room.ensures.spans, c.remove-span.ensures.capacity, c.put_span.ensures.capacity))
    (omega (arith, c.self.invariant.bytes_fit, c.make_room.ensures.capacity, c.put.ensures.capacity))
    (omega (arith, c.self.invariant.spare_fit, c.make_room.ensures.spare))

pub returns : goal.returns
returns c = (after c).is
