use Rattle.std.proofs.Common.{ℕ, List, ◌∙◌, ap, arith}
use Rattle.std.proofs.lemmas.List.Edits.{length-insert}
use Rattle.std.specs.List.{insert}
use Rattle.page_roff_names.specs.Names.{size, Definition, definition}
use Rattle.page_roff_names.proofs.Laid.{Lies, lies, closed, appended, inserted, size-insert}
use Rattle.page_roff_names.proofs.rows.Row.insert.Goals as goal

after : (c : goal.After-self-1) → Lies c.put_span.new.spans.items c.put_entry-span.new.text.items (insert c.args.self.now c.args.i (c.args.name.now, definition c.args.meaning c.args.value.now))
after c =
    inserted c.args.i c.put_entry-span.result (appended _ (lies c.make_room.ensures.within (c.make_room.ensures.same ∙ c.self.view_is)) c.put_entry-span.ensures.items)
    c.put_entry-span.ensures.is.1 c.put_entry-span.ensures.is.0 c.put_span.ensures.items

pub invariant_of-self : goal.invariant_of-self
invariant_of-self c =
    let n = c.self.invariant.bytes ∙ ap size c.self.view_is in
    let e : List ℕ × Definition = (c.args.name.now, definition c.args.meaning c.args.value.now) in
    let s = size-insert c.args.self.now c.args.i e in
    let l = length-insert c.args.self.now c.args.i e c.requires.place in
    closed (after c)
    (omega (arith, n, s)) (omega (arith, l, c.requires.names)) (omega (arith, s, c.requires.bytes))
    (omega (arith, c.self.invariant.names_fit, c.make_room.ensures.spans, c.put_span.ensures.capacity))
    (omega (arith, c.self.invariant.bytes_fit, c.make_room.ensures.capacity, c.put_entry-span.ensures.capacity))
    (omega (arith, c.self.invariant.spare_fit, c.make_room.ensures.spare))

pub returns : goal.returns
returns c = (after c).is
