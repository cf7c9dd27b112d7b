use Rattle.std.proofs.Common.{◌∙◌, ap, arith}
use Rattle.std.proofs.lemmas.List.Edits.{length-remove}
use Rattle.page_roff_names.specs.Names.{size}
use Rattle.page_roff_names.proofs.Laid.{lies, closed, count, reads, removed, size-remove}
use Rattle.page_roff_names.proofs.rows.Row.remove.Goals as goal

pub overflow_sub-self : goal.overflow_sub-self
overflow_sub-self c =
    let r = reads c.args.i c.remove-span.result (lies c.self.invariant.within c.self.view_is) c.requires c.remove-span.ensures.value in
    let n = c.self.invariant.bytes ∙ ap size c.self.view_is in
    let z = size-remove c.args.self.now c.args.i c.requires in
    omega (arith, r.name, r.value, n, z)

pub invariant_of-self : goal.invariant_of-self
invariant_of-self c =
    let h = lies c.self.invariant.within c.self.view_is in
    let r = reads c.args.i c.remove-span.result h c.requires c.remove-span.ensures.value in
    let n = c.self.invariant.bytes ∙ ap size c.self.view_is in
    let z = size-remove c.args.self.now c.args.i c.requires in
    let l = length-remove c.args.self.now c.args.i c.requires in
    closed (removed c.args.i h c.remove-span.ensures.items)
    (omega (arith, r.name, r.value, n, z)) (omega (arith, l, count h, c.self.invariant.few)) (omega (arith, n, z, c.self.invariant.small))
    (omega (arith, c.self.invariant.names_fit, c.remove-span.ensures.capacity)) c.self.invariant.bytes_fit c.self.invariant.spare_fit

pub returns : goal.returns
returns c = (removed c.args.i (lies c.self.invariant.within c.self.view_is) c.remove-span.ensures.items).is
