use Rattle.std.proofs.Common.{◌≡◌, ◌<◌, ◌∙◌, ap, arith, get_or, length, length-append}
use Rattle.page_roff_names.specs.declared.rows.EntryKind.TheVariants.{String}
use Rattle.page_roff_names.specs.declared.rows.Span.{Span}
use Rattle.page_roff_names.specs.Names.{definition}
use Rattle.page_roff_names.specs.machine.Changes.{slice, entry}
use Rattle.page_roff_names.proofs.Laid.{copied_more, room_left, within_at}
use Rattle.page_roff_names.proofs.rows.gather.Goals as goal

abbrev nowhere : Span
nowhere = record { name = record { start = 0; len = 0 }; value = record { start = 0; len = 0 }; meaning = String }

pub bytes_at-requires : goal.bytes_at-requires
bytes_at-requires c = (within_at _ _ _ _ _ c.requires.within (omega (arith, c.loop-i-test.true, c.loop-i.auto.spans)) c.loop-i.invariant.0.0).0

pub bytes_at-requires-in-loop-i : goal.bytes_at-requires-in-loop-i
bytes_at-requires-in-loop-i c = (within_at _ _ _ _ _ c.requires.within (omega (arith, c.loop-i-test.true, c.loop-i.auto.spans)) c.loop-i.invariant.0.0).1

pub put_entry-requires : goal.put_entry-requires
put_entry-requires c =
    let v = c.loop-i.invariant in
    let h = room_left c.args.spans.now c.loop-i.spans c.args.text.now c.loop-i.i nowhere (omega (arith, c.loop-i-test.true, c.loop-i.auto.spans)) v.0.0 in
    let a = ap length c.bytes_at.ensures in
    let b = ap length c.bytes_at-in-loop-i.ensures in
    omega (arith, h, a, b, v.0.3, v.1, c.requires.room, c.loop-i.other.ok.0)

pub loop-i-preserved : goal.loop-i-preserved
loop-i-preserved c =
    let v = c.loop-i.invariant in
    let s : Span = get_or c.loop-i.spans c.loop-i.i nowhere in
    let a = ap length c.bytes_at.ensures in
    let b = ap length c.bytes_at-in-loop-i.ensures in
    let n = length-append c.bytes_at.result.now c.bytes_at-in-loop-i.result.now in
    let l : c.loop-i.i < length c.args.spans.now = omega (arith, c.loop-i-test.true, c.loop-i.auto.spans) in
    let k : c.loop-i.i < length c.loop-i.spans = omega (arith, c.loop-i-test.true, c.loop-i.auto.spans) in
    let is : entry c.put_entry.new.text.items c.put_entry.result ≡ entry c.args.text.now s =
    c.put_entry.ensures.is.0
    ∙ ap (λ name. (name, definition s.meaning c.bytes_at-in-loop-i.result.now)) c.bytes_at.ensures
    ∙ ap (λ value. (slice c.args.text.now s.name, definition s.meaning value)) c.bytes_at-in-loop-i.ensures in (
      copied_more _ _ _ _ _ _ _ nowhere _ l k v.0 is c.put_entry.ensures.is.1 c.put_entry.ensures.items (n ∙ omega (arith, a, b)),
      omega (arith, v.1, c.put_entry.ensures.capacity),
    )
