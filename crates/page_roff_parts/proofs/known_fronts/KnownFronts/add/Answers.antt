use Rattle.std.proofs.Common.{◌≡◌, ◌++◌, length, take, drop, arith}
use Rattle.std.specs.Vec.{vec_len}
use Rattle.std.proofs.lemmas.List.Elements.{All-push}
use Rattle.page_roff_parts.specs.machine.Known.{AreFronts, IsKnown, StayBefore}
use Rattle.page_roff_parts.proofs.FrontLemmas.{all_more, known_last, written_back}
use Rattle.page_roff_parts.proofs.known_fronts.KnownFronts.add.Goals as goal

pub invariant_of-self-clause-are_known : goal.invariant_of-self-clause-are_known
invariant_of-self-clause-are_known c =
    let s = c.make_room.new.self in
    let texts = s.texts.items in
    let text = c.args.text.now in
    let new = c.write_fronts.new.fronts in
    let len : c.len-start.result ≡ length texts = omega arith in
    let stay : StayBefore (length texts) s.fronts.items new = rw (len, c.as_mut_slice-4.ensures.value) at c.write_fronts.ensures.stay in
    let fronts : AreFronts new (length texts) text 0 = rw len at c.write_fronts.ensures.fronts in
    let room = c.make_room.ensures in
    let room_len : vec_len s.fronts ≡ length s.fronts.items = omega arith in
    let whole : take (vec_len s.fronts) (new ++ drop (length new) s.fronts.items) ≡ new = written_back s.fronts.items new (vec_len s.fronts) stay.0 room_len in
    rw (c.append.ensures.items, whole, c.push_reserved.ensures.items) (All-push (IsKnown (texts ++ text) new) s.known.items _ (all_more texts text s.fronts.items new s.known.items stay s.are_known)
    (known_last texts text new _ fronts (omega (arith, room.texts, room.fronts, stay.0)) (omega (arith, len)) (omega (arith, len))))
