use Rattle.std.proofs.Common.{◌≡◌, ◌++◌, ◌+◌, ◌-◌, ◌/◌, ◌%◌, ◌<◌, ◌≤◌, ◌==◌, ◌∷◌, [], false, length, replicate, take, drop, set, refl, sym, ◌∙◌, arith}
use Rattle.std.specs.List.{flat_map}
use Rattle.std.proofs.lemmas.Bool.Decides.{nat_tests}
use Rattle.std.proofs.lemmas.List.{take-take, take_more_set}
use Rattle.page_core_base.specs.laws.Views.{cells_in}
use Rattle.page_core_streams.specs.Streams.{cell_bytes_of, printed}
use Rattle.page_core_streams.proofs.AsciiLemmas.{GrowsUpTo-start, GrowsUpTo-flow, GrowsUpTo-broken, GrowsUpTo-last, ascii-front, ascii-back, text-front, text-moved, text-printed, text-done}
use Rattle.page_core_streams.proofs.text_rows.put_text.Goals as goal

pub returns-in_default-clause-writes : goal.returns-in_default-clause-writes
returns-in_default-clause-writes g c =
    let cells = cells_in c.args.text.now c.args.fonts.now in
    let e = text-printed c.args.margin c.args.text.now c.args.fonts.now c.requires.sizes (sym c.is_empty.ensures ∙ c.if-is_empty.false) in
    GrowsUpTo-broken _ (replicate c.args.margin 32) (flat_map cell_bytes_of cells ++ 10 ∷ []) (GrowsUpTo-start _ (printed c.args.margin cells)) e c.in_default.ensures.writes

pub loop-i-init : goal.loop-i-init
loop-i-init g c =
    let text = c.args.text.now in
    let fonts = c.args.fonts.now in
    let cells = cells_in text fonts in
    let none : (length text == 0) ≡ false = sym c.is_empty.ensures ∙ c.if-is_empty.false in
    let e = text-printed c.args.margin text fonts c.requires.sizes none in
    let w = c.in-Some.ensures.writes in
    let front = take c.in-Some.end c.put_margin.new.bytes in
    let count = (length text - 1) % 32 + 1 in
    let f = GrowsUpTo-flow _ (replicate c.args.margin 32) front (flat_map cell_bytes_of cells ++ 10 ∷ []) (GrowsUpTo-start _ (printed c.args.margin cells)) e w.1 in
    let written = c.write_first-end.ensures in
    let some : 0 < length text = grind (arith, nat_tests, none) in (
      ((length text - 1) / 32, omega (arith, some)),
      omega (arith, written.end, w.0),
      rw written.front (rw (text-front front text fonts count) at f),
      c.in-Some.ensures.fails,
    )

pub returns-in_default-room_after-clause-writes : goal.returns-in_default-room_after-clause-writes
returns-in_default-room_after-clause-writes g c =
    let l = c.loop-i in
    let rest = flat_map cell_bytes_of (cells_in (drop l.i c.args.text.now) (drop l.i c.args.fonts.now)) ++ 10 ∷ [] in
    GrowsUpTo-broken _ (take l.end l.bytes) rest l.invariant.2 refl c.in_default-room_after.ensures.writes

pub slice_bounds-write_first-end-in-loop-i : goal.slice_bounds-write_first-end-in-loop-i
slice_bounds-write_first-end-in-loop-i g c = omega (arith, c.loop-i-test.true, c.loop-i.invariant.0.1)

pub write_first-end-requires-in-loop-i-clause-ascii : goal.write_first-end-requires-in-loop-i-clause-ascii
write_first-end-requires-in-loop-i-clause-ascii g c =
    let i = c.loop-i.i in
    let count : i + 32 - i ≡ 32 = omega arith in
    rw count (ascii-front (drop i c.args.text.now) (drop i c.args.fonts.now) _ 32 (ascii-back c.args.text.now c.args.fonts.now _ i c.requires))

pub loop-i-preserved : goal.loop-i-preserved
loop-i-preserved g c =
    let l = c.loop-i in
    let text = c.args.text.now in
    let fonts = c.args.fonts.now in
    let room = c.in-Some-room_after.room in
    let w = c.in-Some-room_after.ensures.writes in
    let rest = flat_map cell_bytes_of (cells_in (drop l.i text) (drop l.i fonts)) ++ 10 ∷ [] in
    let f = GrowsUpTo-flow _ (take l.end l.bytes) (take room l.bytes) rest l.invariant.2 refl w.1 in
    let count : l.i + 32 - l.i ≡ 32 = omega arith in
    let least : 32 ≤ 32 = omega arith in
    let written = c.write_first-end-in-loop-i.ensures in
    let front = rw (count, take-take 32 32 (drop l.i text) least, take-take 32 32 (drop l.i fonts) least) at written.front in (
      (l.invariant.0.0 - 1, omega (arith, c.loop-i-test.true, l.invariant.0.1)),
      omega (arith, written.end, w.0),
      rw front (rw (text-moved (take room l.bytes) text fonts l.i 32) at f),
      c.in-Some-room_after.ensures.fails ∙ l.invariant.3,
    )

pub returns-clause-writes : goal.returns-clause-writes
returns-clause-writes g c =
    let l = c.loop-i in
    let line : take (l.end + 1) (set l.bytes l.end 10) ≡ take l.end l.bytes ++ 10 ∷ [] = take_more_set l.bytes l.end 10 (omega arith) in
    let all = text-done (take l.end l.bytes) c.args.text.now c.args.fonts.now l.i (omega (arith, c.loop-i-test.false)) ∙ sym line in
    GrowsUpTo-last _ (take (l.end + 1) (set l.bytes l.end 10)) _ l.invariant.2 all c.put-2.ensures.writes
