use Rattle.std.proofs.Common.{◌≡◌, ◌+◌, ◌-◌, ◌≤◌, drop, length, append_assoc, length-drop, arith}
use Rattle.std.proofs.lemmas.Bool.Decides.{nat_tests}
use Rattle.page_core_base.specs.Rows.{join}
use Rattle.page_core_base.specs.declared.limits.TheConstants.{CELLS}
use Rattle.page_fill_rows.proofs.PlainLemmas.{parts-plain}
use Rattle.page_fill.proofs.LetteredWordLemmas.{lays-all, lays-more, tail-all}
use Rattle.page_fill.proofs.edges.FillEdge.put_words.Goals as goal

pub loop-end-init : goal.loop-end-init
loop-end-init g c =
    let first = c.put_front-end.ensures in
    let gave = first.gives in
    let takes = c.requires.takes in
    let whole : length c.args.text.now ≤ CELLS = grind (arith, nat_tests, takes) in
    (c.requires.plain, c.requires.fonts, whole, first.within, first.room, first.sound, (gave.0, gave.1, gave.2 c.requires.some))

pub put_front-end-requires-in-loop-end-clause-plain : goal.put_front-end-requires-in-loop-end-clause-plain
put_front-end-requires-in-loop-end-clause-plain g c =
    let l = c.loop-end in
    rw (tail-all (l.end + 1) l.rest.now) (parts-plain (l.end + 1) l.rest.now l.invariant.0).1

pub loop-end-preserved : goal.loop-end-preserved
loop-end-preserved g c =
    let l = c.loop-end in
    let held = l.invariant.6 in
    let given = held.0 in
    let end = l.end in
    let next = c.put_front-end-in-loop-end.result in
    let gave = c.put_front-end-in-loop-end.ensures.gives in
    let more = gave.0 in
    let rest = l.rest.now in
    let own = l.own.now in
    let t = length-drop (end + 1) rest in
    let f = length-drop (end + 1) own in
    let test = c.loop-end-test.true in
    let front = rw (held.1.1, tail-all (end + 1) rest, tail-all (end + 1) own) at gave.2 in
    let within : next ≤ length (drop (end + 1) rest) = rw (tail-all (end + 1) rest) at c.put_front-end-in-loop-end.ensures.within in
    let room : length c.put_front-end-in-loop-end.new.self.sheet.cells + (length (drop (end + 1) rest) - next) ≤ CELLS = rw (tail-all (end + 1) rest) at c.put_front-end-in-loop-end.ensures.room in
    rw (tail-all (end + 1) rest, tail-all (end + 1) own) (
      (parts-plain (end + 1) rest l.invariant.0).1,
      omega (arith, t, f, l.invariant.1),
      omega (arith, t, l.invariant.2),
      within,
      room,
      c.put_front-end-in-loop-end.ensures.sound,
      (
        join given more,
        ((λ plan rows notes h. gave.1.0 plan _ _ (held.1.0 plan _ _ (rw (append_assoc, append_assoc) at h))), gave.1.1),
        lays-more c.args.self.now c.args.blanks c.args.text.now c.args.fonts.now rest own given more end next l.invariant.1 test held.2 front,
      ),
    )

pub returns-clause-gives : goal.returns-clause-gives
returns-clause-gives g c =
    let l = c.loop-end in
    let held = l.invariant.6 in
    let t = length-drop l.end l.rest.now in
    let test = c.loop-end-test.false in
    let none : length (drop l.end l.rest.now) ≡ 0 = omega (arith, t, test, l.invariant.3) in
    (held.0, held.1, lays-all c.args.self.now c.args.blanks c.args.text.now c.args.fonts.now (drop l.end l.rest.now) (drop l.end l.own.now) held.0 none held.2)
