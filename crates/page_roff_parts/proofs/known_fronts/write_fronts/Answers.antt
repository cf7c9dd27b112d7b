use Rattle.std.proofs.Common.{◌≡◌, ◌<◌, ◌+◌, ◌-◌, length, arith}
use Rattle.page_roff_parts.specs.machine.Known.{AreFronts}
use Rattle.page_roff_parts.proofs.FrontLemmas.{fronts_step, run_before, run_none}
use Rattle.page_roff_parts.proofs.known_fronts.write_fronts.Goals as goal
use Rattle.page_roff_parts.proofs.known_fronts.write_fronts.Goals.{then-text-at-eq92, else-text-at-eq92}

pub loop-at-preserved : goal.loop-at-preserved
loop-at-preserved c =
    let i = c.loop-at.invariant in
    let text = c.args.text.now in
    let at = c.loop-at.at - 1 in
    let one : c.loop-at.at ≡ at + 1 = omega (arith, c.loop-at-test.true) in
    let below : at < length text = omega (arith, i.0, i.1, i.2, one) in
    let known : AreFronts c.loop-at.fronts c.args.before text (at + 1) = rw one at i.5 in
    elim c.if-text-at-eq92.branch [
      | then-text-at-eq92 w ↦
          let end = w.copied_end-end.ensures in
          let run = run_none text at w.if-text-at-eq92.true in
          let n = w.copied_end-end.result in
          let step = fronts_step c.args.fronts.now c.loop-at.fronts text c.args.before at at n below c.requires.room (omega arith) end.least end.within run end.front known i.6 in
          rw (w.next-is, w.end-is) (omega arith, end.least, end.within, run, end.front, step.0, step.1, c.lacks_bracket-is_unclosed.ensures)
      | else-text-at-eq92 w ↦
          let run = run_before text at c.loop-at.next (rw one at i.3) w.if-text-at-eq92.false in
          let step = fronts_step c.args.fronts.now c.loop-at.fronts text c.args.before at c.loop-at.next c.loop-at.end below c.requires.room (omega (arith, i.0)) i.1 i.2 run i.4 known i.6 in
          rw (w.next-is, w.end-is) (omega (arith, i.0), i.1, i.2, run, i.4, step.0, step.1, c.lacks_bracket-is_unclosed.ensures)
    ]
