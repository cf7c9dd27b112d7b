use Rattle.std.proofs.Common.{◌≤◌, ℕ, List, take, drop, length, ◌+◌, subst, arith}
use Rattle.std.proofs.lemmas.List.{take_rest, length-drop}
use Rattle.page_core_streams.specs.Streams.{Grows}
use Rattle.page_core_streams.specs.laws.Views.{Grows-append}
use Rattle.mandoc_formats.proofs.Turns.{take_plus, keeps_grown}
use Rattle.mandoc_formats.proofs.waiting.write_front.Goals as goal
use Rattle.mandoc_formats.proofs.waiting.write_front.Goals.{in-Ok, in-Err}

pub loop-preserved : goal.loop-preserved
loop-preserved g c =
    let i = c.loop.invariant in
    let bytes = c.args.bytes.now in
    let a = g.W.Write.contents c.args.out.now in
    let b = g.W.Write.contents c.loop.out in
    let d = g.W.Write.contents c.write.new.self in
    elim c.match-write.branch [
      | in-Ok w ↦ (
          let n = w.in-Ok.count in
          let most = rw (take_rest bytes c.loop.sent) at w.in-Ok.ensures.bound in
          let within : c.loop.sent + n ≤ length bytes = omega (arith, most, length-drop c.loop.sent bytes, i.0) in
          let more = rw (take_rest bytes c.loop.sent) at w.in-Ok.ensures.bytes in
          let grown = Grows-append a b d (take c.loop.sent bytes) (take n (drop c.loop.sent bytes)) i.1 more in
          rw w.sent-is (within, subst (λ (l : List ℕ). Grows a d l) (take_plus c.loop.sent n bytes within) grown))
      | in-Err w ↦ rw w.sent-is (i.0, keeps_grown a b d (take c.loop.sent bytes) i.1 w.in-Err.ensures.bytes)
    ]
