use Rattle.std.proofs.Common.{◌<◌, ◌+◌, arith, length-drop, rules}
use Rattle.page_roff_parts.proofs.BracketLemmas.{known_drop}
use Rattle.page_roff_parts.proofs.FrontLemmas.{front_end, front_part, front_run, front_then}
use Rattle.page_roff_parts.proofs.fronts.front_len.Goals as goal

pub pair_len-len-requires-clause-known : goal.pair_len-len-requires-clause-known
pair_len-len-requires-clause-known c =
    rw c.after-in-Some.ensures (known_drop c.args.is_unclosed (c.loop-place.at + c.in-Some.place) c.args.text.now c.requires)

pub returns-then-len-eq0-clause-front : goal.returns-then-len-eq0-clause-front
returns-then-len-eq0-clause-front c =
    let i = c.loop-place.invariant in
    let found = rw (c.in-Some.is, c.after.ensures) at c.backslash_place.ensures in
    front_then c.args.copy c.loop-place.at c.in-Some.place c.args.text.now i.1 i.0 (front_run c.args.copy _ c.in-Some.place found)

pub loop-place-preserved : goal.loop-place-preserved
loop-place-preserved c =
    let i = c.loop-place.invariant in
    let text = c.args.text.now in
    let at = c.loop-place.at in
    let place = c.in-Some.place in
    let len = c.pair_len-len.result in
    let found = rw (c.in-Some.is, c.after.ensures) at c.backslash_place.ensures in
    let pair = rw c.after-in-Some.ensures at c.pair_len-len.ensures in
    let some : 0 < len = omega (arith, c.if-len-eq0.false) in
    let long = length-drop (at + place) text in (
      front_then c.args.copy (at + place) len text (omega arith)
          (front_then c.args.copy at place text i.1 i.0 (front_run c.args.copy _ place found))
          (front_part c.args.copy _ len some pair.within (pair.pair some)),
      omega (arith, some, long, pair.within),
      omega (arith, c.if-fits-end-2.false),
    )

pub returns-clause-front : goal.returns-clause-front
returns-clause-front c =
    let i = c.loop-place.invariant in
    front_end c.args.copy c.args.text.now c.loop-place.at c.backslash_place.result i.1 (rw c.after.ensures at c.backslash_place.ensures) (search rules) i.0
