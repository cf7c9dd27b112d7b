use Rattle.std.proofs.Common.{◌≡◌, ◌+◌, drop, ap, arith, sym, ◌∙◌, length-drop, drop-drop}
use Rattle.std.proofs.lemmas.List.{take_rest}
use Rattle.page_roff_syntax.specs.Delimiters.{place_of}
use Rattle.page_roff_syntax.proofs.ClosedLemmas.{reached, place_here, occurs_here, absent_before, found_below, not_found}
use Rattle.page_roff_syntax.proofs.delimiters.place_of.Goals as goal

pub returns-in-None-clause-value : goal.returns-in-None-clause-value
returns-in-None-clause-value c =
    let i = c.loop-place.invariant in
    let q = not_found (drop c.loop-place.place c.args.text.now) c.args.delimiter.now (rw (take_rest c.args.text.now c.loop-place.place) at c.in-None.ensures) in
    omega (arith, i.1, q, length-drop c.loop-place.place c.args.text.now)

pub returns-then-is_outside-clause-value : goal.returns-then-is_outside-clause-value
returns-then-is_outside-clause-value c =
    let i = c.loop-place.invariant in
    let d = c.args.delimiter.now in
    let t = drop c.loop-place.place c.args.text.now in
    let n = c.in-Some.found in
    let h = rw (take_rest c.args.text.now c.loop-place.place) at c.in-Some.ensures in
    let b = rw (take_rest c.args.text.now c.loop-place.place) at c.is_outside.ensures in
    let q = reached d t n _ (found_below t d n (omega (arith, length-drop c.loop-place.place c.args.text.now)) h) (absent_before t d n h) (sym b ∙ c.if-is_outside.true) in
    let e : n + 0 ≡ n = omega arith in
    let p = place_here d (drop n t) (occurs_here t d n h.1) in
    let r = rw e at q in
    omega (arith, i.1, r, p)

pub loop-place-preserved : goal.loop-place-preserved
loop-place-preserved c =
    let i = c.loop-place.invariant in
    let d = c.args.delimiter.now in
    let at = c.loop-place.place in
    let t = drop at c.args.text.now in
    let n = c.in-Some.found in
    let h = rw (take_rest c.args.text.now c.loop-place.place) at c.in-Some.ensures in
    let b = rw (take_rest c.args.text.now c.loop-place.place) at c.is_outside.ensures in
    let l = length-drop at c.args.text.now in
    let s = found_below t d n (omega (arith, l)) h in
    let q = reached d t n _ s (absent_before t d n h) (sym b ∙ c.if-is_outside.false) in
    let u = ap (place_of d) (drop-drop (n + 1) at c.args.text.now) in
    (omega (arith, s, l), omega (arith, i.1, q, u))
