use Rattle.std.proofs.Common.{◌≡◌, ◌+◌, ◌-◌, length, take, refl, sym, ap, ◌∙◌, arith}
use Rattle.std.proofs.lemmas.List.{length-take-le, length-drop}
use Rattle.page_roff_decoding.proofs.ScanLemmas.{rest_of}
use Rattle.page_roff_lines.specs.machine.Open.{open_after, whole_lines}
use Rattle.page_roff_lines.proofs.PointLemmas.{open_after-consumed, run-open_after, run-none, byte-open_after, byte-lines}
use Rattle.page_roff_lines.proofs.open.OpenLine.read_runs.Goals as goal

pub loop-at-init : goal.loop-at-init
unfolding open_after whole_lines
loop-at-init c = (omega arith, refl, refl)

pub take_run-at-requires : goal.take_run-at-requires
take_run-at-requires c =
    let xs = c.args.chunk.now in
    let i = c.loop-at.at in
    let o = c.args.self.now in
    let consumed : c.loop-at.self.consumed ≡ o.consumed + length (take i xs) = ap (λ o. o.consumed) c.loop-at.invariant.1 ∙ open_after-consumed o (take i xs) in
    rw (rest_of xs i) (omega (arith, consumed, length-take-le i xs c.loop-at.invariant.0, length-drop i xs))

pub take_byte-whole-requires : goal.take_byte-whole-requires
take_byte-whole-requires c =
    let xs = c.args.chunk.now in
    let i = c.loop-at.at in
    let n = c.take_run-at.result in
    let o = c.args.self.now in
    let line = run-open_after o c.loop-at.self c.take_run-at.new.self xs i n c.loop-at.invariant.1 c.take_run-at.ensures.after in
    let consumed : c.take_run-at.new.self.consumed ≡ o.consumed + length (take (i + n) xs) = ap (λ o. o.consumed) line ∙ open_after-consumed o (take (i + n) xs) in
    omega (arith, consumed, length-take-le (i + n) xs (omega arith))

pub returns-then-whole-clause-after : goal.returns-then-whole-clause-after
returns-then-whole-clause-after c =
    let xs = c.args.chunk.now in
    let i = c.loop-at.at in
    let n = c.take_run-at.result in
    let o = c.args.self.now in
    let line = run-open_after o c.loop-at.self c.take_run-at.new.self xs i n c.loop-at.invariant.1 c.take_run-at.ensures.after in
    byte-open_after o c.take_run-at.new.self c.take_byte-whole.new.self xs (i + n) c.if-at-chunk.true line c.take_byte-whole.ensures.after

pub returns-then-whole-clause-lines : goal.returns-then-whole-clause-lines
returns-then-whole-clause-lines c =
    let xs = c.args.chunk.now in
    let i = c.loop-at.at in
    let n = c.take_run-at.result in
    let o = c.args.self.now in
    let line = run-open_after o c.loop-at.self c.take_run-at.new.self xs i n c.loop-at.invariant.1 c.take_run-at.ensures.after in
    let none = run-none o c.loop-at.self xs i n c.loop-at.invariant.1 c.loop-at.invariant.2 c.take_run-at.ensures.none in
    let lines = byte-lines o c.take_run-at.new.self c.take_byte-whole.new.self xs (i + n) c.if-at-chunk.true line c.take_byte-whole.ensures.after none in
    let whole = sym c.take_byte-whole.ensures.whole ∙ c.if-whole.true in
    lines ∙ rw whole refl

pub returns-then-whole-clause-before : goal.returns-then-whole-clause-before
returns-then-whole-clause-before c = λ _.
    let xs = c.args.chunk.now in
    let i = c.loop-at.at in
    let n = c.take_run-at.result in
    let same : i + n + 1 - 1 ≡ i + n = omega arith in
    rw same (run-none c.args.self.now c.loop-at.self xs i n c.loop-at.invariant.1 c.loop-at.invariant.2 c.take_run-at.ensures.none)

pub loop-at-preserved-else-whole : goal.loop-at-preserved-else-whole
loop-at-preserved-else-whole c =
    let xs = c.args.chunk.now in
    let i = c.loop-at.at in
    let n = c.take_run-at.result in
    let o = c.args.self.now in
    let line = run-open_after o c.loop-at.self c.take_run-at.new.self xs i n c.loop-at.invariant.1 c.take_run-at.ensures.after in
    let none = run-none o c.loop-at.self xs i n c.loop-at.invariant.1 c.loop-at.invariant.2 c.take_run-at.ensures.none in
    let lines = byte-lines o c.take_run-at.new.self c.take_byte-whole.new.self xs (i + n) c.if-at-chunk.true line c.take_byte-whole.ensures.after none in
    let whole = sym c.take_byte-whole.ensures.whole ∙ c.if-whole.false in (
      omega arith,
      byte-open_after o c.take_run-at.new.self c.take_byte-whole.new.self xs (i + n) c.if-at-chunk.true line c.take_byte-whole.ensures.after,
      lines ∙ rw whole refl,
    )

pub loop-at-preserved : goal.loop-at-preserved
loop-at-preserved c =
    let xs = c.args.chunk.now in
    let i = c.loop-at.at in
    let n = c.take_run-at.result in
    let o = c.args.self.now in
    let within = rw (rest_of xs i) at c.take_run-at.ensures.within in (
      omega (arith, within, length-drop i xs),
      run-open_after o c.loop-at.self c.take_run-at.new.self xs i n c.loop-at.invariant.1 c.take_run-at.ensures.after,
      run-none o c.loop-at.self xs i n c.loop-at.invariant.1 c.loop-at.invariant.2 c.take_run-at.ensures.none,
    )

pub returns-then-whole-clause-consumed : goal.returns-then-whole-clause-consumed
returns-then-whole-clause-consumed c =
    let xs = c.args.chunk.now in
    let n = c.loop-at.at + c.take_run-at.result + 1 in
    let consumed : c.take_byte-whole.new.self.consumed ≡ c.args.self.now.consumed + length (take n xs) =
    ap (λ o. o.consumed) (returns-then-whole-clause-after c) ∙ open_after-consumed c.args.self.now (take n xs) in
    omega (arith, consumed, length-take-le n xs (omega arith))

pub returns-clause-consumed : goal.returns-clause-consumed
returns-clause-consumed c =
    let xs = c.args.chunk.now in
    let consumed : c.loop-at.self.consumed ≡ c.args.self.now.consumed + length (take c.loop-at.at xs) =
    ap (λ o. o.consumed) c.loop-at.invariant.1 ∙ open_after-consumed c.args.self.now (take c.loop-at.at xs) in
    omega (arith, consumed, length-take-le c.loop-at.at xs c.loop-at.invariant.0)
