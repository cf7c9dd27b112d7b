use Rattle.std.proofs.Common.{take, drop, arith}
use Rattle.std.proofs.lemmas.List.{length-drop}
use Rattle.std.proofs.Math.Seq.{take-add}
use Rattle.page_roff_decoding.specs.Decoding.{is_printable}
use Rattle.page_roff_decoding.proofs.ScanLemmas.{rest_of, all-append}
use Rattle.page_roff_lines.proofs.ReadLemmas.{pair-more, printable-more, run-front, text-more}
use Rattle.page_roff_lines.proofs.scanning.run_after.Goals as goal

pub loop-at-init : goal.loop-at-init
loop-at-init c =
    let xs = c.args.chunk.now in
    let i = c.args.from in
    let n = c.plain_run-len.result.0 in
    let rest = rest_of xs i in
    let within = rw rest at c.plain_run-len.ensures.within in (
      omega (arith, within, length-drop i xs),
      text-more xs i n c.requires.text.text (run-front (drop i xs) n within (rw rest at c.plain_run-len.ensures.run)),
      λ is. rw (take-add i n xs) (all-append is_printable (take i xs) (take n (drop i xs)) c.requires.text.printable (rw rest at (c.plain_run-len.ensures.printable is))),
    )

pub loop-at-preserved-then-printable : goal.loop-at-preserved-then-printable
loop-at-preserved-then-printable c =
    let pair = c.begins_pair.ensures c.loop-at-test.true in
    let r = c.plain_run-len-in-loop-at.ensures in
    let n = c.plain_run-len-in-loop-at.result.0 in
    let more = pair-more c.args.chunk.now c.loop-at.at n c.loop-at.invariant.0 c.loop-at.invariant.1 pair r.within r.run in (
      more.0,
      more.1,
      λ is. printable-more c.args.chunk.now c.loop-at.at n (c.loop-at.invariant.2 c.if-printable.true) pair (r.printable is),
    )

pub loop-at-preserved : goal.loop-at-preserved
loop-at-preserved c =
    let r = c.plain_run-len-in-loop-at.ensures in
    let more = pair-more c.args.chunk.now c.loop-at.at c.plain_run-len-in-loop-at.result.0 c.loop-at.invariant.0 c.loop-at.invariant.1
    (c.begins_pair.ensures c.loop-at-test.true) r.within r.run in
    let never = c.if-printable.false in
    (more.0, more.1, λ is. let no : ⊥ = cc in absurd no)
