use Rattle.std.proofs.Common.{◌≡◌, append_assoc, sym, ap, arith}
use Rattle.std.proofs.Math.Seq.{take-nil}
use Rattle.std.proofs.lemmas.Bool.Decides.{nat_tests}
use Rattle.page_roff_syntax.specs.laws.Views.{argument_view}
use Rattle.page_engine_header.specs.Header.{argument_cut, cut_item}
use Rattle.page_engine_header.proofs.PrintingLemmas.{cuts_more}
use Rattle.page_engine_header.proofs.fields.report_title.Goals as goal

pub loop-left-preserved : goal.loop-left-preserved
loop-left-preserved g c = λ plan rest h.
    let l = c.loop-left in
    let more = cuts_more c.args.place l.left l.arguments _ _ c.in-Some.ensures.next (grind (arith, nat_tests)) in
    let cut : argument_cut c.args.place (argument_view c.in-Some.argument) ≡ cut_item c.args.place c.value_len.result =
    ap (cut_item c.args.place) (sym c.value_len.ensures.value) in
    c.report_cut.ensures plan _ (rw (more, cut, append_assoc) at (l.invariant plan rest h))

pub returns-in-None : goal.returns-in-None
returns-in-None g c = λ plan rest h. rw (c.in-None.ensures.next.0, take-nil) at (c.loop-left.invariant plan rest h)

pub returns : goal.returns
returns g c = λ plan rest h.
    let l = c.loop-left in
    let none : l.left ≡ 0 = grind (arith, nat_tests) in
    rw none at (l.invariant plan rest h)
