use Rattle.std.proofs.Common.{ℕ, ◌≡◌, ◌+◌, ◌-◌, refl, subst, ◌∙◌, arith}
use Rattle.std.proofs.lemmas.List.{length-drop}
use Rattle.page_core_base.specs.laws.Views.{UpTo}
use Rattle.page_core_base.proofs.LatchLemmas.{UpTo-start, UpTo-more, UpTo-within, UpTo-all}
use Rattle.page_roff_decoding.specs.Decoding.{line_limit, characters, characters_within, bad_notes}
use Rattle.page_roff_decoding.specs.laws.Views.{line_limit_is}
use Rattle.page_roff_decoding.proofs.ScanLemmas.{rest_of}
use Rattle.page_roff_decoding.proofs.SequenceLemmas.{bad_notes-text, bad_notes-front, bad_notes-stop, bad_notes-end}
use Rattle.page_roff_decoding.proofs.reporting.report_bad.Goals as goal

pub loop-at-init : goal.loop-at-init
loop-at-init g c =
    let limit = line_limit_is in
    let cs = characters c.args.encoding c.args.text.now in
    let all = bad_notes c.args.number 1 (characters_within line_limit cs) in
    let one : line_limit - line_limit + 1 ≡ 1 = omega arith in
    let start : UpTo g.N.NoteSink.gave c.args.notes.now all (bad_notes c.args.number (line_limit - line_limit + 1) (characters_within line_limit cs)) c.args.notes.now =
    rw one (UpTo-start g.met.N.NoteSink.laws c.args.notes.now all) in (
      omega arith,
      omega (arith, limit),
      subst (λ (n : ℕ). UpTo g.N.NoteSink.gave c.args.notes.now all (bad_notes c.args.number (line_limit - n + 1) (characters_within n cs)) c.args.notes.now) limit start,
      refl,
      refl,
    )

pub overflow_sub-column : goal.overflow_sub-column
overflow_sub-column g c = let limit = line_limit_is in omega (arith, limit, c.loop-at.invariant.1)

pub returns-in-Err-clause-gives : goal.returns-in-Err-clause-gives
returns-in-Err-clause-gives g c =
    UpTo-within g.met.N.NoteSink.laws _ _ _ c.loop-at.invariant.2
    (bad_notes-front c.args.encoding c.args.number c.args.text.now c.loop-at.at c.text_within-passed.result c.loop-at.room c.size-size.result c.of-front.result
    c.text_within-passed.ensures.within c.text_within-passed.ensures.text c.text_within-passed.ensures.room c.loop-at.invariant.1 c.if-at-text.true
    c.of-front.ensures.value c.of-front.ensures.later c.of-front.ensures.some c.of-front.ensures.within c.size-size.ensures (omega arith))
    (c.in-Err.ensures.gives _)

pub loop-at-preserved-then-at-text : goal.loop-at-preserved-then-at-text
loop-at-preserved-then-at-text g c =
    let text = c.args.text.now in
    let at = c.loop-at.at + c.text_within-passed.result in
    let within = rw (rest_of text at) at c.of-front.ensures.within in
    let front =
    (bad_notes-front c.args.encoding c.args.number c.args.text.now c.loop-at.at c.text_within-passed.result c.loop-at.room c.size-size.result c.of-front.result
    c.text_within-passed.ensures.within c.text_within-passed.ensures.text c.text_within-passed.ensures.room c.loop-at.invariant.1 c.if-at-text.true
    c.of-front.ensures.value c.of-front.ensures.later c.of-front.ensures.some c.of-front.ensures.within c.size-size.ensures (omega arith)) in (
      omega (arith, within, length-drop at text, c.width-at.ensures),
      omega (arith, c.loop-at.invariant.1),
      rw c.width-at.ensures (UpTo-more g.met.N.NoteSink.laws _ _ _ c.loop-at.invariant.2 front (c.in_default.ensures.gives _)),
      c.in_default.ensures.fault ∙ c.loop-at.invariant.3,
      c.in_default.ensures.same ∙ c.loop-at.invariant.4,
    )

pub loop-at-preserved : goal.loop-at-preserved
loop-at-preserved g c =
    let text = c.args.text.now in
    let i = c.loop-at.at in
    let n = c.text_within-passed.result in
    let run = bad_notes-text c.args.encoding c.args.number text i n c.loop-at.room c.text_within-passed.ensures.within c.text_within-passed.ensures.text
    c.text_within-passed.ensures.room c.loop-at.invariant.1 in
    let within = rw (rest_of text i) at c.text_within-passed.ensures.within in (
      omega (arith, within, length-drop i text),
      omega (arith, c.loop-at.invariant.1),
      rw run at c.loop-at.invariant.2,
      c.loop-at.invariant.3,
      c.loop-at.invariant.4,
    )

pub returns-after-loop-at-clause-gives : goal.returns-after-loop-at-clause-gives
returns-after-loop-at-clause-gives g c =
    let none = bad_notes-end c.args.encoding c.args.number c.args.text.now c.loop-at.at c.loop-at.room (line_limit - c.loop-at.room + 1) c.loop-at-test.false in
    UpTo-all (rw none at c.loop-at.invariant.2)

pub returns-then-size-room-clause-gives : goal.returns-then-size-room-clause-gives
returns-then-size-room-clause-gives g c =
    let text = c.args.text.now in
    let i = c.loop-at.at in
    let n = c.text_within-passed.result in
    let at = i + n in
    let room = c.loop-at.room - n in
    let run = bad_notes-text c.args.encoding c.args.number text i n c.loop-at.room c.text_within-passed.ensures.within c.text_within-passed.ensures.text
    c.text_within-passed.ensures.room c.loop-at.invariant.1 in
    let before = rw run at c.loop-at.invariant.2 in
    let rest = rest_of text at in
    let value = rw rest at c.of-front.ensures.value in
    let later = rw rest at c.of-front.ensures.later in
    let within = rw rest at c.of-front.ensures.within in
    let none = bad_notes-stop c.args.encoding c.args.number text at room (line_limit - room + 1) c.size-size.result c.of-front.result
    c.if-at-text.true value later c.of-front.ensures.some within c.size-size.ensures c.if-size-room.true in
    UpTo-all (rw none at before)
