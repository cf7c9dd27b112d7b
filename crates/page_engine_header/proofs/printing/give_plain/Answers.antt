use Rattle.std.proofs.Common.{append_assoc, sym, ◌∙◌}
use Rattle.std.proofs.lemmas.Str.{IsUtf8-past_char}
use Rattle.page_engine_header.proofs.PrintingLemmas.{plain-more, plain-done, plain_printable, in_font_append}
use Rattle.page_engine_header.proofs.printing.give_plain.Goals as goal

pub loop-c-preserved : goal.loop-c-preserved
loop-c-preserved g c =
    let l = c.loop-c in
    let parts = c.in-Some.ensures.steps.0 in
    let more = plain-more c.args.output _ _ c.in-Some.c l.invariant.1 parts in (
      λ plan rest h. (rw c.printed_char.ensures.value at c.give_printed.ensures) plan _ (rw (more, in_font_append c.args.font c.args.place, append_assoc) at (l.invariant.0 plan rest h)),
      IsUtf8-past_char _ _ c.in-Some.c l.invariant.1 parts,
    )

pub returns : goal.returns
returns g c = λ plan rest h.
    let l = c.loop-c in
    rw (plain-done c.args.output _ c.in-None.ensures.steps.0.0) at (l.invariant.0 plan rest h)

pub returns-then-are_printable : goal.returns-then-are_printable
returns-then-are_printable g c = λ plan rest h.
    let text = c.as_bytes.ensures.value in
    let all = rw text at (sym c.are_printable.ensures ∙ c.if-are_printable.true) in
    (rw c.as_bytes-then-are_printable.ensures.value at c.give_run.ensures) plan rest (rw (plain_printable c.args.output c.args.text.now all) at h)
