use Rattle.std.proofs.Common.{◌+◌, length, add-zero, ◌∙◌, sym}
use Rattle.std.proofs.Math.Seq.{take-length, drop-length}
use Rattle.page_roff_parts.specs.machine.Verbatim.{seen_of}
use Rattle.page_roff_parts.proofs.FrontLemmas.{escape_alone, escape_pair, escape_called, escape_doubled}
use Rattle.page_roff_parts.proofs.parts.read_escape.Goals as goal

pub returns-then-text-lt2-clause-seen : goal.returns-then-text-lt2-clause-seen
returns-then-text-lt2-clause-seen c =
    let t = c.args.text.now in
    c.copied.ensures ∙ rw (add-zero (length t), take-length t, drop-length t) (escape_alone c.args.copy t c.requires.escape c.if-text-lt2.true)

pub returns-then-is_doubled-clause-seen : goal.returns-then-is_doubled-clause-seen
returns-then-is_doubled-clause-seen c =
    c.copied-then-is_doubled.ensures ∙ escape_doubled c.args.copy c.args.text.now c.requires.escape c.if-text-lt2.false (sym c.is_doubled.ensures ∙ c.if-is_doubled.true)

pub returns-in-Some-clause-seen : goal.returns-in-Some-clause-seen
returns-in-Some-clause-seen c =
    escape_called c.args.copy c.args.text.now (seen_of c.in-Some.seen) c.requires.escape (sym c.is_doubled.ensures ∙ c.if-is_doubled.false) c.if-text-lt2.false (sym c.in-Some.ensures.seen)

pub returns-in-None-clause-seen : goal.returns-in-None-clause-seen
returns-in-None-clause-seen c =
    let t = c.args.text.now in
    let n = rw c.after.ensures at c.character_len.ensures.value in
    c.copied-in-None.ensures ∙ rw (add-zero (1 + c.character_len.result), n) (escape_pair c.args.copy t c.requires.escape (sym c.is_doubled.ensures ∙ c.if-is_doubled.false) c.if-text-lt2.false (sym c.in-None.ensures.seen))
