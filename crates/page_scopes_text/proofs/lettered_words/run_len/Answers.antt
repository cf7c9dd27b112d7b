use Rattle.std.proofs.Common.{◌≡◌, get_or, ◌∙◌, arith}
use Rattle.std.proofs.lemmas.List.{get_or_default, get_or_past}
use Rattle.page_scopes_words.proofs.RunEndLemmas.{goes_printable}
use Rattle.page_scopes_text.proofs.RunWordLemmas.{run_reads}
use Rattle.page_scopes_text.proofs.lettered_words.run_len.Goals as goal
use Rattle.page_scopes_text.proofs.lettered_words.run_len.Goals.{then-len-text-via-then-len-text, then-len-text-via-else-len-text+then-text-len-eq32}

pub returns-then-len-text-clause-ascii : goal.returns-then-len-text-clause-ascii
returns-then-len-text-clause-ascii c =
    goes_printable c.args.style.is_quoted c.args.text.now c.going_within-len.result c.going_within-len.result (omega arith) c.going_within-len.ensures.goes

pub returns-clause-ascii : goal.returns-clause-ascii
returns-clause-ascii c =
    goes_printable c.args.style.is_quoted c.args.text.now c.blank_before.result c.going_within-len.result c.blank_before.ensures.within c.going_within-len.ensures.goes

pub returns-then-len-text-clause-run : goal.returns-then-len-text-clause-run
returns-then-len-text-clause-run c = λ some fonts roman.
    let text = c.args.text.now in
    let n = c.going_within-len.result in
    let goes = c.going_within-len.ensures in
    let end : get_or text n 32 ≡ 32 = elim c.then-len-text.branch [
      | then-len-text-via-then-len-text w ↦ get_or_past text n 32 (omega arith)
      | then-len-text-via-else-len-text+then-text-len-eq32 w ↦ get_or_default text n 32 0 (omega arith) ∙ w.if-text-len-eq32.true
    ] in
    run_reads c.args.style fonts text n c.requires.literal roman c.requires.word some goes.within end goes.goes

pub returns-clause-run : goal.returns-clause-run
returns-clause-run c = λ some fonts roman.
    let text = c.args.text.now in
    let n = c.blank_before.result in
    let before = c.blank_before.ensures in
    run_reads c.args.style fonts text n c.requires.literal roman c.requires.word some (omega arith) (get_or_default text n 32 0 (omega arith) ∙ before.blank some)
    (λ k low high. c.going_within-len.ensures.goes k low (omega (arith, high, before.within)))
