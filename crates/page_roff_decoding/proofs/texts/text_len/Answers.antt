use Rattle.std.proofs.Common.{sym, ap, ◌∙◌, arith}
use lib.Count.{count_trailing_zeros}
use Rattle.page_roff_decoding.specs.machine.Fronts.{is_text, is_stop}
use Rattle.page_roff_decoding.proofs.ScanLemmas.{run_bound, not-not, run_through, run_stops}
use Rattle.page_roff_decoding.proofs.texts.text_len.Goals as goal

pub returns-then-found-ne0-clause-value : goal.returns-then-found-ne0-clause-value
returns-then-found-ne0-clause-value c =
    let found = c.stops-found in
    let run = run_stops is_stop is_text (λ x. not-not (is_text x)) c.args.bytes.now c.loop-at.at 32 (omega arith) (omega arith) (omega (arith, found.ensures)) ∙ ap (count_trailing_zeros 64) (sym found.ensures) in
    omega (arith, run, c.loop-at.invariant.0)

pub loop-at-preserved : goal.loop-at-preserved
loop-at-preserved c =
    let run = run_through is_stop is_text (λ x. not-not (is_text x)) c.args.bytes.now c.loop-at.at 32 (omega arith) (omega (arith, c.stops-found.ensures)) in
    (omega (arith, run, c.loop-at.invariant.0), omega arith)

pub returns-then-found-ne0-clause-within : goal.returns-then-found-ne0-clause-within
returns-then-found-ne0-clause-within c =
    let found = c.stops-found in
    let run = run_stops is_stop is_text (λ x. not-not (is_text x)) c.args.bytes.now c.loop-at.at 32 (omega arith) (omega arith) (omega (arith, found.ensures)) ∙ ap (count_trailing_zeros 64) (sym found.ensures) in
    omega (arith, run, run_bound is_text c.args.bytes.now c.loop-at.at c.loop-at.invariant.1)

pub returns-clause-within : goal.returns-clause-within
returns-clause-within c = omega (arith, run_bound is_text c.args.bytes.now c.loop-at.at c.loop-at.invariant.1)
