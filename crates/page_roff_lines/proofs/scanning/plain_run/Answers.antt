use Rattle.std.proofs.Common.{◌≡◌, ◌+◌, ◌-◌, false, slice_index, inl, inr, ap, subst, ◌∙◌, arith}
use Rattle.std.proofs.lemmas.Bool.{cases_lt}
use Rattle.std.proofs.lemmas.List.{get_or-drop}
use Rattle.std.proofs.lemmas.List.Sums.{prefix_len_passes}
use Rattle.page_roff_decoding.specs.machine.Fronts.{is_text}
use Rattle.page_roff_decoding.proofs.ScanLemmas.{rest_of, text-printable}
use Rattle.page_roff_lines.specs.declared.Mode.TheVariants.{Plain}
use Rattle.page_roff_lines.specs.machine.Open.{ends_run}
use Rattle.page_roff_lines.proofs.LineAgreement.{text-run}
use Rattle.page_roff_lines.proofs.scanning.plain_run.Goals as goal

pub returns-then-len-chunk-clause-run : goal.returns-then-len-chunk-clause-run
returns-then-len-chunk-clause-run c = λ k below.
    text-run (slice_index c.args.chunk.now k) (prefix_len_passes is_text c.args.chunk.now k 0 (omega (arith, c.text_len-len.ensures.value)))

pub returns-then-len-chunk-clause-printable : goal.returns-then-len-chunk-clause-printable
returns-then-len-chunk-clause-printable c = λ _. text-printable c.args.chunk.now c.text_len-len.result (omega (arith, c.text_len-len.ensures.value))

pub returns-clause-run : goal.returns-clause-run
returns-clause-run c = λ k below.
    let xs = c.args.chunk.now in
    let n = c.text_len-len.result in
    let rest = rest_of xs n in
    elim (cases_lt k n) [
      | inl early ↦ text-run (slice_index xs k) (prefix_len_passes is_text xs k 0 (omega (arith, c.text_len-len.ensures.value)))
      | inr late ↦
          let back : n + (k - n) ≡ k = omega arith in
          let run = rw rest at c.run_len.ensures.run in
          subst (λ b. ends_run Plain b ≡ false) (get_or-drop n xs (k - n) 0 ∙ ap (λ i. slice_index xs i) back) (run (k - n) (omega arith))
    ]
