use Rattle.std.proofs.Common.{inl, inr, refl}
use Rattle.page_core_streams.specs.laws.Views.{Grows-nil}
use Rattle.mandoc_formats.proofs.AsLists.{caused_so, never}
use Rattle.mandoc_formats.proofs.Turns.{plain_out}
use Rattle.mandoc_formats.proofs.formatting.run_into.Goals as goal

pub returns-in-Lint-clause-ran : goal.returns-in-Lint-clause-ran
returns-in-Lint-clause-ran g c =
    let r = c.run_over.ensures.ran in
    (r.0, r.1, r.2, r.3, rw c.in-Lint.is r.5, rw c.in-Lint.is (Grows-nil (g.V.Target.contents c.args.err.now)))

pub returns-in_default-clause-ran : goal.returns-in_default-clause-ran
returns-in_default-clause-ran g c =
    let r = c.run_over-in_default.ensures.ran in
    let plain = plain_out r.0 c.args.settings.now.output c.in_default.not-Lint in
    (r.0, r.1, r.2, r.3, rw plain.0 r.4, rw plain.1 r.5)

pub returns-in-Lint-clause-cause : goal.returns-in-Lint-clause-cause
returns-in-Lint-clause-cause g c =
    caused_so _ _ (λ h k. h (k.0, refl, k.1)) (λ h k. h (k.0, refl, k.1)) (λ h k. elim (h (k.0, refl, k.1)) [ inl n ↦ never _ n | inr w ↦ inl w ])
    c.run_over.result c.run_over.ensures.cause
