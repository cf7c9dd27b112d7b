use Rattle.std.proofs.Common.{ℕ, refl, arith}
use Rattle.std.proofs.lemmas.Simd.{zip2_splat}
use Rattle.page_core_base.specs.laws.Views.{is_backslash}
use Rattle.page_roff_parts.proofs.VerbatimLemmas.{masked}
use Rattle.page_roff_effects.proofs.free_lines.backslashes.Goals as goal

pub returns : goal.returns
returns c =
    let v = c.args.bytes in
    let long = c.fits-bytes.0 in
    masked _ is_backslash v _ (omega arith) c.fits-bytes.1 (zip2_splat {Y = ℕ} _ v 16 92 long) refl
