use Rattle.std.proofs.Common.{ℕ, refl, arith}
use Rattle.std.proofs.lemmas.Simd.{zip2_splat, zip2_of_maps}
use lib.Bits.{bit_or}
use Rattle.page_roff_parts.proofs.VerbatimLemmas.{masked}
use Rattle.page_core_base.specs.laws.Views.{is_key}
use Rattle.page_roff_effects.proofs.free_lines.keys.Goals as goal

pub returns : goal.returns
returns c =
    let v = c.args.bytes in
    let long = c.fits-bytes.0 in
    let comments = zip2_of_maps bit_or _ _ v (zip2_splat {Y = ℕ} _ v 16 34 long) (zip2_splat {Y = ℕ} _ v 16 35 long) in
    let widths = zip2_of_maps bit_or _ _ v (zip2_splat {Y = ℕ} _ v 16 36 long) (zip2_splat {Y = ℕ} _ v 16 119 long) in
    let registers = zip2_of_maps bit_or _ _ v (zip2_splat {Y = ℕ} _ v 16 110 long) widths in
    let strings = zip2_of_maps bit_or _ _ v (zip2_splat {Y = ℕ} _ v 16 42 long) registers in
    let ends = zip2_of_maps bit_or _ _ v (zip2_splat {Y = ℕ} _ v 16 125 long) strings in
    masked _ is_key v _ (omega arith) c.fits-bytes.1 (zip2_of_maps bit_or _ _ v comments ends) refl
