use Rattle.std.proofs.Common.{ℕ, ◌+◌, ◌-◌, ◌%◌, ltb, cond, bit_and, refl, arith}
use Rattle.std.proofs.lemmas.Simd.{zip2_splat, zip2_of_maps, splat_is_map}
use lib.Bits.{bit_or}
use Rattle.page_roff_decoding.specs.machine.Fronts.{is_stop}
use Rattle.page_roff_decoding.proofs.ScanLemmas.{masked}
use Rattle.page_roff_decoding.proofs.texts.stops.Goals as goal

pub returns : goal.returns
returns c =
    let v = c.args.bytes in
    let long = c.fits-bytes.0 in
    let above = zip2_splat {Y = ℕ} (λ a b. (a + (256 - b)) % 256) v 32 32 long in
    let outside = zip2_of_maps (λ a b. cond (ltb a b) 255 0) _ _ v (splat_is_map v 32 94 long) above in
    let others = zip2_of_maps bit_and _ _ v outside (zip2_splat {Y = ℕ} _ v 32 9 long) in
    masked _ is_stop v _ (omega arith) c.fits-bytes.1 (zip2_of_maps bit_or _ _ v others (zip2_splat {Y = ℕ} _ v 32 92 long)) refl
