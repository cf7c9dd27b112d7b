use Rattle.std.proofs.Common.{ℕ, cond, eqb, arith}
use Rattle.std.proofs.lemmas.Simd.{zip2_splat, zip2_of_maps}
use lib.Bits.{bit_or}
use Rattle.page_core_escapes.proofs.Unwinding.{stops_mask}
use Rattle.page_core_escapes.proofs.tokens.stops.Goals as goal

pub returns : goal.returns
returns c =
    let v = c.args.bytes in
    let long = c.fits-bytes.0 in
    let white = zip2_of_maps bit_or _ _ v (zip2_splat {Y = ℕ} (λ a b. cond (eqb a b) 255 0) v 16 32 long) (zip2_splat {Y = ℕ} (λ a b. cond (eqb a b) 255 0) v 16 9 long) in
    let others = zip2_of_maps bit_or _ _ v (zip2_splat {Y = ℕ} (λ a b. cond (eqb a b) 255 0) v 16 92 long) (zip2_splat {Y = ℕ} (λ a b. cond (eqb a b) 255 0) v 16 c.mark.result long) in
    stops_mask c.args.quoted c.mark.result c.mark.ensures v _ (omega arith) c.fits-bytes.1 (zip2_of_maps bit_or _ _ v white others)
