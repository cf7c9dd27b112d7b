use Rattle.std.proofs.Common.{ℕ, eqb, cond}
use Rattle.std.proofs.lemmas.Simd.{zip2_of_maps, zip2_splat, zip2_splat_left}
use lib.Bits.{bit_or}
use lib.Dec.{ltb}
use Rattle.page_scopes_words.proofs.RunEndLemmas.{ends_mask}
use Rattle.page_scopes_words.proofs.run_ends.ends.Goals as goal

pub returns : goal.returns
returns c =
    let v = c.args.bytes in
    let w = c.args.next in
    let long = c.fits-bytes.0 in
    let same = c.fits-next.0 in
    let test = λ (a b : ℕ). cond (eqb a b) 255 0 in
    let low = zip2_splat {Y = ℕ} (λ a b. cond (ltb a b) 255 0) v 16 32 long in
    let high = zip2_splat_left {Y = ℕ} (λ a b. cond (ltb a b) 255 0) 126 16 v long in
    let escapes = zip2_of_maps bit_or _ _ v (zip2_splat test v 16 92 long) (zip2_splat test v 16 c.mark.result long) in
    let others = zip2_of_maps bit_or _ _ v (zip2_of_maps bit_or _ _ v low high) escapes in
    ends_mask c.args.quoted c.mark.result v w _ _ _ _ c.mark.ensures long same (zip2_splat test v 16 45 long) others (zip2_splat test v 16 32 long) (zip2_splat test w 16 32 same)
