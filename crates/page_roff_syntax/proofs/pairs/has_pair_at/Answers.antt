use Rattle.std.proofs.Common.{ℕ, ◌+◌, ◌≤◌, length, cond, eqb, bit_and, ap₂, arith}
use Rattle.std.specs.Simd.Lanes.{zip2}
use Rattle.std.proofs.lemmas.Simd.{zip2_splat, zip2_of_maps, length-chunk}
use lib.Bits.{bit_or}
use lib.Lanes.{chunk}
use Rattle.page_roff_syntax.proofs.PairLemmas.{no_pairs, no_lanes}
use Rattle.page_roff_syntax.proofs.pairs.has_pair_at.Goals as goal

pub returns : goal.returns
returns c =
    let text = c.args.text.now in
    let at = c.args.at in
    let v = chunk at 16 text in
    let w = chunk (at + 1) 16 text in
    let room : at + 16 ≤ length text = omega (arith, c.requires) in
    let past : at + 1 + 16 ≤ length text = omega (arith, c.requires) in
    let a = zip2_splat {Y = ℕ} (λ a b. cond (eqb a b) 255 0) v 16 92 (length-chunk at 16 text room) in
    let long = length-chunk (at + 1) 16 text past in
    let b = zip2_of_maps bit_or _ _ w (zip2_splat {Y = ℕ} (λ a b. cond (eqb a b) 255 0) w 16 c.args.one long)
    (zip2_splat {Y = ℕ} (λ a b. cond (eqb a b) 255 0) w 16 c.args.other long) in
    let lanes = ap₂ (zip2 bit_and) a b in
    (no_pairs c.args.one c.args.other at text _ c.requires lanes, no_lanes c.args.one c.args.other at text _ c.requires lanes)
