use Rattle.std.proofs.Common.{◌≡◌, ◌<◌, ◌==◌, not, eqb, w8, map, sym, ◌∙◌, arith}
use Rattle.std.proofs.lemmas.List.Sums.{prefix_len-le-length}
use Rattle.std.proofs.lemmas.Simd.{bitmask_splat, leading_from_mask_l, trailing_mask_l}
use lib.Lanes.{mask_l}
use Rattle.page_fill_rows.proofs.GroupLemmas.{is_blank}
use Rattle.page_fill_rows.proofs.plain_texts.vector_end.Goals as goal

pub returns-then-blanks-eq0-clause-value : goal.returns-then-blanks-eq0-clause-value
returns-then-blanks-eq0-clause-value c =
    let v = c.args.bytes in
    let long = c.fits-bytes.0 in
    let none : mask_l (map is_blank v) ≡ 0 = sym (bitmask_splat w8 eqb v 16 32 long (omega arith)) ∙ c.if-blanks-eq0.true in
    let all = leading_from_mask_l is_blank v none in
    omega (arith, all, long)

pub returns : goal.returns
returns c =
    let v = c.args.bytes in
    let long = c.fits-bytes.0 in
    let mask = bitmask_splat w8 eqb v 16 32 long (omega arith) in
    let some : 0 < mask_l (map is_blank v) = omega (arith, mask, c.if-blanks-eq0.false) in
    let is = trailing_mask_l is_blank 64 v (omega (arith, long)) some in
    let least = prefix_len-le-length (λ b. not (b == 32)) v in
    record { value = rw mask is; bound = rw mask (omega (arith, is, least, long)) }
