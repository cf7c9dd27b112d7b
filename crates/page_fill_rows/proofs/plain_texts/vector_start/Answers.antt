use Rattle.std.proofs.Common.{eqb, take, w8, arith}
use Rattle.std.proofs.lemmas.List.{length-take-le}
use Rattle.std.proofs.lemmas.Simd.{bitmask_splat}
use Rattle.page_fill_rows.proofs.GroupLemmas.{front-start, start-within}
use Rattle.page_fill_rows.proofs.plain_texts.vector_start.Goals as goal

pub returns : goal.returns
returns c =
    let v = c.args.bytes in
    let long = c.fits-bytes.0 in
    let sum = front-start v c.args.count long c.requires in
    let within = start-within (take c.args.count v) in
    let len = length-take-le c.args.count v (omega (arith, long, c.requires)) in
    rw (bitmask_splat w8 eqb v 16 32 long (omega arith)) (omega (arith, sum, within, len))
