use Rattle.std.proofs.Common.{◌≡◌, ◌≢◌, ◌<◌, true, take, arith}
use Rattle.page_core_numbers.specs.machine.Signs.{are_plain}
use Rattle.page_core_numbers.proofs.ExpressionLemmas.{past-front, past-character, front-of_plain, plain-some}
use Rattle.page_core_numbers.proofs.text_columns.front_columns.Goals as goal

pub range_from-requires-in-32-to-126 : goal.range_from-requires-in-32-to-126
range_from-requires-in-32-to-126 c =
    let n = c.plain_len-len.result in
    let plain : are_plain (take n c.args.text.now) ≡ true = rw c.as_bytes-in-32-to-126.ensures.value at c.plain_len-len.ensures.plain in
    λ some. (front-of_plain c.args.output c.args.text.now n c.utf8.text some (omega arith) plain).whole_characters

pub returns-in-32-to-126 : goal.returns-in-32-to-126
returns-in-32-to-126 c =
    let n = c.plain_len-len.result in
    let plain : are_plain (take n c.args.text.now) ≡ true = rw c.as_bytes-in-32-to-126.ensures.value at c.plain_len-len.ensures.plain in
    let other : c.args.first ≢ 92 = omega arith in
    let some : 0 < n = plain-some c.args.text.now c.args.after.now c.args.first n c.requires.first (omega arith) (omega arith) other (rw c.as_bytes-in-32-to-126.ensures.value at c.plain_len-len.ensures.all) in
    past-front c.args.output c.args.text.now n n c.range_from-in-32-to-126.result.now (front-of_plain c.args.output c.args.text.now n c.utf8.text some (omega arith) plain) c.range_from-in-32-to-126.ensures.value

pub returns-in_default : goal.returns-in_default
returns-in_default c =
    past-character c.args.output c.args.text.now c.args.after.now c.args.first c.character_columns.result c.utf8.text c.requires.first (omega arith) (omega arith) c.character_columns.ensures.value
