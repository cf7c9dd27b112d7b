use Rattle.std.proofs.Common.{◌≡◌, ◌+◌, ◌≤◌, length, arith}
use Rattle.std.proofs.lemmas.Bool.Decides.{nat_tests}
use Rattle.page_roff_heads.proofs.Ahead.{front_uncommented}
use Rattle.page_roff_heads.proofs.conditions.is_uncommented.Goals as goal

pub returns-then-end-text : goal.returns-then-end-text
returns-then-end-text c = λ t.
    let all : c.uncommented_len.result ≡ c.args.len + 3 = grind (arith, nat_tests) in
    let fits : c.args.len + 3 ≤ length c.args.text.now = grind (arith, nat_tests) in
    omega (arith, front_uncommented (c.args.len + 3) c.uncommented_len.result c.args.text.now fits c.uncommented_len.ensures.value all)
