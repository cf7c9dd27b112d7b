use Rattle.std.proofs.Common.{◌≤◌, arith, length}
use Rattle.std.proofs.lemmas.Bool.Decides.{nat_tests}
use Rattle.page_scopes_text.proofs.PartedLemmas.{no_later, no_parts}
use Rattle.page_scopes_text.proofs.parts.give_parts.Goals as goal

pub returns-then-is_empty : goal.returns-then-is_empty
returns-then-is_empty g c = λ plan rest h.
    let none : length c.args.bytes.now ≤ 0 = grind (arith, nat_tests) in
    rw (no_parts c.args.font c.args.place c.args.bytes.now none) at h

pub returns-else-not-is_empty : goal.returns-else-not-is_empty
returns-else-not-is_empty g c = λ plan rest h.
    let w = c.give_first-rest in
    let none : length w.result.now ≤ 0 = grind (arith, nat_tests) in
    rw (no_later c.args.font c.args.place w.result.now none) at (w.ensures.came plan rest h)
