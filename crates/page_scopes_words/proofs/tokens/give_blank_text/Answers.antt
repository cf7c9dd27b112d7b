use Rattle.std.proofs.Common.{◌≡◌, ◌==◌, false, arith}
use Rattle.std.proofs.lemmas.Bool.Decides.{nat_tests}
use Rattle.page_scopes_words.proofs.tokens.give_blank_text.Goals as goal

pub returns-then-count-ne0 : goal.returns-then-count-ne0
returns-then-count-ne0 g c = λ plan rest h.
    let some : (c.args.count == 0) ≡ false = grind (arith, nat_tests) in
    c.give_blanks.ensures plan rest (rw some at h)
