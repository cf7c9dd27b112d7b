use Rattle.std.proofs.Common.{◌<◌, ◌∙◌, arith}
use Rattle.std.proofs.lemmas.Bool.Decides.{nat_tests}
use Rattle.page_scopes_words.proofs.RunEndLemmas.{rest_joined, rest_printable}
use Rattle.page_scopes_words.proofs.letters.Letters.give.Goals as goal

pub give_words-requires-clause-ascii : goal.give_words-requires-clause-ascii
give_words-requires-clause-ascii g c =
    let p = c.self.inside in
    let some : 0 < p.len = grind (arith, nat_tests, c.if-self-eq0.false) in
    rest_printable p.len p.text some c.self.invariant.3

pub returns : goal.returns
returns g c = λ words are e.
    let p = c.self.inside in
    let some : 0 < p.len = grind (arith, nat_tests, c.if-self-eq0.false) in
    c.give_words.ensures words are (rest_joined p.text p.fonts p.len words some (c.self.view_is ∙ e))
