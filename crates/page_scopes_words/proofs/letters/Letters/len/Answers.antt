use Rattle.std.proofs.Common.{◌≤◌, length, ap, sym, ◌∙◌, arith}
use Rattle.page_scopes_words.proofs.RunEndLemmas.{letters_len}
use Rattle.page_scopes_words.proofs.letters.Letters.len.Goals as goal

pub returns-clause-value : goal.returns-clause-value
returns-clause-value c =
    let p = c.self.inside in
    let within : p.len ≤ length p.text = omega (arith, c.self.invariant) in
    sym (letters_len p.text p.fonts p.len within (omega (arith, c.self.invariant))) ∙ ap (λ l. length l) c.self.view_is
