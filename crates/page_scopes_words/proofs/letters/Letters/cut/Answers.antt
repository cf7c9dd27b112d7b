use Rattle.std.proofs.Common.{◌≤◌, List, length, ap, arith}
use Rattle.page_core_base.specs.declared.cells.Cell.{Cell}
use Rattle.page_scopes_words.proofs.RunEndLemmas.{letters_len, printable_cut}
use Rattle.page_scopes_words.proofs.letters.Letters.cut.Goals as goal

pub invariant_of-self : goal.invariant_of-self
invariant_of-self c =
    let p = c.self.inside in
    let i = c.self.invariant in
    let all = letters_len p.text p.fonts p.len (omega (arith, i)) (omega (arith, i)) in
    let view = ap (λ (l : List Cell). length l) c.self.view_is in
    let fewer : c.args.len ≤ p.len = omega (arith, all, view, c.requires) in
    (omega (arith, i, fewer), i.1, i.2, printable_cut c.args.len p.len p.text fewer i.3)
