use Rattle.std.proofs.Common.{length, w32, ap, ◌∙◌, sym, rules, FitsSigned}
use Rattle.std.proofs.lemmas.Int.{to_z-of_z}
use Rattle.page_scopes_tree.proofs.RunLemmas.{but_outside, margin_by_number}
use Rattle.page_scopes_tree.proofs.ends.up_to_margin.Goals as goal

pub returns-in-Some : goal.returns-in-Some
returns-in-Some g c =
    let fits : FitsSigned w32 c.args.number = search rules in
    let same = to_z-of_z w32 c.args.number fits in
    margin_by_number c.args.scopes.now c.args.number c.find_margin_of.result c.saturating_sub.result
    (rw same at c.if-number-lt1.false) (rw same at c.find_margin_of.ensures)
    (c.saturating_sub.ensures ∙ sym (ap (λ found. but_outside found (length c.args.scopes.now)) c.in-Some.is))

pub returns-in-None : goal.returns-in-None
returns-in-None g c =
    let fits : FitsSigned w32 c.args.number = search rules in
    let same = to_z-of_z w32 c.args.number fits in
    margin_by_number c.args.scopes.now c.args.number c.find_margin_of.result 0
    (rw same at c.if-number-lt1.false) (rw same at c.find_margin_of.ensures)
    (sym (ap (λ found. but_outside found (length c.args.scopes.now)) c.in-None.is))
