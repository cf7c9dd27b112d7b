use Rattle.std.proofs.Common.{[], ◌∷◌, sym, ap, subst, ◌∙◌, arith}
use Rattle.page_core_base.specs.Messages.{message_about}
use Rattle.page_core_base.specs.Rows.{noted}
use Rattle.page_core_base.specs.Texts.{unpaired}
use Rattle.page_core_base.proofs.LatchLemmas.{front_again}
use Rattle.page_scopes_words.proofs.tokens.report_part.Goals as goal

pub returns-then-quoted : goal.returns-then-quoted
returns-then-quoted g c = λ plan rest h.
    let kind = c.args.kind in
    let place = c.args.place in
    let shown = ap (message_about kind place) (c.as_slice.ensures.value ∙ c.unpaired_front.ensures) ∙ ap (λ detail. record (message_about kind place []) { detail = detail }) (front_again 64 64 (unpaired c.args.part.now) (omega arith)) in
    c.report.ensures plan rest (subst (λ m. g.O.PieceOut.left plan c.args.out.now (noted m ∷ rest)) (sym shown) (rw c.if-quoted.true at h))
