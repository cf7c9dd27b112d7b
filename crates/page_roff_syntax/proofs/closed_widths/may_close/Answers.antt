use Rattle.std.proofs.Common.{sym, ◌∙◌}
use Rattle.std.proofs.lemmas.List.{take_rest}
use Rattle.page_roff_syntax.proofs.ClosedLemmas.{apart, grows_self, lone_width, met_before}
use Rattle.page_roff_syntax.proofs.closed_widths.may_close.Goals as goal

pub returns-then-not-is_noted-clause-met : goal.returns-then-not-is_noted-clause-met
returns-then-not-is_noted-clause-met c =
    let noted = rw (take_rest c.args.text.now c.args.at) at c.is_noted.ensures in
    met_before c.args.met.now c.args.met.now c.args.text.now c.args.at c.requires.met (grows_self c.args.met.now)
    (λ yes _. absurd (apart (sym yes ∙ (sym noted ∙ c.if-not-is_noted.true))))

pub returns-then-is_outside-clause-met : goal.returns-then-is_outside-clause-met
returns-then-is_outside-clause-met c =
    let code = rw (take_rest c.args.text.now c.args.at) at c.code_of-code.ensures in
    met_before c.args.met.now c.meet.new.met c.args.text.now c.args.at c.requires.met c.meet.ensures.grows (λ _ _. rw code at c.meet.ensures.met)

pub returns-then-is_outside-clause-lone : goal.returns-then-is_outside-clause-lone
returns-then-is_outside-clause-lone c = λ h.
    let noted = rw (take_rest c.args.text.now c.args.at) at c.is_noted.ensures in
    let code = rw (take_rest c.args.text.now c.args.at) at c.code_of-code.ensures in
    lone_width c.args.met.now c.args.text.now c.args.at c.requires.within c.requires.met (sym noted ∙ c.if-not-is_noted.false)
    (rw code at (sym c.is_met-may_close.ensures ∙ h))

pub returns-else-is_outside-clause-lone : goal.returns-else-is_outside-clause-lone
returns-else-is_outside-clause-lone c = λ h.
    let noted = rw (take_rest c.args.text.now c.args.at) at c.is_noted.ensures in
    let code = rw (take_rest c.args.text.now c.args.at) at c.code_of-code.ensures in
    lone_width c.args.met.now c.args.text.now c.args.at c.requires.within c.requires.met (sym noted ∙ c.if-not-is_noted.false)
    (rw code at (sym c.is_met-may_close.ensures ∙ h))
