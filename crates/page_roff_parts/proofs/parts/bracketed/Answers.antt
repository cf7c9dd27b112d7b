use Rattle.std.proofs.Common.{ap, sym, ◌∙◌, Some}
use Rattle.page_roff_parts.proofs.BracketLemmas.{lacking, none_lacks, bracket_at}
use Rattle.page_roff_parts.proofs.parts.bracketed.Goals as goal

pub returns-then-is_unclosed-clause-cut : goal.returns-then-is_unclosed-clause-cut
returns-then-is_unclosed-clause-cut c = sym (lacking c.args.text.now (rw c.if-is_unclosed.true at c.requires))

pub returns-in-None-clause-cut : goal.returns-in-None-clause-cut
returns-in-None-clause-cut c = sym (lacking c.args.text.now (none_lacks c.args.text.now c.in-None.ensures))

pub returns-in-None-clause-known : goal.returns-in-None-clause-known
returns-in-None-clause-known c = none_lacks c.args.text.now c.in-None.ensures

pub returns-in-Some-clause-cut : goal.returns-in-Some-clause-cut
returns-in-Some-clause-cut c =
    ap (λ s. Some s) c.cut_at.ensures ∙ sym (bracket_at c.args.text.now c.in-Some.place c.in-Some.ensures)
