use Rattle.std.proofs.Common.{refl}
use Rattle.page_roff_parts.proofs.VerbatimLemmas.{verbatim_all, verbatim_free}
use Rattle.page_roff_parts.proofs.verbatim.is_verbatim.Goals as goal

pub returns-then-copy : goal.returns-then-copy
returns-then-copy c = λ h. verbatim_all c.args.copy c.args.text.now c.memchr.result c.memchr.ensures (rw (c.is_none.ensures, h) refl)

pub returns-else-copy : goal.returns-else-copy
returns-else-copy c = λ h. rw c.if-copy.false (verbatim_free c.args.text.now (c.is_free.ensures h))
