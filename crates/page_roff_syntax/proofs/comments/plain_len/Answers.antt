use Rattle.std.proofs.Common.{◌∙◌}
use Rattle.page_roff_syntax.proofs.FormLemmas.{plain_to}
use Rattle.page_roff_syntax.proofs.comments.plain_len.Goals as goal

pub returns-clause-value : goal.returns-clause-value
returns-clause-value c = c.unwrap_or.ensures ∙ plain_to c.args.text.now c.memchr.result c.memchr.ensures
