use Rattle.page_roff_syntax.proofs.ArgumentLemmas.{quoted_to, quoted_some}
use Rattle.page_roff_syntax.proofs.quotes.unquoted_len.Goals as goal

pub returns-clause-value : goal.returns-clause-value
returns-clause-value c =
    let text = c.args.text.now in
    rw c.unwrap_or.ensures (quoted_to text c.memchr2.result c.memchr2.ensures)

pub returns-clause-some : goal.returns-clause-some
returns-clause-some c = λ p e f. rw c.unwrap_or.ensures (quoted_some c.args.text.now c.memchr2.result c.memchr2.ensures p e f)
