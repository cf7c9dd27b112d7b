use Rattle.page_roff_syntax.proofs.ArgumentLemmas.{quoted_pair, quoted_last}
use Rattle.page_roff_syntax.proofs.quotes.pair_len.Goals as goal

pub returns-then-at-text-clause-value : goal.returns-then-at-text-clause-value
returns-then-at-text-clause-value c = quoted_pair c.args.text.now c.args.at c.if-at-text.true c.requires.backslash

pub returns-else-at-text-clause-value : goal.returns-else-at-text-clause-value
returns-else-at-text-clause-value c = quoted_last c.args.text.now c.args.at c.requires.at c.if-at-text.false c.requires.backslash
