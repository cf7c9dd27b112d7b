use Rattle.page_scopes_phrases.proofs.NameLemmas.{span-ahead}
use Rattle.page_scopes_phrases.proofs.cells.blanks_before_tab.Goals as goal

pub returns-then-text-blanks-eq9-clause-value : goal.returns-then-text-blanks-eq9-clause-value
returns-then-text-blanks-eq9-clause-value c = λ quoted.
    span-ahead quoted c.args.text.now c.blank_len-blanks.result c.blank_len-blanks.ensures.value c.if-blanks-text.true c.if-text-blanks-eq9.true
