use Rattle.page_fill.proofs.WordLaw.{word-fits, passes-law, word-after_end, word-begins}
use Rattle.page_fill.proofs.laws.word_law.Goals as goal

pub returns-clause-fits : goal.returns-clause-fits
returns-clause-fits c = λ s n cells place. word-fits s n cells place place

pub returns-clause-passes : goal.returns-clause-passes
returns-clause-passes c = λ s n cells place. passes-law s n cells place place

pub returns-clause-blanks_pass : goal.returns-clause-blanks_pass
returns-clause-blanks_pass c = λ s n cell cells place. word-after_end s n cell cells place place

pub returns-clause-first : goal.returns-clause-first
returns-clause-first c = λ s n cell cells place. word-begins s n cell cells place place
