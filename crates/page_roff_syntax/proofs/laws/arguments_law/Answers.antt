use Rattle.page_roff_syntax.proofs.ArgumentLemmas.{after_blanks, one_argument}
use Rattle.page_roff_syntax.proofs.laws.arguments_law.Goals as goal

pub returns-clause-first : goal.returns-clause-first
returns-clause-first c = λ column text some begins. one_argument column text some begins

pub returns-clause-blanks : goal.returns-clause-blanks
returns-clause-blanks c = λ column text. after_blanks column text
