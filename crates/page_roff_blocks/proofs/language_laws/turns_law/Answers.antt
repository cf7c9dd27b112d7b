use Rattle.page_roff_blocks.proofs.LedgerLemmas.{more_turns}
use Rattle.page_roff_blocks.proofs.language_laws.turns_law.Goals as goal

pub returns : goal.returns
returns g c = λ e more depth args condition lines s h. more_turns e more depth args condition lines s h
