use Rattle.std.proofs.Common.{refl}
use Rattle.page_fill.proofs.LetteredPieces.{items-law}
use Rattle.page_fill.proofs.FillingLaw.{cut-law, held-law, end-law}
use Rattle.page_fill.proofs.WordRunLemmas.{fresh-held}
use Rattle.page_fill.proofs.laws.words_law.Goals as goal

pub returns-clause-items : goal.returns-clause-items
returns-clause-items c = items-law

pub returns-clause-cut : goal.returns-clause-cut
returns-clause-cut c = cut-law

pub returns-clause-held : goal.returns-clause-held
returns-clause-held c = held-law

pub returns-clause-end : goal.returns-clause-end
returns-clause-end c = λ e h s. (end-law e h s).1

pub returns-clause-start : goal.returns-clause-start
returns-clause-start c = λ width. (fresh-held width, refl)
