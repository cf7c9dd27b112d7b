use Rattle.page_engine.specs.Edges.{start}
use Rattle.page_engine.specs.Page.{edge}
use Rattle.page_laws.proofs.ShownPages.{start-shows, settled-shows, page-shows, row-text}
use Rattle.page_laws.proofs.shown.rows_law.Goals as goal

pub returns-clause-page : goal.returns-clause-page
returns-clause-page c = λ settings lines. page-shows (start settings) lines (start-shows settings)

pub returns-clause-settled : goal.returns-clause-settled
returns-clause-settled c = λ settings above below.
    (settled-shows (edge (start settings) above) below (settled-shows (start settings) above (start-shows settings)).1).0

pub returns-clause-bytes : goal.returns-clause-bytes
returns-clause-bytes c = row-text
