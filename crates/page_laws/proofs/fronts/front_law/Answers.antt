use Rattle.std.proofs.Common.{ap}
use Rattle.page_core_base.specs.Rows.{Laid}
use Rattle.page_engine.specs.Edges.{Edge}
use Rattle.page_engine.specs.Page.{settled, edge, page}
use Rattle.page_laws.proofs.fronts.front_law.Goals as goal

pub returns-clause-settled : goal.returns-clause-settled
returns-clause-settled c = λ e above below r.
    let f = c.cut_law.ensures.settled e above below r in
    let more = settled (edge e above) below in record {
      rows = record { rest = more.rows; parts = ap (λ (l : Laid Edge). l.rows) f };
      notes = record { rest = more.notes; parts = ap (λ (l : Laid Edge). l.notes) f };
    }

pub returns-clause-page : goal.returns-clause-page
returns-clause-page c = λ e above below r.
    let f = c.cut_law.ensures.page e above below r in
    let more = page (edge e above) below in record {
      rows = record { rest = more.rows; parts = ap (λ (l : Laid Edge). l.rows) f };
      notes = record { rest = more.notes; parts = ap (λ (l : Laid Edge). l.notes) f };
    }
