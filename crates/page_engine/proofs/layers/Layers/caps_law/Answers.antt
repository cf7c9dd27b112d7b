use Rattle.page_roff_source.specs.laws.Views.{RoffFits}
use Rattle.page_engine_lines.specs.laws.Views.{BodyFits}
use Rattle.page_fill.specs.laws.Views.{FillFits}
use Rattle.page_engine.proofs.layers.Layers.caps_law.Goals as goal

pub returns : goal.returns
returns c = λ e h r.
    let fill : FillFits e.fill = rw h.filled at c.caps_law.ensures in
    let roff : RoffFits e.lines.roff = rw h.lines at c.caps_law-2.ensures.roff in
    let body : BodyFits e.lines.body = rw h.lines at c.caps_law-2.ensures.body in
    record { roff = roff; body = body; fill = fill; row = r.row; word = r.word }
