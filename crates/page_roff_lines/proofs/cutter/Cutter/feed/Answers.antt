use Rattle.std.proofs.Common.{◌-◌, take, sym, ap, ◌∙◌}
use Rattle.page_roff_lines.specs.laws.Cutting.{Point, point_after, lines_within}
use Rattle.page_roff_lines.proofs.PointLemmas.{open_point, free_point, fed, fed-held}
use Rattle.page_roff_lines.proofs.LineAgreement.{fed-of_page}
use Rattle.page_roff_lines.proofs.cutter.Cutter.feed.Goals as goal

pub returns-clause-point : goal.returns-clause-point
returns-clause-point c =
    let point = free_point c.args.self.now c.self.inside.line c.self.inside.encoding c.self.inside.ready _ c.self.view_is c.requires.free in
    let r = c.read-consumed in
    let facts = fed (open_point c.self.inside.encoding c.self.inside.line) c.args.chunk.now r.result.0 r.result.1 r.new.self
    r.ensures.within r.ensures.after r.ensures.lines r.ensures.before r.ensures.whole in
    facts.0 ∙ ap (λ (p : Point). point_after p (take r.result.0 c.args.chunk.now)) (sym point)

pub returns-clause-lines : goal.returns-clause-lines
returns-clause-lines c =
    let point = free_point c.args.self.now c.self.inside.line c.self.inside.encoding c.self.inside.ready _ c.self.view_is c.requires.free in
    let r = c.read-consumed in
    let facts = fed (open_point c.self.inside.encoding c.self.inside.line) c.args.chunk.now r.result.0 r.result.1 r.new.self
    r.ensures.within r.ensures.after r.ensures.lines r.ensures.before r.ensures.whole in
    ap (λ (p : Point). lines_within p (take r.result.0 c.args.chunk.now)) point ∙ facts.1

pub returns-clause-before : goal.returns-clause-before
returns-clause-before c = λ whole.
    let point = free_point c.args.self.now c.self.inside.line c.self.inside.encoding c.self.inside.ready _ c.self.view_is c.requires.free in
    let r = c.read-consumed in
    let facts = fed (open_point c.self.inside.encoding c.self.inside.line) c.args.chunk.now r.result.0 r.result.1 r.new.self
    r.ensures.within r.ensures.after r.ensures.lines r.ensures.before r.ensures.whole in
    ap (λ (p : Point). lines_within p (take (r.result.0 - 1) c.args.chunk.now)) point ∙ facts.2 whole

pub returns-clause-of_page : goal.returns-clause-of_page
returns-clause-of_page c =
    fed-of_page c.args.self.now.point _ (take c.read-consumed.result.0 c.args.chunk.now) _ (returns-clause-point c) (returns-clause-lines c)

pub returns-clause-held : goal.returns-clause-held
returns-clause-held c = fed-held c.args.self.now.point _ (take c.read-consumed.result.0 c.args.chunk.now) (returns-clause-point c)
