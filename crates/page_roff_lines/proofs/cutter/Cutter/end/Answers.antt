use Rattle.std.proofs.Common.{sym, ap, ◌∙◌}
use Rattle.page_roff_lines.specs.laws.Cutting.{Point, end_point, line_at}
use Rattle.page_roff_lines.proofs.PointLemmas.{open_point, free_point, end_point-is}
use Rattle.page_roff_lines.proofs.LineAgreement.{ended-of_page}
use Rattle.page_roff_lines.proofs.cutter.Cutter.end.Goals as goal

pub returns-clause-point : goal.returns-clause-point
returns-clause-point c =
    let point = free_point c.args.self.now c.self.inside.line c.self.inside.encoding c.self.inside.ready _ c.self.view_is c.requires in
    (end_point-is (open_point c.self.inside.encoding c.self.inside.line) c.end-self-inside.result c.end-self-inside.new.self c.end-self-inside.ensures.after c.end-self-inside.ensures.line).0
    ∙ ap (λ (p : Point). end_point p) (sym point)

pub returns-clause-line : goal.returns-clause-line
returns-clause-line c =
    (end_point-is (open_point c.self.inside.encoding c.self.inside.line) c.end-self-inside.result c.end-self-inside.new.self c.end-self-inside.ensures.after c.end-self-inside.ensures.line).1

pub returns-clause-of_page : goal.returns-clause-of_page
returns-clause-of_page c = ended-of_page c.args.self.now.point _ (ap (λ p. line_at p) (sym (returns-clause-point c)) ∙ returns-clause-line c)
