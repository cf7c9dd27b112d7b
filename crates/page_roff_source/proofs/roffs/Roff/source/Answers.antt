use Rattle.std.proofs.Common.{ap, refl}
use Rattle.page_roff_source.specs.laws.Views.{RoffState}
use Rattle.page_roff_source.proofs.CountLemmas.{begun_edge}
use Rattle.page_roff_source.proofs.roffs.Roff.source.Goals as goal

pub returns-then-self-clause-edge : goal.returns-then-self-clause-edge
returns-then-self-clause-edge c =
    begun_edge c.self.inside.is_going c.self.inside.lines.edge c.source.new.self.edge c.args.self.now.edge _ refl c.if-self.true
    (ap (λ (s : RoffState). s.edge) c.self.view_is) c.source.ensures
