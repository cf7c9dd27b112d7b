use Rattle.page_core_base.specs.declared.faults.Fault.TheVariants.{Failed}
use Rattle.page_core_base.proofs.pieces.PieceSink.take_kept.Goals as goal

-- it takes none of them
pub returns-clause-takes : goal.returns-clause-takes
returns-clause-takes g c = λ pieces are cells. (g.met.Self.PieceSink.items Failed).none c.args.self.now
