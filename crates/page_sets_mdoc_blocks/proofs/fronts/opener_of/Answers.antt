use Rattle.page_sets_mdoc_lines.specs.declared.blocks.BlockMacro.TheVariants as blocks
use Rattle.page_sets_mdoc_blocks.proofs.FrontLemmas.{opens_fit}
use Rattle.page_sets_mdoc_blocks.proofs.fronts.opener_of.Goals as goal

pub returns-in-Display-clause-fits : goal.returns-in-Display-clause-fits
returns-in-Display-clause-fits c = rw c.display_of.ensures (opens_fit blocks.Display c.args.line.now c.len_law.ensures)
