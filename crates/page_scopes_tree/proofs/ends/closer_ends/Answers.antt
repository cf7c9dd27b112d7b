use Rattle.std.proofs.Common.{◌∙◌, ap, reverse}
use Rattle.page_scopes_labels.specs.declared.labels.Explicit.TheVariants.{Block}
use Rattle.page_scopes_tree.specs.Ends.{up_to_explicit}
use Rattle.page_scopes_tree.specs.laws.Views.{labels}
use Rattle.page_scopes_tree.proofs.ends.closer_ends.Goals as goal

pub returns-in-Target : goal.returns-in-Target
returns-in-Target g c = rw c.in-Target.is c.up_to_explicit.ensures

pub returns-in-Block : goal.returns-in-Block
returns-in-Block g c =
    rw c.in-Block.is (c.up_to_explicit-in-Block.ensures ∙ ap (λ block. up_to_explicit (Block block) (labels (reverse c.args.scopes.now))) c.block.ensures)
