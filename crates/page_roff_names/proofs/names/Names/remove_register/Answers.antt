use Rattle.page_roff_names.proofs.Kept.{store_without_register}
use Rattle.page_roff_names.proofs.names.Names.remove_register.Goals as goal

pub invariant_of-self : goal.invariant_of-self
invariant_of-self c = (store_without_register _ _ _ _ c.self.invariant.0 c.withdraw.ensures, c.self.invariant.1)
