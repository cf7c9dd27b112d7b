use Rattle.page_roff_names.proofs.Kept.{texts_kept, store_texts, renamed_kept}
use Rattle.page_roff_names.proofs.names.Names.rename.Goals as goal

pub invariant_of-self : goal.invariant_of-self
invariant_of-self c =
    let k = texts_kept _ _ _ c.self.invariant.0 c.others.ensures in
    (store_texts _ _ _ _ c.self.invariant.0 c.others.ensures (renamed_kept _ _ _ _ _ c.rename.result k c.rename.ensures), c.self.invariant.1)
