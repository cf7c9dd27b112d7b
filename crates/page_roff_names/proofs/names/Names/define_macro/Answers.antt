use Rattle.page_roff_names.specs.declared.rows.EntryKind.TheVariants.{Macro}
use Rattle.page_roff_names.specs.Names.{definition}
use Rattle.page_roff_names.proofs.Kept.{texts_kept, store_texts, settled_kept}
use Rattle.page_roff_names.proofs.names.Names.define_macro.Goals as goal

pub invariant_of-self : goal.invariant_of-self
invariant_of-self c =
    let k = texts_kept _ _ _ c.self.invariant.0 c.others.ensures in
    (store_texts _ _ _ _ c.self.invariant.0 c.others.ensures (settled_kept _ _ (definition Macro c.args.body.now) _ _ _ _ k k c.settle.ensures), c.self.invariant.1)
