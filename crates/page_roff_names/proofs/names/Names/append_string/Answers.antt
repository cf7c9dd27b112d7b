use Rattle.std.proofs.Common.{◌++◌, ◌∙◌}
use Rattle.page_roff_names.specs.declared.rows.EntryKind.TheVariants.{String}
use Rattle.page_roff_names.specs.Names.{definition, string_of}
use Rattle.page_roff_names.proofs.Kept.{texts_kept, store_texts, settled_kept, appended}
use Rattle.page_roff_names.proofs.names.Names.append_string.Goals as goal

pub invariant_of-self : goal.invariant_of-self
invariant_of-self c =
    let k = texts_kept _ _ _ c.self.invariant.0 c.others.ensures in
    (store_texts _ _ _ _ c.self.invariant.0 c.others.ensures (settled_kept _ _ (definition String (c.copy.new.scratch.items ++ c.args.more.now)) _ _ _ _ k k c.settle_longer.ensures.settles), c.settle_longer.ensures.scratch)

pub returns : goal.returns
returns c = appended String (string_of c.args.name.now) _ _ _ _ _ _ _ _ c.settle_longer.result c.self.view_is c.others.ensures (c.copy.ensures.items ∙ c.string_so_far.ensures.is) c.settle_longer.ensures.settles
