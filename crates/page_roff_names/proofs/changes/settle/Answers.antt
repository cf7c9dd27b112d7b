use Rattle.std.proofs.Common.{◌∙◌, sym, refl, arith}
use Rattle.page_roff_names.specs.Names.{definition}
use Rattle.page_roff_names.proofs.Kept.{within}
use Rattle.page_roff_names.proofs.changes.settle.Goals as goal

pub put_definition-requires-clause-few : goal.put_definition-requires-clause-few
put_definition-requires-clause-few c = let h = within _ _ _ _ (sym (c.passed.ensures (definition c.args.meaning c.args.value.now) refl) ∙ c.in-None.is) in omega (arith, h.names_fit)

pub put_definition-requires-clause-small : goal.put_definition-requires-clause-small
put_definition-requires-clause-small c = let h = within _ _ _ _ (sym (c.passed.ensures (definition c.args.meaning c.args.value.now) refl) ∙ c.in-None.is) in omega (arith, h.bytes_fit)
