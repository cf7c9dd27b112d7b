use Rattle.std.proofs.Common.{◌++◌, ◌≤◌, ◌∙◌, subst, sym, arith, length, length-append}
use Rattle.page_core_base.specs.declared.limits.TheConstants.{DEFS, NAMES}
use Rattle.page_roff_names.specs.Names.{definition, size, put}
use Rattle.page_roff_names.proofs.Kept.{within}
use Rattle.page_roff_names.proofs.changes.settle_longer.Goals as goal

pub append-requires : goal.append-requires
append-requires c =
    let all = c.args.scratch.now.items ++ c.args.more.now in
    let a = length-append c.args.scratch.now.items c.args.more.now in
    let h = within _ _ _ _ (sym (c.passed.ensures (definition c.args.meaning all) (omega (arith, a, c.len.ensures, c.args.scratch.now.ok.0))) ∙ c.in-None.is) in
    omega (arith, a, h.value_fits, c.args.scratch.now.ok.0, c.requires.scratch.1)

pub put_definition-requires-clause-few : goal.put_definition-requires-clause-few
put_definition-requires-clause-few c =
    let all = c.args.scratch.now.items ++ c.args.more.now in
    let a = length-append c.args.scratch.now.items c.args.more.now in
    let h = within _ _ _ _ (sym (c.passed.ensures (definition c.args.meaning all) (omega (arith, a, c.len.ensures, c.args.scratch.now.ok.0))) ∙ c.in-None.is) in
    subst (λ v. length (put c.args.name.now (definition c.args.meaning v) c.args.row.now) ≤ NAMES) (sym (c.deref.ensures.value ∙ c.append.ensures.items)) (omega (arith, h.names_fit))

pub put_definition-requires-clause-small : goal.put_definition-requires-clause-small
put_definition-requires-clause-small c =
    let all = c.args.scratch.now.items ++ c.args.more.now in
    let a = length-append c.args.scratch.now.items c.args.more.now in
    let h = within _ _ _ _ (sym (c.passed.ensures (definition c.args.meaning all) (omega (arith, a, c.len.ensures, c.args.scratch.now.ok.0))) ∙ c.in-None.is) in
    subst (λ v. size (put c.args.name.now (definition c.args.meaning v) c.args.row.now) ≤ DEFS) (sym (c.deref.ensures.value ∙ c.append.ensures.items)) (omega (arith, h.bytes_fit))
