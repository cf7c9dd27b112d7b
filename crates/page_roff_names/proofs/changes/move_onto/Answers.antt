use Rattle.std.proofs.Common.{◌+◌, ◌≤◌, ◌≡◌, ◌∙◌, subst, sym, arith, length}
use Rattle.page_core_base.specs.declared.limits.TheConstants.{DEFS}
use Rattle.std.specs.List.{insert, remove}
use Rattle.page_roff_names.specs.Names.{size, put}
use Rattle.page_roff_names.specs.laws.Views.{definition_at, value_at}
use Rattle.page_roff_names.proofs.Kept.{moves_onto}
use Rattle.page_roff_names.proofs.changes.move_onto.Goals as goal

pub rename-requires-clause-bytes : goal.rename-requires-clause-bytes
rename-requires-clause-bytes c =
    let m = (moves_onto _ _ _ _ _ _ c.requires.sorted c.requires.i c.requires.place c.requires.found c.place_without-from.ensures c.place_without-to.ensures).small in
    subst (λ es. size (remove es c.place_without-from.result) + (length c.args.name.now + length (value_at es c.place_without-from.result)) ≤ DEFS) (sym c.remove.ensures) (omega (arith, m, c.requires.small))

pub returns : goal.returns
returns c =
    c.rename.ensures
    ∙ subst (λ es. insert (remove es c.place_without-from.result) c.place_without-to.result (c.args.name.now, definition_at es c.place_without-from.result) ≡ put c.args.name.now (definition_at c.args.row.now c.args.i) (remove c.args.row.now c.args.i)) (sym c.remove.ensures)
    (moves_onto _ _ _ _ _ _ c.requires.sorted c.requires.i c.requires.place c.requires.found c.place_without-from.ensures c.place_without-to.ensures).is
