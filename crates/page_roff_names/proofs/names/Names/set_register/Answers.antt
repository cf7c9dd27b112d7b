use Rattle.std.proofs.Common.{[], w32}
use Rattle.std.proofs.lemmas.Int.{to_z-of_z}
use Rattle.page_roff_names.specs.declared.rows.EntryKind.TheVariants.{Register}
use Rattle.page_roff_names.specs.Names.{definition}
use Rattle.page_roff_names.proofs.Kept.{registers_kept, store_registers, settled_kept, registered}
use Rattle.page_roff_names.proofs.names.Names.set_register.Goals as goal

pub invariant_of-self : goal.invariant_of-self
invariant_of-self c =
    let k = registers_kept _ _ _ c.self.invariant.0 c.others.ensures in
    (store_registers _ _ _ _ c.self.invariant.0 c.others.ensures (settled_kept c.others.result c.args.name.now (definition _ []) c.self.inside.registers c.self.inside.registers c.settle.new.row c.settle.result k k c.settle.ensures), c.self.invariant.1)

pub returns : goal.returns
returns c =
    registered _ c.args.name.now (definition (Register c.args.number) []) _ _ _ _ c.settle.result c.self.view_is c.others.ensures
    (rw (to_z-of_z w32 c.args.number c.ranges.number) at c.settle.ensures)
