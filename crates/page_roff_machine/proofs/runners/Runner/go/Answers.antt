use Rattle.std.proofs.Common.{ap}
use Rattle.page_roff_machine.specs.declared.runners.Runner.{Runner}
use Rattle.page_roff_machine.proofs.GoLemmas.{quiet, quiet_product, shifts_region_line, shifts_move}
use Rattle.page_roff_machine.proofs.runners.Runner.go.Goals as goal

pub returns-in-Leaf : goal.returns-in-Leaf
returns-in-Leaf g c =
    rw (c.in-Leaf.is, c.progress_of.ensures) (quiet_product g.O.NoteOut.left c.args.self.now c.pass_leaf.new.self c.args.out.now _ c.in-Leaf.product c.pass_leaf.ensures)

pub returns-in-SourceEnd : goal.returns-in-SourceEnd
returns-in-SourceEnd g c = rw c.in-SourceEnd.is (quiet g.O.NoteOut.left c.args.self.now c.end_source.new.self c.args.out.now _ _ c.end_source.ensures tt)

pub returns-in-RegionLine : goal.returns-in-RegionLine
returns-in-RegionLine g c =
    let new : Runner = record { stack = c.go-in-RegionLine.new.self; doing = c.args.self.now.doing } in
    rw (c.in-RegionLine.is, c.progress_of-in-RegionLine.ensures)
    (quiet_product g.O.NoteOut.left c.args.self.now new c.args.out.now _ c.in-RegionLine.product
    (shifts_region_line c.args.self.now new c.in-RegionLine.product (ap (λ stack. record { stack = stack; doing = c.args.self.now.doing }) c.go-in-RegionLine.ensures) c.requires.setting))

pub returns-in-Move : goal.returns-in-Move
returns-in-Move g c =
    let new : Runner = record { stack = c.go.new.self; doing = c.args.self.now.doing } in
    rw c.in-Move.is
    (quiet g.O.NoteOut.left c.args.self.now new c.args.out.now _ _
    (shifts_move c.args.self.now new c.in-Move.movement (ap (λ stack. record { stack = stack; doing = c.args.self.now.doing }) c.go.ensures) c.requires.setting (rw c.in-Move.is at c.requires.suits)) tt)

pub go-requires : goal.go-requires
go-requires g c = (rw c.in-Move.is at c.requires.suits).0
