use Rattle.std.proofs.Common.{refl}
use Rattle.mandoc_command.specs.Line.{searches_of}
use Rattle.mandoc_programs.specs.Searches.{asked_by}
use Rattle.mandoc_programs.proofs.AsRows.{as_rows}
use Rattle.mandoc_programs.proofs.searching.print_rows.Goals as goal

pub returns-clause-ran : goal.returns-clause-ran
returns-clause-ran g c =
    let given = c.give_rows.ensures.searches in
    let asked = asked_by (searches_of c.args.asked.now) in
    let left = (g.I.Input.state c.give_rows.new.index).remaining in
    let l = as_rows g.W.Target.contents asked.show c.args.out.now c.give_rows.new.out asked given.0 left c.give_rows.result given.2 in
    (record { bytes = given.0; rows = l.0; left = left; end = c.give_rows.result }, l.2, given.1, refl, l.1)
