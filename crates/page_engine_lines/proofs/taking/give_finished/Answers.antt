use Rattle.std.proofs.Common.{sym}
use Rattle.page_core_base.specs.laws.Views.{line_view}
use Rattle.page_engine_lines.specs.laws.Views.{decided}
use Rattle.page_engine_lines.proofs.BodySharedLemmas.{plain_gives}
use Rattle.page_engine_lines.proofs.taking.give_finished.Goals as goal

pub returns-in-Some-clause-came : goal.returns-in-Some-clause-came
returns-in-Some-clause-came g c = λ plan rest h.
    let line = line_view c.args.line in
    let is = plain_gives (decided c.args.body.now line).header.set line c.in-Some.plain (sym c.in-Some.ensures) in
    (rw c.decide.ensures at c.give_plain.ensures.came) plan rest (rw is at h)

pub returns-in-Some-clause-after : goal.returns-in-Some-clause-after
returns-in-Some-clause-after g c =
    let line = line_view c.args.line in
    let is = plain_gives (decided c.args.body.now line).header.set line c.in-Some.plain (sym c.in-Some.ensures) in
    rw is (rw c.decide.ensures at c.give_plain.ensures.after)
