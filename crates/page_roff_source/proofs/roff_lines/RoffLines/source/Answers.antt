use Rattle.std.proofs.Common.{[], ap, ◌∙◌}
use Rattle.page_core_base.specs.laws.Views.{line_view}
use Rattle.page_roff_source.specs.machine.RoffLines.{LinesState, run_begun}
use Rattle.page_roff_source.proofs.RoffLineLemmas.{none_in, few_in, begin_room, begin_edge, begin_invariant, keep_edge, keep_invariant}
use Rattle.page_roff_source.proofs.roff_lines.RoffLines.source.Goals as goal

pub begin-requires-clause-skips : goal.begin-requires-clause-skips
begin-requires-clause-skips c =
    let a = c.self.inside in
    (begin_room a.machine a.source a.remaining c.self.invariant (none_in a.machine a.source a.remaining _ c.self.view_is c.requires.idle)).1

pub begin-requires-clause-count : goal.begin-requires-clause-count
begin-requires-clause-count c =
    let a = c.self.inside in
    (begin_room a.machine a.source a.remaining c.self.invariant (none_in a.machine a.source a.remaining _ c.self.view_is c.requires.idle)).0

pub invariant_of-self : goal.invariant_of-self
invariant_of-self c =
    let a = c.self.inside in
    keep_invariant a.machine c.begin.new.self c.keep.new.self a.source a.remaining (line_view c.in-Some.taken) c.args.line.now c.args.number
    c.self.invariant (none_in a.machine a.source a.remaining _ c.self.view_is c.requires.idle) c.in-Some.ensures c.keep.ensures
    (few_in a.machine a.source a.remaining _ c.self.view_is c.requires.count) c.requires.line.bounded

pub returns-in-Some : goal.returns-in-Some
returns-in-Some c =
    let a = c.self.inside in
    keep_edge a.machine c.begin.new.self c.keep.new.self a.source a.remaining (line_view c.in-Some.taken) c.args.line.now c.args.number
    c.self.invariant (none_in a.machine a.source a.remaining _ c.self.view_is c.requires.idle) c.in-Some.ensures c.keep.ensures
    ∙ ap (λ (r : LinesState). run_begun r.edge (record { text = c.args.line.now; number = c.args.number; notes = [] })) c.self.view_is

pub invariant_of-self-in-None : goal.invariant_of-self-in-None
invariant_of-self-in-None c =
    let a = c.self.inside in
    begin_invariant a.machine c.begin.new.self a.source a.remaining c.args.line.now c.args.number c.self.invariant
    (none_in a.machine a.source a.remaining _ c.self.view_is c.requires.idle) c.in-None.ensures
    (few_in a.machine a.source a.remaining _ c.self.view_is c.requires.count) c.requires.line.bounded

pub returns-in-None : goal.returns-in-None
returns-in-None c =
    let a = c.self.inside in
    begin_edge a.machine c.begin.new.self a.source a.remaining c.args.line.now c.args.number c.self.invariant
    (none_in a.machine a.source a.remaining _ c.self.view_is c.requires.idle) c.in-None.ensures
    ∙ ap (λ (r : LinesState). run_begun r.edge (record { text = c.args.line.now; number = c.args.number; notes = [] })) c.self.view_is
