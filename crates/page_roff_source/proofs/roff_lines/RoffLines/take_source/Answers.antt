use Rattle.std.proofs.Common.{[], ◌+◌, ap, subst, ◌∙◌, option_map}
use Rattle.page_core_base.specs.laws.Views.{line_view}
use Rattle.page_roff_source.specs.machine.RoffLines.{edge_of, LinesState, TakesSource, run_begun}
use Rattle.page_roff_source.specs.Runs.{SourceLine}
use Rattle.page_roff_source.proofs.RoffLineLemmas.{none_in, few_in, begin_room, begin_edge, begin_invariant, none_begins, none_takes, lend_takes, lend_text, lend_invariant}
use Rattle.page_roff_source.proofs.roff_lines.RoffLines.take_source.Goals as goal

pub begin-taken-requires-clause-skips : goal.begin-taken-requires-clause-skips
begin-taken-requires-clause-skips c =
    let a = c.self.inside in
    (begin_room a.machine a.source a.remaining c.self.invariant (none_in a.machine a.source a.remaining _ c.self.view_is c.requires.idle)).1

pub begin-taken-requires-clause-count : goal.begin-taken-requires-clause-count
begin-taken-requires-clause-count c =
    let a = c.self.inside in
    (begin_room a.machine a.source a.remaining c.self.invariant (none_in a.machine a.source a.remaining _ c.self.view_is c.requires.idle)).0

pub invariant_of-self : goal.invariant_of-self
invariant_of-self c =
    let a = c.self.inside in
    let none = rw c.if-is_none.true at c.is_none.ensures in
    begin_invariant a.machine c.begin-taken.new.self a.source a.remaining c.args.line.now c.args.number c.self.invariant
    (none_in a.machine a.source a.remaining _ c.self.view_is c.requires.idle)
    (none_begins a.machine c.begin-taken.new.self c.begin-taken.result c.args.line.now c.args.number none c.begin-taken.ensures)
    (few_in a.machine a.source a.remaining _ c.self.view_is c.requires.count) c.requires.line.bounded

pub returns-then-is_none-clause-takes : goal.returns-then-is_none-clause-takes
returns-then-is_none-clause-takes c =
    let a = c.self.inside in
    let line : SourceLine = record { text = c.args.line.now; number = c.args.number; notes = [] } in
    let none = rw c.if-is_none.true at c.is_none.ensures in
    none_takes c.begin-taken.result line _ _ none
    (begin_edge a.machine c.begin-taken.new.self a.source a.remaining c.args.line.now c.args.number c.self.invariant
    (none_in a.machine a.source a.remaining _ c.self.view_is c.requires.idle)
    (none_begins a.machine c.begin-taken.new.self c.begin-taken.result c.args.line.now c.args.number none c.begin-taken.ensures)
    ∙ ap (λ (r : LinesState). run_begun r.edge line) c.self.view_is)

pub invariant_of-self-else-is_none : goal.invariant_of-self-else-is_none
invariant_of-self-else-is_none c =
    let a = c.self.inside in
    lend_invariant a.machine c.begin-taken.new.self a.source a.remaining c.begin-taken.result c.args.line.now c.args.number c.self.invariant
    (none_in a.machine a.source a.remaining _ c.self.view_is c.requires.idle) (rw c.if-is_none.false at c.is_none.ensures) c.begin-taken.ensures
    (few_in a.machine a.source a.remaining _ c.self.view_is c.requires.count) c.requires.line.bounded

pub returns-else-is_none-clause-takes : goal.returns-else-is_none-clause-takes
returns-else-is_none-clause-takes c =
    let a = c.self.inside in
    let line : SourceLine = record { text = c.args.line.now; number = c.args.number; notes = [] } in
    let taken = c.begin-taken.result in
    let new = edge_of c.begin-taken.new.self (a.source + 1) a.remaining in
    subst (λ (r : LinesState). TakesSource (option_map line_view taken) line r.edge new) c.self.view_is
    (lend_takes a.machine c.begin-taken.new.self a.source a.remaining taken c.args.line.now c.args.number c.self.invariant
    (none_in a.machine a.source a.remaining _ c.self.view_is c.requires.idle) (rw c.if-is_none.false at c.is_none.ensures) c.begin-taken.ensures)

pub returns-else-is_none-clause-text : goal.returns-else-is_none-clause-text
returns-else-is_none-clause-text c =
    lend_text c.self.inside.machine c.begin-taken.new.self c.begin-taken.result c.args.line.now c.args.number
    (rw c.if-is_none.false at c.is_none.ensures) c.begin-taken.ensures
