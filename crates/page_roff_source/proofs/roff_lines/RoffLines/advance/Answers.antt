use Rattle.page_roff_source.proofs.RoffLineLemmas.{advance_at, line_invariant, line_runs_on, runs_on, told_invariant, told_runs_on}
use Rattle.page_roff_source.proofs.roff_lines.RoffLines.advance.Goals as goal

pub invariant_of-self : goal.invariant_of-self
invariant_of-self g c =
    let a = c.self.inside in
    told_invariant a.machine a.source a.remaining c.self.invariant c.in-End.is

pub returns-in-End : goal.returns-in-End
returns-in-End g c =
    let a = c.self.inside in
    told_runs_on g.O.NoteOut.left a.machine a.source a.remaining c.args.self.now c.args.out.now c.in-End.is c.self.view_is

pub invariant_of-self-in-Line : goal.invariant_of-self-in-Line
invariant_of-self-in-Line g c =
    let a = c.self.inside in
    line_invariant a.machine a.source a.remaining c.self.invariant c.in-Line.is

pub returns-in-Line : goal.returns-in-Line
returns-in-Line g c =
    let a = c.self.inside in
    line_runs_on g.O.NoteOut.left a.machine a.source a.remaining c.args.self.now c.args.out.now c.self.invariant c.in-Line.is c.self.view_is

pub invariant_of-self-in-Run : goal.invariant_of-self-in-Run
invariant_of-self-in-Run g c =
    let a = c.self.inside in
    rw c.run_if-self-inside.ensures
    (advance_at g.O.NoteOut.left a.machine c.advance-is_taken.new.self a.source a.remaining c.args.out.now c.advance-is_taken.new.out
    c.advance-is_taken.result c.self.invariant c.in-Run.is c.advance-is_taken.ensures)

pub returns-in-Run : goal.returns-in-Run
returns-in-Run g c =
    let a = c.self.inside in
    rw c.run_if-self-inside.ensures
    (runs_on g.O.NoteOut.left a.machine c.advance-is_taken.new.self a.source a.remaining c.args.self.now c.args.out.now c.advance-is_taken.new.out
    c.advance-is_taken.result c.self.invariant c.in-Run.is c.self.view_is c.advance-is_taken.ensures)
