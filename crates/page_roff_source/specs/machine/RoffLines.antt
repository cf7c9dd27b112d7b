-- A machine: the lines of a page one after another, by what the parts of a source do. That they give what the forest of all lines gives is the law `forest_law`;
-- trust needs no reading of it.
use Rattle.std.specs.Prelude.{false, List, [], ◌++◌, map, ◌≡◌, ℕ, ◌+◌, ◌∷◌, Option, Some, None, ◌*◌, ◌≤◌, ◌^◌, Bool, true}
use Rattle.page_roff_blocks.specs.machine.Steps.{At}
use Rattle.page_roff_values.specs.Values.{units_of}
use Rattle.page_roff_blocks.specs.machine.Languages.{Budgeted, language, run_page_lines, run_page}
use Rattle.page_roff_effects.specs.machine.Acting.{effects}
use Rattle.page_roff_effects.specs.laws.Views.{State}
use Rattle.page_roff_effects.specs.States.{says, numbered, Given, takes}
use Rattle.page_roff_source.specs.Runs.{RoffEdge, SourceLine}
use Rattle.page_core_base.specs.Texts.{TakenLine, IsLine}
use Rattle.page_core_base.specs.Limits.{REREAD, LINE}
use Rattle.page_core_base.specs.Messages.{Message}
use Rattle.page_core_base.specs.laws.Views.{Came}
use Rattle.page_roff_machine.specs.Giving.{notes_before, next_line}
use Rattle.page_roff_machine.specs.machine.Machines.{Machine, output_of, outcome_of, to_come, taken_if}
use Rattle.page_roff_machine.specs.machine.Machines as machine
use Rattle.page_roff_source.specs.declared.roff_lines.Remaining.{Remaining}
use Rattle.page_roff_source.specs.declared.roff_lines.Remaining.TheVariants as remaining
use Rattle.page_roff_source.specs.laws.Views.{given_of, line_taken}

-- What comes before a line: messages are about its number from now on, and those in front of it are given.
abbrev pub head_of : SourceLine → Budgeted State → Budgeted State
head_of line s =
    record s { rest = record { memory = numbered line.number s.rest.memory; out = s.rest.out ++ map says line.notes } }

-- where the page is before its next line, which has a budget of its own
abbrev pub before_lines : RoffEdge → At (Budgeted State)
before_lines e = record {
  place = e.place;
  state = record { left = 0; gave_up = false; taken = e.taken; rest = record { memory = e.memory; out = [] } };
}

-- the forest of all lines, inside what is open
unfoldable pub run_all : RoffEdge → List SourceLine → At (Budgeted State)
run_all e lines = run_page_lines (language (effects (units_of e.output))) (λ line. line.text) head_of lines (before_lines e)

-- ---- A machine: one source line at a time, with a budget of its own. That the lines of a page give what the forest of all of them gives is the law
-- `forest_law`; trust needs no reading of it. Source: roff(7), "LANGUAGE SYNTAX".

-- The lines of a page as they run: what decides the rest; the finished line that was given last; and the body with the arguments of each
-- macro or loop that runs, from the inside out, which say how much is held and decide nothing that comes.
pub record LinesState : Type 0 where
  pub edge : RoffEdge
  pub line : TakenLine
  pub running : List (List ℕ)

-- the line begins where the page is, with a budget of its own
unfoldable pub before_line : RoffEdge → SourceLine → At (Budgeted State)
before_line e line = record {
  place = e.place;
  state = record {
    left = REREAD;
    gave_up = false;
    taken = e.taken;
    rest = record { memory = numbered line.number e.memory; out = [] };
  };
}

-- the line is run, with the macros that it calls and the loop that it ends
unfoldable pub run_line : RoffEdge → SourceLine → At (Budgeted State)
run_line e line = run_page (language (effects (units_of e.output))) (line.text ∷ []) (before_line e line)

-- what it gives after the messages in front: messages, and lines for the set of macros
abbrev pub line_given : RoffEdge → SourceLine → List Given
line_given e line = (run_line e line).state.rest.out

-- where it leaves the page, and what is still to be given
abbrev pub left_at : RoffEdge → At (Budgeted State) → Option (List Given) → RoffEdge
left_at e after to_come = record {
  output = e.output;
  place = after.place;
  memory = after.state.rest.memory;
  source = e.source + 1;
  taken = after.state.taken;
  to_come = to_come;
}

-- a line begins: all that it gives is to come
abbrev pub run_begun : RoffEdge → SourceLine → RoffEdge
run_begun e line = left_at e (run_line e line) (Some (line_given e line))

-- all that it gives was given
abbrev pub line_done : RoffEdge → SourceLine → RoffEdge
line_done e line = left_at e (run_line e line) None

-- a line begins; or it gives itself alone, as this line, and that was given
abbrev pub TakesSource : Option TakenLine → SourceLine → RoffEdge → RoffEdge → Type 0
TakesSource None line old new = new ≡ run_begun old line
TakesSource (Some taken) line old new = (line_given old line ≡ takes taken ∷ []) × (new ≡ line_done old line)

-- ---- A machine: what roff gives of a page's lines, one line after another. That it gives what the forest of all lines gives is the law
-- `forest_law`; trust needs no reading of it.

-- what lines give, each after the messages in front of it
unfoldable pub lines_given : RoffEdge → List SourceLine → List Given
lines_given e [] = []
lines_given e (line ∷ lines) = map says line.notes ++ (line_given e line ++ lines_given (line_done e line) lines)

-- where they leave the page
unfoldable pub lines_done : RoffEdge → List SourceLine → RoffEdge
lines_done e [] = e
lines_done e (line ∷ lines) = lines_done (line_done e line) lines

-- a run that is where an edge does, whatever is left of a budget, and gave this
pub record StandsAt (e : RoffEdge) (given : List Given) (a : At (Budgeted State)) : Type 0 where
  pub place : a.place ≡ e.place
  pub memory : a.state.rest.memory ≡ e.memory
  pub taken : a.state.taken ≡ e.taken
  pub out : a.state.rest.out ≡ given

-- ---- The lines of a page in terms of the machine that runs them: what the code holds, which no public clause cites. Trust needs no reading of it.

-- what is still to be given: nothing, a line that was taken at once, or what the machine runs
abbrev pub given_by : Remaining → Machine → Option (List Given)
given_by remaining.Nothing m = None
given_by remaining.Line m = Some (takes m.actions.line ∷ [])
given_by remaining.End m = Some []
given_by remaining.Run m = Some (to_come m)

-- the machine ran on up to a line, or up to the end
abbrev pub run_if : Bool → Remaining
run_if true = remaining.Run
run_if false = remaining.Nothing

-- where the machine leaves the page, and what is still to be given
abbrev pub edge_of : Machine → ℕ → Remaining → RoffEdge
edge_of m source left = record {
  output = output_of m;
  place = (outcome_of m).place;
  memory = (outcome_of m).state.rest.memory;
  source = source;
  taken = (outcome_of m).state.taken;
  to_come = given_by left m;
}

-- so few lines came that no count is too large
pub record IsCounted (e : RoffEdge) : Type 0 where
  pub source : e.source ≤ 2 ^ 31
  pub taken : e.taken ≤ (REREAD + 1) * e.source
  pub skipped : e.place.levels.skipped ≤ (2 * LINE + 2) * e.source

-- with the finished line that was given last, and the macros and loops that run
abbrev pub state_of : Machine → ℕ → Remaining → LinesState
state_of m source left = record {
  edge = edge_of m source left;
  line = m.actions.line;
  running = m.stack.texts;
}

-- where nothing is left to be run, the machine has nothing to do
abbrev pub IsIdleAs : Remaining → Machine → Type 0
IsIdleAs remaining.Run m = Unit {0}
IsIdleAs _ m = machine.is_idle m ≡ true

-- the machine is at the edge
pub record IsAtEdge (m : Machine) (source : ℕ) (left : Remaining) : Type 0 where
  pub idle : IsIdleAs left m
  pub counted : IsCounted (edge_of m source left)

-- It ran on: the messages before the next line came, and that is the line from now on, if there is one.
pub record RunsOn {P S : Type 0} (left : P → S → List Message → Type 0) (old : LinesState) (out : S)
    (result : Bool) (new : LinesState) (out_new : S) : Type 0 where
  pub came : Came left out (notes_before (given_of old.edge)) out_new
  pub line : next_line (given_of old.edge) ≡ taken_if result new.line
  pub edge : new.edge ≡ line_taken old.edge
