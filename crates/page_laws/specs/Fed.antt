-- What a page and its sinks are after a list of lines.
use Rattle.std.specs.Prelude.{List, map, Result, MatchResult}
use Rattle.page_core_base.specs.declared.faults.Fault.{Fault}
use Rattle.page_roff_lines.specs.Lines.{Line}
use Rattle.page_engine.specs.Edges.{Edge}
use Rattle.page_engine.specs.laws.Views.{text_line, Came, Front}
use Rattle.page_engine.specs.Page.{settled, edge}
use Rattle.page_engine.specs.laws.States.{PageState, IsOpenAt}
use Rattle.page_engine.specs.Runs.{Sinks}
use Rattle.page_laws.specs.declared.feeding.Numbered.{Numbered}

-- a text with its number, as a line
abbrev pub line_given : Numbered → Line
line_given given = text_line given.text.now given.number

abbrev pub lines_given : List Numbered → List Line
lines_given given = map line_given given

-- what the lines settle came, all of it and nothing else, and the page is at the edge after them; or a sink failed, and a front of it came
abbrev pub FeedsAll : {R N : Type 0} → Result (Unit {0}) Fault → Sinks R N → R → R → N → N → Edge → List Line → PageState → Type 0
FeedsAll res k r r' n n' e lines after = MatchResult res
    (λ _. Came k r r' n n' (settled e lines) × IsOpenAt after (edge e lines))
    (λ fault. Front k r r' n n' (settled e lines) fault)
