use Rattle.page_core_base.specs.laws.Views.{line_view}
use Rattle.page_scopes_checks.specs.MarkedLaws.{control_fits}
use Rattle.page_scopes_checks.proofs.marked.MarkedMacroSet.start.Goals as goal

pub returns-in-None-clause-place : goal.returns-in-None-clause-place
returns-in-None-clause-place c = rw c.control_place.ensures (control_fits (line_view c.args.line))
