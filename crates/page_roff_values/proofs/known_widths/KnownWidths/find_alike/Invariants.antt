use Rattle.std.proofs.Common.{◌≤◌}
use Rattle.page_roff_values.specs.declared.known_widths.TheConstants.{TRIES}
use Rattle.page_roff_values.proofs.known_widths.KnownWidths.find_alike.Given as goal

abbrev pub invariant-loop-width : goal.invariant-loop-width
invariant-loop-width l = l.tried ≤ TRIES
