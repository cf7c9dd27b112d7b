use Rattle.std.proofs.Common.{◌≡◌, length}
use Rattle.page_sets_lines.specs.Lines.{arguments_after, open_quote}
use Rattle.page_sets_lines.proofs.control_lines.unclosed_quote.Given as goal

abbrev pub invariant-loop-argument : goal.invariant-loop-argument
invariant-loop-argument l = open_quote l.fn.printed (arguments_after l.start l.text) ≡ open_quote l.printed l.arguments

abbrev pub decreases-loop-argument : goal.decreases-loop-argument
decreases-loop-argument l = length l.arguments
