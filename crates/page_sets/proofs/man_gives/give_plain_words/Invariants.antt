use Rattle.std.proofs.Common.{◌≤◌, length}
use Rattle.page_sets_lines.specs.Lines.{arguments_after}
use Rattle.page_core_base.specs.laws.Views.{CameUpTo}
use Rattle.page_sets.specs.Man.{plain_words}
use Rattle.page_sets.proofs.man_gives.give_plain_words.Given as goal

abbrev pub invariant-loop-argument : goal.invariant-loop-argument
invariant-loop-argument g l = record {
  within : l.rest ≤ length l.text;
  came : CameUpTo g.O.EventTaker.left l.fn.out (plain_words l.number (arguments_after l.start l.text))
      (plain_words l.number (arguments_after l.rest l.text)) l.out;
}

abbrev pub decreases-loop-argument : goal.decreases-loop-argument
decreases-loop-argument g l = length (arguments_after l.rest l.text)
