use Rattle.std.proofs.Common.{◌≤◌, length}
use Rattle.page_sets_lines.specs.declared.events.Join.TheVariants.{Apart}
use Rattle.page_sets_lines.specs.Lines.{arguments_after}
use Rattle.page_core_base.specs.laws.Views.{CameUpTo}
use Rattle.page_sets.specs.Man.{alternating_words}
use Rattle.page_sets.proofs.man_gives.give_alternating.Given as goal

abbrev pub invariant-loop-argument : goal.invariant-loop-argument
invariant-loop-argument g l = record {
  within : l.rest ≤ length l.text;
  came : CameUpTo g.O.EventTaker.left l.fn.out (alternating_words l.number l.fn.font l.fn.other Apart (arguments_after l.start l.text))
      (alternating_words l.number l.fonts.0 l.fonts.1 l.before (arguments_after l.rest l.text)) l.out;
}

abbrev pub decreases-loop-argument : goal.decreases-loop-argument
decreases-loop-argument g l = length (arguments_after l.rest l.text)
