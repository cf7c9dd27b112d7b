use Rattle.std.proofs.Common.{length}
use Rattle.page_core_base.specs.laws.Views.{CameUpTo}
use Rattle.page_sets_mdoc_lines.specs.machine.Cursors.{IsCursorOf}
use Rattle.page_sets_mdoc_lines.specs.laws.Views.{words_view}
use Rattle.page_sets_mdoc_words.specs.Inlines.{function_words}
use Rattle.page_sets_mdoc_words.proofs.functions.give_function_words.Given as goal

abbrev pub invariant-loop-word : goal.invariant-loop-word
invariant-loop-word g l = record {
  within : IsCursorOf l.text l.left.cursor;
  came : CameUpTo g.O.EventTaker.left l.fn.out (function_words l.place (words_view l.text l.fn.words))
      (function_words l.place (words_view l.text l.left)) l.out;
}

abbrev pub decreases-loop-word : goal.decreases-loop-word
decreases-loop-word g l = length (words_view l.text l.left)
