use Rattle.std.proofs.Common.{length}
use Rattle.page_core_base.specs.laws.Views.{CameUpTo}
use Rattle.page_sets_mdoc_lines.specs.machine.Cursors.{IsCursorOf}
use Rattle.page_sets_mdoc_lines.specs.laws.Views.{words_view}
use Rattle.page_sets_mdoc_words.specs.Sentences.{names_events}
use Rattle.page_sets_mdoc_words.proofs.sentences.give_names.Given as goal

abbrev pub invariant-loop-name : goal.invariant-loop-name
invariant-loop-name g l = record {
  within : IsCursorOf l.text l.left.cursor;
  came : CameUpTo g.O.EventTaker.left l.fn.out (names_events l.place l.sentence l.all (words_view l.text l.fn.names))
      (names_events l.place l.sentence l.all (words_view l.text l.left)) l.out;
}

abbrev pub decreases-loop-name : goal.decreases-loop-name
decreases-loop-name g l = length (words_view l.text l.left)
