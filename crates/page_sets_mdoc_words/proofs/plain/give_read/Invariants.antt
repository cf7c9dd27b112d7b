use Rattle.std.proofs.Common.{◌∷◌, length, IfSome}
use Rattle.page_core_base.specs.laws.Views.{CameUpTo}
use Rattle.page_roff_syntax.specs.laws.Views.{argument_view}
use Rattle.page_sets_lines.specs.laws.Views.{ArgumentFits}
use Rattle.page_sets_mdoc_lines.specs.machine.Cursors.{IsCursorOf}
use Rattle.page_sets_mdoc_lines.specs.laws.Views.{words_view}
use Rattle.page_sets_mdoc_words.specs.Inlines.{printed}
use Rattle.page_sets_mdoc_words.proofs.MacroPrintLemmas.{read_onto}
use Rattle.page_sets_mdoc_words.proofs.plain.give_read.Given as goal

abbrev pub invariant-loop-next : goal.invariant-loop-next
invariant-loop-next g l = record {
  within : IsCursorOf l.text l.left.cursor;
  fits : IfSome l.next (λ word. ArgumentFits (argument_view word));
  came : CameUpTo g.O.EventTaker.left l.fn.out (printed l.number l.font (argument_view l.fn.first ∷ words_view l.text l.fn.others))
      (printed l.number l.font (read_onto l.next (words_view l.text l.left))) l.out;
}

abbrev pub decreases-loop-next : goal.decreases-loop-next
decreases-loop-next g l = length (read_onto l.next (words_view l.text l.left))
