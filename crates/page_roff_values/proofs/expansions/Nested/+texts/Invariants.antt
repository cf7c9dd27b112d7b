use Rattle.std.proofs.Common.{◌≡◌, ◌+◌, ◌*◌}
use Rattle.page_roff_values.specs.machine.Rest.{surroundings_of, rest, texts_of, steps}
use Rattle.page_roff_values.specs.laws.Views.{Goes}
use Rattle.page_roff_values.specs.Values.{seq, nothing}
use Rattle.page_roff_values.proofs.expansions.Nested.+texts.Given as goal

abbrev pub decreases-put_width : goal.decreases-put_width
decreases-put_width g l = l.room * 3 + 3

abbrev pub decreases-run : goal.decreases-run
decreases-run g l = l.room * 3 + 2

abbrev pub decreases-call : goal.decreases-call
decreases-call g l = l.room * 3 + 1

abbrev pub invariant-run-parts : goal.invariant-run-parts
invariant-run-parts g l = record {
  goes : Goes g.O.NoteOut.left l.fn.out (seq (nothing l.fn.self.spot) (rest (surroundings_of l.env) l.room (texts_of l.fn.sources)))
      l.out (seq (nothing l.self.spot) (rest (surroundings_of l.env) l.room (texts_of l.sources)));
  before : l.self.before ≡ l.fn.self.before;
}

abbrev pub decreases-run-parts : goal.decreases-run-parts
decreases-run-parts g l = steps l.self.spot (texts_of l.sources)
