use Rattle.std.proofs.Common.{◌≡◌, length, arith}
use Rattle.std.proofs.lemmas.Bool.Decides.{nat_tests}
use Rattle.std.proofs.lemmas.Result.{err_from_is_err_and}
use Rattle.page_engine.specs.laws.Views.{filter-sink, shown-sink}
use Rattle.page_engine.proofs.Items.{no_words_pass, nothing_passes, words_broke, words_took}
use Rattle.page_engine.proofs.page_sinks.PageSinkPieceSink.take_words.Goals as goal

-- none of the words was taken
pub returns-then-not-takes_words-clause-takes : goal.returns-then-not-takes_words-clause-takes
returns-then-not-takes_words-clause-takes g c = λ words are cells.
    let j = shown-sink g.R.RowSink.gave g.R.RowSink.within g.met.R.RowSink.laws (λ s. s.rows.now) (λ s. s.is_silent) in
    let k = filter-sink g.N.NoteSink.gave g.N.NoteSink.within g.met.N.NoteSink.laws (λ s. s.notes.now) (λ s. s.least) (λ s. s.worst) in
    nothing_passes j k _ _ _

-- there are no words
pub returns-then-is_empty-clause-takes : goal.returns-then-is_empty-clause-takes
returns-then-is_empty-clause-takes g c = λ words are cells.
    let j = shown-sink g.R.RowSink.gave g.R.RowSink.within g.met.R.RowSink.laws (λ s. s.rows.now) (λ s. s.is_silent) in
    let k = filter-sink g.N.NoteSink.gave g.N.NoteSink.within g.met.N.NoteSink.laws (λ s. s.notes.now) (λ s. s.least) (λ s. s.worst) in
    let none : length c.args.text.now ≡ 0 = let e = c.is_empty.ensures in let t = c.if-is_empty.true in grind (arith, nat_tests, e, t) in
    no_words_pass j k _ _ _ c.args.blanks c.args.text.now c.args.fonts.now none words are cells

pub returns-in_err-words-clause-takes : goal.returns-in_err-words-clause-takes
returns-in_err-words-clause-takes g c =
    let p = err_from_is_err_and c.from_residual.result c.from_residual.ensures.1 in
    let w = c.words.ensures in
    rw (p.1, p.2) (λ words are cells.
    words_broke _ _ _ _ _ _ c.words.result _ _ _ _ _ _ c.args.blanks c.args.text.now c.args.fonts.now w.gets w.edge w.sinks.faults w.sinks.closed
    c.held_law.ensures.row c.held_law.ensures.word words are cells _ c.in_err-words.was)

pub returns-clause-takes : goal.returns-clause-takes
returns-clause-takes g c = λ words are cells.
    let w = c.words.ensures in
    words_took _ _ _ _ _ _ c.words.result _ _ _ _ _ _ c.args.blanks c.args.text.now c.args.fonts.now w.gets w.edge w.sinks.faults w.sinks.closed
    c.held_law.ensures.row c.held_law.ensures.word words are cells _ c.in_ok-words.was
