use Rattle.std.proofs.Common.{ℕ, List, ap, subst, append_assoc}
use Rattle.page_scopes_phrases.specs.LineWords.{line_word, text_outcome, with_sentence}
use Rattle.page_scopes_phrases.specs.declared.phrases.Phrase.{Phrase}
use Rattle.page_scopes_phrases.specs.laws.Views.{GivesOutcome}
use Rattle.page_scopes_phrases.proofs.line_words.give_line_word.Goals as goal

pub returns : goal.returns
unfolding line_word
returns g c =
    let quoted = c.report_quote.new.out in
    let next = c.give_parted.new in
    let given = subst (λ (p : Phrase (List ℕ)). GivesOutcome g.O.PieceOut.left quoted (text_outcome c.args.line p c.args.state.now) next.out next.state)
    c.word_phrase.ensures c.give_parted.ensures in
    record {
      came = λ plan rest h. given.came plan rest (c.report_quote.ensures plan _ (rw append_assoc at h));
      state = rw c.ends_sentence-state.ensures (ap (with_sentence c.args.word.now.arg.text.now) given.state);
    }
