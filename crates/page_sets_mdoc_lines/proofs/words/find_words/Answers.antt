use Rattle.std.proofs.Common.{sym, ap, ◌∙◌, None, rules}
use Rattle.page_sets_lines.specs.laws.Events.{given_view}
use Rattle.page_sets_mdoc_lines.specs.laws.Views.{arguments_after, rest_parts}
use Rattle.page_sets_mdoc_lines.specs.Parts.{LineParts, parts}
use Rattle.page_sets_mdoc_lines.proofs.WordLemmas.{are_known, onto_rest, onto_taken, onto_words}
use Rattle.page_sets_mdoc_lines.proofs.words.find_words.Goals as goal

pub returns-clause-found : goal.returns-clause-found
returns-clause-found c =
    let found = c.find_span-found in
    record {
      fits = c.take_word.ensures.fits;
      stand = (c.take_word.ensures.stands, c.take_word.ensures.stands, found.ensures.stand.0);
      known = rw c.saturating_sub.ensures (are_known c.args.parsed (arguments_after c.take_word.result.1.rest c.args.text.now) _ found.result.span found.ensures.span found.ensures.outside);
      first = search rules;
    }

pub returns-clause-taken : goal.returns-clause-taken
returns-clause-taken c =
    let others = arguments_after c.take_word.result.1.rest c.args.text.now in
    sym (onto_taken c.args.parsed others (given_view c.take_word.result.0))
    ∙ ap (λ (p : LineParts). p.taken) (sym (c.take_word.ensures.takes c.args.parsed))

pub returns-clause-words : goal.returns-clause-words
returns-clause-words c =
    let others = arguments_after c.take_word.result.1.rest c.args.text.now in
    onto_words c.args.parsed others (given_view c.take_word.result.0) _ c.find_span-found.ensures.span
    ∙ ap (λ (p : LineParts). p.words) (sym (c.take_word.ensures.takes c.args.parsed))

pub returns-clause-rest : goal.returns-clause-rest
returns-clause-rest c =
    let others = arguments_after c.take_word.result.1.rest c.args.text.now in
    c.find_span-found.ensures.rest
    ∙ onto_rest (parts None c.args.parsed others) (given_view c.take_word.result.0)
    ∙ ap (λ (p : LineParts). rest_parts p) (sym (c.take_word.ensures.takes c.args.parsed))
