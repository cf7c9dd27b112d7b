use Rattle.std.proofs.Common.{◌≡◌, [], ◌++◌, true, sym, ap, ◌∙◌, refl, append-nil, append_assoc}
use Rattle.page_core_escapes.specs.laws.Views.{begins_word}
use Rattle.page_core_escapes.specs.Tokens.{token_len}
use Rattle.page_scopes_text.proofs.PartedLemmas.{letters_more, letters_none}
use Rattle.page_scopes_words.specs.machine.Letters.{letters_in}
use Rattle.page_scopes_text.proofs.lettered_words.read_letters.Goals as goal

pub loop-fonts-init : goal.loop-fonts-init
loop-fonts-init c = ([], sym (append-nil c.args.letters.now), letters_none c.args.quoted c.args.fonts.now c.args.text.now)

pub loop-fonts-preserved : goal.loop-fonts-preserved
loop-fonts-preserved c =
    let l = c.loop-fonts in
    let i = l.invariant in
    let rest = l.rest.now in
    let t = c.in_ok-rest.ensures in
    let begins : begins_word rest ≡ true = sym c.begins_word.ensures ∙ c.loop-fonts-test.true in
    let took = t.takes in
    let more = letters_more c.args.quoted c.args.fonts.now c.args.text.now l.fonts rest i.0 took.0 (token_len c.args.quoted rest) i.2 begins t.some refl t.within took.1 in
    rw (t.next_fonts, t.left) (
      i.0 ++ letters_in l.fonts.value.font took.0,
      took.2 ∙ ap (λ k. k ++ letters_in l.fonts.value.font took.0) i.1 ∙ append_assoc c.args.letters.now i.0 (letters_in l.fonts.value.font took.0),
      more,
    )

pub returns-clause-grows : goal.returns-clause-grows
returns-clause-grows c = let i = c.loop-fonts.invariant in (i.0, i.1)

pub returns-clause-reads : goal.returns-clause-reads
returns-clause-reads c = (c.loop-fonts.invariant, sym c.begins_word.ensures ∙ c.loop-fonts-test.false)
