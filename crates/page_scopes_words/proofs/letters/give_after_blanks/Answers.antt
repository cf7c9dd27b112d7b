use Rattle.page_scopes_words.proofs.RunEndLemmas.{font_joined}
use Rattle.page_scopes_words.proofs.letters.give_after_blanks.Goals as goal

pub returns : goal.returns
returns g c = λ words are cells. c.give_words.ensures words are (rw c.equal_fonts.ensures (font_joined c.args.font c.args.text.now words cells))
