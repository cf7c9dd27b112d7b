use Rattle.std.proofs.Common.{[], refl}
use Rattle.page_scopes_text.proofs.KeptTextLemmas.{none_given}
use Rattle.page_scopes_text.proofs.lettered_texts.takes_words.Goals as goal

pub returns : goal.returns
returns g c = none_given g.O.PieceOut.left 1 c.give_words.result _ _ (c.give_words.ensures [] refl refl)
