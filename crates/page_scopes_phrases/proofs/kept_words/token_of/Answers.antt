use Rattle.page_scopes_phrases.proofs.NameLemmas.{front-written}
use Rattle.page_scopes_phrases.proofs.kept_words.token_of.Goals as goal

pub returns-in-White : goal.returns-in-White
returns-in-White c = (front-written c.args.text.now c.args.part c.requires.known).0 c.in-White.is

pub returns-in-Plain : goal.returns-in-Plain
returns-in-Plain c = (front-written c.args.text.now c.args.part c.requires.known).1 c.in-Plain.is
