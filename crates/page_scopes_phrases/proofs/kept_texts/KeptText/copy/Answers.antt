use Rattle.page_scopes_phrases.proofs.kept_texts.KeptText.copy.Goals as goal

pub invariant_of-result : goal.invariant_of-result
invariant_of-result c = record { is_front = rw c.copy.ensures c.args.self.now.is_front }
