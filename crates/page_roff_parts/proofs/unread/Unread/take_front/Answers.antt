use Rattle.page_roff_parts.proofs.BracketLemmas.{known_drop}
use Rattle.page_roff_parts.proofs.unread.Unread.take_front.Goals as goal

pub invariant_of-self : goal.invariant_of-self
invariant_of-self c =
    let u = c.self.inside in
    rw c.after-self-inside.ensures (known_drop u.is_unclosed c.front_len-len.result u.text.now c.self.invariant)
