use Rattle.page_roff_definitions.proofs.ClosingLemmas.{body_fits}
use Rattle.page_roff_definitions.proofs.buffers.BodyBuffer.caps_law.Goals as goal

pub returns : goal.returns
returns c = rw (← c.self.view_is) (body_fits c.self.inside.is_open c.self.inside.text (rw c.bytes-text.ensures.value at c.bytes-text.ensures.bound))
