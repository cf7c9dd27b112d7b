use Rattle.std.proofs.Common.{arith}
use Rattle.page_roff_decoding.specs.Decoding.{is_printable}
use Rattle.page_roff_decoding.proofs.ScanLemmas.{all-take}
use Rattle.page_roff_lines.proofs.held.HeldText.shorten.Goals as goal

pub invariant_of-self : goal.invariant_of-self
invariant_of-self c = (
  omega (arith, c.truncate.ensures.len),
  omega (arith, c.truncate.ensures.capacity),
  λ is. rw c.truncate.ensures.items (all-take is_printable c.saturating_sub-self-inside.result c.self.inside.bytes.items (c.self.invariant.2 is)),
  λ is. cc,
)
