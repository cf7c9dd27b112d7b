use Rattle.std.proofs.Common.{◌≡◌, take, ap, ◌∙◌}
use Rattle.page_roff_decoding.specs.Decoding.{line_limit, is_printable}
use Rattle.page_roff_decoding.proofs.ScanLemmas.{all-take}
use Rattle.page_roff_lines.specs.machine.Open.{Held, extend}
use Rattle.page_roff_lines.proofs.LineAgreement.{less-free}
use Rattle.page_roff_lines.proofs.held.HeldText.set.Goals as goal

pub invariant_of-self : goal.invariant_of-self
unfolding extend
invariant_of-self c =
    let text = c.args.text.now in
    let items : c.self.inside.bytes.items ≡ take line_limit text =
    ap (λ (h : Held). h.bytes) (c.self.view_is ∙ c.extend.ensures ∙ ap (λ (h : Held). extend h text) c.clear.ensures) in (
      c.self.invariant.0,
      c.self.invariant.1,
      c.self.invariant.2,
      λ is. rw items (less-free text line_limit (c.requires.free is), all-take is_printable line_limit text c.requires.printable),
    )
