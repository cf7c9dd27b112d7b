use Rattle.std.proofs.Common.{◌≡◌, ◌++◌, ◌-◌, take, length, min, ap, refl, sym, ◌∙◌, arith}
use Rattle.std.proofs.lemmas.List.{take_min, length-take-le}
use Rattle.page_roff_decoding.specs.Decoding.{is_printable, line_limit}
use Rattle.page_roff_decoding.specs.laws.Views.{line_limit_is}
use Rattle.page_roff_decoding.proofs.ScanLemmas.{all-append, all-take}
use Rattle.page_roff_lines.specs.machine.Open.{extend}
use Rattle.page_roff_lines.proofs.PointLemmas.{take-append-room, if_ok}
use Rattle.page_roff_lines.proofs.held.HeldText.extend.Goals as goal
use Rattle.page_roff_lines.proofs.held.HeldText.extend.Goals.{then-self, else-self}

pub returns : goal.returns
unfolding extend
returns c =
    let limit = line_limit_is in
    let bytes = c.self.inside.bytes.items in
    let more = c.args.more.now in
    let fits : c.min-fits.result ≡ min (line_limit - length bytes) (length more) = omega arith in
    let short = length-take-le c.min-fits.result more (omega arith) in
    let items : c.extend_from_slice.new.self.items ≡ take line_limit (bytes ++ more) =
    c.extend_from_slice.ensures.items ∙ if_ok c.extend_from_slice.result _ _ (c.extend_from_slice.ensures.succeeds (omega (arith, short)))
    ∙ ap (λ n. bytes ++ take n more) fits ∙ ap (λ l. bytes ++ l) (take_min (line_limit - length bytes) more)
    ∙ sym (take-append-room line_limit bytes more (omega arith)) in
    rw (← c.self.view_is, items) refl

pub invariant_of-self : goal.invariant_of-self
invariant_of-self c =
    let limit = line_limit_is in
    let bytes = c.self.inside.bytes.items in
    let more = c.args.more.now in
    let short = length-take-le c.min-fits.result more (omega arith) in
    let items : c.extend_from_slice.new.self.items ≡ bytes ++ take c.min-fits.result more =
    c.extend_from_slice.ensures.items ∙ if_ok c.extend_from_slice.result _ _ (c.extend_from_slice.ensures.succeeds (omega (arith, short))) in
    let len = c.extend_from_slice.ensures.len ∙ if_ok c.extend_from_slice.result _ _ (c.extend_from_slice.ensures.succeeds (omega (arith, short))) in (
      omega (arith, short, len),
      omega (arith, c.extend_from_slice.ensures.capacity),
      λ is. rw items
          (elim c.if-self.branch [
            | then-self w ↦ all-append is_printable bytes _ (c.self.invariant.2 w.if-self.true) (all-take is_printable _ more (c.requires.printable (sym w.self-is ∙ is)))
            | else-self w ↦ cc
          ]),
      λ is. cc,
    )
