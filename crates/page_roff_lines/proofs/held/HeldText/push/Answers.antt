use Rattle.std.proofs.Common.{◌≡◌, ◌∷◌, [], ◌++◌, take, refl, sym, ◌∙◌, arith}
use Rattle.page_roff_decoding.specs.Decoding.{line_limit}
use Rattle.page_roff_decoding.specs.laws.Views.{line_limit_is}
use Rattle.page_roff_lines.specs.machine.Open.{extend}
use Rattle.page_roff_lines.proofs.PointLemmas.{take-append-one, take-append-full}
use Rattle.page_roff_lines.proofs.held.HeldText.push.Goals as goal
use Rattle.page_roff_lines.proofs.held.HeldText.push.Goals.{then-len-lt-LINE, else-len-lt-LINE}

pub returns : goal.returns
unfolding extend
returns c =
    let limit = line_limit_is in
    let bytes = c.self.inside.bytes.items in
    let items : c.if-len-lt-LINE.self-inside.bytes.items ≡ take line_limit (bytes ++ c.args.byte ∷ []) =
    elim c.if-len-lt-LINE.branch [
      | then-len-lt-LINE w ↦ rw w.self-inside-is (w.push_reserved.ensures.items ∙ sym (take-append-one line_limit bytes c.args.byte (omega arith)))
      | else-len-lt-LINE w ↦ rw w.self-inside-is (sym (take-append-full line_limit bytes (c.args.byte ∷ []) (omega arith) (omega arith)))
    ] in
    let total : c.if-len-lt-LINE.self-inside.total ≡ c.self.inside.total =
    elim c.if-len-lt-LINE.branch [ then-len-lt-LINE w ↦ rw w.self-inside-is | else-len-lt-LINE w ↦ rw w.self-inside-is ] in
    rw (← c.self.view_is, total, items) refl
