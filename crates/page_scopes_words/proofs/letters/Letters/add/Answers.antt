use Rattle.std.proofs.Common.{◌≤◌, ◌+◌, ◌++◌, List, ℕ, length, ap, ◌∙◌, arith}
use Rattle.page_core_base.specs.laws.Views.{cells_in}
use Rattle.std.specs.Prelude.{take}
use Rattle.page_scopes_words.proofs.RunEndLemmas.{letters_put, printable_first, printable_put, put_size}
use Rattle.page_scopes_words.specs.machine.Letters.{letters_in}
use Rattle.page_scopes_words.proofs.letters.Letters.add.Goals as goal

pub invariant_of-self : goal.invariant_of-self
invariant_of-self c =
    let p = c.self.inside in
    let i = c.self.invariant in
    let bytes = c.args.bytes.now in
    let put = c.put_letters.ensures in
    let room : p.len + length bytes ≤ length p.text = omega (arith, i) in (
      omega (arith, i, room),
      ap (λ (t : List ℕ). length t) put.text ∙ put_size p.text bytes p.len room ∙ i.1,
      put.len ∙ i.2,
      rw put.text (printable_put p.text bytes p.len (length bytes) (omega (arith, room)) (omega arith) i.3 (printable_first (length bytes) bytes c.requires)),
    )

pub returns-clause-added : goal.returns-clause-added
returns-clause-added c = λ ok.
    let p = c.self.inside in
    let n = p.len + length c.args.bytes.now in
    let put = c.put_letters.ensures in
    let room : n ≤ length p.text = omega arith in
    ap (λ t. take n (cells_in t c.put_letters.new.fonts)) put.text
    ∙ letters_put p.text p.fonts c.put_letters.new.fonts p.len c.args.font c.args.bytes.now room (omega arith) put.fonts
    ∙ ap (λ l. l ++ letters_in c.args.font c.args.bytes.now) c.self.view_is
