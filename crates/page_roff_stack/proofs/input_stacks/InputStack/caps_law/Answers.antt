use Rattle.std.proofs.Common.{sym, ◌∙◌, arith}
use Rattle.page_roff_stack.proofs.InputStackLemmas.{under_len, texts_are, texts_bytes}
use Rattle.page_roff_stack.proofs.input_stacks.InputStack.caps_law.Goals as goal

pub returns-clause-macros : goal.returns-clause-macros
returns-clause-macros c =
    let a = c.self.inside in
    rw (sym c.self.view_is) (texts_are a ∙ sym (under_len a))

pub returns-clause-count : goal.returns-clause-count
returns-clause-count c =
    let a = c.self.inside in
    rw (sym c.self.view_is) (omega (arith, texts_are a, c.self.invariant.deep))

pub returns-clause-bytes : goal.returns-clause-bytes
returns-clause-bytes c = rw (sym c.self.view_is) (texts_bytes c.self.inside c.self.invariant)
