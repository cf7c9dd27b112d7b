use Rattle.std.proofs.Common.{◌≡◌, List, ℕ, Option, Some, None, ap, sym, ◌∙◌, vec_len}
use Rattle.page_roff_syntax.specs.laws.Views.{opened_view}
use Rattle.page_roff_stack.specs.machine.InputStacks.{stack_of}
use Rattle.page_roff_stack.specs.machine.Stacks.{turn_in, turn_or_end, next_around}
use Rattle.page_roff_stack.proofs.InputStackLemmas.{some_around, end_around}
use Rattle.page_roff_stack.proofs.input_stacks.InputStack.next_around.Goals as goal

pub returns-in-Some-clause-value : goal.returns-in-Some-clause-value
returns-in-Some-clause-value c =
    let a = c.self.inside in
    let s = stack_of a in
    let region = opened_view c.args.region in
    let turn : Option (List ℕ) = Some c.in-Some.condition.now in
    let some = some_around a (vec_len a.callers) a.callers.ok.0 (sym c.is_empty.ensures ∙ c.if-is_empty.false) in
    let comes : turn ≡ turn_in s.top.turning = rw c.deref.ensures.value at c.in-Some.ensures.value in
    ap (λ begun. turn_or_end turn region begun) (c.has_begun.ensures a.text.items)
    ∙ end_around s.top.turning turn region s.under some comes ∙ ap (λ s. next_around s.top.turning region s.under) c.self.view_is

pub returns-in-None-clause-value : goal.returns-in-None-clause-value
returns-in-None-clause-value c =
    let a = c.self.inside in
    let s = stack_of a in
    let region = opened_view c.args.region in
    let turn : Option (List ℕ) = None in
    let some = some_around a (vec_len a.callers) a.callers.ok.0 (sym c.is_empty.ensures ∙ c.if-is_empty.false) in
    let comes : turn ≡ turn_in s.top.turning = rw c.deref.ensures.value at c.in-None.ensures.value in
    ap (λ begun. turn_or_end turn region begun) (c.has_begun-in-None.ensures a.text.items)
    ∙ end_around s.top.turning turn region s.under some comes ∙ ap (λ s. next_around s.top.turning region s.under) c.self.view_is
