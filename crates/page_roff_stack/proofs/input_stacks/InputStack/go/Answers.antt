use Rattle.std.proofs.Common.{ap, ◌∙◌}
use Rattle.page_roff_stack.specs.machine.Stacks.{went, with_top}
use Rattle.page_roff_stack.specs.machine.InputStacks.{stack_of}
use Rattle.page_roff_stack.proofs.InputStackLemmas.{went_kind, top_held, may_go}
use Rattle.page_roff_stack.proofs.input_stacks.InputStack.go.Goals as goal

pub invariant_of-self : goal.invariant_of-self
invariant_of-self c =
    top_held c.self.inside c.go.new.self c.deref.result.now c.deref.ensures.value c.go.ensures.held
    (ap (λ f. f.kind) c.go.ensures.frame ∙ went_kind c.args.movement _) c.self.invariant

pub returns : goal.returns
returns c =
    let a = c.self.inside in
    ap (λ f. with_top f (stack_of a)) (rw c.deref.ensures.value at c.go.ensures.frame)
    ∙ ap (λ s. with_top (went c.args.movement s.top) s) c.self.view_is

pub go-requires : goal.go-requires
go-requires c =
    rw c.deref.ensures.value (record { held = c.self.invariant.top; may = may_go c.args.movement (stack_of c.self.inside) (rw (← c.self.view_is) at c.requires) })
