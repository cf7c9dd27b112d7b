use Rattle.std.proofs.Common.{sym, ◌∙◌}
use Rattle.page_roff_blocks.specs.declared.line_parts.LinePart.TheVariants.{Leaf}
use Rattle.page_roff_stack.specs.machine.Stacks.{next_of}
use Rattle.page_roff_machine.proofs.ActLemmas.{is_the_part, decides_leaf, decides_passed}
use Rattle.page_roff_machine.proofs.runners.Runner.act.Goals as goal

pub returns-in-Some : goal.returns-in-Some
returns-in-Some g c =
    let part = is_the_part (next_of c.args.self.now.stack) (Leaf c.in-Some.text.now) (sym c.in-Some.ensures.value) in
    decides_leaf g.O.NoteOut.left c.args.self.now c.leaf.new.self c.args.out.now c.leaf.new.out c.in-Some.text.now c.reached-reached.result c.may_call-may_run.result c.leaf.result
    part c.reached-reached.ensures c.may_call-may_run.ensures c.requires.sound.setting c.leaf.ensures.done c.leaf.ensures.call

pub returns-then-passes_block : goal.returns-then-passes_block
returns-then-passes_block g c =
    decides_passed g.O.NoteOut.left c.args.self.now c.args.out.now c.reached-reached.result c.reached-reached.ensures (sym c.passes_block.ensures ∙ c.if-passes_block.true)
