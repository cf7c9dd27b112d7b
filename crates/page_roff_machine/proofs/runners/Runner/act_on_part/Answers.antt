use Rattle.std.proofs.Common.{ap, ◌∙◌}
use Rattle.page_roff_blocks.specs.laws.Views.{head_view, loop_head_view}
use Rattle.page_roff_blocks.specs.Forest.{Levels}
use Rattle.page_roff_blocks.specs.declared.line_parts.LinePart.TheVariants.{Leaf, Guard, Block, Loop, End, Region}
use Rattle.page_roff_blocks.specs.declared.line_parts.Opening.TheVariants as openings
use Rattle.page_roff_syntax.specs.laws.Views.{region_view}
use Rattle.page_roff_stack.specs.machine.Stacks.{next_of}
use Rattle.page_roff_machine.proofs.ActLemmas.{is_the_part, decides_leaf, decides_guard, decides_block, decides_loop, decides_open_loop, decides_region, decides_block_end}
use Rattle.page_roff_machine.proofs.runners.Runner.act_on_part.Goals as goal

pub returns-in-Some-Leaf : goal.returns-in-Some-Leaf
returns-in-Some-Leaf g c =
    let part = is_the_part (next_of c.args.self.now.stack) (Leaf c.in-Some-Leaf.text.now) (rw c.in-Some-Leaf.field-0-is at c.in-Some-Leaf.ensures.value) in
    rw c.read_part.follows.holds-at-none (
    decides_leaf g.O.NoteOut.left c.args.self.now c.leaf.new.self c.args.out.now c.leaf.new.out c.in-Some-Leaf.text.now c.args.reached c.may_call-may_run.result c.leaf.result
    part c.requires.reached c.may_call-may_run.ensures c.requires.sound.setting c.leaf.ensures.done c.leaf.ensures.call
    )

pub returns-in-Some-Guard : goal.returns-in-Some-Guard
returns-in-Some-Guard g c =
    let bit_here = c.bit-bit.ensures ∙ ap (λ (l : Levels). l.bit) c.levels.ensures.value in
    let head = head_view c.in-Some-Guard.head in
    let part = is_the_part (next_of c.args.self.now.stack) (Guard head) (rw c.in-Some-Guard.field-0-is at c.in-Some-Guard.ensures.value) in
    rw (c.answered-answer.ensures, c.read_part.follows.holds-at-none) (
    decides_guard g.O.NoteOut.left c.args.self.now c.answer-value.new.self c.args.out.now c.answer-value.new.out head c.args.reached c.bit-bit.result c.answer-value.result
    part c.requires.reached bit_here c.requires.sound.setting c.answer-value.ensures
    )

pub returns-in-Some-Block-Conditional : goal.returns-in-Some-Block-Conditional
returns-in-Some-Block-Conditional g c =
    let bit_here = c.bit-bit.ensures ∙ ap (λ (l : Levels). l.bit) c.levels.ensures.value in
    let head = head_view c.in-Some-Block-Conditional.head in
    let part = is_the_part (next_of c.args.self.now.stack) (Block (openings.Conditional head)) (rw (c.in-Some-Block-Conditional.field-0-is, c.in-Some-Block-Conditional.field-0-0-is) at c.in-Some-Block-Conditional.ensures.value) in
    rw (c.answered.ensures, c.read_part.follows.holds-at-none) (
    decides_block g.O.NoteOut.left c.args.self.now c.answer-value-in-Some-Block-Conditional.new.self c.args.out.now c.answer-value-in-Some-Block-Conditional.new.out head c.args.reached c.bit-bit.result c.answer-value-in-Some-Block-Conditional.result
    part c.requires.reached bit_here c.requires.sound.setting c.answer-value-in-Some-Block-Conditional.ensures
    )

pub returns-in-Some-Block-Loop : goal.returns-in-Some-Block-Loop
returns-in-Some-Block-Loop g c =
    let head = loop_head_view c.in-Some-Block-Loop.head in
    let part = is_the_part (next_of c.args.self.now.stack) (Block (openings.Loop head)) (rw (c.in-Some-Block-Loop.field-0-is, c.in-Some-Block-Loop.field-0-0-is) at c.in-Some-Block-Loop.ensures.value) in
    rw c.read_part.follows.holds-at-none (
    decides_open_loop g.O.NoteOut.left c.args.self.now c.open_loop-is_run.new.self c.args.out.now c.open_loop-is_run.new.out head c.args.reached c.open_loop-is_run.result
    part c.requires.reached c.requires.sound.setting c.open_loop-is_run.ensures
    )

pub returns-in-Some-Loop : goal.returns-in-Some-Loop
returns-in-Some-Loop g c =
    let head = loop_head_view c.in-Some-Loop.head in
    let part = is_the_part (next_of c.args.self.now.stack) (Loop head) (rw c.in-Some-Loop.field-0-is at c.in-Some-Loop.ensures.value) in
    rw c.read_part.follows.holds-at-none (
    decides_loop g.O.NoteOut.left c.args.self.now c.pass_loop.new.self c.args.out.now c.pass_loop.new.out head c.args.reached c.may_call-may_run.result c.pass_loop.result
    part c.requires.reached c.may_call-may_run.ensures c.requires.sound.setting c.pass_loop.ensures.done c.pass_loop.ensures.repeats
    )

pub returns-in-Some-End : goal.returns-in-Some-End
returns-in-Some-End g c =
    let part = is_the_part (next_of c.args.self.now.stack) End (rw c.in-Some-End.field-0-is at c.in-Some-End.ensures.value) in
    rw c.read_part.follows.holds-at-none (
    decides_block_end g.O.NoteOut.left c.args.self.now c.args.out.now part
    )

pub returns-in-Some-Region : goal.returns-in-Some-Region
returns-in-Some-Region g c =
    let head = region_view c.in-Some-Region.head in
    let part = is_the_part (next_of c.args.self.now.stack) (Region head) (rw c.in-Some-Region.field-0-is at c.in-Some-Region.ensures.value) in
    rw c.read_part.follows.holds-at-none (
    decides_region g.O.NoteOut.left c.args.self.now c.open_region.new.self c.args.out.now c.open_region.new.out head c.args.reached c.open_region.result
    part c.requires.reached c.requires.sound.setting c.open_region.ensures
    )

pub returns-in-None : goal.returns-in-None
returns-in-None g c = rw c.read_part.follows.holds-at-none at c.act_between_lines.ensures
