use Rattle.std.proofs.Common.{◌≡◌, ◌≤◌, ◌+◌, ◌-◌, length, drop}
use Rattle.page_roff_blocks.specs.Parts.{left_of}
use Rattle.page_roff_blocks.proofs.loops.len_of.Given as goal

abbrev pub invariant-loop-left : goal.invariant-loop-left
invariant-loop-left l = record {
  inside : l.start ≤ length l.line;
  few : l.blocks ≤ l.open_blocks + l.start;
  same : left_of l.open_blocks l.line ≡ left_of l.blocks (drop l.start l.line);
}

abbrev pub decreases-loop-left : goal.decreases-loop-left
decreases-loop-left l = length l.line - l.start
