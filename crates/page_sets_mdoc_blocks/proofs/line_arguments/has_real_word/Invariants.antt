use Rattle.std.proofs.Common.{◌≡◌, length}
use Rattle.std.specs.List.{list_any}
use Rattle.page_sets_mdoc_lines.specs.Parts.{is_real}
use Rattle.page_sets_mdoc_blocks.specs.Fronts.{has_real_word}
use Rattle.page_sets_mdoc_blocks.proofs.line_arguments.has_real_word.Given as goal

abbrev pub invariant-loop-argument : goal.invariant-loop-argument
invariant-loop-argument l = list_any is_real l.arguments ≡ has_real_word l.line

abbrev pub decreases-loop-argument : goal.decreases-loop-argument
decreases-loop-argument l = length l.arguments
