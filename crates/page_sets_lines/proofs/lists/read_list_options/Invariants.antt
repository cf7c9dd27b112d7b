use Rattle.std.proofs.Common.{◌≡◌, length}
use Rattle.page_sets_lines.specs.Lines.{arguments_after}
use Rattle.page_sets_lines.specs.Blocks.{no_options, options_after}
use Rattle.page_sets_lines.specs.laws.Views.{options_view}
use Rattle.page_sets_lines.proofs.lists.read_list_options.Given as goal

abbrev pub invariant-loop-word : goal.invariant-loop-word
invariant-loop-word l = options_after (options_view l.options) l.arguments ≡ options_after no_options (arguments_after l.start l.text)

abbrev pub decreases-loop-word : goal.decreases-loop-word
decreases-loop-word l = length l.arguments
