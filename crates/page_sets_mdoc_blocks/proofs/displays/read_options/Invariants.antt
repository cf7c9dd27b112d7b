use Rattle.std.proofs.Common.{◌≡◌, length}
use Rattle.page_sets_mdoc_blocks.specs.Displays.{no_options, options_after}
use Rattle.page_sets_mdoc_blocks.specs.laws.Views.{options_view}
use Rattle.page_sets_mdoc_blocks.specs.Fronts.{line_arguments}
use Rattle.page_sets_mdoc_blocks.proofs.displays.read_options.Given as goal

abbrev pub invariant-loop-word : goal.invariant-loop-word
invariant-loop-word l =
    options_after (options_view l.options) l.arguments ≡ options_after no_options (line_arguments l.line)

abbrev pub decreases-loop-word : goal.decreases-loop-word
decreases-loop-word l = length l.arguments
