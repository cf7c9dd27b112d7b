use Rattle.std.proofs.Common.{◌≡◌, length}
use Rattle.std.specs.Prelude.{fold}
use Rattle.page_sets_lines.proofs.ArgumentLaws.{AreArguments}
use Rattle.page_sets_lines.specs.Blocks.{columns_after}
use Rattle.page_sets_lines.specs.laws.Views.{options_view}
use Rattle.page_scopes_blocks.specs.Lists.{columns_of, one_more}
use Rattle.page_sets_lines.specs.declared.lists.ListKind.TheVariants.{Column}
use Rattle.page_scopes_blocks.proofs.widths.columns_in.Given as goal

abbrev pub invariant-loop-word : goal.invariant-loop-word
invariant-loop-word l =
    (fold (one_more l.output) l.given (columns_after (options_view l.so_far) l.arguments) ≡ columns_of l.output Column l.options)
    × AreArguments l.options l.arguments

abbrev pub decreases-loop-word : goal.decreases-loop-word
decreases-loop-word l = length l.arguments
