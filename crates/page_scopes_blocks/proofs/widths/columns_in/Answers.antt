use Rattle.std.proofs.Common.{refl}
use Rattle.page_sets_lines.proofs.ArgumentLaws.{all_arguments}
use Rattle.page_scopes_blocks.proofs.widths.columns_in.Goals as goal

pub loop-word-init : goal.loop-word-init
loop-word-init c = rw (c.new-arguments.ensures, c.new-so_far.ensures, c.new-given.ensures) (refl, all_arguments c.args.options.now 0)
