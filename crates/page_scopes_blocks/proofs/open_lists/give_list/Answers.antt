use Rattle.std.proofs.Common.{ℕ, List, Option, sym, ap, subst}
use Rattle.page_roff_syntax.specs.declared.quotes.Argument.{Argument}
use Rattle.page_sets_lines.specs.declared.lists.ListOptions.{ListOptions}
use Rattle.page_scopes_blocks.specs.laws.Views.{LengthFits}
use Rattle.page_scopes_blocks.proofs.ListLemmas.{offset_short, width_short}
use Rattle.page_scopes_blocks.proofs.open_lists.give_list.Goals as goal

pub give_said-said-requires-clause-width : goal.give_said-said-requires-clause-width
give_said-said-requires-clause-width g c =
    let is = ap (λ (o : ListOptions (List ℕ)). o.width) c.read_list_options-options.ensures in
    subst (λ (w : Option (Argument (List ℕ))). LengthFits w) (sym is) (width_short c.args.text.now c.requires)

pub give_said-said-requires-clause-offset : goal.give_said-said-requires-clause-offset
give_said-said-requires-clause-offset g c =
    let is = ap (λ (o : ListOptions (List ℕ)). o.offset) c.read_list_options-options.ensures in
    subst (λ (w : Option (Argument (List ℕ))). LengthFits w) (sym is) (offset_short c.args.text.now c.requires)
