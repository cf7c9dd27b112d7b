use Rattle.std.proofs.Common.{ap, ◌∙◌, rules, w32, FitsSigned}
use Rattle.std.proofs.lemmas.Int.{to_z-of_z}
use Rattle.page_scopes_layout.specs.Lists.{list_begun}
use Rattle.page_scopes_blocks.proofs.open_lists.list_context.Goals as goal

pub returns : goal.returns
returns c =
    let fits : FitsSigned w32 c.unwrap_or.result = search rules in
    c.list_begun.ensures
    ∙ ap (λ columns. list_begun c.args.said.now.list columns c.args.context) (to_z-of_z w32 c.unwrap_or.result fits ∙ c.unwrap_or.ensures)
