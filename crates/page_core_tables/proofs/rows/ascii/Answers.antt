use Rattle.std.proofs.Common.{◌≡◌, ◌+◌, ◌-◌, ◌∷◌, [], ap, ◌∙◌, arith}
use Rattle.page_core_tables.proofs.Tables.{are_characters_from-at}
use Rattle.page_core_tables.proofs.rows.ascii.Goals as goal

pub returns : goal.returns
returns c =
    let place : 32 + (c.args.c - 32) ≡ c.args.c = omega arith in
    are_characters_from-at 32 c.characters.result.now (c.args.c - 32) _ c.characters.ensures.in_order (omega arith) ∙ ap (λ n. n ∷ []) place
