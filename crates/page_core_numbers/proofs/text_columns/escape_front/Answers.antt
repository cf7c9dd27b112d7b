use Rattle.std.proofs.Common.{◌∙◌, ap}
use Rattle.page_core_numbers.specs.Columns.{characters_columns, printed_escape}
use Rattle.page_core_numbers.proofs.ExpressionLemmas.{front-of_escape}
use Rattle.page_core_numbers.proofs.text_columns.escape_front.Goals as goal

pub returns : goal.returns
returns c =
    let found = c.escape-len.ensures in
    front-of_escape c.args.output c.args.text.now c.requires.first.rest c.escape_columns.result c.escape-len.result.1 c.requires.utf8 c.requires.first.is found.some c.escape_columns.ensures.bound
    (c.escape_columns.ensures.value ∙ ap (λ m. characters_columns (printed_escape c.args.output m)) found.meaning) found.len
