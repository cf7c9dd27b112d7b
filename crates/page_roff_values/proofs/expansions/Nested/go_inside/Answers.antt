use Rattle.std.proofs.Common.{◌∙◌, ap, sym, rules}
use Rattle.page_roff_values.specs.machine.Rest.{NestedSpot, going_inside}
use Rattle.page_roff_values.specs.Values.{column_of}
use Rattle.page_roff_values.proofs.TextLemmas.{inside_is}
use Rattle.page_roff_values.proofs.expansions.Nested.go_inside.Goals as goal

pub returns-clause-inside : goal.returns-clause-inside
returns-clause-inside c =
    inside_is c.self.inside c.len-self-inside.result c.column.result (search rules) (c.column.ensures ∙ ap (λ (a : NestedSpot). column_of a.spot) (sym c.self.view_is)) ∙ ap going_inside c.self.view_is
