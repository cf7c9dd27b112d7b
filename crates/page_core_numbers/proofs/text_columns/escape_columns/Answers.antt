use Rattle.std.proofs.Common.{◌∙◌, ap, sym, inl, inr, rules, w32, FitsSigned}
use Rattle.std.proofs.lemmas.Int.{to_z-of_z}
use Rattle.page_core_numbers.specs.Columns.{blanks_in}
use Rattle.page_core_numbers.proofs.ExpressionLemmas.{blank-columns, blanks-columns}
use Rattle.page_core_numbers.proofs.text_columns.escape_columns.Goals as goal

pub returns-in-Tab-clause-value : goal.returns-in-Tab-clause-value
returns-in-Tab-clause-value c = elim c.in-Tab.is [ inl tab ↦ rw tab (sym blank-columns) | inr blank ↦ rw blank (sym blank-columns) ]

pub returns-in-Blanks-clause-value : goal.returns-in-Blanks-clause-value
returns-in-Blanks-clause-value c =
    let fits : FitsSigned w32 c.read_expression.result.value = search rules in
    rw c.in-Blanks.is ((rw (to_z-of_z w32 c.read_expression.result.value fits) at c.blanks_in.ensures.value) ∙ ap (λ r. blanks_in r.value) c.read_expression.ensures.value ∙ blanks-columns _)
