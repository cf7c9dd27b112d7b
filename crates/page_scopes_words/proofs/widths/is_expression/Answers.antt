use Rattle.std.proofs.Common.{◌≡◌, ℕ, ◌==◌, not, ◌||◌, true, List, [], ◌∷◌, length, refl, ap, ◌∙◌, arith}
use Rattle.std.proofs.lemmas.Bool.Decides.{nat_tests}
use Rattle.std.specs.List.{list_any}
use Rattle.page_core_base.specs.Messages.{Message}
use Rattle.page_core_numbers.specs.Expressions.{expression_of, kind_of, messages_at}
use Rattle.page_core_numbers.specs.declared.scales.Scale.TheVariants.{Basic}
use Rattle.page_core_numbers.specs.declared.troubles.Trouble.{Trouble}
use Rattle.page_scopes_words.specs.Widths.{is_expression, is_missing}
use Rattle.page_scopes_words.proofs.widths.is_expression.Goals as goal

-- what is reported of an expression says that an operand is missing
says_missing : (line column : ℕ) (troubles : List Trouble)
    → list_any (λ (m : Message). is_missing m.kind) (messages_at line column troubles) ≡ list_any (λ (t : Trouble). is_missing (kind_of t)) troubles
says_missing line column [] = refl
says_missing line column (trouble ∷ troubles) = ap (λ b. is_missing (kind_of trouble) || b) (says_missing line column troubles)

pub returns-then-found-text : goal.returns-then-found-text
unfolding is_expression
returns-then-found-text c =
    let v = c.evaluate-found.ensures in
    let text = c.args.text.now in
    let place = c.args.place in
    let lens = v.len in
    let whole : (length (expression_of Basic text).rest == 0) ≡ true = grind (arith, nat_tests, lens, c.if-found-text.true) in
    let missing = c.lacks_operand.ensures
    ∙ ap (λ l. list_any (λ (m : Message). is_missing m.kind) l) (c.notes.ensures ∙ ap (messages_at place.line place.column) v.troubles)
    ∙ says_missing place.line place.column (expression_of Basic text).troubles in
    rw whole (ap not missing)
