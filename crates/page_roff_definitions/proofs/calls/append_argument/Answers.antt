use Rattle.std.proofs.Common.{◌≡◌, List, ℕ, [], ◌∷◌, ◌++◌, true, false, refl, ap, sym, ◌∙◌, append_assoc}
use Rattle.page_roff_syntax.specs.laws.Views.{argument_view}
use Rattle.page_roff_syntax.specs.Arguments.{argument_value, is_quoted}
use Rattle.page_roff_definitions.proofs.ClosingLemmas.{plain_value}
use Rattle.page_roff_definitions.proofs.calls.append_argument.Goals as goal
use Rattle.page_roff_definitions.proofs.calls.append_argument.Goals.{then-is_quoted+then-is_some, else-is_quoted, else-is_quoted-via-then-is_quoted+else-is_some, else-is_quoted-via-else-is_quoted}

pub returns-clause-items : goal.returns-clause-items
returns-clause-items c =
    let old = c.args.text.now.items in
    let a = argument_view c.args.argument in
    let value : c.if-is_quoted.text.items ≡ old ++ argument_value a =
    elim c.if-is_quoted.branch [
      | then-is_quoted+then-is_some w ↦
          let q : is_quoted a.quoting ≡ true = sym c.is_quoted.ensures ∙ w.if-is_quoted.true in
          rw (w.text-is, q) w.append_unpaired.ensures.items
      | else-is_quoted w ↦
          let plain : argument_value a ≡ a.text =
          elim w.else-is_quoted.branch [
            | else-is_quoted-via-then-is_quoted+else-is_some v ↦
                plain_value a v.memchr.result v.memchr.ensures (sym v.is_some.ensures ∙ v.if-is_some.false)
            | else-is_quoted-via-else-is_quoted v ↦
                let q : is_quoted a.quoting ≡ false = sym c.is_quoted.ensures ∙ v.if-is_quoted.false in
                rw q refl
          ] in
          rw w.text-is (w.append.ensures.items ∙ ap (λ (l : List ℕ). old ++ l) (sym plain))
    ] in
    c.push_reserved.ensures.items ∙ ap (λ (l : List ℕ). l ++ (10 ∷ [])) value ∙ append_assoc old (argument_value a) (10 ∷ [])
