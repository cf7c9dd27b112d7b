use Rattle.std.proofs.Common.{rules, lit<, sym, ◌∙◌, ◌≡◌, length, Some, None, refl}
use Rattle.std.specs.List.{position_or_len, before_first}
use Rattle.mandoc_command.specs.Measures.{is_comma, measures_of, with_part}
use Rattle.mandoc_command.proofs.LineLemmas.{with_parts-next, with_parts-refused, with_parts-last}
use Rattle.mandoc_command.proofs.measures.Measures.named.Goals as goal

pub loop-part-init : goal.loop-part-init
unfolding measures_of
loop-part-init c = (search rules, rw c.none-measures.ensures refl)

pub returns-in_err-measures : goal.returns-in_err-measures
returns-in_err-measures c =
    let cut = c.in-Some.ensures.byte (lit< tt) (λ w o found. found) in
    let refused : with_part c.loop-part.measures (before_first is_comma c.loop-part.rest.now) ≡ None = rw (← cut.0) (search rules) in
    c.from_residual.ensures ∙ sym (with_parts-refused c.loop-part.measures c.loop-part.rest.now cut.2 refused) ∙ c.loop-part.invariant.1

pub loop-part-preserved : goal.loop-part-preserved
loop-part-preserved c =
    let cut = c.in-Some.ensures.byte (lit< tt) (λ w o found. found) in
    let set : with_part c.loop-part.measures (before_first is_comma c.loop-part.rest.now) ≡ Some c.in_ok-measures.measures = rw (← cut.0) (search rules) in
    (search rules, rw cut.1 (sym (with_parts-next c.loop-part.measures c.in_ok-measures.measures c.loop-part.rest.now cut.2 set) ∙ c.loop-part.invariant.1))

pub returns : goal.returns
returns c =
    let last : position_or_len is_comma c.loop-part.rest.now ≡ length c.loop-part.rest.now = c.in_default.ensures.byte (lit< tt) (λ w o found. found) in
    c.with_part-2.ensures ∙ sym (with_parts-last c.loop-part.measures c.loop-part.rest.now last) ∙ c.loop-part.invariant.1
