use Rattle.std.proofs.Common.{◌≡◌, ℕ, ◌-◌, List, length, take, drop, ap, ◌∙◌, arith, length-drop}
use Rattle.std.proofs.lemmas.List.{take_all}
use Rattle.page_roff_values.specs.machine.Held.{units_of_text}
use Rattle.page_roff_values.specs.machine.Rest.{NestedSpot}
use Rattle.page_roff_values.specs.Values.{units_of}
use Rattle.page_roff_values.proofs.TextLemmas.{units_known, units_none}
use Rattle.page_roff_values.proofs.expansions.Nested.units.Goals as goal

-- the bytes from a place to the end
rest_is : (bytes : List ℕ) (start : ℕ) → take (length bytes - start) (drop start bytes) ≡ drop start bytes
rest_is bytes start = take_all _ _ (omega (arith, length-drop start bytes))

pub returns-in-Ok-clause-units : goal.returns-in-Ok-clause-units
returns-in-Ok-clause-units c =
    let read = c.in-Ok.ensures.cases in
    let text : drop c.self.inside.start c.deref.result.now ≡ c.args.self.now.spot.text = rw c.deref.ensures.value (ap (λ (a : NestedSpot). a.spot.text) c.self.view_is) in
    c.measure.ensures ∙ ap (units_of_text c.args.output) read.0 ∙ units_known c.args.output _ read.1
    ∙ ap (units_of c.args.output) (rest_is c.deref.result.now c.self.inside.start ∙ text)

pub returns-in-Err-clause-units : goal.returns-in-Err-clause-units
returns-in-Err-clause-units c =
    let text : drop c.self.inside.start c.deref.result.now ≡ c.args.self.now.spot.text = rw c.deref.ensures.value (ap (λ (a : NestedSpot). a.spot.text) c.self.view_is) in
    units_none c.args.output _ c.in-Err.ensures.cases.0 ∙ ap (units_of c.args.output) (rest_is c.deref.result.now c.self.inside.start ∙ text)
