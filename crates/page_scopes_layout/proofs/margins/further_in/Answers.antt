use Rattle.std.proofs.Common.{◌≡◌, ◌∙◌, ap, rules, w32, w64, FitsSigned, pos, ◌+ℤ◌, arith, refl}
use Rattle.std.proofs.lemmas.Int.{to_z-of_z, ints}
use Rattle.page_scopes_layout.specs.Contexts.{hold}
use Rattle.page_scopes_layout.proofs.MarginLemmas.{sum_of_three}
use Rattle.page_scopes_layout.proofs.margins.further_in.Goals as goal

pub returns : goal.returns
returns c =
    let hang : FitsSigned w32 c.args.hang = search rules in
    let more : FitsSigned w32 c.args.more = search rules in
    let a = c.from-2.ensures ∙ to_z-of_z w32 c.args.hang hang in
    let b = c.from-3.ensures ∙ to_z-of_z w32 c.args.more more in
    let fm : FitsSigned w64 c.from.result = omega (arith, ints, c.from.ensures) in
    let fi : FitsSigned w64 c.from-2.result = omega (arith, ints, a, hang) in
    let fs : FitsSigned w64 c.from-3.result = omega (arith, ints, b, more) in
    let far : FitsSigned w64 (c.from.result +ℤ c.from-2.result +ℤ c.from-3.result) = omega (arith, ints, c.from.ensures, a, b, hang, more) in
    let near : FitsSigned w64 (c.from.result +ℤ c.from-2.result) = omega (arith, ints, c.from.ensures, a, hang) in
    let sum : c.from.result +ℤ c.from-2.result +ℤ c.from-3.result ≡ pos c.args.margin +ℤ c.args.hang +ℤ c.args.more =
    rw (c.from.ensures, a, b) refl in
    c.hold.ensures ∙ ap hold (sum_of_three c.from.result c.from-2.result c.from-3.result fm fi fs near far ∙ sum)
