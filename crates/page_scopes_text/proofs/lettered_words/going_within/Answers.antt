use Rattle.std.proofs.Common.{◌≡◌, ◌+◌, ◌<◌, ℕ, suc, get_or, take, ap₂, sym, ◌∙◌, arith}
use Rattle.std.proofs.lemmas.List.{get_or-take}
use Rattle.page_scopes_words.specs.machine.Letters.{ends_run}
use Rattle.page_scopes_text.proofs.lettered_words.going_within.Goals as goal

pub returns-clause-goes : goal.returns-clause-goes
returns-clause-goes c = λ k low high.
    let text = c.args.text.now in
    let most = c.args.most in
    let last : suc k < most + 1 = omega (arith, high) in
    let here : get_or (take (most + 1) text) k 32 ≡ get_or text k 32 = get_or-take (most + 1) text k 32 (omega (arith, last)) in
    let next : get_or (take (most + 1) text) (suc k) 32 ≡ get_or text (suc k) 32 = get_or-take (most + 1) text (suc k) 32 last in
    sym (ap₂ (λ (a b : ℕ). ends_run c.args.quoted a b) here next) ∙ c.going_len-2.ensures.goes k low (omega (arith, high))
