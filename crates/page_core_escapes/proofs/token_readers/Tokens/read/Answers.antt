use Rattle.std.proofs.Common.{◌<◌, ◌≤◌, length, ap, sym, ◌∙◌, arith}
use Rattle.std.proofs.lemmas.Bool.Decides.{nat_tests}
use Rattle.std.proofs.lemmas.List.{take_rest}
use Rattle.page_core_escapes.specs.Tokens.{token_bytes}
use Rattle.page_core_escapes.proofs.Unwinding.{tokens_more, tokens_none}
use Rattle.page_core_escapes.proofs.token_readers.Tokens.read.Goals as goal

pub returns-then-is_empty-clause-next : goal.returns-then-is_empty-clause-next
returns-then-is_empty-clause-next c =
    let t = c.self.inside in
    let none : length t.rest.now ≤ 0 = grind (arith, nat_tests) in
    let e = sym c.self.view_is ∙ tokens_none t.quoted t.rest.now none in
    (e, e)

pub returns-clause-next : goal.returns-clause-next
returns-clause-next c =
    let t = c.self.inside in
    let some : 0 < length t.rest.now = grind (arith, nat_tests) in
    let v = c.read_token-token.ensures in
    let n = c.len.result in
    let less : 0 < n = rw c.len.ensures (v.some some) in
    let is = c.len.ensures ∙ ap (λ u. length (token_bytes u)) v.value in
    rw (take_rest t.rest.now n, v.value) (sym c.self.view_is ∙ tokens_more t.quoted t.rest.now n less is)
