use Rattle.std.proofs.Common.{◌≡◌, ℕ, suc, ◌+◌, ◌-◌, ◌<◌, arith}
use Rattle.page_scopes_words.proofs.tokens.give_blank_cells.Goals as goal

one_less : (count i : ℕ) → i < count → count - i ≡ suc (count - (i + 1))
one_less count i h = omega arith

pub loop-i-init : goal.loop-i-init
loop-i-init g c = let all : c.args.count - 0 ≡ c.args.count = omega arith in λ plan rest h. rw all h

pub loop-i-preserved : goal.loop-i-preserved
loop-i-preserved g c = λ plan rest h.
    let l = c.loop-i in
    c.give_letters.ensures plan _ (rw (one_less c.args.count l._i c.loop-i-test.true) at (l.invariant plan rest h))

pub returns : goal.returns
returns g c = λ plan rest h.
    let none : c.args.count - c.loop-i._i ≡ 0 = omega arith in
    rw none at (c.loop-i.invariant plan rest h)
