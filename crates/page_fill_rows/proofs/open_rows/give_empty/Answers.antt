use Rattle.std.proofs.Common.{◌≡◌, ℕ, suc, ◌+◌, ◌-◌, ◌<◌, ◌≤◌, [], ◌∷◌, replicate, refl, arith}
use Rattle.page_core_base.specs.Rows.{row_of}
use Rattle.page_fill_rows.proofs.open_rows.give_empty.Goals as goal

rows-more : (n i : ℕ) → i < n → replicate (n - i) (row_of 0 []) ≡ row_of 0 [] ∷ replicate (n - (i + 1)) (row_of 0 [])
rows-more n i h = let e : n - i ≡ suc (n - (i + 1)) = omega arith in rw e refl

rows-done : (n i : ℕ) → n ≤ i → replicate (n - i) (row_of 0 []) ≡ []
rows-done n i h = let e : n - i ≡ 0 = omega arith in rw e refl

pub loop-init : goal.loop-init
loop-init g c = let e : c.args.count - 0 ≡ c.args.count = omega arith in rw e (λ plan more said h. h)

pub loop-preserved : goal.loop-preserved
loop-preserved g c =
    let more-rows = rows-more c.args.count c.loop.counter c.loop-test.true in
    λ plan more said h. c.give.ensures plan _ _ (rw more-rows at (c.loop.invariant plan more said h))

pub returns : goal.returns
returns g c =
    let done = rows-done c.args.count c.loop.counter (omega arith) in
    λ plan more said h. rw done at (c.loop.invariant plan more said h)
