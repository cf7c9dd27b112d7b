use Rattle.std.proofs.Common.{ℕ, List, sym, rules}
use Rattle.std.specs.Borrow.{Bor}
use Rattle.std.proofs.lemmas.List.Sorted.{answers_always}
use Rattle.page_core_tables.proofs.Tables.{searched_found, searched_absent}
use Rattle.page_core_tables.proofs.rows.find.Goals as goal

pub returns-in-Ok : goal.returns-in-Ok
returns-in-Ok c =
    let result = c.in-Ok.ensures.position (λ (r : ℕ × ℕ × Bor (List ℕ)). r.0) (answers_always _ _ _ (λ f a r g called. search rules)) in
    sym (searched_found c.args.rows.now c.args.key c.requires c.in-Ok.place _ c.in-Ok.ensures.bound result)

pub returns-in-Err : goal.returns-in-Err
returns-in-Err c =
    let result = c.in-Err.ensures.position (λ (r : ℕ × ℕ × Bor (List ℕ)). r.0) (answers_always _ _ _ (λ f a r g called. search rules)) in
    sym (searched_absent c.args.rows.now c.args.key c.requires c.in-Err.field-0 c.in-Err.ensures.bound result)
