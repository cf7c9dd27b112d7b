-- What a latch that ends full rows knows of a plan: a machine of proofs, which no public clause cites.
use Rattle.std.specs.Prelude.{◌≡◌, ℕ, List, ◌++◌}
use Rattle.std.specs.Borrow.{GName}
use Rattle.page_core_base.specs.Rows.{Item}
use Rattle.page_engine_header.specs.Header.{in_rows}

-- what a latch that is lent plans, and what follows the characters there
pub record RowPlanned (P : Type 0) : Type 0 where
  pub plan : P
  pub name : GName
  pub follows : List Item

-- the rest of the characters is still to come, in rows
pub record RowLeft {P O : Type 0} (left : P → O → List Item → Type 0) (plan : RowPlanned P) (name : GName) (now : O) (room : ℕ)
    (rest : List Item) : Type 0 where
  pub same_loan : name ≡ plan.name
  pub came : left plan.plan now (in_rows room rest ++ plan.follows)
