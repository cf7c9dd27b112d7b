-- Fronts of what lines settle.
use Rattle.std.specs.Prelude.{◌≡◌, List, ◌++◌}
use Rattle.page_core_base.specs.Rows.{Laid}

-- a list that another one begins with
pub record IsFront {A : Type 0} (front all : List A) : Type 0 where
  pub rest : List A
  pub parts : all ≡ front ++ rest

-- rows and messages that others begin with
pub record IsLaidFront {E : Type 0} (front all : Laid E) : Type 0 where
  pub rows : IsFront front.rows all.rows
  pub notes : IsFront front.notes all.notes
