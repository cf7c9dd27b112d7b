-- What contracts of the code say by the definitions, and what is proved of these.
use Rattle.std.specs.Prelude.{List, ◌++◌, map, ◌≤◌, length, IfSome}
use Rattle.page_core_base.specs.Limits.{BODY}
use Rattle.page_roff_names.specs.laws.Views.{DefinitionsFit}
use Rattle.page_roff_effects.specs.States.{Memory, Given, PartOutcome, says, lines_of}

-- what is remembered, and what was given so far, in order
pub record State : Type 0 where
  pub memory : Memory
  pub out : List Given

-- after a part: its messages come before its line
abbrev pub after : State → PartOutcome → State
after s o = record { memory = o.memory; out = s.out ++ (map says o.notes ++ lines_of o.product) }

-- names and what they stand for; and the bytes of the body that the open region has so far
pub record MemoryFits (m : Memory) : Type 0 where
  pub names : DefinitionsFit m.definitions
  pub body : IfSome m.body (λ body. length body ≤ BODY)
