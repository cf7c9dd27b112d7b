-- The status that a run ends with. Source: mandoc(1), EXIT STATUS.
use Rattle.std.specs.Prelude.{ℕ, Option, Some, None}
use Rattle.page_core_base.specs.declared.note_kinds.Level.{Level}
use Rattle.page_core_base.specs.declared.note_kinds.Level.TheVariants.{Base, Style, Warning, Error, Unsupp}

-- by the worst level of the messages that were given
abbrev pub status : Option Level → ℕ
status None = 0
status (Some Base) = 1
status (Some Style) = 1
status (Some Warning) = 2
status (Some Error) = 3
status (Some Unsupp) = 4
