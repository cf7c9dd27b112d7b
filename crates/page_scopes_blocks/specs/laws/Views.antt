-- What contracts of the code say by the definitions, and what is proved of these.
use Rattle.std.specs.Prelude.{ℕ, ◌≤◌, length, List, Option, None, Some}
use Rattle.page_core_base.specs.Limits.{LINE}
use Rattle.page_roff_syntax.specs.declared.quotes.Argument.{Argument}

-- the value of an option is a text of a line
abbrev pub LengthFits : Option (Argument (List ℕ)) → Type 0
LengthFits None = Unit {0}
LengthFits (Some width) = length width.text ≤ LINE
