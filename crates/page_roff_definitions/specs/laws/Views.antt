-- What contracts of the code say by the definitions, and what is proved of these.
use Rattle.std.specs.Prelude.{◌≡◌, List, ◌+◌, ◌≤◌, length}
use Rattle.page_core_base.specs.Limits.{LINE}
use Rattle.page_core_base.specs.Messages.{Message}
use Rattle.page_core_base.specs.laws.Views.{Came}
use Rattle.page_roff_names.specs.Names.{Definitions}
use Rattle.page_roff_definitions.specs.Definitions.{DefinitionOutcome}
use Rattle.page_roff_definitions.specs.declared.definitions.RequestLine.{RequestLine}

-- the definitions are those of the outcome, and its messages came
abbrev pub Does : {P S : Type 0} → (P → S → List Message → Type 0) → S → S → Definitions → DefinitionOutcome → Type 0
Does left old new definitions wanted = (definitions ≡ wanted.definitions) × Came left old wanted.notes new

-- the rest of a request's line lies within a line
abbrev pub FitsRequest : RequestLine → Type 0
FitsRequest line = (length line.rest.now ≤ LINE) × (line.rest_column + length line.rest.now ≤ LINE + 1)
