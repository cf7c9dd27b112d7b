-- What contracts of the code say by the definitions, and what is proved of these.
use Rattle.std.specs.Borrow.{Bor}
use Rattle.std.specs.Prelude.{ℕ, List, [], ◌∷◌, ◌≡◌, MatchOption, Option, MatchResult, ◌≤◌, length, ◌+◌, get_or}
use Rattle.std.specs.declared.option.Option.TheVariants.{Some, None}
use Rattle.std.specs.declared.result.Result.{Result}
use Rattle.std.specs.declared.result.Result.TheVariants.{Ok}
use Rattle.page_core_base.specs.Limits.{BODY, NAME, DEFS, NAMES}
use Rattle.page_core_base.specs.declared.limits.Limit.{Limit}
use Rattle.page_roff_names.specs.Names.{Entries, Definition, definition, Definitions, refusal, with_text, look, without_text, size}
use Rattle.page_roff_names.specs.declared.rows.EntryKind.{EntryKind}
use Rattle.page_roff_names.specs.declared.rows.EntryKind.TheVariants.{String}

abbrev pub entry_at : Entries → ℕ → List ℕ × Definition
entry_at es i = get_or es i ([], definition String [])

abbrev pub name_at : Entries → ℕ → List ℕ
name_at es i = (entry_at es i).0

abbrev pub definition_at : Entries → ℕ → Definition
definition_at es i = (entry_at es i).1

abbrev pub value_at : Entries → ℕ → List ℕ
value_at es i = (definition_at es i).value

-- what is lent is this
abbrev pub Lends : Option (Bor (List ℕ)) → Option (List ℕ) → Type 0
Lends lent wanted = MatchOption lent (wanted ≡ None) (λ value. wanted ≡ Some value.now)

-- all is as wanted, or else a limit is named and all is as it was
abbrev pub Defines :
    List ℕ → List ℕ → Definitions → Definitions → Result (Unit {0}) Limit → Definitions → Type 0
Defines name value wanted old result new = MatchResult result
    (λ _. (refusal name value wanted ≡ None) × (new ≡ wanted))
    (λ limit. (refusal name value wanted ≡ Some limit) × (new ≡ old))

-- a string or a macro with this value is defined, or a limit is named
abbrev pub DefinesText :
    EntryKind → List ℕ → List ℕ → Definitions → Result (Unit {0}) Limit → Definitions → Type 0
DefinesText meaning name value old result new =
    Defines name value (with_text name (definition meaning value) old) old result new

-- roff(7), "rn": a name without a definition is passed over
abbrev pub Renames : List ℕ → List ℕ → Definitions → Result (Unit {0}) Limit → Definitions → Type 0
Renames old_name name old result new = MatchOption (look old_name old.texts)
    ((result ≡ Ok tt) × (new ≡ old))
    (λ d. Defines name d.value (with_text name d (without_text old_name old)) old result new)

-- the bytes of a name, and of its string or body
pub record EntryFits (e : List ℕ × Definition) : Type 0 where
  pub name : length e.0 ≤ NAME
  pub value : length e.1.value ≤ BODY

-- those of each name
abbrev pub EntriesFit : Entries → Type 0
EntriesFit [] = Unit {0}
EntriesFit (e ∷ es) = EntryFits e × EntriesFit es

-- these; how many names there are; and the bytes of all names, strings and bodies
pub record DefinitionsFit (d : Definitions) : Type 0 where
  pub texts : EntriesFit d.texts
  pub registers : EntriesFit d.registers
  pub names : length d.texts + length d.registers ≤ NAMES
  pub bytes : size d.texts + size d.registers ≤ DEFS
