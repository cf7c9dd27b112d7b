-- Strings and macros by name, number registers by name, and which definitions are refused. Source: roff(7), `ds`, `de`, `nr`.
use Rattle.std.specs.Cmp.Lexicographic.{slice_cmp}
use Rattle.std.specs.FinMap.{find as find_entry, put as put_entry}
use Rattle.std.specs.FinMap.Entries.{where_key}
use Rattle.std.specs.Ordering.{nat_cmp, eq_by_cmp}
use Rattle.std.specs.Prelude.{ℕ, List, ◌+◌, [], ◌∷◌, length, codes, Option, option_map, find, not, ℤ, nat_lt, cond, option_and_then}
use Rattle.std.specs.Str.{bytes_eq}
use Rattle.std.specs.declared.cmp.Ordering.{Ordering}
use Rattle.std.specs.declared.option.Option.TheVariants.{Some, None}
use Rattle.page_core_base.specs.Limits.{BODY, DEFS, NAME, NAMES}
use Rattle.page_core_base.specs.declared.limits.Limit.{Limit}
use Rattle.page_core_base.specs.declared.limits.Limit.TheVariants.{Name, Names, Body, Defs}
use Rattle.page_roff_names.specs.declared.rows.EntryKind.{EntryKind}
use Rattle.page_roff_names.specs.declared.rows.EntryKind.TheVariants.{String, Macro, Register}

-- ---- What names stand for, as a list of entries. Source: roff(7), "ds", "de", "nr".

-- what a name stands for: a string or a macro with its value, or a number register
pub record Definition : Type 0 where
  pub meaning : EntryKind
  pub value : List ℕ

abbrev pub definition : EntryKind → List ℕ → Definition
definition the_meaning the_value = record { meaning = the_meaning; value = the_value }

-- a name and its definition, for each name
abbrev pub Entries : Type 0
Entries = List (List ℕ × Definition)

-- the bytes of all names and values
abbrev pub size : Entries → ℕ
size [] = 0
size (e ∷ es) = length e.0 + length e.1.value + size es

-- ---- The strings that are there before any is defined. Source: roff(7), "PREDEFINED STRINGS".

abbrev pub predefined_strings : List (List ℕ × List ℕ)
predefined_strings =
    (codes "R", codes "\\(rg") ∷ (codes "Tm", codes "(Tm)") ∷ (codes "S", [])
    ∷ (codes "lq", codes "\\(lq") ∷ (codes "rq", codes "\\(rq") ∷ (codes "q", codes "\\(dq")
    ∷ (codes "Ba", codes "|") ∷ (codes "Am", codes "&") ∷ (codes "Lt", codes "<") ∷ (codes "Gt", codes ">")
    ∷ (codes "Ne", codes "\\(!=") ∷ (codes "Le", codes "\\(<=") ∷ (codes "Ge", codes "\\(>=")
    ∷ (codes "Pm", codes "\\(+-") ∷ []

unfoldable pub predefined : List ℕ → Option (List ℕ)
predefined name = option_map (λ row. row.1) (find (λ row. bytes_eq name row.0) predefined_strings)

-- ---- Strings and macros by name, number registers by name, and which definitions are refused.
-- Source: roff(7), "MACRO SYNTAX", "ds", "as", "de", "am", "rm", "rn", "nr", "rr".

-- names in the order of their bytes
abbrev pub by_bytes : List ℕ → List ℕ → Ordering
by_bytes = slice_cmp nat_cmp

abbrev pub look : List ℕ → Entries → Option Definition
look name es = find_entry by_bytes name es

-- the entries with this definition of the name, in place of one that it has
abbrev pub put : List ℕ → Definition → Entries → Entries
put name the_definition es = put_entry by_bytes name the_definition es

abbrev pub without : List ℕ → Entries → Entries
without name es = where_key by_bytes (λ other. not (eq_by_cmp by_bytes name other)) es

-- strings and macros share one set of names, registers have another
pub record Definitions : Type 0 where
  pub texts : Entries
  pub registers : Entries

abbrev pub definitions : Entries → Entries → Definitions
definitions the_texts the_registers = record { texts = the_texts; registers = the_registers }

abbrev pub string_in : EntryKind → List ℕ → Option (List ℕ)
string_in String value = Some value
string_in _ value = None

abbrev pub body_in : EntryKind → List ℕ → Option (List ℕ)
body_in Macro value = Some value
body_in _ value = None

abbrev pub number_in : EntryKind → Option ℤ
number_in (Register n) = Some n
number_in _ = None

abbrev pub string_or : Option (List ℕ) → Option Definition → Option (List ℕ)
string_or otherwise None = otherwise
string_or otherwise (Some d) = string_in d.meaning d.value

abbrev pub body_or_none : Option Definition → Option (List ℕ)
body_or_none None = None
body_or_none (Some d) = body_in d.meaning d.value

-- the string of a name; a predefined one is there while no definition hides it
abbrev pub string_of : List ℕ → Definitions → Option (List ℕ)
string_of name d = string_or (predefined name) (look name d.texts)

-- the body of a macro: its lines, each with its end
abbrev pub body_of : List ℕ → Definitions → Option (List ℕ)
body_of name d = body_or_none (look name d.texts)

-- the number in a register
abbrev pub number_of : List ℕ → Definitions → Option ℤ
number_of name d = option_and_then (λ found. number_in found.meaning) (look name d.registers)

abbrev pub with_text : List ℕ → Definition → Definitions → Definitions
with_text name the_definition d = record { texts = put name the_definition d.texts; registers = d.registers }

abbrev pub without_text : List ℕ → Definitions → Definitions
without_text name d = record { texts = without name d.texts; registers = d.registers }

abbrev pub with_register : List ℕ → ℤ → Definitions → Definitions
with_register name n d = record { texts = d.texts; registers = put name (definition (Register n) []) d.registers }

abbrev pub without_register : List ℕ → Definitions → Definitions
without_register name d = record { texts = d.texts; registers = without name d.registers }

-- the first limit that is passed: by the bytes of a name, the count of all names, the bytes of a value, and of all
unfoldable pub first_passed : ℕ → ℕ → ℕ → ℕ → Option Limit
first_passed name names value bytes =
    cond (nat_lt NAME name) (Some Name)
    (cond (nat_lt NAMES names) (Some Names)
    (cond (nat_lt BODY value) (Some Body)
    (cond (nat_lt DEFS bytes) (Some Defs) None)))

-- the limit that the definition of this name with this value passes, where all would be as in `d` after it
abbrev pub refusal : List ℕ → List ℕ → Definitions → Option Limit
refusal name value d =
    first_passed (length name) (length d.texts + length d.registers)
    (length value) (size d.texts + size d.registers)
