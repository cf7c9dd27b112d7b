-- Regions: the names that begin and end them, their heads and their end lines, and how much is held of one that is open. Source: roff(7), `de`, `ig`.
use Rattle.std.specs.Prelude.{ℕ, List, codes, Option, Some, None, ◌==◌, length, if◌then◌else◌, [], ◌∷◌, option_map, nat_le, Bool, false, not, ◌||◌}
use Rattle.std.specs.Str.{bytes_eq}
use Rattle.page_core_base.specs.Limits.{NAME}
use Rattle.page_roff_syntax.specs.Arguments.{arguments, argument_name}
use Rattle.page_roff_syntax.specs.LineForms.{form_of}
use Rattle.page_roff_syntax.specs.declared.line_forms.LineForm.{LineForm}
use Rattle.page_roff_syntax.specs.declared.line_forms.LineForm.TheVariants.{Control}
use Rattle.page_roff_syntax.specs.declared.quotes.Argument.{Argument}
use Rattle.page_roff_syntax.specs.declared.region_heads.RegionHead.{RegionHead}
use Rattle.page_roff_syntax.specs.declared.regions.RegionKind.{RegionKind}
use Rattle.page_roff_syntax.specs.declared.regions.RegionKind.TheVariants.{Define, Append, Ignore, Table, Equation, Picture}
use Rattle.std.specs.Option.{option_or}

-- ---- Regions: the names that begin and end them. Source: roff(7), "de", "am", "ig", "TS", "EQ", "PS".

abbrev pub region_name : RegionKind → List ℕ
region_name Define = codes "de"
region_name Append = codes "am"
region_name Ignore = codes "ig"
region_name Table = codes "TS"
region_name Equation = codes "EQ"
region_name Picture = codes "PS"

-- the name that ends it, where its head may not choose one
abbrev pub fixed_ending : RegionKind → Option (List ℕ)
fixed_ending Table = Some (codes "TE")
fixed_ending Equation = Some (codes "EN")
fixed_ending Picture = Some (codes "PE")
fixed_ending _ = None

-- ---- Regions: their heads, and the lines that end them. Source: roff(7), "de", "am", "ig", "TS", "EQ", "PS".

-- the first argument, if it is a name: one without a byte is none
abbrev pub first_named : List (Argument (List ℕ)) → Option (Argument (List ℕ))
first_named [] = None
first_named (a ∷ more) = if length a.text == 0 then None else Some a

abbrev pub second_named : List (Argument (List ℕ)) → Option (Argument (List ℕ))
second_named [] = None
second_named (a ∷ more) = first_named more

-- the macro that a region defines is its head's first argument
abbrev pub name_in : RegionKind → List (Argument (List ℕ)) → Option (Argument (List ℕ))
name_in Define args = first_named args
name_in Append args = first_named args
name_in _ args = None

-- the end name is the argument after it, or the first one of `ig`; that of a table, an equation or a
-- picture is fixed
abbrev pub ending_in : RegionKind → List (Argument (List ℕ)) → Option (Argument (List ℕ))
ending_in Define args = second_named args
ending_in Append args = second_named args
ending_in Ignore args = first_named args
ending_in _ args = None

-- the head of a region: the column of its name, and its rest, of which the first byte is at a column
unfoldable pub region_head : RegionKind → ℕ → ℕ → List ℕ → RegionHead (List ℕ)
region_head kind column rest_column rest =
    let args = arguments rest_column rest in record { kind = kind; column = column; name = name_in kind args; ending = ending_in kind args }

-- ---- what its names are

abbrev pub macro_name : RegionHead (List ℕ) → Option (List ℕ)
macro_name head = option_map argument_name head.name

-- the end name that it asks for
abbrev pub asked_ending : RegionHead (List ℕ) → Option (List ℕ)
asked_ending head = option_map argument_name head.ending

-- a full stop where there is none, or one beyond the limit of names
abbrev pub ending_of : Option (List ℕ) → List ℕ
ending_of None = codes "."
ending_of (Some name) = if nat_le (length name) NAME then name else codes "."

-- the name of its end line
abbrev pub end_name : RegionHead (List ℕ) → List ℕ
end_name head = ending_of (option_or (fixed_ending head.kind) (asked_ending head))

abbrev pub is_too_long : Option (List ℕ) → Bool
is_too_long None = false
is_too_long (Some name) = not (nat_le (length name) NAME)

-- its name, or its end name, is beyond the limit
abbrev pub has_long_name : RegionHead (List ℕ) → Bool
has_long_name head = is_too_long (macro_name head) || is_too_long (asked_ending head)

-- a control line of this name
abbrev pub is_called : List ℕ → LineForm (List ℕ) → Bool
is_called ending (Control name column rest rest_column) = bytes_eq name ending
is_called ending _ = false

-- whether a line ends a region of that end name
unfoldable pub is_ending : List ℕ → List ℕ → Bool
is_ending ending line = is_called ending (form_of line)

-- ---- A region that is open, and how much is held of it. Source: roff(7), "de", "am", "ig"; mandoc(1), "DIAGNOSTICS".

-- An open region: what it is, the macro that it defines, the name of its end line, and whether it is run. A
-- name beyond the limit of names defines nothing.
pub record Opened : Type 0 where
  pub kind : RegionKind
  pub name : Option (List ℕ)
  pub ending : List ℕ
  pub is_run : Bool

unfoldable pub within_limit : Option (List ℕ) → Option (List ℕ)
within_limit None = None
within_limit (Some name) = if nat_le (length name) NAME then Some name else None

unfoldable pub opened : RegionHead (List ℕ) → Bool → Opened
opened head is_run =
    record { kind = head.kind; name = within_limit (macro_name head); ending = end_name head; is_run = is_run }
