-- What the heads, the lines and the ends of loops and regions do. Source: roff(7), `while`, `de`, `ig`.
use Rattle.std.specs.Prelude.{ℕ, List, Option, Some, None, [], Bool, true, false, ◌∷◌, drop, unwrap_or, if◌then◌else◌, ◌++◌, nat_le, length, is_some, codes}
use Rattle.page_core_base.specs.Limits.{name_of, BODY}
use Rattle.page_core_base.specs.Messages.{Message, message_about}
use Rattle.page_core_base.specs.declared.limits.Limit.TheVariants as limits
use Rattle.page_core_base.specs.declared.lines_taken.Form.TheVariants as forms
use Rattle.page_core_base.specs.declared.note_kinds.NoteKind.TheVariants as kinds
use Rattle.page_core_base.specs.declared.places.Place.{Place}
use Rattle.page_roff_syntax.specs.Regions.{has_long_name, within_limit, macro_name, Opened, region_name}
use Rattle.page_roff_syntax.specs.declared.region_heads.RegionHead.{RegionHead}
use Rattle.page_roff_syntax.specs.declared.regions.RegionKind.{RegionKind}
use Rattle.page_roff_syntax.specs.declared.regions.RegionKind.TheVariants.{Define, Append, Ignore}
use Rattle.page_roff_names.specs.Names.{Definitions, definition, with_text}
use Rattle.page_roff_names.specs.declared.rows.EntryKind.TheVariants.{Macro}
use Rattle.page_roff_heads.specs.declared.loops.LoopHead.{LoopHead}
use Rattle.page_roff_values.specs.Values.{lines_in, expanded}
use Rattle.page_roff_definitions.specs.Definitions.{with_line, settles}
use Rattle.page_roff_definitions.specs.Definitions as defining
use Rattle.page_roff_effects.specs.Lines.{called_body, after_expansion, defines}
use Rattle.page_roff_effects.specs.States.{Memory, PartOutcome, nothing, after_notes, reports_at, with_body, reports, TextSetting, surroundings, gives_line, at, note_at, loop_product}

-- ---- What the heads and the lines of regions do. Source: roff(7), "de", "am", "ig"; mandoc(1), "unsupported".

-- ---- the head

-- what a macro's body begins with: `am` goes on with the one that there is, and a string has none
abbrev pub first_body : RegionKind → List ℕ → Definitions → Option (List ℕ)
first_body Define name d = Some []
first_body Append name d = Some (unwrap_or (called_body name d) [])
first_body _ name d = None

-- without a name there is no body
abbrev pub body_begun : RegionKind → Option (List ℕ) → Definitions → Option (List ℕ)
body_begun kind None d = None
body_begun kind (Some name) d = first_body kind name d

-- a name or an end name that is longer than a name may be
abbrev pub name_notes : RegionHead (List ℕ) → ℕ → List Message
name_notes head number =
    if has_long_name head then
    message_about kinds.Limit (record { line = number; column = head.column }) (name_of limits.Name) ∷ []
    else []

abbrev pub table_notes : RegionKind → ℕ → ℕ → List Message
table_notes Define column number = []
table_notes Append column number = []
table_notes Ignore column number = []
table_notes _ column number = message_about kinds.Table (record { line = number; column = column }) [] ∷ []

-- a head that is run, or passed over: then the body is left alone, which may be the text of a loop around it
unfoldable pub head_outcome : RegionHead (List ℕ) → Bool → Memory → PartOutcome
head_outcome head true m =
    reports (name_notes head m.number ++ table_notes head.kind head.column m.number)
    (with_body (body_begun head.kind (within_limit (macro_name head)) m.definitions) m)
head_outcome head false m = nothing m

-- ---- lines

-- the line that passes the limit is reported, and from then on there is no body
abbrev pub longer_if : Bool → List ℕ → Memory → PartOutcome
longer_if true body m = nothing (with_body (Some body) m)
longer_if false body m = reports_at kinds.Limit 1 (name_of limits.Body) (with_body None m)

abbrev pub longer : Option (List ℕ) → List ℕ → Memory → PartOutcome
longer None line m = nothing m
longer (Some body) line m = longer_if (nat_le (length (with_line body line)) BODY) (with_line body line) m

-- a line of a body is expanded in copy mode; where there is no body it is not expanded
abbrev pub body_outcome : TextSetting → List ℕ → Memory → PartOutcome
body_outcome setting line m =
    if is_some m.body then
    after_expansion (expanded (surroundings true setting m) m.number line) (λ finished m. longer m.body finished m) m
    else nothing m

-- the lines of tables, equations and pictures are given as they are written
abbrev pub kind_outcome : TextSetting → RegionKind → List ℕ → Memory → PartOutcome
kind_outcome setting Define line m = body_outcome setting line m
kind_outcome setting Append line m = body_outcome setting line m
kind_outcome setting Ignore line m = nothing m
kind_outcome setting _ line m = gives_line forms.Raw line 0 m

-- a line of a region that is run, or passed over
unfoldable pub line_outcome : TextSetting → Opened → Bool → List ℕ → Memory → PartOutcome
line_outcome setting o true line m = kind_outcome setting o.kind line m
line_outcome setting o false line m = nothing m

-- ---- the end

abbrev pub defines_macro : List ℕ → List ℕ → Place → Definitions → defining.DefinitionOutcome
defines_macro name body place d = settles name body (with_text name (definition Macro body) d) place d

-- a macro is defined, unless that passes a limit; without a name or a body nothing is
abbrev pub macro_definition : Option (List ℕ) → Option (List ℕ) → Place → Definitions → defining.DefinitionOutcome
macro_definition (Some name) (Some body) place d = defines_macro name body place d
macro_definition _ _ place d = defining.outcome d []

-- a region that was run drops its body, one that was passed over had none
abbrev pub body_freed : Bool → Memory → Memory
body_freed true m = with_body None m
body_freed false m = m

-- the end line of a region that is run, or passed over
unfoldable pub end_outcome : Opened → Bool → Memory → PartOutcome
end_outcome o true m = defines (macro_definition o.name m.body (at m 1) m.definitions) (body_freed o.is_run m)
end_outcome o false m = nothing (body_freed o.is_run m)

-- ---- the end of a source

-- what is open there is dropped with a message, unless all was given up
abbrev pub missing_notes : List ℕ → Bool → Memory → List Message
missing_notes name true m = []
missing_notes name false m = note_at kinds.MissingEnd 1 name m

abbrev pub finish_region : Option Opened → Bool → Memory → PartOutcome
finish_region None gave_up m = nothing m
finish_region (Some o) gave_up m = reports (missing_notes (region_name o.kind) gave_up m) (body_freed o.is_run m)

-- A source ends, in a region or not, in a loop that is collected or not. A region inside such a loop is dropped with it.
unfoldable pub finish_outcome : Option Opened → Bool → Bool → Memory → PartOutcome
finish_outcome region true gave_up m = reports (missing_notes (codes "while") gave_up m) (with_body None m)
finish_outcome region false gave_up m = finish_region region gave_up m

-- ---- What the heads, the lines and the turns of loops do. Source: roff(7), "while"; mandoc(1), "input stack limit exceeded, infinite loop?".

-- ---- what is collected

-- what of the head's line belongs to the loop, if anything does
abbrev pub longer_if_some : Option (List ℕ) → Memory → PartOutcome
longer_if_some None m = nothing m
longer_if_some (Some line) m = longer m.body line m

-- the condition is the first line that is collected, and is followed by what of its own line belongs to the loop
unfoldable pub loop_outcome : LoopHead (List ℕ) → Memory → PartOutcome
loop_outcome head m =
    let first = longer (Some []) head.condition m in after_notes first.notes (longer_if_some head.body first.memory)

-- a raw line of a loop, which is still run, or was given up with all else of the source line
unfoldable pub collect_outcome : Bool → List ℕ → Memory → PartOutcome
collect_outcome true line m = longer m.body line m
collect_outcome false line m = nothing m

-- ---- the end

-- the first line that was collected is the condition, and the others are run in each turn
abbrev pub first_line : List (List ℕ) → List ℕ
first_line [] = []
first_line (line ∷ lines) = line

abbrev pub condition_in : List ℕ → List ℕ
condition_in text = first_line (lines_in text)

abbrev pub body_in : List ℕ → List (List ℕ)
body_in text = drop 1 (lines_in text)

-- a loop beyond the limit of running macros and loops is skipped
abbrev pub repeats_if : Bool → List ℕ → Memory → PartOutcome
repeats_if true text m = record { notes = []; product = loop_product (condition_in text) (body_in text); memory = m }
repeats_if false text m = reports_at kinds.Loop 1 (name_of limits.Calls) m

-- one that passed the limit of bodies has none, and is not run
abbrev pub repeats_text : Bool → Option (List ℕ) → Memory → PartOutcome
repeats_text may_call None m = nothing m
repeats_text may_call (Some text) m = repeats_if may_call text m

-- a loop is whole: it is still run or was given up, and one more source may run or not
unfoldable pub close_outcome : Bool → Bool → Memory → PartOutcome
close_outcome true may_call m = repeats_text may_call m.body (with_body None m)
close_outcome false may_call m = nothing (with_body None m)
