-- The body of a page between its header and its footer: its language, its title, and the events of each line. Source: man(7), mdoc(7).
use Rattle.std.specs.Prelude.{ℕ, List, [], ◌∷◌, Bool, if◌then◌else◌, codes, ◌||◌, Option, None, Some, is_some, true, false, ◌==◌, ◌++◌, unwrap_or}
use Rattle.std.specs.Str.{bytes_eq}
use Rattle.page_core_base.specs.Rows.{Item, shown, says}
use Rattle.page_core_base.specs.Texts.{TakenLine}
use Rattle.page_core_base.specs.declared.note_kinds.NoteKind.TheVariants.{LateMacro}
use Rattle.page_core_base.specs.declared.page_settings.Language.{Language}
use Rattle.page_core_base.specs.declared.page_settings.Language.TheVariants as languages
use Rattle.page_core_base.specs.declared.page_settings.Settings.{Settings}
use Rattle.page_core_base.specs.declared.pieces.Piece.TheVariants as pieces
use Rattle.page_core_base.specs.declared.places.Place.{Place}
use Rattle.page_roff_syntax.specs.Arguments.{arguments}
use Rattle.page_sets_names.specs.Names.{prologue_name}
use Rattle.page_sets_names.specs.declared.macro_names.Prologue.{Prologue}
use Rattle.page_sets_lines.specs.Lines.{is_nameless, name_of, layout_request, plain_line}
use Rattle.page_sets_lines.specs.declared.plain_lines.PlainLine.{PlainLine}
use Rattle.page_sets_lines.specs.declared.plain_lines.PlainLine.TheVariants as lines
use Rattle.page_sets.specs.Mdoc.{either_indent}
use Rattle.page_sets.specs.declared.either.Either.{Either}
use Rattle.page_sets.specs.declared.either.Either.TheVariants.{Man, Mdoc}
use Rattle.page_sets.specs.declared.either.Either.TheVariants as sets
use Rattle.page_scopes_words.specs.Words.{at}
use Rattle.page_scopes.specs.Bodies.{PageEdge}
use Rattle.page_scopes.specs.Bodies as scopes
use Rattle.page_engine_header.specs.Header.{cut_items, fields_after, footer_row, no_fields}
use Rattle.page_engine_header.specs.declared.fields.Fields.{Fields}
use Rattle.page_engine_header.specs.declared.headers.Measure.{Measure}

-- ---- The title of a page: the fields of header and footer, up to where its body begins. Source: man(7), TH; mdoc(7), Dd, Dt and Os;
-- mandoc(1), "DIAGNOSTICS".

-- a macro of the prologue comes too late in the body; before it, its fields are cut: the arguments in the rest of its line
abbrev pub title_items : (has_begun : Bool) → Place → Prologue → List ℕ → List Item
title_items has_begun place name rest =
    if has_begun then says LateMacro place (prologue_name name) ∷ [] else cut_items name place (arguments 1 rest)

abbrev pub title_fields : (has_begun : Bool) → Prologue → (os : List ℕ) → List ℕ → Fields → Fields
title_fields has_begun name os rest fields =
    if has_begun then fields else fields_after name os (arguments 1 rest) fields

-- ---- The language of a page: the set of macros that its lines are of. Source: mandoc(1), -m; man(7), TH; mdoc(7), Dd.

-- a macro is of man(7), but `Dd` is of mdoc(7)
abbrev pub macro_language : List ℕ → Either
macro_language name = if bytes_eq name (codes "Dd") then Mdoc else Man

-- a control line without a name, or of a request that changes rows, is of both
abbrev pub control_language : TakenLine → Option Either
control_language line =
    if is_nameless line || is_some (layout_request (name_of line)) then None else Some (macro_language (name_of line))

-- text with a word, and a line as it is written, are of man(7)
abbrev pub form_language : TakenLine → Option PlainLine → Option Either
form_language line None = control_language line
form_language line (Some lines.Wordless) = None
form_language line (Some lines.Blank) = None
form_language line (Some lines.Words) = Some Man
form_language line (Some lines.Raw) = Some Man

-- the language that a line decides, if it decides one
unfoldable pub language_of : TakenLine → Option Either
language_of line = form_language line (plain_line line.form line.text)

-- ---- The body of a page between its header and its footer: the events of each line, and the header before the event that begins the body.
-- Source: man(7); mandoc(1), "ASCII Output" and "DIAGNOSTICS".

-- What decides the header and the footer: the measure of rows, with the indent that the settings give; the set of macros, and whether a line or the
-- settings decided it; the system that is the source of a page without one; and the fields.
pub record HeaderEdge : Type 0 where
  pub measure : Measure
  pub indent : Option ℕ
  pub set : Either
  pub is_decided : Bool
  pub os : List ℕ
  pub fields : Fields

-- what decides the pieces of the lines to come
pub record BodyEdge : Type 0 where
  pub header : HeaderEdge
  pub scopes : PageEdge

-- ---- the header

abbrev pub is_mdoc : Either → Bool
is_mdoc sets.Man = false
is_mdoc sets.Mdoc = true

-- a blank row, unless one is there, and the footer
unfoldable pub footer_items : HeaderEdge → ℕ → ℕ → List Item
footer_items h line blank_rows =
    (if blank_rows == 0 then shown (pieces.Space 1) ∷ [] else []) ++ footer_row h.measure (at line 1) h.fields

-- ---- the language

-- the indent of a page is that of its settings, else that of its set of macros
abbrev pub indent_of : Option ℕ → Either → ℕ
indent_of given set = unwrap_or given (either_indent set)

-- before a line of a set: text is at its indent, and no scope is open
abbrev pub chosen : BodyEdge → Either → BodyEdge
chosen b set =
    let m = record b.header.measure { indent = indent_of b.header.indent set } in
    record {
      header = record b.header { measure = m; set = set; is_decided = true };
      scopes = scopes.start_edge (record { indent = m.indent; output = m.output });
    }

abbrev pub chosen_if : BodyEdge → Option Either → BodyEdge
chosen_if b None = b
chosen_if b (Some set) = chosen b set

-- ---- the start

-- the set of macros that the settings ask for, and whether they do: a page is read as man(7) until its language is decided
abbrev pub asked : Language → Either × Bool
asked languages.Auto = (sets.Man, false)
asked languages.Man = (sets.Man, true)
asked languages.Mdoc = (sets.Mdoc, true)

-- before a page's first line
abbrev pub start_of : Settings → BodyEdge
start_of s =
    let indent = indent_of s.indent (asked s.language).0 in
    record {
      header = record {
        measure = record { width = s.width; indent = indent; output = s.output };
        indent = s.indent;
        set = (asked s.language).0;
        is_decided = (asked s.language).1;
        os = s.os.bytes;
        fields = no_fields s.os.bytes;
      };
      scopes = scopes.start_edge (record { indent = indent; output = s.output });
    }
