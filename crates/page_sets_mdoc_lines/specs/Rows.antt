-- The table of mdoc(7): what each macro does, and how it is to the macros among its words. Source: mdoc(7), "MACRO SYNTAX".
use Prim.Native.String.{String}
use Rattle.std.specs.Option.{option_map_or}
use Rattle.std.specs.Prelude.{ℕ, List, Option, option_map, find, Bool, codes, true, false, [], ◌∷◌, None, Some, option_and_then, if◌then◌else◌}
use Rattle.std.specs.Str.{bytes_eq}
use Rattle.page_core_base.specs.Messages.{row_in}
use Rattle.page_core_base.specs.declared.cells.Font.TheVariants as fonts
use Rattle.page_sets_names.specs.declared.macro_names.BodyParagraphName.TheVariants as paragraphs
use Rattle.page_sets_names.specs.declared.macro_names.HeadingName.TheVariants as headings
use Rattle.page_sets_names.specs.declared.macro_names.OneLineName.TheVariants as one_lines
use Rattle.page_sets_names.specs.declared.macro_names.Prologue.TheVariants as prologues
use Rattle.page_sets_names.specs.declared.marks.Marks.TheVariants as marks
use Rattle.page_sets_names.specs.declared.marks.Quotation.TheVariants as quotations
use Rattle.page_sets_mdoc_lines.specs.declared.blocks.BlockMacro.TheVariants as blocks
use Rattle.page_sets_mdoc_lines.specs.declared.blocks.LineMacro.{LineMacro}
use Rattle.page_sets_mdoc_lines.specs.declared.blocks.LineMacro.TheVariants as lines
use Rattle.page_sets_mdoc_lines.specs.declared.blocks.Sentence.TheVariants as sentences
use Rattle.page_sets_mdoc_lines.specs.declared.macros.Defaulted.TheVariants as defaults
use Rattle.page_sets_mdoc_lines.specs.declared.macros.Inline.{Inline}
use Rattle.page_sets_mdoc_lines.specs.declared.macros.Inline.TheVariants as inlines
use Rattle.page_sets_mdoc_lines.specs.declared.macros.Pair.TheVariants as pairs
use Rattle.page_sets_mdoc_lines.specs.declared.macros.System.TheVariants as systems
use Rattle.page_sets_mdoc_lines.specs.declared.rows.MacroRow.{MacroRow}

-- ---- Rows of a table by the name in each.

-- what the first row of a name says
abbrev pub said : {A : Type 0} → List (List ℕ × A) → List ℕ → Option A
said rows name = option_map (λ row. row.1) (find (λ row. bytes_eq name row.0) rows)

-- ---- The table of mdoc(7): what each macro does, and how it is to the macros among its words. Source: mdoc(7),
-- "MACRO REFERENCE" and "MACRO SYNTAX", of which the summary has the columns "Callable" and "Parsed".

-- a row of the table: a name, what it does where it begins a line, and the columns "Callable" and "Parsed"
abbrev pub row : String → LineMacro → Bool → Bool → List ℕ × MacroRow
row name begins callable parsed = (codes name, record { begins = begins; is_callable = callable; is_parsed = parsed })

-- the table
abbrev pub table : List (List ℕ × MacroRow)
table =
    row "Ar" (lines.Inline (inlines.Defaulted defaults.Files)) true true ∷
    row "Aq" (lines.Inline (inlines.Enclosure marks.Angle)) true true ∷
    row "An" (lines.Inline inlines.Author) true true ∷
    row "Ad" (lines.Inline (inlines.Words fonts.I)) true true ∷
    row "At" (lines.Inline (inlines.Words fonts.R)) true true ∷
    row "Ap" (lines.Inline inlines.Apostrophe) true true ∷
    row "Ao" (lines.Inline (inlines.Opens (pairs.Quotation quotations.Ao))) true true ∷
    row "Ac" (lines.Inline (inlines.Closes (pairs.Quotation quotations.Ao))) true true ∷
    row "Bl" (lines.Begins blocks.List) false false ∷
    row "Bd" (lines.Begins blocks.Display) false false ∷
    row "Bk" (lines.Begins blocks.Keep) false false ∷
    row "Brq" (lines.Inline (inlines.Enclosure marks.Curly)) true true ∷
    row "Bsx" (lines.Inline (inlines.System systems.BsdOs)) true true ∷
    row "Bx" (lines.Inline inlines.Bsd) true true ∷
    row "Bq" (lines.Inline (inlines.Enclosure marks.Square)) true true ∷
    row "Bo" (lines.Inline (inlines.Opens (pairs.Quotation quotations.Bo))) true true ∷
    row "Bc" (lines.Inline (inlines.Closes (pairs.Quotation quotations.Bo))) true true ∷
    row "Bro" (lines.Inline (inlines.Opens (pairs.Quotation quotations.Bro))) true true ∷
    row "Brc" (lines.Inline (inlines.Closes (pairs.Quotation quotations.Bro))) true true ∷
    row "Bf" (lines.Begins blocks.Fonts) false false ∷
    row "Cm" (lines.Inline (inlines.Words fonts.B)) true true ∷
    row "Cd" (lines.Inline inlines.Declaration) true true ∷
    row "Dq" (lines.Inline (inlines.Enclosure marks.Double)) true true ∷
    row "Dv" (lines.Inline (inlines.Words fonts.R)) true true ∷
    row "Dl" (lines.OneLine one_lines.Dl) false true ∷
    row "D1" (lines.OneLine one_lines.D1) false true ∷
    row "Do" (lines.Inline (inlines.Opens (pairs.Quotation quotations.Do))) true true ∷
    row "Dc" (lines.Inline (inlines.Closes (pairs.Quotation quotations.Do))) true true ∷
    row "Dx" (lines.Inline (inlines.System systems.DragonFly)) true true ∷
    row "Dd" (lines.Prologue prologues.Dd) false false ∷
    row "Dt" (lines.Prologue prologues.Dt) false false ∷
    row "Em" (lines.Inline (inlines.Words fonts.I)) true true ∷
    row "Ev" (lines.Inline (inlines.Words fonts.R)) true true ∷
    row "El" (lines.Ends blocks.List) false false ∷
    row "Ed" (lines.Ends blocks.Display) false false ∷
    row "Ek" (lines.Ends blocks.Keep) false false ∷
    row "Er" (lines.Inline (inlines.Words fonts.R)) true true ∷
    row "Eo" (lines.Inline (inlines.Opens pairs.Custom)) true true ∷
    row "Ec" (lines.Inline (inlines.Closes pairs.Custom)) true true ∷
    row "Ef" (lines.Ends blocks.Fonts) false false ∷
    row "Ex" (lines.Sentence sentences.Exit) false false ∷
    row "Fl" (lines.Inline inlines.Flag) true true ∷
    row "Fn" (lines.Inline inlines.Function) true true ∷
    row "Fa" (lines.Inline inlines.Arguments) true true ∷
    row "Ft" (lines.Inline inlines.TypeName) true true ∷
    row "Fo" (lines.Inline (inlines.Opens pairs.Function)) true true ∷
    row "Fc" (lines.Inline (inlines.Closes pairs.Function)) true true ∷
    row "Fd" (lines.Inline inlines.Declaration) false false ∷
    row "Fx" (lines.Inline (inlines.System systems.FreeBsd)) true true ∷
    row "It" lines.Item false true ∷
    row "Ic" (lines.Inline (inlines.Words fonts.B)) true true ∷
    row "In" lines.Include false false ∷
    row "Li" (lines.Inline (inlines.Words fonts.R)) true true ∷
    row "Lb" (lines.Inline (inlines.Words fonts.R)) false false ∷
    row "Lk" (lines.Inline inlines.Link) true true ∷
    row "Lp" (lines.Paragraph paragraphs.Lp) false false ∷
    row "Mt" (lines.Inline (inlines.Words fonts.I)) true true ∷
    row "Ms" (lines.Inline (inlines.Words fonts.B)) true true ∷
    row "Nm" (lines.Inline inlines.Name) true true ∷
    row "No" (lines.Inline (inlines.Words fonts.R)) true true ∷
    row "Ns" (lines.Inline inlines.NoSpace) true true ∷
    row "Nx" (lines.Inline (inlines.System systems.NetBsd)) true true ∷
    row "Nd" lines.Description false false ∷
    row "Op" (lines.Inline (inlines.Enclosure marks.Square)) true true ∷
    row "Oo" (lines.Inline (inlines.Opens (pairs.Quotation quotations.Oo))) true true ∷
    row "Oc" (lines.Inline (inlines.Closes (pairs.Quotation quotations.Oo))) true true ∷
    row "Ox" (lines.Inline (inlines.System systems.OpenBsd)) true true ∷
    row "Os" (lines.Prologue prologues.Os) false false ∷
    row "Pp" (lines.Paragraph paragraphs.Pp) false false ∷
    row "Pa" (lines.Inline (inlines.Defaulted defaults.Home)) true true ∷
    row "Pq" (lines.Inline (inlines.Enclosure marks.Round)) true true ∷
    row "Po" (lines.Inline (inlines.Opens (pairs.Quotation quotations.Po))) true true ∷
    row "Pc" (lines.Inline (inlines.Closes (pairs.Quotation quotations.Po))) true true ∷
    row "Pf" (lines.Inline inlines.Prefix) true true ∷
    row "Ql" (lines.Inline (inlines.Enclosure marks.Single)) true true ∷
    row "Qq" (lines.Inline (inlines.Enclosure marks.Straight)) true true ∷
    row "Qo" (lines.Inline (inlines.Opens (pairs.Quotation quotations.Qo))) true true ∷
    row "Qc" (lines.Inline (inlines.Closes (pairs.Quotation quotations.Qo))) true true ∷
    row "Rs" (lines.Begins blocks.Reference) false false ∷
    row "Re" (lines.Ends blocks.Reference) false false ∷
    row "Rv" (lines.Sentence sentences.Return) false false ∷
    row "Sq" (lines.Inline (inlines.Enclosure marks.Single)) true true ∷
    row "Sy" (lines.Inline (inlines.Words fonts.B)) true true ∷
    row "Sh" (lines.Heading headings.Sh) false true ∷
    row "Ss" (lines.Heading headings.Ss) false true ∷
    row "Sm" lines.Spacing false false ∷
    row "Sx" (lines.Inline (inlines.Words fonts.I)) true true ∷
    row "St" (lines.Inline (inlines.Words fonts.R)) false true ∷
    row "So" (lines.Inline (inlines.Opens (pairs.Quotation quotations.So))) true true ∷
    row "Sc" (lines.Inline (inlines.Closes (pairs.Quotation quotations.So))) true true ∷
    row "Ta" (lines.Inline inlines.NextColumn) true true ∷
    row "Tn" (lines.Inline (inlines.Words fonts.R)) true true ∷
    row "Tg" lines.Target false false ∷
    row "Ux" (lines.Inline (inlines.System systems.Unix)) true true ∷
    row "Va" (lines.Inline (inlines.Words fonts.I)) true true ∷
    row "Vt" (lines.Inline inlines.TypeName) true true ∷
    row "Xr" (lines.Inline inlines.Reference) true true ∷
    row "Xo" (lines.Inline (inlines.Opens pairs.Extension)) true true ∷
    row "Xc" (lines.Inline (inlines.Closes pairs.Extension)) true true ∷
    row "%T" (lines.Field fonts.I) false false ∷
    row "%A" (lines.Field fonts.R) false false ∷
    row "%C" (lines.Field fonts.R) false false ∷
    row "%D" (lines.Field fonts.R) false false ∷
    row "%I" (lines.Field fonts.R) false false ∷
    row "%N" (lines.Field fonts.R) false false ∷
    row "%O" (lines.Field fonts.R) false false ∷
    row "%P" (lines.Field fonts.R) false false ∷
    row "%Q" (lines.Field fonts.R) false false ∷
    row "%R" (lines.Field fonts.R) false false ∷
    row "%U" (lines.Field fonts.R) false false ∷
    row "%V" (lines.Field fonts.R) false false ∷
    row "%B" (lines.Field fonts.I) false false ∷
    row "%J" (lines.Field fonts.I) false false ∷
    []

-- the row of a name
unfoldable pub row_of : List ℕ → Option MacroRow
row_of name = row_in table name

-- what the macro of a name does where it begins a line
abbrev pub line_macro : List ℕ → Option LineMacro
line_macro name = option_map (λ row. row.begins) (row_of name)

abbrev pub inline_of : LineMacro → Option Inline
inline_of (lines.Inline inline) = Some inline
inline_of _ = None

-- what a word of a line calls that is this name
abbrev pub called : List ℕ → Option Inline
called name = option_and_then (λ row. if row.is_callable then inline_of row.begins else None) (row_of name)

-- whether words of the line that a macro begins can call others
abbrev pub is_parsed : List ℕ → Bool
is_parsed name = option_map_or (λ row. row.is_parsed) (row_of name) false
