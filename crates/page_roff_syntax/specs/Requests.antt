-- The names that roff knows, one row each. Source: roff(7), "REQUEST REFERENCE".
use Rattle.std.specs.Prelude.{ℕ, true, false, List, [], ◌∷◌, codes, Option}
use Rattle.page_core_base.specs.Messages.{row_in}
use Rattle.page_roff_syntax.specs.declared.regions.RegionKind.TheVariants.{Define, Append, Ignore, Table, Equation, Picture}
use Rattle.page_roff_syntax.specs.declared.requests.DefinitionRequest.TheVariants.{DefineString, AppendString, SetRegister, Remove, Rename, RemoveRegisters}
use Rattle.page_roff_syntax.specs.declared.requests.LayoutRequest.TheVariants.{Break, Space, Font, Shift, Literal}
use Rattle.page_roff_syntax.specs.declared.requests.Request.{Request}
use Rattle.page_roff_syntax.specs.declared.requests.Request.TheVariants.{If, IfElse, Else, While, Region, Definition, Layout, Ignored, Unsupported}

-- the table: a name, and what it is
abbrev pub table : List (List ℕ × Request)
table =
    (codes "EQ", Region Equation) ∷
    (codes "PS", Region Picture) ∷
    (codes "TS", Region Table) ∷
    (codes "am", Region Append) ∷
    (codes "as", Definition AppendString) ∷
    (codes "ad", Ignored) ∷
    (codes "af", Ignored) ∷
    (codes "als", Unsupported) ∷
    (codes "br", Layout Break) ∷
    (codes "bp", Ignored) ∷
    (codes "break", Unsupported) ∷
    (codes "cs", Ignored) ∷
    (codes "c2", Unsupported) ∷
    (codes "cc", Unsupported) ∷
    (codes "ce", Unsupported) ∷
    (codes "ch", Unsupported) ∷
    (codes "char", Unsupported) ∷
    (codes "de", Region Define) ∷
    (codes "ds", Definition DefineString) ∷
    (codes "da", Unsupported) ∷
    (codes "di", Unsupported) ∷
    (codes "do", Unsupported) ∷
    (codes "el", Else) ∷
    (codes "ec", Unsupported) ∷
    (codes "eo", Unsupported) ∷
    (codes "ev", Unsupported) ∷
    (codes "ft", Layout Font) ∷
    (codes "fi", Layout (Literal false)) ∷
    (codes "fam", Ignored) ∷
    (codes "fp", Ignored) ∷
    (codes "hcode", Ignored) ∷
    (codes "hw", Ignored) ∷
    (codes "hy", Ignored) ∷
    (codes "if", If) ∷
    (codes "ie", IfElse) ∷
    (codes "ig", Region Ignore) ∷
    (codes "in", Layout Shift) ∷
    (codes "it", Unsupported) ∷
    (codes "lg", Ignored) ∷
    (codes "ls", Ignored) ∷
    (codes "ll", Unsupported) ∷
    (codes "mk", Ignored) ∷
    (codes "mso", Unsupported) ∷
    (codes "nr", Definition SetRegister) ∷
    (codes "nf", Layout (Literal true)) ∷
    (codes "na", Ignored) ∷
    (codes "ne", Ignored) ∷
    (codes "nh", Ignored) ∷
    (codes "ns", Ignored) ∷
    (codes "nop", Unsupported) ∷
    (codes "pl", Ignored) ∷
    (codes "po", Ignored) ∷
    (codes "ps", Ignored) ∷
    (codes "rm", Definition Remove) ∷
    (codes "rn", Definition Rename) ∷
    (codes "rr", Definition RemoveRegisters) ∷
    (codes "rs", Ignored) ∷
    (codes "return", Unsupported) ∷
    (codes "sp", Layout Space) ∷
    (codes "ss", Ignored) ∷
    (codes "shift", Unsupported) ∷
    (codes "so", Unsupported) ∷
    (codes "tm", Ignored) ∷
    (codes "ta", Unsupported) ∷
    (codes "ti", Unsupported) ∷
    (codes "tr", Unsupported) ∷
    (codes "ul", Ignored) ∷
    (codes "vs", Ignored) ∷
    (codes "while", While) ∷
    (codes "warn", Ignored) ∷
    (codes "wh", Unsupported) ∷
    []

-- what a name is, if roff knows it
unfoldable pub request_of : List ℕ → Option Request
request_of name = row_in table name
