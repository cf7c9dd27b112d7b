-- The limits of a page, and the name that the message shows where one is passed. Source: mandoc(1), "DIAGNOSTICS".
use Rattle.std.specs.Prelude.{ℕ, List, codes}
use Rattle.page_core_base.specs.declared.limits.Limit.{Limit}
use Rattle.page_core_base.specs.declared.limits.Limit.TheVariants.{Line, Field, Cells, Blanks, Scopes, Columns, Parens, Name, Names, Body, Defs, Conds, Calls, Args, Reread, Expand, Nest}

-- the bytes of a line
abbrev pub LINE : ℕ
LINE = 65_536

-- the bytes of a title, section, date, source, volume, manual name or link target
abbrev pub FIELD : ℕ
FIELD = 256

-- the cells of a row, its margin not counted
abbrev pub CELLS : ℕ
CELLS = 4096

-- the blank rows of one `sp` or `PD`
abbrev pub BLANKS : ℕ
BLANKS = 100

-- the scopes that are open
abbrev pub SCOPES : ℕ
SCOPES = 64

-- the widths of a list of columns
abbrev pub COLUMNS : ℕ
COLUMNS = 16

-- the bytes of the name of a string, macro or register
abbrev pub NAME : ℕ
NAME = 64

-- the names of strings, macros and registers
abbrev pub NAMES : ℕ
NAMES = 1_024

-- the bytes of a string, or of the lines of a macro's body, each with its end
abbrev pub BODY : ℕ
BODY = 16_384

-- the bytes of all names, strings and bodies
abbrev pub DEFS : ℕ
DEFS = 65_536

-- the open true blocks of a source: a page or a running macro
abbrev pub CONDS : ℕ
CONDS = 64

-- the macros that run inside one another
abbrev pub CALLS : ℕ
CALLS = 16

-- the bytes of a call's arguments, each with its end
abbrev pub ARGS : ℕ
ARGS = 4_096

-- the re-read lines of one source line
abbrev pub REREAD : ℕ
REREAD = 1_000

-- the interpolations of a line
abbrev pub EXPAND : ℕ
EXPAND = 1_000

abbrev pub name_of : Limit → List ℕ
name_of Line = codes "LINE"
name_of Field = codes "FIELD"
name_of Cells = codes "CELLS"
name_of Blanks = codes "BLANKS"
name_of Scopes = codes "SCOPES"
name_of Columns = codes "COLUMNS"
name_of Parens = codes "PARENS"
name_of Name = codes "NAME"
name_of Names = codes "NAMES"
name_of Body = codes "BODY"
name_of Defs = codes "DEFS"
name_of Conds = codes "CONDS"
name_of Calls = codes "CALLS"
name_of Args = codes "ARGS"
name_of Reread = codes "REREAD"
name_of Expand = codes "EXPAND"
name_of Nest = codes "NEST"
