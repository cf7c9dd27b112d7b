-- What is held between two lines of a page: all of the past that decides the rest. Source: mandoc(1), "DIAGNOSTICS".
use Rattle.std.specs.Prelude.{ℕ, Option, unwrap_or, None}
use Rattle.page_core_base.specs.declared.note_kinds.Level.{Level}
use Rattle.page_core_base.specs.declared.page_settings.Settings.{Settings}
use Rattle.page_fill.specs.Words as fill
use Rattle.page_fill.specs.declared.edges.FillEdge.{FillEdge}
use Rattle.page_engine_lines.specs.Edges.{LinesEdge, start_of}

-- What decides the rest of a page, and is all that is held of its lines.
pub record Edge : Type 0 where
  -- the least level of messages that are given
  pub least : Option Level
  -- the worst level of messages that were given, and the number of the last line, where one came
  pub worst : Option Level
  pub last : Option ℕ
  -- where roff, the macros and the scopes are
  pub lines : LinesEdge
  -- the open row, and what waits before its next word
  pub fill : FillEdge

-- messages at a page's end are about its last line, the first one where none came
abbrev pub last_line : Edge → ℕ
last_line e = unwrap_or e.last 1

-- the start of a page
abbrev pub start : Settings → Edge
start s = record { least = s.least; worst = None; last = None; lines = start_of s; fill = fill.start s }
