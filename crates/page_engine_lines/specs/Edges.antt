-- What is held between two source lines of a page, and its footer. Source: roff(7), "LANGUAGE SYNTAX"; mandoc(1), "DIAGNOSTICS".
use Rattle.std.specs.Prelude.{ℕ, List}
use Rattle.page_core_base.specs.Rows.{Item}
use Rattle.page_core_base.specs.declared.page_settings.Settings.{Settings}
use Rattle.page_roff_source.specs.Runs.{RoffEdge}
use Rattle.page_roff_source.specs.Runs as roff
use Rattle.page_engine_lines.specs.Bodies.{BodyEdge}
use Rattle.page_engine_lines.specs.Bodies as bodies

-- what decides the pieces of the lines to come
pub record LinesEdge : Type 0 where
  pub roff : RoffEdge
  pub body : BodyEdge

-- the start of a page
abbrev pub start_of : Settings → LinesEdge
start_of s = record { roff = roff.first_edge s.output; body = bodies.start_of s }

-- the footer after the line of a number, where there are so many blank rows
abbrev pub footer_items : LinesEdge → ℕ → ℕ → List Item
footer_items e line blank_rows = bodies.footer_items e.body.header line blank_rows
