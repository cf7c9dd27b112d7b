-- The layers of a page, and the edge that they are at: steps of the code, of which trust needs no reading.
use Rattle.std.specs.Prelude.{◌≡◌, Option, None, Some}
use Rattle.page_fill.specs.declared.edges.FillEdge.{FillEdge}
use Rattle.page_roff_source.specs.Runs.{counts_of}
use Rattle.page_roff_source.specs.declared.counts.Counts.{Counts}
use Rattle.page_engine.specs.declared.layers.Layers.{Layers}
use Rattle.page_engine.specs.declared.pages.Phase.{Phase}
use Rattle.page_engine.specs.declared.pages.Phase.TheVariants.{Open}
use Rattle.page_engine.specs.Edges.{Edge}
use Rattle.page_engine.specs.laws.Views.{IsReached}

-- the layers are at an edge
pub record IsAt (here : Layers) (e : Edge) : Type 0 where
  pub filled : here.filler ≡ Some e.fill
  pub lines : here.lines ≡ e.lines
  pub output : here.output ≡ e.fill.output
  pub levels : here.least ≡ e.least
  pub worst_level : here.worst ≡ e.worst
  pub last_line : here.last ≡ e.last

abbrev pub with_fill : Layers → Option FillEdge → Option Edge
with_fill p None = None
with_fill p (Some f) = Some (record { least = p.least; worst = p.worst; last = p.last; lines = p.lines; fill = f })

-- that edge, where the filler goes on
abbrev pub edge_of : Layers → Option Edge
edge_of p = with_fill p p.filler

-- while a page is open its layers are at an edge that a page comes to, and its counts are those of its lines
abbrev pub IsKept : Phase → Counts → Layers → Type 0
IsKept Open counts layers = (e : Edge) × IsAt layers e × IsReached e × (counts ≡ counts_of layers.lines.roff)
IsKept _ counts layers = Unit {0}
