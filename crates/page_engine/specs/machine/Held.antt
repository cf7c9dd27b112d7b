-- What is held of a page in an object of its own, as the code has it. Trust needs no reading of it.
use Rattle.page_engine.specs.declared.edges.Edge.TheInside.{Inside}
use Rattle.page_engine.specs.Edges.{Edge}
use Rattle.page_engine.specs.laws.Views.{IsReached}

abbrev pub edge_of : Inside → Edge
edge_of p = record { least = p.least; worst = p.worst; last = p.last; lines = p.lines; fill = p.fill }

-- at an edge that a page comes to
abbrev pub IsHeldAt : Inside → Type 0
IsHeldAt p = IsReached (edge_of p)
