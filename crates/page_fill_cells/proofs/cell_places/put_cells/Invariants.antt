use Rattle.std.proofs.Common.{◌≡◌, take}
use Rattle.page_fill_cells.specs.Cells.{cells_of}
use Rattle.page_fill_cells.specs.machine.BlankRuns.{put_at}
use Rattle.page_fill_cells.proofs.cell_places.put_cells.Given as goal

abbrev pub invariant-loop-i : goal.invariant-loop-i
invariant-loop-i l = l.places ≡ put_at l.fn.places l.start (cells_of l.font (take l.i l.bytes))
