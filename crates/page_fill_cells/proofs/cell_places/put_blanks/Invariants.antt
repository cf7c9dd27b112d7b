use Rattle.std.proofs.Common.{◌≡◌, replicate}
use Rattle.page_fill_cells.specs.Cells.{cell_of}
use Rattle.page_fill_cells.specs.machine.BlankRuns.{put_at}
use Rattle.page_fill_cells.proofs.cell_places.put_blanks.Given as goal

abbrev pub invariant-loop-i : goal.invariant-loop-i
invariant-loop-i l = l.places ≡ put_at l.fn.places l.start (replicate l.i (cell_of l.fn.font 32))
