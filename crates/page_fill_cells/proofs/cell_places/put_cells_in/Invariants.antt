use Rattle.std.proofs.Common.{◌≡◌, take}
use Rattle.page_core_base.specs.laws.Views.{cells_in}
use Rattle.page_fill_cells.specs.machine.BlankRuns.{put_at}
use Rattle.page_fill_cells.proofs.cell_places.put_cells_in.Given as goal

abbrev pub invariant-loop-i : goal.invariant-loop-i
invariant-loop-i l = l.places ≡ put_at l.fn.places l.start (cells_in (take l.i l.bytes) (take l.i l.fonts))
