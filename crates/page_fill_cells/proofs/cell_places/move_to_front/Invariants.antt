use Rattle.std.proofs.Common.{◌≡◌, take, drop}
use Rattle.page_fill_cells.specs.machine.BlankRuns.{put_at}
use Rattle.page_fill_cells.proofs.cell_places.move_to_front.Given as goal

abbrev pub invariant-loop-i : goal.invariant-loop-i
invariant-loop-i g l = l.places ≡ put_at l.fn.places 0 (take l.i (drop l.start l.fn.places))
