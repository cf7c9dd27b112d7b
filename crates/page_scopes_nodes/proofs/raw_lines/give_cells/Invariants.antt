use Rattle.std.proofs.Common.{◌≤◌, ◌-◌, [], take, drop}
use Rattle.page_core_base.specs.laws.Views.{CameUpTo}
use Rattle.page_scopes_nodes.specs.Leaves.{cells_after}
use Rattle.page_scopes_nodes.proofs.raw_lines.give_cells.Given as goal

abbrev pub invariant-loop-index : goal.invariant-loop-index
invariant-loop-index g l = record {
  within : l.start ≤ l.index;
  came : CameUpTo g.O.PieceOut.left l.fn.out (cells_after l.place l.font [] l.text)
      (cells_after l.place l.font (take (l.index - l.start) (drop l.start l.text)) (drop l.index l.text)) l.out;
}
