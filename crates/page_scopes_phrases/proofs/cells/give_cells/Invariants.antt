use Rattle.std.proofs.Common.{◌≡◌, ◌≤◌, length}
use Rattle.page_scopes_phrases.specs.LineWords.{cells, span}
use Rattle.page_sets_lines.specs.laws.Views.{FitsAt}
use Rattle.page_scopes_phrases.specs.laws.Views.{phrase_view}
use Rattle.page_scopes_phrases.proofs.NameLemmas.{CellsLeft}
use Rattle.page_scopes_phrases.proofs.cells.give_cells.Given as goal

abbrev pub invariant-loop-span : goal.invariant-loop-span
invariant-loop-span g l =
    (l.span ≡ span (phrase_view l.left))
    × (l.span.end ≤ length (phrase_view l.left).text)
    × FitsAt (phrase_view l.left).column (phrase_view l.left).text
    × CellsLeft g.O.PieceOut.left l.fn.out (cells l.line (phrase_view l.phrase) l.fn.state) l.line (phrase_view l.left) l.state l.out

abbrev pub decreases-loop-span : goal.decreases-loop-span
decreases-loop-span g l = length (phrase_view l.left).text
