use Rattle.std.proofs.Common.{◌≡◌, ◌<◌, ◌≤◌, ℕ, List, length, sym, subst}
use Rattle.page_core_base.specs.declared.limits.TheConstants.{LINE}
use Rattle.page_scopes_phrases.specs.LineWords.{cells, first_part, other_cells, span}
use Rattle.page_sets_lines.specs.laws.Views.{FitsAt}
use Rattle.page_scopes_phrases.specs.laws.Views.{GivesOutcome, phrase_view}
use Rattle.page_scopes_phrases.specs.declared.cells.CellSpan.{CellSpan}
use Rattle.page_scopes_phrases.specs.declared.phrases.Phrase.{Phrase}
use Rattle.page_scopes_phrases.proofs.NameLemmas.{CellsLeft, cells-end, cells-go-on, is_before, is_not_before, others-fit, others-shorter}
use Rattle.page_scopes_phrases.proofs.cells.give_cells.Goals as goal

pub find_cell-span-requires-in-loop-span : goal.find_cell-span-requires-in-loop-span
find_cell-span-requires-in-loop-span g c =
    let l = c.loop-span in
    let p = phrase_view l.left in
    let tab = is_before (span p).tab (length p.text) (rw l.invariant.0 at c.loop-span-test.true) in
    let is = subst (λ (s : CellSpan). phrase_view c.other_cells-left.result ≡ other_cells s p) l.invariant.0 c.other_cells-left.ensures in
    subst (λ (q : Phrase (List ℕ)). length q.text ≤ LINE) (sym is) (others-fit p tab l.invariant.2).short

pub loop-span-smaller : goal.loop-span-smaller
loop-span-smaller g c =
    let l = c.loop-span in
    let p = phrase_view l.left in
    let tab = is_before (span p).tab (length p.text) (rw l.invariant.0 at c.loop-span-test.true) in
    let is = subst (λ (s : CellSpan). phrase_view c.other_cells-left.result ≡ other_cells s p) l.invariant.0 c.other_cells-left.ensures in
    subst (λ (q : Phrase (List ℕ)). length q.text < length p.text) (sym is) (others-shorter p tab)

pub loop-span-preserved : goal.loop-span-preserved
loop-span-preserved g c =
    let l = c.loop-span in
    let p = phrase_view l.left in
    let tab = is_before (span p).tab (length p.text) (rw l.invariant.0 at c.loop-span-test.true) in
    let is = subst (λ (s : CellSpan). phrase_view c.other_cells-left.result ≡ other_cells s p) l.invariant.0 c.other_cells-left.ensures in
    let left = g.O.PieceOut.left in
    let all = cells c.args.line (phrase_view c.args.phrase.now) c.args.state.now in
    let n = c.give_first_cell.new in
    let given = subst (λ (s : CellSpan). GivesOutcome left l.out (first_part s c.args.line p l.state) n.out n.state) l.invariant.0 c.give_first_cell.ensures in
    let next = cells-go-on left c.args.out.now all c.args.line p l.state n.state l.out n.out tab l.invariant.3 given in (
      c.find_cell-span-in-loop-span.ensures.value,
      c.find_cell-span-in-loop-span.ensures.within.0,
      subst (λ (q : Phrase (List ℕ)). FitsAt q.column q.text) (sym is) (others-fit p tab l.invariant.2),
      subst (λ (q : Phrase (List ℕ)). CellsLeft left c.args.out.now all c.args.line q n.state n.out) (sym is) next,
    )

pub returns : goal.returns
returns g c =
    let l = c.loop-span in
    let p = phrase_view l.left in
    let none = is_not_before (span p).tab (length p.text) (rw l.invariant.0 at c.loop-span-test.false) in
    let n = c.give_cell.new in
    cells-end g.O.PieceOut.left c.args.out.now (cells c.args.line (phrase_view c.args.phrase.now) c.args.state.now) c.args.line p l.state
    n.state l.out n.out none l.invariant.3 c.give_cell.ensures
