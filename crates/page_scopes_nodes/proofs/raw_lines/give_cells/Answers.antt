use Rattle.std.proofs.Common.{◌+◌, ◌-◌, ◌++◌, ◌∷◌, take, drop, append_assoc, arith, eq-eqb}
use Rattle.std.proofs.lemmas.Bool.{ne_eqb}
use Rattle.page_core_base.specs.Rows.{shown}
use Rattle.page_core_base.specs.declared.pieces.Piece.TheVariants as pieces
use Rattle.page_scopes_nodes.specs.Leaves.{cells_after}
use Rattle.page_scopes_nodes.proofs.RawCells.{plain_step, tab_step}
use Rattle.page_scopes_nodes.proofs.raw_lines.give_cells.Goals as goal
use Rattle.page_scopes_nodes.proofs.raw_lines.give_cells.Goals.{then-byte-eq9, else-byte-eq9}

pub loop-index-preserved : goal.loop-index-preserved
loop-index-preserved g c =
    let place = c.args.place in
    let font = c.args.font in
    let text = c.args.text.now in
    let i = c.loop-index.index in
    let start = c.loop-index.start in
    let part = take (i - start) (drop start text) in
    elim c.if-byte-eq9.branch [
      | then-byte-eq9 w ↦ record {
        within = omega (arith, w.start-is);
        came = λ plan rest x.
            let after = cells_after place font (take (i + 1 - (i + 1)) (drop (i + 1) text)) (drop (i + 1) text) ++ rest in
            let tab = shown (pieces.Tab font place) in
            let a = rw (tab_step place font part text i c.loop-index-test.true (eq-eqb _ _ w.if-byte-eq9.true), append_assoc) at (c.loop-index.invariant.came plan rest x) in
            rw (w.out-is, w.start-is) (w.give.ensures plan after (w.give_part.ensures plan (tab ∷ after) a));
      }
      | else-byte-eq9 w ↦ record {
        within = omega (arith, w.start-is, c.loop-index.invariant.within);
        came = λ plan rest x.
            let a = rw (plain_step place font text start i c.loop-index.invariant.within c.loop-index-test.true (ne_eqb _ _ w.if-byte-eq9.false)) at (c.loop-index.invariant.came plan rest x) in
            rw (w.out-is, w.start-is) a;
      }
    ]
