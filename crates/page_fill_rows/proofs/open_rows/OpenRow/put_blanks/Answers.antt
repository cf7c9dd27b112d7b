use Rattle.std.proofs.Common.{append_assoc, ap, arith, refl, sym, ◌∙◌, ◌≡◌, [], replicate}
use Rattle.page_fill_cells.specs.Cells.{cell_of}
use Rattle.page_fill_rows.specs.machine.Sheets.{letters}
use Rattle.page_fill_rows.proofs.WrapLemmas.{blanks-parted}
use Rattle.page_fill_rows.proofs.CharacterLemmas.{cells-more}
use Rattle.page_fill_rows.proofs.open_rows.OpenRow.put_blanks.Goals as goal

pub loop-left-preserved-then-part-gt0 : goal.loop-left-preserved-then-part-gt0
loop-left-preserved-then-part-gt0 g c =
    let l = c.loop-left in
    let parted = blanks-parted l.self l.left c.min-part.result c.args.font c.args.place c.if-part-gt0.true
    (omega (arith, c.min-part.ensures)) (omega (arith, c.min-part.ensures, c.room.ensures.value)) in
    rw (c.add_blanks.ensures, ← parted) l.invariant

pub loop-left-preserved : goal.loop-left-preserved
loop-left-preserved g c =
    let l = c.loop-left in
    let more = cells-more l.self l.left (cell_of c.args.font 32) c.args.place c.loop-left-test.true in
    rw c.put_letter.ensures.1 (
      (λ plan rows notes h. c.put_letter.ensures.0 plan _ _ (rw (more, append_assoc, append_assoc) at (l.invariant.0 plan rows notes h))),
      sym (ap (λ m. m.edge) more) ∙ l.invariant.1,
    )

pub returns : goal.returns
unfolding letters
returns g c =
    let l = c.loop-left in
    let none : l.left ≡ 0 = omega (arith, c.loop-left-test.false) in
    let done : letters l.self (replicate l.left (cell_of c.args.font 32)) c.args.place ≡ letters l.self [] c.args.place = rw none refl in
    ((λ plan rows notes h. rw done at (l.invariant.0 plan rows notes h)), rw done at l.invariant.1)
