use Rattle.page_engine_header.proofs.PrintingLemmas.{row_run, run_came, run_stays}
use Rattle.page_engine_header.proofs.full_rows.FullRowsRunOut.give_run.Goals as goal
use Rattle.page_engine_header.proofs.full_rows.FullRowsRunOut.give_run.Goals.{else-text-self-via-then-text-self+else-give_kept, else-text-self-via-else-text-self}

-- they were taken at once
pub returns-then-give_kept : goal.returns-then-give_kept
returns-then-give_kept g c = λ plan rest h.
    let a = c.args in
    let fits = c.if-text-self.true in
    let all = rw (row_run a.self.now.room a.font a.place a.text.now rest plan.follows fits) at h.came in
    let came = run_came g.O.PieceOut.left a.font a.place a.text.now (rw c.if-give_kept.true at c.give_kept.ensures) in
    record { same_loan = h.same_loan; came = came plan.plan _ all }

-- they were not taken, or the row has no room for them
pub returns-else-text-self : goal.returns-else-text-self
returns-else-text-self g c = λ plan rest h.
    let a = c.args in
    c.give_each.ensures plan rest (elim c.else-text-self.branch [
      | else-text-self-via-then-text-self+else-give_kept w ↦
          let stays = run_stays g.O.PieceOut.left a.font a.place a.text.now (rw w.if-give_kept.false at w.give_kept.ensures) in
          rw w.self-is (record { same_loan = h.same_loan; came = stays plan.plan _ h.came })
      | else-text-self-via-else-text-self w ↦ rw w.self-is h
    ])
