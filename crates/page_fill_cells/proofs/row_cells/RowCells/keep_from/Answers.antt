use Rattle.std.proofs.Common.{◌≡◌, ◌-◌, ◌≤◌, length, take, drop, refl, ap, ◌∙◌, arith}
use Rattle.std.proofs.lemmas.List.{length-take-le, length-drop}
use Rattle.page_fill_cells.proofs.BlankRunLemmas.{kept-run}
use Rattle.page_fill_cells.proofs.PlaceLemmas.{moved-front, put-length}
use Rattle.page_fill_cells.proofs.row_cells.RowCells.keep_from.Goals as goal

pub put_blanks-requires : goal.put_blanks-requires
put_blanks-requires c =
    let row = c.self.inside in
    let held = c.self.invariant in
    let len = length-take-le row.len row.places (omega (arith, held.0, held.1)) in
    let from : c.args.start ≤ length (take row.len row.places) = rw (← c.self.view_is) at c.requires in
    omega (arith, len, from, held.0, held.1, c.if-self-start.true)

pub invariant_of-self : goal.invariant_of-self
invariant_of-self c =
    let row = c.self.inside in
    let held = c.self.invariant in
    let from : c.args.start ≤ length (take row.len row.places) = rw (← c.self.view_is) at c.requires in
    let kept = kept-run row.places row.run.start row.run.end c.args.start row.len row.run.font held.2 c.if-self-start.true from c.if-end-self.true (omega (arith, held.0, held.1)) in
    rw c.put_blanks.ensures (kept.size ∙ held.0, omega (arith, held.1), kept.run, refl)

pub returns-then-end-self : goal.returns-then-end-self
returns-then-end-self c =
    let row = c.self.inside in
    let held = c.self.invariant in
    let from : c.args.start ≤ length (take row.len row.places) = rw (← c.self.view_is) at c.requires in
    let kept = kept-run row.places row.run.start row.run.end c.args.start row.len row.run.font held.2 c.if-self-start.true from c.if-end-self.true (omega (arith, held.0, held.1)) in
    rw c.put_blanks.ensures kept.rest ∙ ap (drop c.args.start) c.self.view_is

pub invariant_of-self-2 : goal.invariant_of-self-2
invariant_of-self-2 c =
    let row = c.self.inside in
    let held = c.self.invariant in
    let start = c.args.start in
    let cells = take (row.len - start) (drop start row.places) in
    let size : length cells ≡ row.len - start = length-take-le (row.len - start) (drop start row.places) (omega (arith, held.0, held.1, length-drop start row.places)) in (
      ap length c.move_to_front.ensures ∙ (put-length row.places cells 0 (omega (arith, size, held.0, held.1)) ∙ held.0),
      omega (arith, held.1),
      record { at = λ k h g. absurd (omega (arith, g)) },
      refl,
    )

pub returns : goal.returns
returns c =
    let row = c.self.inside in
    let held = c.self.invariant in
    let within : row.len ≤ length row.places = omega (arith, held.0, held.1) in
    let len = length-take-le row.len row.places within in
    let from : c.args.start ≤ length (take row.len row.places) = rw (← c.self.view_is) at c.requires in
    ap (take (row.len - c.args.start)) c.move_to_front.ensures
    ∙ (moved-front row.places c.args.start row.len (omega (arith, len, from)) within ∙ ap (drop c.args.start) c.self.view_is)
