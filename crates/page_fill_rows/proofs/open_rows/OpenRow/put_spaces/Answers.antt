use Rattle.std.proofs.Common.{◌≡◌, ◌-◌, length, append_assoc, ap, arith, refl, sym, ◌∙◌}
use Rattle.std.proofs.lemmas.Bool.{eqb-true}
use Rattle.page_fill_rows.specs.OpenRows.{Sheet}
use Rattle.page_fill_rows.proofs.CharacterLemmas.{spaces-more, spaces-done, spaces-none}
use Rattle.page_fill_rows.proofs.open_rows.OpenRow.put_spaces.Goals as goal

pub loop-init : goal.loop-init
loop-init g c = let e : c.args.count - 0 ≡ c.args.count = omega arith in rw e ((λ plan rows notes h. h), refl)

pub loop-preserved : goal.loop-preserved
loop-preserved g c =
    let l = c.loop in
    let more = spaces-more l.self c.args.count l.counter c.args.place c.loop-test.true in
    rw c.put_space.ensures.1 (
      (λ plan rows notes h. c.put_space.ensures.0 plan _ _ (rw (more, append_assoc, append_assoc) at (l.invariant.0 plan rows notes h))),
      sym (ap (λ m. m.edge) more) ∙ l.invariant.1,
    )

pub returns : goal.returns
returns g c =
    let l = c.loop in
    let done = spaces-done l.self c.args.count l.counter c.args.place (omega arith) in
    ((λ plan rows notes h. rw done at (l.invariant.0 plan rows notes h)), rw done at l.invariant.1)

pub returns-then-is_empty : goal.returns-then-is_empty
returns-then-is_empty g c =
    let l = c.loop in
    let none : length l.self.cells ≡ 0 =
    ap (λ (s : Sheet). length s.cells) (sym c.self.view_is) ∙ eqb-true (length c.self.inside.row) 0 (sym c.is_empty.ensures ∙ c.if-is_empty.true) in
    let done = spaces-none l.self (c.args.count - l.counter) c.args.place none in
    ((λ plan rows notes h. rw done at (l.invariant.0 plan rows notes h)), rw done at l.invariant.1)
