use Rattle.std.proofs.Common.{◌≡◌, ◌+◌, ◌-◌, ℕ, [], ◌∷◌, replicate, ◌∙◌, refl, arith, rules}
use Rattle.std.proofs.lemmas.Result.{err_from_is_err_and}
use Rattle.page_core_base.proofs.LatchLemmas.{UpTo-start, UpTo-more, UpTo-within, one_less}
use Rattle.page_core_base.specs.Rows.{shown}
use Rattle.page_core_base.specs.declared.faults.Fault.TheVariants.{Failed}
use Rattle.page_core_base.specs.declared.pieces.Piece.TheVariants.{Text}
use Rattle.page_core_base.proofs.pieces.PieceSink.take_blanks.Goals as goal

pub loop-i-init : goal.loop-i-init
loop-i-init g c =
    let all : c.args.times - 0 ≡ c.args.times = omega arith in
    rw all (UpTo-start (g.met.Self.PieceSink.items Failed) c.args.self.now _, refl)

pub loop-i-preserved : goal.loop-i-preserved
loop-i-preserved g c =
    let blanks = shown (Text (replicate {A = ℕ} c.args.count 32) c.args.font c.args.place) in
    let rest = replicate (c.args.times - (c.loop-i._i + 1)) blanks in
    let l = c.loop-i.invariant in
    let came = rw (one_less c.args.times c.loop-i._i c.loop-i-test.true) at l.0 in (
      UpTo-more (g.met.Self.PieceSink.items Failed) c.piece.new.self (blanks ∷ []) rest came refl (search rules),
      c.piece.ensures.same ∙ l.1,
    )

pub returns-in_err-piece-clause-gives : goal.returns-in_err-piece-clause-gives
returns-in_err-piece-clause-gives g c =
    let p = err_from_is_err_and c.from_residual.result c.from_residual.ensures.1 in
    let blanks = shown (Text (replicate {A = ℕ} c.args.count 32) c.args.font c.args.place) in
    let rest = replicate (c.args.times - (c.loop-i._i + 1)) blanks in
    let came = rw (one_less c.args.times c.loop-i._i c.loop-i-test.true) at c.loop-i.invariant.0 in
    rw (p.1, p.2) (UpTo-within (g.met.Self.PieceSink.items c.in_err-piece.field-0.0) c.piece.new.self (blanks ∷ []) rest came refl
    (search (rules, c.in_err-piece.ensures.gives)))
