use Rattle.std.proofs.Common.{◌≡◌, ℕ, replicate, ◌-◌}
use Rattle.page_core_base.specs.Rows.{shown}
use Rattle.page_core_base.specs.laws.Views.{UpTo}
use Rattle.page_core_base.specs.declared.pieces.Piece.TheVariants.{Text}
use Rattle.page_core_base.proofs.pieces.PieceSink.take_blanks.Given as goal

abbrev pub invariant-loop-i : goal.invariant-loop-i
invariant-loop-i g l =
    let blanks = shown (Text (replicate {A = ℕ} l.count 32) l.font l.place) in
    UpTo g.Self.PieceSink.took l.fn.self (replicate l.times blanks) (replicate (l.times - l._i) blanks) l.self
    × (g.Self.NoteSink.loans l.self ≡ g.Self.NoteSink.loans l.fn.self)
