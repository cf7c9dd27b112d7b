use Rattle.std.proofs.Common.{◌≡◌}
use Rattle.std.specs.Prelude.{if◌then◌else◌}
use Rattle.page_core_numbers.proofs.ExpressionLemmas.{going_on, stopping}
use Rattle.page_core_numbers.proofs.troubles.Troubles.followed_by.Goals as goal
use Rattle.page_core_numbers.proofs.troubles.Troubles.followed_by.Goals.{then-divides_by_zero, else-divides_by_zero}

pub returns-in-None-clause-value : goal.returns-in-None-clause-value
returns-in-None-clause-value c =
    let more_is : c.if-divides_by_zero.more ≡ (if c.args.divides_by_zero then 1 else 0) =
    elim c.if-divides_by_zero.branch [
      | then-divides_by_zero w ↦ rw w.if-divides_by_zero.true w.more-is
      | else-divides_by_zero w ↦ rw w.if-divides_by_zero.false w.more-is
    ] in
    rw (c.requires.going, c.in-None.is) (going_on c.args.self.divisions c.args.operand.divisions c.if-divides_by_zero.more c.args.divides_by_zero more_is)

pub returns-in-Some-clause-value : goal.returns-in-Some-clause-value
returns-in-Some-clause-value c =
    let more_is : c.if-divides_by_zero.more ≡ (if c.args.divides_by_zero then 1 else 0) =
    elim c.if-divides_by_zero.branch [
      | then-divides_by_zero w ↦ rw w.if-divides_by_zero.true w.more-is
      | else-divides_by_zero w ↦ rw w.if-divides_by_zero.false w.more-is
    ] in
    rw (c.requires.going, c.in-Some.is)
    (stopping c.args.self.divisions c.args.operand.divisions c.in-Some.stopped.divisions c.if-divides_by_zero.more c.in-Some.stopped.trouble c.args.divides_by_zero more_is)
