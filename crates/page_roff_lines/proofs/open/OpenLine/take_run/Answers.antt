use Rattle.std.proofs.Common.{◌≡◌, take, refl, sym, ap, ◌∙◌, arith}
use Rattle.std.proofs.lemmas.List.{length-take-le}
use Rattle.page_roff_lines.specs.machine.Open.{open_after, whole_lines, with_run}
use Rattle.page_roff_lines.proofs.open.OpenLine.take_run.Goals as goal

pub put_run-requires-clause-consumed : goal.put_run-requires-clause-consumed
put_run-requires-clause-consumed c =
    let len = length-take-le c.run_len-len.result.0 c.args.chunk.now c.run_len-len.ensures.within in
    omega (arith, len, c.restart.ensures.consumed)

pub returns-then-len-gt0-clause-after : goal.returns-then-len-gt0-clause-after
returns-then-len-gt0-clause-after c =
    let run = take c.run_len-len.result.0 c.args.chunk.now in
    let len = length-take-le c.run_len-len.result.0 c.args.chunk.now c.run_len-len.ensures.within in
    c.put_run.ensures ∙ ap (λ o. with_run o run) c.restart.ensures.restart
    ∙ sym (c.run_len-len.ensures.read.after (omega (arith, len)))

pub returns-then-len-gt0-clause-none : goal.returns-then-len-gt0-clause-none
returns-then-len-gt0-clause-none c = c.run_len-len.ensures.read.none

pub returns-else-len-gt0-clause-after : goal.returns-else-len-gt0-clause-after
unfolding open_after
returns-else-len-gt0-clause-after c = let none : c.run_len-len.result.0 ≡ 0 = omega arith in rw none refl

pub returns-else-len-gt0-clause-none : goal.returns-else-len-gt0-clause-none
unfolding whole_lines
returns-else-len-gt0-clause-none c = let none : c.run_len-len.result.0 ≡ 0 = omega arith in rw none refl
