use Rattle.std.proofs.Common.{◌==◌, get_or, arith, refl}
use Rattle.page_roff_values.proofs.ArgumentLemmas.{first_of, not_true}
use Rattle.page_roff_stack.proofs.InputStackLemmas.{one_line}
use Rattle.page_roff_stack.proofs.input_frames.body_line_len.Goals as goal

pub returns-in-Some-clause-first : goal.returns-in-Some-clause-first
returns-in-Some-clause-first c =
    let p = c.args.lines.now in
    let h = c.in-Some.ensures in
    rw (first_of p c.in-Some.end h.0.high (λ i l. not_true (get_or p i 0 == 10) (h.0.before i (omega arith) l)) h.1) refl

pub returns-in-Some-clause-rest : goal.returns-in-Some-clause-rest
returns-in-Some-clause-rest c =
    let p = c.args.lines.now in
    let h = c.in-Some.ensures in
    rw (first_of p c.in-Some.end h.0.high (λ i l. not_true (get_or p i 0 == 10) (h.0.before i (omega arith) l)) h.1) refl

pub returns-in-None-clause-first : goal.returns-in-None-clause-first
returns-in-None-clause-first c =
    let p = c.args.lines.now in
    (one_line p (λ i l. not_true (get_or p i 0 == 10) (c.in-None.ensures i (omega arith) l))).0

pub returns-in-None-clause-rest : goal.returns-in-None-clause-rest
returns-in-None-clause-rest c =
    let p = c.args.lines.now in
    (one_line p (λ i l. not_true (get_or p i 0 == 10) (c.in-None.ensures i (omega arith) l))).1
