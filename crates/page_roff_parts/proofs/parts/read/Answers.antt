use Rattle.std.proofs.Common.{add-zero, ap, arith, ◌∙◌}
use Rattle.page_roff_parts.specs.Parts.{SeenText}
use Rattle.page_roff_parts.specs.machine.Verbatim.{seen_of}
use Rattle.page_roff_parts.proofs.BracketLemmas.{known_after, known_drop}
use Rattle.page_roff_parts.proofs.FrontLemmas.{plain_part}
use Rattle.page_roff_parts.proofs.parts.read.Goals as goal

pub returns-clause-seen : goal.returns-clause-seen
returns-clause-seen c =
    let t = c.args.text.now in
    let n = c.unwrap_or-end.result in
    let p = plain_part c.args.copy t c.memchr.result c.memchr.ensures c.requires.some in
    c.copied.ensures ∙ rw (add-zero n, c.unwrap_or-end.ensures) (p (rw (← c.unwrap_or-end.ensures) (omega arith)))

pub returns-then-end-eq0-clause-known : goal.returns-then-end-eq0-clause-known
returns-then-end-eq0-clause-known c =
    known_after c.args.copy c.read_escape.new.is_unclosed c.args.text.now (seen_of c.read_escape.result) c.read_escape.ensures.known c.read_escape.ensures.seen

pub returns-clause-known : goal.returns-clause-known
returns-clause-known c =
    let n = c.unwrap_or-end.result in
    let e = ap (λ (s : SeenText). s.rest) c.copied.ensures in
    rw (e, add-zero n) (known_drop c.args.is_unclosed.now n c.args.text.now c.requires.known)
