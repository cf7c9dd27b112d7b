use Rattle.std.proofs.Common.{sym, ap, ◌∙◌, arith}
use Rattle.std.proofs.lemmas.List.Sums.{prefix_len-le-length}
use lib.Count.{count_trailing_zeros}
use Rattle.page_core_escapes.specs.Tokens.{prints_itself}
use Rattle.page_core_escapes.proofs.Unwinding.{first_stop}
use Rattle.page_core_escapes.proofs.tokens.plain_len.Goals as goal

pub returns-then-found-ne0-clause-value : goal.returns-then-found-ne0-clause-value
returns-then-found-ne0-clause-value c =
    let found = c.stops-found in
    let run = first_stop (prints_itself c.args.quoted) c.args.text.now 16 (omega arith) (omega arith) (omega (arith, found.ensures)) ∙ ap (count_trailing_zeros 64) (sym found.ensures) in
    omega (arith, run)

pub returns-then-found-ne0-clause-within : goal.returns-then-found-ne0-clause-within
returns-then-found-ne0-clause-within c =
    let found = c.stops-found in
    let run = first_stop (prints_itself c.args.quoted) c.args.text.now 16 (omega arith) (omega arith) (omega (arith, found.ensures)) ∙ ap (count_trailing_zeros 64) (sym found.ensures) in
    omega (arith, run, prefix_len-le-length (prints_itself c.args.quoted) c.args.text.now)
