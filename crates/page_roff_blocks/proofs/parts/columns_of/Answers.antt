use Rattle.std.proofs.Common.{arith}
use Rattle.std.proofs.lemmas.List.{take_rest}
use Rattle.page_roff_blocks.proofs.LinePartLemmas.{columns_named, columns_within, named_within}
use Rattle.page_roff_blocks.proofs.parts.columns_of.Goals as goal

pub overflow_cast-result : goal.overflow_cast-result
overflow_cast-result c = omega (arith, named_within c.args.line.now c.args.name.now c.requires.named)

pub overflow_add-result : goal.overflow_add-result
overflow_add-result c =
    let h = named_within c.args.line.now c.args.name.now c.requires.named in
    let w = rw (take_rest c.args.line.now 1) at c.white_len.ensures.value in
    omega (arith, h, w)

pub returns-clause-value : goal.returns-clause-value
returns-clause-value c =
    let w = rw (take_rest c.args.line.now 1) at c.white_len.ensures.value in
    rw w (columns_named c.args.line.now c.args.name.now c.requires.named)

pub returns-clause-within : goal.returns-clause-within
returns-clause-within c =
    let line = c.args.line.now in
    let name = c.args.name.now in
    let w = rw (take_rest line 1) at c.white_len.ensures.value in
    rw w (columns_within line _ (columns_named line name c.requires.named))
