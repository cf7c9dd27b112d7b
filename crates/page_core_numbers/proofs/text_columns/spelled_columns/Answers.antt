use Rattle.std.proofs.Common.{◌≡◌, ◌<◌, length, arith}
use Rattle.std.proofs.lemmas.Bool.Decides.{nat_tests}
use Rattle.page_core_numbers.proofs.SpelledLemmas.{above-columns, unspelled-columns, spelled-columns}
use Rattle.page_core_numbers.proofs.text_columns.spelled_columns.Goals as goal

pub returns-then-c-gt-LAST_SPELLED-clause-value : goal.returns-then-c-gt-LAST_SPELLED-clause-value
returns-then-c-gt-LAST_SPELLED-clause-value c = above-columns c.args.c (omega arith)

pub returns-then-is_empty-clause-value : goal.returns-then-is_empty-clause-value
returns-then-is_empty-clause-value c =
    let empty : length c.spelling-spelling.result.now ≡ 0 = grind (arith, nat_tests, c.is_empty.ensures, c.if-is_empty.true) in
    unspelled-columns c.args.c c.spelling-spelling.result.now c.spelling-spelling.ensures empty

pub overflow_cast-result : goal.overflow_cast-result
overflow_cast-result c =
    let some : 0 < length c.spelling-spelling.result.now = grind (arith, nat_tests, c.is_empty.ensures, c.if-is_empty.false) in
    let spelled = spelled-columns c.args.c c.spelling-spelling.result.now c.requires c.spelling-spelling.ensures some in
    omega (arith, spelled.1)

pub returns-clause-value : goal.returns-clause-value
returns-clause-value c =
    let some : 0 < length c.spelling-spelling.result.now = grind (arith, nat_tests, c.is_empty.ensures, c.if-is_empty.false) in
    (spelled-columns c.args.c c.spelling-spelling.result.now c.requires c.spelling-spelling.ensures some).0

pub returns-clause-bound : goal.returns-clause-bound
returns-clause-bound c =
    let some : 0 < length c.spelling-spelling.result.now = grind (arith, nat_tests, c.is_empty.ensures, c.if-is_empty.false) in
    (spelled-columns c.args.c c.spelling-spelling.result.now c.requires c.spelling-spelling.ensures some).1
