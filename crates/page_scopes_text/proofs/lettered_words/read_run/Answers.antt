use Rattle.std.proofs.Common.{◌<◌, refl, arith}
use Rattle.std.proofs.lemmas.Bool.Decides.{nat_tests}
use Rattle.page_core_base.specs.declared.cells.Font.TheVariants.{R}
use Rattle.page_scopes_words.specs.machine.Letters.{letters_in}
use Rattle.page_scopes_text.proofs.lettered_words.read_run.Goals as goal

pub add-requires : goal.add-requires
add-requires c = rw c.split_at.ensures.front c.run_len.ensures.ascii

pub returns-clause-reads : goal.returns-clause-reads
returns-clause-reads c =
    let s = c.split_at.ensures in
    let some : 0 < c.run_len.result = grind (arith, nat_tests, c.is_empty.ensures, c.if-is_empty.false, s.front_len) in
    (letters_in R c.split_at.result.0.now, c.if-not-add.ensures.added refl, rw (s.front, s.back) (c.run_len.ensures.run some c.args.fonts (c.if-not-may_run.ensures refl)))
