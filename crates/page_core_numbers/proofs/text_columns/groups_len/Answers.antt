use Rattle.std.proofs.Common.{◌∙◌, sym, arith}
use Rattle.page_core_numbers.proofs.ExpressionLemmas.{group-more}
use Rattle.page_core_numbers.proofs.text_columns.groups_len.Goals as goal

pub loop-at-preserved : goal.loop-at-preserved
loop-at-preserved c =
    let l = c.loop-at in
    (omega arith, group-more c.args.text.now l.at 32 l.invariant.1 (sym c.are_plain.ensures ∙ c.if-are_plain.true))
