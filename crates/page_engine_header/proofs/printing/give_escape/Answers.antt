use Rattle.std.proofs.Common.{◌∙◌, sym}
use Rattle.page_core_numbers.proofs.ExpressionLemmas.{blanks-columns}
use Rattle.page_engine_header.proofs.printing.give_escape.Goals as goal

pub returns-in-Blanks : goal.returns-in-Blanks
returns-in-Blanks g c = λ plan rest h.
    let n = rw c.in-Blanks.is at c.escape_columns.ensures.value in
    let same = n ∙ sym (blanks-columns _) in
    (rw same at c.give_blanks.ensures) plan _ (rw c.in-Blanks.is at h)
