use Rattle.std.proofs.Common.{refl, sym}
use Rattle.page_core_numbers.proofs.ExpressionLemmas.{blanks-columns}
use Rattle.page_engine_header.proofs.PrintingLemmas.{quote_column}
use Rattle.page_core_base.proofs.LatchLemmas.{characters_of-text, characters_of-none}
use Rattle.page_engine_header.proofs.printing.token_columns.Goals as goal

pub returns-in-White-clause-value : goal.returns-in-White-clause-value
returns-in-White-clause-value c = rw c.in-White.is (blanks-columns _)

pub returns-in-Ok-clause-value : goal.returns-in-Ok-clause-value
returns-in-Ok-clause-value c =
    let is = c.in-Ok.ensures.cases in
    rw c.in-Plain.is (rw (characters_of-text c.in-Plain.text.now is.1) (rw (← is.0) c.plain_columns.ensures.value))

pub returns-in-Err-clause-value : goal.returns-in-Err-clause-value
returns-in-Err-clause-value c = rw c.in-Plain.is (rw (characters_of-none c.in-Plain.text.now c.in-Err.ensures.cases.0) refl)

pub returns-in-Quotes-clause-value : goal.returns-in-Quotes-clause-value
returns-in-Quotes-clause-value c = rw c.in-Quotes.is (sym quote_column)
