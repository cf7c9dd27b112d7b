use Rattle.std.proofs.Common.{sym, arith}
use Rattle.page_core_numbers.proofs.ExpressionLemmas.{blank-columns, printed-printable}
use Rattle.page_core_numbers.proofs.SpelledLemmas.{control-columns}
use Rattle.page_core_numbers.proofs.text_columns.character_columns.Goals as goal

pub returns-in-9-clause-value : goal.returns-in-9-clause-value
returns-in-9-clause-value c = rw c.in-9.is (sym blank-columns)

pub returns-in-9-2-clause-value : goal.returns-in-9-2-clause-value
returns-in-9-2-clause-value c = rw c.in-9.is (sym blank-columns)

pub returns-in-32-to-126-clause-value : goal.returns-in-32-to-126-clause-value
returns-in-32-to-126-clause-value c = sym (printed-printable c.args.output c.args.c (omega arith) (omega arith))

pub returns-in-0-to-159-clause-value : goal.returns-in-0-to-159-clause-value
returns-in-0-to-159-clause-value c = control-columns c.args.output c.args.c (λ h. omega (arith, h)) (omega arith) (λ h. omega (arith, h))

pub returns-in-0-to-159-2-clause-value : goal.returns-in-0-to-159-2-clause-value
returns-in-0-to-159-2-clause-value c = control-columns c.args.output c.args.c (λ h. omega (arith, h)) (omega arith) (λ h. omega (arith, h))
