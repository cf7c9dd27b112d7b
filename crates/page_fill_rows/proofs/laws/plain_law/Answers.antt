use Rattle.std.proofs.Common.{arith}
use Rattle.std.proofs.lemmas.Bool.Decides.{nat_tests}
use Rattle.page_fill_rows.proofs.PlainLemmas.{letters-fits}
use Rattle.page_fill_rows.proofs.laws.plain_law.Goals as goal

pub returns : goal.returns
returns c = λ s bytes font place plain some room. letters-fits s bytes font place (grind (arith, nat_tests, some)) plain room
