use Rattle.std.proofs.Common.{[], refl, arith}
use Rattle.page_core_escapes.specs.Tokens.{token_len}
use Rattle.page_core_escapes.proofs.Unwinding.{tokens_more, tokens_none}
use Rattle.page_core_escapes.proofs.laws.tokens_law.Goals as goal

pub returns-clause-none : goal.returns-clause-none
returns-clause-none c = λ quoted. tokens_none quoted [] (omega arith)

pub returns-clause-first : goal.returns-clause-first
returns-clause-first c = λ quoted text some. tokens_more quoted text (token_len quoted text) some refl
