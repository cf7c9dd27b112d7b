use Rattle.std.proofs.Common.{sym, arith}
use Rattle.page_roff_parts.proofs.BracketLemmas.{other_end}
use Rattle.page_roff_parts.proofs.endings.without_lone.Goals as goal

pub returns-in_default : goal.returns-in_default
returns-in_default c = record { value = sym (other_end c.args.text.now (λ some. absurd (omega arith))) }

pub returns-in_default-2 : goal.returns-in_default-2
returns-in_default-2 c = record { value = sym (other_end c.args.text.now (λ some. c.if-last-eq92.false)) }
