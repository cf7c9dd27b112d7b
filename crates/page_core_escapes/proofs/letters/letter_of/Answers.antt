use Rattle.std.proofs.Common.{rules, tests}
use Rattle.page_core_escapes.specs.Lengths.{letter_of}
use Rattle.page_core_escapes.proofs.letters.letter_of.Goals as goal

pub returns-in-98 : goal.returns-in-98
unfolding letter_of
returns-in-98 c = search (tests, rules)

pub returns-in-38 : goal.returns-in-38
unfolding letter_of
returns-in-38 c = search (tests, rules)
