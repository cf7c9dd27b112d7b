use Rattle.std.proofs.Common.{arith}
use Rattle.page_scopes_words.proofs.RunEndLemmas.{front_ends, front_goes, vector_goes}
use Rattle.page_scopes_words.proofs.run_ends.vector_len.Goals as goal

pub returns-then-found-eq0-clause-goes : goal.returns-then-found-eq0-clause-goes
returns-then-found-eq0-clause-goes c = vector_goes c.args.quoted c.args.text.now c.args.at c.requires (omega (arith, c.ends-found.ensures))

pub returns-clause-within : goal.returns-clause-within
returns-clause-within c = (front_goes c.args.quoted c.args.text.now c.args.at c.ends-found.result c.requires c.ends-found.ensures (omega arith)).0

pub returns-clause-goes : goal.returns-clause-goes
returns-clause-goes c = (front_goes c.args.quoted c.args.text.now c.args.at c.ends-found.result c.requires c.ends-found.ensures (omega arith)).1

pub returns-clause-ends : goal.returns-clause-ends
returns-clause-ends c = λ less. front_ends c.args.quoted c.args.text.now c.args.at c.ends-found.result c.requires c.ends-found.ensures (omega arith) less
