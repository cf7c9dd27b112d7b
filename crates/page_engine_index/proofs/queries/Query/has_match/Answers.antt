use Rattle.std.proofs.Common.{sym, ◌∙◌, arith}
use Rattle.page_engine_index.proofs.MatchLemmas.{any_found, any_on, any_end}
use Rattle.page_engine_index.proofs.queries.Query.has_match.Goals as goal

pub returns-then-has_match : goal.returns-then-has_match
returns-then-has_match c =
    any_found c.args.names.now c.args.self.now.words.now c.loop-word.word-index _ c.loop-word.invariant c.loop-word-test.true (rw c.as_bytes.ensures.value at (sym c.has_match.ensures ∙ c.if-has_match.true))

pub loop-word-preserved : goal.loop-word-preserved
loop-word-preserved c =
    any_on c.args.names.now c.args.self.now.words.now c.loop-word.word-index _ c.loop-word.invariant c.loop-word-test.true (rw c.as_bytes.ensures.value at (sym c.has_match.ensures ∙ c.if-has_match.false))

pub returns : goal.returns
returns c = any_end c.args.names.now c.args.self.now.words.now c.loop-word.word-index _ c.loop-word.invariant (omega (arith, c.loop-word-test.false))
