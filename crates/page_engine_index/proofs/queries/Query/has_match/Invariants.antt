use Rattle.std.proofs.Common.{◌≡◌, map}
use Rattle.std.specs.List.{list_any}
use Rattle.page_engine_index.specs.Matches.{has_match}
use Rattle.page_engine_index.proofs.MatchLemmas.{any_from}
use Rattle.page_engine_index.proofs.queries.Query.has_match.Given as goal

abbrev pub invariant-loop-word : goal.invariant-loop-word
invariant-loop-word l = list_any (λ word. has_match word l.names) (map (λ word. word.now) l.self.words.now) ≡ any_from l.names l.self.words.now l.word-index
