use Rattle.std.proofs.Common.{◌≡◌, length}
use Rattle.std.specs.List.{fold}
use Rattle.page_core_escapes.specs.Tokens.{tokens_of}
use Rattle.page_scopes_layout.specs.Headings as headings
use Rattle.page_scopes_layout.proofs.headings.tokens_further.Given as goal

abbrev pub invariant-loop-token : goal.invariant-loop-token
invariant-loop-token l = fold headings.token_further l.fn.start (tokens_of l.quoted l.text) ≡ fold headings.token_further l.heading l.tokens

abbrev pub decreases-loop-token : goal.decreases-loop-token
decreases-loop-token l = length l.tokens
