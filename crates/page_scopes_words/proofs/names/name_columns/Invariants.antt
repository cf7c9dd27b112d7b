use Rattle.std.proofs.Common.{◌≡◌, ◌≤◌, ◌+◌, ◌*◌, length}
use Rattle.std.specs.Prelude.{sum_by}
use Rattle.page_core_escapes.specs.Tokens.{tokens_len}
use Rattle.page_scopes_words.specs.Widths as names
use Rattle.page_scopes_words.proofs.names.name_columns.Given as goal

abbrev pub invariant-loop-token : goal.invariant-loop-token
invariant-loop-token l = record {
  value : l.sum + sum_by (names.token_columns l.output) l.tokens ≡ names.name_columns l.output l.quoted l.name;
  bound : l.sum + 1000 * tokens_len l.tokens ≤ 1000 * length l.name;
}

abbrev pub decreases-loop-token : goal.decreases-loop-token
decreases-loop-token l = length l.tokens
