use Rattle.std.proofs.Common.{◌≡◌, ◌≤◌, ◌+◌, ◌*◌, false, length}
use Rattle.page_core_escapes.specs.Tokens.{tokens_len, tokens_of}
use Rattle.page_engine_header.specs.Header.{tokens_columns}
use Rattle.page_engine_header.proofs.printing.text_columns.Given as goal

abbrev pub invariant-loop-token : goal.invariant-loop-token
invariant-loop-token l = record {
  value : l.sum + tokens_columns l.output l.tokens ≡ tokens_columns l.output (tokens_of false l.text);
  bound : l.sum + 1000 * tokens_len l.tokens ≤ 1000 * length l.text;
}

abbrev pub decreases-loop-token : goal.decreases-loop-token
decreases-loop-token l = length l.tokens
