use Rattle.std.proofs.Common.{◌≡◌, false, length}
use Rattle.page_core_escapes.specs.Tokens.{tokens_of}
use Rattle.page_scopes_phrases.specs.Names.{prints_cell}
use Rattle.page_scopes_phrases.proofs.kept_words.prints_cell.Given as goal

abbrev pub invariant-loop-token : goal.invariant-loop-token
invariant-loop-token l = prints_cell l.is_literal (tokens_of false l.text) ≡ prints_cell l.is_literal l.tokens

abbrev pub decreases-loop-token : goal.decreases-loop-token
decreases-loop-token l = length l.tokens
