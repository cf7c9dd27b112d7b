use Rattle.std.proofs.Common.{length}
use Rattle.page_core_base.specs.laws.Views.{CameUpTo}
use Rattle.page_core_escapes.specs.Tokens.{tokens_of}
use Rattle.page_scopes_words.specs.Words.{tokens_notes}
use Rattle.page_scopes_nodes.proofs.targets.report_escapes.Given as goal

abbrev pub invariant-loop-token : goal.invariant-loop-token
invariant-loop-token g l =
    CameUpTo g.O.PieceOut.left l.fn.out (tokens_notes l.quoted l.place (tokens_of l.quoted l.text)) (tokens_notes l.quoted l.place l.tokens) l.out

abbrev pub decreases-loop-token : goal.decreases-loop-token
decreases-loop-token g l = length l.tokens
