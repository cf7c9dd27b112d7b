use Rattle.std.proofs.Common.{◌≤◌, length}
use Rattle.page_core_base.specs.laws.Views.{CameUpTo}
use Rattle.page_core_base.specs.declared.limits.TheConstants.{LINE}
use Rattle.page_scopes_words.specs.Words.{tokens_notes}
use Rattle.page_scopes_text.specs.Texts.{words_of}
use Rattle.page_scopes_text.proofs.words.report_word.Given as goal

abbrev pub invariant-loop-rest : goal.invariant-loop-rest
invariant-loop-rest g l =
    CameUpTo g.O.PieceOut.left l.fn.out (tokens_notes l.quoted l.place (words_of l.quoted l.text).word) (tokens_notes l.quoted l.place (words_of l.quoted l.rest).word) l.out
    × (length l.rest ≤ LINE)

abbrev pub decreases-loop-rest : goal.decreases-loop-rest
decreases-loop-rest g l = length l.rest
