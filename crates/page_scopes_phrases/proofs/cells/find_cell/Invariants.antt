use Rattle.std.proofs.Common.{◌≡◌, ◌≤◌, ◌+◌, ◌-◌, length}
use Rattle.page_core_escapes.specs.Tokens.{tokens_of}
use Rattle.page_core_base.specs.declared.limits.TheConstants.{LINE}
use Rattle.page_scopes_phrases.specs.LineWords.{before_blanks, before_tab}
use Rattle.page_scopes_phrases.proofs.NameLemmas.{end_by}
use Rattle.page_scopes_phrases.proofs.cells.find_cell.Given as goal

abbrev pub invariant-loop-rest : goal.invariant-loop-rest
invariant-loop-rest l =
    (before_tab (tokens_of l.quoted l.text) ≡ length l.text - length l.rest + before_tab (tokens_of l.quoted l.rest))
    × (before_blanks (tokens_of l.quoted l.text) ≡ end_by l.end (length l.text - length l.rest) (before_blanks (tokens_of l.quoted l.rest)))
    × (l.end + length l.rest ≤ length l.text)
    × (length l.text ≤ LINE)

abbrev pub decreases-loop-rest : goal.decreases-loop-rest
decreases-loop-rest l = length l.rest
