use Rattle.std.proofs.Common.{◌≡◌, false, length}
use Rattle.page_core_base.specs.laws.Views.{CameUpTo}
use Rattle.page_core_escapes.specs.Tokens.{tokens_of}
use Rattle.page_scopes_phrases.specs.Names.{fonts_through, parts_items}
use Rattle.page_scopes_phrases.proofs.kept_words.give_kept.Given as goal

abbrev pub invariant-loop-token : goal.invariant-loop-token
invariant-loop-token g l = record {
  came : CameUpTo g.O.PieceOut.left l.fn.out (parts_items l.is_literal l.front l.place l.fn.start (tokens_of false l.text.text))
      (parts_items l.is_literal l.gap l.place l.fonts l.tokens) l.out;
  fonts : fonts_through l.fn.start (tokens_of false l.text.text) ≡ fonts_through l.fonts l.tokens;
}

abbrev pub decreases-loop-token : goal.decreases-loop-token
decreases-loop-token g l = length l.tokens
