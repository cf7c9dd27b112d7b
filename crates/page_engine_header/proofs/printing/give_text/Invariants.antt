use Rattle.std.proofs.Common.{◌≡◌, ◌≤◌, false, length}
use Rattle.page_core_base.specs.laws.Views.{CameUpTo}
use Rattle.page_core_escapes.specs.Tokens.{tokens_len, tokens_of}
use Rattle.page_engine_header.specs.Header.{tokens_items}
use Rattle.page_engine_header.specs.laws.Views.{fonts_after}
use Rattle.page_engine_header.proofs.printing.give_text.Given as goal

abbrev pub invariant-loop-token : goal.invariant-loop-token
invariant-loop-token g l = record {
  came : CameUpTo g.O.PieceOut.left l.fn.out (tokens_items l.output l.place l.fn.fonts (tokens_of false l.text))
      (tokens_items l.output l.place l.fonts l.tokens) l.out;
  fonts : fonts_after l.fn.fonts (tokens_of false l.text) ≡ fonts_after l.fonts l.tokens;
  short : tokens_len l.tokens ≤ 256;
}

abbrev pub decreases-loop-token : goal.decreases-loop-token
decreases-loop-token g l = length l.tokens
