use Rattle.std.proofs.Common.{◌≡◌, ◌≤◌, ◌++◌, false, drop, length}
use Rattle.page_core_base.specs.laws.Views.{CameUpTo}
use Rattle.page_core_escapes.specs.Tokens.{tokens_of}
use Rattle.page_scopes_phrases.specs.Names.{parts_items}
use Rattle.page_scopes_phrases.specs.machine.NameParts as names
use Rattle.page_scopes_phrases.proofs.kept_words.give_known_parts.Given as goal

abbrev pub invariant-loop-part : goal.invariant-loop-part
invariant-loop-part g l = record {
  came : CameUpTo g.O.PieceOut.left l.fn.out (parts_items l.is_literal l.front l.place l.fn.start (tokens_of false l.text))
      (names.blank_texts l.blanks.count l.blanks.times l.fonts.value.font l.place ++ parts_items l.is_literal l.gap l.place l.fonts (tokens_of false (drop l.at l.text))) l.out;
  known : drop l.part-index l.parts ≡ names.parts_of (drop l.at l.text);
  within : l.at ≤ length l.text;
  count : l.blanks.count ≤ 1000;
  times : l.blanks.times ≤ l.part-index;
}
