use Rattle.std.proofs.Common.{◌≡◌, ◌≤◌, false, length}
use Rattle.page_core_escapes.specs.laws.Views.{begins_word}
use Rattle.page_scopes_text.specs.machine.Letters.{ReadsKept}
use Rattle.page_scopes_text.proofs.kept_texts.read_kept.Given as goal

abbrev pub invariant-loop-style : goal.invariant-loop-style
invariant-loop-style l = record {
  less : length l.rest ≤ length l.text;
  ends : begins_word l.rest ≡ false;
  reads : ReadsKept l.style l.text l.rest;
}

abbrev pub decreases-loop-style : goal.decreases-loop-style
decreases-loop-style l = length l.rest
