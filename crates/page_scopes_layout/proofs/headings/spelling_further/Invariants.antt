use Rattle.std.proofs.Common.{◌≡◌, drop}
use Rattle.std.specs.List.{fold}
use Rattle.page_scopes_layout.specs.Headings as headings
use Rattle.page_scopes_layout.proofs.headings.spelling_further.Given as goal

abbrev pub invariant-loop-byte : goal.invariant-loop-byte
invariant-loop-byte l =
    fold headings.character_further l.heading (drop l.byte-index l.byte-items) ≡ fold headings.character_further l.fn.start l.byte-items
