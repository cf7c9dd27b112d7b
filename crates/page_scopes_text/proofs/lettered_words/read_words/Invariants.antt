use Rattle.std.proofs.Common.{length}
use Rattle.page_scopes_text.specs.machine.Letters.{AddsWords}
use Rattle.page_scopes_text.proofs.lettered_words.read_words.Given as goal

abbrev pub invariant-loop-after : goal.invariant-loop-after
invariant-loop-after l = AddsWords l.style l.fn.fonts l.fn.letters l.text l.fonts l.letters l.rest

abbrev pub decreases-loop-after : goal.decreases-loop-after
decreases-loop-after l = length l.rest
