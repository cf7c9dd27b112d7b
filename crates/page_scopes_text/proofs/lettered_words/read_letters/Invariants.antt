use Rattle.std.proofs.Common.{length}
use Rattle.page_scopes_text.specs.machine.Letters.{AddsWord}
use Rattle.page_scopes_text.proofs.lettered_words.read_letters.Given as goal

abbrev pub invariant-loop-fonts : goal.invariant-loop-fonts
invariant-loop-fonts l = AddsWord l.quoted l.fn.fonts l.fn.letters l.text l.fonts l.letters l.rest

abbrev pub decreases-loop-fonts : goal.decreases-loop-fonts
decreases-loop-fonts l = length l.rest
