use Rattle.std.proofs.Common.{◌≡◌, drop}
use Rattle.page_roff_decoding.specs.Decoding.{choice_of}
use Rattle.page_roff_decoding.proofs.choosing.choose.Given as goal

-- no byte before this place decides
abbrev pub invariant-loop-at : goal.invariant-loop-at
invariant-loop-at l = choice_of l.text ≡ choice_of (drop l.at l.text)
