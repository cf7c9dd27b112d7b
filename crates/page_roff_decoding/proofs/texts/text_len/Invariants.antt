use Rattle.std.proofs.Common.{◌≡◌, ◌+◌, ◌-◌, ◌≤◌, length, drop}
use Rattle.std.specs.List.{prefix_len}
use Rattle.page_roff_decoding.specs.machine.Fronts.{is_text}
use Rattle.page_roff_decoding.proofs.texts.text_len.Given as goal

-- the bytes before this place are text
abbrev pub invariant-loop-at : goal.invariant-loop-at
invariant-loop-at l = (prefix_len is_text l.bytes ≡ l.at + prefix_len is_text (drop l.at l.bytes)) × (l.at ≤ length l.bytes)

abbrev pub decreases-loop-at : goal.decreases-loop-at
decreases-loop-at l = length l.bytes - l.at
