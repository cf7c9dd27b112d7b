use Rattle.std.proofs.Common.{◌≡◌, ◌≤◌, ◌+◌, ◌-◌, drop, length}
use Rattle.page_fill_rows.specs.machine.Plain.{word_end}
use Rattle.page_fill_rows.proofs.plain_texts.end_by_bytes.Given as goal

abbrev pub invariant-loop-end : goal.invariant-loop-end
invariant-loop-end l = (l.end ≤ length l.text) × (word_end l.text ≡ l.end + word_end (drop l.end l.text))

abbrev pub decreases-loop-end : goal.decreases-loop-end
decreases-loop-end l = length l.text - l.end
