use Rattle.std.proofs.Common.{◌≡◌, ◌≤◌, take}
use Rattle.page_fill_rows.specs.machine.Plain as plain
use Rattle.page_fill_rows.proofs.plain_texts.start_by_bytes.Given as goal

abbrev pub invariant-loop-start : goal.invariant-loop-start
invariant-loop-start l = (l.start ≤ l.end) × (plain.word_start (take l.end l.text) ≡ plain.word_start (take l.start l.text))

abbrev pub decreases-loop-start : goal.decreases-loop-start
decreases-loop-start l = l.start
