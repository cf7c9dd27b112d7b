use Rattle.std.proofs.Common.{◌≡◌, ◌≤◌, ◌-◌, ◌+◌, length, drop}
use Rattle.page_core_base.specs.laws.Views.{UpTo}
use Rattle.page_roff_decoding.specs.Decoding.{line_limit, characters, characters_within, bad_notes}
use Rattle.page_roff_decoding.proofs.reporting.report_bad.Given as goal

-- the sink got the messages about what comes before this place
abbrev pub invariant-loop-at : goal.invariant-loop-at
invariant-loop-at g l = (l.at ≤ length l.text) × (l.room ≤ line_limit)
    × UpTo g.N.NoteSink.gave l.fn.notes (bad_notes l.number 1 (characters_within line_limit (characters l.encoding l.text)))
    (bad_notes l.number (line_limit - l.room + 1) (characters_within l.room (characters l.encoding (drop l.at l.text)))) l.notes
    × (g.N.NoteSink.failed l.notes ≡ g.N.NoteSink.failed l.fn.notes) × (g.N.NoteSink.loans l.notes ≡ g.N.NoteSink.loans l.fn.notes)

abbrev pub decreases-loop-at : goal.decreases-loop-at
decreases-loop-at g l = length l.text - l.at
