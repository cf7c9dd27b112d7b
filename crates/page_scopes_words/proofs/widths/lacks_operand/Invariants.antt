use Rattle.std.proofs.Common.{◌≡◌, length}
use Rattle.std.specs.List.{list_any}
use Rattle.page_core_base.specs.Messages.{Message}
use Rattle.page_scopes_words.specs.Widths.{is_missing}
use Rattle.page_scopes_words.proofs.widths.lacks_operand.Given as goal

abbrev pub invariant-loop-note : goal.invariant-loop-note
invariant-loop-note l =
    list_any (λ (m : Message). is_missing m.kind) l.fn.notes ≡ list_any (λ (m : Message). is_missing m.kind) l.notes

abbrev pub decreases-loop-note : goal.decreases-loop-note
decreases-loop-note l = length l.notes
