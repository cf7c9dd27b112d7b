use Rattle.std.proofs.Common.{◌≤◌, ◌+◌, ◌*◌, length, sym, subst}
use Rattle.page_roff_source.specs.Runs.{RoffEdge}
use Rattle.page_roff_source.proofs.CountLemmas.{one_done}
use Rattle.page_roff_source.proofs.RoffLineLemmas.{done_room}
use Rattle.page_roff_source.proofs.laws.room_law.Goals as goal

pub returns : goal.returns
returns c = λ e line.
    subst (λ (after : RoffEdge). after.place.levels.skipped ≤ e.place.levels.skipped + (2 * length line.text + 2)) (sym (one_done e line)) (done_room e line)
