use Rattle.std.proofs.Common.{◌≡◌, [], ◌<◌}
use Rattle.std.specs.Prelude.{string_bytes}
use Rattle.page_core_streams.specs.Streams.{Grows}
use Rattle.mandoc_formats.specs.Formats.{HasFailed}
use Rattle.mandoc_programs.specs.Indexes.{IsDir, IsSaid, Makes, none_made, so, stops_making}
use Rattle.mandoc_formats.proofs.Turns.{left, Passed}
use Rattle.mandoc_programs.proofs.indexing.makewhatis.Given as goal

abbrev pub invariant-loop-name : goal.invariant-loop-name
invariant-loop-name g l = (end : Makes) × Passed so stops_making (IsDir (g.R.Folders.sees l.fn.files) (HasFailed g.V.Target.counts g.V.Target.failures) (HasFailed g.W.Target.counts g.W.Target.failures) l.form) string_bytes l.names none_made l.name-index
    (g.W.Target.contents l.fn.out) (g.W.Target.contents l.out) (g.V.Target.contents l.fn.err) (g.V.Target.contents l.err) end
    × Grows (g.P.IndexPlaces.put l.fn.places) (g.P.IndexPlaces.put l.places) end.put × (end.done ≡ left l.worst)
    × (g.W.Buffered.waits l.fn.out ≡ [] → l.worst < 6 → g.W.Buffered.waits l.out ≡ [])
    × (g.V.Buffered.waits l.fn.err ≡ [] → l.worst < 6 → IsSaid (g.V.Buffered.waits l.err) (HasFailed g.V.Target.counts g.V.Target.failures))
