use Rattle.std.proofs.Common.{◌<◌}
use Rattle.std.specs.Prelude.{string_bytes}
use Rattle.mandoc_formats.specs.Formats.{HasFailed, IsFile, IsPutOut, causes}
use Rattle.mandoc_formats.specs.Turns.{does_stop, worse}
use Rattle.mandoc_formats.proofs.Turns.{left, Passed}
use Rattle.mandoc_formats.proofs.formatting.format_all.Given as goal

abbrev pub invariant-loop-name : goal.invariant-loop-name
invariant-loop-name g l = Passed worse does_stop (IsFile (g.R.Finds.finds l.fn.rt) (HasFailed g.V.Target.counts g.V.Target.failures) (causes g.R.File.Input.counts g.W.Target.counts g.V.Target.counts g.R.File.Input.state g.W.Target.failures g.V.Target.failures) l.fn.format.settings) string_bytes l.names (left 0) l.name-index
    (g.W.Target.contents l.fn.out) (g.W.Target.contents l.out) (g.V.Target.contents l.fn.err) (g.V.Target.contents l.err) (left l.worst)
    × (0 < l.name-index → IsPutOut l.worst (g.W.Buffered.waits l.out) (g.V.Buffered.waits l.err))
