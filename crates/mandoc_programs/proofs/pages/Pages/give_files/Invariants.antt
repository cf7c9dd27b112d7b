use Rattle.std.proofs.Common.{Ok}
use Rattle.std.specs.Prelude.{string_bytes}
use Rattle.mandoc_formats.specs.Formats.{HasFailed}
use Rattle.mandoc_programs.specs.Indexes.{IsPage, and_so, is_fault, lost, with}
use Rattle.mandoc_formats.proofs.Turns.{Passed}
use Rattle.mandoc_programs.proofs.pages.Pages.give_files.Given as goal

abbrev pub invariant-loop-name : goal.invariant-loop-name
invariant-loop-name g l = Passed and_so is_fault (IsPage (g.R.Folders.sees l.self.files.now) (HasFailed g.V.Target.counts g.V.Target.failures) (lost l.self.form (HasFailed g.W.Target.counts g.W.Target.failures)) l.self.form l.self.dir.now l.folder) string_bytes l.names (with 0) l.name-index
    (g.W.Target.contents l.fn.out) (g.W.Target.contents l.out) (g.V.Target.contents l.fn.err) (g.V.Target.contents l.err) (Ok l.tally)
