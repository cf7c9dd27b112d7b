use Rattle.std.proofs.Common.{Ok, ℕ, List}
use Rattle.std.specs.Borrow.{Bor}
use Rattle.mandoc_formats.specs.Formats.{HasFailed}
use Rattle.mandoc_programs.specs.Indexes.{IsFolder, and_so, is_fault, lost, with}
use Rattle.mandoc_formats.proofs.Turns.{Passed}
use Rattle.mandoc_programs.proofs.pages.Pages.give_folders.Given as goal

abbrev pub invariant-loop-folder : goal.invariant-loop-folder
invariant-loop-folder g l = Passed and_so is_fault (IsFolder (g.R.Folders.sees l.self.files.now) (HasFailed g.V.Target.counts g.V.Target.failures) (lost l.self.form (HasFailed g.W.Target.counts g.W.Target.failures)) l.self.form l.self.dir.now) (λ (folder : Bor (List ℕ)). folder.now) l.folders (with 0) l.folder-index
    (g.W.Target.contents l.fn.out) (g.W.Target.contents l.out) (g.V.Target.contents l.fn.err) (g.V.Target.contents l.err) (Ok l.tally)
