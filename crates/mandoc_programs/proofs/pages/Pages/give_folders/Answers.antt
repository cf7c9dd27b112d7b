use Rattle.std.proofs.Common.{ℕ, List, [], Ok, Err, refl, sym, subst, get_or, ◌+◌}
use Rattle.std.specs.Borrow.{Bor}
use Rattle.mandoc_formats.specs.Formats.{HasFailed}
use Rattle.mandoc_programs.specs.declared.pages.Tally.{Tally}
use Rattle.mandoc_programs.specs.Indexes.{IsFolder, and_so, is_fault, lost, with}
use Rattle.mandoc_formats.proofs.Turns.{Passed, passed_none, passed_on, ended_at, ended_last}
use Rattle.mandoc_programs.proofs.pages.Pages.give_folders.Goals as goal

pub loop-folder-init : goal.loop-folder-init
loop-folder-init g c =
    let is = IsFolder (g.R.Folders.sees c.args.self.now.files.now) (HasFailed g.V.Target.counts g.V.Target.failures) (lost c.args.self.now.form (HasFailed g.W.Target.counts g.W.Target.failures)) c.args.self.now.form c.args.self.now.dir.now in
    let a = g.W.Target.contents c.args.out.now in
    let b = g.V.Target.contents c.args.err.now in
    subst (λ (t : Tally). Passed and_so is_fault is (λ (folder : Bor (List ℕ)). folder.now) c.args.folders.now (with 0) 0 a a b b (Ok t)) (sym c.with-tally.ensures)
    (passed_none and_so is_fault is (λ (folder : Bor (List ℕ)). folder.now) c.args.folders.now (with 0) a b)

pub returns-in-Err : goal.returns-in-Err
returns-in-Err g c =
    let is = IsFolder (g.R.Folders.sees c.args.self.now.files.now) (HasFailed g.V.Target.counts g.V.Target.failures) (lost c.args.self.now.form (HasFailed g.W.Target.counts g.W.Target.failures)) c.args.self.now.form c.args.self.now.dir.now in
    let none : Bor (List ℕ) = record { ref_ptr = (0, 0); now = [] } in
    ended_at and_so is_fault is (λ (folder : Bor (List ℕ)). folder.now) c.args.folders.now (with 0) c.loop-folder.folder-index _ _ _ _ _ _ (Ok c.loop-folder.tally) (Err c.in-Err.fault) none (get_or c.args.folders.now c.loop-folder.folder-index none).now
    c.loop-folder.invariant c.loop-folder-test.true refl c.in-Err.ensures refl

pub loop-folder-preserved : goal.loop-folder-preserved
loop-folder-preserved g c =
    let is = IsFolder (g.R.Folders.sees c.args.self.now.files.now) (HasFailed g.V.Target.counts g.V.Target.failures) (lost c.args.self.now.form (HasFailed g.W.Target.counts g.W.Target.failures)) c.args.self.now.form c.args.self.now.dir.now in
    let none : Bor (List ℕ) = record { ref_ptr = (0, 0); now = [] } in
    let a = g.W.Target.contents c.args.out.now in
    let b = g.W.Target.contents c.give_folder.new.out in
    let d = g.V.Target.contents c.args.err.now in
    let e = g.V.Target.contents c.give_folder.new.err in
    subst (λ (t : Tally). Passed and_so is_fault is (λ (folder : Bor (List ℕ)). folder.now) c.args.folders.now (with 0) (c.loop-folder.folder-index + 1) a b d e (Ok t)) (sym c.and-tally.ensures)
    (passed_on and_so is_fault is (λ (folder : Bor (List ℕ)). folder.now) c.args.folders.now (with 0) c.loop-folder.folder-index _ _ _ _ _ _ (Ok c.loop-folder.tally) (Ok c.in-Ok.more) none (get_or c.args.folders.now c.loop-folder.folder-index none).now
    c.loop-folder.invariant c.loop-folder-test.true refl c.in-Ok.ensures refl)

pub returns : goal.returns
returns g c =
    let is = IsFolder (g.R.Folders.sees c.args.self.now.files.now) (HasFailed g.V.Target.counts g.V.Target.failures) (lost c.args.self.now.form (HasFailed g.W.Target.counts g.W.Target.failures)) c.args.self.now.form c.args.self.now.dir.now in
    ended_last and_so is_fault is (λ (folder : Bor (List ℕ)). folder.now) c.args.folders.now (with 0) c.loop-folder.folder-index _ _ _ _ (Ok c.loop-folder.tally) c.loop-folder.invariant c.loop-folder-test.false
