use Rattle.std.proofs.Common.{Ok, Err, refl, sym, ap, ◌∙◌, subst, ◌+◌}
use Rattle.std.specs.Prelude.{string_bytes}
use Rattle.mandoc_formats.specs.Formats.{HasFailed}
use Rattle.mandoc_programs.specs.declared.pages.Tally.{Tally}
use Rattle.mandoc_programs.specs.Indexes.{IsPage, and_so, is_fault, lost, with}
use Rattle.mandoc_formats.proofs.Turns.{Passed, passed_none, passed_on, ended_at, ended_last}
use Rattle.mandoc_programs.proofs.pages.Pages.give_files.Goals as goal

pub loop-name-init : goal.loop-name-init
loop-name-init g c =
    let is = IsPage (g.R.Folders.sees c.args.self.now.files.now) (HasFailed g.V.Target.counts g.V.Target.failures) (lost c.args.self.now.form (HasFailed g.W.Target.counts g.W.Target.failures)) c.args.self.now.form c.args.self.now.dir.now c.args.folder.now in
    let a = g.W.Target.contents c.args.out.now in
    let b = g.V.Target.contents c.args.err.now in
    subst (λ (t : Tally). Passed and_so is_fault is string_bytes c.args.names.now (with 0) 0 a a b b (Ok t)) (sym c.with-tally.ensures)
    (passed_none and_so is_fault is string_bytes c.args.names.now (with 0) a b)

pub returns-in-Err : goal.returns-in-Err
returns-in-Err g c =
    let is = IsPage (g.R.Folders.sees c.args.self.now.files.now) (HasFailed g.V.Target.counts g.V.Target.failures) (lost c.args.self.now.form (HasFailed g.W.Target.counts g.W.Target.failures)) c.args.self.now.form c.args.self.now.dir.now c.args.folder.now in
    ended_at and_so is_fault is string_bytes c.args.names.now (with 0) c.loop-name.name-index _ _ _ _ _ _ (Ok c.loop-name.tally) (Err c.in-Err.fault) c.name-item.result c.as_str.result.now
    c.loop-name.invariant c.loop-name-test.true (c.as_str.ensures.value ∙ ap string_bytes c.name-item.is) c.in-Err.ensures refl

pub loop-name-preserved : goal.loop-name-preserved
loop-name-preserved g c =
    let is = IsPage (g.R.Folders.sees c.args.self.now.files.now) (HasFailed g.V.Target.counts g.V.Target.failures) (lost c.args.self.now.form (HasFailed g.W.Target.counts g.W.Target.failures)) c.args.self.now.form c.args.self.now.dir.now c.args.folder.now in
    let a = g.W.Target.contents c.args.out.now in
    let b = g.W.Target.contents c.give_file.new.out in
    let d = g.V.Target.contents c.args.err.now in
    let e = g.V.Target.contents c.give_file.new.err in
    subst (λ (t : Tally). Passed and_so is_fault is string_bytes c.args.names.now (with 0) (c.loop-name.name-index + 1) a b d e (Ok t)) (sym c.and-tally.ensures)
    (passed_on and_so is_fault is string_bytes c.args.names.now (with 0) c.loop-name.name-index _ _ _ _ _ _ (Ok c.loop-name.tally) (Ok c.in-Ok.more) c.name-item.result c.as_str.result.now
    c.loop-name.invariant c.loop-name-test.true (c.as_str.ensures.value ∙ ap string_bytes c.name-item.is) c.in-Ok.ensures refl)

pub returns : goal.returns
returns g c =
    let is = IsPage (g.R.Folders.sees c.args.self.now.files.now) (HasFailed g.V.Target.counts g.V.Target.failures) (lost c.args.self.now.form (HasFailed g.W.Target.counts g.W.Target.failures)) c.args.self.now.form c.args.self.now.dir.now c.args.folder.now in
    ended_last and_so is_fault is string_bytes c.args.names.now (with 0) c.loop-name.name-index _ _ _ _ (Ok c.loop-name.tally) c.loop-name.invariant c.loop-name-test.false
