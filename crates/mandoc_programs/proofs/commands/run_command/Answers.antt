use Rattle.std.proofs.Common.{◌≡◌, ◌∙◌, ap, inl, refl, sym, subst}
use Rattle.std.specs.Prelude.{◌⊎◌}
use Rattle.page_core_streams.specs.laws.Views.{Grows-nil}
use Rattle.mandoc_command.specs.declared.commands.Command.{Command}
use Rattle.mandoc_formats.specs.Formats.{HasFailed}
use Rattle.mandoc_programs.specs.Commands.{IsRun, ReadsInput, Run, run_of}
use Rattle.mandoc_programs.proofs.commands.run_command.Goals as goal

pub returns-in-Format-clause-came : goal.returns-in-Format-clause-came
returns-in-Format-clause-came g c =
    let f = c.format_all.ensures.came in
    let run = run_of f.0 in
    let is = subst (λ (k : Command). IsRun (g.F.Finds.finds c.args.files.now) (g.R.Finds.finds c.args.regular.now) (g.R.Folders.sees c.args.regular.now) (HasFailed g.V.Target.counts g.V.Target.failures) _ _ _ _ k
    (g.I.Input.state c.args.input.now).remaining run) (sym c.in-Format.is) (f.0, f.1, refl) in
    (run, is, f.2, f.3, Grows-nil _, f.4)

pub returns-in-Format-clause-input : goal.returns-in-Format-clause-input
returns-in-Format-clause-input g c =
    subst (λ (k : Command). ReadsInput k ⊎ (c.format_all.new.input ≡ c.args.input.now)) (sym c.in-Format.is) c.format_all.ensures.input

pub returns-in-Makewhatis-clause-came : goal.returns-in-Makewhatis-clause-came
returns-in-Makewhatis-clause-came g c =
    let f = c.makewhatis.ensures.came in
    let run : Run = record { out = f.0.out; err = f.0.err; put = f.0.end.put; status = f.0.end.done.status } in
    let is = subst (λ (k : Command). IsRun (g.F.Finds.finds c.args.files.now) (g.R.Finds.finds c.args.regular.now) (g.R.Folders.sees c.args.regular.now) (HasFailed g.V.Target.counts g.V.Target.failures) _ _ _ _ k
    (g.I.Input.state c.args.input.now).remaining run) (sym c.in-Makewhatis.is) (f.0, f.1, refl) in
    (run, is, f.2, f.3, f.4, f.5)

pub returns-in-Whatis-clause-came : goal.returns-in-Whatis-clause-came
returns-in-Whatis-clause-came g c =
    let f = c.search.ensures.came in
    let run = run_of f.0 in
    let is = subst (λ (k : Command). IsRun (g.F.Finds.finds c.args.files.now) (g.R.Finds.finds c.args.regular.now) (g.R.Folders.sees c.args.regular.now) (HasFailed g.V.Target.counts g.V.Target.failures) _ _ _ _ k
    (g.I.Input.state c.args.input.now).remaining run) (sym c.in-Whatis.is) (f.0, f.1, refl) in
    (run, is, f.2, f.3, Grows-nil _, f.4)

pub returns-in-Format-clause-said : goal.returns-in-Format-clause-said
returns-in-Format-clause-said g c e l = inl (c.format_all.ensures.came.5 l).1

pub returns-in-Whatis-clause-said : goal.returns-in-Whatis-clause-said
returns-in-Whatis-clause-said g c e l = inl (ap g.V.Buffered.waits (c.search.ensures.put_out l).1 ∙ e)
