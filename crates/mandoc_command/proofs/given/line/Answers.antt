use Rattle.std.proofs.Common.{true, ap, ◌∙◌, ◌≡◌, codes}
use Rattle.std.proofs.lemmas.Result.{IfOk-weaker}
use Rattle.clap.specs.Simple.{app_of_fields, on_top}
use Rattle.clap.specs.Words.{app_of, new_app}
use Rattle.mandoc_command.specs.Line.{bare, line, rules, with_rules}
use Rattle.mandoc_command.proofs.LineLemmas.{adds_rules}
use Rattle.mandoc_command.proofs.given.line.Goals as goal

pub returns : goal.returns
unfolding line
returns c =
    let is_bare : app_of c.disable_version_flag.result ≡ bare (new_app (codes "mandoc")) =
    ap app_of_fields c.disable_version_flag.ensures
    ∙ ap (on_top (λ s. record s { disable_version_flag = true })) (ap app_of_fields c.disable_help_flag.ensures
    ∙ ap (on_top (λ s. record s { disable_help_flag = true })) (ap app_of_fields c.no_binary_name.ensures
    ∙ ap (on_top (λ s. record s { no_binary_name = true })) c.new.ensures.app)) in
    IfOk-weaker c.args-2.result _ _ (λ command added. adds_rules c.disable_version_flag.result command c.in_ok-args.args.items (rules c.args.program) added c.in_ok-args.ensures
    ∙ ap (λ a. with_rules a (rules c.args.program)) is_bare) c.args-2.ensures
