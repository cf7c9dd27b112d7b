use Rattle.std.proofs.Common.{ap, ◌∙◌, map, Some, None}
use Rattle.std.specs.Prelude.{string_bytes}
use Rattle.std.proofs.lemmas.Result.{IfOk-weaker}
use Rattle.clap.specs.Words.{found_of}
use Rattle.mandoc_command.specs.Line.{texts}
use Rattle.mandoc_command.proofs.LineLemmas.{names_in-found}
use Rattle.mandoc_command.proofs.texts.Texts.in_matches.Goals as goal

pub returns-in-Some : goal.returns-in-Some
returns-in-Some c =
    let found = names_in-found (found_of c.args.matches.now) (Some (texts c.in-Some.names.now)) c.in-Some.ensures in
    IfOk-weaker c.copied.result _ _ (λ names copied. copied ∙ found) c.copied.ensures

pub returns-in-None : goal.returns-in-None
returns-in-None c = ap (map string_bytes) c.new.ensures.items ∙ names_in-found (found_of c.args.matches.now) None c.in-None.ensures
