use Rattle.std.proofs.Common.{ap, sym, ◌∙◌, ◌≡◌}
use Rattle.clap.specs.Words.{app_of, kind_of, found_of, is_simple, is_simple_and_free, rows_of}
use Rattle.mandoc_command.specs.Line.{line, refusal_by, texts}
use Rattle.mandoc_command.proofs.LineLemmas.{line_is_simple, line_is_free, is_line-ok, is_line-err, found_in-ok}
use Rattle.mandoc_command.proofs.given.matches_in.Goals as goal

pub returns-in-Ok-try_get_matches_from : goal.returns-in-Ok-try_get_matches_from
returns-in-Ok-try_get_matches_from c =
    let app = app_of c.in-Ok.line in
    let same : app ≡ line c.args.program = c.in-Ok.ensures in
    let words = texts c.args.words.now in
    let found = c.in-Ok-try_get_matches_from.ensures in (
      is_line-ok c.args.program app words same (found.kinds (ap is_simple_and_free same ∙ line_is_free c.args.program)),
      found_in-ok c.args.program app words (rows_of (found_of c.in-Ok-try_get_matches_from.matches)) same (found.matches (ap is_simple same ∙ line_is_simple c.args.program)).0,
    )

pub returns-in-Err : goal.returns-in-Err
returns-in-Err c refused =
    let app = app_of c.in-Ok.line in
    let same : app ≡ line c.args.program = c.in-Ok.ensures in
    let words = texts c.args.words.now in
    let kinds = c.in-Err.ensures.kinds (ap is_simple_and_free same ∙ line_is_free c.args.program) in
    is_line-err c.args.program app words (kind_of c.in-Err.error) same kinds (ap refusal_by (sym c.kind.ensures) ∙ sym c.refusal_by.ensures ∙ refused)
