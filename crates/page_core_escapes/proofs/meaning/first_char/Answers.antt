use Rattle.std.proofs.Common.{◌≡◌, ◌∙◌, sym, rules}
use Rattle.std.specs.Prelude.{slice_index}
use Rattle.std.specs.Str.{chars}
use Rattle.page_core_escapes.proofs.Unwinding.{first_char-text, first_char-none}
use Rattle.page_core_escapes.proofs.meaning.first_char.Goals as goal

pub returns-in-Ok : goal.returns-in-Ok
unfolding chars
returns-in-Ok c =
    let first : c.unwrap_or.result ≡ slice_index (chars c.args.text.now) 0 = search rules in
    first ∙ sym (first_char-text c.args.text.now c.in-Ok.ensures.cases.1)

pub returns-in-Err : goal.returns-in-Err
returns-in-Err c = sym (first_char-none c.args.text.now c.in-Err.ensures.cases.0)
