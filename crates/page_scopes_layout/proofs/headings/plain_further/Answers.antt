use Rattle.std.proofs.Common.{refl}
use Rattle.page_core_base.proofs.LatchLemmas.{characters_of-text, characters_of-none}
use Rattle.page_scopes_layout.proofs.headings.plain_further.Goals as goal

pub returns-in-Ok : goal.returns-in-Ok
returns-in-Ok c =
    let is = c.in-Ok.ensures.cases in
    rw (characters_of-text c.args.text.now is.1) (rw (← is.0) c.characters_further.ensures)

pub returns-in-Err : goal.returns-in-Err
returns-in-Err c = rw (characters_of-none c.args.text.now c.in-Err.ensures.cases.0) refl
