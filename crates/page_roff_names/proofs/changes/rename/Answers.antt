use Rattle.page_roff_names.proofs.Kept.{renamed, not_renamed}
use Rattle.page_roff_names.proofs.changes.rename.Goals as goal

pub returns-in-Ok : goal.returns-in-Ok
returns-in-Ok c = renamed _ _ _ _ _ c.in-Ok.i _ c.requires.sorted c.in-Ok.ensures.range c.in-Ok.ensures.found c.move_to.ensures

pub returns-in-Err : goal.returns-in-Err
returns-in-Err c = not_renamed _ _ _ _ c.in-Err.field-0 c.in-Err.ensures.found.0 c.in-Err.ensures.found.1
