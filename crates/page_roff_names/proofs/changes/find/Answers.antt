use Rattle.page_roff_names.proofs.Laid.{look_hit, look_miss}
use Rattle.page_roff_names.proofs.changes.find.Goals as goal

pub returns-in-Ok : goal.returns-in-Ok
returns-in-Ok c = (c.in-Ok.ensures.range, look_hit _ _ c.in-Ok.i c.requires c.in-Ok.ensures.range c.in-Ok.ensures.found)

pub returns-in-Err : goal.returns-in-Err
returns-in-Err c = look_miss _ _ c.in-Err.field-0 c.in-Err.ensures.found.0 c.in-Err.ensures.found.1
