use Rattle.std.proofs.Common.{◌∙◌, sym}
use Rattle.page_roff_names.proofs.Laid.{without_hit, without_miss}
use Rattle.page_roff_names.proofs.changes.withdraw.Goals as goal

pub returns-in-Ok : goal.returns-in-Ok
returns-in-Ok c = c.remove.ensures ∙ sym (without_hit _ _ c.in-Ok.i c.requires c.in-Ok.ensures.range c.in-Ok.ensures.found)

pub returns-in-Err : goal.returns-in-Err
returns-in-Err c = sym (without_miss _ _ c.in-Err.field-0 c.in-Err.ensures.found.0 c.in-Err.ensures.found.1)
