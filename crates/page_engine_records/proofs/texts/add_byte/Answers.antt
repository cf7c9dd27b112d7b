use Rattle.std.proofs.Common.{◌∙◌}
use Rattle.page_engine_records.proofs.NameLemmas.{added_byte}
use Rattle.page_engine_records.proofs.texts.add_byte.Goals as goal

pub returns : goal.returns
returns c =
    let e = c.add_byte-has_room.ensures in
    e.after ∙ added_byte c.args.text.now c.args.byte c.add_byte-has_room.result e.fits (rw (← e.after) e.bound)
