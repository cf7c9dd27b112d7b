use Rattle.std.proofs.Common.{sym}
use Rattle.page_core_base.proofs.LatchLemmas.{characters_of-text, characters_of-none}
use Rattle.page_engine_records.proofs.NameTextLemmas.{characters_none}
use Rattle.page_engine_records.proofs.name_readers.NameReader.take_bytes.Goals as goal

pub returns-in-Ok : goal.returns-in-Ok
returns-in-Ok c =
    let is = c.in-Ok.ensures.cases in
    rw (characters_of-text c.args.bytes.now is.1) (rw is.0 at c.take_text.ensures)

pub returns-in_default : goal.returns-in_default
returns-in_default c = rw (characters_of-none c.args.bytes.now c.in_default.ensures.cases.0) (sym (characters_none _))
