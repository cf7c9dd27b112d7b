use Rattle.std.proofs.Common.{sym, ◌∙◌}
use Rattle.page_engine_records.proofs.NameTextLemmas.{characters_one}
use Rattle.page_engine_records.proofs.name_readers.NameReader.take_printed.Goals as goal

pub returns-in-Char : goal.returns-in-Char
returns-in-Char c = rw c.in-Char.is (c.take_char.ensures ∙ sym (characters_one _ _))
