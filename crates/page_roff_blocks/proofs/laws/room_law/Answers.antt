use Rattle.page_roff_blocks.proofs.LinePartLemmas.{line_parts_room, step_room}
use Rattle.page_roff_blocks.proofs.laws.room_law.Goals as goal

pub returns-clause-parts : goal.returns-clause-parts
returns-clause-parts g c = λ line. line_parts_room line

pub returns-clause-skipped : goal.returns-clause-skipped
returns-clause-skipped g c = λ m parts cursor s. step_room m parts cursor s
