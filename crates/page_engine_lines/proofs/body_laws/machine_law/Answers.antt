use Rattle.std.proofs.Common.{sym}
use Rattle.page_engine_lines.proofs.LaySameLemmas.{tree_items_law, tree_after_law}
use Rattle.page_engine_lines.proofs.body_laws.machine_law.Goals as goal

pub returns : goal.returns
returns c = record { items = λ b steps. sym (tree_items_law b steps); after = λ b steps. sym (tree_after_law b steps) }
