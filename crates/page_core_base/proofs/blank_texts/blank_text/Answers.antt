use Rattle.std.proofs.lemmas.List.{take-replicate}
use Rattle.page_core_base.proofs.blank_texts.blank_text.Goals as goal

pub returns : goal.returns
returns c = take-replicate c.args.count 1000 32 c.requires
