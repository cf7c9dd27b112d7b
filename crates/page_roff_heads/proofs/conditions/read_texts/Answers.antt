use Rattle.std.proofs.Common.{ap, ◌∙◌}
use Rattle.page_roff_heads.specs.Conditions.{longer}
use Rattle.page_roff_heads.proofs.Ahead.{texts_together}
use Rattle.page_roff_heads.proofs.conditions.read_texts.Goals as goal

pub returns-clause-value : goal.returns-clause-value
returns-clause-value c =
    ap (longer c.character_len-len.result) c.texts_after-read.ensures.value
    ∙ texts_together c.args.text.now c.split_at.result.0.now c.split_at.result.1.now c.args.column c.character_len-len.result
    c.character_len-len.ensures.value c.split_at.ensures.front c.split_at.ensures.back
