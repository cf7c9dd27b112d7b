use Rattle.std.proofs.Common.{◌∙◌, ap, sym}
use Rattle.page_roff_heads.specs.laws.Views.{block_end_view}
use Rattle.page_roff_blocks.proofs.LinePartLemmas.{one_leaf}
use Rattle.page_roff_blocks.proofs.parts.is_leaf.Goals as goal

pub returns-in-None : goal.returns-in-None
returns-in-None c = λ t.
    one_leaf c.args.line.now (c.heads_nothing.ensures c.if-not-heads_nothing.false)
    (sym c.block_end.ensures.value ∙ ap block_end_view c.in-None.is)
