use Rattle.std.proofs.Common.{sym, refl, ◌∙◌}
use Rattle.page_roff_syntax.specs.Delimiters.{width_content_len}
use Rattle.page_roff_syntax.proofs.ClosedLemmas.{width_content}
use Rattle.page_roff_syntax.proofs.delimiters.width_content_len.Goals as goal

pub returns-clause-value : goal.returns-clause-value
returns-clause-value c =
    width_content c.args.text.now c.split_at.result.0.now c.split_at.result.1.now c.character_len.result c.content_len.result
    (sym c.begins_escape.ensures ∙ c.if-begins_escape.false) c.character_len.ensures.value c.split_at.ensures.front c.split_at.ensures.back c.content_len.ensures.value

pub returns-then-begins_escape-clause-value : goal.returns-then-begins_escape-clause-value
unfolding width_content_len
returns-then-begins_escape-clause-value c = rw (sym c.begins_escape.ensures ∙ c.if-begins_escape.true) refl
