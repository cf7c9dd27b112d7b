use Rattle.std.proofs.Common.{◌+◌, ◌<◌, length, ◌∙◌}
use Rattle.page_roff_syntax.specs.LineForms.{without_comment}
use Rattle.page_roff_heads.specs.Conditions.{condition_len}
use Rattle.page_roff_heads.proofs.Ahead.{before_comment}
use Rattle.page_roff_heads.proofs.conditions.read_before_comment.Goals as goal

pub returns-then-is_uncommented-clause-value : goal.returns-then-is_uncommented-clause-value
returns-then-is_uncommented-clause-value c =
    let ahead : condition_len c.args.column c.args.text.now + 1 < length (without_comment c.args.text.now) =
    rw c.read_condition-len.ensures.len at (c.is_uncommented.ensures c.if-is_uncommented.true) in
    c.read_condition-len.ensures.value ∙ (before_comment c.args.column c.args.text.now ahead).0

pub returns-then-is_uncommented-clause-len : goal.returns-then-is_uncommented-clause-len
returns-then-is_uncommented-clause-len c =
    let ahead : condition_len c.args.column c.args.text.now + 1 < length (without_comment c.args.text.now) =
    rw c.read_condition-len.ensures.len at (c.is_uncommented.ensures c.if-is_uncommented.true) in
    c.read_condition-len.ensures.len ∙ (before_comment c.args.column c.args.text.now ahead).1
