use Rattle.std.proofs.Common.{◌+◌, Some, option_map, sym, ap, ◌∙◌}
use Rattle.page_core_escapes.specs.Lengths.{quoted_len, content_len}
use Rattle.page_core_escapes.proofs.Contents.{escape_len-none, escape_len-whole, escape_len-quoted}
use Rattle.page_core_escapes.proofs.Unwinding.{slice_from}
use Rattle.page_core_escapes.proofs.escape_len.Goals as goal

pub returns-in_err-len-clause-value : goal.returns-in_err-len-clause-value
returns-in_err-len-clause-value c =
    c.from_residual.ensures ∙ sym (escape_len-none c.args.pairs c.args.text.now (sym c.read_extent.ensures.value ∙ c.in_err-len.was))

pub returns-in_err-quoted_len-in-QuotedFrom-clause-value : goal.returns-in_err-quoted_len-in-QuotedFrom-clause-value
returns-in_err-quoted_len-in-QuotedFrom-clause-value c =
    let t = c.args.text.now in
    let from = c.in-QuotedFrom.from in
    c.from_residual-in_err-quoted_len-in-QuotedFrom.ensures
    ∙ sym (escape_len-quoted c.args.pairs t from (sym c.read_extent.ensures.value ∙ c.in_ok-len.was ∙ ap Some c.in-QuotedFrom.is)
    ∙ ap (λ u. option_map (λ k. from + k) (quoted_len c.args.pairs (content_len c.args.pairs) u)) (sym (slice_from t from))
    ∙ ap (option_map (λ k. from + k)) (sym c.quoted_len.ensures.value ∙ c.in_err-quoted_len-in-QuotedFrom.was))

pub returns-in-Whole-clause-value : goal.returns-in-Whole-clause-value
returns-in-Whole-clause-value c =
    sym (escape_len-whole c.args.pairs c.args.text.now _ (sym c.read_extent.ensures.value ∙ c.in_ok-len.was ∙ ap Some c.in-Whole.is))

pub returns-in_ok-quoted_len-in-QuotedFrom-clause-value : goal.returns-in_ok-quoted_len-in-QuotedFrom-clause-value
returns-in_ok-quoted_len-in-QuotedFrom-clause-value c =
    let t = c.args.text.now in
    let from = c.in-QuotedFrom.from in
    sym (escape_len-quoted c.args.pairs t from (sym c.read_extent.ensures.value ∙ c.in_ok-len.was ∙ ap Some c.in-QuotedFrom.is)
    ∙ ap (λ u. option_map (λ k. from + k) (quoted_len c.args.pairs (content_len c.args.pairs) u)) (sym (slice_from t from))
    ∙ ap (option_map (λ k. from + k)) (sym c.quoted_len.ensures.value ∙ c.in_ok-quoted_len-in-QuotedFrom.was))
