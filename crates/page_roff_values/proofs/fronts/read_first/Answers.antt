use Rattle.std.proofs.Common.{rules, ◌≡◌, ◌++◌, encode_utf8, ap, ◌∙◌, arith}
use Rattle.page_core_numbers.specs.Columns.{characters_columns, printed_escape}
use Rattle.page_core_numbers.proofs.ExpressionLemmas.{front-of_escape, past-character, past-front}
use Rattle.page_roff_values.proofs.fronts.read_first.Goals as goal

pub returns-then-first-ne92 : goal.returns-then-first-ne92
returns-then-first-ne92 c =
    let first = c.in_ok-first.first in
    let is : c.args.text.now ≡ encode_utf8 first ++ c.as_str.result.now = search rules in
    past-character c.args.output c.args.text.now c.as_str.result.now first c.escape_columns.result c.utf8.text is (omega arith) (omega (arith, c.escape_columns.ensures.bound)) c.escape_columns.ensures.value

pub returns : goal.returns
returns c =
    let found = c.escape-len.ensures in
    let text = c.args.text.now in
    let is : text ≡ encode_utf8 92 ++ c.next.new.self.rest.now = search rules in
    past-front c.args.output text c.escape_columns-2.result c.escape-len.result.1 c.range_from.result.now
    (front-of_escape c.args.output text c.next.new.self.rest.now c.escape_columns-2.result c.escape-len.result.1 c.utf8.text is found.some c.escape_columns-2.ensures.bound
    (c.escape_columns-2.ensures.value ∙ ap (λ m. characters_columns (printed_escape c.args.output m)) (rw c.as_bytes.ensures.value at found.meaning)) (rw c.as_bytes.ensures.value at found.len))
    c.range_from.ensures.value
