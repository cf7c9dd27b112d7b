use Rattle.std.proofs.Common.{◌≡◌, ◌+◌, ◌≤◌, length, drop, false, None}
use Rattle.page_sets_mdoc_lines.specs.machine.Cursors.{IsCursorOf}
use Rattle.page_sets_mdoc_lines.specs.laws.Views.{arguments_after, span_of, is_call, FirstIs}
use Rattle.page_sets_mdoc_lines.specs.Parts.{is_closing, is_real, parts}
use Rattle.page_sets_mdoc_lines.proofs.WordSpanLemmas.{passed}
use Rattle.page_sets_mdoc_lines.proofs.word_spans.find_span.Given as goal

abbrev pub invariant-loop-argument : goal.invariant-loop-argument
invariant-loop-argument l = record {
  passes : passed is_closing (is_call l.parsed) is_real l.span (arguments_after l.ahead.rest l.text)
      ≡ span_of (parts None l.parsed (arguments_after l.fn.cursor.rest l.text));
  few : l.span.words + length (arguments_after l.ahead.rest l.text) ≤ 65536;
  stands : IsCursorOf l.text l.ahead;
  ends : IsCursorOf l.text l.outside;
  follows : l.span.follows ≡ false;
  first : FirstIs l.text (arguments_after l.fn.cursor.rest l.text) l.span.words l.first;
  less : l.span.inside ≤ l.span.words;
  outside : arguments_after l.outside.rest l.text ≡ drop l.span.inside (arguments_after l.fn.cursor.rest l.text);
  rest : arguments_after l.ahead.rest l.text ≡ drop l.span.words (arguments_after l.fn.cursor.rest l.text);
}

abbrev pub decreases-loop-argument : goal.decreases-loop-argument
decreases-loop-argument l = length (arguments_after l.ahead.rest l.text)
