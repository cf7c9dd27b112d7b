use Rattle.std.proofs.Common.{◌≡◌, ◌≤◌, ◌+◌, ap, sym, refl, ◌∙◌, arith, length, drop, true, if◌then◌else◌}
use Rattle.page_roff_syntax.specs.laws.Views.{argument_view}
use Rattle.page_sets_mdoc_lines.specs.declared.word_spans.WordSpan.{WordSpan}
use Rattle.page_sets_mdoc_lines.specs.laws.Views.{arguments_after, is_call, is_something, FirstIs}
use Rattle.page_sets_mdoc_lines.specs.Parts.{is_closing, is_real}
use Rattle.page_sets_mdoc_lines.proofs.WordSpanLemmas.{call_passed, cut_words, one_more, word_passed, pass_is, few_left}
use Rattle.page_sets_mdoc_lines.proofs.WordLemmas.{call_is, drop_next, first_of_less, first_or, tail_is}
use Rattle.page_sets_mdoc_lines.proofs.word_spans.find_span.Goals.{then-not-is_closing, else-not-is_closing, then-is_real, else-is_real}
use Rattle.page_sets_mdoc_lines.proofs.word_spans.find_span.Goals as goal

pub loop-argument-init : goal.loop-argument-init
loop-argument-init c = record {
  passes = pass_is c.args.parsed (arguments_after c.args.cursor.rest c.args.text.now);
  few = omega (arith, few_left c.args.text.now c.args.cursor.rest c.requires.short);
  stands = c.requires.within;
  ends = c.requires.within;
  follows = refl;
  first = refl;
  less = omega arith;
  outside = refl;
  rest = refl;
}

pub loop-argument-preserved : goal.loop-argument-preserved
loop-argument-preserved c =
    let l = c.loop-argument in
    let text = c.args.text.now in
    let all = arguments_after c.args.cursor.rest text in
    let word = argument_view c.in-Some.argument in
    let after = arguments_after c.read.new.self.rest text in
    let next = c.in-Some.ensures.next in
    let passes = rw next at l.invariant.passes in
    let few = rw next at l.invariant.few in
    let middle : c.if-not-is_closing.span ≡ (if c.is_closing.result then l.span else record l.span { inside = l.span.words + 1 }) =
    elim c.if-not-is_closing.branch [
      | then-not-is_closing w ↦ rw w.if-not-is_closing.true w.span-is
      | else-not-is_closing w ↦ rw w.if-not-is_closing.false w.span-is
    ] in
    let last : c.if-is_real.span ≡ (if c.is_real.result then record c.if-not-is_closing.span { has_real = true } else c.if-not-is_closing.span) =
    elim c.if-is_real.branch [
      | then-is_real w ↦ rw w.if-is_real.true w.span-is
      | else-is_real w ↦ rw w.if-is_real.false w.span-is
    ] in
    let one = rw (c.is_closing.ensures, c.is_real.ensures) at (one_more c.is_closing.result c.is_real.result l.span c.if-not-is_closing.span c.if-is_real.span middle last) in
    let went = word_passed is_closing (is_call c.args.parsed) is_real word after l.span (ap is_something (sym c.call_of.ensures ∙ c.in_default-call_of.is)) in
    let size : c.if-is_real.span.words + 1 ≡ l.span.words + 1 = ap (λ (span : WordSpan). span.words) one in
    let step : after ≡ drop (l.span.words + 1) all = drop_next l.span.words all word after (sym l.invariant.rest ∙ next) in
    let inside : c.if-is_real.span.inside ≡ c.if-not-is_closing.span.inside =
    elim c.if-is_real.branch [
      | then-is_real w ↦ ap (λ (span : WordSpan). span.inside) w.span-is
      | else-is_real w ↦ ap (λ (span : WordSpan). span.inside) w.span-is
    ] in
    let outs : arguments_after c.if-not-is_closing.outside.rest text ≡ drop c.if-not-is_closing.span.inside all =
    elim c.if-not-is_closing.branch [
      | then-not-is_closing w ↦ rw (w.outside-is, w.span-is) step
      | else-not-is_closing w ↦ rw (w.outside-is, w.span-is) l.invariant.outside
    ] in
    let ends : c.if-not-is_closing.outside.rest ≤ length text =
    elim c.if-not-is_closing.branch [
      | then-not-is_closing w ↦ rw w.outside-is c.in-Some.ensures.stands
      | else-not-is_closing w ↦ rw w.outside-is l.invariant.ends
    ] in
    let first : FirstIs text all (c.if-is_real.span.words + 1) c.or-first.result =
    rw c.or-first.ensures (first_or text all l.span.words _ l.first _ l.invariant.first
    (λ none. record { word = sym (rw none at l.invariant.rest) ∙ next; within = c.in-Some.ensures.stands; fits = c.in-Some.ensures.fits })) in
    let most : c.if-not-is_closing.span.inside ≤ l.span.words + 1 =
    elim c.if-not-is_closing.branch [
      | then-not-is_closing w ↦ rw w.span-is (omega arith)
      | else-not-is_closing w ↦ rw w.span-is (omega (arith, l.invariant.less))
    ] in
    record {
      passes = rw one (sym went ∙ passes);
      few = omega (arith, size, few);
      stands = c.in-Some.ensures.stands;
      ends = ends;
      follows = ap (λ (span : WordSpan). span.follows) one ∙ l.invariant.follows;
      first = first;
      less = omega (arith, inside, size, most);
      outside = rw inside outs;
      rest = rw size step;
    }

pub returns-in-Some-call_of-clause-rest : goal.returns-in-Some-call_of-clause-rest
returns-in-Some-call_of-clause-rest c =
    let l = c.loop-argument in
    let text = c.args.text.now in
    let all = arguments_after c.args.cursor.rest text in
    let word = argument_view c.in-Some.argument in
    let after = arguments_after c.read.new.self.rest text in
    let next = c.in-Some.ensures.next in
    let calls = sym c.call_of.ensures ∙ c.in-Some-call_of.is in
    let passes = rw next at l.invariant.passes in
    let went = call_passed is_closing (is_call c.args.parsed) is_real word after l.span (ap is_something calls) in
    let span : WordSpan = record l.span { follows = true } in
    call_is c.args.parsed all word after c.in-Some-call_of.inline span (sym went ∙ passes) (sym next ∙ l.invariant.rest) calls

pub returns-clause-first : goal.returns-clause-first
returns-clause-first c =
    let l = c.loop-argument in
    first_of_less c.args.text.now (arguments_after c.args.cursor.rest c.args.text.now) l.span.inside l.span.words l.first l.invariant.less l.invariant.first

pub returns-clause-rest : goal.returns-clause-rest
returns-clause-rest c =
    let l = c.loop-argument in
    let all = arguments_after c.args.cursor.rest c.args.text.now in
    let passes = rw c.in_default.ensures.next.0 at l.invariant.passes in
    tail_is c.args.parsed all (arguments_after l.outside.rest c.args.text.now) (cut_words l.span) passes l.invariant.follows l.invariant.outside
