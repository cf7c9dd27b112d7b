use Rattle.std.proofs.Common.{◌≡◌, ◌+◌, ◌≤◌, Some, [], ◌∷◌, length, take, drop, get_or, sym, ap, ap₂, ◌∙◌, arith}
use Rattle.std.specs.List.{prefix_len}
use Rattle.std.proofs.lemmas.List.{get_or-take, length-take-le, length-drop}
use Rattle.page_core_escapes.specs.Lengths.{quoted_len, content_len}
use Rattle.page_core_escapes.specs.machine.Steps.{is_inner}
use Rattle.page_core_escapes.proofs.Contents.{written_len-fits}
use Rattle.page_core_escapes.proofs.Unwinding.{total_len, quoted_len-none, quoted_len-some, total_len-inner, total_len-passes, total_len-closes, total_len-stops, total_len-end, slice_from, step_of-slice_from, passes_within}
use Rattle.page_core_escapes.proofs.quoted.quoted_len.Goals as goal
use Rattle.page_core_escapes.proofs.quoted.quoted_len.Goals.{After-inner_len-at}

pub returns-in_err-at-clause-value : goal.returns-in_err-at-clause-value
returns-in_err-at-clause-value c =
    c.from_residual.ensures ∙ sym (quoted_len-none c.args.pairs c.args.text.now (sym c.written_len.ensures.value ∙ c.in_err-at.was))

pub loop-len-init : goal.loop-len-init
loop-len-init c =
    let is = sym c.written_len.ensures.value ∙ c.in_ok-at.was in
    record {
      inside = (written_len-fits c.args.pairs c.args.text.now _ is).1;
      same = quoted_len-some c.args.pairs c.args.text.now _ is;
    }

-- after the bytes that begin neither an escape nor the delimiter
inside : (c : After-inner_len-at) → c.loop-len.at + c.inner_len-at.result ≤ length c.args.text.now
inside c =
    let t = c.args.text.now in
    let size = ap length (slice_from t c.loop-len.at) in
    omega (arith, size, c.inner_len-at.ensures.within, c.loop-len.invariant.inside, length-drop c.loop-len.at t)

same : (c : After-inner_len-at) → quoted_len c.args.pairs (content_len c.args.pairs) c.args.text.now
    ≡ total_len c.args.pairs (take c.in_ok-at.at c.args.text.now ∷ []) c.args.text.now (c.loop-len.at + c.inner_len-at.result)
same c =
    let t = c.args.text.now in
    let d = take c.in_ok-at.at t in
    let fits = written_len-fits c.args.pairs t c.in_ok-at.at (sym c.written_len.ensures.value ∙ c.in_ok-at.was) in
    let size : length d ≡ c.in_ok-at.at = length-take-le c.in_ok-at.at t fits.1 in
    let count : prefix_len (is_inner (get_or d 0 0)) (drop c.loop-len.at t) ≡ c.inner_len-at.result =
    ap₂ (λ b u. prefix_len (is_inner b) u) (get_or-take c.in_ok-at.at t 0 0 fits.0) (sym (slice_from t c.loop-len.at)) ∙ sym c.inner_len-at.ensures.value in
    c.loop-len.invariant.same ∙ total_len-inner c.args.pairs d [] t c.loop-len.at (omega (arith, size, fits.0))
    ∙ ap (λ n. total_len c.args.pairs (d ∷ []) t (c.loop-len.at + n)) count

pub returns-in_err-len-clause-value : goal.returns-in_err-len-clause-value
returns-in_err-len-clause-value c =
    c.from_residual-in_err-len.ensures
    ∙ sym (same (goal.at.returns-in_err-len-clause-value c).After-inner_len-at ∙ total_len-stops c.args.pairs _ _ _ _ (step_of-slice_from c.args.pairs _ c.args.text.now _ _ (sym c.in_err-len.was ∙ c.next_step.ensures.value)))

pub loop-len-preserved : goal.loop-len-preserved
loop-len-preserved c =
    let here = (goal.at.loop-len-preserved c).After-inner_len-at in
    record {
      inside = (passes_within c.args.text.now _ _ _ (inside here) c.in_ok-len.ensures.bound c.in-Passes.is).1;
      same = same here ∙ total_len-passes c.args.pairs _ _ _ _ _ (step_of-slice_from c.args.pairs _ c.args.text.now _ _ (sym (c.in_ok-len.was ∙ ap Some c.in-Passes.is) ∙ c.next_step.ensures.value));
    }

pub returns-in-Closes-clause-value : goal.returns-in-Closes-clause-value
returns-in-Closes-clause-value c =
    sym (same (goal.at.returns-in-Closes-clause-value c).After-inner_len-at
    ∙ total_len-closes c.args.pairs _ _ _ _ _ (step_of-slice_from c.args.pairs _ c.args.text.now _ _ (sym (c.in_ok-len.was ∙ ap Some c.in-Closes.is) ∙ c.next_step.ensures.value))
    ∙ total_len-end c.args.pairs c.args.text.now _)
