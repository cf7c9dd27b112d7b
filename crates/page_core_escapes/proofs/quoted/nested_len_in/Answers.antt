use Rattle.std.proofs.Common.{◌≡◌, ◌+◌, ◌-◌, ◌≤◌, Some, [], ◌∷◌, ◌++◌, length, drop, sym, ap, ◌∙◌, subst, arith, All}
use Rattle.std.proofs.lemmas.List.{length-take}
use Rattle.std.proofs.lemmas.List.Elements.{All-push, All-nil, All-take}
use Rattle.page_core_escapes.specs.machine.Steps.{first_character}
use Rattle.page_core_escapes.proofs.Contents.{written_len-fits}
use Rattle.page_core_escapes.proofs.Unwinding.{total_len, quoted_len-none, quoted_len-some, total_len-passes, total_len-opens, total_len-closes, total_len-stops, total_len-end, delimiters, delimiters-push, delimiters-open, delimiters-first, delimiters-none, step_of-slice_from, passes_within, opens_within, closes_within}
use Rattle.page_core_escapes.proofs.quoted.nested_len_in.Goals as goal

pub returns-in_default-clause-value : goal.returns-in_default-clause-value
returns-in_default-clause-value g c = sym (quoted_len-none c.args.pairs c.args.text.now (sym c.written_len.ensures.value ∙ c.in_default.is))

pub loop-place-init : goal.loop-place-init
loop-place-init g c =
    let t = c.args.text.now in
    let is = sym c.written_len.ensures.value ∙ c.in-Some.is in
    let fits = written_len-fits c.args.pairs t _ is in
    let items : c.push.new.self.items ≡ 0 ∷ [] = c.push.ensures.items ∙ ap (λ l. l ++ 0 ∷ []) c.new-open.ensures in
    record {
      inside = fits.1;
      few = let one = ap length items in omega arith;
      places = subst (λ l. All (λ p. p ≤ length t) l) (sym items) (All-push (λ p. p ≤ length t) [] 0 (All-nil (λ p. p ≤ length t)) (omega arith));
      same = quoted_len-some c.args.pairs t _ is ∙ ap (λ ds. total_len c.args.pairs ds t c.in-Some.mark) (sym (ap (delimiters c.args.pairs t) items ∙ delimiters-first c.args.pairs t _ is));
    }

pub returns-in_default-next_step-clause-value : goal.returns-in_default-next_step-clause-value
returns-in_default-next_step-clause-value g c =
    let t = c.args.text.now in
    let open_is = delimiters-open c.args.pairs t c.loop-place.open.items _ _ c.in-Some-last.place.now c.deref.ensures.0 c.in-Some-last.ensures.value c.first_character-delimiter.ensures in
    sym (c.loop-place.invariant.same
    ∙ ap (λ ds. total_len c.args.pairs ds t c.loop-place.at) open_is
    ∙ total_len-stops c.args.pairs _ _ _ _ (step_of-slice_from c.args.pairs _ t c.loop-place.at _ (sym c.in_default-next_step.is ∙ c.next_step.ensures.value)))

pub loop-place-preserved-in-Passes : goal.loop-place-preserved-in-Passes
loop-place-preserved-in-Passes g c =
    let t = c.args.text.now in
    let open_is = delimiters-open c.args.pairs t c.loop-place.open.items _ _ c.in-Some-last.place.now c.deref.ensures.0 c.in-Some-last.ensures.value c.first_character-delimiter.ensures in
    record {
      inside = (passes_within t c.loop-place.at _ _ c.loop-place.invariant.inside c.in-Some-next_step.ensures.bound c.in-Passes.is).1;
      few = omega arith;
      places = c.loop-place.invariant.places;
      same =
          c.loop-place.invariant.same
          ∙ ap (λ ds. total_len c.args.pairs ds t c.loop-place.at) open_is
          ∙ total_len-passes c.args.pairs _ _ _ _ _ (step_of-slice_from c.args.pairs _ t c.loop-place.at _ (sym (c.in-Some-next_step.is ∙ ap Some c.in-Passes.is) ∙ c.next_step.ensures.value))
          ∙ ap (λ ds. total_len c.args.pairs ds t (c.loop-place.at + c.in-Passes.len)) (sym open_is);
    }

pub loop-place-preserved-in-Opens-2 : goal.loop-place-preserved-in-Opens-2
loop-place-preserved-in-Opens-2 g c =
    let t = c.args.text.now in
    let at = c.loop-place.at in
    let from = c.in-Opens-2.from in
    let open_is = delimiters-open c.args.pairs t c.loop-place.open.items _ _ c.in-Some-last.place.now c.deref.ensures.0 c.in-Some-last.ensures.value c.first_character-delimiter.ensures in
    let within = opens_within t at _ _ _ c.loop-place.invariant.inside c.in-Some-next_step.ensures.bound c.in-Opens-2.is in
    record {
      inside = within.2;
      few = omega (arith, c.push-in-Opens-2.ensures.len, within.0, within.1);
      places = subst (λ l. All (λ p. p ≤ length t) l) (sym c.push-in-Opens-2.ensures.items) (All-push (λ p. p ≤ length t) c.loop-place.open.items (at + from) c.loop-place.invariant.places (omega (arith, within.2)));
      same =
          c.loop-place.invariant.same
          ∙ ap (λ ds. total_len c.args.pairs ds t at) open_is
          ∙ total_len-opens c.args.pairs _ _ _ _ _ _ (step_of-slice_from c.args.pairs _ t at _ (sym (c.in-Some-next_step.is ∙ ap Some c.in-Opens-2.is) ∙ c.next_step.ensures.value))
          ∙ ap (λ ds. total_len c.args.pairs (first_character c.args.pairs (drop (at + from) t) ∷ ds) t (at + (from + c.in-Opens-2.mark))) (sym open_is)
          ∙ ap (λ ds. total_len c.args.pairs ds t (at + (from + c.in-Opens-2.mark))) (sym (ap (delimiters c.args.pairs t) c.push-in-Opens-2.ensures.items ∙ delimiters-push c.args.pairs t c.loop-place.open.items (at + from)));
    }

pub loop-place-preserved : goal.loop-place-preserved
loop-place-preserved g c =
    let t = c.args.text.now in
    let open_is = delimiters-open c.args.pairs t c.loop-place.open.items _ _ c.in-Some-last.place.now c.deref.ensures.0 c.in-Some-last.ensures.value c.first_character-delimiter.ensures in
    record {
      inside = closes_within t c.loop-place.at _ _ c.loop-place.invariant.inside c.in-Some-next_step.ensures.bound c.in-Closes.is;
      few = let fewer = ap length c.pop.ensures.rest in omega (arith, length-take (length c.loop-place.open.items - 1) c.loop-place.open.items);
      places = subst (λ l. All (λ p. p ≤ length t) l) (sym c.pop.ensures.rest) (All-take (λ p. p ≤ length t) (length c.loop-place.open.items - 1) c.loop-place.open.items c.loop-place.invariant.places);
      same =
          c.loop-place.invariant.same
          ∙ ap (λ ds. total_len c.args.pairs ds t c.loop-place.at) open_is
          ∙ total_len-closes c.args.pairs _ _ _ _ _ (step_of-slice_from c.args.pairs _ t c.loop-place.at _ (sym (c.in-Some-next_step.is ∙ ap Some c.in-Closes.is) ∙ c.next_step.ensures.value))
          ∙ ap (λ l. total_len c.args.pairs (delimiters c.args.pairs t l) t (c.loop-place.at + c.in-Closes.len)) (sym c.pop.ensures.rest);
    }

pub returns-clause-value : goal.returns-clause-value
returns-clause-value g c =
    let t = c.args.text.now in
    let none = delimiters-none c.args.pairs t c.loop-place.open.items _ c.deref.ensures.0 c.in_default-last.ensures.value in
    sym (c.loop-place.invariant.same ∙ ap (λ ds. total_len c.args.pairs ds t c.loop-place.at) none ∙ total_len-end c.args.pairs t c.loop-place.at)
