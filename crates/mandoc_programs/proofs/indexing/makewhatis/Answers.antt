use Rattle.std.proofs.Common.{◌≡◌, ℕ, List, inl, refl, ap, sym, ◌∙◌, subst, arith, max}
use Rattle.std.specs.Prelude.{string_bytes}
use Rattle.page_core_streams.specs.Streams.{Grows}
use Rattle.page_core_streams.specs.laws.Views.{Grows-nil, Grows-append}
use Rattle.mandoc_formats.specs.Formats.{HasFailed}
use Rattle.mandoc_programs.specs.declared.pages.Form.{Form}
use Rattle.mandoc_programs.specs.Indexes.{Index, IsDir, none_made, so, stops_making}
use Rattle.mandoc_formats.specs.Turns.{worse, InTurn}
use Rattle.mandoc_formats.proofs.Turns.{left_so, worse as worst_is, passed_none, passed_on, ended_at, ended_last, start}
use Rattle.mandoc_programs.proofs.indexing.makewhatis.Goals as goal

pub loop-name-init : goal.loop-name-init
loop-name-init g c =
    let is = IsDir (g.R.Folders.sees c.args.files.now) (HasFailed g.V.Target.counts g.V.Target.failures) (HasFailed g.W.Target.counts g.W.Target.failures) c.form_of-form.result in
    (none_made, passed_none so stops_making is string_bytes c.as_slice-names.result.now none_made _ _, Grows-nil _, refl, λ e l. e, λ e l. inl e)

pub returns-then-done : goal.returns-then-done
returns-then-done g c =
    let sees = g.R.Folders.sees c.args.files.now in
    let i = c.loop-name.invariant in
    let done = c.give_dir-done.result in
    let m = c.give_dir-done.ensures.came in
    let h = ended_at so stops_making (IsDir sees (HasFailed g.V.Target.counts g.V.Target.failures) (HasFailed g.W.Target.counts g.W.Target.failures) c.form_of-form.result) string_bytes c.as_slice-names.result.now none_made c.loop-name.name-index _ _ _ _ _ _ i.0 m.0
    c.name-item.result c.as_str-dir.result.now i.1 c.loop-name-test.true (c.as_str-dir.ensures.value ∙ ap string_bytes c.name-item.is) m.1 (ap (λ d. d.stops) m.3 ∙ c.if-done.true) in
    let worst = c.max-worst.ensures ∙ worst_is c.loop-name.worst done.status in
    let status : max c.loop-name.worst done.status ≡ max i.0.done.status m.0.done.status = λ k. max (sym i.3 k).status (sym m.3 k).status in
    let all = subst (λ (l : List (List ℕ)). InTurn so stops_making (IsDir sees (HasFailed g.V.Target.counts g.V.Target.failures) (HasFailed g.W.Target.counts g.W.Target.failures) c.form_of-form.result) l (start none_made) h.0) c.as_slice-names.ensures h.1 in
    let put = Grows-append _ _ _ i.0.put m.0.put i.2 m.2 in record {
      came = (
        h.0,
        subst (λ (f : Form). InTurn so stops_making (IsDir sees (HasFailed g.V.Target.counts g.V.Target.failures) (HasFailed g.W.Target.counts g.W.Target.failures) f) c.args.asked.now.dirs (start none_made) h.0) c.form_of-form.ensures all,
        h.2,
        h.3,
        subst (λ (l : List Index). Grows (g.P.IndexPlaces.put c.args.places.now) (g.P.IndexPlaces.put c.give_dir-done.new.places) l) (sym (ap (λ e. e.put) h.4)) put,
        worst ∙ (status ∙ sym (ap (λ e. e.done.status) h.4)),
      );
      put_out = λ e l. c.give_dir-done.ensures.put_out (i.4 e (omega (arith, l, worst))) (omega (arith, l, worst));
      said = λ e l. c.give_dir-done.ensures.said (omega (arith, l, worst));
    }

pub loop-name-preserved : goal.loop-name-preserved
loop-name-preserved g c =
    let i = c.loop-name.invariant in
    let done = c.give_dir-done.result in
    let m = c.give_dir-done.ensures.came in
    let worst = c.max-worst.ensures ∙ worst_is c.loop-name.worst done.status in (
      so i.0 m.0,
      passed_on so stops_making (IsDir (g.R.Folders.sees c.args.files.now) (HasFailed g.V.Target.counts g.V.Target.failures) (HasFailed g.W.Target.counts g.W.Target.failures) c.form_of-form.result) string_bytes c.as_slice-names.result.now none_made c.loop-name.name-index _ _ _ _ _ _ i.0 m.0
          c.name-item.result c.as_str-dir.result.now i.1 c.loop-name-test.true (c.as_str-dir.ensures.value ∙ ap string_bytes c.name-item.is) m.1 (ap (λ d. d.stops) m.3 ∙ c.if-done.false),
      Grows-append _ _ _ i.0.put m.0.put i.2 m.2,
      (λ k. worse (i.3 k) (m.3 k)) ∙ left_so c.loop-name.worst c.max-worst.result done c.max-worst.ensures c.if-done.false,
      λ e l. c.give_dir-done.ensures.put_out (i.4 e (omega (arith, l, worst))) (omega (arith, l, worst)),
      λ e l. c.give_dir-done.ensures.said (omega (arith, l, worst)),
    )

pub returns : goal.returns
returns g c =
    let sees = g.R.Folders.sees c.args.files.now in
    let i = c.loop-name.invariant in
    let h = ended_last so stops_making (IsDir sees (HasFailed g.V.Target.counts g.V.Target.failures) (HasFailed g.W.Target.counts g.W.Target.failures) c.form_of-form.result) string_bytes c.as_slice-names.result.now none_made c.loop-name.name-index _ _ _ _ i.0 i.1 c.loop-name-test.false in
    let all = subst (λ (l : List (List ℕ)). InTurn so stops_making (IsDir sees (HasFailed g.V.Target.counts g.V.Target.failures) (HasFailed g.W.Target.counts g.W.Target.failures) c.form_of-form.result) l (start none_made) h.0) c.as_slice-names.ensures h.1 in record {
      came = (
        h.0,
        subst (λ (f : Form). InTurn so stops_making (IsDir sees (HasFailed g.V.Target.counts g.V.Target.failures) (HasFailed g.W.Target.counts g.W.Target.failures) f) c.args.asked.now.dirs (start none_made) h.0) c.form_of-form.ensures all,
        h.2,
        h.3,
        subst (λ (l : List Index). Grows (g.P.IndexPlaces.put c.args.places.now) (g.P.IndexPlaces.put c.loop-name.places) l) (sym (ap (λ e. e.put) h.4)) i.2,
        sym (ap (λ d. d.status) i.3) ∙ sym (ap (λ e. e.done.status) h.4),
      );
      put_out = i.4;
      said = i.5;
    }
