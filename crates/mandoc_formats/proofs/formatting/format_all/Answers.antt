use Rattle.std.proofs.Common.{ℕ, List, inl, sym, ap, ◌∙◌, subst, arith, ◌+◌}
use Rattle.std.specs.Prelude.{string_bytes}
use Rattle.mandoc_formats.specs.declared.faults.Done.{Done}
use Rattle.mandoc_formats.specs.Formats.{HasFailed, IsFile, causes}
use Rattle.mandoc_formats.specs.Turns.{InTurn, does_stop, worse}
use Rattle.mandoc_formats.proofs.Turns.{formats_none, formats_some, left, left_so, no_names, past_first, put_out_last, some_names, worse as worst_is, Passed, passed_none, passed_on, ended_at, ended_last, start}
use Rattle.mandoc_formats.proofs.formatting.format_all.Goals as goal

pub returns-then-is_empty-clause-came : goal.returns-then-is_empty-clause-came
returns-then-is_empty-clause-came g c =
    let f = c.format_page.ensures in
    let n = no_names string_bytes c.as_slice-names.result.now c.args.format.now.files c.as_slice-names.ensures (sym c.is_empty.ensures ∙ c.if-is_empty.true) in
    (f.0, formats_none _ _ _ _ c.args.format.now.settings c.args.format.now.files _ f.0 n f.1, f.2, f.3, sym (ap (λ d. d.status) f.4), f.5)

pub returns-then-is_empty-clause-input : goal.returns-then-is_empty-clause-input
returns-then-is_empty-clause-input g c =
    inl (no_names string_bytes c.as_slice-names.result.now c.args.format.now.files c.as_slice-names.ensures (sym c.is_empty.ensures ∙ c.if-is_empty.true))

pub loop-name-init : goal.loop-name-init
loop-name-init g c = (
  passed_none worse does_stop (IsFile (g.R.Finds.finds c.args.rt.now) (HasFailed g.V.Target.counts g.V.Target.failures) (causes g.R.File.Input.counts g.W.Target.counts g.V.Target.counts g.R.File.Input.state g.W.Target.failures g.V.Target.failures) c.args.format.now.settings) string_bytes c.as_slice-names.result.now (left 0) _ _,
  λ p. absurd (omega (arith, p)),
)

pub returns-then-done-clause-came : goal.returns-then-done-clause-came
returns-then-done-clause-came g c =
    let done = c.format_file-done.result in
    let f = c.format_file-done.ensures in
    let names = c.as_slice-names.result.now in
    let is = IsFile (g.R.Finds.finds c.args.rt.now) (HasFailed g.V.Target.counts g.V.Target.failures) (causes g.R.File.Input.counts g.W.Target.counts g.V.Target.counts g.R.File.Input.state g.W.Target.failures g.V.Target.failures) c.args.format.now.settings in
    let some = some_names string_bytes names c.args.format.now.files c.as_slice-names.ensures (sym c.is_empty.ensures ∙ c.if-is_empty.false) in
    let r = ended_at worse does_stop is string_bytes names (left 0) c.loop-name.name-index _ _ _ _ _ _ (left c.loop-name.worst) done c.name-item.result c.as_str.result.now
    c.loop-name.invariant.0 c.loop-name-test.true (c.as_str.ensures.value ∙ ap string_bytes c.name-item.is) (f.0, f.1, f.2, f.3, f.4) c.if-done.true in
    let all = subst (λ (l : List (List ℕ)). InTurn worse does_stop is l (start (left 0)) r.0) c.as_slice-names.ensures r.1 in (
      r.0,
      formats_some _ _ _ _ c.args.format.now.settings c.args.format.now.files _ r.0 some all,
      r.2,
      r.3,
      c.max-worst.ensures ∙ (worst_is c.loop-name.worst done.status ∙ sym (ap (λ d. d.status) r.4)),
      put_out_last _ _ _ _ _ c.max-worst.ensures f.5,
    )

pub loop-name-preserved : goal.loop-name-preserved
loop-name-preserved g c =
    let done = c.format_file-done in
    let f = done.ensures in
    let names = c.as_slice-names.result.now in
    let is = IsFile (g.R.Finds.finds c.args.rt.now) (HasFailed g.V.Target.counts g.V.Target.failures) (causes g.R.File.Input.counts g.W.Target.counts g.V.Target.counts g.R.File.Input.state g.W.Target.failures g.V.Target.failures) c.args.format.now.settings in
    let h = passed_on worse does_stop is string_bytes names (left 0) c.loop-name.name-index _ _ _ _ _ _ (left c.loop-name.worst) done.result c.name-item.result c.as_str.result.now
    c.loop-name.invariant.0 c.loop-name-test.true (c.as_str.ensures.value ∙ ap string_bytes c.name-item.is) (f.0, f.1, f.2, f.3, f.4) c.if-done.false in (
      subst (λ (d : Done). Passed worse does_stop is string_bytes names (left 0) (c.loop-name.name-index + 1)
          (g.W.Target.contents c.args.out.now) (g.W.Target.contents done.new.out) (g.V.Target.contents c.args.err.now) (g.V.Target.contents done.new.err) d)
          (left_so c.loop-name.worst c.max-worst.result done.result c.max-worst.ensures c.if-done.false) h,
      λ p. put_out_last _ _ _ _ _ c.max-worst.ensures f.5,
    )

pub returns-clause-came : goal.returns-clause-came
returns-clause-came g c =
    let names = c.as_slice-names.result.now in
    let is = IsFile (g.R.Finds.finds c.args.rt.now) (HasFailed g.V.Target.counts g.V.Target.failures) (causes g.R.File.Input.counts g.W.Target.counts g.V.Target.counts g.R.File.Input.state g.W.Target.failures g.V.Target.failures) c.args.format.now.settings in
    let not_empty = sym c.is_empty.ensures ∙ c.if-is_empty.false in
    let some = some_names string_bytes names c.args.format.now.files c.as_slice-names.ensures not_empty in
    let r = ended_last worse does_stop is string_bytes names (left 0) c.loop-name.name-index _ _ _ _ (left c.loop-name.worst) c.loop-name.invariant.0 c.loop-name-test.false in
    let all = subst (λ (l : List (List ℕ)). InTurn worse does_stop is l (start (left 0)) r.0) c.as_slice-names.ensures r.1 in (
      r.0,
      formats_some _ _ _ _ c.args.format.now.settings c.args.format.now.files _ r.0 some all,
      r.2,
      r.3,
      sym (ap (λ d. d.status) r.4),
      c.loop-name.invariant.1 (past_first names c.loop-name.name-index not_empty c.loop-name-test.false),
    )
