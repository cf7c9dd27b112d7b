use Rattle.std.proofs.Common.{rules, ◌≡◌, ℕ, List, Some, ◌∙◌, subst}
use Rattle.std.specs.List.{flat_map}
use Rattle.page_core_streams.specs.Streams.{Grows, GrowsInto, message_bytes}
use Rattle.page_core_streams.specs.laws.Views.{source_state}
use Rattle.page_core_streams.specs.declared.text_rows.TextRows.{TextRows}
use Rattle.page_core_streams.specs.declared.text_notes.TextNotes.{TextNotes}
use Rattle.page_core_streams.proofs.AsciiLemmas.{count_true}
use Rattle.page_engine.specs.laws.Views.{RunsIn}
use Rattle.page_engine.specs.Runs.{RunsOver, Sinks, writers}
use Rattle.page_engine.proofs.Through.{caused_on}
use Rattle.page_engine.proofs.WholeRuns.{runs_in, passed_on}
use Rattle.page_engine.proofs.runs.run_bytes.Goals as goal

pub returns-clause-runs : goal.returns-clause-runs
returns-clause-runs g c =
    let h = c.run_sinks.ensures.runs in
    let source = c.new-slice.ensures in
    let rows = c.new-rows.ensures in
    let notes = c.new-messages.ensures in
    let file = c.args.file.now in
    let w = g.W.Target in
    let v = g.V.Target in
    let y = runs_in _ c.args.settings.now c.args.bytes.now c.run_sinks.new.source.rest.now h.0 c.run_sinks.new.source.calls
    c.run_sinks.new.source.given c.run_sinks.result (rw (source.rest, source.calls, source.given) at h.1) in
    let z : RunsIn c.run_sinks.result (writers w.contents v.contents file)
    c.args.out.now c.run_sinks.new.rows.out.now c.args.notes.now c.run_sinks.new.notes.out.now c.args.settings.now c.args.bytes.now =
    passed_on _ (writers w.contents v.contents file)
    _ _ _ _ _ _ _ _ c.args.settings.now c.args.bytes.now c.run_sinks.result
    (λ _ x. rw rows.out at x) (λ _ x. rw rows.out at x) (λ _ x. rw (notes.out, notes.file) at x.1) (λ _ x. rw (notes.out, notes.file) at x) y in
    search rules

pub returns-clause-causes : goal.returns-clause-causes
returns-clause-causes g c = λ w v.
    let h = c.run_sinks.ensures.runs in
    let source = c.new-slice.ensures in
    let rows = c.new-rows.ensures in
    let notes = c.new-messages.ensures in
    let file = c.args.file.now in
    let s = c.args.settings.now in
    let res = c.run_sinks.result in
    let out = g.W.Target in
    let err = g.V.Target in
    let k : Sinks g.row.W.Denot g.row.V.Denot = record { to = writers out.contents err.contents file; rows_failed = out.failures; notes_failed = err.failures } in
    let f : TextRows g.row.W.Denot → g.row.W.Denot = λ x. x.out.now in
    let n : TextNotes g.row.V.Denot → g.row.V.Denot = λ x. x.out.now in
    let P : TextNotes g.row.V.Denot → Type 0 = λ x. x.file.now ≡ file in
    let last = c.run_sinks.new.source in
    let after = source_state (Some last.rest.now) 0 last.calls last.given 0 in
    let t = caused_on _ k f n P
    (record {
      rows = λ x y l q. q;
      rows_front = λ x y l q. q;
      notes = λ x y l p q. subst (λ (j : List ℕ). Grows (err.contents x.out.now) (err.contents y.out.now) (flat_map (message_bytes j) l)) p q.1;
      notes_front = λ x y l p q. subst (λ (j : List ℕ). GrowsInto (err.contents x.out.now) (err.contents y.out.now) (flat_map (message_bytes j) l)) p q;
      stays = λ x y l p q. q.0 ∙ p;
      rows_failed = λ x. count_true out.counts (out.failures x.out.now) x.failures w;
      notes_failed = λ x. count_true err.counts (err.failures x.out.now) x.failures v;
    })
    _ _ _ _ _ _ s h.0 res notes.file h.1 in
    let z : RunsOver res k (source_state (Some c.args.bytes.now) 0 0 0 0) after c.args.out.now c.run_sinks.new.rows.out.now
    c.args.notes.now c.run_sinks.new.notes.out.now s h.0 = rw (source.rest, source.calls, source.given, rows.out, notes.out) at t in
    (after, h.0, search rules)
