use Rattle.std.proofs.Common.{rules, ◌≡◌, ℕ, List, ap, ◌∙◌, subst}
use Rattle.std.specs.List.{flat_map}
use Rattle.page_core_streams.specs.Streams.{Grows, GrowsInto, message_bytes, SourceState}
use Rattle.page_core_streams.specs.laws.Views.{state_of}
use Rattle.page_core_streams.specs.declared.text_rows.TextRows.{TextRows}
use Rattle.page_core_streams.specs.declared.text_notes.TextNotes.{TextNotes}
use Rattle.page_engine.specs.Runs.{RunsOver, Sinks, writers}
use Rattle.page_core_streams.proofs.AsciiLemmas.{count_true, state_true}
use Rattle.page_engine.proofs.Through.{caused_on}
use Rattle.page_engine.proofs.runs.run_page.Goals as goal

pub returns-clause-causes : goal.returns-clause-causes
returns-clause-causes g c = λ i w v.
    let h = c.run_sinks.ensures.runs in
    let source = c.new-source.ensures in
    let rows = c.new-rows.ensures in
    let notes = c.new-messages.ensures in
    let file = c.args.file.now in
    let s = c.args.settings.now in
    let res = c.run_sinks.result in
    let out = g.W.Target in
    let err = g.V.Target in
    let k : Sinks g.row.W.Denot g.row.V.Denot = record { to = writers out.contents err.contents file; rows_failed = out.failures; notes_failed = err.failures } in
    let f : TextRows g.row.W.Denot → g.row.W.Denot = λ x. x.out.now in
    let n : TextNotes g.row.V.Denot → g.row.V.Denot = λ x. x.out.now in
    let P : TextNotes g.row.V.Denot → Type 0 = λ x. x.file.now ≡ file in
    let t = caused_on _ k f n P
    (record {
      rows = λ x y l q. q;
      rows_front = λ x y l q. q;
      notes = λ x y l p q. subst (λ (j : List ℕ). Grows (err.contents x.out.now) (err.contents y.out.now) (flat_map (message_bytes j) l)) p q.1;
      notes_front = λ x y l p q. subst (λ (j : List ℕ). GrowsInto (err.contents x.out.now) (err.contents y.out.now) (flat_map (message_bytes j) l)) p q;
      stays = λ x y l p q. q.0 ∙ p;
      rows_failed = λ x. count_true out.counts (out.failures x.out.now) x.failures w;
      notes_failed = λ x. count_true err.counts (err.failures x.out.now) x.failures v;
    })
    _ _ _ _ _ _ s h.0 res notes.file h.1 in
    let first = state_of g.I.Input.counts (g.I.Input.state c.new-source.result.input.now) c.new-source.result.failures c.new-source.result.calls c.new-source.result.given c.new-source.result.empty in
    let ea = state_true g.I.Input.counts (g.I.Input.state c.new-source.result.input.now) c.new-source.result.failures c.new-source.result.calls c.new-source.result.given c.new-source.result.empty i
    ∙ ap g.I.Input.state source.input in
    let last = c.run_sinks.new.source in
    let eb = state_true g.I.Input.counts (g.I.Input.state last.input.now) last.failures last.calls last.given last.empty i in
    let z : RunsOver res k (g.I.Input.state c.args.reader.now) (g.I.Input.state last.input.now) c.args.out.now c.run_sinks.new.rows.out.now
    c.args.notes.now c.run_sinks.new.notes.out.now s h.0 =
    subst (λ (a : SourceState). RunsOver res k a (g.I.Input.state last.input.now) c.args.out.now c.run_sinks.new.rows.out.now c.args.notes.now c.run_sinks.new.notes.out.now s h.0) ea
    (subst (λ (b : SourceState). RunsOver res k first b c.args.out.now c.run_sinks.new.rows.out.now c.args.notes.now c.run_sinks.new.notes.out.now s h.0) eb
    (rw (rows.out, notes.out) at t)) in
    (h.0, search rules)
