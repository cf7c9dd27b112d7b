use Rattle.std.proofs.Common.{rules, ap, ◌∙◌, subst}
use Rattle.page_core_streams.specs.laws.Views.{state_of}
use Rattle.page_core_streams.specs.Streams.{SourceState}
use Rattle.page_core_streams.proofs.AsciiLemmas.{state_true}
use Rattle.page_engine_records.specs.Runs.{ReadsRecordOver}
use Rattle.page_engine_records.proofs.runs.name_record.Goals as goal

pub returns-clause-causes : goal.returns-clause-causes
returns-clause-causes g c = λ i.
    let h = c.read_record.ensures.reads in
    let source = c.new-source.ensures in
    let s = c.args.settings.now in
    let res = c.read_record.result in
    let begun = c.new-source.result in
    let last = c.read_record.new.source in
    let first = state_of g.I.Input.counts (g.I.Input.state begun.input.now) begun.failures begun.calls begun.given begun.empty in
    let ea = state_true g.I.Input.counts (g.I.Input.state begun.input.now) begun.failures begun.calls begun.given begun.empty i ∙ ap g.I.Input.state source.input in
    let eb = state_true g.I.Input.counts (g.I.Input.state last.input.now) last.failures last.calls last.given last.empty i in
    let z : ReadsRecordOver res (g.I.Input.state c.args.reader.now) (g.I.Input.state last.input.now) s h.0 =
    subst (λ (a : SourceState). ReadsRecordOver res a (g.I.Input.state last.input.now) s h.0) ea
    (subst (λ (b : SourceState). ReadsRecordOver res first b s h.0) eb h.1) in
    (h.0, search rules)
