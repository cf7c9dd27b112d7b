use Rattle.std.proofs.Common.{rules, ap, ◌∙◌, subst}
use Rattle.page_core_streams.specs.laws.Views.{state_of}
use Rattle.page_core_streams.specs.Streams.{SourceState}
use Rattle.page_core_streams.proofs.AsciiLemmas.{count_true, state_true}
use Rattle.page_engine_index.specs.Searches.{RowsTo, SearchesOver, counting}
use Rattle.page_engine_index.specs.Whatis.{asked}
use Rattle.page_engine_index.specs.Written.{written}
use Rattle.page_engine_index.specs.declared.line_sinks.TextLines.{TextLines}
use Rattle.page_engine_index.proofs.MatchLemmas.{caused_on}
use Rattle.page_engine_index.proofs.searches.whatis.Goals as goal

pub returns-clause-causes : goal.returns-clause-causes
returns-clause-causes g c = λ i w.
    let h = c.search_index.ensures.searches in
    let source = c.new-source.ensures in
    let lines = c.new-lines.ensures in
    let res = c.search_index.result in
    let out = g.W.Target in
    let k : RowsTo g.row.W.Denot = counting (written out.contents) out.failures in
    let f : TextLines g.row.W.Denot → g.row.W.Denot = λ x. x.out.now in
    let q = asked c.args.words.now c.args.section c.args.show in
    let t = caused_on _ k f
    (record {
      gave = λ x y l p. p;
      within = λ x y l p. p;
      failed = λ x. count_true out.counts (out.failures x.out.now) x.failures w;
    })
    _ _ _ _ q h.0 res h.1 in
    let begun = c.new-source.result in
    let last = c.search_index.new.source in
    let first = state_of g.I.Input.counts (g.I.Input.state begun.input.now) begun.failures begun.calls begun.given begun.empty in
    let ea = state_true g.I.Input.counts (g.I.Input.state begun.input.now) begun.failures begun.calls begun.given begun.empty i ∙ ap g.I.Input.state source.input in
    let eb = state_true g.I.Input.counts (g.I.Input.state last.input.now) last.failures last.calls last.given last.empty i in
    let z : SearchesOver res k (g.I.Input.state c.args.index.now) (g.I.Input.state last.input.now) c.args.out.now c.search_index.new.out.out.now q h.0 =
    subst (λ (a : SourceState). SearchesOver res k a (g.I.Input.state last.input.now) c.args.out.now c.search_index.new.out.out.now q h.0) ea
    (subst (λ (b : SourceState). SearchesOver res k first b c.args.out.now c.search_index.new.out.out.now q h.0) eb
    (rw lines.out at t)) in
    (h.0, search rules)
