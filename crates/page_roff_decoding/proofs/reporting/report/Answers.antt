use Rattle.page_roff_decoding.specs.Decoding.{line_limit, characters, characters_within}
use Rattle.page_roff_decoding.proofs.SequenceLemmas.{untaken}
use Rattle.page_roff_decoding.proofs.reporting.report.Goals as goal

pub returns-then-not-takes-clause-gives : goal.returns-then-not-takes-clause-gives
returns-then-not-takes-clause-gives g c =
    let laws = g.met.N.NoteSink.laws in
    let now = c.report_limit.new.notes in
    let cs = characters_within line_limit (characters c.args.encoding c.args.text.now) in
    laws.more c.args.notes.now now now _ _ c.in_default.ensures.gives (untaken laws now (c.takes.ensures c.if-not-takes.true) c.args.number 1 cs)
