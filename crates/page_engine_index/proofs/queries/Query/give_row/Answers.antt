use Rattle.std.proofs.Common.{refl, sym, ◌∙◌}
use Rattle.page_engine_index.specs.Searches.{rows_to}
use Rattle.page_engine_index.specs.machine.Steps.{entry_by}
use Rattle.page_engine_index.specs.Whatis.{asked_of}
use Rattle.page_engine_index.proofs.MatchLemmas.{no_row, gives_none, gives_row}
use Rattle.page_engine_index.proofs.queries.Query.give_row.Goals as goal

pub returns-then-not-shows-clause-gives : goal.returns-then-not-shows-clause-gives
returns-then-not-shows-clause-gives g c =
    let l = g.L.LineSink in
    gives_none (rows_to l.gave l.within l.failed) g.met.L.LineSink.laws c.args.out.now _
    (no_row (asked_of c.args.self.now) (entry_by c.args.fields.now) (sym c.shows.ensures ∙ c.if-not-shows.true))

pub returns-in-Entry-clause-gives : goal.returns-in-Entry-clause-gives
returns-in-Entry-clause-gives g c =
    let l = g.L.LineSink in
    gives_row c.give_entry.result (rows_to l.gave l.within l.failed) c.args.out.now c.give_entry.new.out (asked_of c.args.self.now) (entry_by c.args.fields.now) _ _
    (sym c.shows.ensures ∙ c.if-not-shows.false) c.in-Entry.is refl c.give_entry.ensures.gives

pub returns-in-File-clause-gives : goal.returns-in-File-clause-gives
returns-in-File-clause-gives g c =
    let l = g.L.LineSink in
    gives_row c.give_file.result (rows_to l.gave l.within l.failed) c.args.out.now c.give_file.new.out (asked_of c.args.self.now) (entry_by c.args.fields.now) _ _
    (sym c.shows.ensures ∙ c.if-not-shows.false) c.in-File.is refl c.give_file.ensures.gives
