use Rattle.std.proofs.Common.{◌≡◌, true, ap, ◌∙◌, arith, rules}
use Rattle.page_core_base.specs.Rows.{Laid}
use Rattle.page_fill_rows.proofs.GroupLemmas.{latched}
use Rattle.page_fill.specs.laws.Views.{is_in_row}
use Rattle.page_fill.specs.declared.edges.FillEdge.{FillEdge}
use Rattle.page_fill_rows.specs.machine.RowPlans.{seen}
use Rattle.page_fill.proofs.edges.FillEdge.words.Goals as goal

pub returns : goal.returns
returns g c =
    let r = g.R.RowSink in
    let n = g.N.NoteSink in
    let gave = c.put_words.ensures.gives in
    let k = latched (seen r.gave r.within r.failed r.loans) (seen n.gave n.within n.failed n.loans) g.met.R.RowSink.laws g.met.N.NoteSink.laws gave.0
    c.done.result c.new-latch.ensures.fault gave.1.0 c.done.ensures in
    let takes = c.requires.takes in
    let ready : is_in_row c.args.self.now ≡ true = grind (arith, takes) in
    record {
      gets = λ words are. rw (← gave.2 words are ready) (search (rules, k.rows_loan, k.notes_loan, k.gets));
      edge = λ words are. gave.1.1 ∙ ap (λ (l : Laid FillEdge). l.edge) (gave.2 words are ready);
      sound = c.put_words.ensures.sound;
      sinks = record { faults = search (rules, k.rows_loan, k.notes_loan, k.faults); rows_same = search (rules, k.rows_loan, k.rows_same); notes_same = search (rules, k.notes_loan, k.notes_same) };
    }
