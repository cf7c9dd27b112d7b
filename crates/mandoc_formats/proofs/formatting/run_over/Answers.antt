use Rattle.std.proofs.Common.{refl}
use Rattle.page_engine.specs.Runs.{writers}
use Rattle.mandoc_formats.proofs.AsLists.{as_lists, caused}
use Rattle.mandoc_formats.proofs.formatting.run_over.Goals as goal

pub returns-clause-ran : goal.returns-clause-ran
returns-clause-ran g c =
    let runs = c.run_page.ensures.runs in
    let l = as_lists g.W.Target.contents g.V.Target.contents c.args.name.now c.args.out.now c.run_page.new.out c.args.notes.now c.run_page.new.notes
    c.run_page.result c.args.settings.now runs.0 (g.I.Input.state c.run_page.new.reader).remaining runs.2 in (
      record { bytes = runs.0; rows = l.rows; notes = l.notes; left = (g.I.Input.state c.run_page.new.reader).remaining; end = c.run_page.result },
      l.runs,
      runs.1,
      refl,
      l.rows_came,
      l.notes_came,
    )

pub returns-clause-cause : goal.returns-clause-cause
returns-clause-cause g c =
    caused g.I.Input.state g.W.Target.failures g.V.Target.failures (writers g.W.Target.contents g.V.Target.contents c.args.name.now) c.args.input.now c.run_page.new.reader
    c.args.out.now c.run_page.new.out c.args.notes.now c.run_page.new.notes c.args.settings.now g.I.Input.counts g.W.Target.counts g.V.Target.counts
    c.run_page.result c.run_page.ensures.causes
