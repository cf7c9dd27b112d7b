use Rattle.std.proofs.Common.{map, ap, ◌∙◌}
use Rattle.page_engine_index.specs.Whatis.{asked}
use Rattle.page_engine_index.specs.Written.{written}
use Rattle.page_engine_index.specs.declared.queries.Show.TheVariants as show
use Rattle.mandoc_command.specs.Line.{searches_of}
use Rattle.mandoc_programs.proofs.AsRows.{entries_asked, no_entry, search_caused}
use Rattle.mandoc_programs.proofs.searching.give_rows.Goals as goal

pub returns-clause-searches : goal.returns-clause-searches
returns-clause-searches g c =
    let h = c.whatis.ensures.searches in
    let words = ap (map (λ word. word.now)) c.as_slice-2.ensures.value ∙ (c.in-Ok.ensures ∙ c.as_slice.ensures) in (
      h.0,
      h.1,
      entries_asked g.W.Target.contents c.args.out.now c.whatis.new.out c.as_slice-2.result.now c.section_of-section.result (searches_of c.args.asked.now)
          h.0 (g.I.Input.state c.whatis.new.index).remaining c.whatis.result words c.section_of-section.ensures c.if-asked.false h.2,
    )

pub returns-then-asked-clause-cause : goal.returns-then-asked-clause-cause
returns-then-asked-clause-cause g c e = absurd (no_entry c.args.asked.now.shows_files c.if-asked.true e)

pub returns-clause-cause : goal.returns-clause-cause
returns-clause-cause g c e =
    search_caused g.I.Input.state g.W.Target.failures (written g.W.Target.contents) c.args.index.now c.whatis.new.index c.args.out.now c.whatis.new.out
    (asked c.as_slice-2.result.now c.section_of-section.result show.Entry) g.I.Input.counts g.W.Target.counts c.whatis.result c.whatis.ensures.causes
