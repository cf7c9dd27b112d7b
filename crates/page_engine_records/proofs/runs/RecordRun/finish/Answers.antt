use Rattle.std.proofs.Common.{ap, ◌∙◌}
use Rattle.page_engine_records.specs.machine.NameTexts.{Front}
use Rattle.page_engine_records.proofs.NameLemmas.{end_named}
use Rattle.page_engine_records.proofs.runs.RecordRun.finish.Goals as goal

pub returns : goal.returns
returns c = record {
  name = λ p h. end_named _ _ _ (c.take_last.ensures.front p h) c.end.ensures.name;
  fields = λ p h. ap (λ header. header.fields) c.end.ensures.header ∙ ap (λ (f : Front). f.lines.body.header.fields) (c.take_last.ensures.front p h);
}
