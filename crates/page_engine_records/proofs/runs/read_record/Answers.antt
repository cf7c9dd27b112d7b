use Rattle.page_engine_records.proofs.RunLemmas.{ends_early, ends_well}
use Rattle.page_engine_records.proofs.runs.read_record.Goals as goal

pub returns-in-Ok-read-clause-reads : goal.returns-in-Ok-read-clause-reads
returns-in-Ok-read-clause-reads g c =
    let h = c.in-Ok-read.ensures.reads in
    (h.0, ends_well c.in-Ok-new.run' _ _ _ c.args.settings.now h.0 c.into_record-record.result c.in_default.ensures c.in-Ok-new.ensures.ok c.into_record-record.ensures h.1)

pub returns-in-Err-read-clause-reads : goal.returns-in-Err-read-clause-reads
returns-in-Err-read-clause-reads g c =
    let h = c.in-Err-read.ensures.reads in
    (h.0, ends_early c.in-Ok-new.run' _ _ _ c.args.settings.now h.0 c.in-Err-read.fault c.in_default.ensures h.1)
