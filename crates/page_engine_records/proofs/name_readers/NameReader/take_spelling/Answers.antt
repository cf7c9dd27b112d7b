use Rattle.std.proofs.Common.{sym, ap, ◌∙◌}
use Rattle.page_engine_records.specs.machine.NameTexts.{with_characters}
use Rattle.page_engine_records.proofs.NameTextLemmas.{characters_at, characters_end}
use Rattle.page_engine_records.proofs.name_readers.NameReader.take_spelling.Goals as goal

pub loop-byte-preserved : goal.loop-byte-preserved
loop-byte-preserved c =
    let l = c.loop-byte in
    rw c.take_char.ensures (sym (characters_at l.self c.as_bytes-byte-items.result.now l.byte-index c.loop-byte-test.true) ∙ l.invariant)

pub returns : goal.returns
returns c =
    let l = c.loop-byte in
    let bytes = c.as_bytes-byte-items in
    sym (characters_end l.self bytes.result.now l.byte-index c.loop-byte-test.false)
    ∙ (l.invariant ∙ ap (with_characters c.args.self.now) bytes.ensures.value)
