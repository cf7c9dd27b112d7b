use Rattle.std.proofs.Common.{◌≡◌, length, arith}
use Rattle.std.proofs.lemmas.Bool.Decides.{nat_tests}
use Rattle.page_engine_records.specs.NameTexts.{TEXT}
use Rattle.page_engine_records.proofs.NameTextLemmas.{full-same}
use Rattle.page_engine_records.proofs.name_readers.NameReader.is_full.Goals as goal

pub returns : goal.returns
returns c = λ is cs.
    let full : length c.bytes.result.now ≡ TEXT = grind (arith, nat_tests, is) in
    full-same c.args.self.now cs c.if-self.false (rw c.bytes.ensures.value at full)
