use Rattle.std.proofs.Common.{arith}
use Rattle.page_roff_decoding.proofs.ScanLemmas.{text-printable}
use Rattle.page_roff_decoding.proofs.texts.text_within.Goals as goal

pub returns-clause-text : goal.returns-clause-text
returns-clause-text c = text-printable c.args.bytes.now c.min.result (omega arith)
