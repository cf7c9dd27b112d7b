use Rattle.page_core_base.proofs.LatchLemmas.{whole_front, short_front}
use Rattle.page_core_base.proofs.notes.text_front.Goals as goal

pub returns-in-Ok : goal.returns-in-Ok
returns-in-Ok c = record {
  value = whole_front c.args.most c.args.text.now c.min.result c.in-Ok.whole.now c.min.ensures c.in-Ok.ensures.cases.0 c.in-Ok.ensures.cases.1;
  len = short_front c.args.most c.args.text.now c.min.result c.in-Ok.whole.now c.min.ensures c.in-Ok.ensures.cases.0;
}
