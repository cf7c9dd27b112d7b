use Rattle.std.proofs.Common.{◌∙◌, ap}
use Rattle.page_engine_header.specs.Header.{volume_of}
use Rattle.page_engine_header.proofs.PrintingLemmas.{th_read}
use Rattle.page_engine_header.proofs.fields.Fields.take_title.Goals as goal

pub returns : goal.returns
returns c =
    let volume = c.as_bytes.ensures.value ∙ c.volume_of.ensures.value ∙ ap volume_of c.text.ensures.text in
    th_read c.args.os.now c.args.arguments _ _ _ _ _ _ _ _ _ c.args.self.now
    c.next-self.ensures.rest c.next-self-2.ensures.rest c.next-self-3.ensures.rest c.next.ensures.rest
    c.next-self.ensures.field c.next-self-2.ensures.field c.next-self-3.ensures.field (rw c.next.ensures.field at c.or_else-self.ensures)
    (rw (c.next-volume.ensures.field, volume) at c.or_else-self-2.ensures)
