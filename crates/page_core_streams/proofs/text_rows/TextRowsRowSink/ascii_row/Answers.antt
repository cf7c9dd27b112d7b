use Rattle.page_core_streams.proofs.AsciiLemmas.{ascii-front}
use Rattle.page_core_streams.proofs.text_rows.TextRowsRowSink.ascii_row.Goals as goal

pub put_text-requires : goal.put_text-requires
put_text-requires g c = ascii-front c.args.bytes.now c.args.fonts.now _ c.shown_len-len.result c.requires.0
