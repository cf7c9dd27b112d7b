use Rattle.std.proofs.Common.{◌∙◌, sym, arith}
use Rattle.std.proofs.lemmas.List.{length-take-le}
use Rattle.page_core_streams.proofs.AsciiLemmas.{ascii-front, roman-front}
use Rattle.page_core_streams.proofs.ascii_rows.write_first.Goals as goal

pub slice_bounds-are_roman-end : goal.slice_bounds-are_roman-end
slice_bounds-are_roman-end c = sym (length-take-le 32 c.args.fonts.now (omega (arith, c.requires.ascii.sizes, c.if-text-ge-TEXT_GROUP.true)))

pub returns-then-are_roman-clause-front : goal.returns-then-are_roman-clause-front
returns-then-are_roman-clause-front c =
    let written = c.write_roman-end.ensures in
    roman-front c.args.bytes.now _ c.args.text.now c.args.fonts.now c.args.start c.args.count 32 c.requires.ascii (sym c.are_roman.ensures ∙ c.if-are_roman.true)
    (omega (arith, c.requires.room)) c.requires.within.1 c.if-text-ge-TEXT_GROUP.true (rw written.end at written.front)

pub write_parts-requires-clause-ascii : goal.write_parts-requires-clause-ascii
write_parts-requires-clause-ascii c = ascii-front c.args.text.now c.args.fonts.now _ c.args.count c.requires.ascii
