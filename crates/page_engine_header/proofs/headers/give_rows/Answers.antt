use Rattle.std.proofs.Common.{rules}
use Rattle.page_engine_header.specs.laws.Views.{part_tokens}
use Rattle.page_engine_header.specs.Header.{row_characters}
use Rattle.page_engine_header.proofs.PrintingLemmas.{rows_came}
use Rattle.page_engine_header.proofs.headers.give_rows.Goals as goal

pub returns : goal.returns
returns g c = λ plan rest h.
    let a = c.args in
    let items = row_characters a.measure a.place (part_tokens a.first) (part_tokens a.second) (part_tokens a.third) in
    let k = rows_came g.O.PieceOut.left items c.give_characters.ensures plan rest (rw (c.new-rows.ensures.room, c.new-rows.ensures.out) h) in
    search (rules, k.0, k.1)
