use Rattle.std.proofs.Common.{refl, sym, take, drop}
use Rattle.std.proofs.lemmas.List.{take_rest, take-append-drop}
use Rattle.page_core_streams.proofs.AsciiLemmas.{GrowsUpTo-start, GrowsUpTo-more, GrowsUpTo-last}
use Rattle.page_core_streams.proofs.writing.write_bytes.Goals as goal

pub returns-in-Ok-2 : goal.returns-in-Ok-2
returns-in-Ok-2 g c =
    let all = c.args.bytes.now in
    let n = c.in-Ok.count in
    let front = GrowsUpTo-more _ (take n all) (drop n all) (GrowsUpTo-start _ all) (sym (take-append-drop n all)) c.in-Ok.ensures.bytes in
    GrowsUpTo-last _ (drop n all) _ front refl (rw (take_rest all n) at c.write_rest.ensures)
