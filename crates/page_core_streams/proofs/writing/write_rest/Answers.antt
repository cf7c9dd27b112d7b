use Rattle.std.proofs.Common.{sym, take, drop}
use Rattle.std.proofs.lemmas.List.{take_rest, take-append-drop}
use Rattle.page_core_streams.proofs.AsciiLemmas.{GrowsUpTo-more}
use Rattle.page_core_streams.proofs.writing.write_rest.Goals as goal

pub loop-rest-preserved-then-count-gt0 : goal.loop-rest-preserved-then-count-gt0
loop-rest-preserved-then-count-gt0 g c =
    let left = c.loop-rest.rest.now in
    let n = c.in-Ok.count in
    rw (take_rest left n) (GrowsUpTo-more _ (take n left) (drop n left) c.loop-rest.invariant (sym (take-append-drop n left)) c.in-Ok.ensures.bytes)
