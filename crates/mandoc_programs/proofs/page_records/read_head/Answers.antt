use Rattle.mandoc_programs.proofs.Parts.{read_more}
use Rattle.mandoc_programs.proofs.page_records.read_head.Goals as goal

pub loop-preserved : goal.loop-preserved
loop-preserved g c =
    let came = rw c.in-Bytes.is at c.read_part.ensures.reads in
    let i = c.loop.invariant in
    let rem = g.I.Read.remaining in
    read_more (rem c.args.input.now) (rem c.loop.input) (rem c.read_part.new.self) c.loop.head c.read_part.new.buffer c.loop.count c.in-Bytes.more
    i.0 c.read_part.auto.buffer came.1 i.1 came.0
