use Rattle.std.proofs.Common.{ℕ, List, [], ◌++◌, sym, subst}
use Rattle.std.specs.Prelude.{codes}
use Rattle.page_core_streams.specs.Streams.{GrowsInto}
use Rattle.mandoc_formats.specs.Formats.{line_end, shown}
use Rattle.mandoc_programs.specs.Indexes.{compressed_text}
use Rattle.mandoc_formats.proofs.Turns.{ended_before}
use Rattle.mandoc_programs.proofs.Parts.{some_compressed}
use Rattle.mandoc_programs.proofs.compressed.put_compressed.Goals as goal

pub returns-clause-writes : goal.returns-clause-writes
returns-clause-writes g c =
    let a = g.V.Target.contents c.args.err.now in
    let b = g.V.Target.contents c.put_front.new.err in
    let was = rw c.if-put_front.false at c.put_front.ensures.writes in
    subst (λ (l : List ℕ). GrowsInto a b l) (sym (some_compressed (shown c.args.dir.now) c.args.count c.if-count-eq0.false))
    (ended_before a b (codes "mandoc: " ++ shown c.args.dir.now) (line_end [] (compressed_text c.args.count)) was)

pub returns-clause-failed : goal.returns-clause-failed
returns-clause-failed g c e = c.put_front.ensures.failed c.if-put_front.false
