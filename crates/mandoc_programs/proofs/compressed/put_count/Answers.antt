use Rattle.std.proofs.Common.{ℕ, List, [], sym, subst}
use Rattle.page_core_streams.specs.laws.Views.{Writes}
use Rattle.mandoc_formats.specs.Formats.{line_end}
use Rattle.mandoc_programs.specs.Indexes.{compressed_text}
use Rattle.mandoc_programs.proofs.Parts.{count_line}
use Rattle.mandoc_programs.proofs.compressed.put_count.Goals as goal

pub returns-then-count-eq1-clause-writes : goal.returns-then-count-eq1-clause-writes
returns-then-count-eq1-clause-writes g c =
    let a = g.V.Target.contents c.args.err.now in
    let b = g.V.Target.contents c.put_through.new.self in
    subst (λ (n : ℕ). Writes c.put_through.result a b (line_end [] (compressed_text n))) (sym c.if-count-eq1.true) c.put_through.ensures.writes

pub returns-clause-writes : goal.returns-clause-writes
returns-clause-writes g c =
    let a = g.V.Target.contents c.args.err.now in
    let b = g.V.Target.contents c.put_through-2.new.self in
    let came = rw (c.as_bytes.ensures.value, c.format-digits.ensures.text) at c.put_through-2.ensures.writes in
    subst (λ (l : List ℕ). Writes c.put_through-2.result a b l) (sym (count_line c.args.count c.if-count-eq1.false)) came
