use Rattle.std.proofs.Common.{arith}
use Rattle.page_engine_header.proofs.PrintingLemmas.{name_columns}
use Rattle.page_engine_header.proofs.parts.Part.columns.Goals as goal

pub returns-in-Name-clause-value : goal.returns-in-Name-clause-value
returns-in-Name-clause-value c =
    let n = name_columns c.args.output c.in-Name.title.now c.in-Name.section.now in
    rw c.in-Name.is (omega (arith, n, c.text_columns.ensures.value, c.text_columns-in-Name.ensures.value))
