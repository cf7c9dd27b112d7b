use Rattle.std.proofs.Common.{sym, ap, ◌∙◌, arith, length}
use Rattle.std.proofs.lemmas.List.{take_all}
use Rattle.page_core_base.specs.Rows.{trimmed}
use Rattle.page_core_streams.proofs.AsciiLemmas.{trimmed-group}
use Rattle.page_core_streams.proofs.cells.len_before_groups.Goals as goal

pub returns-then-cells-lt-LONG_ROW-clause-same : goal.returns-then-cells-lt-LONG_ROW-clause-same
returns-then-cells-lt-LONG_ROW-clause-same c = ap trimmed (sym (take_all (length c.args.cells.now) c.args.cells.now (omega arith)))

pub loop-len-init : goal.loop-len-init
loop-len-init c = (omega arith, ap trimmed (sym (take_all (length c.args.cells.now) c.args.cells.now (omega arith))))

pub loop-len-preserved : goal.loop-len-preserved
loop-len-preserved c =
    let l = c.loop-len in (
      omega (arith, l.invariant.0),
      l.invariant.1 ∙ trimmed-group c.args.cells.now l.len 64 c.loop-len-test.true (sym c.are_blank.ensures.cells ∙ c.if-are_blank.true),
    )
