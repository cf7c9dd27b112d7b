use Rattle.std.proofs.Common.{rules}
use Rattle.page_core_base.proofs.LatchLemmas.{latched}
use Rattle.page_engine_lines.specs.machine.Lines.{end_items}
use Rattle.page_engine_lines.proofs.page_lines.PageLines.end.Goals as goal

pub returns : goal.returns
returns g c =
    let items = end_items c.args.self.now c.args.number in
    let k = latched g.met.O.PieceSink.items items c.done.result c.new.ensures.fault c.give_end.ensures.came c.done.ensures in
    record { gives = search (rules, k.0, k.2); same = search (rules, k.0, k.1); header = search (rules, c.give_end.ensures.header) }
