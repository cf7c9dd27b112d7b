use Rattle.std.proofs.Common.{length}
use Rattle.mandoc_programs.specs.Searches.{shown_parts}
use Rattle.mandoc_formats.proofs.Turns.{ended_before}
use Rattle.mandoc_programs.proofs.shown_rows.put_name_row.Goals as goal

pub returns : goal.returns
returns g c =
    let was = rw c.if-put_parts.false at c.put_parts.ensures in
    ended_before (g.W.Target.contents c.args.out.now) (g.W.Target.contents c.put_parts.new.out) (shown_parts (length c.args.name.now) c.args.name.now) c.args.end.now was
