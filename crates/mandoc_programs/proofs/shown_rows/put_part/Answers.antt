use Rattle.mandoc_formats.specs.Formats.{shown}
use Rattle.mandoc_formats.proofs.Turns.{ended_before}
use Rattle.mandoc_programs.proofs.shown_rows.put_part.Goals as goal

pub returns : goal.returns
returns g c =
    let was = rw c.if-put_name.false at c.put_name.ensures.writes in
    ended_before (g.W.Target.contents c.args.out.now) (g.W.Target.contents c.put_name.new.err) (shown c.args.text.now) c.args.other.now was
