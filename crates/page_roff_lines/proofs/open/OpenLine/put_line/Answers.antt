use Rattle.std.proofs.Common.{◌≡◌, true, refl}
use Rattle.page_roff_lines.specs.declared.Mode.TheVariants.{Plain}
use Rattle.page_roff_lines.proofs.RunLemmas.{text-line}
use Rattle.page_roff_lines.proofs.open.OpenLine.put_line.Goals as goal

pub returns-clause-next : goal.returns-clause-next
returns-clause-next c =
    let line = text-line c.args.self.now c.args.text.now c.requires.whole c.requires.reads c.requires.some c.requires.fine in
    let plain : c.self.inside.mode ≡ Plain = rw (← c.self.view_is) at c.requires.reads.plain in
    let whole : c.self.inside.whole ≡ true = rw (← c.self.view_is) at c.requires.whole in
    rw (line, ← c.self.view_is, c.set.ensures, plain, whole) refl
