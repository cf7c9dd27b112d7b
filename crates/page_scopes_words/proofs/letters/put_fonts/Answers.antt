use Rattle.std.proofs.Common.{arith}
use Rattle.page_scopes_words.proofs.RunEndLemmas.{fonts_put, put_len}
use Rattle.page_scopes_words.proofs.letters.put_fonts.Goals as goal

pub returns-then-start-fonts-clause-front : goal.returns-then-start-fonts-clause-front
returns-then-start-fonts-clause-front c =
    rw c.fill_fonts.ensures (fonts_put c.args.fonts.now c.args.start c.args.count 16 c.args.font c.if-count-le-GROUP.true c.if-start-fonts.true)

pub returns-else-count-le-GROUP-clause-front : goal.returns-else-count-le-GROUP-clause-front
returns-else-count-le-GROUP-clause-front c =
    rw c.fill_fonts-else-count-le-GROUP.ensures (fonts_put c.args.fonts.now c.args.start c.args.count c.args.count c.args.font (omega arith) c.requires)

pub returns-then-start-fonts-clause-len : goal.returns-then-start-fonts-clause-len
returns-then-start-fonts-clause-len c = rw c.fill_fonts.ensures (put_len c.args.fonts.now c.args.start 16 c.args.font c.if-start-fonts.true)

pub returns-else-count-le-GROUP-clause-len : goal.returns-else-count-le-GROUP-clause-len
returns-else-count-le-GROUP-clause-len c =
    rw c.fill_fonts-else-count-le-GROUP.ensures (put_len c.args.fonts.now c.args.start c.args.count c.args.font c.requires)
