use Rattle.std.proofs.Common.{replicate, sym, ap, ◌∙◌}
use Rattle.std.proofs.lemmas.List.{take-replicate}
use Rattle.page_core_base.specs.declared.cells.Font.TheVariants.{R, I, B, BI}
use Rattle.page_scopes_words.proofs.letter_fonts.equal_fonts.Goals as goal

pub returns-in-R : goal.returns-in-R
returns-in-R c = take-replicate c.args.count 256 R c.requires ∙ ap (replicate c.args.count) (sym c.in-R.is)

pub returns-in-I : goal.returns-in-I
returns-in-I c = take-replicate c.args.count 256 I c.requires ∙ ap (replicate c.args.count) (sym c.in-I.is)

pub returns-in-B : goal.returns-in-B
returns-in-B c = take-replicate c.args.count 256 B c.requires ∙ ap (replicate c.args.count) (sym c.in-B.is)

pub returns-in-BI : goal.returns-in-BI
returns-in-BI c = take-replicate c.args.count 256 BI c.requires ∙ ap (replicate c.args.count) (sym c.in-BI.is)
