use Rattle.page_core_escapes.proofs.Contents.{code_font}
use Rattle.page_core_escapes.proofs.tokens.code_font.Goals as goal

pub returns : goal.returns
returns c =
    code_font c.args.text.now c.if-text-lt5.false c.requires.backslash c.requires.letter c.if-text-ne40.false c.if-text-ne67.false c.if-text-ne87.false
