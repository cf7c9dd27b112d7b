use Rattle.page_core_escapes.specs.laws.Views.{face_view}
use Rattle.page_core_escapes.proofs.Contents.{short_font}
use Rattle.page_core_escapes.proofs.tokens.short_font.Goals as goal

pub returns-in-Some : goal.returns-in-Some
returns-in-Some c =
    let named = rw c.in-Some.is at c.font_by_letter.ensures in
    short_font c.args.text.now (face_view c.in-Some.name) c.if-text-lt3.false c.if-text-ne92.false c.if-text-ne102.false named
