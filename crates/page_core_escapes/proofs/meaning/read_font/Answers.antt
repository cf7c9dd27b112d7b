use Rattle.std.proofs.Common.{arith, ap, ◌∙◌, sym}
use Rattle.page_core_escapes.specs.Meanings.{face_of}
use Rattle.page_core_escapes.proofs.Contents.{face_of-empty, one_letter}
use Rattle.page_core_escapes.proofs.meaning.read_font.Goals as goal

pub returns-in-empty : goal.returns-in-empty
returns-in-empty c = face_of-empty c.args.name.now (omega arith)

pub returns-in-Some : goal.returns-in-Some
returns-in-Some c =
    let named = rw c.in-Some.is at c.font_by_letter.ensures in
    sym named.named ∙ ap face_of (one_letter c.args.name.now (omega arith))

pub returns-in-None : goal.returns-in-None
returns-in-None c =
    let none = rw c.in-None.is at c.font_by_letter.ensures in
    let name = one_letter c.args.name.now (omega arith) in
    rw name at (sym none)
