use Rattle.std.proofs.Common.{sym}
use Rattle.std.proofs.lemmas.List.{take_rest}
use Rattle.page_core_escapes.specs.laws.Views.{face_view}
use Rattle.page_scopes_text.proofs.PartedLemmas.{font_reads}
use Rattle.page_scopes_text.proofs.lettered_words.read_font.Goals as goal

pub returns : goal.returns
returns c = λ quoted cells.
    let text = c.args.text.now in
    let name = c.in_ok-name in
    rw (take_rest text name.len, c.named.ensures)
    (font_reads quoted c.args.fonts.now cells text (face_view name.name) name.len name.ensures (sym c.if-not-is_known.ensures))
