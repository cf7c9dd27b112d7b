use Rattle.std.proofs.Common.{◌≡◌, [], ◌∷◌, get_or, refl, sym, ap, ap₂, ◌∙◌, arith}
use Rattle.std.proofs.lemmas.Slice.Eq.{text_from_reads}
use Rattle.page_core_tables.specs.Glyphs.{symbol_at, glyph_of}
use Rattle.page_core_tables.proofs.Tables.{glyph_of-pair, glyph_of-length}
use Rattle.page_core_tables.proofs.glyph.Goals as goal

pub returns-then-name-ne2 : goal.returns-then-name-ne2
returns-then-name-ne2 c = sym (glyph_of-length c.args.name.now c.if-name-ne2.true)

pub returns : goal.returns
returns c =
    let name = c.args.name.now in
    let first = get_or name 0 0 in
    let second = get_or name 1 0 in
    let is_pair : name ≡ first ∷ second ∷ [] = text_from_reads name (first ∷ second ∷ []) (omega arith) (refl, (refl, tt)) in
    c.find.ensures
    ∙ ap₂ symbol_at c.by_name.ensures.rows c.name_key.ensures
    ∙ sym (glyph_of-pair first second)
    ∙ ap glyph_of (sym is_pair)
