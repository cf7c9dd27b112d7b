use Rattle.std.proofs.Common.{◌∷◌, drop, length, refl, arith}
use Rattle.std.proofs.lemmas.List.{length-drop, take_rest}
use Rattle.page_core_base.specs.declared.cells.Font.TheVariants.{R}
use Rattle.page_scopes_words.proofs.RunEndLemmas.{all_printable}
use Rattle.page_scopes_words.specs.machine.Letters.{letters_in}
use Rattle.page_scopes_text.proofs.KeptTextLemmas.{front_left, whole_reads}
use Rattle.page_scopes_text.proofs.lettered_texts.give_whole.Goals as goal

pub give_after_blanks-requires-clause-ascii : goal.give_after_blanks-requires-clause-ascii
give_after_blanks-requires-clause-ascii g c = all_printable c.args.style.is_quoted c.args.text.now c.requires.goes

pub returns-then-not-give_after_blanks : goal.returns-then-not-give_after_blanks
returns-then-not-give_after_blanks g c =
    let text = c.args.text.now in
    let fonts = c.args.pen.now.fonts in
    let reads = whole_reads c.args.style fonts fonts.value.font text refl c.requires.literal c.requires.word c.requires.font c.requires.goes in
    front_left g.O.PieceOut.left c.args.style c.args.pen.now.gap fonts fonts text (drop (length text) text) (record { c = 32; font = R } ∷ letters_in fonts.value.font text) _ _
    (record { c = 32; font = R } ∷ letters_in fonts.value.font text, refl, reads.words)
    (rw c.if-not-give_after_blanks.true at c.give_after_blanks.ensures)

pub returns : goal.returns
returns g c =
    let text = c.args.text.now in
    let fonts = c.args.pen.now.fonts in
    let reads = whole_reads c.args.style fonts fonts.value.font text refl c.requires.literal c.requires.word c.requires.font c.requires.goes in
    rw (take_rest text (length text)) (record {
      less = omega (arith, length-drop (length text) text);
      prints = reads.prints;
      cells = record { c = 32; font = R } ∷ letters_in fonts.value.font text;
      some = omega arith;
      adds = (record { c = 32; font = R } ∷ letters_in fonts.value.font text, refl, reads.words);
      gives = rw c.if-not-give_after_blanks.false at c.give_after_blanks.ensures;
    })
