use Rattle.std.proofs.Common.{◌≡◌, ◌+◌, List, [], ◌∷◌, ◌++◌, length, length-append, ap, refl, ◌∙◌, arith}
use Rattle.page_core_base.specs.declared.cells.Cell.{Cell}
use Rattle.page_core_base.specs.declared.cells.Font.TheVariants.{R}
use Rattle.page_scopes_words.specs.machine.Letters.{letters_in}
use Rattle.page_scopes_text.proofs.RunWordLemmas.{adds_join}
use Rattle.page_scopes_text.proofs.KeptTextLemmas.{front_adds, front_left}
use Rattle.page_scopes_text.specs.machine.Letters.{AddsWords}
use Rattle.page_scopes_text.proofs.lettered_texts.give_read.Goals as goal

pub returns-then-not-give : goal.returns-then-not-give
returns-then-not-give g c =
    let style = c.args.style in
    let text = c.args.text.now in
    let fonts = c.args.pen.now.fonts in
    let first = c.in_ok-first in
    let next = c.read_after_blank.new in
    let all = c.read_words-rest in
    let blank = c.if-not-add.ensures.added refl ∙ ap (λ (l : List Cell). l ++ letters_in R (32 ∷ [])) c.new-letters.ensures in
    let adds = front_adds style fonts next.fonts text first.first.now c.add.new.self next.letters blank first.ensures.reads in
    let both : AddsWords style fonts [] (32 ∷ text) all.new.fonts all.new.letters all.result.now =
    adds_join style fonts next.fonts all.new.fonts [] next.letters all.new.letters (32 ∷ text) first.first.now all.result.now adds all.ensures in
    front_left g.O.PieceOut.left style c.args.pen.now.gap fonts all.new.fonts text all.result.now all.new.letters _ _ both (rw c.if-not-give.true at c.give.ensures)

pub returns : goal.returns
returns g c =
    let style = c.args.style in
    let text = c.args.text.now in
    let fonts = c.args.pen.now.fonts in
    let first = c.in_ok-first in
    let next = c.read_after_blank.new in
    let all = c.read_words-rest in
    let blank = c.if-not-add.ensures.added refl ∙ ap (λ (l : List Cell). l ++ letters_in R (32 ∷ [])) c.new-letters.ensures in
    let adds = front_adds style fonts next.fonts text first.first.now c.add.new.self next.letters blank first.ensures.reads in
    let both : AddsWords style fonts [] (32 ∷ text) all.new.fonts all.new.letters all.result.now =
    adds_join style fonts next.fonts all.new.fonts [] next.letters all.new.letters (32 ∷ text) first.first.now all.result.now adds all.ensures in
    let own = first.ensures.reads in
    let grown : length next.letters ≡ length c.add.new.self + length own.0 = ap (λ (cells : List Cell). length cells) own.1 ∙ length-append c.add.new.self own.0 in
    let size : length all.new.letters ≡ length next.letters + length all.ensures.0 =
    ap (λ (cells : List Cell). length cells) all.ensures.1 ∙ length-append next.letters all.ensures.0 in
    record {
      less = omega (arith, first.ensures.less, all.ensures.2.less);
      prints = first.ensures.reads.2.prints;
      cells = all.new.letters;
      some = omega (arith, size, grown, own.2.some);
      adds = both;
      gives = rw c.if-not-give.false at c.give.ensures;
    }
