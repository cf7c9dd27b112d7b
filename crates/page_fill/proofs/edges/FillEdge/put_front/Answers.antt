use Rattle.std.proofs.Common.{◌≡◌, ◌<◌, ◌≤◌, ◌+◌, ◌++◌, ◌-◌, length, replicate, take, length-append, refl, sym, ap, ◌∙◌, arith}
use Rattle.std.proofs.lemmas.Bool.Decides.{nat_tests}
use Rattle.std.proofs.lemmas.List.{length-replicate, length-take-le}
use Rattle.page_core_base.specs.Rows.{Laid, nothing}
use Rattle.page_core_base.specs.laws.Views.{cells_in}
use Rattle.page_fill_cells.proofs.PlaceLemmas.{in-length}
use Rattle.page_fill_rows.proofs.PlainLemmas.{parts-plain}
use Rattle.page_fill_rows.specs.machine.Plain.{free_cells, word_start, words_taken, wraps_words}
use Rattle.page_fill_rows.specs.OpenRows.{Sheet, over}
use Rattle.page_fill_cells.specs.Cells.{blank}
use Rattle.page_fill.specs.declared.edges.FillEdge.{FillEdge}
use Rattle.page_fill.specs.machine.Words.{whole_words}
use Rattle.page_fill.proofs.LetteredPieces.{begun_on}
use Rattle.page_fill.proofs.LetteredWordLemmas.{front-fits, front-wraps}
use Rattle.page_fill.proofs.edges.FillEdge.put_front.Goals as goal

pub add_words-requires-clause-plain : goal.add_words-requires-clause-plain
add_words-requires-clause-plain g c = (parts-plain c.whole_words-end.result c.args.text.now c.requires.plain).0

pub returns-then-end-gt0-clause-gives : goal.returns-then-end-gt0-clause-gives
returns-then-end-gt0-clause-gives g c =
    let e = c.args.self.now in
    let text = c.args.text.now in
    let fonts = c.args.fonts.now in
    let end = c.whole_words-end.result in
    let fits = c.requires.fits in
    let above : 0 < c.args.blanks = grind (arith, nat_tests, fits) in
    let room : c.saturating_sub-room.result ≡ free_cells e.sheet - c.args.blanks = omega (arith, c.saturating_sub-room.ensures, c.free_cells.ensures.value) in
    let is : end ≡ whole_words text (free_cells e.sheet - c.args.blanks) = c.whole_words-end.ensures.value ∙ ap (whole_words text) room in
    let some : 0 < end = omega (arith, c.if-end-gt0.true) in
    let within : c.args.blanks + end ≤ free_cells e.sheet = omega (arith, c.whole_words-end.ensures.fits, room, some) in
    let after : FillEdge = begun_on e (words_taken e.sheet c.args.blanks (cells_in (take end text) (take end fonts)) (word_start (take end text))) in (
      nothing after,
      ((λ plan more said h. h), rw (c.add_words.ensures, c.word_start-start.ensures.value, c.begun-self.ensures) refl),
      λ _. front-fits e c.args.blanks text fonts end above c.requires.fonts c.requires.plain is within c.whole_words-end.ensures.within some,
    )

pub returns-then-end-gt0-clause-room : goal.returns-then-end-gt0-clause-room
returns-then-end-gt0-clause-room g c =
    let sheet = c.args.self.now.sheet in
    let text = c.args.text.now in
    let fonts = c.args.fonts.now in
    let end = c.whole_words-end.result in
    let within = c.whole_words-end.ensures.within in
    let some : length (take end text) ≡ end = length-take-le end text within in
    let own : length (take end fonts) ≡ end = length-take-le end fonts (omega (arith, within, c.requires.fonts)) in
    let size = in-length (take end text) (take end fonts) (own ∙ sym some) in
    let new = ap (λ (t : Sheet). length t.cells) c.add_words.ensures in
    let front = length-append sheet.cells (replicate c.args.blanks blank) in
    let blanks = length-replicate c.args.blanks blank in
    let len = length-append (sheet.cells ++ replicate c.args.blanks blank) (cells_in (take end text) (take end fonts)) in
    omega (arith, new, len, front, blanks, size, some, c.requires.room, within)

pub wrap_words-requires-clause-plain : goal.wrap_words-requires-clause-plain
wrap_words-requires-clause-plain g c = (parts-plain c.front_of_next_row-end.result c.args.text.now c.requires.plain).0

pub returns-clause-gives : goal.returns-clause-gives
returns-clause-gives g c =
    let e = c.args.self.now in
    let text = c.args.text.now in
    let fonts = c.args.fonts.now in
    let end = c.front_of_next_row-end.result in
    let next = c.front_of_next_row-end.ensures in
    let room : c.saturating_sub-room.result ≡ free_cells e.sheet - c.args.blanks = omega (arith, c.saturating_sub-room.ensures, c.free_cells.ensures.value) in
    let zero : c.whole_words-end.result ≡ 0 = omega (arith, c.if-end-gt0.false) in
    let none : whole_words text (free_cells e.sheet - c.args.blanks) ≡ 0 = ap (whole_words text) (sym room) ∙ (sym c.whole_words-end.ensures.value ∙ zero) in
    let given : Laid FillEdge = over (wraps_words e.sheet (cells_in (take end text) (take end fonts)) (word_start (take end text))) (begun_on e) in (
      given,
      (c.wrap_words.ensures.0, rw (c.wrap_words.ensures.1, c.word_start-start-2.ensures.value, c.begun-self.ensures) refl),
      λ some. front-wraps e c.args.blanks text fonts end c.requires.fonts c.requires.plain some c.requires.room c.requires.fits none next.fits next.within next.value,
    )

pub returns-clause-room : goal.returns-clause-room
returns-clause-room g c =
    let text = c.args.text.now in
    let fonts = c.args.fonts.now in
    let end = c.front_of_next_row-end.result in
    let within = c.front_of_next_row-end.ensures.within in
    let some : length (take end text) ≡ end = length-take-le end text within in
    let own : length (take end fonts) ≡ end = length-take-le end fonts (omega (arith, within, c.requires.fonts)) in
    let size = in-length (take end text) (take end fonts) (own ∙ sym some) in
    let new = ap (λ (t : Sheet). length t.cells) c.wrap_words.ensures.1 in
    omega (arith, new, size, some, c.requires.room, within)
