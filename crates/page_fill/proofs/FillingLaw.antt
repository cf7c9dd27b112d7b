-- The steps of filling lay what its definition says: of groups of words, and of what is between them.
use Rattle.std.proofs.Common.{◌≡◌, ℕ, ◌-◌, ◌==◌, Bool, true, false, List, [], ◌∷◌, ◌++◌, length, replicate, Option, None, Some, inl, inr, refl, subst, sym, ap, ◌∙◌, append-nil, arith}
use Rattle.std.specs.Prelude.{if◌then◌else◌}
use Rattle.std.proofs.lemmas.Bool.{cases_Bool}
use Rattle.page_core_base.specs.declared.cells.Font.{Font}
use Rattle.page_core_base.specs.declared.pieces.Piece.{Piece}
use Rattle.page_core_base.specs.declared.pieces.Piece.TheVariants.{Text, Glyph, Char, Tab, Blank, Glue, Split, Break, RowEnd, Para, Space, Indent, Literal, Tag, TagEnd, Heading, Column}
use Rattle.page_core_base.specs.declared.places.Place.{Place}
use Rattle.page_core_base.specs.Messages.{Message}
use Rattle.page_core_base.specs.Rows.{Laid, nothing, join, seq, Item, shown, noted}
use Rattle.page_fill.specs.declared.edges.OpenTag.{OpenTag}
use Rattle.page_fill.specs.declared.edges.FillEdge.{FillEdge}
use Rattle.page_fill.specs.machine.Fill.{laid_piece, on_sheet, opening, tab, fixed_tab, to_stop, ended, paragraph, spaced, row_ended, heading, headed, without_tag}
use Rattle.page_fill.specs.Words.{no_word, cell_content, RowWords, and_then, words_laid, content_laid, after_cell}
use Rattle.page_fill.specs.machine.Fill as fill
use Rattle.page_fill_rows.specs.OpenRows.{over}
use Rattle.page_fill_cells.specs.Cells.{blank}
use Rattle.page_fill_rows.specs.machine.Sheets.{broken, empty_rows}
use Rattle.page_fill.proofs.MarkedPieces.{Mark, letters_of, opening_marks, run, letters-run, opening-run, run-literal, with_word}
use Rattle.page_fill.proofs.MarkedPieces as marks
use Rattle.page_fill.specs.Filled.{CellOrNote}
use Rattle.page_fill_rows.specs.laws.Views.{IsHeld}
use Rattle.page_fill.specs.laws.Views.{is_sound}
use Rattle.page_fill.specs.machine.Items.{laid_items, laid_items-append}
use Rattle.page_fill.specs.Filling.{Group, words, other, is_of_words, in_front, groups, row_end, blank_rows, after_tag, tag_end, stop_content, other_laid, groups_laid, filled}
use Rattle.page_fill.proofs.SoundWords.{piece-sound}
use Rattle.page_fill.proofs.WordRunLemmas.{piece-held, opening-held}
use Rattle.page_fill.proofs.FilledWords.{marks_of, cell-marks, and-then-marks, edge-run, are_items_of_words, words-law}

both : (b : Bool) (x y x' y' : Laid FillEdge) → x ≡ x' → y ≡ y' → (if b then x else y) ≡ (if b then x' else y')
both true x y x' y' first second = first
both false x y x' y' first second = second

choice : (b : Bool) (z x y : Laid FillEdge) → (b ≡ true → z ≡ x) → (b ≡ false → z ≡ y) → z ≡ (if b then x else y)
choice true z x y first second = first refl
choice false z x y first second = second refl

-- no word
abbrev no_more : RowWords
no_more = record { first = []; later = [] }

-- ---- breaks

row-end : (e : FillEdge) → ended e ≡ row_end e
unfolding ended broken
row-end e = elim (cases_Bool (length e.sheet.cells == 0)) [ inl z ↦ rw z refl | inr z ↦ rw z refl ]

spaced-law : (e : FillEdge) (n : ℕ) → spaced e n ≡ seq (row_end e) (λ f. blank_rows f n)
unfolding spaced empty_rows
spaced-law e n = ap (λ (l : Laid FillEdge). seq l (λ f. blank_rows f n)) (row-end e)

paragraph-law : (e : FillEdge) (n : ℕ) → laid_piece e (Para n) ≡ other_laid e (Para n)
unfolding laid_piece other_laid paragraph empty_rows
paragraph-law e n = ap (λ (l : Laid FillEdge). seq l (λ f. blank_rows f (if f.sheet.heading then 0 else n - f.sheet.blank_rows))) (row-end e)

row_ended-law : (e : FillEdge) → laid_piece e RowEnd ≡ other_laid e RowEnd
unfolding laid_piece other_laid row_ended
row_ended-law e = both (length e.sheet.cells == 0) (spaced e 1) (ended e) (seq (row_end e) (λ f. blank_rows f 1)) (row_end e) (spaced-law e 1) (row-end e)

heading-law : (e : FillEdge) → laid_piece e Heading ≡ other_laid e Heading
unfolding laid_piece other_laid heading
heading-law e = ap (λ (l : Laid FillEdge). over l (λ f. if length e.sheet.cells == 0 then f else on_sheet f (headed f.sheet))) (row-end e)

-- ---- tags

after_tag-law : (e : FillEdge) (t : OpenTag) → fill.after_tag e t ≡ after_tag e t
after_tag-law e t = grind (arith, row-end)

tag-law : (e : FillEdge) (tag : Option OpenTag) → fill.tag_ended (without_tag e) tag ≡ tag_end e None tag
tag-law e None = row-end (without_tag e)
tag-law e (Some t) =
    ap (λ (l : Laid FillEdge). if e.sheet.tag_begun then l else nothing (record (without_tag e) { word = no_word })) (after_tag-law (without_tag e) t)

tag_end-law : (e : FillEdge) (set_in : Option ℕ) → fill.tag_end e set_in ≡ tag_end e set_in e.tag
tag_end-law e None = tag-law e e.tag
tag_end-law e (Some blanks) = refl

-- ---- tabs

content-law : (e : FillEdge) (place : Place) (ms : List Mark) (content : List CellOrNote) → ms ≡ marks_of content → IsHeld e.sheet
    → over (run e.sheet (opening_marks e.sheet.literal (length e.sheet.cells == 0) e.word place ++ ms)) (with_word e (after_cell e.sheet.literal e.word)) ≡ content_laid e place content
unfolding content_laid
content-law e place ms content is h =
    let literal = e.sheet.literal in
    let empty = length e.sheet.cells == 0 in
    let w = after_cell e.sheet.literal e.word in
    let front = opening_marks literal empty e.word place ++ ms in
    ap (λ l. over (run e.sheet l) (with_word e w)) (sym (append-nil front) ∙ and-then-marks literal empty e.word place ms content no_more is)
    ∙ edge-run e w (and_then literal empty e.word place content no_more) h

opening-law : (e : FillEdge) (place : Place) → IsHeld e.sheet → opening e place ≡ content_laid e place []
opening-law e place h =
    let ms = opening_marks e.sheet.literal (length e.sheet.cells == 0) e.word place in
    opening-run e (length e.sheet.cells == 0) place refl
    ∙ (ap (λ l. over (run e.sheet l) (with_word e (after_cell e.sheet.literal e.word))) (sym (append-nil ms)) ∙ content-law e place [] [] refl h)

opening-joined : (e : FillEdge) (place : Place) → (opening e place).edge.word.is_joined ≡ true
unfolding opening
opening-joined e place = elim (cases_Bool e.word.is_joined) [ inl j ↦ rw j refl | inr j ↦ rw j refl ]

opening-literal : (e : FillEdge) (place : Place) → (opening e place).edge.sheet.literal ≡ e.sheet.literal
opening-literal e place =
    let ms = opening_marks e.sheet.literal (length e.sheet.cells == 0) e.word place in
    ap (λ (l : Laid FillEdge). l.edge.sheet.literal) (opening-run e (length e.sheet.cells == 0) place refl) ∙ run-literal e.sheet ms

fixed-law : (f : FillEdge) (place : Place) → f.word.is_joined ≡ true → IsHeld f.sheet → fixed_tab f place ≡ content_laid f place (stop_content f.sheet.cells place)
fixed-law f place j h =
    let cells = replicate (to_stop f.sheet.cells) blank in
    let ms = letters_of place cells in
    let runs : over (run f.sheet (opening_marks f.sheet.literal (length f.sheet.cells == 0) f.word place ++ ms)) (with_word f (after_cell f.sheet.literal f.word)) ≡ over (run f.sheet ms) (on_sheet f) = rw j refl in
    ap (λ l. over l (on_sheet f)) (letters-run f.sheet cells place) ∙ (sym runs ∙ content-law f place ms (cell_content place cells) (cell-marks place cells) h)

-- ---- pieces

one-item : (e : FillEdge) (p : Piece (List ℕ)) → laid_items e (shown p ∷ []) ≡ laid_piece e p
unfolding laid_items
one-item e p = rw (append-nil (laid_piece e p).rows, append-nil (laid_piece e p).notes) refl

one-law : (e : FillEdge) (p : Piece (List ℕ)) → IsHeld e.sheet → is_sound e.word ≡ true → marks.is_of_words e.sheet.literal p ≡ true → laid_piece e p ≡ words_laid e (shown p ∷ [])
one-law e p h s k = sym (one-item e p) ∙ words-law e (shown p ∷ []) h s (rw k refl)

kept-tab : (e : FillEdge) (font : Font) (place : Place) → e.sheet.literal ≡ true → IsHeld e.sheet
    → laid_piece e (Tab font place) ≡ seq (content_laid e place []) (λ f. content_laid f place (stop_content f.sheet.cells place))
unfolding laid_piece tab
kept-tab e font place l h = grind (arith, opening-literal, choice, fixed-law, opening-joined, opening-held, opening-law)

tab-law : (e : FillEdge) (font : Font) (place : Place) → IsHeld e.sheet → is_sound e.word ≡ true → laid_piece e (Tab font place) ≡ other_laid e (Tab font place)
unfolding other_laid
tab-law e font place h s = grind (arith, choice, kept-tab, one-law)

other-law : (e : FillEdge) (p : Piece (List ℕ)) → IsHeld e.sheet → is_sound e.word ≡ true → laid_piece e p ≡ other_laid e p
unfolding laid_piece other_laid
other-law e (Text bytes font place) h s = one-law e (Text bytes font place) h s refl
other-law e (Glyph name font place) h s = one-law e (Glyph name font place) h s refl
other-law e (Char c font place) h s = one-law e (Char c font place) h s refl
other-law e (Tab font place) h s = tab-law e font place h s
other-law e (Blank count has_tab) h s = one-law e (Blank count has_tab) h s refl
other-law e Glue h s = one-law e Glue h s refl
other-law e Split h s = one-law e Split h s refl
other-law e Break h s = row-end e
other-law e RowEnd h s = row_ended-law e
other-law e (Para n) h s = paragraph-law e n
other-law e (Space n) h s = spaced-law e n
other-law e (Indent first rest) h s = refl
other-law e (Literal b) h s = refl
other-law e (Tag hang form) h s = refl
other-law e TagEnd h s = tag_end-law e e.set_in
other-law e Heading h s = heading-law e
other-law e (Column n) h s = refl

-- ---- groups

abbrev items_of : List Group → List Item
items_of [] = []
items_of (words items ∷ more) = items ++ items_of more
items_of (other p ∷ more) = shown p ∷ items_of more

abbrev AreOfWords : List Item → Type 0
AreOfWords [] = Unit {0}
AreOfWords (noted m ∷ more) = AreOfWords more
AreOfWords (shown p ∷ more) = (is_of_words p ≡ true) × AreOfWords more

abbrev AreGrouped : List Group → Type 0
AreGrouped [] = Unit {0}
AreGrouped (words items ∷ more) = AreOfWords items × AreGrouped more
AreGrouped (other p ∷ more) = AreGrouped more

front-items : (item : Item) (gs : List Group) → items_of (in_front item gs) ≡ item ∷ items_of gs
front-items item [] = refl
front-items item (words items ∷ more) = refl
front-items item (other p ∷ more) = refl

groups-items : (items : List Item) → items_of (groups items) ≡ items
unfolding groups
groups-items [] = refl
groups-items (noted m ∷ items) = front-items (noted m) (groups items) ∙ ap (λ l. noted m ∷ l) (groups-items items)
groups-items (shown p ∷ items) = grind (arith, front-items, groups-items items)

front-note : (m : Message) (gs : List Group) → AreGrouped gs → AreGrouped (in_front (noted m) gs)
front-note m [] k = (tt, tt)
front-note m (words items ∷ more) k = k
front-note m (other p ∷ more) k = (tt, k)

front-piece : (p : Piece (List ℕ)) (gs : List Group) → is_of_words p ≡ true → AreGrouped gs → AreGrouped (in_front (shown p) gs)
front-piece p [] w k = ((w, tt), tt)
front-piece p (words items ∷ more) w k = ((w, k.0), k.1)
front-piece p (other q ∷ more) w k = ((w, tt), k)

groups-grouped : (items : List Item) → AreGrouped (groups items)
unfolding groups
groups-grouped [] = tt
groups-grouped (noted m ∷ items) = front-note m (groups items) (groups-grouped items)
groups-grouped (shown p ∷ items) = grind (arith, front-piece, groups-grouped items)

piece-of-words : (literal : Bool) (p : Piece (List ℕ)) → is_of_words p ≡ true → marks.is_of_words literal p ≡ true
piece-of-words literal (Text bytes font place) w = refl
piece-of-words literal (Glyph name font place) w = refl
piece-of-words literal (Char c font place) w = refl
piece-of-words literal (Blank count has_tab) w = refl
piece-of-words literal Glue w = refl
piece-of-words literal Split w = refl
piece-of-words literal (Tab font place) w = cc
piece-of-words literal Break w = cc
piece-of-words literal RowEnd w = cc
piece-of-words literal (Para n) w = cc
piece-of-words literal (Space n) w = cc
piece-of-words literal (Indent first rest) w = cc
piece-of-words literal (Literal b) w = cc
piece-of-words literal (Tag hang form) w = cc
piece-of-words literal TagEnd w = cc
piece-of-words literal Heading w = cc
piece-of-words literal (Column n) w = cc

items-of-words : (literal : Bool) (items : List Item) → AreOfWords items → are_items_of_words literal items ≡ true
items-of-words literal [] k = refl
items-of-words literal (noted m ∷ more) k = items-of-words literal more k
items-of-words literal (shown p ∷ more) k = rw (piece-of-words literal p k.0) (items-of-words literal more k.1)

items-held : (e : FillEdge) (items : List Item) → IsHeld e.sheet → IsHeld (laid_items e items).edge.sheet
unfolding laid_items
items-held e [] h = h
items-held e (noted m ∷ more) h = items-held e more h
items-held e (shown p ∷ more) h = items-held (laid_piece e p).edge more (piece-held e p h)

items-sound : (e : FillEdge) (items : List Item) → is_sound e.word ≡ true → is_sound (laid_items e items).edge.word ≡ true
unfolding laid_items
items-sound e [] s = s
items-sound e (noted m ∷ more) s = items-sound e more s
items-sound e (shown p ∷ more) s = items-sound (laid_piece e p).edge more (piece-sound e p s)

groups-law : (e : FillEdge) (gs : List Group) → AreGrouped gs → IsHeld e.sheet → is_sound e.word ≡ true → laid_items e (items_of gs) ≡ groups_laid e gs
unfolding laid_items groups_laid
groups-law e [] k h s = refl
groups-law e (words items ∷ more) k h s =
    let l = laid_items e items in
    laid_items-append e items (items_of more)
    ∙ (ap (λ (m : Laid FillEdge). join l m) (groups-law l.edge more k.1 (items-held e items h) (items-sound e items s))
    ∙ ap (λ (m : Laid FillEdge). seq m (λ f. groups_laid f more)) (words-law e items h s (items-of-words e.sheet.literal items k.0)))
groups-law e (other p ∷ more) k h s =
    let l = laid_piece e p in
    ap (λ (m : Laid FillEdge). join l m) (groups-law l.edge more k (piece-held e p h) (piece-sound e p s))
    ∙ ap (λ (m : Laid FillEdge). seq m (λ f. groups_laid f more)) (other-law e p h s)

pub steps-law : (e : FillEdge) (items : List Item) → IsHeld e.sheet → is_sound e.word ≡ true → laid_items e items ≡ filled e items
steps-law e items h s = ap (laid_items e) (sym (groups-items items)) ∙ groups-law e (groups items) (groups-grouped items) h s

pub cut-law : (e : FillEdge) (above below : List Item) → IsHeld e.sheet → is_sound e.word ≡ true
    → filled e (above ++ below) ≡ join (filled e above) (filled (filled e above).edge below)
cut-law e above below h s =
    let l = laid_items e above in
    sym (steps-law e (above ++ below) h s)
    ∙ (laid_items-append e above below
    ∙ (ap (λ (m : Laid FillEdge). join l m) (steps-law l.edge below (items-held e above h) (items-sound e above s))
    ∙ ap (λ (m : Laid FillEdge). seq m (λ f. filled f below)) (steps-law e above h s)))

-- ---- what an edge keeps

pub held-law : (e : FillEdge) (items : List Item) → IsHeld e.sheet → is_sound e.word ≡ true → IsHeld (filled e items).edge.sheet × (is_sound (filled e items).edge.word ≡ true)
held-law e items h s =
    let Keeps : Laid FillEdge → Type 0 = λ l. IsHeld l.edge.sheet × (is_sound l.edge.word ≡ true) in
    subst Keeps (steps-law e items h s) (items-held e items h, items-sound e items s)

one-end : (e : FillEdge) → laid_piece e Break ≡ ended e
unfolding laid_piece
one-end e = refl

pub end-law : (e : FillEdge) → IsHeld e.sheet → is_sound e.word ≡ true
    → (ended e ≡ row_end e) × (IsHeld (row_end e).edge.sheet × (is_sound (row_end e).edge.word ≡ true))
end-law e h s = grind (arith, row-end, one-end, piece-held, piece-sound)
