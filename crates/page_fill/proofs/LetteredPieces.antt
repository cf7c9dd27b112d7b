-- What the steps lay of one piece is filling in words; and so is what a filler lays piece by piece.
use Rattle.std.proofs.Common.{◌≡◌, ℕ, zero, suc, Bool, true, List, [], ◌∷◌, map, replicate, Option, None, Some, Result, Ok, Err, OnOk, refl, sym, ap, ◌∙◌, arith, ◌+◌, ◌≤◌, false, not, ◌&&◌, ◌==◌, ◌++◌, length, length-append}
use Rattle.std.specs.Prelude.{if◌then◌else◌}
use Rattle.page_core_base.specs.declared.faults.Fault.{Fault}
use Rattle.page_core_base.specs.Rows.{Laid, join, seq, Item, shown, noted, nothing}
use Rattle.page_core_base.specs.declared.pieces.Piece.{Piece}
use Rattle.page_fill_rows.specs.laws.Views.{IsHeld}
use Rattle.page_fill.specs.laws.Views.{is_sound}
use Rattle.page_fill.specs.declared.edges.FillEdge.{FillEdge}
use Rattle.page_fill.specs.machine.Fill.{laid_piece, laid, ended, on_sheet, opening, text}
use Rattle.page_fill.specs.machine.Items as steps
use Rattle.page_fill.specs.machine.Words.{laid_items}
use Rattle.page_fill.specs.Filling.{filled, row_end}
use Rattle.page_fill.proofs.FillingLaw.{steps-law, held-law, end-law}
use Rattle.page_fill.proofs.MarkedPieces.{seq-nothing}
use Rattle.page_fill.proofs.WordRunLemmas.{piece-held}
use Rattle.page_fill.proofs.SoundWords.{piece-sound}
use Rattle.std.specs.List.{list_all}
use Rattle.std.proofs.lemmas.List.{length-replicate, map-append}
use Rattle.std.proofs.lemmas.List.Folds.{list_all-append}
use Rattle.std.proofs.lemmas.Bool.Decides.{nat_tests}
use Rattle.page_core_base.specs.declared.cells.Cell.{Cell}
use Rattle.page_core_base.specs.declared.cells.Font.{Font}
use Rattle.page_core_base.specs.declared.pieces.Piece.TheVariants.{Text, Char, Blank}
use Rattle.page_core_base.specs.declared.places.Place.{Place}
use Rattle.page_core_base.specs.declared.limits.TheConstants.{CELLS}
use Rattle.page_core_base.specs.laws.Views.{join_assoc, is_lettered, is_lettered_word, is_word, letters_of, word_letters, is_printable, is_printable_ascii}
use Rattle.page_fill_cells.specs.Cells.{cell_of, cells_of, blank}
use Rattle.page_fill_rows.specs.machine.Plain.{has_word_room, spaced_by}
use Rattle.page_fill_rows.specs.OpenRows.{Sheet, over}
use Rattle.page_fill_rows.specs.machine.Sheets.{letters}
use Rattle.page_fill_rows.proofs.WrapLemmas.{letters-anywhere, letters-length, space-anywhere, space-length, both}
use Rattle.page_fill_rows.proofs.CharacterLemmas.{letters-append}
use Rattle.page_fill_rows.proofs.PlainLemmas.{are_plain, characters_of-plain}
use Rattle.page_fill.specs.Words.{begun_word}
use Rattle.page_fill.proofs.FilledWords.{goes-on, character-text, opening-fits, opening-one, text-plain}

-- ---- one piece

one-item : (e : FillEdge) (p : Piece (List ℕ)) → steps.laid_items e (shown p ∷ []) ≡ laid_piece e p
unfolding steps.laid_items
one-item e p = seq-nothing (laid_piece e p)

pub piece-law : (e : FillEdge) (p : Piece (List ℕ)) → IsHeld e.sheet → is_sound e.word ≡ true → laid_piece e p ≡ filled e (shown p ∷ [])
piece-law e p h s = sym (one-item e p) ∙ steps-law e (shown p ∷ []) h s

pub piece-kept : (e : FillEdge) (p : Piece (List ℕ)) → IsHeld e.sheet × (is_sound e.word ≡ true) → IsHeld (laid_piece e p).edge.sheet × (is_sound (laid_piece e p).edge.word ≡ true)
piece-kept e p k = (piece-held e p k.0, piece-sound e p k.1)

-- ---- the edge of a filler that goes on

abbrev edge_or : FillEdge → Option FillEdge → FillEdge
edge_or e None = e
edge_or e (Some f) = f

pub same-edge : (is_going : Bool) (held e : FillEdge) → is_going ≡ true → (if is_going then Some held else None) ≡ Some e → held ≡ e
same-edge is_going held e goes is = ap (edge_or held) (rw goes at is)

pub piece-at : (is_going : Bool) (held e : FillEdge) (p : Piece (List ℕ)) → is_going ≡ true → (is_going ≡ true → IsHeld held.sheet × (is_sound held.word ≡ true))
    → (if is_going then Some held else None) ≡ Some e → laid_piece held p ≡ filled e (shown p ∷ [])
piece-at is_going held e p goes kept is = grind (arith, piece-law, same-edge)

pub edge-at : (res : Result (Unit {0}) Fault) (is_going : Bool) (new held e : FillEdge) (p : Piece (List ℕ)) → is_going ≡ true
    → (is_going ≡ true → IsHeld held.sheet × (is_sound held.word ≡ true)) → (if is_going then Some held else None) ≡ Some e
    → new ≡ (laid_piece held p).edge → OnOk res ((if is_going then Some new else None) ≡ Some (filled e (shown p ∷ [])).edge)
edge-at (Ok x) is_going new held e p goes kept is next = rw (goes, next, piece-at is_going held e p goes kept is) refl
edge-at (Err x) is_going new held e p goes kept is next = tt

pub end-at : (is_going : Bool) (held e : FillEdge) → is_going ≡ true → (is_going ≡ true → IsHeld held.sheet × (is_sound held.word ≡ true))
    → (if is_going then Some held else None) ≡ Some e → ended held ≡ row_end e
end-at is_going held e goes kept is = grind (arith, end-law, same-edge)

-- ---- a list of pieces

laid-pieces : (e : FillEdge) (pieces : List (Piece (List ℕ))) → steps.laid_items e (map shown pieces) ≡ laid e pieces
unfolding laid steps.laid_items
laid-pieces e [] = refl
laid-pieces e (p ∷ pieces) = ap (λ (l : Laid FillEdge). seq (laid_piece e p) (λ _. l)) (laid-pieces (laid_piece e p).edge pieces)

-- one piece again and again
again-items : (times : ℕ) (p : Piece (List ℕ)) → map shown (replicate times p) ≡ replicate times (shown p)
again-items zero p = refl
again-items (suc times) p = ap (λ (items : List Item). shown p ∷ items) (again-items times p)

pieces-law : (e : FillEdge) (pieces : List (Piece (List ℕ))) → IsHeld e.sheet → is_sound e.word ≡ true → laid e pieces ≡ filled e (map shown pieces)
pieces-law e pieces h s = sym (laid-pieces e pieces) ∙ steps-law e (map shown pieces) h s

pub pieces-at : (is_going : Bool) (held e : FillEdge) (pieces : List (Piece (List ℕ))) → is_going ≡ true → (is_going ≡ true → IsHeld held.sheet × (is_sound held.word ≡ true))
    → (if is_going then Some held else None) ≡ Some e → laid held pieces ≡ filled e (map shown pieces)
pieces-at is_going held e pieces goes kept is = grind (arith, pieces-law, same-edge)

pub pieces-edge : (res : Result (Unit {0}) Fault) (is_going : Bool) (new held e : FillEdge) (pieces : List (Piece (List ℕ))) → is_going ≡ true
    → (is_going ≡ true → IsHeld held.sheet × (is_sound held.word ≡ true)) → (if is_going then Some held else None) ≡ Some e
    → new ≡ (laid held pieces).edge → OnOk res ((if is_going then Some new else None) ≡ Some (filled e (map shown pieces)).edge)
pieces-edge (Ok x) is_going new held e pieces goes kept is next = rw (goes, next, pieces-at is_going held e pieces goes kept is) refl
pieces-edge (Err x) is_going new held e pieces goes kept is next = tt

again-law : (e : FillEdge) (times : ℕ) (p : Piece (List ℕ)) → IsHeld e.sheet → is_sound e.word ≡ true
    → laid e (replicate times p) ≡ filled e (replicate times (shown p))
again-law e times p h s = pieces-law e (replicate times p) h s ∙ ap (filled e) (again-items times p)

pub again-kept : (e : FillEdge) (times : ℕ) (p : Piece (List ℕ)) → IsHeld e.sheet × (is_sound e.word ≡ true)
    → IsHeld (laid e (replicate times p)).edge.sheet × (is_sound (laid e (replicate times p)).edge.word ≡ true)
again-kept e times p k = rw (again-law e times p k.0 k.1) (held-law e (replicate times (shown p)) k.0 k.1)

pub again-at : (is_going : Bool) (held e : FillEdge) (times : ℕ) (p : Piece (List ℕ)) → is_going ≡ true → (is_going ≡ true → IsHeld held.sheet × (is_sound held.word ≡ true))
    → (if is_going then Some held else None) ≡ Some e → laid held (replicate times p) ≡ filled e (replicate times (shown p))
again-at is_going held e times p goes kept is = grind (arith, again-law, same-edge)

pub again-edge : (res : Result (Unit {0}) Fault) (is_going : Bool) (new held e : FillEdge) (times : ℕ) (p : Piece (List ℕ)) → is_going ≡ true
    → (is_going ≡ true → IsHeld held.sheet × (is_sound held.word ≡ true)) → (if is_going then Some held else None) ≡ Some e
    → new ≡ (laid held (replicate times p)).edge → OnOk res ((if is_going then Some new else None) ≡ Some (filled e (replicate times (shown p))).edge)
again-edge (Ok x) is_going new held e times p goes kept is next = rw (goes, next, again-at is_going held e times p goes kept is) refl
again-edge (Err x) is_going new held e times p goes kept is next = tt

-- ---- piece by piece

by-piece : (e : FillEdge) (items : List Item) → IsHeld e.sheet → is_sound e.word ≡ true → laid_items e items ≡ steps.laid_items e items
unfolding laid_items steps.laid_items
by-piece e [] h s = refl
by-piece e (noted m ∷ items) h s = ap (λ (l : Laid FillEdge). record { rows = l.rows; notes = m ∷ l.notes; edge = l.edge }) (by-piece e items h s)
by-piece e (shown p ∷ items) h s =
    let l = laid_piece e p in
    ap (λ (l : Laid FillEdge). seq l (λ f. laid_items f items)) (sym (piece-law e p h s))
    ∙ ap (λ (m : Laid FillEdge). join l m) (by-piece l.edge items (piece-held e p h) (piece-sound e p s))

pub items-law : (e : FillEdge) (items : List Item) → IsHeld e.sheet → is_sound e.word ≡ true → laid_items e items ≡ filled e items
items-law e items h s = by-piece e items h s ∙ steps-law e items h s

-- ---- The pieces of a word of letters: what they lay, one after another, is what their cells lay.

-- the characters of cells
abbrev pub bytes_of : List Cell → List ℕ
bytes_of cells = map (λ cell. cell.c) cells

text-bytes : (font : Font) (text : List ℕ) → bytes_of (cells_of font text) ≡ text
text-bytes font [] = refl
text-bytes font (b ∷ text) = ap (λ (bytes : List ℕ). b ∷ bytes) (text-bytes font text)

pub text-printable : (font : Font) (text : List ℕ) → are_plain (cells_of font text) ≡ true → is_printable_ascii text ≡ true
text-printable font [] plain = refl
text-printable font (b ∷ text) plain =
    let first : is_printable b ≡ true = grind (arith, plain) in
    let others : are_plain (cells_of font text) ≡ true = grind (arith, plain) in
    rw first (text-printable font text others)

-- ---- one piece

-- it has bytes, none of which is a blank, and lays its cells where it is
record IsLettered (p : Piece (List ℕ)) : Type 0 where
  pub word : is_word (bytes_of (letters_of p)) ≡ true
  pub place : Place
  pub laid : (e : FillEdge) → are_plain (letters_of p) ≡ true
      → laid_piece e p ≡ join (opening e place) (over (letters (opening e place).edge.sheet (letters_of p) place) (on_sheet (opening e place).edge))

text-laid : (e : FillEdge) (bytes : List ℕ) (font : Font) (place : Place) → is_word bytes ≡ true → are_plain (cells_of font bytes) ≡ true
    → laid_piece e (Text bytes font place)
    ≡ join (opening e place) (over (letters (opening e place).edge.sheet (cells_of font bytes) place) (on_sheet (opening e place).edge))
unfolding laid_piece
text-laid e bytes font place word plain = grind (arith, text-printable, characters_of-plain, text-plain)

char-laid : (e : FillEdge) (c : ℕ) (font : Font) (place : Place) → are_plain (cell_of font c ∷ []) ≡ true
    → laid_piece e (Char c font place)
    ≡ join (opening e place) (over (letters (opening e place).edge.sheet (cell_of font c ∷ []) place) (on_sheet (opening e place).edge))
unfolding laid_piece
char-laid e c font place plain = grind (arith, character-text, text-plain, text-printable)

lettered : (p : Piece (List ℕ)) → is_lettered p ≡ true → IsLettered p
lettered (Text bytes font place) is = record { word = rw (text-bytes font bytes) is; place = place; laid = λ e plain. text-laid e bytes font place is plain }
lettered (Char c font place) is = record { word = grind (arith, nat_tests, is); place = place; laid = λ e plain. char-laid e c font place plain }
lettered _ is = absurd (grind (arith, is))

-- ---- a word

-- its bytes
abbrev pub word_bytes : List (Piece (List ℕ)) → List ℕ
word_bytes word = bytes_of (word_letters word)

pieces-letters : (word : List (Piece (List ℕ))) → list_all is_lettered word ≡ true → list_all (λ b. not (b == 32)) (word_bytes word) ≡ true
pieces-letters [] all = refl
pieces-letters (p ∷ word) all =
    let is : is_lettered p ≡ true = grind (arith, all) in
    let first : list_all (λ b. not (b == 32)) (bytes_of (letters_of p)) ≡ true = let w = (lettered p is).word in grind (arith, w) in
    let others = pieces-letters word (grind (arith, all)) in
    rw (map-append (λ (cell : Cell). cell.c) (letters_of p) (word_letters word))
    (list_all-append (λ b. not (b == 32)) (bytes_of (letters_of p)) (word_bytes word) ∙ rw (first, others) refl)

pub word-is : (word : List (Piece (List ℕ))) → is_lettered_word word ≡ true → is_word (word_bytes word) ≡ true
word-is [] is = absurd (grind (arith, nat_tests, is))
word-is (p ∷ word) is =
    let all : list_all is_lettered (p ∷ word) ≡ true = grind (arith, is) in
    let one : is_lettered p ≡ true = grind (arith, is) in
    let first = (lettered p one).word in
    let letters = pieces-letters (p ∷ word) all in
    let len : length (word_bytes (p ∷ word)) ≡ length (bytes_of (letters_of p)) + length (word_bytes word) =
    ap (λ (bytes : List ℕ). length bytes) (map-append (λ (cell : Cell). cell.c) (letters_of p) (word_letters word)) ∙ length-append (bytes_of (letters_of p)) (word_bytes word) in
    grind (arith, nat_tests, first, letters, len)

parts-of-plain : (front back : List Cell) → are_plain (front ++ back) ≡ true → (are_plain front && are_plain back) ≡ true
parts-of-plain front back plain = sym (list_all-append (λ (cell : Cell). is_printable cell.c) front back) ∙ plain

pub front-is-plain : (front back : List Cell) → are_plain (front ++ back) ≡ true → are_plain front ≡ true
front-is-plain front back plain = let both = parts-of-plain front back plain in grind (arith, both)

pub back-is-plain : (front back : List Cell) → are_plain (front ++ back) ≡ true → are_plain back ≡ true
back-is-plain front back plain = let both = parts-of-plain front back plain in grind (arith, both)

-- ---- what they lay

-- pieces of the row's last word
pieces-go-on : (e : FillEdge) (word : List (Piece (List ℕ))) (place : Place) → e.word.is_joined ≡ true → list_all is_lettered word ≡ true
    → are_plain (word_letters word) ≡ true → length e.sheet.cells + length (word_letters word) ≤ CELLS
    → laid e word ≡ over (letters e.sheet (word_letters word) place) (on_sheet e)
unfolding laid letters
pieces-go-on e [] place joined all plain room = refl
pieces-go-on e (p ∷ word) place joined all plain room =
    let is : is_lettered p ≡ true = grind (arith, all) in
    let more : list_all is_lettered word ≡ true = grind (arith, all) in
    let l = lettered p is in
    let own = letters_of p in
    let rest = word_letters word in
    let len = length-append own rest in
    let within : length e.sheet.cells + length own ≤ CELLS = omega (arith, len, room) in
    let here : laid_piece e p ≡ over (letters e.sheet own place) (on_sheet e) =
    l.laid e (front-is-plain own rest plain)
    ∙ (rw (goes-on e l.place joined) refl
    ∙ ap (λ (m : Laid Sheet). over m (on_sheet e)) (letters-anywhere e.sheet own l.place place within)) in
    let first = letters e.sheet own place in
    let grown = letters-length e.sheet own place within in
    let f = on_sheet e first.edge in
    let others = pieces-go-on f word place joined more (back-is-plain own rest plain) (omega (arith, len, grown, room)) in
    ap (λ (m : Laid FillEdge). seq m (λ g. laid g word)) here
    ∙ (ap (λ (m : Laid FillEdge). join (over first (on_sheet e)) m) others
    ∙ ap (λ (m : Laid Sheet). over m (on_sheet e)) (sym (letters-append e.sheet own rest place)))

-- blanks wait
abbrev waiting : FillEdge → ℕ → FillEdge
waiting e n = record e { word = record { is_joined = false; is_open = false; is_placed = false; blanks = n; has_tab = false; is_reported = e.word.is_reported } }

-- a word was begun
abbrev pub begun_on : FillEdge → Sheet → FillEdge
begun_on e s = record e { sheet = s; word = begun_word false }

blank-waits : (e : FillEdge) (n : ℕ) → e.word.is_placed ≡ false → laid_piece e (Blank n false) ≡ nothing (waiting e n)
unfolding laid_piece
blank-waits e n placed = rw placed refl

-- a word after blanks that lay something, wherever they are
after-blanks : (e : FillEdge) (n : ℕ) (word : List (Piece (List ℕ))) (blanks : Laid Sheet) (place : Place) → e.word.is_placed ≡ false → is_lettered_word word ≡ true
    → are_plain (word_letters word) ≡ true → length blanks.edge.cells + length (word_letters word) ≤ CELLS
    → ((p : Place) → opening (waiting e n) p ≡ over blanks (begun_on e))
    → laid e (Blank n false ∷ word) ≡ over (join blanks (letters blanks.edge (word_letters word) place)) (begun_on e)
unfolding laid
after-blanks e n [] blanks place placed is plain room opened = absurd (grind (arith, nat_tests, is))
after-blanks e n (p ∷ word) blanks place placed is plain room opened =
    let one : is_lettered p ≡ true = grind (arith, is) in
    let more : list_all is_lettered word ≡ true = grind (arith, is) in
    let l = lettered p one in
    let own = letters_of p in
    let rest = word_letters word in
    let len = length-append own rest in
    let within : length blanks.edge.cells + length own ≤ CELLS = omega (arith, len, room) in
    let first = letters blanks.edge own place in
    let here : laid_piece (waiting e n) p ≡ over (join blanks first) (begun_on e) =
    l.laid (waiting e n) (front-is-plain own rest plain)
    ∙ (rw (opened l.place) refl
    ∙ ap (λ (m : Laid Sheet). over (join blanks m) (begun_on e)) (letters-anywhere blanks.edge own l.place place within)) in
    let grown = letters-length blanks.edge own place within in
    let others : laid (begun_on e first.edge) word ≡ over (letters first.edge rest place) (begun_on e) =
    pieces-go-on (begun_on e first.edge) word place refl more (back-is-plain own rest plain) (omega (arith, len, grown, room)) in
    rw (blank-waits e n placed)
    (ap (λ (m : Laid FillEdge). seq m (λ g. laid g word)) here
    ∙ (ap (λ (m : Laid FillEdge). join (over (join blanks first) (begun_on e)) m) others
    ∙ (ap (λ (m : Laid Sheet). over m (begun_on e)) (join_assoc blanks first (letters first.edge rest place))
    ∙ ap (λ (m : Laid Sheet). over (join blanks m) (begun_on e)) (sym (letters-append blanks.edge own rest place)))))

-- a word after one blank
pub word-laid : (e : FillEdge) (word : List (Piece (List ℕ))) (place : Place) → e.word.is_placed ≡ false → e.sheet.literal ≡ false → (length e.sheet.cells == 0) ≡ false
    → is_lettered_word word ≡ true → are_plain (word_letters word) ≡ true → length e.sheet.cells + 1 + length (word_letters word) ≤ CELLS
    → laid e (Blank 1 false ∷ word) ≡ over (both e.sheet (word_letters word) place) (begun_on e)
word-laid e word place placed filled some is plain room = grind (arith, space-length, after-blanks, opening-one, space-anywhere)

-- a word after blanks with which it has room in the row
pub word-laid-after : (e : FillEdge) (m : ℕ) (word : List (Piece (List ℕ))) (place : Place) → e.word.is_placed ≡ false → is_lettered_word word ≡ true
    → are_plain (word_letters word) ≡ true → has_word_room e.sheet (suc m) (length (word_letters word)) ≡ true
    → laid e (Blank (suc m) false ∷ word) ≡ over (letters (spaced_by e.sheet (suc m)) (word_letters word) place) (begun_on e)
word-laid-after e m word place placed is plain room =
    let within : length e.sheet.cells + suc m + length (word_letters word) ≤ CELLS = grind (arith, nat_tests, room) in
    let len : length (spaced_by e.sheet (suc m)).cells ≡ length e.sheet.cells + suc m =
    length-append e.sheet.cells (replicate (suc m) blank) ∙ ap (λ k. length e.sheet.cells + k) (length-replicate (suc m) blank) in
    after-blanks e (suc m) word (nothing (spaced_by e.sheet (suc m))) place placed is plain (omega (arith, len, within))
    (λ p. opening-fits (waiting e (suc m)) m (length (word_letters word)) p refl refl refl room)
