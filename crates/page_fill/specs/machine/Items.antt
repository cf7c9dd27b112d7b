-- The steps of filling over pieces and the messages between them. Trust needs no reading of them: page_fill says in words what they lay.
-- Source: roff(7), "Filling and adjusting".
use Rattle.std.specs.Prelude.{◌≡◌, List, [], ◌∷◌, ◌++◌, refl, ℕ, true}
use Rattle.std.proofs.Common.{◌∙◌, ap, sym}
use Rattle.page_core_base.specs.Rows.{Laid, nothing, join, seq, Item, shown, noted}
use Rattle.page_core_base.specs.laws.Views.{join_assoc, cells_in, is_lettered_word, lettered_cells, lettered_pieces}
use Rattle.page_fill.specs.declared.edges.FillEdge.{FillEdge}
use Rattle.page_fill.specs.machine.Fill as fill
use Rattle.std.specs.List.{list_all}
use Rattle.page_core_base.specs.declared.cells.Font.{Font}
use Rattle.page_core_base.specs.declared.pieces.Piece.{Piece}
use Rattle.page_fill.specs.laws.Views.{AreWords, is_in_row}
use Rattle.page_fill.specs.machine.Fill.{laid}

abbrev pub laid_item : FillEdge → Item → Laid FillEdge
laid_item f (shown piece) = fill.laid_piece f piece
laid_item f (noted message) = record { rows = []; notes = message ∷ []; edge = f }

unfoldable pub laid_items : FillEdge → List Item → Laid FillEdge
laid_items f [] = nothing f
laid_items f (item ∷ items) = seq (laid_item f item) (λ next. laid_items next items)

pub laid_items-append : (f : FillEdge) (xs ys : List Item)
    → laid_items f (xs ++ ys) ≡ join (laid_items f xs) (laid_items (laid_items f xs).edge ys)
unfolding laid_items
laid_items-append f [] ys = refl
laid_items-append f (x ∷ xs) ys =
    let l = laid_item f x in
    ap (λ m. join l m) (laid_items-append l.edge xs ys)
    ∙ sym (join_assoc l (laid_items l.edge xs) (laid_items (laid_items l.edge xs).edge ys))

-- ---- The steps of filling over words of letters that are taken at once. Trust needs no reading of it: page_fill says it in words. Source:
-- roff(7), "Filling and adjusting".

-- the pieces of words, the first of which is after so many blanks, lay this
abbrev pub LaysWords : FillEdge → ℕ → List ℕ → List Font → Laid FillEdge → Type 0
LaysWords e blanks text fonts given =
    (words : List (List (Piece (List ℕ)))) → AreWords text fonts words → is_in_row e ≡ true → given ≡ laid e (lettered_pieces blanks words)

-- these characters, each in its font, are words of letters with a blank before each
abbrev pub AreSpaced : List ℕ → List Font → List (List (Piece (List ℕ))) → Type 0
AreSpaced text fonts words = (list_all is_lettered_word words ≡ true) × (cells_in text fonts ≡ lettered_cells words)

-- so much was laid of them, and the words of another text are left, each after one blank
abbrev pub LaysUpTo : FillEdge → ℕ → List ℕ → List Font → List ℕ → List Font → Laid FillEdge → Type 0
LaysUpTo e blanks text fonts rest own given =
    (words : List (List (Piece (List ℕ)))) → AreWords text fonts words → is_in_row e ≡ true
    → (left : List (List (Piece (List ℕ)))) × AreSpaced rest own left × (is_in_row given.edge ≡ true)
    × (laid e (lettered_pieces blanks words) ≡ join given (laid given.edge (lettered_pieces 1 left)))
