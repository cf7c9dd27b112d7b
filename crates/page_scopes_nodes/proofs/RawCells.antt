-- The characters of a raw line, one after another: helpers of proofs.
use Rattle.std.proofs.Common.{◌≡◌, ℕ, ◌+◌, ◌-◌, ◌<◌, ◌≤◌, ◌==◌, true, false, List, [], ◌∷◌, ◌++◌, length, get_or, take, drop, refl, ap, sym, ◌∙◌, arith, length-drop}
use Rattle.std.proofs.lemmas.List.{take_more, drop_more, get_or-drop}
use Rattle.page_core_base.specs.Rows.{shown}
use Rattle.page_core_base.specs.declared.cells.Font.{Font}
use Rattle.page_core_base.specs.declared.pieces.Piece.TheVariants as pieces
use Rattle.page_core_base.specs.declared.places.Place.{Place}
use Rattle.page_scopes_nodes.specs.Leaves.{cells_after, part_items}

more_by : (text : List ℕ) (start n : ℕ) → start + n < length text
    → take (n + 1) (drop start text) ≡ take n (drop start text) ++ get_or text (start + n) 0 ∷ []
more_by text start n h =
    take_more (drop start text) n 0 (omega (arith, length-drop start text))
    ∙ ap (λ (b : ℕ). take n (drop start text) ++ b ∷ []) (get_or-drop start text n 0)

part_more : (text : List ℕ) (start i : ℕ) → start ≤ i → i < length text
    → take (i + 1 - start) (drop start text) ≡ take (i - start) (drop start text) ++ get_or text i 0 ∷ []
part_more text start i h k =
    let n = i - start in
    let a : start + n ≡ i = omega arith in
    let b : i + 1 - start ≡ n + 1 = omega arith in
    let m : start + n < length text = omega arith in
    ap (λ (j : ℕ). take j (drop start text)) b ∙ more_by text start n m ∙ ap (λ (j : ℕ). take n (drop start text) ++ get_or text j 0 ∷ []) a

-- a character goes to the open part
pub plain_step : (place : Place) (font : Font) (text : List ℕ) (start i : ℕ) → start ≤ i → i < length text → (get_or text i 0 == 9) ≡ false
    → cells_after place font (take (i - start) (drop start text)) (drop i text)
    ≡ cells_after place font (take (i + 1 - start) (drop start text)) (drop (i + 1) text)
plain_step place font text start i h k e =
    let part = take (i - start) (drop start text) in
    ap (cells_after place font part) (drop_more text i 0 k)
    ∙ (rw e refl)
    ∙ ap (λ (xs : List ℕ). cells_after place font xs (drop (i + 1) text)) (sym (part_more text start i h k))

-- a tab ends it
pub tab_step : (place : Place) (font : Font) (part text : List ℕ) (i : ℕ) → i < length text → (get_or text i 0 == 9) ≡ true
    → cells_after place font part (drop i text)
    ≡ part_items place font part
    ++ (shown (pieces.Tab font place) ∷ cells_after place font (take (i + 1 - (i + 1)) (drop (i + 1) text)) (drop (i + 1) text))
tab_step place font part text i k e =
    let z : i + 1 - (i + 1) ≡ 0 = omega arith in
    ap (cells_after place font part) (drop_more text i 0 k) ∙ (rw (e, z) refl)
