-- A search in rows, one after another, and in lists of rows by their first letter.
use Rattle.std.proofs.Common.{◌≡◌, ap, sym, arith, refl, ℕ, zero, suc, ◌+◌, ◌<◌, Bool, true, false, ◌&&◌, List, [], ◌∷◌, ◌++◌, length, get_or, drop, drop-cons, map, Option, Some, None, cond, Bor, ◌∙◌, eqb, inl, inr, take}
use Rattle.std.proofs.lemmas.Bool.{cases_Bool, and_parts, eqb-true, cond-true, cond-false, false_from_ne_true}
use Rattle.std.proofs.lemmas.Slice.Eq.{bytes_eq-Decides}
use Rattle.std.specs.List.{list_all}
use Rattle.std.specs.Option.{option_or}
use Rattle.std.specs.Str.{bytes_eq}
use Rattle.page_core_base.specs.Messages.{row_in}
use Rattle.page_core_base.specs.laws.Views.{letter_of, cells_in}
use Rattle.page_core_base.specs.declared.cells.Font.{Font}

-- rows of the program as values
abbrev pub seen : {V : Type 0} → List (Bor (List ℕ) × V) → List (List ℕ × V)
seen rows = map (λ row. (row.0.now, row.1)) rows

module _ {V : Type 0} (rows : List (Bor (List ℕ) × V)) (name : List ℕ) (i : ℕ) (row : Bor (List ℕ) × V) (place : row ≡ get_or rows i row) (in_range : i < length rows) where
  from_here : row_in (seen (drop i rows)) name ≡ cond (bytes_eq row.0.now name) (Some row.1) (row_in (seen (drop (i + 1) rows)) name)
  from_here =
      let next : suc i ≡ i + 1 = omega arith in
      ap (λ rs. row_in (seen rs) name) (drop-cons rows i row in_range ∙ ap (λ r. r ∷ drop (suc i) rows) (sym place) ∙ ap (λ n. row ∷ drop n rows) next)

  -- the row there has the name
  pub row_found : bytes_eq row.0.now name ≡ true → row_in (seen (drop i rows)) name ≡ Some row.1
  row_found same = from_here ∙ cond-true _ _ _ same

  -- it has another
  pub row_passed : bytes_eq row.0.now name ≡ false → row_in (seen (drop i rows)) name ≡ row_in (seen (drop (i + 1) rows)) name
  row_passed other = from_here ∙ cond-false _ _ _ other

-- rows of one letter have no name of another
none_of_letter : {V : Type 0} (letter : ℕ) (rows : List (List ℕ × V)) (name : List ℕ) → list_all (λ row. eqb (letter_of row.0) letter) rows ≡ true → (letter_of name ≡ letter → ⊥) → row_in rows name ≡ None
none_of_letter letter [] name all other = refl
none_of_letter letter (row ∷ rows) name all other =
    let parts = and_parts (eqb (letter_of row.0) letter) (list_all (λ row. eqb (letter_of row.0) letter) rows) all in
    let differs = false_from_ne_true (bytes_eq row.0 name) (λ same. other (sym (ap letter_of ((bytes_eq-Decides row.0 name).0 same)) ∙ eqb-true _ _ parts.0)) in
    cond-false _ _ _ differs ∙ none_of_letter letter rows name parts.1 other

-- lists of rows, one after another
abbrev pub joined : {V : Type 0} → List (List (List ℕ × V)) → List (List ℕ × V)
joined [] = []
joined (rows ∷ more) = rows ++ joined more

row_in-append : {V : Type 0} (rows more : List (List ℕ × V)) (name : List ℕ) → row_in (rows ++ more) name ≡ option_or (row_in rows name) (row_in more name)
row_in-append [] more name = refl
row_in-append (row ∷ rows) more name =
    elim (cases_Bool (bytes_eq row.0 name)) [
      | inl same ↦ rw same refl
      | inr other ↦ rw other (row_in-append rows more name)
    ]

-- the rows of the first list have this letter, those of the next list the next one, and so on
abbrev pub stand_by_letter : {V : Type 0} → ℕ → List (List (List ℕ × V)) → Bool
stand_by_letter letter [] = true
stand_by_letter letter (rows ∷ more) = list_all (λ row. eqb (letter_of row.0) letter) rows && stand_by_letter (letter + 1) more

-- nor have rows of later letters
none_later : {V : Type 0} (letter : ℕ) (lists : List (List (List ℕ × V))) (name : List ℕ) → stand_by_letter letter lists ≡ true → letter_of name < letter → row_in (joined lists) name ≡ None
none_later letter [] name stand before = refl
none_later letter (rows ∷ more) name stand before =
    let parts = and_parts (list_all (λ row. eqb (letter_of row.0) letter) rows) (stand_by_letter (letter + 1) more) stand in
    row_in-append rows (joined more) name
    ∙ ap (λ o. option_or o (row_in (joined more) name)) (none_of_letter letter rows name parts.0 (λ same. omega arith))
    ∙ none_later (letter + 1) more name parts.1 (omega arith)

or_none : {V : Type 0} (o : Option V) → option_or o None ≡ o
or_none None = refl
or_none (Some v) = refl

-- a name's row is in the list of its letter
row_by_letter : {V : Type 0} (letter : ℕ) (lists : List (List (List ℕ × V))) (name : List ℕ) (i : ℕ) → stand_by_letter letter lists ≡ true → letter_of name ≡ letter + i → row_in (joined lists) name ≡ row_in (get_or lists i []) name
row_by_letter letter (rows ∷ more) name zero stand place =
    let parts = and_parts (list_all (λ row. eqb (letter_of row.0) letter) rows) (stand_by_letter (letter + 1) more) stand in
    row_in-append rows (joined more) name
    ∙ ap (option_or (row_in rows name)) (none_later (letter + 1) more name parts.1 (omega arith)) ∙ or_none (row_in rows name)
row_by_letter letter (rows ∷ more) name (suc i) stand place =
    let parts = and_parts (list_all (λ row. eqb (letter_of row.0) letter) rows) (stand_by_letter (letter + 1) more) stand in
    row_in-append rows (joined more) name
    ∙ ap (λ o. option_or o (row_in (joined more) name)) (none_of_letter letter rows name parts.0 (λ same. omega arith))
    ∙ row_by_letter (letter + 1) more name i parts.1 (omega arith)
row_by_letter _ [] _ _ _ _ = refl

-- a table of the program as values
abbrev pub table_view : {V : Type 0} → List (Bor (List (Bor (List ℕ) × V))) → List (List (List ℕ × V))
table_view lists = map (λ rows. seen rows.now) lists

list_view : {V : Type 0} (lists : List (Bor (List (Bor (List ℕ) × V)))) (i : ℕ) → seen (get_or (map (λ rows. rows.now) lists) i []) ≡ get_or (table_view lists) i []
list_view (rows ∷ more) (suc i) = list_view more i
list_view _ _ = refl

-- where the lists of the program, one after another, are the rows of a table, the list of a name's letter says of it what the table says
pub row_of_rows : {V : Type 0} (lists : List (Bor (List (Bor (List ℕ) × V)))) (table : List (List ℕ × V)) (name : List ℕ) → stand_by_letter 0 (table_view lists) ≡ true
    → joined (table_view lists) ≡ table → row_in (seen (get_or (map (λ rows. rows.now) lists) (letter_of name) [])) name ≡ row_in table name
row_of_rows lists table name stand same =
    ap (λ rows. row_in rows name) (list_view lists (letter_of name))
    ∙ sym (row_by_letter 0 (table_view lists) name (letter_of name) stand (omega arith))
    ∙ ap (λ rows. row_in rows name) same

-- ---- Characters and their fonts, one for each cell.

next : (cs : List ℕ) (fonts : List Font) (i c : ℕ) (font : Font) → i < length cs → length fonts ≡ length cs
    → cells_in (take (suc i) cs) (take (suc i) fonts) ≡ cells_in (take i cs) (take i fonts) ++ record { c = get_or cs i c; font = get_or fonts i font } ∷ []
next [] fonts i c font within sizes = absurd (omega (arith, within))
next (b ∷ cs) [] i c font within sizes = absurd (omega (arith, sizes))
next (b ∷ cs) (f ∷ fonts) zero c font within sizes = refl
next (b ∷ cs) (f ∷ fonts) (suc i) c font within sizes =
    ap (λ cells. record { c = b; font = f } ∷ cells) (next cs fonts i c font (omega (arith, within)) (omega (arith, sizes)))

-- the cells up to the next character
pub cells-more : (cs : List ℕ) (fonts : List Font) (i c : ℕ) (font : Font) → i < length cs → length fonts ≡ length cs
    → cells_in (take (i + 1) cs) (take (i + 1) fonts) ≡ cells_in (take i cs) (take i fonts) ++ record { c = get_or cs i c; font = get_or fonts i font } ∷ []
cells-more cs fonts i c font within sizes =
    let more : i + 1 ≡ suc i = omega arith in
    ap (λ n. cells_in (take n cs) (take n fonts)) more ∙ next cs fonts i c font within sizes
