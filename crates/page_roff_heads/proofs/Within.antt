-- Where the rest of a control line begins: helpers of proofs.
use Rattle.std.proofs.Common.{◌≡◌, ℕ, ◌+◌, ◌≤◌, List, [], ◌∷◌, length, drop, arith, inl, inr, length-drop}
use Rattle.std.proofs.lemmas.Bool.{cases_Bool}
use Rattle.std.proofs.lemmas.Bool.Decides.{nat_tests}
use Rattle.std.proofs.lemmas.List.Sums.{prefix_len-le-length}
use Rattle.page_core_base.specs.Bytes.{is_white}
use Rattle.page_roff_syntax.specs.declared.line_forms.LineForm.TheVariants.{Control}
use Rattle.page_roff_syntax.specs.LineForms.{has_word, without_comment, is_control, is_name, name_start, name_len, control_line, uncommented_form, form_of}

uncommented_within : (line : List ℕ) → length (without_comment line) ≤ length line
uncommented_within [] = omega arith
uncommented_within (x ∷ []) = omega arith
uncommented_within (x ∷ y ∷ ys) = grind (arith, nat_tests, uncommented_within ys, uncommented_within (y ∷ ys))

rest_at : (bytes name rest : List ℕ) (column rest_column : ℕ) → control_line bytes ≡ Control name column rest rest_column → (2 ≤ rest_column) × (rest_column ≤ length bytes + 2)
rest_at bytes name rest column rest_column e =
    let n : 2 + name_start bytes + name_len bytes ≡ rest_column = cc in
    let a = prefix_len-le-length is_white bytes in
    let b = prefix_len-le-length is_name (drop (name_start bytes) bytes) in
    let l = length-drop (name_start bytes) bytes in
    (omega (arith, n), omega (arith, n, a, b, l))

rest_of_form : (body name rest : List ℕ) (column rest_column : ℕ) → uncommented_form body ≡ Control name column rest rest_column
    → (2 ≤ rest_column) × (rest_column ≤ length body + 1)
rest_of_form [] name rest column rest_column e = absurd (cc)
rest_of_form (x ∷ xs) name rest column rest_column e =
    elim (cases_Bool (is_control x)) [
      | inl t ↦ let p = rest_at xs name rest column rest_column (rw t at e) in (omega (arith, p.0), omega (arith, p.1))
      | inr t ↦ let f = rw t at e in absurd (cc f)
    ]

-- the rest of a control line begins within it, or at its end
pub rest_within : (line name rest : List ℕ) (column rest_column : ℕ) → form_of line ≡ Control name column rest rest_column
    → (2 ≤ rest_column) × (rest_column ≤ length line + 1)
rest_within line name rest column rest_column e =
    elim (cases_Bool (has_word line)) [
      | inl t ↦
          let p = rest_of_form (without_comment line) name rest column rest_column (rw t at e) in
          let l = uncommented_within line in
          (p.0, omega (arith, p.1, l))
      | inr t ↦ let f = rw t at e in absurd (cc f)
    ]
