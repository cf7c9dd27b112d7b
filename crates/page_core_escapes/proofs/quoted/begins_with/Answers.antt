use Rattle.std.proofs.Common.{◌≡◌, ℕ, ◌<◌, ◌==◌, nat_eq, List, [], ◌∷◌, length, get_or, inl, inr, refl, sym, arith}
use Rattle.std.specs.List.{starts_with}
use Rattle.std.proofs.lemmas.Bool.{cases_Bool}
use Rattle.page_core_escapes.proofs.quoted.begins_with.Goals as goal

one_byte : (text delimiter : List ℕ) → 0 < length text → length delimiter ≡ 1 → starts_with nat_eq text delimiter ≡ (get_or delimiter 0 0 == get_or text 0 0)
one_byte [] delimiter some one = absurd (omega arith)
one_byte (b ∷ bs) [] some one = absurd (omega arith)
one_byte (b ∷ bs) (x ∷ []) some one = elim (cases_Bool (x == b)) [ inl e ↦ rw e refl | inr e ↦ rw e refl ]
one_byte (b ∷ bs) (x ∷ y ∷ ys) some one = absurd (omega arith)

pub returns-then-delimiter-eq1 : goal.returns-then-delimiter-eq1
returns-then-delimiter-eq1 c = sym (one_byte c.args.text.now c.args.delimiter.now c.requires c.if-delimiter-eq1.true)
