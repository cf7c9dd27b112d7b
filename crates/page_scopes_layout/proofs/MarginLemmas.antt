-- A sum of three columns.
use Rattle.std.proofs.Common.{◌≡◌, w64, FitsSigned, ℤ, ◌+ℤ◌, to_z, of_z, refl}
use Rattle.std.proofs.lemmas.Int.{to_z-of_z}

pub sum_of_three : (m i s : ℤ) → FitsSigned w64 m → FitsSigned w64 i → FitsSigned w64 s → FitsSigned w64 (m +ℤ i) → FitsSigned w64 (m +ℤ i +ℤ s)
    → to_z w64 (of_z w64 (to_z w64 (of_z w64 (to_z w64 (of_z w64 m) +ℤ to_z w64 (of_z w64 i))) +ℤ to_z w64 (of_z w64 s))) ≡ m +ℤ i +ℤ s
sum_of_three m i s fm fi fs near far =
    rw (to_z-of_z w64 m fm, to_z-of_z w64 i fi, to_z-of_z w64 s fs, to_z-of_z w64 (m +ℤ i) near, to_z-of_z w64 (m +ℤ i +ℤ s) far) refl
