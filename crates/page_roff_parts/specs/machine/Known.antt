-- A fast way of the code, which no public clause cites: texts that are remembered, with how many bytes are copied from each of their places on.
-- Trust needs no reading of it.
use Rattle.std.specs.Prelude.{◌≡◌, ℕ, ◌+◌, ◌-◌, ◌<◌, ◌≤◌, ◌==◌, false, List, length, get_or, take, drop}
use Rattle.std.specs.List.{All}
use Rattle.page_roff_parts.specs.declared.known_fronts.KnownText.{KnownText}
use Rattle.page_roff_parts.specs.machine.Verbatim.{IsFront}

-- beside each byte of a text from a place on, which is so many bytes further in the numbers, is how many bytes are copied from it on
abbrev pub AreFronts : List ℕ → ℕ → List ℕ → ℕ → Type 0
AreFronts fronts before text at =
    (k : ℕ) → at ≤ k → k < length text → (k + get_or fronts (before + k) 0 ≤ length text) × IsFront false (get_or fronts (before + k) 0) (drop k text)

-- the numbers before a place stay
abbrev pub StayBefore : ℕ → List ℕ → List ℕ → Type 0
StayBefore place old new = (length new ≡ length old) × ((k : ℕ) → k < place → get_or new k 0 ≡ get_or old k 0)

-- no backslash (92) is from one place up to another, where one is, or the text's end
abbrev pub IsRun : ℕ → ℕ → List ℕ → Type 0
IsRun from to text = ((k : ℕ) → from ≤ k → k < to → (get_or text k 0 == 92) ≡ false) × (to < length text → get_or text to 0 ≡ 92)

abbrev pub IsKnown : List ℕ → List ℕ → KnownText → Type 0
IsKnown texts fronts t =
    (t.start ≤ t.end) × (t.end ≤ length texts) × (t.end ≤ length fronts) × ((k : ℕ) → t.start ≤ k → k < t.end
    → (k + get_or fronts k 0 ≤ t.end) × IsFront false (get_or fronts k 0) (take (t.end - k) (drop k texts)))

abbrev pub AreKnown : List ℕ → List ℕ → List KnownText → Type 0
AreKnown texts fronts known = All (IsKnown texts fronts) known
