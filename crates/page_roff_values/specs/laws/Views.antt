-- What contracts of the code say by the definitions, and what is proved of these.
use Rattle.std.specs.Prelude.{ℕ, Bool, true, false, List, ◌≤◌, length, ◌≡◌, ◌++◌}
use Rattle.page_core_base.specs.Limits.{EXPAND, LINE}
use Rattle.page_core_base.specs.Messages.{Message}
use Rattle.page_core_base.specs.laws.Views.{Came}
use Rattle.page_roff_values.specs.Answers.{Answer}
use Rattle.page_roff_values.specs.Values.{TextSoFar, adds, start, LaidText}

-- what a line gives: itself, or what was finished
abbrev pub taken : Bool → ℕ → List ℕ → TextSoFar → TextSoFar
taken true line text s = adds text (start line)
taken false line text s = s

-- within its limits
pub record IsWithin (s : TextSoFar) : Type 0 where
  pub text : length s.text ≤ LINE
  pub count : s.count ≤ EXPAND

-- a call answered so, with these messages and this line
abbrev pub Gives : {P S : Type 0} → (P → S → List Message → Type 0) → S → S → Bool → TextSoFar → Answer → Type 0
Gives left old new result edge answer = (result ≡ answer.holds) × (edge ≡ answer.edge) × Came left old answer.notes new

-- what was to be laid, and what still is: it leads to the same edge
abbrev pub Goes : {P S : Type 0} → (P → S → List Message → Type 0) → S → LaidText → S → LaidText → Type 0
Goes {P} left s all t next =
    ((plan : P) (more : List Message) → left plan s (all.notes ++ more) → left plan t (next.notes ++ more))
    × (next.edge ≡ all.edge)
