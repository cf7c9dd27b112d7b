-- What came of names, one after another.
use Rattle.std.specs.Prelude.{◌≡◌, ℕ, Bool, List, [], ◌∷◌, ◌++◌, Option, max}
use Rattle.std.specs.Bool.{MatchBool}
use Rattle.page_core_streams.specs.Streams.{Grows}
use Rattle.mandoc_formats.specs.declared.faults.Done.{Done}

-- what came to the output and beside it, and how it ended
pub record Came (E : Type 0) : Type 0 where
  pub out : List ℕ
  pub err : List ℕ
  pub end : E

-- one after another: how both end is said of how each did
abbrev pub and_then : {E : Type 0} → (E → E → E) → Came E → Came E → Came E
and_then join before one = record { out = before.out ++ one.out; err = before.err ++ one.err; end = join before.end one.end }

-- what came of each name in turn, after what came before, up to one that stops it
unfoldable pub InTurn : {E : Type 0} → (join : E → E → E) → (stops : E → Bool) → (is : List ℕ → Came E → Type 0) → (names : List (List ℕ))
    → (before all : Came E) → Type 0
InTurn join stops is [] before all = all ≡ before
InTurn join stops is (name ∷ names) before all = (one : Came _) × is name one
    × MatchBool (stops one.end) (all ≡ and_then join before one) (InTurn join stops is names (and_then join before one) all)

-- a call did this, and answered how it ended
abbrev pub Does : {E : Type 0} → (is : Came E → Type 0) → E → (out_before out_after err_before err_after : Option (List ℕ)) → Type 0
Does is end out_before out_after err_before err_after = (came : Came _) × is came × Grows out_before out_after came.out
    × Grows err_before err_after came.err × (came.end ≡ end)

-- the worst status, and whether nothing further can be written
abbrev pub worse : Done → Done → Done
worse one other = record { status = max one.status other.status; stops = other.stops }

abbrev pub does_stop : Done → Bool
does_stop done = done.stops
