-- What contracts of the code say by the definitions, and what is proved of these.
use Rattle.std.specs.Prelude.{◌≡◌, ℕ, List, ◌++◌, encode_utf8}

-- a text begins with this character
pub record BeginsWith (text : List ℕ) (c : ℕ) : Type 0 where
  pub rest : List ℕ
  pub is : text ≡ encode_utf8 c ++ rest
