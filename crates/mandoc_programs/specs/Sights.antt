-- What may be seen under a name.
use Rattle.std.specs.Prelude.{ℤ, ℕ, Bool, List, Option, Result}
use Rattle.std.specs.declared.io.ErrorKind.{ErrorKind}

pub data Sight : Type 0 where
  -- whether it is a directory
  is_dir : Bool → Sight
  -- the names of what lies in it, in any order; or why it can't be listed
  listed : Result (List (List ℕ)) ErrorKind → Sight
  -- a file, with the bytes that it has, where these are known; or none; or it can't be opened, by the number of the error
  opened : Result (Option (Option (List ℕ))) (Option ℤ) → Sight
