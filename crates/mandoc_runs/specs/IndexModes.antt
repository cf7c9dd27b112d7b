-- The mode of a new index. Source: makewhatis(8), DESCRIPTION; chmod(2).
use Rattle.std.specs.Prelude.{ℕ, Bool, true, false, Option, Some, None, bit_and}

-- the nine permissions of the old one, where that is a file of the same owner; else the new one keeps the mode that it was made with
abbrev pub kept_mode : Bool → ℕ → Option ℕ
kept_mode true mode = Some (bit_and mode 0o777)
kept_mode false _ = None
