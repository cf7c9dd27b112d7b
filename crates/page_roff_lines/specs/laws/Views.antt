-- What contracts of the code say by the definitions, and what is proved of these.
use Rattle.std.specs.Prelude.{ℕ}

-- the line feed, which ends a physical line
abbrev pub newline : ℕ
newline = 10

-- the carriage return, which belongs to the end of a physical line right before its line feed
abbrev pub carriage_return : ℕ
carriage_return = 13
