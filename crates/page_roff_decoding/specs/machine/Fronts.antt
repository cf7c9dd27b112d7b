-- The code's own, which no public clause cites: what it knows of a character at the front of some bytes. Trust needs no reading of it.
use Rattle.std.specs.Prelude.{ℕ, ◌-◌, List, take, Bool, not, ◌==◌, ◌&&◌}
use Rattle.page_roff_decoding.specs.declared.characters.Front.{Front}
use Rattle.page_roff_decoding.specs.declared.characters.Front.TheVariants.{Same, Latin1, Bad}
use Rattle.page_roff_decoding.specs.Decoding.{Character, good, bad, latin1_bytes, is_printable}

abbrev pub as_character : Front → List ℕ → Character
as_character (Same n) text = good (take n text)
as_character (Latin1 b) text = good (latin1_bytes b)
as_character (Bad b) text = bad b

-- how many bytes it takes
abbrev pub width_of : Front → ℕ
width_of (Same n) = n
width_of _ = 1

abbrev pub later_of : Front → ℕ
later_of f = width_of f - 1

-- how many bytes it has in the decoded line
abbrev pub size_of : Front → ℕ
size_of (Same n) = n
size_of (Latin1 b) = 2
size_of (Bad b) = 1

-- ---- A fast way of the code: text, bytes that stand for themselves in each encoding. Of public clauses only those of `stops` and `text_len` cite it, with which
-- lines are cut. Trust needs no reading of it.

-- a printable byte of ASCII or a tab, and no backslash (92)
abbrev pub is_text : ℕ → Bool
is_text b = is_printable b && not (b == 92)

abbrev pub is_stop : ℕ → Bool
is_stop b = not (is_text b)
