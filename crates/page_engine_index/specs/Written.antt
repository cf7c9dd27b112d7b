-- What a search writes. Source: whatis(1).
use Rattle.std.specs.Prelude.{ℕ, ◌==◌, Bool, true, false, not, ◌&&◌, if◌then◌else◌, List, [], ◌∷◌, ◌++◌, Option, codes}
use Rattle.std.specs.Char.{is_ascii_control}
use Rattle.std.specs.Int.{is_in_range}
use Rattle.page_core_streams.specs.Streams.{Adds, AddsInto}
use Rattle.page_engine_index.specs.Entries.{is_line_feed}
use Rattle.page_engine_index.specs.Searches.{Rows}

-- ---- A row as its bytes: each control character is a question mark, but for the line feed at its end. Those of two bytes in UTF-8, U+0080 to U+009F,
-- begin with the byte 0xC2, which is held back until the next one is known.

abbrev pub is_lead : ℕ → Bool
is_lead byte = byte == 0xC2

abbrev pub held_back : Bool → List ℕ
held_back true = 0xC2 ∷ []
held_back false = []

-- a control character of one byte
abbrev pub is_hidden : ℕ → Bool
is_hidden byte = is_ascii_control byte && not (is_line_feed byte)

abbrev pub own_byte : ℕ → List ℕ
own_byte byte = if is_lead byte then [] else (if is_hidden byte then 63 else byte) ∷ []

abbrev pub ends_control : Bool → ℕ → Bool
ends_control held byte = held && is_in_range 0x80 0x9F byte

-- what is written at a byte, where one is held back or not
abbrev pub at_byte : Bool → ℕ → List ℕ
at_byte held byte = if ends_control held byte then codes "?" else held_back held ++ own_byte byte

unfoldable pub visible_from : Bool → List ℕ → List ℕ
visible_from held [] = held_back held
visible_from held (byte ∷ bytes) = at_byte held byte ++ visible_from (is_lead byte) bytes

abbrev pub visible : List ℕ → List ℕ
visible row = visible_from false row

-- a writer whose bytes are known got those of the rows; of a front of them
abbrev pub written : {W : Type 0} → (W → Option (List ℕ)) → Rows W
written contents = record { gave = Adds contents visible; within = AddsInto contents visible }
