-- What the code knows of the brackets in what is left of a text: the code's own form of it. Trust needs no reading of it.
use Rattle.std.specs.Prelude.{◌≡◌, ℕ, Bool, false, ◌&&◌, ◌||◌, ◌==◌, List, [], ◌∷◌, zero, suc, ◌-◌, ◌++◌, length, take, drop, Option, Some, None, option_map, ◌+◌, ◌<◌, get_or}
use Rattle.page_roff_parts.specs.declared.parts.Part.{Part}
use Rattle.page_roff_parts.specs.declared.parts.Part.TheVariants.{Copied, Called}
use Rattle.page_roff_parts.specs.Parts.{parts, CutText, SeenText}
use Rattle.std.specs.Borrow.{Bor}
use Rattle.page_roff_parts.specs.declared.parts.Call.{Call}
use Rattle.page_roff_parts.specs.declared.parts.Call.TheVariants.{String, Register, Argument, Width}
use Rattle.page_roff_parts.specs.declared.parts.Cut.{Cut}
use Rattle.page_roff_parts.specs.declared.parts.Seen.{Seen}

-- whether a closing bracket (93) is in a text
abbrev pub has_bracket : List ℕ → Bool
has_bracket [] = false
has_bracket (b ∷ bs) = b == 93 || has_bracket bs

-- none does where the flag is set
abbrev pub IsKnown : Bool → List ℕ → Type 0
IsKnown is_unclosed text = (is_unclosed && has_bracket text) ≡ false

-- ---- A fast way of the code, which only calls between our crates cite: the bytes at a text's front that are copied as they are. Trust needs no reading of it.

-- the bytes of the first parts, which are copied and have this many in all, and the parts that follow them
abbrev pub copied_front : ℕ → List (Part (List ℕ)) → Option (List ℕ × List (Part (List ℕ)))
copied_front zero ps = Some ([], ps)
copied_front (suc n) [] = None
copied_front (suc n) (Copied run ∷ ps) = option_map (λ front. (run ++ front.0, front.1)) (copied_front (suc n - length run) ps)
copied_front (suc n) (Called call ∷ ps) = None

-- this many bytes are copied, and then the parts of what follows them come
abbrev pub IsFront : Bool → ℕ → List ℕ → Type 0
IsFront copy n text = copied_front n (parts copy text) ≡ Some (take n text, parts copy (drop n text))

-- ---- A fast way of the code, which only calls between our crates cite: texts of which all bytes are copied, since no interpolation begins in them.
-- Trust needs no reading of it.
-- Source: roff(7), "Escape sequences".

-- the bytes of parts that are all copied
abbrev pub copied_bytes : List (Part (List ℕ)) → Option (List ℕ)
copied_bytes [] = Some []
copied_bytes (Copied run ∷ rest) = option_map (λ bytes. run ++ bytes) (copied_bytes rest)
copied_bytes (Called call ∷ rest) = None

abbrev pub IsVerbatim : Bool → List ℕ → Type 0
IsVerbatim copy text = copied_bytes (parts copy text) ≡ Some text

-- a letter (* 42, n 110, $ 36, w 119) that may begin an interpolation after a backslash
abbrev pub may_call : ℕ → Bool
may_call letter = letter == 42 || (letter == 110 || (letter == 36 || letter == 119))

-- a backslash (92)
abbrev pub is_backslash : ℕ → Bool
is_backslash b = b == 92

-- whether an interpolation may begin at a place
abbrev pub may_call_at : List ℕ → ℕ → Bool
may_call_at text k = is_backslash (get_or text k 0) && may_call (get_or text (k + 1) 0)

-- none begins in a text
abbrev pub IsFree : List ℕ → Type 0
IsFree text = (k : ℕ) → k + 1 < length text → may_call_at text k ≡ false

-- ---- How the code's values are seen. Trust needs no reading of it.

abbrev pub call_of : Call (Bor (List ℕ)) → Call (List ℕ)
call_of (String name) = String name.now
call_of (Register name) = Register name.now
call_of (Argument escape) = Argument escape.now
call_of (Width text) = Width text.now

abbrev pub part_of : Part (Bor (List ℕ)) → Part (List ℕ)
part_of (Copied run) = Copied run.now
part_of (Called call) = Called (call_of call)

abbrev pub cut_of : Cut → CutText
cut_of c = record { front = c.front.now; rest = c.rest.now }

abbrev pub seen_of : Seen → SeenText
seen_of s = record { part = part_of s.part; rest = s.rest.now }
