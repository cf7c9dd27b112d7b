-- What a text is made of: bytes that are copied, and interpolations. Source: roff(7), "Escape sequences", `\*`, `\n`, `\$`, `\w`,
-- and on copy mode.
use Rattle.std.specs.Prelude.{ℕ, List, ◌+◌, take, drop, ◌==◌, Option, Some, None, if◌then◌else◌, position, option_map, [], ◌∷◌, length, Bool, not, ◌&&◌, unwrap_or, zero, suc, codes}
use Rattle.page_core_base.specs.Bytes.{ascii}
use Rattle.page_roff_syntax.specs.Delimiters.{character_len, width_content_len}
use Rattle.page_roff_parts.specs.declared.parts.Call.{Call}
use Rattle.page_roff_parts.specs.declared.parts.Call.TheVariants.{Argument, String, Register, Width}
use Rattle.page_roff_parts.specs.declared.parts.Part.{Part}
use Rattle.page_roff_parts.specs.declared.parts.Part.TheVariants.{Copied, Called}

-- what is read of a text, and what follows that
pub record CutText : Type 0 where
  pub front : List ℕ
  pub rest : List ℕ

-- n bytes of a text; some more after them are passed over
abbrev pub cut : ℕ → ℕ → List ℕ → CutText
cut n over text = record { front = take n text; rest = drop (n + over) text }

-- ---- names: `x`, `(xx` or `[name]`

abbrev pub two_characters : List ℕ → Option CutText
two_characters text =
    let n = character_len text in
    let m = character_len (drop n text) in
    if m == 0 then None else Some (cut (n + m) 0 text)

abbrev pub bracketed : List ℕ → Option CutText
bracketed text = option_map (λ k. cut k 1 text) (position (λ b. b == ascii "]") text)

-- none where the text ends before the name does
abbrev pub name_cut : List ℕ → Option CutText
name_cut [] = None
name_cut (b ∷ bs) =
    if b == ascii "(" then two_characters bs
    else (if b == ascii "[" then bracketed bs else Some (cut (character_len (b ∷ bs)) 0 (b ∷ bs)))

-- the text between a width's delimiters, and what follows these
abbrev pub width_cut : List ℕ → Option CutText
width_cut text = let n = character_len text in option_map (λ k. cut k n (drop n text)) (width_content_len text)

-- ---- parts

-- the first part of a text, and what follows it
pub record SeenText : Type 0 where
  pub part : Part (List ℕ)
  pub rest : List ℕ

abbrev pub copies : List ℕ → List ℕ → SeenText
copies run rest = record { part = Copied run; rest = rest }

abbrev pub calls : Call (List ℕ) → List ℕ → SeenText
calls call rest = record { part = Called call; rest = rest }

-- the bytes before the first backslash, and those from it on
abbrev pub plain : List ℕ → List ℕ
plain [] = []
plain (b ∷ bs) = if b == ascii "\\" then [] else b ∷ plain bs

abbrev pub after_plain : List ℕ → List ℕ
after_plain [] = []
after_plain (b ∷ bs) = if b == ascii "\\" then b ∷ bs else after_plain bs

-- `\$` and its next character, if there is one
abbrev pub argument_call : List ℕ → SeenText
argument_call bs = let n = character_len bs in calls (Argument (ascii "\\" ∷ ascii "$" ∷ take n bs)) (drop n bs)

-- the interpolation of a backslash, this letter (* 42, n 110, $ 36, w 119) and what follows. In copy mode there is no `\w`.
abbrev pub call_cut : Bool → ℕ → List ℕ → Option SeenText
call_cut copy letter bs =
    if letter == ascii "*" then option_map (λ c. calls (String c.front) c.rest) (name_cut bs)
    else (if letter == ascii "n" then option_map (λ c. calls (Register c.front) c.rest) (name_cut bs)
    else (if letter == ascii "$" then Some (argument_call bs)
    else (if letter == ascii "w" && not copy then option_map (λ c. calls (Width c.front) c.rest) (width_cut bs)
    else None)))

-- a backslash and its next character
abbrev pub pair : List ℕ → SeenText
pair bs = let n = character_len bs in copies (ascii "\\" ∷ take n bs) (drop n bs)

abbrev pub is_doubled : Bool → ℕ → Bool
is_doubled copy letter = copy && letter == ascii "\\"

-- what is after a backslash. In copy mode another one makes it one. An interpolation without its end stays a pair.
abbrev pub escape : Bool → List ℕ → SeenText
escape copy [] = copies (codes "\\") []
escape copy (letter ∷ bs) =
    if is_doubled copy letter then copies (codes "\\") bs
    else unwrap_or (call_cut copy letter bs) (pair (letter ∷ bs))

unfoldable pub seen : Bool → List ℕ → SeenText
seen copy [] = copies [] []
seen copy (b ∷ bs) = if b == ascii "\\" then escape copy bs else copies (b ∷ plain bs) (after_plain bs)

-- the parts of a text, at most n of them
unfoldable pub parts_up_to : Bool → ℕ → List ℕ → List (Part (List ℕ))
parts_up_to copy zero text = []
parts_up_to copy (suc n) [] = []
parts_up_to copy (suc n) (b ∷ bs) = let s = seen copy (b ∷ bs) in s.part ∷ parts_up_to copy n s.rest

-- The parts of a text, in copy mode or not.
unfoldable pub parts : Bool → List ℕ → List (Part (List ℕ))
parts copy text = parts_up_to copy (length text) text

-- ---- values

-- a value loses a lone backslash at its end
unfoldable pub without_lone : List ℕ → List ℕ
without_lone [] = []
without_lone (b ∷ []) = if b == ascii "\\" then [] else b ∷ []
without_lone (b ∷ c ∷ bs) = if b == ascii "\\" then b ∷ c ∷ without_lone bs else b ∷ without_lone (c ∷ bs)
