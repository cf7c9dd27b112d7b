-- When a word matches a name. Source: whatis(1).
use Rattle.std.specs.Prelude.{ℕ, ◌≡◌, ◌==◌, Bool, false, not, ◌&&◌, ◌||◌, if◌then◌else◌, List, [], ◌∷◌, ◌++◌, length, take, drop, map}
use Rattle.std.specs.Char.{is_ascii_alphanumeric, to_ascii_lowercase}
use Rattle.std.specs.List.{list_any, onto_first}
use Rattle.std.specs.Str.{bytes_eq}

-- a letter or a digit of ASCII, or an underscore
abbrev pub is_word_byte : ℕ → Bool
is_word_byte byte = is_ascii_alphanumeric byte || byte == 95

-- such a byte is at the front of a text; at its end, or before it where it is empty
abbrev pub begins_word : List ℕ → Bool
begins_word [] = false
begins_word (byte ∷ bytes) = is_word_byte byte

abbrev pub ends_word : Bool → List ℕ → Bool
ends_word before [] = before
ends_word before (byte ∷ bytes) = ends_word (is_word_byte byte) bytes

-- a text in small letters of ASCII
abbrev pub folded : List ℕ → List ℕ
folded text = map to_ascii_lowercase text

-- a word occurs in a name, but for the case of letters, and no letter, digit or underscore is on either side of it
pub record IsMatch (word name : List ℕ) : Type 0 where
  pub before : List ℕ
  pub found : List ℕ
  pub after : List ℕ
  pub parts : name ≡ before ++ (found ++ after)
  pub same : folded found ≡ folded word
  pub left : ends_word false before ≡ false
  pub right : begins_word after ≡ false

-- ---- whether a word matches, place by place

-- at the front of a text, after a byte that is one of a word or not
abbrev pub matches_here : List ℕ → Bool → List ℕ → Bool
matches_here word before text =
    not before && (bytes_eq (folded (take (length word) text)) (folded word) && not (begins_word (drop (length word) text)))

-- at some place of a text
unfoldable pub matches_in : List ℕ → Bool → List ℕ → Bool
matches_in word before [] = matches_here word before []
matches_in word before (byte ∷ bytes) = matches_here word before (byte ∷ bytes) || matches_in word (is_word_byte byte) bytes

abbrev pub is_match : List ℕ → List ℕ → Bool
is_match word name = matches_in word false name

-- ---- the names of an entry

abbrev pub begins_blank : List ℕ → Bool
begins_blank [] = false
begins_blank (byte ∷ bytes) = byte == 32

-- a comma (44) and a blank after it part two names
abbrev pub ends_name : ℕ → List ℕ → Bool
ends_name byte bytes = byte == 44 && begins_blank bytes

-- the first of the names without its first byte
abbrev pub without_blank : List (List ℕ) → List (List ℕ)
without_blank [] = []
without_blank (name ∷ names) = drop 1 name ∷ names

-- names that are separated by a comma and a blank
unfoldable pub names_of : List ℕ → List (List ℕ)
names_of [] = [] ∷ []
names_of (byte ∷ bytes) =
    if ends_name byte bytes then [] ∷ without_blank (names_of bytes) else onto_first byte (names_of bytes)

-- a word matches one of them
unfoldable pub has_match : List ℕ → List ℕ → Bool
has_match word names = list_any (is_match word) (names_of names)
