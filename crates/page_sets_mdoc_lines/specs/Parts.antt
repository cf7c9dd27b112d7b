-- A control line parted, before any macro means anything: its words, its delimiters, its macros, and the words of each. Source: mdoc(7), "MACRO SYNTAX".
use Rattle.std.specs.List.{list_all}
use Rattle.std.specs.Prelude.{ℕ, List, [], ◌∷◌, codes, Option, None, if◌then◌else◌, Bool, true, false, Some, ◌||◌, take, drop, ◌+◌, ◌==◌, ◌&&◌, is_none}
use Rattle.std.specs.Str.{bytes_eq}
use Rattle.page_roff_syntax.specs.Arguments.{is_quoted}
use Rattle.page_roff_syntax.specs.declared.quotes.Argument.{Argument}
use Rattle.page_sets_mdoc_lines.specs.Rows.{said, called}
use Rattle.page_sets_mdoc_lines.specs.declared.delimiters.Delimiter.{Delimiter}
use Rattle.page_sets_mdoc_lines.specs.declared.delimiters.Delimiter.TheVariants.{Opening, Middle, Closing}
use Rattle.page_sets_mdoc_lines.specs.declared.macros.Inline.{Inline}
use Rattle.page_sets_mdoc_lines.specs.declared.macros.Inline.TheVariants.{Author, Prefix, Opens, Closes}
use Rattle.page_sets_mdoc_lines.specs.declared.macros.Pair.{Pair}
use Rattle.page_sets_mdoc_lines.specs.declared.macros.Pair.TheVariants.{Custom}

-- ---- Delimiters. Source: mdoc(7), "Delimiters".

abbrev pub delimiters : List (List ℕ × Delimiter)
delimiters =
    (codes "(", Opening)
    ∷ (codes "[", Opening)
    ∷ (codes "|", Middle)
    ∷ (codes ".", Closing)
    ∷ (codes ",", Closing)
    ∷ (codes ":", Closing)
    ∷ (codes ";", Closing)
    ∷ (codes ")", Closing)
    ∷ (codes "]", Closing)
    ∷ (codes "?", Closing)
    ∷ (codes "!", Closing)
    ∷ []

-- the delimiter that a word is
unfoldable pub delimiter_of : List ℕ → Option Delimiter
delimiter_of word = said delimiters word

-- ---- The words of a control line: which are delimiters, which call macros, which a macro takes as they are.
-- Source: mdoc(7), "MACRO SYNTAX" and "Delimiters".

-- only a word without quotes is a delimiter, or calls a macro
unfoldable pub word_delimiter : Argument (List ℕ) → Option Delimiter
word_delimiter word = if is_quoted word.quoting then None else delimiter_of word.text

unfoldable pub word_call : Argument (List ℕ) → Option Inline
word_call word = if is_quoted word.quoting then None else called word.text

abbrev pub closes : Option Delimiter → Bool
closes (Some Closing) = true
closes _ = false

unfoldable pub is_closing : Argument (List ℕ) → Bool
is_closing word = closes (word_delimiter word)

-- a word that is no delimiter
unfoldable pub is_real : Argument (List ℕ) → Bool
is_real word = is_none (word_delimiter word)

-- marks are taken unless they name a macro
abbrev pub takes_mark : Pair → Argument (List ℕ) → Bool
takes_mark Custom word = is_none (word_call word)
takes_mark _ word = false

-- whether a macro takes the word after it as it is, whatever it would be otherwise
unfoldable pub takes_next : Inline → Argument (List ℕ) → Bool
takes_next Prefix word = true
takes_next Author word = bytes_eq word.text (codes "-split") || bytes_eq word.text (codes "-nosplit")
takes_next (Opens pair) word = takes_mark pair word
takes_next (Closes pair) word = takes_mark pair word
takes_next _ word = false

-- ---- A control line parted, before any macro means anything: the macros of the line, and the words of each.
-- Source: mdoc(7), "MACRO SYNTAX".

-- a macro that a word of the line calls: that word, the word that the macro takes as it is, and its other words
pub record InlineCall : Type 0 where
  pub inline : Inline
  pub name : Argument (List ℕ)
  pub taken : Option (Argument (List ℕ))
  pub words : List (Argument (List ℕ))

-- what the macro that begins the line takes, and its words; the calls after these; the closing delimiters at the end
pub record LineParts : Type 0 where
  pub taken : Option (Argument (List ℕ))
  pub words : List (Argument (List ℕ))
  pub calls : List InlineCall
  pub tail : List (Argument (List ℕ))

abbrev pub tail_alone : List (Argument (List ℕ)) → LineParts
tail_alone tail = record { taken = None; words = []; calls = []; tail = tail }

abbrev pub taken_first : Argument (List ℕ) → LineParts → LineParts
taken_first word parts = record parts { taken = Some word }

abbrev pub call_first : Inline → Argument (List ℕ) → LineParts → LineParts
call_first inline name parts = record {
  taken = None;
  words = [];
  calls = record { inline = inline; name = name; taken = parts.taken; words = parts.words } ∷ parts.calls;
  tail = parts.tail;
}

-- a word that calls begins the parts of its macro, any other joins the words
abbrev pub part_first : Option Inline → Argument (List ℕ) → LineParts → (Inline → LineParts) → LineParts
part_first None word parts begun = record parts { words = word ∷ parts.words }
part_first (Some inline) word parts begun = call_first inline word (begun inline)

abbrev pub if_parsed : Bool → Option Inline → Option Inline
if_parsed true inline = inline
if_parsed false inline = None

-- only a macro that has just begun takes a word
abbrev pub takes : Option Inline → Argument (List ℕ) → Bool
takes None word = false
takes (Some inline) word = takes_next inline word

-- the parts of what is left of a line, after the macro that has just begun, if one has; its words may call or not
abbrev pub parts : Option Inline → Bool → List (Argument (List ℕ)) → LineParts
parts begun parsed [] = tail_alone []
parts begun parsed (word ∷ words) =
    if takes begun word then taken_first word (parts None parsed words)
    else if list_all is_closing (word ∷ words) then tail_alone (word ∷ words)
    else part_first (if_parsed parsed (word_call word)) word (parts None parsed words) (λ inline. parts (Some inline) true words)

-- how many arguments there are up to the last that is no closing delimiter
abbrev pub front_len : (Argument (List ℕ) → Bool) → List (Argument (List ℕ)) → ℕ
front_len closing [] = 0
front_len closing (argument ∷ arguments) =
    if front_len closing arguments == 0 && closing argument then 0 else 1 + front_len closing arguments

abbrev pub has_calls : List InlineCall → Bool
has_calls [] = false
has_calls (call ∷ calls) = true

-- ---- The words of a macro, and what is known of them before they are read.

-- the words without the closing delimiters at their end, and only those
abbrev pub inside : List (Argument (List ℕ)) → List (Argument (List ℕ))
inside words = take (front_len is_closing words) words

abbrev pub outside : List (Argument (List ℕ)) → List (Argument (List ℕ))
outside words = drop (front_len is_closing words) words
