-- The glyphs that have a name, how a character is spelled in ASCII, and what both print in an output. Source: mandoc_char(7).
use Prim.Native.String.{String}
use Rattle.std.specs.Prelude.{ℕ, List, ◌+◌, ◌*◌, ◌∷◌, codes, [], ◌==◌, if◌then◌else◌, Option, Some, None, ◌&&◌, nat_le, Bool, true, false, encode_utf8, ◌||◌, nat_lt, unwrap_or}
use Rattle.unicode_width.specs.Width.{char_width}
use Rattle.page_core_base.specs.declared.page_settings.Output.{Output}
use Rattle.page_core_base.specs.declared.page_settings.Output.TheVariants.{Ascii, Utf8, Lint}

-- ---- The glyphs that have a name, of mandoc_char(7): which character a name stands for, and how a character is spelled in ASCII.

-- what a name stands for: a character's code point, and its spelling in ASCII, which is empty where it has none
pub record Symbol : Type 0 where
  pub code : ℕ
  pub spelling : List ℕ

-- one row: what is looked up, as a number, and the symbol
pub record Entry : Type 0 where
  pub key : ℕ
  pub symbol : Symbol

abbrev pub entry : ℕ → ℕ → List ℕ → Entry
entry key code spelling = record { key = key; symbol = record { code = code; spelling = spelling } }

-- the key of a name of two bytes
abbrev pub name_key : ℕ → ℕ → ℕ
name_key first second = first * 256 + second

-- the key of a name; each name of the table has two bytes
abbrev pub key_of : List ℕ → ℕ
key_of (first ∷ second ∷ _) = name_key first second
key_of _ = 0

-- a row of the table: a name, its character's code point, and that character's spelling in ASCII
abbrev pub glyph : String → ℕ → String → Entry
glyph name code spelling = entry (key_of (codes name)) code (codes spelling)

-- the table of the names
unfoldable pub table : List Entry
table =
    glyph "!=" 0x2260 "!=" ∷
    glyph "'A" 0xC1 "A" ∷
    glyph "'E" 0xC9 "E" ∷
    glyph "'I" 0xCD "I" ∷
    glyph "'O" 0xD3 "O" ∷
    glyph "'U" 0xDA "U" ∷
    glyph "'a" 0xE1 "a" ∷
    glyph "'e" 0xE9 "e" ∷
    glyph "'i" 0xED "i" ∷
    glyph "'o" 0xF3 "o" ∷
    glyph "'u" 0xFA "u" ∷
    glyph "**" 0x2217 "*" ∷
    glyph "*D" 0x394 "<Delta>" ∷
    glyph "*S" 0x3A3 "<Sigma>" ∷
    glyph "*W" 0x3A9 "<Omega>" ∷
    glyph "*a" 0x3B1 "<alpha>" ∷
    glyph "*b" 0x3B2 "<beta>" ∷
    glyph "*d" 0x3B4 "<delta>" ∷
    glyph "*g" 0x3B3 "<gamma>" ∷
    glyph "*l" 0x3BB "<lambda>" ∷
    glyph "*m" 0x3BC "<mu>" ∷
    glyph "*p" 0x3C0 "<pi>" ∷
    glyph "*s" 0x3C3 "<sigma>" ∷
    glyph "+-" 0xB1 "+-" ∷
    glyph ",C" 0xC7 "C" ∷
    glyph ",c" 0xE7 "c" ∷
    glyph "->" 0x2192 "->" ∷
    glyph "/O" 0xD8 "O" ∷
    glyph "/o" 0xF8 "o" ∷
    glyph "12" 0xBD "1/2" ∷
    glyph "14" 0xBC "1/4" ∷
    glyph "34" 0xBE "3/4" ∷
    glyph ":A" 0xC4 "A" ∷
    glyph ":O" 0xD6 "O" ∷
    glyph ":U" 0xDC "U" ∷
    glyph ":a" 0xE4 "a" ∷
    glyph ":e" 0xEB "e" ∷
    glyph ":i" 0xEF "i" ∷
    glyph ":o" 0xF6 "o" ∷
    glyph ":u" 0xFC "u" ∷
    glyph "<-" 0x2190 "<-" ∷
    glyph "<=" 0x2264 "<=" ∷
    glyph "<>" 0x2194 "<->" ∷
    glyph "==" 0x2261 "==" ∷
    glyph ">=" 0x2265 ">=" ∷
    glyph "AE" 0xC6 "AE" ∷
    glyph "AN" 0x2227 "^" ∷
    glyph "Bq" 0x201E ",," ∷
    glyph "Do" 0x24 "$" ∷
    glyph "Eu" 0x20AC "EUR" ∷
    glyph "Fc" 0xBB ">>" ∷
    glyph "Fo" 0xAB "<<" ∷
    glyph "OK" 0x2713 "" ∷
    glyph "OR" 0x2228 "v" ∷
    glyph "Po" 0xA3 "" ∷
    glyph "S1" 0xB9 "1" ∷
    glyph "S2" 0xB2 "2" ∷
    glyph "S3" 0xB3 "3" ∷
    glyph "Ye" 0xA5 "" ∷
    glyph "^a" 0xE2 "a" ∷
    glyph "^e" 0xEA "e" ∷
    glyph "^i" 0xEE "i" ∷
    glyph "^o" 0xF4 "o" ∷
    glyph "^u" 0xFB "u" ∷
    glyph "`a" 0xE0 "a" ∷
    glyph "`e" 0xE8 "e" ∷
    glyph "`i" 0xEC "i" ∷
    glyph "`o" 0xF2 "o" ∷
    glyph "`u" 0xF9 "u" ∷
    glyph "aa" 0xB4 "'" ∷
    glyph "ae" 0xE6 "ae" ∷
    glyph "aq" 0x27 "'" ∷
    glyph "at" 0x40 "@" ∷
    glyph "ba" 0x7C "|" ∷
    glyph "bq" 0x201A "," ∷
    glyph "br" 0x2502 "|" ∷
    glyph "bu" 0x2022 "o" ∷
    glyph "ca" 0x2229 "" ∷
    glyph "ci" 0x25CB "O" ∷
    glyph "co" 0xA9 "(C)" ∷
    glyph "cq" 0x2019 "'" ∷
    glyph "ct" 0xA2 "" ∷
    glyph "cu" 0x222A "" ∷
    glyph "da" 0x2193 "v" ∷
    glyph "dd" 0x2021 "" ∷
    glyph "de" 0xB0 "<deg>" ∷
    glyph "dg" 0x2020 "" ∷
    glyph "di" 0xF7 "/" ∷
    glyph "dq" 0x22 "\"" ∷
    glyph "em" 0x2014 "--" ∷
    glyph "en" 0x2013 "-" ∷
    glyph "eq" 0x3D "=" ∷
    glyph "es" 0x2205 "" ∷
    glyph "eu" 0x20AC "EUR" ∷
    glyph "fa" 0x2200 "" ∷
    glyph "fc" 0x203A ">" ∷
    glyph "fm" 0x2032 "'" ∷
    glyph "fo" 0x2039 "<" ∷
    glyph "ga" 0x60 "`" ∷
    glyph "gr" 0x2207 "" ∷
    glyph "hA" 0x21D4 "<=>" ∷
    glyph "ha" 0x5E "^" ∷
    glyph "hy" 0x2010 "-" ∷
    glyph "if" 0x221E "" ∷
    glyph "lA" 0x21D0 "<=" ∷
    glyph "lB" 0x5B "[" ∷
    glyph "lC" 0x7B "{" ∷
    glyph "la" 0x27E8 "<" ∷
    glyph "lq" 0x201C "\"" ∷
    glyph "lz" 0x25CA "" ∷
    glyph "mi" 0x2212 "-" ∷
    glyph "mo" 0x2208 "" ∷
    glyph "mu" 0xD7 "x" ∷
    glyph "no" 0xAC "~" ∷
    glyph "oA" 0xC5 "A" ∷
    glyph "oa" 0xE5 "a" ∷
    glyph "oq" 0x2018 "`" ∷
    glyph "pd" 0x2202 "" ∷
    glyph "pl" 0x2B "+" ∷
    glyph "ps" 0xB6 "" ∷
    glyph "r!" 0xA1 "" ∷
    glyph "r?" 0xBF "" ∷
    glyph "rA" 0x21D2 "=>" ∷
    glyph "rB" 0x5D "]" ∷
    glyph "rC" 0x7D "}" ∷
    glyph "ra" 0x27E9 ">" ∷
    glyph "rg" 0xAE "(R)" ∷
    glyph "rq" 0x201D "\"" ∷
    glyph "rs" 0x5C "\\" ∷
    glyph "sc" 0xA7 "<S>" ∷
    glyph "sd" 0x2033 "\"" ∷
    glyph "sh" 0x23 "#" ∷
    glyph "sl" 0x2F "/" ∷
    glyph "sq" 0x25A1 "" ∷
    glyph "sr" 0x221A "" ∷
    glyph "ss" 0xDF "ss" ∷
    glyph "te" 0x2203 "" ∷
    glyph "ti" 0x7E "~" ∷
    glyph "tm" 0x2122 "(TM)" ∷
    glyph "ua" 0x2191 "^" ∷
    glyph "ul" 0x5F "_" ∷
    glyph "~N" 0xD1 "N" ∷
    glyph "~a" 0xE3 "a" ∷
    glyph "~n" 0xF1 "n" ∷
    glyph "~o" 0xF5 "o" ∷
    glyph "~~" 0x2248 "~~" ∷
    []

-- the symbol of the first entry with a key
unfoldable pub symbol_at : List Entry → ℕ → Option Symbol
symbol_at [] key = None
symbol_at (e ∷ es) key = if e.key == key then Some e.symbol else symbol_at es key

-- the symbol that a name stands for, if it stands for one; each name of the table has two bytes
unfoldable pub glyph_of : List ℕ → Option Symbol
glyph_of (first ∷ second ∷ []) = symbol_at table (name_key first second)
glyph_of _ = None

-- the spelling of a code point by the first entry that has it, empty where none has it
unfoldable pub first_spelling : ℕ → List Entry → List ℕ
first_spelling code [] = []
first_spelling code (e ∷ es) = if e.symbol.code == code then e.symbol.spelling else first_spelling code es

-- the spelling of a character in ASCII: one from a blank to `~` is spelled as itself
unfoldable pub spelling_of : ℕ → List ℕ
spelling_of c = if nat_le 0x20 c && nat_le c 0x7E then c ∷ [] else first_spelling c table

-- ---- What a character, and the glyph of a name, print in an output. Source: mandoc_char(7); mandoc(1), -T ascii, -T utf8 and -T lint.

-- the characters that are printed, and, where they stand for what can't be, the text that is reported: the name that no glyph has, or the
-- character that has no spelling
pub record Printing : Type 0 where
  pub characters : List ℕ
  pub unknown : Option (List ℕ)

abbrev pub known : List ℕ → Printing
known characters = record { characters = characters; unknown = None }

abbrev pub unknown_text : List ℕ → Printing
unknown_text text = record { characters = codes "<?>"; unknown = Some text }

-- characters above ASCII are spelled in ASCII, and where messages alone are wanted
abbrev pub prints_ascii : Output → Bool
prints_ascii Ascii = true
prints_ascii Utf8 = false
prints_ascii Lint = true

-- a character by its spelling, which is empty where it has none
abbrev pub by_spelling : List ℕ → ℕ → Printing
by_spelling [] c = unknown_text (encode_utf8 c)
by_spelling (b ∷ bs) c = known (b ∷ bs)

-- a control character: one below the blank, or from U+007F to U+009F
abbrev pub is_control : ℕ → Bool
is_control c = nat_lt c 0x20 || (nat_le 0x7F c && nat_lt c 0xA0)

-- a character; a tab, and a blank that no row breaks at (U+00A0), are a blank. No other control character is printed, nor named in a message
abbrev pub char_printed : Output → ℕ → Printing
char_printed output c =
    if c == 0x09 || c == 0xA0 then known (codes " ")
    else if is_control c then unknown_text []
    else if nat_lt c 0x80 then known (c ∷ [])
    else if prints_ascii output then by_spelling (spelling_of c) c
    else known (c ∷ [])

-- what a name stands for
abbrev pub symbol_printed : Output → (name : List ℕ) → Option Symbol → Printing
symbol_printed output name None = unknown_text name
symbol_printed output name (Some symbol) = if prints_ascii output then by_spelling symbol.spelling symbol.code else known (symbol.code ∷ [])

-- the glyph of a name
abbrev pub glyph_printed : Output → (name : List ℕ) → Printing
glyph_printed output name = symbol_printed output name (glyph_of name)

-- the columns of a character that is printed, none where it has no width
abbrev pub char_columns : ℕ → ℕ
char_columns c = unwrap_or (char_width false c) 0
