-- What contracts of the code say by the definitions, and what is proved of these.
use Rattle.std.proofs.Common.{append_assoc}
use Rattle.std.specs.Borrow.{Bor}
use Rattle.std.specs.List.{list_all}
use Rattle.std.specs.Prelude.{ℕ, ◌%◌, List, [], ◌∷◌, ◌≡◌, Result, MatchResult, Bool, nat_lt, true, length, map, ◌&&◌, nat_le, not, ◌==◌, ◌+◌, ◌++◌, false, if◌then◌else◌, refl, ◌||◌, get_or, ◌<◌}
use Rattle.page_core_base.specs.Messages.{Message, Rose, IsSinkFault}
use Rattle.page_core_base.specs.Rows.{row_of, is_blank_row, Item, noted, parts_of, part_pieces, shown, Laid, join, Gave, LaidRow}
use Rattle.page_core_base.specs.Texts.{TakenLine}
use Rattle.page_core_base.specs.declared.cells.Cell.{Cell}
use Rattle.page_core_base.specs.declared.cells.Font.{Font}
use Rattle.page_core_base.specs.declared.cells.Font.TheVariants.{R}
use Rattle.page_core_base.specs.declared.faults.Fault.{Fault}
use Rattle.page_core_base.specs.declared.faults.Fault.TheVariants.{WriteText, WriteNotes, Failed}
use Rattle.page_core_base.specs.declared.lines_taken.Taken.{Taken}
use Rattle.page_core_base.specs.declared.notes.Note.{Note}
use Rattle.page_core_base.specs.declared.pieces.Piece.{Piece}
use Rattle.page_core_base.specs.declared.pieces.Piece.TheVariants.{Text, Glyph, Char, Tab, Blank, Glue, Split, Break, RowEnd, Para, Space, Indent, Literal, Tag, TagEnd, Heading, Column}
use Rattle.page_core_base.specs.declared.places.Place.{Place}

-- the open parentheses of an expression
abbrev pub PARENS : ℕ
PARENS = 16

-- the interpolations inside one another
abbrev pub NEST : ℕ
NEST = 16

-- the number of a name's first letter, from 1 for `A` and from 33 for `a`
abbrev pub letter_of : List ℕ → ℕ
letter_of [] = 0
letter_of (first ∷ _) = first % 64

-- what a note of the program says
abbrev pub message_of : Note → Message
message_of note = record { kind = note.kind; line = note.line; column = note.column; detail = note.detail.bytes }

-- a call fails by this fault alone, and only where its sink failed
abbrev pub FailsAs : Fault → Result (Unit {0}) Fault → ℕ → ℕ → Type 0
FailsAs fault r old new = MatchResult r (λ _. new ≡ old) (λ e. (e ≡ fault) × Rose old new)

abbrev pub FailsBySink : Result (Unit {0}) Fault → ℕ → ℕ → ℕ → ℕ → Type 0
FailsBySink r rows rows' notes notes' = MatchResult r (λ _. (rows' ≡ rows) × (notes' ≡ notes)) (λ e. IsSinkFault e rows rows' notes notes')

-- `IsSinkFault` of a call over a sink of pieces, which counts the rows that failed beside its messages; where it is over, nothing failed
abbrev pub IsPieceFault : Fault → ℕ → ℕ → ℕ → ℕ → Type 0
IsPieceFault WriteText rows rows' notes notes' = Rose rows rows'
IsPieceFault WriteNotes rows rows' notes notes' = Rose notes notes'
IsPieceFault Failed rows rows' notes notes' = (rows' ≡ rows) × (notes' ≡ notes)
IsPieceFault _ _ _ _ _ = ⊥

abbrev pub FailsByPieces : {A : Type 0} → Result A Fault → ℕ → ℕ → ℕ → ℕ → Type 0
FailsByPieces r rows rows' notes notes' = MatchResult r (λ _. (rows' ≡ rows) × (notes' ≡ notes)) (λ e. IsPieceFault e rows rows' notes notes')

-- the cells of characters, each in its font
abbrev pub cells_in : List ℕ → List Font → List Cell
cells_in (c ∷ cs) (font ∷ fonts) = record { c = c; font = font } ∷ cells_in cs fonts
cells_in _ _ = []

abbrev pub is_ascii : ℕ → Bool
is_ascii c = nat_lt c 128

-- characters of ASCII, as many fonts, and no letter where it is said that there is none
pub record AreAscii (bytes : List ℕ) (fonts : List Font) (blank : Bool) : Type 0 where
  pub sizes : length fonts ≡ length bytes
  pub ascii : list_all is_ascii bytes ≡ true
  pub letters : blank ≡ true → is_blank_row (row_of 0 (cells_in bytes fonts)) ≡ true

-- messages alone, as items
abbrev pub all_noted : List Message → List Item
all_noted messages = map noted messages

-- a piece of the program, with what its text holds
abbrev pub piece_of : Piece (Bor (List ℕ)) → Piece (List ℕ)
piece_of (Text text font place) = Text text.now font place
piece_of (Glyph name font place) = Glyph name.now font place
piece_of (Char c font place) = Char c font place
piece_of (Tab font place) = Tab font place
piece_of (Blank count has_tab) = Blank count has_tab
piece_of Glue = Glue
piece_of Split = Split
piece_of Break = Break
piece_of RowEnd = RowEnd
piece_of (Para n) = Para n
piece_of (Space n) = Space n
piece_of (Indent first rest) = Indent first rest
piece_of (Literal literal) = Literal literal
piece_of (Tag hang form) = Tag hang form
piece_of TagEnd = TagEnd
piece_of Heading = Heading
piece_of (Column n) = Column n

-- a byte from ' ' to '~'
abbrev pub is_printable : ℕ → Bool
is_printable b = nat_le 32 b && nat_le b 126

abbrev pub is_printable_ascii : List ℕ → Bool
is_printable_ascii bytes = list_all is_printable bytes

-- bytes, and no blank among them
abbrev pub is_word : List ℕ → Bool
is_word word = nat_lt 0 (length word) && list_all (λ b. not (b == 32)) word

-- words, with a blank before each
unfoldable pub blank_words : List (List ℕ) → List ℕ
blank_words [] = []
blank_words (word ∷ words) = 32 ∷ (word ++ blank_words words)

-- ---- words

-- the pieces of words, where the blank before the first one is at a place
unfoldable pub word_pieces : Font → Place → List (List ℕ) → List (Piece (List ℕ))
word_pieces font place [] = []
word_pieces font place (word ∷ words) =
    let next : Place = record place { column = place.column + 1 } in
    Blank 1 false ∷ (part_pieces font next (parts_of word) ++ word_pieces font (record place { column = place.column + (1 + length word) }) words)

-- these pieces, with no message between them
unfoldable pub word_items : Font → Place → List (List ℕ) → List Item
unfolding word_pieces
word_items font place words = map shown (word_pieces font place words)

-- ---- words of letters: each letter is a cell

-- a piece of a word of letters, which are no blanks
abbrev pub is_lettered : Piece (List ℕ) → Bool
is_lettered (Text text font place) = is_word text
is_lettered (Char c font place) = not (c == 32)
is_lettered other = false

-- the cells of its letters
abbrev pub letters_of : Piece (List ℕ) → List Cell
letters_of (Text text font place) = map (λ c. record { c = c; font = font }) text
letters_of (Char c font place) = record { c = c; font = font } ∷ []
letters_of other = []

-- the cells of a word
abbrev pub word_letters : List (Piece (List ℕ)) → List Cell
word_letters [] = []
word_letters (piece ∷ pieces) = letters_of piece ++ word_letters pieces

abbrev pub is_lettered_word : List (Piece (List ℕ)) → Bool
is_lettered_word word = nat_lt 0 (length word) && list_all is_lettered word

-- words with a blank before each: their cells
unfoldable pub lettered_cells : List (List (Piece (List ℕ))) → List Cell
lettered_cells [] = []
lettered_cells (word ∷ words) = record { c = 32; font = R } ∷ (word_letters word ++ lettered_cells words)

-- words with a blank between two: their cells
abbrev pub joined_cells : List (List (Piece (List ℕ))) → List Cell
joined_cells [] = []
joined_cells (word ∷ words) = word_letters word ++ lettered_cells words

-- their pieces, where so many blanks are before the first one and one before each other
unfoldable pub lettered_pieces : ℕ → List (List (Piece (List ℕ))) → List (Piece (List ℕ))
lettered_pieces blanks [] = []
lettered_pieces blanks (word ∷ words) = Blank blanks false ∷ (word ++ lettered_pieces 1 words)

-- these characters, each in its font, are words of letters with a blank between two, and a call took all of them after so many blanks, or none
abbrev pub TakesWords : {S : Type 0} → ℕ → List ℕ → List Font → Bool → (S → List Item → S → Type 0) → S → S → Type 0
TakesWords {S} blanks text fonts taken gave s t =
    (words : List (List (Piece (List ℕ)))) → list_all is_lettered_word words ≡ true → cells_in text fonts ≡ joined_cells words
    → gave s (if taken then map shown (lettered_pieces blanks words) else []) t

-- ---- a row that is kept as it is: each character is a cell, also a blank

-- a piece of such a row whose characters are letters or blanks; the row does not end where a word may be parted
abbrev pub is_kept : Piece (List ℕ) → Bool
is_kept (Text text font place) = nat_lt 0 (length text)
is_kept (Char c font place) = true
is_kept Split = true
is_kept other = false

-- the cells of characters in one font
abbrev pub font_cells : Font → List ℕ → List Cell
font_cells font text = map (λ c. record { c = c; font = font }) text

-- these characters in a font are cells of such a row, and a call took all of them, or none
abbrev pub TakesKept : {S : Type 0} → List ℕ → Font → Bool → (S → List Item → S → Type 0) → S → S → Type 0
TakesKept {S} text font taken gave s t =
    (pieces : List (Piece (List ℕ))) → list_all is_kept pieces ≡ true → font_cells font text ≡ word_letters pieces
    → gave s (if taken then map shown pieces else []) t

pub join_assoc : {E F G : Type 0} (a : Laid E) (b : Laid F) (c : Laid G) → join (join a b) c ≡ join a (join b c)
join_assoc a b c = rw (append_assoc a.rows b.rows c.rows, append_assoc a.notes b.notes c.notes) refl

-- what a call did that gives rows and messages: at `Ok` both sinks got all, else each got a front
abbrev pub Gets : {R N E F : Type 0} → Result (Unit {0}) F → (R → List LaidRow → R → Type 0) → (R → List LaidRow → R → Type 0)
    → (N → List Message → N → Type 0) → (N → List Message → N → Type 0) → R → R → N → N → Laid E → Type 0
Gets res row_gave row_within note_gave note_within r r' n n' given =
    MatchResult res (λ _. Gave row_gave note_gave r r' n n' given) (λ _. Gave row_within note_within r r' n n' given)

-- a backslash (92)
abbrev pub is_backslash : ℕ → Bool
is_backslash byte = byte == 92

-- a byte that after a backslash begins a comment (" 34, # 35), ends a block (} 125) or may begin an interpolation (* 42, n 110, $ 36, w 119)
abbrev pub is_key : ℕ → Bool
is_key byte = byte == 34 || (byte == 35 || (byte == 125 || (byte == 42 || (byte == 110 || (byte == 36 || byte == 119)))))

-- whether a backslash and such a byte are at a place
abbrev pub key_at : List ℕ → ℕ → Bool
key_at line k = is_backslash (get_or line k 0) && is_key (get_or line (k + 1) 0)

-- nowhere in a line, so no comment, no end of a block and no interpolation begins in it
abbrev pub IsFreeLine : List ℕ → Type 0
IsFreeLine line = (k : ℕ) → k + 1 < length line → key_at line k ≡ false

-- a line of the program, with what its text holds
abbrev pub line_view : Taken → TakenLine
line_view taken = record { form = taken.form; text = taken.text.now; number = taken.line; name_end = taken.name_end }

-- of every plan these items came, or a fault keeps them away; an item is a piece or a message, a message alone, or an event of a macro set
abbrev pub Came : {P S I : Type 0} → (P → S → List I → Type 0) → S → List I → S → Type 0
Came {P} {S} {I} left s items t = (plan : P) (rest : List I) → left plan s (items ++ rest) → left plan t rest

-- `Came` of a part of a call: what was to come, and what still is
abbrev pub CameUpTo : {P S I : Type 0} → (P → S → List I → Type 0) → S → List I → List I → S → Type 0
CameUpTo {P} {S} {I} left s all next t = (plan : P) (rest : List I) → left plan s (all ++ rest) → left plan t (next ++ rest)

-- a public call over a sink: at Ok these items came, and no other; else a front of them came, and then the fault
abbrev pub Emits : {S A F : Type 0} → Result A F → (S → List Item → S → Type 0) → (S → F → List Item → S → Type 0) → S → List Item → S → Type 0
Emits r gave broke s items t = MatchResult r (λ _. gave s items t) (λ fault. broke s fault items t)

-- ---- rows and messages

-- of every plan these rows and messages came, or a fault keeps them away
abbrev pub CameRows : {P S : Type 0} → (P → S → List LaidRow → List Message → Type 0) → S → List LaidRow → List Message → S → Type 0
CameRows {P} left s rows notes t =
    (plan : P) (more : List LaidRow) (said : List Message) → left plan s (rows ++ more) (notes ++ said) → left plan t more said

-- `CameRows` of a part of a call
abbrev pub CameRowsUpTo : {P S E : Type 0} → (P → S → List LaidRow → List Message → Type 0) → S → Laid E → Laid E → S → Type 0
CameRowsUpTo {P} left s all next t =
    (plan : P) (more : List LaidRow) (said : List Message) → left plan s (all.rows ++ more) (all.notes ++ said) → left plan t (next.rows ++ more) (next.notes ++ said)

-- `CameRows` of what is laid, which leads to an edge
abbrev pub LaysOut : {P S E : Type 0} → (P → S → List LaidRow → List Message → Type 0) → S → Laid E → S → E → Type 0
LaysOut left s given t edge = CameRows left s given.rows given.notes t × (edge ≡ given.edge)

-- gave s xs t: from s to t these items came, and no other. within s xs t: a front of them came, perhaps a part of an item at its end.
pub record IsSink {S I : Type 0} (gave within : S → List I → S → Type 0) : Type 0 where
  pub none : (s : S) → gave s [] s
  pub more : (s t u : S) (xs ys : List I) → gave s xs t → gave t ys u → gave s (xs ++ ys) u
  pub after : (s t u : S) (xs ys : List I) → gave s xs t → within t ys u → within s (xs ++ ys) u
  pub before : (s t : S) (xs ys : List I) → within s xs t → within s (xs ++ ys) t

-- what a call did that was given items
abbrev pub Gives : {S I E : Type 0} → Result (Unit {0}) E → (S → List I → S → Type 0) → (S → List I → S → Type 0) → S → List I → S → Type 0
Gives r gave within s xs t = MatchResult r (λ _. gave s xs t) (λ _. within s xs t)

-- of all, everything came but the rest
pub record UpTo {S I : Type 0} (gave : S → List I → S → Type 0) (s : S) (all rest : List I) (t : S) : Type 0 where
  pub done : List I
  pub parts : all ≡ done ++ rest
  pub given : gave s done t
