-- Pieces are laid as rows without control characters, whatever they hold.
use Rattle.std.specs.Bool.{⊤}
use Rattle.std.specs.List.{All, list_all}
use Rattle.std.proofs.Common.{◌≡◌, ℕ, ◌==◌, ◌&&◌, ◌||◌, ◌++◌, ◌+◌, ◌-◌, ◌%◌, not, nat_lt, nat_le, min, Bool, true, false, cond, List, [], ◌∷◌, length, map, flat_map, replicate, inl, inr, refl, Option, None, Some}
use Rattle.std.proofs.lemmas.Bool.{cases_Bool}
use Rattle.std.proofs.lemmas.List.Elements.{All-nil, All-cons, All-append, All-replicate, All-map, All-weaker}
use Rattle.std.proofs.lemmas.List.Sums.{AllPass-from_list_all}
use Rattle.page_core_base.specs.Bytes.{ascii}
use Rattle.page_core_base.specs.Messages.{Message}
use Rattle.page_core_base.specs.Rows as items
use Rattle.page_core_base.specs.Rows.{LaidRow, row_of, Laid, nothing, seq, Item}
use Rattle.page_core_base.specs.Texts.{characters_of}
use Rattle.page_core_base.specs.declared.cells.Cell.{Cell}
use Rattle.page_core_base.specs.declared.cells.Font.{Font}
use Rattle.page_core_base.specs.declared.page_settings.Output.{Output}
use Rattle.page_core_base.specs.declared.pieces.Piece.{Piece}
use Rattle.page_core_base.specs.declared.pieces.Piece.TheVariants.{Text, Glyph, Char, Blank, Glue, Split, Tab, Break, RowEnd, Para, Space, Indent, Literal, Tag, TagEnd, Heading, Column}
use Rattle.page_core_base.specs.declared.pieces.TagForm.{TagForm}
use Rattle.page_core_base.specs.declared.pieces.TagForm.TheVariants as forms
use Rattle.page_core_base.specs.declared.places.Place.{Place}
use Rattle.page_core_tables.specs.Glyphs.{is_control}
use Rattle.page_core_tables.specs.Glyphs.{Printing, char_printed, glyph_printed}
use Rattle.page_core_tables.proofs.Tables.{char-shown, glyph-printed-shown}
use Rattle.page_fill_cells.specs.Cells.{blank, columns, cell_of, cells_of}
use Rattle.page_fill_rows.specs.OpenRows.{Sheet, over, unknown_notes}
use Rattle.page_fill.specs.Filled.{CellOrNote, shown, noted, RowWord, rest_of_word, filling, row_ended}
use Rattle.page_fill.specs.Filling.{Group, words, other, groups, groups_laid, filled, other_laid, row_end, blank_rows, placed, after_tag, tag_end, stop_content, HANG_MAX, TAB_STOP}
use Rattle.page_fill.specs.Words.{RowWords, no_word, cell_content, printed_content, text_content, tab_content, tab_notes, word_of, and_then, parted, words_from, words_of, word_after, after_cell, going_on, next_edge, words_laid, word_after_items, content_laid, with_tag}
use Rattle.page_fill.specs.declared.edges.FillEdge.{FillEdge}
use Rattle.page_fill.specs.declared.edges.OpenTag.{OpenTag}
use Rattle.page_fill.specs.declared.edges.OpenWord.{OpenWord}
use Rattle.page_laws.specs.Shown.{AreShown, AreShownRows}
use Rattle.page_laws.proofs.ShownLemmas.{IsShownCell, IsShownRow, IsShownContent, AreShownParts, IsShownWord, Shows, nothing-shows, seq-shows, ended-shows, rest-shows, filling-shows}

-- ---- what is printed

notes-shown : (messages : List Message) → AreShownParts (map noted messages)
notes-shown messages = All-map IsShownContent noted messages (λ k d h. tt)

cells-shown : (place : Place) (cells : List Cell) → AreShown cells → AreShownParts (cell_content place cells)
cells-shown place cells h = All-map IsShownContent (λ (cell : Cell). shown cell place) cells h

blanks-shown : (place : Place) (count : ℕ) → AreShownParts (cell_content place (replicate count blank))
blanks-shown place count = cells-shown place (replicate count blank) (All-replicate IsShownCell count blank refl)

abbrev is_shown : ℕ → Bool
is_shown c = not (is_control c)

not-true : (b : Bool) → not b ≡ true → b ≡ false
not-true true h = cc
not-true false h = refl

in-font : (font : Font) (cs : List ℕ) → list_all is_shown cs ≡ true → AreShown (cells_of font cs)
in-font font cs h =
    All-map IsShownCell (cell_of font) cs
    (All-weaker (λ (c : ℕ). is_shown c ≡ true) (λ (c : ℕ). is_control c ≡ false) (λ c. not-true (is_control c)) cs (AllPass-from_list_all is_shown cs h))

printed-shown : (printing : Printing) (font : Font) (place : Place) → list_all is_shown printing.characters ≡ true
    → AreShownParts (printed_content printing font place)
printed-shown printing font place h =
    All-append IsShownContent (map noted (unknown_notes printing.unknown place)) (cell_content place (cells_of font printing.characters))
    (notes-shown (unknown_notes printing.unknown place)) (cells-shown place (cells_of font printing.characters) (in-font font printing.characters h))

text-shown : (output : Output) (cs : List ℕ) (font : Font) (place : Place) → AreShownParts (text_content output cs font place)
unfolding text_content
text-shown output [] font place = All-nil IsShownContent
text-shown output (c ∷ cs) font place =
    All-append IsShownContent (printed_content (char_printed output c) font place) (text_content output cs font place)
    (printed-shown (char_printed output c) font place (char-shown output c)) (text-shown output cs font place)

tab-shown : (reported : Bool) (font : Font) (place : Place) → AreShownParts (tab_content reported font place)
tab-shown reported font place =
    All-append IsShownContent (map noted (tab_notes (not reported) place)) (shown (cell_of font (ascii " ")) place ∷ [])
    (notes-shown (tab_notes (not reported) place)) (All-cons IsShownContent (shown (cell_of font (ascii " ")) place) [] refl (All-nil IsShownContent))

-- ---- words

record ShowsWords (w : RowWords) : Type 0 where
  first : AreShownParts w.first
  later : All IsShownWord w.later

of-shown : (literal empty : Bool) (w : OpenWord) (place : Place) (content : List CellOrNote) → AreShownParts content → IsShownWord (word_of literal empty w place content)
of-shown literal empty w place content h =
    elim (cases_Bool (literal || (w.is_placed && empty))) [
      | inl cells ↦ rw cells (All-append IsShownContent (cell_content place (replicate w.blanks blank)) content (blanks-shown place w.blanks) h)
      | inr blanks ↦ rw blanks h
    ]

then-shown : (literal empty : Bool) (w : OpenWord) (place : Place) (content : List CellOrNote) (rest : RowWords) → AreShownParts content → ShowsWords rest
    → ShowsWords (and_then literal empty w place content rest)
then-shown literal empty w place content rest h r =
    let all = All-append IsShownContent content rest.first h r.first in
    elim (cases_Bool w.is_joined) [
      | inl joined ↦ rw joined (record { first = all; later = r.later })
      | inr begins ↦ rw begins (record {
        first = All-nil IsShownContent;
        later = All-cons IsShownWord (word_of literal empty w place (content ++ rest.first)) rest.later (of-shown literal empty w place (content ++ rest.first) all) r.later;
      })
    ]

parted-shown : (rest : RowWords) → ShowsWords rest → ShowsWords (parted rest)
parted-shown rest r = record {
  first = All-nil IsShownContent;
  later = All-cons IsShownWord (record { notes = []; blanks = 0; place = record { line = 0; column = 0 }; content = rest.first }) rest.later r.first r.later;
}

from-shown : (output : Output) (literal empty : Bool) (w : OpenWord) (piece : Piece (List ℕ)) (rest : RowWords) → ShowsWords rest
    → ShowsWords (words_from output literal empty w piece rest)
from-shown output literal empty w (Text bytes font place) rest r =
    elim (cases_Bool (length (characters_of bytes) == 0)) [
      | inl none ↦ rw none r
      | inr some ↦ rw some (then-shown literal empty w place (text_content output (characters_of bytes) font place) rest (text-shown output (characters_of bytes) font place) r)
    ]
from-shown output literal empty w (Glyph name font place) rest r =
    then-shown literal empty w place (printed_content (glyph_printed output name) font place) rest (printed-shown (glyph_printed output name) font place (glyph-printed-shown output name)) r
from-shown output literal empty w (Char c font place) rest r =
    then-shown literal empty w place (printed_content (char_printed output c) font place) rest (printed-shown (char_printed output c) font place (char-shown output c)) r
from-shown output literal empty w (Tab font place) rest r =
    then-shown literal empty w place (tab_content (after_cell literal w).is_reported font place) rest (tab-shown (after_cell literal w).is_reported font place) r
from-shown output literal empty w Split rest r =
    elim (cases_Bool (w.is_joined && not literal)) [
      | inl parts ↦ rw parts (parted-shown rest r)
      | inr none ↦ rw none r
    ]
from-shown output literal empty w (Blank count has_tab) rest r = r
from-shown output literal empty w Glue rest r = r
from-shown output literal empty w Break rest r = r
from-shown output literal empty w RowEnd rest r = r
from-shown output literal empty w (Para n) rest r = r
from-shown output literal empty w (Space n) rest r = r
from-shown output literal empty w (Indent first later) rest r = r
from-shown output literal empty w (Literal is) rest r = r
from-shown output literal empty w (Tag hang form) rest r = r
from-shown output literal empty w TagEnd rest r = r
from-shown output literal empty w Heading rest r = r
from-shown output literal empty w (Column n) rest r = r

words-shown : (output : Output) (literal empty : Bool) (w : OpenWord) (all : List Item) → ShowsWords (words_of output literal empty w all)
unfolding words_of
words-shown output literal empty w [] = record { first = All-nil IsShownContent; later = All-nil IsShownWord }
words-shown output literal empty w (items.noted m ∷ more) =
    let rest = words-shown output literal empty w more in
    record { first = All-cons IsShownContent (noted m) (words_of output literal empty w more).first tt rest.first; later = rest.later }
words-shown output literal empty w (items.shown p ∷ more) =
    from-shown output literal empty w p (words_of output literal empty (word_after literal w p) more) (words-shown output literal empty (word_after literal w p) more)

-- ---- pieces

-- what an edge lays has no control characters, and neither has its open row
pub record ShowsFilled (l : Laid FillEdge) : Type 0 where
  pub rows : AreShownRows l.rows
  pub cells : AreShown l.edge.sheet.cells

either-shows : (is_first : Bool) (first second : Laid FillEdge) → ShowsFilled first → ShowsFilled second → ShowsFilled (cond is_first first second)
either-shows true first second h k = h
either-shows false first second h k = k

still : (e : FillEdge) → AreShown e.sheet.cells → ShowsFilled (nothing e)
still e h = record { rows = All-nil IsShownRow; cells = h }

pub one-after : (l : Laid FillEdge) (f : FillEdge → Laid FillEdge) → ShowsFilled l → ((e : FillEdge) → AreShown e.sheet.cells → ShowsFilled (f e)) → ShowsFilled (seq l f)
one-after l f h next =
    let then = next l.edge h.cells in
    record { rows = All-append IsShownRow l.rows (f l.edge).rows h.rows then.rows; cells = then.cells }

next-shows : (e : FillEdge) (w : OpenWord) (l : Laid Sheet) → Shows l → ShowsFilled (next_edge e w l)
next-shows e w l h = record { rows = h.rows; cells = h.cells }

going-shows : (s : Sheet) (found : RowWords) → AreShown s.cells → ShowsWords found → Shows (going_on s found)
going-shows s found h w =
    seq-shows (rest_of_word s found.first) (λ t. filling t found.later) (rest-shows s found.first h w.first) (λ t k. filling-shows t found.later k w.later)

words-laid-show : (e : FillEdge) (all : List Item) → AreShown e.sheet.cells → ShowsFilled (words_laid e all)
unfolding words_laid
words-laid-show e all h =
    let literal = e.sheet.literal in
    let found = words_of e.output literal (length e.sheet.cells == 0) e.word all in
    next-shows e (word_after_items literal e.word all) (going_on e.sheet found) (going-shows e.sheet found h (words-shown e.output literal (length e.sheet.cells == 0) e.word all))

content-laid-shows : (e : FillEdge) (place : Place) (content : List CellOrNote) → AreShown e.sheet.cells → AreShownParts content → ShowsFilled (content_laid e place content)
unfolding content_laid
content-laid-shows e place content h c =
    let literal = e.sheet.literal in
    let none : RowWords = record { first = []; later = [] } in
    let found = and_then literal (length e.sheet.cells == 0) e.word place content none in
    next-shows e (after_cell literal e.word) (going_on e.sheet found)
    (going-shows e.sheet found h
    (then-shown literal (length e.sheet.cells == 0) e.word place content none c (record { first = All-nil IsShownContent; later = All-nil IsShownWord })))

open-row-shows : (is_none : Bool) (e : FillEdge) → AreShown e.sheet.cells → ShowsFilled (next_edge e no_word (cond is_none (nothing e.sheet) (row_ended e.sheet e.sheet.cells)))
open-row-shows true e h = still (record e { word = no_word }) h
open-row-shows false e h = next-shows e no_word (row_ended e.sheet e.sheet.cells) (ended-shows e.sheet e.sheet.cells h)

pub end-shows : (e : FillEdge) → AreShown e.sheet.cells → ShowsFilled (row_end e)
end-shows e h = open-row-shows (length e.sheet.cells == 0) e h

blank-rows-show : (e : FillEdge) (n : ℕ) → AreShown e.sheet.cells → ShowsFilled (blank_rows e n)
blank-rows-show e n h = record { rows = All-replicate IsShownRow n (row_of 0 []) (All-nil IsShownCell); cells = h }

placed-shows : (e : FillEdge) (n : ℕ) → AreShown e.sheet.cells → ShowsFilled (placed e n)
placed-shows e n h = record { rows = All-nil IsShownRow; cells = h }

after-tag-shows : (e : FillEdge) (tag : OpenTag) → AreShown e.sheet.cells → ShowsFilled (after_tag e tag)
after-tag-shows e tag h =
    let hang = min tag.hang HANG_MAX in
    either-shows (nat_le (e.sheet.tag_columns + 1) hang) (placed e (hang - e.sheet.tag_columns)) (cond tag.ends_row (row_end e) (placed e 1))
    (placed-shows e (hang - e.sheet.tag_columns) h)
    (either-shows tag.ends_row (row_end e) (placed e 1) (end-shows e h) (placed-shows e 1 h))

tag-end-shows : (e : FillEdge) (set_in : Option ℕ) (tag : Option OpenTag) → AreShown e.sheet.cells → ShowsFilled (tag_end e set_in tag)
tag-end-shows e (Some blanks) tag h = placed-shows (record e { set_in = None }) (cond (length e.sheet.cells == 0) 0 blanks) h
tag-end-shows e None None h = end-shows (record e { tag = None }) h
tag-end-shows e None (Some tag) h =
    let without = record e { tag = None } in
    either-shows e.sheet.tag_begun (after_tag without tag) (nothing (record e { tag = None; word = no_word }))
    (after-tag-shows without tag h) (still (record e { tag = None; word = no_word }) h)

with-tag-shows : (e : FillEdge) (hang : ℕ) (form : TagForm) → AreShown e.sheet.cells → ShowsFilled (nothing (with_tag e hang form))
with-tag-shows e hang forms.Row h = record { rows = All-nil IsShownRow; cells = h }
with-tag-shows e hang forms.Hang h = record { rows = All-nil IsShownRow; cells = h }
with-tag-shows e hang (forms.Inset n) h = record { rows = All-nil IsShownRow; cells = h }

heading-shows : (is_none : Bool) (l : Laid FillEdge) → ShowsFilled l → ShowsFilled (over l (λ f. cond is_none f (record f { sheet = record f.sheet { heading = true } })))
heading-shows true l h = record { rows = h.rows; cells = h.cells }
heading-shows false l h = record { rows = h.rows; cells = h.cells }

other-shows : (e : FillEdge) (p : Piece (List ℕ)) → AreShown e.sheet.cells → ShowsFilled (other_laid e p)
unfolding other_laid
other-shows e Break h = end-shows e h
other-shows e RowEnd h =
    either-shows (length e.sheet.cells == 0) (seq (row_end e) (λ f. blank_rows f 1)) (row_end e)
    (one-after (row_end e) (λ f. blank_rows f 1) (end-shows e h) (λ f k. blank-rows-show f 1 k)) (end-shows e h)
other-shows e (Para n) h =
    one-after (row_end e) (λ f. blank_rows f (cond f.sheet.heading 0 (n - f.sheet.blank_rows))) (end-shows e h)
    (λ f k. blank-rows-show f (cond f.sheet.heading 0 (n - f.sheet.blank_rows)) k)
other-shows e (Space n) h = one-after (row_end e) (λ f. blank_rows f n) (end-shows e h) (λ f k. blank-rows-show f n k)
other-shows e Heading h = heading-shows (length e.sheet.cells == 0) (row_end e) (end-shows e h)
other-shows e (Indent first rest) h = record { rows = All-nil IsShownRow; cells = h }
other-shows e (Literal literal) h = record { rows = All-nil IsShownRow; cells = h }
other-shows e (Tag hang form) h = with-tag-shows e hang form h
other-shows e TagEnd h = tag-end-shows e e.set_in e.tag h
other-shows e (Column n) h = placed-shows e (cond (length e.sheet.cells == 0) n (cond (nat_lt (columns e.sheet.cells) n) (n - columns e.sheet.cells) 1)) h
other-shows e (Tab font place) h =
    let kept = seq (content_laid e place []) (λ f. content_laid f place (stop_content f.sheet.cells place)) in
    either-shows e.sheet.literal kept (words_laid e (items.shown (Tab font place) ∷ []))
    (one-after (content_laid e place []) (λ f. content_laid f place (stop_content f.sheet.cells place))
    (content-laid-shows e place [] h (All-nil IsShownContent))
    (λ f k. content-laid-shows f place (stop_content f.sheet.cells place) k (blanks-shown place (TAB_STOP - columns f.sheet.cells % TAB_STOP))))
    (words-laid-show e (items.shown (Tab font place) ∷ []) h)
other-shows e (Text bytes font place) h = words-laid-show e (items.shown (Text bytes font place) ∷ []) h
other-shows e (Glyph name font place) h = words-laid-show e (items.shown (Glyph name font place) ∷ []) h
other-shows e (Char c font place) h = words-laid-show e (items.shown (Char c font place) ∷ []) h
other-shows e (Blank count has_tab) h = words-laid-show e (items.shown (Blank count has_tab) ∷ []) h
other-shows e Glue h = words-laid-show e (items.shown Glue ∷ []) h
other-shows e Split h = words-laid-show e (items.shown Split ∷ []) h

groups-show : (e : FillEdge) (all : List Group) → AreShown e.sheet.cells → ShowsFilled (groups_laid e all)
unfolding groups_laid
groups-show e [] h = still e h
groups-show e (words all ∷ more) h = one-after (words_laid e all) (λ f. groups_laid f more) (words-laid-show e all h) (λ f k. groups-show f more k)
groups-show e (other p ∷ more) h = one-after (other_laid e p) (λ f. groups_laid f more) (other-shows e p h) (λ f k. groups-show f more k)

pub filled-shows : (e : FillEdge) (all : List Item) → AreShown e.sheet.cells → ShowsFilled (filled e all)
filled-shows e all h = groups-show e (groups all) h
