-- A word that goes on is never one that is placed.
use Rattle.std.proofs.Common.{◌≡◌, ℕ, ◌==◌, true, false, not, ◌&&◌, List, length, Option, None, Some, inl, inr, refl, arith}
use Rattle.std.proofs.lemmas.Bool.{cases_Bool}
use Rattle.page_core_base.specs.Texts.{characters_of}
use Rattle.page_core_base.specs.declared.cells.Font.{Font}
use Rattle.page_core_base.specs.declared.pieces.Piece.{Piece}
use Rattle.page_core_base.specs.declared.pieces.Piece.TheVariants.{Text, Glyph, Char, Tab, Blank, Glue, Split, RowEnd, Indent, Literal, Tag, TagEnd, Heading}
use Rattle.page_core_base.specs.declared.places.Place.{Place}
use Rattle.page_core_base.specs.declared.pieces.TagForm.TheVariants as forms
use Rattle.page_fill.specs.declared.edges.OpenTag.{OpenTag}
use Rattle.page_fill.specs.declared.edges.FillEdge.{FillEdge}
use Rattle.page_fill.specs.machine.Fill.{laid_piece, text, one_character, one_glyph, tab, opening, ended, paragraph, spaced, row_ended, heading, tag_ended, tag_end, without_tag}
use Rattle.page_fill.specs.laws.Views.{is_sound}
use Rattle.page_fill.proofs.MarkedPieces.{sound-after}

opening-sound : (e : FillEdge) (place : Place) → is_sound e.word ≡ true → is_sound (opening e place).edge.word ≡ true
unfolding opening
opening-sound e place h = elim (cases_Bool e.word.is_joined) [ inl j ↦ rw j (rw j at h) | inr j ↦ rw j refl ]

text-sound : (e : FillEdge) (cs : List ℕ) (font : Font) (place : Place) → is_sound e.word ≡ true → is_sound (text e cs font place).edge.word ≡ true
unfolding text
text-sound e cs font place h = elim (cases_Bool (length cs == 0)) [ inl z ↦ rw z h | inr z ↦ rw z (opening-sound e place h) ]

character-sound : (e : FillEdge) (c : ℕ) (font : Font) (place : Place) → is_sound e.word ≡ true → is_sound (one_character e c font place).edge.word ≡ true
unfolding one_character
character-sound e c font place h = opening-sound e place h

glyph-sound : (e : FillEdge) (name : List ℕ) (font : Font) (place : Place) → is_sound e.word ≡ true → is_sound (one_glyph e name font place).edge.word ≡ true
unfolding one_glyph
glyph-sound e name font place h = opening-sound e place h

tab-sound : (e : FillEdge) (font : Font) (place : Place) → is_sound e.word ≡ true → is_sound (tab e font place).edge.word ≡ true
unfolding tab
tab-sound e font place h = elim (cases_Bool (opening e place).edge.sheet.literal) [ inl l ↦ rw l (opening-sound e place h) | inr l ↦ rw l (opening-sound e place h) ]

row_ended-sound : (e : FillEdge) → is_sound (row_ended e).edge.word ≡ true
unfolding row_ended ended spaced
row_ended-sound e = elim (cases_Bool (length e.sheet.cells == 0)) [ inl z ↦ rw z refl | inr z ↦ rw z refl ]

heading-sound : (e : FillEdge) → is_sound (heading e).edge.word ≡ true
unfolding heading ended
heading-sound e = elim (cases_Bool (length e.sheet.cells == 0)) [ inl z ↦ rw z refl | inr z ↦ rw z refl ]

tag-sound : (e : FillEdge) (tag : Option OpenTag) → is_sound e.word ≡ true → is_sound (tag_ended e tag).edge.word ≡ true
unfolding ended
tag-sound e None h = refl
tag-sound e (Some t) h = grind arith

tag_end-sound : (e : FillEdge) (set_in : Option ℕ) → is_sound e.word ≡ true → is_sound (tag_end e set_in).edge.word ≡ true
tag_end-sound e None h = tag-sound (without_tag e) e.tag h
tag_end-sound e (Some blanks) h = refl

pub piece-sound : (e : FillEdge) (p : Piece (List ℕ)) → is_sound e.word ≡ true → is_sound (laid_piece e p).edge.word ≡ true
unfolding laid_piece ended paragraph spaced
piece-sound e (Text bytes font place) h = text-sound e (characters_of bytes) font place h
piece-sound e (Glyph name font place) h = glyph-sound e name font place h
piece-sound e (Char c font place) h = character-sound e c font place h
piece-sound e (Tab font place) h = tab-sound e font place h
piece-sound e (Blank count has_tab) h = sound-after false e.word (Blank count has_tab) h
piece-sound e Glue h = sound-after false e.word Glue h
piece-sound e Split h = elim (cases_Bool (e.word.is_joined && not e.sheet.literal)) [ inl b ↦ rw b h | inr b ↦ rw b h ]
piece-sound e RowEnd h = row_ended-sound e
piece-sound e (Indent first rest) h = h
piece-sound e (Literal b) h = h
piece-sound e (Tag hang forms.Row) h = h
piece-sound e (Tag hang forms.Hang) h = h
piece-sound e (Tag hang (forms.Inset n)) h = h
piece-sound e TagEnd h = tag_end-sound e e.set_in h
piece-sound e Heading h = heading-sound e
piece-sound e _ h = refl
