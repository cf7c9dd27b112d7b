-- What a reader of pieces keeps.
use Rattle.std.proofs.Common.{◌≡◌, ℕ, ◌+◌, ◌<◌, ◌≤◌, nat_lt, false, List, [], ◌∷◌, ◌++◌, length, drop, get_or, inl, inr, refl, sym, arith, add-one, drop-cons, Result, Ok, Err, zero, suc, Bool, true, take, map, ap, ◌∙◌, append_assoc, append-nil, length-append, length-take, ◌==◌, Some, if◌then◌else◌}
use Rattle.std.proofs.lemmas.Bool.{cases_Bool}
use Rattle.std.proofs.lemmas.List.{drop_all, take-append-le, take-take, map-append}
use Rattle.page_core_base.specs.laws.Views.{Emits}
use Rattle.page_core_base.specs.Rows.{Item, noted, shown}
use Rattle.page_core_base.specs.declared.faults.Fault.{Fault}
use Rattle.page_engine_records.proofs.NameLemmas.{without_room}
use Rattle.page_engine_records.specs.NameTexts.{TEXT, Sign, character, gap, joint, paragraph, heading, is_headed, text_after, text_of, up_to_heading, after_name, characters, kept_text, margin_after, name_text, piece_signs, signs_of}
use Rattle.page_engine_records.specs.machine.NameTexts.{read, spaced, with_byte, with_character, with_characters, apart, has_ended, is_after, kept_by, kept_of, read_piece, reader_at, taken, with_paragraph, with_top_heading, Never, Took}
use Rattle.page_engine_records.specs.declared.name_readers.NameReader.{NameReader}
use Rattle.std.specs.Prelude.{codes, filter, option_map}
use Rattle.std.specs.Str.{bytes_eq}
use Rattle.std.proofs.Math.Path.{subst}
use Rattle.std.proofs.Math.Seq.{take-length}
use Rattle.page_core_base.specs.Texts.{characters_of}
use Rattle.page_core_base.specs.declared.cells.Font.{Font}
use Rattle.page_core_base.specs.declared.page_settings.Output.TheVariants.{Ascii}
use Rattle.page_core_base.specs.declared.places.Place.{Place}
use Rattle.page_core_base.specs.declared.pieces.Piece.{Piece}
use Rattle.page_core_base.specs.declared.pieces.Piece.TheVariants.{Text, Glyph, Char, Split, Para, Indent, Literal, Tag, Heading}
use Rattle.page_core_tables.specs.Glyphs.{char_printed, glyph_printed}
use Rattle.page_scopes_words.specs.Words.{plain_printed, token_printed}
use Rattle.page_engine_header.specs.Header.{in_font, tokens_items}
use Rattle.page_core_escapes.specs.Tokens.{TextToken}
use Rattle.page_scopes_words.specs.Fonts.{token_fonts}
use Rattle.page_scopes_words.specs.declared.fonts.Fonts.{Fonts}
use Rattle.page_engine_records.specs.declared.name_readers.Side.{Side}
use Rattle.page_engine_records.specs.declared.name_readers.Side.TheVariants.{Before, Inside, After}

-- ---- a blank that waits

pub spaced_joined : (text : List ℕ) → spaced false text ≡ text
spaced_joined [] = refl
spaced_joined (byte ∷ bytes) = refl

-- ---- characters

pub characters-append : (r : NameReader) (xs ys : List ℕ) → with_characters r (xs ++ ys) ≡ with_characters (with_characters r xs) ys
unfolding with_characters
characters-append r [] ys = refl
characters-append r (x ∷ xs) ys = characters-append (with_character r x) xs ys

pub characters_none : (r : NameReader) → with_characters r [] ≡ r
unfolding with_characters
characters_none r = refl

pub characters_one : (r : NameReader) (c : ℕ) → with_characters r (c ∷ []) ≡ with_character r c
unfolding with_characters
characters_one r c = refl

pub characters_at : (r : NameReader) (xs : List ℕ) (i : ℕ) → i < length xs
    → with_characters r (drop i xs) ≡ with_characters (with_character r (get_or xs i 0)) (drop (i + 1) xs)
unfolding with_characters
characters_at r xs i h = rw (add-one, drop-cons xs i 0) refl

pub characters_end : (r : NameReader) (xs : List ℕ) (i : ℕ) → length xs ≤ i → with_characters r (drop i xs) ≡ r
characters_end r xs i h = rw (drop_all i xs h) (characters_none r)

-- ---- a text without room for more

full-character : (r : NameReader) (c : ℕ) → r.is_apart ≡ false → length r.text ≡ TEXT → with_character r c ≡ r
full-character r c joined full =
    let text : with_byte (spaced r.is_apart r.text) c ≡ r.text =
    rw (joined, spaced_joined) (without_room r.text c (omega (arith, full)) (omega (arith, full))) in
    elim (cases_Bool (nat_lt c 128)) [ inl ascii ↦ rw (ascii, text, sym joined) refl | inr other ↦ rw other refl ]

pub full-same : (r : NameReader) (cs : List ℕ) → r.is_apart ≡ false → length r.text ≡ TEXT → with_characters r cs ≡ r
unfolding with_characters
full-same r [] joined full = refl
full-same r (c ∷ cs) joined full = rw (full-character r c joined full) (full-same r cs joined full)

-- ---- a sink that never fails

pub came : {A : Type 0} (res : Result A Fault) (s t : NameReader) (items : List Item) → Emits res Took (λ r fault xs u. Never r xs u) s items t → t ≡ read s items
came (Ok x) s t items h = h
came (Err fault) s t items h = absurd h

-- ---- Signs one after another, and the texts of them.

-- ---- one list after another

-- whether a gap waits after signs
abbrev pub waits : Bool → List Sign → Bool
waits is_apart [] = is_apart
waits is_apart (character c ∷ signs) = waits false signs
waits is_apart (gap ∷ signs) = waits true signs
waits is_apart (joint ∷ signs) = waits false signs
waits is_apart (paragraph ∷ signs) = waits true signs
waits is_apart (heading ∷ signs) = waits is_apart signs

-- the text of signs after a text
abbrev pub more_text : List ℕ → (is_apart : Bool) → List Sign → List ℕ
more_text [] is_apart signs = text_of signs
more_text (byte ∷ bytes) is_apart signs = text_after is_apart signs

pub waits-append : (is_apart : Bool) (xs ys : List Sign) → waits is_apart (xs ++ ys) ≡ waits (waits is_apart xs) ys
waits-append is_apart [] ys = refl
waits-append is_apart (character c ∷ xs) ys = waits-append false xs ys
waits-append is_apart (gap ∷ xs) ys = waits-append true xs ys
waits-append is_apart (joint ∷ xs) ys = waits-append false xs ys
waits-append is_apart (paragraph ∷ xs) ys = waits-append true xs ys
waits-append is_apart (heading ∷ xs) ys = waits-append is_apart xs ys

text_after-append : (is_apart : Bool) (xs ys : List Sign) → text_after is_apart (xs ++ ys) ≡ text_after is_apart xs ++ text_after (waits is_apart xs) ys
text_after-append is_apart [] ys = refl
text_after-append true (character c ∷ xs) ys = ap (λ (t : List ℕ). 32 ∷ c ∷ t) (text_after-append false xs ys)
text_after-append false (character c ∷ xs) ys = ap (λ (t : List ℕ). c ∷ t) (text_after-append false xs ys)
text_after-append is_apart (gap ∷ xs) ys = text_after-append true xs ys
text_after-append is_apart (joint ∷ xs) ys = text_after-append false xs ys
text_after-append is_apart (paragraph ∷ xs) ys = text_after-append true xs ys
text_after-append is_apart (heading ∷ xs) ys = text_after-append is_apart xs ys

pub text_of-append : (is_apart : Bool) (xs ys : List Sign) → text_of (xs ++ ys) ≡ text_of xs ++ more_text (text_of xs) (waits is_apart xs) ys
text_of-append is_apart [] ys = refl
text_of-append is_apart (character c ∷ xs) ys = ap (λ (t : List ℕ). c ∷ t) (text_after-append false xs ys)
text_of-append is_apart (gap ∷ xs) ys = text_of-append true xs ys
text_of-append is_apart (joint ∷ xs) ys = text_of-append false xs ys
text_of-append is_apart (paragraph ∷ xs) ys = text_of-append true xs ys
text_of-append is_apart (heading ∷ xs) ys = text_of-append is_apart xs ys

-- ---- a sign

pub no_signs : (text : List ℕ) (is_apart : Bool) → text ++ more_text text is_apart [] ≡ text
no_signs [] is_apart = refl
no_signs (byte ∷ bytes) is_apart = append-nil (byte ∷ bytes)

pub more-gap : (text : List ℕ) (is_apart : Bool) (signs : List Sign) → more_text text is_apart (gap ∷ signs) ≡ more_text text true signs
more-gap [] is_apart signs = refl
more-gap (byte ∷ bytes) is_apart signs = refl

pub more-joint : (text : List ℕ) (is_apart : Bool) (signs : List Sign) → more_text text is_apart (joint ∷ signs) ≡ more_text text false signs
more-joint [] is_apart signs = refl
more-joint (byte ∷ bytes) is_apart signs = refl

pub more-paragraph : (text : List ℕ) (is_apart : Bool) (signs : List Sign) → more_text text is_apart (paragraph ∷ signs) ≡ more_text text true signs
more-paragraph [] is_apart signs = refl
more-paragraph (byte ∷ bytes) is_apart signs = refl

-- a text and a character
abbrev pub with_sign : List ℕ → (is_apart : Bool) → ℕ → List ℕ
with_sign text is_apart c = text ++ more_text text is_apart (character c ∷ [])

pub more-character : (text : List ℕ) (is_apart : Bool) (c : ℕ) (signs : List Sign)
    → text ++ more_text text is_apart (character c ∷ signs) ≡ with_sign text is_apart c ++ more_text (with_sign text is_apart c) false signs
more-character [] is_apart c signs = refl
more-character (byte ∷ bytes) true c signs = sym (append_assoc (byte ∷ bytes) (32 ∷ c ∷ []) (text_after false signs))
more-character (byte ∷ bytes) false c signs = sym (append_assoc (byte ∷ bytes) (c ∷ []) (text_after false signs))

-- ---- the front of a text

take-take-append : (n : ℕ) (xs ys : List ℕ) → take n (take n xs ++ ys) ≡ take n (xs ++ ys)
take-take-append zero xs ys = refl
take-take-append (suc n) [] ys = refl
take-take-append (suc n) (x ∷ xs) ys = ap (λ (l : List ℕ). x ∷ l) (take-take-append n xs ys)

pub character_kept : (text : List ℕ) (is_apart : Bool) (c : ℕ) → with_byte (spaced is_apart (take TEXT text)) c ≡ take TEXT (with_sign text is_apart c)
character_kept [] is_apart c = refl
character_kept (byte ∷ bytes) false c = take-take-append TEXT (byte ∷ bytes) (c ∷ [])
character_kept (byte ∷ bytes) true c =
    let text = byte ∷ bytes in
    take-take-append TEXT (take TEXT text ++ 32 ∷ []) (c ∷ [])
    ∙ (ap (λ (l : List ℕ). take TEXT l) (append_assoc (take TEXT text) (32 ∷ []) (c ∷ [])) ∙ take-take-append TEXT text (32 ∷ c ∷ []))

-- what is kept stays its front
pub front-same : (n front : ℕ) (xs ys : List ℕ) → front ≤ length (take n xs) → take front (take n (xs ++ ys)) ≡ take front (take n xs)
front-same n front xs ys h =
    let within : front ≤ n = omega (arith, h, length-take n xs) in
    let short : front ≤ length xs = omega (arith, h, length-take n xs) in
    take-take front n (xs ++ ys) within ∙ (take-append-le front xs ys short ∙ sym (take-take front n xs within))

pub front-longer : (n front : ℕ) (xs ys : List ℕ) → front ≤ length (take n xs) → front ≤ length (take n (xs ++ ys))
front-longer n front xs ys h = omega (arith, h, length-take n xs, length-take n (xs ++ ys), length-append xs ys)

-- the one word NAME is not cut
pub name-same : (text : List ℕ) → bytes_eq (take TEXT text) (codes "NAME") ≡ bytes_eq text (codes "NAME")
name-same [] = refl
name-same (a ∷ []) = refl
name-same (a ∷ b ∷ []) = refl
name-same (a ∷ b ∷ c ∷ []) = refl
name-same (a ∷ b ∷ c ∷ d ∷ []) = refl
name-same (a ∷ b ∷ c ∷ d ∷ e ∷ text) = refl

-- ---- characters alone

pub characters_headed : (cs : List ℕ) → is_headed (map character cs) ≡ false
characters_headed [] = refl
characters_headed (c ∷ cs) = characters_headed cs

pub characters_up_to : (cs : List ℕ) → up_to_heading (map character cs) ≡ map character cs
characters_up_to [] = refl
characters_up_to (c ∷ cs) = rw (characters_headed cs) (ap (λ (l : List Sign). character c ∷ l) (characters_up_to cs))

-- nothing is before the paragraph of a heading, where that is the first one
pub headed_none : (signs : List Sign) → is_headed signs ≡ true → up_to_heading signs ≡ []
headed_none [] h = let no : ⊥ = cc in absurd no
headed_none (character c ∷ signs) h = rw h refl
headed_none (gap ∷ signs) h = rw h refl
headed_none (joint ∷ signs) h = rw h refl
headed_none (paragraph ∷ signs) h = let no : ⊥ = cc in absurd no
headed_none (heading ∷ signs) h = refl

-- ---- What a reader of pieces keeps is the text of the section NAME.

-- ---- after the section NAME

piece_ended : (r : NameReader) (p : Piece (List ℕ)) → has_ended r ≡ true → read_piece r p ≡ r
unfolding read_piece
piece_ended r p h = rw h refl

pub read_ended : (r : NameReader) (items : List Item) → has_ended r ≡ true → read r items ≡ r
unfolding read
read_ended r [] h = refl
read_ended r (noted m ∷ items) h = read_ended r items h
read_ended r (shown p ∷ items) h = ap (λ (q : NameReader). read q items) (piece_ended r p h) ∙ read_ended r items h

-- ---- the reader, sign by sign

-- a character of ASCII
abbrev character_taken : NameReader → ℕ → NameReader
character_taken r c = record r { text = with_byte (spaced r.is_apart r.text) c; is_apart = false }

abbrev sign_taken : NameReader → Sign → NameReader
sign_taken r (character c) = character_taken r c
sign_taken r gap = apart r
sign_taken r joint = record r { is_apart = false }
sign_taken r paragraph = with_paragraph r.side r
sign_taken r heading = with_top_heading r.side r

abbrev signs_taken : NameReader → List Sign → NameReader
signs_taken r [] = r
signs_taken r (sign ∷ signs) = signs_taken (if has_ended r then r else sign_taken r sign) signs

signs_taken-append : (r : NameReader) (xs ys : List Sign) → signs_taken r (xs ++ ys) ≡ signs_taken (signs_taken r xs) ys
signs_taken-append r [] ys = refl
signs_taken-append r (x ∷ xs) ys = signs_taken-append (if has_ended r then r else sign_taken r x) xs ys

signs_ended : (r : NameReader) (signs : List Sign) → has_ended r ≡ true → signs_taken r signs ≡ r
signs_ended r [] h = refl
signs_ended r (sign ∷ signs) h = rw h (signs_ended r signs h)

sign_first : (r : NameReader) (sign : Sign) (signs : List Sign) → has_ended r ≡ false → signs_taken r (sign ∷ signs) ≡ signs_taken (sign_taken r sign) signs
sign_first r sign signs h = rw h refl

-- all but the margin, which signs know
abbrev left : NameReader → NameReader
left r = record r { margin = 0 }

ascii_taken : (r : NameReader) (c : ℕ) → nat_lt c 128 ≡ true → with_character r c ≡ character_taken r c
ascii_taken r c h = rw h refl

other_taken : (r : NameReader) (c : ℕ) → nat_lt c 128 ≡ false → with_character r c ≡ r
other_taken r c h = rw h refl

ascii_sign : (c : ℕ) (cs : List ℕ) → nat_lt c 128 ≡ true → characters (c ∷ cs) ≡ character c ∷ characters cs
ascii_sign c cs h = rw h refl

no_sign : (c : ℕ) (cs : List ℕ) → nat_lt c 128 ≡ false → characters (c ∷ cs) ≡ characters cs
no_sign c cs h = rw h refl

characters_taken : (r : NameReader) (cs : List ℕ) → has_ended r ≡ false → left (with_characters r cs) ≡ signs_taken (left r) (characters cs)
unfolding with_characters
characters_taken r [] h = refl
characters_taken r (c ∷ cs) h = elim (cases_Bool (nat_lt c 128)) [
  | inl ascii ↦
      ap (λ (q : NameReader). left (with_characters q cs)) (ascii_taken r c ascii)
      ∙ (characters_taken (character_taken r c) cs h
      ∙ (sym (sign_first (left r) (character c) (characters cs) h)
      ∙ ap (λ (signs : List Sign). signs_taken (left r) signs) (sym (ascii_sign c cs ascii))))
  | inr other ↦
      ap (λ (q : NameReader). left (with_characters q cs)) (other_taken r c other)
      ∙ (characters_taken r cs h ∙ ap (λ (signs : List Sign). signs_taken (left r) signs) (sym (no_sign c cs other)))
]

characters_margin : (r : NameReader) (cs : List ℕ) → (with_characters r cs).margin ≡ r.margin
unfolding with_characters
characters_margin r [] = refl
characters_margin r (c ∷ cs) = elim (cases_Bool (nat_lt c 128)) [
  | inl ascii ↦ ap (λ (q : NameReader). (with_characters q cs).margin) (ascii_taken r c ascii) ∙ characters_margin (character_taken r c) cs
  | inr other ↦ ap (λ (q : NameReader). (with_characters q cs).margin) (other_taken r c other) ∙ characters_margin r cs
]

heading_left : (side : Side) (r : NameReader) → left (with_top_heading side r) ≡ with_top_heading side (left r)
heading_left Before r = elim (cases_Bool (bytes_eq r.text (codes "NAME"))) [
  | inl is ↦ rw is refl
  | inr other ↦ rw other refl
]
heading_left _ r = refl

heading_margin : (side : Side) (r : NameReader) → (with_top_heading side r).margin ≡ r.margin
heading_margin Before r = elim (cases_Bool (bytes_eq r.text (codes "NAME"))) [
  | inl is ↦ rw is refl
  | inr other ↦ rw other refl
]
heading_margin _ r = refl

paragraph_left : (side : Side) (r : NameReader) → left (with_paragraph side r) ≡ with_paragraph side (left r)
paragraph_left Before r = refl
paragraph_left _ r = refl

paragraph_margin : (side : Side) (r : NameReader) → (with_paragraph side r).margin ≡ r.margin
paragraph_margin Before r = refl
paragraph_margin _ r = refl

piece_taken : (r : NameReader) (piece : Piece (List ℕ)) → has_ended r ≡ false → left (taken r piece) ≡ signs_taken (left r) (piece_signs r.margin piece)
piece_taken r (Text bytes font place) h = characters_taken r (plain_printed Ascii (characters_of bytes)) h
piece_taken r (Glyph name font place) h = characters_taken r (glyph_printed Ascii name).characters h
piece_taken r (Char c font place) h = characters_taken r (char_printed Ascii c).characters h
piece_taken r Split h = refl
piece_taken r (Para count) h = rw h (paragraph_left r.side r)
piece_taken r (Indent first rest) h = refl
piece_taken r (Literal is_literal) h = refl
piece_taken r (Tag hang form) h = refl
piece_taken r Heading h = elim (cases_Bool (r.margin == 0)) [
  | inl top ↦ rw (top, h) (heading_left r.side r)
  | inr within ↦ rw (within, h) refl
]
piece_taken r _ h = rw h refl

margin_taken : (r : NameReader) (piece : Piece (List ℕ)) → (taken r piece).margin ≡ margin_after r.margin piece
margin_taken r (Text bytes font place) = characters_margin r (plain_printed Ascii (characters_of bytes))
margin_taken r (Glyph name font place) = characters_margin r (glyph_printed Ascii name).characters
margin_taken r (Char c font place) = characters_margin r (char_printed Ascii c).characters
margin_taken r (Para count) = paragraph_margin r.side r
margin_taken r Heading = elim (cases_Bool (r.margin == 0)) [
  | inl top ↦ rw top (heading_margin r.side r)
  | inr within ↦ rw within refl
]
margin_taken r _ = refl

items_ended : (r : NameReader) (items : List Item) → has_ended r ≡ true → left (read r items) ≡ signs_taken (left r) (signs_of r.margin items)
items_ended r items h = ap (λ (q : NameReader). left q) (read_ended r items h) ∙ sym (signs_ended (left r) (signs_of r.margin items) h)

piece_read : (r : NameReader) (piece : Piece (List ℕ)) → has_ended r ≡ false → read_piece r piece ≡ taken r piece
unfolding read_piece
piece_read r piece h = rw h refl

items_taken : (r : NameReader) (items : List Item) → left (read r items) ≡ signs_taken (left r) (signs_of r.margin items)
unfolding read signs_of
items_taken r [] = refl
items_taken r (noted message ∷ items) = items_taken r items
items_taken r (shown piece ∷ items) = elim (cases_Bool (has_ended r)) [
  | inl ended ↦ items_ended r (shown piece ∷ items) ended
  | inr on ↦
      let next = taken r piece in
      ap (λ (q : NameReader). left (read q items)) (piece_read r piece on)
      ∙ (items_taken next items
      ∙ (ap (λ (q : NameReader). signs_taken q (signs_of next.margin items)) (piece_taken r piece on)
      ∙ (ap (λ (margin : ℕ). signs_taken (signs_taken (left r) (piece_signs r.margin piece)) (signs_of margin items)) (margin_taken r piece)
      ∙ sym (signs_taken-append (left r) (piece_signs r.margin piece) (signs_of (margin_after r.margin piece) items)))))
]

-- ---- inside the section

-- what is kept of a section, where the text comes after another; before the front of it is a paragraph
abbrev inside_text : (text : List ℕ) (is_apart : Bool) (front : List ℕ) (signs : List Sign) → List ℕ
inside_text text is_apart front signs = if is_headed signs then front else take TEXT (text ++ more_text text is_apart (up_to_heading signs))

-- a sign that neither begins a paragraph nor ends one, and leaves the front as it is
step : (text text' front front' : List ℕ) (is_apart is_apart' : Bool) (sign : Sign) (signs : List Sign)
    → front' ≡ front → is_headed (sign ∷ signs) ≡ is_headed signs
    → up_to_heading (sign ∷ signs) ≡ (if is_headed signs then [] else sign ∷ up_to_heading signs)
    → text ++ more_text text is_apart (sign ∷ up_to_heading signs) ≡ text' ++ more_text text' is_apart' (up_to_heading signs)
    → inside_text text' is_apart' front' signs ≡ inside_text text is_apart front (sign ∷ signs)
step text text' front front' is_apart is_apart' sign signs f h u t = elim (cases_Bool (is_headed signs)) [
  | inl headed ↦ rw (h, headed) f
  | inr other ↦
      let on : up_to_heading (sign ∷ signs) ≡ sign ∷ up_to_heading signs = rw other at u in
      rw (h, other, on) (ap (λ (l : List ℕ). take TEXT l) (sym t))
]

-- a paragraph that has no heading is one more of the section
paragraph_step : (kept text front : List ℕ) (is_apart : Bool) (signs : List Sign) → kept ≡ take TEXT text
    → inside_text text true (take (length kept) kept) signs ≡ inside_text text is_apart front (paragraph ∷ signs)
paragraph_step kept text front is_apart signs t = elim (cases_Bool (is_headed signs)) [
  | inl headed ↦ rw headed (take-length kept ∙ (t ∙ ap (λ (l : List ℕ). take TEXT l) (sym (no_signs text is_apart))))
  | inr other ↦ rw other (ap (λ (l : List ℕ). take TEXT (text ++ l)) (sym (more-paragraph text is_apart (up_to_heading signs))))
]

inside : (r : NameReader) (text : List ℕ) (signs : List Sign) → r.side ≡ Inside → r.text ≡ take TEXT text → r.before ≤ length r.text
    → kept_of (signs_taken r signs) ≡ Some (inside_text text r.is_apart (take r.before r.text) signs)
inside r text [] s t b = rw s (ap (λ (l : List ℕ). Some l) (t ∙ ap (λ (l : List ℕ). take TEXT l) (sym (no_signs text r.is_apart))))
inside r text (character c ∷ signs) s t b =
    let next = character_taken r c in
    let more = more_text text r.is_apart (character c ∷ []) in
    let kept : next.text ≡ take TEXT (text ++ more) =
    ap (λ (l : List ℕ). with_byte (spaced r.is_apart l) c) t ∙ character_kept text r.is_apart c in
    let short : r.before ≤ length (take TEXT text) = subst (λ (l : List ℕ). r.before ≤ length l) t b in
    let within : r.before ≤ length next.text =
    subst (λ (l : List ℕ). r.before ≤ length l) (sym kept) (front-longer TEXT r.before text more short) in
    let same : take r.before next.text ≡ take r.before r.text =
    ap (λ (l : List ℕ). take r.before l) kept
    ∙ (front-same TEXT r.before text more short ∙ ap (λ (l : List ℕ). take r.before l) (sym t)) in
    ap (λ (q : NameReader). kept_of q) (sign_first r (character c) signs (ap is_after s))
    ∙ (inside next (text ++ more) signs s kept within
    ∙ ap (λ (l : List ℕ). Some l)
    (step text (text ++ more) (take r.before r.text) (take r.before next.text) r.is_apart false (character c) signs same refl refl
    (more-character text r.is_apart c (up_to_heading signs))))
inside r text (gap ∷ signs) s t b =
    let front = take r.before r.text in
    ap (λ (q : NameReader). kept_of q) (sign_first r gap signs (ap is_after s))
    ∙ (inside (apart r) text signs s t b
    ∙ ap (λ (l : List ℕ). Some l)
    (step text text front front r.is_apart true gap signs refl refl refl
    (ap (λ (l : List ℕ). text ++ l) (more-gap text r.is_apart (up_to_heading signs)))))
inside r text (joint ∷ signs) s t b =
    let front = take r.before r.text in
    ap (λ (q : NameReader). kept_of q) (sign_first r joint signs (ap is_after s))
    ∙ (inside (record r { is_apart = false }) text signs s t b
    ∙ ap (λ (l : List ℕ). Some l)
    (step text text front front r.is_apart false joint signs refl refl refl
    (ap (λ (l : List ℕ). text ++ l) (more-joint text r.is_apart (up_to_heading signs)))))
inside r text (paragraph ∷ signs) s t b =
    let next = record r { is_apart = true; before = length r.text } in
    let one : with_paragraph r.side r ≡ next = ap (λ (side : Side). with_paragraph side r) s in
    ap (λ (q : NameReader). kept_of q) (sign_first r paragraph signs (ap is_after s))
    ∙ (ap (λ (q : NameReader). kept_of (signs_taken q signs)) one
    ∙ (inside next text signs s t (omega arith)
    ∙ ap (λ (l : List ℕ). Some l) (paragraph_step r.text text (take r.before r.text) r.is_apart signs t)))
inside r text (heading ∷ signs) s t b =
    let next = record r { side = After; text = take r.before r.text } in
    let one : with_top_heading r.side r ≡ next = ap (λ (side : Side). with_top_heading side r) s in
    ap (λ (q : NameReader). kept_of q) (sign_first r heading signs (ap is_after s))
    ∙ (ap (λ (q : NameReader). kept_of (signs_taken q signs)) one
    ∙ ap (λ (q : NameReader). kept_of q) (signs_ended next signs refl))

-- ---- before the section

-- the section from its front on
abbrev section_text_of : List Sign → List ℕ
section_text_of signs = kept_text (up_to_heading signs)

starts_inside : (signs : List Sign) → inside_text [] false [] signs ≡ section_text_of signs
starts_inside signs = elim (cases_Bool (is_headed signs)) [
  | inl headed ↦ rw (headed, headed_none signs headed) refl
  | inr other ↦ rw other refl
]

gap_passed : (passed : List Sign) → text_of (passed ++ gap ∷ []) ≡ text_of passed
gap_passed passed =
    text_of-append false passed (gap ∷ [])
    ∙ (ap (λ (l : List ℕ). text_of passed ++ l) (more-gap (text_of passed) (waits false passed) []) ∙ no_signs (text_of passed) true)

joint_passed : (passed : List Sign) → text_of (passed ++ joint ∷ []) ≡ text_of passed
joint_passed passed =
    text_of-append false passed (joint ∷ [])
    ∙ (ap (λ (l : List ℕ). text_of passed ++ l) (more-joint (text_of passed) (waits false passed) []) ∙ no_signs (text_of passed) false)

before : (r : NameReader) (passed signs : List Sign) → r.side ≡ Before → r.text ≡ take TEXT (text_of passed) → r.is_apart ≡ waits false passed
    → kept_of (signs_taken r signs) ≡ option_map section_text_of (after_name passed signs)
unfolding after_name
before r passed [] s t a = rw s refl
before r passed (character c ∷ signs) s t a =
    let next = character_taken r c in
    let all = text_of passed in
    let more = more_text all r.is_apart (character c ∷ []) in
    let kept : next.text ≡ take TEXT (all ++ more) =
    ap (λ (l : List ℕ). with_byte (spaced r.is_apart l) c) t ∙ character_kept all r.is_apart c in
    let whole : all ++ more ≡ text_of (passed ++ character c ∷ []) =
    ap (λ (w : Bool). all ++ more_text all w (character c ∷ [])) a ∙ sym (text_of-append false passed (character c ∷ [])) in
    ap (λ (q : NameReader). kept_of q) (sign_first r (character c) signs (ap is_after s))
    ∙ before next (passed ++ character c ∷ []) signs s (kept ∙ ap (λ (l : List ℕ). take TEXT l) whole) (sym (waits-append false passed (character c ∷ [])))
before r passed (gap ∷ signs) s t a =
    ap (λ (q : NameReader). kept_of q) (sign_first r gap signs (ap is_after s))
    ∙ before (apart r) (passed ++ gap ∷ []) signs s (t ∙ ap (λ (l : List ℕ). take TEXT l) (sym (gap_passed passed))) (sym (waits-append false passed (gap ∷ [])))
before r passed (joint ∷ signs) s t a =
    ap (λ (q : NameReader). kept_of q) (sign_first r joint signs (ap is_after s))
    ∙ before (record r { is_apart = false }) (passed ++ joint ∷ []) signs s (t ∙ ap (λ (l : List ℕ). take TEXT l) (sym (joint_passed passed)))
    (sym (waits-append false passed (joint ∷ [])))
before r passed (paragraph ∷ signs) s t a =
    let next = record r { text = []; is_apart = false } in
    let one : with_paragraph r.side r ≡ next = ap (λ (side : Side). with_paragraph side r) s in
    ap (λ (q : NameReader). kept_of q) (sign_first r paragraph signs (ap is_after s))
    ∙ (ap (λ (q : NameReader). kept_of (signs_taken q signs)) one
    ∙ before next [] signs s refl refl)
before r passed (heading ∷ signs) s t a =
    let one : with_top_heading r.side r ≡ with_top_heading Before r = ap (λ (side : Side). with_top_heading side r) s in
    let same : bytes_eq r.text (codes "NAME") ≡ bytes_eq (text_of passed) (codes "NAME") =
    ap (λ (l : List ℕ). bytes_eq l (codes "NAME")) t ∙ name-same (text_of passed) in
    ap (λ (q : NameReader). kept_of q) (sign_first r heading signs (ap is_after s))
    ∙ (ap (λ (q : NameReader). kept_of (signs_taken q signs)) one
    ∙ elim (cases_Bool (bytes_eq (text_of passed) (codes "NAME"))) [
      | inl is ↦
          let next = record r { side = Inside; text = []; is_apart = false; before = 0 } in
          rw (same, is) (inside next [] signs refl refl (omega arith) ∙ ap (λ (l : List ℕ). Some l) (starts_inside signs))
      | inr other ↦ rw (same, other) (before r passed signs s t a)
    ])

-- ---- all pieces

pub kept_is_name_text : (items : List Item) → kept_of (read (reader_at Before) items) ≡ name_text items
unfolding name_text
kept_is_name_text items =
    ap (λ (q : NameReader). kept_of q) (items_taken (reader_at Before) items)
    ∙ before (reader_at Before) [] (signs_of 0 items) refl refl refl

some_kept : (side : Side) (text kept : List ℕ) → kept_by side text ≡ Some kept → text ≡ kept
some_kept Before text kept h = let no : ⊥ = cc in absurd no
some_kept _ text kept h = cc

-- characters alone have no heading among them
pub text_is_kept : (items : List Item) (cs : List ℕ) → signs_of 0 items ≡ map character cs → (read (reader_at Inside) items).text ≡ kept_text (signs_of 0 items)
text_is_kept items cs is =
    let r = reader_at Inside in
    let whole : inside_text [] false [] (map character cs) ≡ kept_text (map character cs) =
    rw (characters_headed cs, characters_up_to cs) refl in
    let read_all : kept_of (read r items) ≡ Some (inside_text [] false [] (signs_of 0 items)) =
    ap (λ (q : NameReader). kept_of q) (items_taken r items) ∙ inside r [] (signs_of 0 items) refl refl (omega arith) in
    some_kept (read r items).side (read r items).text (kept_text (signs_of 0 items))
    (read_all ∙ ap (λ (l : List ℕ). Some l) (rw is whole))

-- ---- the section of a title

abbrev AreCharacters : List Sign → Type 0
AreCharacters signs = (cs : List ℕ) × (signs ≡ map character cs)

font_signs : (font : Font) (place : Place) (cs : List ℕ) (items : List Item) → AreCharacters (signs_of 0 items)
    → AreCharacters (signs_of 0 (in_font font place cs ++ items))
unfolding signs_of
font_signs font place [] items h = h
font_signs font place (c ∷ cs) items h =
    let more = font_signs font place cs items h in
    let first = filter (λ (d : ℕ). nat_lt d 128) (char_printed Ascii c).characters in (
      first ++ more.0,
      ap (λ (l : List Sign). map character first ++ l) more.1 ∙ sym (map-append character first more.0),
    )

pub tokens_signs : (place : Place) (fonts : Fonts) (tokens : List TextToken) → AreCharacters (signs_of 0 (tokens_items Ascii place fonts tokens))
unfolding signs_of
tokens_signs place fonts [] = ([], refl)
tokens_signs place fonts (token ∷ tokens) =
    let after = token_fonts token fonts in
    font_signs fonts.font place (token_printed Ascii token) (tokens_items Ascii place after tokens) (tokens_signs place after tokens)
