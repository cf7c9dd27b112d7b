-- A text, part by part.
use Rattle.std.proofs.Common.{◌≡◌, ℕ, ◌<◌, ◌≤◌, ◌==◌, Bool, true, false, List, [], ◌++◌, length, take, drop, refl, ap, sym, ◌∙◌, append-nil, append_assoc, arith, ◌+◌, ◌-◌, ◌&&◌, not, ◌∷◌, ap₂, inl, inr}
use Rattle.std.specs.Prelude.{if◌then◌else◌}
use Rattle.std.proofs.lemmas.Bool.Decides.{nat_tests}
use Rattle.page_core_base.specs.Bytes.{begins_white, is_white}
use Rattle.page_core_base.specs.Rows.{Item}
use Rattle.page_core_base.specs.declared.cells.Font.TheVariants.{R}
use Rattle.page_core_escapes.specs.Tokens.{token_len, tokens_len}
use Rattle.page_core_escapes.specs.laws.Views.{begins_word}
use Rattle.page_scopes_words.specs.Words.{at, has_tab, body_after, has_gap_cells, indented_pen, white_after, word_after, blank_cells}
use Rattle.page_scopes_text.proofs.PartedLemmas.{no_word, spaced_more, white_some, word_some, words_more, words_none}
use Rattle.page_scopes_text.specs.Texts.{Parted, words_of, gap_place, indented_items, is_indented, leading_after, leading_items, others_after, others_items, place_after, spaced_after, spaced_items, text_after, white_items, words_items, word_items, last_of, last_word}
use Rattle.page_scopes_text.specs.laws.Views.{spaced_front}
use Rattle.page_scopes_text.specs.machine.Letters.{first_after, first_items}
use Rattle.page_scopes_words.specs.declared.pens.Pen.{Pen}
use Rattle.page_scopes_words.specs.declared.pens.TextStyle.{TextStyle}
use Rattle.std.proofs.lemmas.Bool.{cases_Bool}
use Rattle.std.proofs.lemmas.List.{length-drop, length-take-le}

-- ---- a word after white space

pub not_none : (n : ℕ) → 0 < n → (n == 0) ≡ false
not_none n h = grind (arith, nat_tests, h)

-- where a word begins it has a token
pub next_word : (quoted : Bool) (text : List ℕ) → begins_word text ≡ true → (length (words_of quoted text).word == 0) ≡ false
next_word quoted text h =
    let more = ap (λ (t : Parted). length t.word) (words_more quoted text (token_len quoted text) h (word_some quoted text h) refl) in
    not_none (length (words_of quoted text).word) (omega (arith, more))

pub spaced_word : (style : TextStyle) (line last : ℕ) (pen : Pen) (text white rest : List ℕ) (n : ℕ) → n ≡ token_len style.is_quoted text
    → white ≡ take n text → rest ≡ drop n text → begins_word rest ≡ true
    → (spaced_items style line last pen (spaced_front style.is_quoted text)
    ≡ white_items style (place_after line pen white) white
    ++ word_items style line (has_tab white) (white_after style pen white) (words_of style.is_quoted rest).word)
    × (spaced_after style pen (spaced_front style.is_quoted text) ≡ word_after style (white_after style pen white) (words_of style.is_quoted rest).word)
spaced_word style line last pen text white rest n e w r h = rw (← e, ← w, ← r, next_word style.is_quoted rest h) (refl, refl)

spaced_end : (style : TextStyle) (line last : ℕ) (pen : Pen) (text white rest : List ℕ) (n : ℕ) → n ≡ token_len style.is_quoted text
    → white ≡ take n text → rest ≡ drop n text → begins_word rest ≡ false
    → (spaced_items style line last pen (spaced_front style.is_quoted text) ≡ white_items style (at line last) white)
    × (spaced_after style pen (spaced_front style.is_quoted text) ≡ white_after style pen white)
spaced_end style line last pen text white rest n e w r h = grind (arith, no_word, append-nil)

-- ---- one part after another

pub others_more : (style : TextStyle) (line last : ℕ) (pen : Pen) (text : List ℕ) → begins_white text ≡ true
    → (others_items style line last pen (words_of style.is_quoted text).others
    ≡ spaced_items style line last pen (spaced_front style.is_quoted text)
    ++ others_items style line last (spaced_after style pen (spaced_front style.is_quoted text)) (words_of style.is_quoted (drop (token_len style.is_quoted text) text)).others)
    × (others_after style pen (words_of style.is_quoted text).others
    ≡ others_after style (spaced_after style pen (spaced_front style.is_quoted text)) (words_of style.is_quoted (drop (token_len style.is_quoted text) text)).others)
others_more style line last pen text h = grind (arith, spaced_more, white_some)

-- a word after white space, and those after it
pub others_spaced : (style : TextStyle) (line last : ℕ) (pen : Pen) (text white rest : List ℕ) (n : ℕ) → begins_white text ≡ true → n ≡ token_len style.is_quoted text
    → white ≡ take n text → rest ≡ drop n text → begins_word rest ≡ true
    → (others_items style line last pen (words_of style.is_quoted text).others
    ≡ white_items style (place_after line pen white) white
    ++ first_items style line last (has_tab white) (white_after style pen white) (words_of style.is_quoted rest))
    × (others_after style pen (words_of style.is_quoted text).others ≡ first_after style (white_after style pen white) (words_of style.is_quoted rest))
others_spaced style line last pen text white rest n b e w r h =
    let parts = words_of style.is_quoted rest in
    let pen_white = white_after style pen white in
    let all = others_more style line last pen text b in
    grind (arith, spaced_word, append_assoc)

-- white space at a text's end
pub others_end : (style : TextStyle) (line last : ℕ) (pen : Pen) (text white rest : List ℕ) (n : ℕ) → begins_white text ≡ true → n ≡ token_len style.is_quoted text
    → white ≡ take n text → rest ≡ drop n text → begins_word rest ≡ false
    → (others_items style line last pen (words_of style.is_quoted text).others
    ≡ white_items style (at line last) white ++ others_items style line last (white_after style pen white) (words_of style.is_quoted rest).others)
    × (others_after style pen (words_of style.is_quoted text).others ≡ others_after style (white_after style pen white) (words_of style.is_quoted rest).others)
others_end style line last pen text white rest n b e w r h =
    let all = others_more style line last pen text b in
    grind (arith, spaced_end)

pub no_others : (quoted : Bool) (text : List ℕ) → length text ≤ 0 → (words_of quoted text).others ≡ []
no_others quoted text h = ap (λ (t : Parted). t.others) (words_none quoted text h)

-- ---- a whole text

pub text_word : (style : TextStyle) (line last : ℕ) (pen : Pen) (text : List ℕ) → begins_word text ≡ true
    → (words_items style line last pen (words_of style.is_quoted text)
    ≡ word_items style line false pen (words_of style.is_quoted text).word
    ++ others_items style line last (word_after style pen (words_of style.is_quoted text).word) (words_of style.is_quoted text).others)
    × (text_after style pen (words_of style.is_quoted text)
    ≡ others_after style (word_after style pen (words_of style.is_quoted text).word) (words_of style.is_quoted text).others)
text_word style line last pen text h =
    rw (words_more style.is_quoted text (token_len style.is_quoted text) h (word_some style.is_quoted text h) refl) (refl, refl)

pub text_none : (style : TextStyle) (line last : ℕ) (pen : Pen) (text : List ℕ) → length text ≤ 0
    → (words_items style line last pen (words_of style.is_quoted text) ≡ word_items style line false pen (words_of style.is_quoted text).word)
    × (text_after style pen (words_of style.is_quoted text) ≡ word_after style pen (words_of style.is_quoted text).word)
text_none style line last pen text h = rw (words_none style.is_quoted text h) (refl, refl)

text_leading : (style : TextStyle) (line last : ℕ) (pen : Pen) (text : List ℕ) → begins_white text ≡ true
    → (words_items style line last pen (words_of style.is_quoted text)
    ≡ leading_items style line last pen (spaced_front style.is_quoted text)
    ++ others_items style line last (leading_after style pen (spaced_front style.is_quoted text)) (words_of style.is_quoted (drop (token_len style.is_quoted text) text)).others)
    × (text_after style pen (words_of style.is_quoted text)
    ≡ others_after style (leading_after style pen (spaced_front style.is_quoted text)) (words_of style.is_quoted (drop (token_len style.is_quoted text) text)).others)
text_leading style line last pen text h = grind (arith, spaced_more, white_some)

-- white space that ends no row is a text's front like any other, but for the blank before it
pub text_gap : (style : TextStyle) (line last : ℕ) (pen : Pen) (text : List ℕ) → is_indented style ≡ false → begins_white text ≡ true
    → (words_items style line last pen (words_of style.is_quoted text)
    ≡ (if has_gap_cells style pen then blank_cells 1 R (gap_place line last pen (spaced_front style.is_quoted text)) else [])
    ++ others_items style line last pen (words_of style.is_quoted text).others)
    × (text_after style pen (words_of style.is_quoted text) ≡ others_after style pen (words_of style.is_quoted text).others)
text_gap style line last pen text indented h =
    let part = spaced_front style.is_quoted text in
    let gap = if has_gap_cells style pen then blank_cells 1 R (gap_place line last pen part) else [] in
    let all = text_leading style line last pen text h in
    let others = others_more style line last pen text h in (
      all.0 ∙ rw indented (append_assoc gap (spaced_items style line last pen part) _) ∙ ap (λ (items : List Item). gap ++ items) (sym others.0),
      all.1 ∙ rw indented (sym others.1),
    )

-- white space that ends a row is cells of the first word
pub text_indented : (style : TextStyle) (line last : ℕ) (pen : Pen) (text : List ℕ) → is_indented style ≡ true → begins_white text ≡ true
    → (words_items style line last pen (words_of style.is_quoted text)
    ≡ indented_items style.is_quoted line pen (spaced_front style.is_quoted text)
    ++ others_items style line last (body_after (indented_pen pen (spaced_front style.is_quoted text).white) (spaced_front style.is_quoted text).word)
    (words_of style.is_quoted (drop (token_len style.is_quoted text) text)).others)
    × (text_after style pen (words_of style.is_quoted text)
    ≡ others_after style (body_after (indented_pen pen (spaced_front style.is_quoted text).white) (spaced_front style.is_quoted text).word)
    (words_of style.is_quoted (drop (token_len style.is_quoted text) text)).others)
text_indented style line last pen text indented h =
    let all = text_leading style line last pen text h in (all.0 ∙ rw indented refl, all.1 ∙ rw indented refl)

-- ---- The last word of a text, part by part.

-- of the white space at a text's front, so many bytes, and the word after it, this is left
pub record Passes (quoted : Bool) (text rest : List ℕ) (n : ℕ) : Type 0 where
  pub begins : begins_white text ≡ true
  pub len : n ≡ token_len quoted text
  pub within : n ≤ length text
  pub word_len : length rest + tokens_len (words_of quoted (drop n text)).word ≡ length (drop n text)
  pub others : (words_of quoted rest).others ≡ (words_of quoted (drop n text)).others

-- the column of the last word of a text, which is the end of one of so many bytes
passed : (quoted : Bool) (column last size : ℕ) (text rest : List ℕ) (n : ℕ) → Passes quoted text rest n → length text ≤ size
    → last_of (column + (size - length text)) last (words_of quoted text).others
    ≡ last_of (column + (size - length rest))
    (if length (words_of quoted (drop n text)).word == 0 then last else column + (size - length (drop n text))) (words_of quoted rest).others
passed quoted column last size text rest n p le = grind (arith, white_some, length-take-le, length-drop, spaced_more, ap₂)

-- a word is there
pub passed_word : (quoted : Bool) (column last size : ℕ) (text rest : List ℕ) (n : ℕ) → Passes quoted text rest n → length text ≤ size
    → begins_word (drop n text) ≡ true
    → last_of (column + (size - length text)) last (words_of quoted text).others
    ≡ last_of (column + (size - length rest)) (column + (size - length (drop n text))) (words_of quoted rest).others
passed_word quoted column last size text rest n p le h =
    passed quoted column last size text rest n p le ∙ rw (next_word quoted (drop n text) h) refl

-- the text ends there
pub passed_end : (quoted : Bool) (column last size : ℕ) (text rest : List ℕ) (n : ℕ) → Passes quoted text rest n → length text ≤ size
    → begins_word (drop n text) ≡ false
    → last_of (column + (size - length text)) last (words_of quoted text).others
    ≡ last_of (column + (size - length rest)) last (words_of quoted rest).others
passed_end quoted column last size text rest n p le h =
    passed quoted column last size text rest n p le ∙ rw (no_word quoted (drop n text) h) refl

-- ---- the word at a text's front

front_column : (quoted : Bool) (column last : ℕ) (text : List ℕ)
    → (if length (words_of quoted text).word == 0 && not (length (words_of quoted text).others == 0) then last else column)
    ≡ (if begins_white text then last else column)
front_column quoted column last [] = grind (arith, words_none)
front_column quoted column last (b ∷ bs) = elim (cases_Bool (is_white b)) [
  | inl t ↦
      let front = spaced_more quoted (b ∷ bs) (token_len quoted (b ∷ bs)) t (white_some quoted (b ∷ bs) t) refl in
      let more = ap (λ (p : Parted). length p.others) front in
      rw (ap (λ (p : Parted). length p.word) front, not_none (length (words_of quoted (b ∷ bs)).others) (omega (arith, more)), t) refl
  | inr f ↦ rw (next_word quoted (b ∷ bs) (rw f refl), f) refl
]

pub front_passed : (quoted : Bool) (column last : ℕ) (text rest : List ℕ) → length rest + tokens_len (words_of quoted text).word ≡ length text
    → (words_of quoted rest).others ≡ (words_of quoted text).others
    → last_word column last (words_of quoted text)
    ≡ last_of (column + (length text - length rest)) (if begins_white text then last else column) (words_of quoted rest).others
front_passed quoted column last text rest len others = grind (arith, front_column)
