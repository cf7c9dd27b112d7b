-- The fields of a header or footer: helpers of proofs.
use Rattle.std.proofs.Common.{◌≡◌, ℕ, zero, suc, ◌-◌, ◌<◌, ◌≤◌, length, List, [], ◌∷◌, ◌++◌, take, drop, refl, ap, ◌∙◌, arith, ◌+◌, ◌*◌, ◌==◌, nat_lt, true, false, replicate, codes, sym, append_assoc, IsAscii, IsUtf8, chars, encode_utf8, map, append-nil}
use Rattle.std.specs.List.{flat_map, list_all}
use Rattle.std.specs.Str.Lossy.{utf8_valid_len}
use Rattle.page_core_base.specs.Messages.{text_front}
use Rattle.page_core_base.specs.declared.places.Place.{Place}
use Rattle.page_roff_syntax.specs.declared.quotes.Argument.{Argument}
use Rattle.page_sets_names.specs.declared.macro_names.Prologue.TheVariants.{TH}
use Rattle.page_engine_header.specs.Header.{argument_cut, fields_after, first_field, or_else, volume_of, in_font, tokens_columns, tokens_items, name_tokens, in_rows}
use Rattle.page_engine_header.specs.declared.fields.Fields.{Fields}
use Rattle.std.proofs.lemmas.Bool.{and_parts}
use Rattle.std.proofs.lemmas.Bool.Decides.{nat_tests}
use Rattle.std.proofs.lemmas.List.{replicate-append-replicate}
use Rattle.std.proofs.lemmas.List.Sums.{sum_by-append}
use Rattle.std.proofs.lemmas.Str.{chars-nil, chars_past_char, encodes-chars, length-le-encodes, chars-IsAscii, IsUtf8-from_ascii}
use Rattle.std.proofs.lemmas.Str.Ascii.{IsAscii-nil, IsAscii-cons}
use Rattle.page_core_base.proofs.LatchLemmas.{characters_of-text}
use Rattle.page_core_base.specs.Rows.{shown, Item}
use Rattle.page_core_base.specs.Texts.{characters_of}
use Rattle.page_core_base.specs.laws.Views.{is_printable, is_printable_ascii, Came, TakesKept, font_cells, is_kept, word_letters}
use Rattle.page_core_base.specs.declared.pieces.Piece.TheVariants.{Char, Break}
use Rattle.page_core_base.specs.declared.cells.Font.{Font}
use Rattle.page_core_base.specs.declared.page_settings.Output.{Output}
use Rattle.page_core_escapes.specs.Tokens.{TextToken, tokens_of, plain}
use Rattle.page_core_numbers.specs.Columns.{characters_columns}
use Rattle.page_core_tables.proofs.Tables.{char_columns-printable}
use Rattle.page_core_tables.specs.Glyphs.{Printing, char_columns, char_printed, is_control}
use Rattle.page_scopes_words.specs.declared.fonts.Fonts.{Fonts}
use Rattle.page_scopes_words.specs.Fonts.{roman_fonts, token_fonts}
use Rattle.page_scopes_words.specs.Words.{plain_printed, token_printed}
use Rattle.page_engine_header.specs.laws.Views.{fonts_after}
use Rattle.std.specs.Borrow.{GName}
use Rattle.page_core_base.specs.declared.limits.TheConstants.{CELLS}
use Rattle.page_core_base.specs.declared.cells.Cell.{Cell}
use Rattle.page_core_base.specs.declared.pieces.Piece.{Piece}
use Rattle.page_engine_header.specs.machine.RowPlans.{RowPlanned, RowLeft}

-- ---- a front of a text

take_short : (n : ℕ) (text : List ℕ) → length (take n text) ≤ length text
take_short zero text = omega arith
take_short (suc n) [] = omega arith
take_short (suc n) (b ∷ text) = let h = take_short n text in omega (arith, h)

pub front_within : (n : ℕ) (text : List ℕ) → length (text_front n text) ≤ length text
unfolding text_front
front_within n text =
    let a = take_short (utf8_valid_len (take n text)) (take n text) in
    let b = take_short n text in
    omega (arith, a, b)

-- ---- arguments, one after another

pub drop_two : {A : Type 0} → (xs : List A) → drop 1 (drop 1 xs) ≡ drop 2 xs
drop_two [] = refl
drop_two (x ∷ xs) = refl

pub drop_three : {A : Type 0} → (xs : List A) → drop 1 (drop 2 xs) ≡ drop 3 xs
drop_three [] = refl
drop_three (x ∷ []) = refl
drop_three (x ∷ y ∷ ys) = refl

pub drop_four : {A : Type 0} → (xs : List A) → drop 1 (drop 3 xs) ≡ drop 4 xs
drop_four [] = refl
drop_four (x ∷ []) = refl
drop_four (x ∷ y ∷ []) = refl
drop_four (x ∷ y ∷ z ∷ zs) = refl

pub th_read : (os : List ℕ) (all a b c d : List (Argument (List ℕ))) (title section date source volume : List ℕ) (f : Fields)
    → a ≡ drop 1 all → b ≡ drop 1 a → c ≡ drop 1 b → d ≡ drop 1 c → title ≡ first_field all → section ≡ first_field a → date ≡ first_field b
    → source ≡ or_else (first_field c) os → volume ≡ or_else (first_field d) (volume_of section)
    → record { title = title; section = section; date = date; source = source; volume = volume; os_came = f.os_came } ≡ fields_after TH os all f
th_read os all a b c d title section date source volume f p q r s t u v w x =
    let second : b ≡ drop 2 all = q ∙ ap (drop 1) p ∙ drop_two all in
    let third : c ≡ drop 3 all = r ∙ ap (drop 1) second ∙ drop_three all in
    let fourth : d ≡ drop 4 all = s ∙ ap (drop 1) third ∙ drop_four all in
    rw (x, w, v, u, t, fourth, third, second, p) refl

pub cuts_more : (place : Place) (left : ℕ) (all others : List (Argument (List ℕ))) (argument : Argument (List ℕ)) → all ≡ argument ∷ others → 0 < left
    → flat_map (argument_cut place) (take left all) ≡ argument_cut place argument ++ flat_map (argument_cut place) (take (left - 1) others)
cuts_more place zero all others argument e h = absurd (omega arith)
cuts_more place (suc n) all others argument e h = let m : suc n - 1 ≡ n = omega arith in rw (e, m) refl

-- ---- What tokens print, and its columns: helpers of proofs.

-- ---- tokens after tokens

columns_append : (output : Output) (xs ys : List TextToken) → tokens_columns output (xs ++ ys) ≡ tokens_columns output xs + tokens_columns output ys
columns_append output [] ys = omega arith
columns_append output (x ∷ xs) ys = let e = columns_append output xs ys in omega (arith, e)

items_append : (output : Output) (place : Place) (fonts : Fonts) (xs ys : List TextToken)
    → tokens_items output place fonts (xs ++ ys) ≡ tokens_items output place fonts xs ++ tokens_items output place (fonts_after fonts xs) ys
items_append output place fonts [] ys = refl
items_append output place fonts (x ∷ xs) ys =
    ap (λ l. in_font fonts.font place (token_printed output x) ++ l) (items_append output place (token_fonts x fonts) xs ys)
    ∙ sym (append_assoc (in_font fonts.font place (token_printed output x)) (tokens_items output place (token_fonts x fonts) xs) (tokens_items output place (fonts_after (token_fonts x fonts) xs) ys))

-- ---- characters that print themselves

chars_of_empty : (bytes : List ℕ) → length bytes ≡ 0 → chars bytes ≡ []
chars_of_empty [] h = chars-nil
chars_of_empty (b ∷ bs) h = absurd (omega arith)

pub plain-more : (output : Output) (bytes rest : List ℕ) (c : ℕ) → IsUtf8 bytes → bytes ≡ encode_utf8 c ++ rest
    → plain_printed output (chars bytes) ≡ (char_printed output c).characters ++ plain_printed output (chars rest)
plain-more output bytes rest c u h = rw (chars_past_char bytes rest c u h) refl

pub plain-done : (output : Output) (bytes : List ℕ) → length bytes ≡ 0 → plain_printed output (chars bytes) ≡ []
plain-done output bytes h = rw (chars_of_empty bytes h) refl

pub in_font_append : (font : Font) (place : Place) (xs ys : List ℕ) → in_font font place (xs ++ ys) ≡ in_font font place xs ++ in_font font place ys
in_font_append font place [] ys = refl
in_font_append font place (x ∷ xs) ys = ap (λ l. shown (Char x font place) ∷ l) (in_font_append font place xs ys)

pub plain_columns-more : (output : Output) (bytes rest : List ℕ) (c : ℕ) → IsUtf8 bytes → bytes ≡ encode_utf8 c ++ rest
    → characters_columns (plain_printed output (chars bytes)) ≡ characters_columns (char_printed output c).characters + characters_columns (plain_printed output (chars rest))
plain_columns-more output bytes rest c u h = rw (plain-more output bytes rest c u h) (sum_by-append char_columns (char_printed output c).characters (plain_printed output (chars rest)))

pub chars-more : (bytes rest : List ℕ) (c : ℕ) → IsUtf8 bytes → bytes ≡ encode_utf8 c ++ rest → length (chars bytes) ≡ 1 + length (chars rest)
chars-more bytes rest c u h = rw (chars_past_char bytes rest c u h) (omega arith)

-- a text has no more characters than bytes
pub chars-within : (bytes : List ℕ) → IsUtf8 bytes → length (chars bytes) ≤ length bytes
chars-within bytes u = let h = length-le-encodes (chars bytes) in rw (encodes-chars bytes u) at h

-- ---- printable ASCII

printable_byte : (output : Output) (c : ℕ) → is_printable c ≡ true → (char_printed output c).characters ≡ c ∷ []
printable_byte output c is =
    let tab : (c == 9) ≡ false = grind (arith, nat_tests, is) in
    let blank : (c == 160) ≡ false = grind (arith, nat_tests, is) in
    let control : is_control c ≡ false = grind (arith, nat_tests, is) in
    let ascii : nat_lt c 128 ≡ true = grind (arith, nat_tests, is) in
    rw (tab, blank, control, ascii) refl

printable_bytes : (output : Output) (text : List ℕ) → is_printable_ascii text ≡ true → plain_printed output text ≡ text
printable_bytes output [] all = refl
printable_bytes output (c ∷ cs) all =
    let parts = and_parts (is_printable c) (is_printable_ascii cs) all in
    rw (printable_byte output c parts.0) (ap (λ (bytes : List ℕ). c ∷ bytes) (printable_bytes output cs parts.1))

are_ascii : (text : List ℕ) → is_printable_ascii text ≡ true → IsAscii text
are_ascii [] all = IsAscii-nil
are_ascii (c ∷ cs) all =
    let parts = and_parts (is_printable c) (is_printable_ascii cs) all in
    let low : c < 128 = grind (arith, nat_tests, parts) in
    IsAscii-cons c cs low (are_ascii cs parts.1)

-- each of its bytes is a character, in every output
pub plain_printable : (output : Output) (text : List ℕ) → is_printable_ascii text ≡ true → plain_printed output (chars text) ≡ text
plain_printable output text all = ap (plain_printed output) (chars-IsAscii text (are_ascii text all)) ∙ printable_bytes output text all

-- ---- blanks, some at a time

pub fewer_blanks : (font : Font) (place : Place) (run left : ℕ) → run ≤ left
    → in_font font place (replicate left 32) ≡ in_font font place (replicate run 32) ++ in_font font place (replicate (left - run) 32)
fewer_blanks font place run left h =
    let e : left ≡ run + (left - run) = omega arith in
    ap (λ (n : ℕ). in_font font place (replicate n 32)) e
    ∙ ap (in_font font place) (sym (replicate-append-replicate run (left - run) 32)) ∙ in_font_append font place (replicate run 32) (replicate (left - run) 32)

-- ---- a character of a text

pub sum-more : (output : Output) (sum n total : ℕ) (bytes rest : List ℕ) (c : ℕ) (printed : Printing) → IsUtf8 bytes → bytes ≡ encode_utf8 c ++ rest
    → printed ≡ char_printed output c → n ≡ characters_columns printed.characters
    → sum + characters_columns (plain_printed output (chars bytes)) ≡ total → sum + n + characters_columns (plain_printed output (chars rest)) ≡ total
sum-more output sum n total bytes rest c printed u h p e t =
    let more = plain_columns-more output bytes rest c u h in
    let same : n ≡ characters_columns (char_printed output c).characters = rw (← p) e in
    omega (arith, more, same, t)

pub sum-room : (sum n total : ℕ) (bytes rest : List ℕ) (c : ℕ) → IsUtf8 bytes → bytes ≡ encode_utf8 c ++ rest → n ≤ 24
    → sum + 24 * length (chars bytes) ≤ 24 * total → sum + n + 24 * length (chars rest) ≤ 24 * total
sum-room sum n total bytes rest c u h b t =
    let more = chars-more bytes rest c u h in
    omega (arith, more, b, t)

-- ---- a title with its section

ascii_byte : (c : ℕ) → c < 128 → characters_of (c ∷ []) ≡ c ∷ []
ascii_byte c h =
    let ascii = IsAscii-cons c [] h IsAscii-nil in
    characters_of-text (c ∷ []) (IsUtf8-from_ascii (c ∷ []) ascii) ∙ chars-IsAscii (c ∷ []) ascii

open_bracket : (output : Output) → token_printed output (plain (codes "(")) ≡ 40 ∷ []
open_bracket output = ap (plain_printed output) (ascii_byte 40 (omega arith))

close_bracket : (output : Output) → token_printed output (plain (codes ")")) ≡ 41 ∷ []
close_bracket output = ap (plain_printed output) (ascii_byte 41 (omega arith))

open_column : (output : Output) → characters_columns (token_printed output (plain (codes "("))) ≡ 1
open_column output = rw (open_bracket output) (rw (char_columns-printable 40 (omega arith) (omega arith)) (omega arith))

close_column : (output : Output) → characters_columns (token_printed output (plain (codes ")"))) ≡ 1
close_column output = rw (close_bracket output) (rw (char_columns-printable 41 (omega arith) (omega arith)) (omega arith))

pub name_columns : (output : Output) (title section : List ℕ)
    → tokens_columns output (name_tokens title section) ≡ tokens_columns output (tokens_of false title) + 1 + tokens_columns output (tokens_of false section) + 1
name_columns output title section =
    let a = columns_append output (tokens_of false title) (plain (codes "(") ∷ (tokens_of false section ++ plain (codes ")") ∷ [])) in
    let b = columns_append output (tokens_of false section) (plain (codes ")") ∷ []) in
    let c = open_column output in
    let d = close_column output in
    omega (arith, a, b, c, d)

bracket_items : (output : Output) (place : Place) (fonts : Fonts) (tokens : List TextToken)
    → tokens_items output place fonts (plain (codes "(") ∷ tokens) ≡ in_font fonts.font place (40 ∷ []) ++ tokens_items output place fonts tokens
bracket_items output place fonts tokens = ap (λ l. in_font fonts.font place l ++ tokens_items output place fonts tokens) (open_bracket output)

last_bracket : (output : Output) (place : Place) (fonts : Fonts)
    → tokens_items output place fonts (plain (codes ")") ∷ []) ≡ in_font fonts.font place (41 ∷ [])
last_bracket output place fonts = ap (λ l. in_font fonts.font place l ++ []) (close_bracket output)

pub name_items : (output : Output) (place : Place) (title section : List ℕ) (first second : Fonts)
    → first ≡ fonts_after roman_fonts (tokens_of false title) → second ≡ fonts_after first (tokens_of false section)
    → tokens_items output place roman_fonts (name_tokens title section)
    ≡ tokens_items output place roman_fonts (tokens_of false title)
    ++ (in_font first.font place (40 ∷ []) ++ (tokens_items output place first (tokens_of false section) ++ in_font second.font place (41 ∷ [])))
name_items output place title section first second e f =
    let g = fonts_after roman_fonts (tokens_of false title) in
    rw (f, e) (items_append output place roman_fonts (tokens_of false title) (plain (codes "(") ∷ (tokens_of false section ++ plain (codes ")") ∷ []))
    ∙ ap (λ l. tokens_items output place roman_fonts (tokens_of false title) ++ l) (
    bracket_items output place g (tokens_of false section ++ plain (codes ")") ∷ [])
    ∙ ap (λ l. in_font g.font place (40 ∷ []) ++ l) (
    items_append output place g (tokens_of false section) (plain (codes ")") ∷ [])
    ∙ ap (λ l. tokens_items output place g (tokens_of false section) ++ l) (last_bracket output place (fonts_after g (tokens_of false section)))
    )
    ))

-- a quote
pub quote_column : characters_columns (codes "\"") ≡ 1
quote_column = rw (char_columns-printable 34 (omega arith) (omega arith)) (omega arith)

-- ---- How a latch ends full rows.

none_in_rows : (room : ℕ) → in_rows room [] ≡ []
unfolding in_rows
none_in_rows room = refl

-- a character that there is room for
pub row_more : (room : ℕ) (item : Item) (rest follows : List Item) → 0 < room
    → in_rows room (item ∷ rest) ++ follows ≡ item ∷ (in_rows (room - 1) rest ++ follows)
unfolding in_rows
row_more zero item rest follows h = absurd (omega arith)
row_more (suc room) item rest follows h =
    let e : room ≡ suc room - 1 = omega arith in
    ap (λ (n : ℕ). item ∷ (in_rows n rest ++ follows)) e

-- one that begins the next row
pub row_full : (room : ℕ) (item : Item) (rest follows : List Item) → room ≡ 0
    → in_rows room (item ∷ rest) ++ follows ≡ shown Break ∷ item ∷ (in_rows (CELLS - 1) rest ++ follows)
unfolding in_rows
row_full zero item rest follows h = refl
row_full (suc room) item rest follows h = absurd (omega (arith, h))

-- all of the characters were planned, and none is left
pub rows_came : {P O : Type 0} (left : P → O → List Item → Type 0) → {name last : GName} {s t : O} {room end : ℕ} (items : List Item)
    → ((plan : RowPlanned P) (rest : List Item) → RowLeft left plan name s room (items ++ rest) → RowLeft left plan last t end rest)
    → (plan : P) (rest : List Item) → left plan s (in_rows room items ++ rest) → (last ≡ name) × left plan t rest
rows_came left {name = name} {end = end} items came plan rest h =
    let done = came (record { plan = plan; name = name; follows = rest }) [] (record { same_loan = refl; came = rw append-nil h }) in
    (done.same_loan, rw (none_in_rows end) at done.came)

-- ---- characters in a font, at once

-- characters that there is room for
pub row_run : (room : ℕ) (font : Font) (place : Place) (text : List ℕ) (rest follows : List Item) → length text ≤ room
    → in_rows room (in_font font place text ++ rest) ++ follows ≡ in_font font place text ++ (in_rows (room - length text) rest ++ follows)
row_run room font place [] rest follows h =
    let e : room ≡ room - 0 = omega arith in
    ap (λ (n : ℕ). in_rows n rest ++ follows) e
row_run room font place (c ∷ cs) rest follows h =
    let some : 0 < room = omega arith in
    let fit : length cs ≤ room - 1 = omega arith in
    let e : room - 1 - length cs ≡ room - length (c ∷ cs) = omega arith in
    row_more room (shown (Char c font place)) (in_font font place cs ++ rest) follows some
    ∙ ap (λ (items : List Item). shown (Char c font place) ∷ items)
    (row_run (room - 1) font place cs rest follows fit ∙ ap (λ (n : ℕ). in_font font place cs ++ (in_rows n rest ++ follows)) e)

abbrev run_pieces : Font → Place → List ℕ → List (Piece (List ℕ))
run_pieces font place text = map (λ c. Char c font place) text

run_kept : (font : Font) (place : Place) (text : List ℕ) → list_all is_kept (run_pieces font place text) ≡ true
run_kept font place [] = refl
run_kept font place (c ∷ cs) = run_kept font place cs

run_cells : (font : Font) (place : Place) (text : List ℕ) → font_cells font text ≡ word_letters (run_pieces font place text)
run_cells font place [] = refl
run_cells font place (c ∷ cs) = ap (λ (cells : List Cell). record { c = c; font = font } ∷ cells) (run_cells font place cs)

run_items : (font : Font) (place : Place) (text : List ℕ) → map shown (run_pieces font place text) ≡ in_font font place text
run_items font place [] = refl
run_items font place (c ∷ cs) = ap (λ (items : List Item). shown (Char c font place) ∷ items) (run_items font place cs)

-- those that were taken came
pub run_came : {P O : Type 0} (left : P → O → List Item → Type 0) → {s t : O} (font : Font) (place : Place) (text : List ℕ)
    → TakesKept text font true (Came left) s t → Came left s (in_font font place text) t
run_came left font place text taken = λ plan rest h.
    taken (run_pieces font place text) (run_kept font place text) (run_cells font place text) plan rest (rw (run_items font place text) h)

-- those that were not taken changed nothing
pub run_stays : {P O : Type 0} (left : P → O → List Item → Type 0) → {s t : O} (font : Font) (place : Place) (text : List ℕ)
    → TakesKept text font false (Came left) s t → Came left s [] t
run_stays left font place text taken = taken (run_pieces font place text) (run_kept font place text) (run_cells font place text)
