-- The fields of a line, and what the lines from a place on hold.
use Rattle.std.proofs.Common.{◌≡◌, ℕ, suc, ◌+◌, ◌<◌, ◌≤◌, ◌==◌, Bool, true, false, List, [], ◌∷◌, length, take, drop, get_or, Option, Some, None, nat_le, refl, sym, ap, ◌∙◌, arith, add-one, ◌-◌, ◌&&◌, ◌||◌, inl, inr, Result, Ok, map, subst, append-nil, ◌++◌, Err, MatchResult}
use Rattle.std.proofs.lemmas.Bool.{le-leb, cases_Bool, cases_eq, false≢true, eqb-true}
use Rattle.std.proofs.lemmas.Grind.{common_steps}
use Rattle.std.proofs.lemmas.List.{take_all, take_rest, drop-drop, drop_more, drop_all}
use Rattle.std.proofs.lemmas.List.Splits.{slice_split_at, slice_split_none, length-slice_split}
use Rattle.std.proofs.Math.Seq.{split_at}
use Rattle.std.specs.List.{All, slice_split, onto_first, list_any}
use Rattle.memchr.specs.Find.{IsFirstByte, Nowhere, Passes, is_byte}
use Rattle.page_core_base.specs.declared.limits.TheConstants.{LINE}
use Rattle.page_engine_index.specs.Entries.{is_tab, Entry, Index, entry_of, entry_in, version_of, index_from, bad_at, with_entries, Line, is_line_feed, with_byte, lines, whole_lines}
use Rattle.page_engine_index.specs.declared.entries.Version.{Version}
use Rattle.page_engine_index.specs.declared.entries.Version.TheVariants.{One, Two}
use Rattle.page_engine_index.specs.declared.entries.Place.{Place}
use Rattle.page_engine_index.specs.machine.Steps.{IsParted, AreLast, entry_of_last, index_at, name_len, GivesRow, after_lines, open_line}
use Rattle.std.specs.Prelude.{if◌then◌else◌}
use Rattle.page_engine_index.specs.Matches.{names_of, without_blank, begins_blank, ends_name, has_match, is_match, matches_in, matches_here, is_word_byte}
use Rattle.std.specs.Borrow.{Bor}
use Rattle.page_core_base.specs.laws.Views.{IsSink}
use Rattle.page_core_base.specs.declared.faults.Fault.{Fault}
use Rattle.page_engine_index.specs.Searches.{RowsTo, Shown, FoundBad, HasCause, ReadWhole, Quiet, Searches, SearchesOver}
use Rattle.page_engine_index.specs.declared.queries.Show.{Show}
use Rattle.page_engine_index.specs.Whatis.{Asked, is_shown, row_of, rows, entry_row}
use Rattle.std.proofs.lemmas.List.Folds.{list_any-append}
use Rattle.std.proofs.lemmas.List.Elements.{All-head, All-tail}
use Rattle.page_core_base.specs.Messages.{Rose}
use Rattle.page_core_base.specs.declared.faults.Fault.TheVariants.{Memory, Read, WriteText, WriteNotes, TooLong, Settings, Failed, Ended, BadIndex}
use Rattle.page_core_streams.specs.Streams.{SourceState}

fails : (b : Bool) → ¬ (b ≡ true) → b ≡ false
fails true h = absurd (h refl)
fails false h = refl

-- no byte before a place is this one
pub front_none : (byte : ℕ) (text : List ℕ) (n : ℕ) → n ≤ length text → Nowhere (Passes (is_byte byte) text) 0 n
    → All (λ x. (x == byte) ≡ false) (take n text)
front_none byte text n w h = λ k d l.
    let m : k < n = grind (arith, common_steps) in
    let e : get_or (take n text) k d ≡ get_or text k 0 = grind (arith, common_steps) in
    rw e (fails (get_or text k 0 == byte) (h k (omega arith) m))

pub split_none : (byte : ℕ) (text : List ℕ) → IsFirstByte (is_byte byte) text None → slice_split (is_byte byte) text ≡ text ∷ []
split_none byte text h = slice_split_none (is_byte byte) text (rw (take_all (length text) text (omega arith)) at (front_none byte text (length text) (omega arith) h))

pub split_some : (byte : ℕ) (text : List ℕ) (n : ℕ) → IsFirstByte (is_byte byte) text (Some n)
    → slice_split (is_byte byte) text ≡ take n text ∷ slice_split (is_byte byte) (drop (n + 1) text)
split_some byte text n h =
    ap (slice_split (is_byte byte)) (split_at text n 0 h.0.high)
    ∙ (slice_split_at (is_byte byte) (take n text) (get_or text n 0) (drop (suc n) text) (front_none byte text n (omega (arith, h.0.high)) h.0.before) h.1
    ∙ ap (λ m. take n text ∷ slice_split (is_byte byte) (drop m text)) (sym (add-one n)))

-- parts are never none
parted_by : (first : List ℕ) (parts : List (List ℕ)) → 0 < length parts → IsParted (first ∷ parts)
parted_by first [] h = absurd (omega arith)
parted_by first (part ∷ parts) h = (first, part, parts, refl)

pub parted_some : (text : List ℕ) (n : ℕ) → IsFirstByte (is_byte 9) text (Some n) → IsParted (slice_split is_tab text)
parted_some text n h =
    let rest = drop (n + 1) text in
    rw (split_some 9 text n h) (parted_by (take n text) (slice_split is_tab rest) (omega (arith, length-slice_split is_tab rest)))

-- ---- a line as an entry

within_line : (line : List ℕ) → length line ≤ LINE → nat_le (length line) LINE ≡ true
within_line line h = le-leb (length line) LINE h

pub entry_parts : (version : Version) (line : List ℕ) → length line ≤ LINE → entry_of version line ≡ entry_in version (slice_split is_tab line)
unfolding entry_of
entry_parts version line h = rw (within_line line h) refl

-- one part, or two, make no entry
pub entry_one : (version : Version) (line : List ℕ) → length line ≤ LINE → slice_split is_tab line ≡ line ∷ [] → None ≡ entry_of version line
entry_one One line h e = sym (entry_parts One line h ∙ ap (entry_in One) e)
entry_one Two line h e = sym (entry_parts Two line h ∙ ap (entry_in Two) e)

pub entry_two : (version : Version) (line names rest : List ℕ) → length line ≤ LINE → slice_split is_tab line ≡ names ∷ slice_split is_tab rest
    → slice_split is_tab rest ≡ rest ∷ [] → None ≡ entry_of version line
entry_two One line names rest h e f = sym (entry_parts One line h ∙ ap (entry_in One) (e ∙ ap (λ l. names ∷ l) f))
entry_two Two line names rest h e f = sym (entry_parts Two line h ∙ ap (entry_in Two) (e ∙ ap (λ l. names ∷ l) f))

pub entry_last : (version : Version) (line names rest section last : List ℕ) (fields : Option (List ℕ × List ℕ)) → length line ≤ LINE
    → slice_split is_tab line ≡ names ∷ slice_split is_tab rest → slice_split is_tab rest ≡ section ∷ slice_split is_tab last
    → AreLast version (slice_split is_tab last) fields → entry_of_last names section fields ≡ entry_of version line
entry_last version line names rest section last fields h e f k = grind (arith, entry_parts)

-- ---- from a place on

pub next_version : (place : Place) (line : List ℕ) (later : List (List ℕ)) (version : Version) → place.version ≡ None → version_of line ≡ Some version
    → index_at place (line ∷ later) ≡ index_from (Some version) (place.lines + 1 + 1) later
unfolding index_from
next_version place line later version none is = rw (none, is) refl

pub no_version : (place : Place) (line : List ℕ) (later : List (List ℕ)) → place.version ≡ None → version_of line ≡ None
    → index_at place (line ∷ later) ≡ bad_at (place.lines + 1)
unfolding index_from
no_version place line later none is = rw (none, is) refl

pub next_entry : (place : Place) (line : List ℕ) (later : List (List ℕ)) (version : Version) (entry : Entry) → place.version ≡ Some version
    → entry_of version line ≡ Some entry
    → index_at place (line ∷ later) ≡ with_entries (entry ∷ []) (index_from place.version (place.lines + 1 + 1) later)
unfolding index_from
next_entry place line later version entry some is = rw (some, is) refl

pub no_entry : (place : Place) (line : List ℕ) (later : List (List ℕ)) (version : Version) → place.version ≡ Some version
    → entry_of version line ≡ None → index_at place (line ∷ later) ≡ bad_at (place.lines + 1)
unfolding index_from
no_entry place line later version some is = rw (some, is) refl

-- nothing before
with_none : (index : Index) → index ≡ with_entries [] index
with_none index = refl

pub begins : (place : Place) (line : List ℕ) (later : List (List ℕ)) (version : Version) → place.version ≡ None → version_of line ≡ Some version
    → index_at place (line ∷ later) ≡ with_entries [] (index_from (Some version) (place.lines + 1 + 1) later)
begins place line later version none is = next_version place line later version none is ∙ with_none _

-- ---- The names of an entry one after another, and the places of a name at which a word may be.

len_at : (byte : ℕ) (bytes : List ℕ) (b : Bool) → (ends_name byte bytes) ≡ b → name_len (byte ∷ bytes) ≡ (if b then 0 else 1 + name_len bytes)
unfolding name_len
len_at byte bytes b e = ap (λ (c : Bool). if c then 0 else 1 + name_len bytes) e

names_at : (byte : ℕ) (bytes : List ℕ) (b : Bool) → (ends_name byte bytes) ≡ b
    → names_of (byte ∷ bytes) ≡ (if b then [] ∷ without_blank (names_of bytes) else onto_first byte (names_of bytes))
unfolding names_of
names_at byte bytes b e = ap (λ (c : Bool). if c then [] ∷ without_blank (names_of bytes) else onto_first byte (names_of bytes)) e

names_none : names_of [] ≡ [] ∷ []
unfolding names_of
names_none = refl

pub len_none : name_len [] ≡ 0
unfolding name_len
len_none = refl

onto_has : (byte : ℕ) (names : List (List ℕ)) → (name : List ℕ) × (more : List (List ℕ)) × (onto_first byte names ≡ name ∷ more)
onto_has byte [] = (byte ∷ [], [], refl)
onto_has byte (name ∷ names) = (byte ∷ name, names, refl)

has_name : (text : List ℕ) → (name : List ℕ) × (more : List (List ℕ)) × (names_of text ≡ name ∷ more)
has_name [] = ([], [], names_none)
has_name (byte ∷ bytes) =
    elim (cases_Bool (ends_name byte bytes)) [
      | inl t ↦ ([], without_blank (names_of bytes), names_at byte bytes true t)
      | inr f ↦ let k = onto_has byte (names_of bytes) in (k.0, k.1, names_at byte bytes false f ∙ k.2)
    ]

pub len_most : (text : List ℕ) → name_len text ≤ length text
len_most [] = rw len_none (omega arith)
len_most (byte ∷ bytes) = grind (arith, len_at, len_most bytes)

-- the last name
pub names_end : (text : List ℕ) → name_len text ≡ length text → names_of text ≡ text ∷ []
names_end [] h = names_none
names_end (byte ∷ bytes) h =
    elim (cases_Bool (ends_name byte bytes)) [
      | inl t ↦ let z = sym (len_at byte bytes true t) ∙ h in absurd (omega (arith, z))
      | inr f ↦
          let z = sym (len_at byte bytes false f) ∙ h in
          names_at byte bytes false f ∙ ap (onto_first byte) (names_end bytes (omega (arith, z)))
    ]

-- a name before others
blank_first : (text : List ℕ) → begins_blank text ≡ true → without_blank (names_of text) ≡ names_of (drop 1 text)
blank_first [] h = absurd (false≢true h)
blank_first (byte ∷ bytes) h =
    let blank : byte ≡ 32 = eqb-true byte 32 h in
    let no : (ends_name byte bytes) ≡ false = rw blank refl in
    let k = has_name bytes in
    ap without_blank (names_at byte bytes false no ∙ ap (onto_first byte) k.2) ∙ sym k.2

second : (a b : Bool) → (a && b) ≡ true → b ≡ true
second true b e = e
second false b e = absurd (false≢true e)

blank_after : (byte : ℕ) (bytes : List ℕ) → ends_name byte bytes ≡ true → begins_blank bytes ≡ true
blank_after byte bytes e = second (byte == 44) (begins_blank bytes) e

more_of : (n : ℕ) → suc (n + 2) ≡ suc n + 2
more_of n = omega arith

pub names_more : (text : List ℕ) → ¬ (name_len text ≡ length text)
    → names_of text ≡ take (name_len text) text ∷ names_of (drop (name_len text + 2) text)
names_more [] h = absurd (h len_none)
names_more (byte ∷ bytes) h =
    elim (cases_Bool (ends_name byte bytes)) [
      | inl t ↦ rw (len_at byte bytes true t) (names_at byte bytes true t ∙ ap (λ l. [] ∷ l) (blank_first bytes (blank_after byte bytes t)))
      | inr f ↦
          let e = len_at byte bytes false f in
          let k : ¬ (name_len bytes ≡ length bytes) = λ same. h (e ∙ omega (arith, same)) in
          let n : name_len (byte ∷ bytes) ≡ suc (name_len bytes) = e ∙ omega arith in
          rw n (names_at byte bytes false f ∙ (ap (onto_first byte) (names_more bytes k) ∙ ap (λ m. (byte ∷ take (name_len bytes) bytes) ∷ names_of (drop m (byte ∷ bytes))) (more_of (name_len bytes))))
    ]

-- a blank follows the comma
blank_room : (text : List ℕ) → begins_blank text ≡ true → 1 ≤ length text
blank_room [] h = absurd (false≢true h)
blank_room (byte ∷ bytes) h = omega arith

pub names_room : (text : List ℕ) → name_len text < length text → name_len text + 2 ≤ length text
names_room [] h = absurd (omega arith)
names_room (byte ∷ bytes) h =
    elim (cases_Bool (ends_name byte bytes)) [
      | inl t ↦ rw (len_at byte bytes true t) (omega (arith, blank_room bytes (blank_after byte bytes t)))
      | inr f ↦
          let e = len_at byte bytes false f in
          let l : name_len bytes < length bytes = omega (arith, e, h) in
          omega (arith, e, names_room bytes l)
    ]

-- ---- a loop over the names

or_false : (b : Bool) → (b || false) ≡ b
or_false true = refl
or_false false = refl

pub match_last : (word text : List ℕ) → name_len text ≡ length text → has_match word text ≡ is_match word text
unfolding has_match
match_last word text h = ap (list_any (is_match word)) (names_end text h) ∙ or_false (is_match word text)

pub match_first : (word text : List ℕ) → ¬ (name_len text ≡ length text)
    → has_match word text ≡ (is_match word (take (name_len text) text) || has_match word (drop (name_len text + 2) text))
unfolding has_match
match_first word text h = ap (list_any (is_match word)) (names_more text h)

-- the first of the names that are left matches
pub name_found : (word names rest : List ℕ) (n : ℕ) → has_match word names ≡ has_match word rest → n ≡ name_len rest
    → is_match word (take n rest) ≡ true → true ≡ has_match word names
name_found word names rest n e l t = grind (arith, cases_eq, match_last, take_all, match_first)

-- the last one doesn't
pub name_last : (word names rest : List ℕ) (n : ℕ) → has_match word names ≡ has_match word rest → n ≡ name_len rest
    → is_match word (take n rest) ≡ false → n ≡ length rest → false ≡ has_match word names
name_last word names rest n e l f same = grind (arith, take_all, match_last)

-- one before others doesn't
pub name_on : (word names rest : List ℕ) (n : ℕ) → has_match word names ≡ has_match word rest → n ≡ name_len rest
    → is_match word (take n rest) ≡ false → n < length rest → has_match word names ≡ has_match word (drop (n + 2) rest)
name_on word names rest n e l f other = grind (arith, match_first)

-- no room for a comma and a blank
pub no_room : (n len : ℕ) → (n < len → n + 2 ≤ len) → n ≤ len → len < n + 2 → n ≡ len
no_room n len room bound short = grind arith

-- the same of a text that was split
pub split_found : (word names rest name : List ℕ) (n : ℕ) → has_match word names ≡ has_match word rest → n ≡ name_len rest → name ≡ take n rest
    → is_match word name ≡ true → true ≡ has_match word names
split_found word names rest name n e l w t = name_found word names rest n e l (ap (is_match word) (sym w) ∙ t)

pub split_last : (word names rest name : List ℕ) (n : ℕ) → has_match word names ≡ has_match word rest → n ≡ name_len rest → name ≡ take n rest
    → is_match word name ≡ false → n ≡ length rest → false ≡ has_match word names
split_last word names rest name n e l w f same = name_last word names rest n e l (ap (is_match word) (sym w) ∙ f) same

pub split_on : (word names rest name after : List ℕ) (n : ℕ) → has_match word names ≡ has_match word rest → n ≡ name_len rest → name ≡ take n rest
    → after ≡ drop n rest → is_match word name ≡ false → n < length rest
    → has_match word names ≡ has_match word (take (length after - 2) (drop 2 after))
split_on word names rest name after n e l w a f other =
    rw (take_rest after 2) (rw a (rw (drop-drop 2 n rest) (name_on word names rest n e l (ap (is_match word) (sym w) ∙ f) other)))

-- ---- a loop over the places of a name

place_more : (word : List ℕ) (before : Bool) (byte : ℕ) (bytes : List ℕ)
    → matches_in word before (byte ∷ bytes) ≡ (matches_here word before (byte ∷ bytes) || matches_in word (is_word_byte byte) bytes)
unfolding matches_in
place_more word before byte bytes = refl

place_last : (word : List ℕ) (before : Bool) → matches_in word before [] ≡ matches_here word before []
unfolding matches_in
place_last word before = refl

pub place_found : (word name rest : List ℕ) (before : Bool) (byte : ℕ) (after : List ℕ) → is_match word name ≡ matches_in word before rest → rest ≡ byte ∷ after
    → matches_here word before rest ≡ true → true ≡ is_match word name
place_found word name rest before byte after e r t = grind (arith, place_more)

pub place_on : (word name rest : List ℕ) (before : Bool) (byte : ℕ) (after : List ℕ) → is_match word name ≡ matches_in word before rest → rest ≡ byte ∷ after
    → matches_here word before rest ≡ false → is_match word name ≡ matches_in word (is_word_byte byte) after
place_on word name rest before byte after e r f = grind (arith, place_more)

pub place_end : (word name rest : List ℕ) (before : Bool) → is_match word name ≡ matches_in word before rest → length rest ≡ 0
    → matches_here word before rest ≡ is_match word name
place_end word name [] before e z = sym (e ∙ place_last word before)
place_end word name (byte ∷ after) before e z = absurd (omega (arith, z))

-- ---- a loop over the bytes of a name

pub len_stop : (names rest : List ℕ) (byte : ℕ) (after : List ℕ) → name_len names + length rest ≡ length names + name_len rest → rest ≡ byte ∷ after
    → ends_name byte after ≡ true → length names - length rest ≡ name_len names
len_stop names rest byte after e r t = let z = ap name_len r ∙ len_at byte after true t in omega (arith, e, z)

pub len_on : (names rest : List ℕ) (byte : ℕ) (after : List ℕ) → name_len names + length rest ≡ length names + name_len rest → rest ≡ byte ∷ after
    → ends_name byte after ≡ false → name_len names + length after ≡ length names + name_len after
len_on names rest byte after e r f = grind (arith, len_at)

pub len_end : (names rest : List ℕ) → name_len names + length rest ≡ length names + name_len rest → length rest ≡ 0 → length names ≡ name_len names
len_end names [] e z = omega (arith, e, len_none)
len_end names (byte ∷ after) e z = absurd (omega (arith, z))

-- ---- The words that are looked for, and the row of an entry.

-- the words from a place on
abbrev pub any_from : List ℕ → List (Bor (List ℕ)) → ℕ → Bool
any_from names words i = list_any (λ word. has_match word names) (map (λ word. word.now) (drop i words))

abbrev no_word : Bor (List ℕ)
no_word = record { ref_ptr = (0, 0); now = [] }

pub any_found : (names : List ℕ) (words : List (Bor (List ℕ))) (i : ℕ) (all : Bool) → all ≡ any_from names words i → i < length words
    → has_match (get_or words i no_word).now names ≡ true → true ≡ all
any_found names words i all e h t = grind (arith, drop_more)

pub any_on : (names : List ℕ) (words : List (Bor (List ℕ))) (i : ℕ) (all : Bool) → all ≡ any_from names words i → i < length words
    → has_match (get_or words i no_word).now names ≡ false → all ≡ any_from names words (i + 1)
any_on names words i all e h f = grind (arith, drop_more)

pub any_end : (names : List ℕ) (words : List (Bor (List ℕ))) (i : ℕ) (all : Bool) → all ≡ any_from names words i → length words ≤ i → false ≡ all
any_end names words i all e h = grind (arith, drop_all)

-- the row of an entry
pub no_row : (asked : Asked) (entry : Entry) → is_shown asked entry ≡ false → [] ≡ row_of asked entry
unfolding row_of
no_row asked entry f = rw f refl

pub one_row : (asked : Asked) (entry : Entry) → is_shown asked entry ≡ true → entry_row asked.show entry ≡ row_of asked entry
unfolding row_of
one_row asked entry t = rw t refl

-- the sink's laws at no row
pub gives_none : {L : Type 0} (k : RowsTo L) → IsSink k.to.gave k.to.within → (s : L) (row : List (List ℕ)) → [] ≡ row → GivesRow (Ok 0) k s s row
gives_none k laws s row e = rw (sym e) ((laws.none s, refl), refl, omega arith)

pub gives_row : {L : Type 0} (res : Result ℕ Fault) (k : RowsTo L) (s t : L) (asked : Asked) (entry : Entry) (show : Show) (row : List (List ℕ))
    → is_shown asked entry ≡ true → asked.show ≡ show → entry_row show entry ≡ row → GivesRow res k s t row → GivesRow res k s t (row_of asked entry)
gives_row res k s t asked entry show row is e r g = grind (arith, one_row)

one_of : (q : Asked) (entry : Entry) → rows q (entry ∷ []) ≡ row_of q entry
one_of q entry = append-nil (row_of q entry)

pub gives_one : {L : Type 0} (res : Result ℕ Fault) (k : RowsTo L) (s t : L) (q : Asked) (entry : Entry) → GivesRow res k s t (row_of q entry)
    → GivesRow res k s t (rows q (entry ∷ []))
gives_one res k s t q entry g = subst (λ (row : List (List ℕ)). GivesRow res k s t row) (sym (one_of q entry)) g

-- ---- The lines of bytes that come part by part.

-- ---- a byte more

whole_none : whole_lines [] ≡ []
unfolding whole_lines
whole_none = refl

whole_feed : (byte : ℕ) (bytes : List ℕ) → is_line_feed byte ≡ true → whole_lines (byte ∷ bytes) ≡ [] ∷ whole_lines bytes
unfolding whole_lines
whole_feed byte bytes t = ap (λ (c : Bool). if c then [] ∷ whole_lines bytes else with_byte byte (whole_lines bytes)) t

whole_byte : (byte : ℕ) (bytes : List ℕ) → is_line_feed byte ≡ false → whole_lines (byte ∷ bytes) ≡ with_byte byte (whole_lines bytes)
unfolding whole_lines
whole_byte byte bytes f = ap (λ (c : Bool). if c then [] ∷ whole_lines bytes else with_byte byte (whole_lines bytes)) f

lines_none : lines [] ≡ []
unfolding lines
lines_none = refl

lines_feed : (byte : ℕ) (bytes : List ℕ) → is_line_feed byte ≡ true → lines (byte ∷ bytes) ≡ [] ∷ lines bytes
unfolding lines
lines_feed byte bytes t = ap (λ (c : Bool). if c then [] ∷ lines bytes else onto_first byte (lines bytes)) t

lines_byte : (byte : ℕ) (bytes : List ℕ) → is_line_feed byte ≡ false → lines (byte ∷ bytes) ≡ onto_first byte (lines bytes)
unfolding lines
lines_byte byte bytes f = ap (λ (c : Bool). if c then [] ∷ lines bytes else onto_first byte (lines bytes)) f

open_none : open_line [] ≡ []
unfolding open_line
open_none = refl

open_at : (byte : ℕ) (bytes : List ℕ) (ws : List Line) → whole_lines (byte ∷ bytes) ≡ ws → open_line (byte ∷ bytes) ≡ after_lines ws (byte ∷ bytes) (open_line bytes)
unfolding open_line
open_at byte bytes ws e = ap (λ (l : List Line). after_lines l (byte ∷ bytes) (open_line bytes)) e

-- ---- bytes after others

whole_kept : (byte : ℕ) (xs ys : List ℕ) (ws : List Line) → is_line_feed byte ≡ false → whole_lines xs ≡ ws
    → whole_lines (xs ++ ys) ≡ whole_lines xs ++ whole_lines (open_line xs ++ ys)
    → whole_lines (byte ∷ (xs ++ ys)) ≡ whole_lines (byte ∷ xs) ++ whole_lines (open_line (byte ∷ xs) ++ ys)
whole_kept byte xs ys [] f e h =
    let w = whole_byte byte xs f ∙ ap (with_byte byte) e in
    rw (w, open_at byte xs [] w) refl
whole_kept byte xs ys (l ∷ ls) f e h =
    let w = whole_byte byte xs f ∙ ap (with_byte byte) e in
    let k = whole_byte byte (xs ++ ys) f ∙ ap (with_byte byte) (h ∙ ap (λ (m : List Line). m ++ whole_lines (open_line xs ++ ys)) e) in
    rw (w, open_at byte xs ((byte ∷ l) ∷ ls) w) k

pub whole-append : (xs ys : List ℕ) → whole_lines (xs ++ ys) ≡ whole_lines xs ++ whole_lines (open_line xs ++ ys)
whole-append [] ys = rw (whole_none, open_none) refl
whole-append (byte ∷ xs) ys = elim (cases_Bool (is_line_feed byte)) [
  | inl t ↦
      let w = whole_feed byte xs t in
      rw (w, open_at byte xs ([] ∷ whole_lines xs) w) (whole_feed byte (xs ++ ys) t ∙ ap (λ l. [] ∷ l) (whole-append xs ys))
  | inr f ↦ whole_kept byte xs ys (whole_lines xs) f refl (whole-append xs ys)
]

open_kept : (byte : ℕ) (xs ys : List ℕ) (ws : List Line) → is_line_feed byte ≡ false → whole_lines xs ≡ ws
    → open_line (xs ++ ys) ≡ open_line (open_line xs ++ ys) → open_line (byte ∷ (xs ++ ys)) ≡ open_line (open_line (byte ∷ xs) ++ ys)
open_kept byte xs ys [] f e h =
    let w = whole_byte byte xs f ∙ ap (with_byte byte) e in
    rw (open_at byte xs [] w) refl
open_kept byte xs ys (l ∷ ls) f e h =
    let w = whole_byte byte xs f ∙ ap (with_byte byte) e in
    let k = whole_byte byte (xs ++ ys) f ∙ ap (with_byte byte) (whole-append xs ys ∙ ap (λ (m : List Line). m ++ whole_lines (open_line xs ++ ys)) e) in
    rw (open_at byte xs ((byte ∷ l) ∷ ls) w) (open_at byte (xs ++ ys) _ k ∙ h)

pub open-append : (xs ys : List ℕ) → open_line (xs ++ ys) ≡ open_line (open_line xs ++ ys)
open-append [] ys = rw open_none refl
open-append (byte ∷ xs) ys = elim (cases_Bool (is_line_feed byte)) [
  | inl t ↦
      let w = whole_feed byte xs t in
      rw (open_at byte xs ([] ∷ whole_lines xs) w) (open_at byte (xs ++ ys) _ (whole_feed byte (xs ++ ys) t) ∙ open-append xs ys)
  | inr f ↦ open_kept byte xs ys (whole_lines xs) f refl (open-append xs ys)
]

lines_kept : (byte : ℕ) (xs ys : List ℕ) (ws : List Line) → is_line_feed byte ≡ false → whole_lines xs ≡ ws
    → lines (xs ++ ys) ≡ whole_lines xs ++ lines (open_line xs ++ ys)
    → lines (byte ∷ (xs ++ ys)) ≡ whole_lines (byte ∷ xs) ++ lines (open_line (byte ∷ xs) ++ ys)
lines_kept byte xs ys [] f e h =
    let w = whole_byte byte xs f ∙ ap (with_byte byte) e in
    rw (w, open_at byte xs [] w) refl
lines_kept byte xs ys (l ∷ ls) f e h =
    let w = whole_byte byte xs f ∙ ap (with_byte byte) e in
    let k = lines_byte byte (xs ++ ys) f ∙ ap (onto_first byte) (h ∙ ap (λ (m : List Line). m ++ lines (open_line xs ++ ys)) e) in
    rw (w, open_at byte xs ((byte ∷ l) ∷ ls) w) k

pub lines-append : (xs ys : List ℕ) → lines (xs ++ ys) ≡ whole_lines xs ++ lines (open_line xs ++ ys)
lines-append [] ys = rw (whole_none, open_none) refl
lines-append (byte ∷ xs) ys = elim (cases_Bool (is_line_feed byte)) [
  | inl t ↦
      let w = whole_feed byte xs t in
      rw (w, open_at byte xs ([] ∷ whole_lines xs) w) (lines_feed byte (xs ++ ys) t ∙ ap (λ l. [] ∷ l) (lines-append xs ys))
  | inr f ↦ lines_kept byte xs ys (whole_lines xs) f refl (lines-append xs ys)
]

-- ---- bytes without a line feed

abbrev pub HasNoFeed : List ℕ → Type 0
HasNoFeed bytes = list_any is_line_feed bytes ≡ false

left_false : (a b : Bool) → (a || b) ≡ false → a ≡ false
left_false true b e = absurd (false≢true (sym e))
left_false false b e = refl

right_false : (a b : Bool) → (a || b) ≡ false → b ≡ false
right_false true b e = absurd (false≢true (sym e))
right_false false b e = e

pub no_feed-append : (xs ys : List ℕ) → HasNoFeed xs → HasNoFeed ys → HasNoFeed (xs ++ ys)
no_feed-append xs ys h k = list_any-append is_line_feed xs ys ∙ rw (h, k) refl

pub no_feed_all : (xs : List ℕ) → All (λ x. is_line_feed x ≡ false) xs → HasNoFeed xs
no_feed_all [] h = refl
no_feed_all (x ∷ xs) h = rw (All-head (λ y. is_line_feed y ≡ false) x xs h) (no_feed_all xs (All-tail (λ y. is_line_feed y ≡ false) x xs h))

pub whole_flat : (xs : List ℕ) → HasNoFeed xs → whole_lines xs ≡ []
whole_flat [] h = whole_none
whole_flat (x ∷ xs) h = whole_byte x xs (left_false (is_line_feed x) _ h) ∙ ap (with_byte x) (whole_flat xs (right_false (is_line_feed x) _ h))

pub open_flat : (xs : List ℕ) → HasNoFeed xs → open_line xs ≡ xs
open_flat [] h = open_none
open_flat (x ∷ xs) h = open_at x xs [] (whole_flat (x ∷ xs) h)

flat_of : (byte : ℕ) (ws : List Line) → with_byte byte ws ≡ [] → ws ≡ []
flat_of byte [] e = refl
flat_of byte (l ∷ ls) e = let no : ⊥ = cc in absurd no

no_feed_of : (xs : List ℕ) → whole_lines xs ≡ [] → HasNoFeed xs
no_feed_of [] e = refl
no_feed_of (x ∷ xs) e = elim (cases_Bool (is_line_feed x)) [
  | inl t ↦ let k : [] ∷ whole_lines xs ≡ [] = sym (whole_feed x xs t) ∙ e in let no : ⊥ = cc in absurd no
  | inr f ↦ let k = flat_of x (whole_lines xs) (sym (whole_byte x xs f) ∙ e) in rw f (no_feed_of xs k)
]

open_no_feed_at : (x : ℕ) (xs : List ℕ) (ws : List Line) → whole_lines (x ∷ xs) ≡ ws → HasNoFeed (open_line xs) → HasNoFeed (open_line (x ∷ xs))
open_no_feed_at x xs [] e h = rw (open_at x xs [] e) (no_feed_of (x ∷ xs) e)
open_no_feed_at x xs (l ∷ ls) e h = rw (open_at x xs (l ∷ ls) e) h

pub open_no_feed : (xs : List ℕ) → HasNoFeed (open_line xs)
open_no_feed [] = rw open_none refl
open_no_feed (x ∷ xs) = open_no_feed_at x xs (whole_lines (x ∷ xs)) refl (open_no_feed xs)

-- ---- a line that ends

pub whole_end : (xs ys : List ℕ) → HasNoFeed xs → whole_lines (xs ++ 10 ∷ ys) ≡ xs ∷ whole_lines ys
whole_end [] ys h = whole_feed 10 ys refl
whole_end (x ∷ xs) ys h = grind (arith, whole_byte, left_false, right_false, whole_end xs ys (right_false (is_line_feed x) _ h))

pub open_end : (xs ys : List ℕ) → HasNoFeed xs → open_line (xs ++ 10 ∷ ys) ≡ open_line ys
open_end [] ys h = open_at 10 ys _ (whole_feed 10 ys refl)
open_end (x ∷ xs) ys h = open_at x (xs ++ 10 ∷ ys) _ (whole_end (x ∷ xs) ys h) ∙ open_end xs ys (right_false (is_line_feed x) _ h)

pub lines_end : (xs ys : List ℕ) → HasNoFeed xs → lines (xs ++ 10 ∷ ys) ≡ xs ∷ lines ys
lines_end [] ys h = lines_feed 10 ys refl
lines_end (x ∷ xs) ys h = grind (arith, lines_byte, left_false, right_false, lines_end xs ys (right_false (is_line_feed x) _ h))

-- ---- a line that goes on

begun : (x : ℕ) (ls : List Line) → (z : Line) × (zs : List Line) × (onto_first x ls ≡ (x ∷ z) ∷ zs)
begun x [] = ([], [], refl)
begun x (l ∷ ls) = (l, ls, refl)

-- bytes without a line feed begin the first line of what they are followed by
pub lines_begun : (x : ℕ) (xs ys : List ℕ) → HasNoFeed (x ∷ xs) → (z : Line) × (zs : List Line) × (lines ((x ∷ xs) ++ ys) ≡ ((x ∷ xs) ++ z) ∷ zs)
lines_begun x [] ys h =
    let k = begun x (lines ys) in (k.0, k.1, lines_byte x ys (left_false (is_line_feed x) _ h) ∙ k.2)
lines_begun x (y ∷ xs) ys h = grind (arith, right_false, lines_byte, left_false, lines_begun y xs ys (right_false (is_line_feed x) _ h))

-- the last line may lack its line feed
pub lines_flat : (x : ℕ) (xs : List ℕ) → HasNoFeed (x ∷ xs) → lines (x ∷ xs) ≡ (x ∷ xs) ∷ []
lines_flat x [] h = lines_byte x [] (left_false (is_line_feed x) _ h) ∙ ap (onto_first x) lines_none
lines_flat x (y ∷ xs) h = lines_byte x (y ∷ xs) (left_false (is_line_feed x) _ h) ∙ ap (onto_first x) (lines_flat y xs (right_false (is_line_feed x) _ h))

pub no_lines : lines [] ≡ []
no_lines = lines_none

-- ---- The causes of a search's faults, from a sink to what lies below it.

-- a sink over what lies below it: what comes to the sink comes there, and it fails as that does
pub record LieOver {L W : Type 0} (k : RowsTo L) (i : RowsTo W) (f : L → W) : Type 0 where
  pub gave : (x y : L) (rows : List (List ℕ)) → k.to.gave x rows y → i.to.gave (f x) rows (f y)
  pub within : (x y : L) (rows : List (List ℕ)) → k.to.within x rows y → i.to.within (f x) rows (f y)
  pub failed : (x : L) → k.failed x ≡ i.failed (f x)

module _ {L W : Type 0} (k : RowsTo L) (i : RowsTo W) (f : L → W) (o : LieOver k i f) where
  shown_on : (s t : L) (q : Asked) (bytes : List ℕ) (after : Option (List ℕ)) (number : ℕ) → Shown k.to s t q bytes after number
      → Shown i.to (f s) (f t) q bytes after number
  shown_on s t q bytes after number h = record { gave = o.gave s t _ h.gave; count = h.count; good = h.good; all = h.all }

  bad_on : (s t : L) (q : Asked) (bytes : List ℕ) (after : Option (List ℕ)) (number : ℕ) → FoundBad k.to s t q bytes after number
      → FoundBad i.to (f s) (f t) q bytes after number
  bad_on s t q bytes after number h = record { gave = o.gave s t _ h.gave; bad = h.bad; stays = h.stays }

  whole_on : (s t : L) (q : Asked) (bytes : List ℕ) → ReadWhole k.to s t q bytes → ReadWhole i.to (f s) (f t) q bytes
  whole_on s t q bytes h = record { gave = o.gave s t _ h.gave; good = h.good }

  same_on : (s t : L) → k.failed t ≡ k.failed s → i.failed (f t) ≡ i.failed (f s)
  same_on s t h = sym (o.failed t) ∙ (h ∙ o.failed s)

  rose_on : (s t : L) → Rose (k.failed s) (k.failed t) → Rose (i.failed (f s)) (i.failed (f t))
  rose_on s t h = subst (λ (x : ℕ). Rose x (i.failed (f t))) (o.failed s) (subst (λ (x : ℕ). Rose (k.failed s) x) (o.failed t) h)

  quiet_on : (a b : SourceState) (s t : L) → Quiet k a b s t → Quiet i a b (f s) (f t)
  quiet_on a b s t h = record { source = h.source; rows = same_on s t h.rows }

  -- of the same search, what came to the sink and the cause are said of what lies below it
  over : (a b : SourceState) (s t : L) (q : Asked) (bytes : List ℕ) (res : Result ℕ Fault) (h : SearchesOver res k a b s t q bytes)
      → Searches res i.to (f s) (f t) q bytes b.remaining
      → MatchResult res (λ _. Quiet i a b (f s) (f t)) (λ fault. HasCause i a b (f s) (f t) h.asked bytes fault) → SearchesOver res i a b (f s) (f t) q bytes
  over a b s t q bytes res h ends cause = record { asked = h.asked; few = h.few; source = h.source; lean = h.lean; ends = ends; cause = cause }

  pub caused_on : (a b : SourceState) (s t : L) (q : Asked) (bytes : List ℕ) (res : Result ℕ Fault)
      → SearchesOver res k a b s t q bytes → SearchesOver res i a b (f s) (f t) q bytes
  caused_on a b s t q bytes (Ok number) h = over a b s t q bytes (Ok number) h (shown_on s t q bytes b.remaining number h.ends) (quiet_on a b s t h.cause)
  caused_on a b s t q bytes (Err Memory) h = over a b s t q bytes (Err Memory) h (h.ends.0, o.gave s t [] h.ends.1) (h.cause.0, ap f h.cause.1)
  caused_on a b s t q bytes (Err Read) h = over a b s t q bytes (Err Read) h (whole_on s t q bytes h.ends) (h.cause.0, same_on s t h.cause.1)
  caused_on a b s t q bytes (Err TooLong) h = over a b s t q bytes (Err TooLong) h (whole_on s t q _ h.ends) (h.cause.0, quiet_on a b s t h.cause.1)
  caused_on a b s t q bytes (Err WriteText) h = over a b s t q bytes (Err WriteText) h (o.within s t _ h.ends) (h.cause.0, rose_on s t h.cause.1)
  caused_on a b s t q bytes (Err (BadIndex number)) h =
      over a b s t q bytes (Err (BadIndex number)) h (bad_on s t q bytes b.remaining number h.ends) (quiet_on a b s t h.cause)
  caused_on a b s t q bytes (Err WriteNotes) h = absurd h.cause
  caused_on a b s t q bytes (Err (Settings fault)) h = absurd h.cause
  caused_on a b s t q bytes (Err Failed) h = absurd h.cause
  caused_on a b s t q bytes (Err Ended) h = absurd h.cause
