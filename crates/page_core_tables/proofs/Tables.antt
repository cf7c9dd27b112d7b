-- A search among rows whose keys rise.
use Rattle.std.proofs.Common.{◌≡◌, ℕ, zero, suc, ◌+◌, ◌<◌, ◌≤◌, true, nat_le, List, [], ◌∷◌, length, get_or, Some, None, Ok, Err, refl, sym, ◌∙◌, arith, inl, inr, Bool, false, eqb, ◌||◌, Option, option_map, ap, ap₂, add-zero, ◌==◌, ◌&&◌, nat_lt, not, cond}
use Rattle.std.proofs.lemmas.Bool.{cases_lt, and_parts, cond-true, cond-false, leb-true, eq-eqb, ne_eqb, cases_Bool, and_from, and_left, and_right, le-leb, lt-leb, or_cases, eqb-true, both_ways}
use Rattle.std.proofs.lemmas.Bool.Decides.{nat_tests}
use Rattle.std.specs.List.Sorted.{IsBinarySearchResult, IsNonDecreasingBy}
use Rattle.std.specs.Ordering.{nat_cmp, ordering_index}
use Rattle.std.proofs.lemmas.Cmp.{ranked}
use Rattle.std.specs.Borrow.{Bor}
use Rattle.page_core_tables.specs.Glyphs.{Symbol, Entry, entry, symbol_at, table, name_key, glyph_of, first_spelling, spelling_of, by_spelling, char_columns, is_control, char_printed, glyph_printed, symbol_printed, prints_ascii, known}
use Rattle.page_core_tables.specs.laws.Views.{entries, symbol_of}
use Rattle.page_core_tables.specs.machine.Rows.{keys_rise, has_key, rows_are_spelled, is_spelled, spellings_have_rows, are_characters_from}
use Rattle.std.specs.Str.{bytes_eq}
use Rattle.std.proofs.lemmas.Slice.Eq.{bytes_eq-Decides}
use Rattle.std.specs.List.{list_all}
use Rattle.page_core_tables.specs.declared.rows.Glyph.{Glyph}
use Rattle.unicode_width.specs.Width.{char_width}
use Rattle.page_core_base.specs.declared.page_settings.Output.{Output}
use Rattle.page_core_base.specs.declared.page_settings.Output.TheVariants.{Ascii, Utf8, Lint}

-- the first key is no smaller than the bound, and the rest rise from above it
keys_rise-parts : (least : ℕ) (e : Entry) (es : List Entry) → keys_rise least (e ∷ es) ≡ true → (least ≤ e.key) × (keys_rise (e.key + 1) es ≡ true)
unfolding keys_rise
keys_rise-parts least e es h =
    let parts = and_parts (nat_le least e.key) (keys_rise (e.key + 1) es) h in
    (leb-true least e.key parts.0, parts.1)

-- no key is below the bound that they rise from
keys_rise-at : (least : ℕ) (rows : List (ℕ × ℕ × Bor (List ℕ))) (i : ℕ) (d : ℕ × ℕ × Bor (List ℕ)) → keys_rise least (entries rows) ≡ true → i < length rows
    → least ≤ (get_or rows i d).0
keys_rise-at least [] i d h lt = absurd (omega arith)
keys_rise-at least (r ∷ rs) zero d h lt = (keys_rise-parts least (entry r.0 r.1 r.2.now) (entries rs) h).0
keys_rise-at least (r ∷ rs) (suc i) d h lt =
    let parts = keys_rise-parts least (entry r.0 r.1 r.2.now) (entries rs) h in
    omega (arith, keys_rise-at (r.0 + 1) rs i d parts.1 (omega arith))

-- an earlier key is no greater than a later one
keys_in_order : (least : ℕ) (rows : List (ℕ × ℕ × Bor (List ℕ))) (i j : ℕ) (d : ℕ × ℕ × Bor (List ℕ)) → keys_rise least (entries rows) ≡ true → i ≤ j → j < length rows
    → (get_or rows i d).0 ≤ (get_or rows j d).0
keys_in_order least (r ∷ rs) zero zero d h le lt = omega arith
keys_in_order least (r ∷ rs) zero (suc j) d h le lt =
    let parts = keys_rise-parts least (entry r.0 r.1 r.2.now) (entries rs) h in
    omega (arith, keys_rise-at (r.0 + 1) rs j d parts.1 (omega arith))
keys_in_order least (r ∷ rs) (suc i) (suc j) d h le lt =
    keys_in_order (r.0 + 1) rs i j d (keys_rise-parts least (entry r.0 r.1 r.2.now) (entries rs) h).1 (omega arith) (omega arith)
keys_in_order least _ _ _ d h le lt = absurd (omega arith)

-- the symbol of a row
abbrev pub symbol_in : ℕ × ℕ × Bor (List ℕ) → Symbol
symbol_in row = record { code = row.1; spelling = row.2.now }

-- a row with the key is the first one, since the keys differ
symbol_at-row : (least : ℕ) (rows : List (ℕ × ℕ × Bor (List ℕ))) (key i : ℕ) (d : ℕ × ℕ × Bor (List ℕ)) → keys_rise least (entries rows) ≡ true → i < length rows
    → (get_or rows i d).0 ≡ key → symbol_at (entries rows) key ≡ Some (symbol_in (get_or rows i d))
unfolding symbol_at
symbol_at-row least [] key i d h lt e = absurd (omega arith)
symbol_at-row least (r ∷ rs) key zero d h lt e = cond-true _ _ _ (eq-eqb r.0 key e)
symbol_at-row least (r ∷ rs) key (suc i) d h lt e =
    let parts = keys_rise-parts least (entry r.0 r.1 r.2.now) (entries rs) h in
    let below = keys_rise-at (r.0 + 1) rs i d parts.1 (omega arith) in
    cond-false _ _ _ (ne_eqb r.0 key (λ same. omega arith)) ∙ symbol_at-row (r.0 + 1) rs key i d parts.1 (omega arith) e

-- where no row has the key, none is found
symbol_at-none : (rows : List (ℕ × ℕ × Bor (List ℕ))) (key : ℕ) → ((i : ℕ) (d : ℕ × ℕ × Bor (List ℕ)) → i < length rows → (get_or rows i d).0 ≡ key → ⊥)
    → symbol_at (entries rows) key ≡ None
unfolding symbol_at
symbol_at-none [] key h = refl
symbol_at-none (r ∷ rs) key h =
    cond-false _ _ _ (ne_eqb r.0 key (h zero r (omega arith)))
    ∙ symbol_at-none rs key (λ i d lt e. h (suc i) d (omega arith) e)

module _ (rows : List (ℕ × ℕ × Bor (List ℕ))) (key : ℕ) (rising : keys_rise 0 (entries rows) ≡ true) where
  comparisons_rise : IsNonDecreasingBy (λ (r : ℕ × ℕ × Bor (List ℕ)). ordering_index (nat_cmp r.0 key)) rows
  comparisons_rise i j e le lt =
      let order = keys_in_order 0 rows i j e rising le lt in
      grind (arith, nat_tests)

  -- what a binary search by key found is the first row with the key
  pub searched_found : (i : ℕ) (d : ℕ × ℕ × Bor (List ℕ)) → i < length rows → IsBinarySearchResult (λ (r : ℕ × ℕ × Bor (List ℕ)). nat_cmp r.0 key) rows (Ok i)
      → symbol_at (entries rows) key ≡ Some (symbol_in (get_or rows i d))
  searched_found i d lt equal = symbol_at-row 0 rows key i d rising lt (ranked _ key _ (sym (equal d)))

  -- and where it found none there is none
  pub searched_absent : (i : ℕ) → i ≤ length rows → IsBinarySearchResult (λ (r : ℕ × ℕ × Bor (List ℕ)). nat_cmp r.0 key) rows (Err i)
      → symbol_at (entries rows) key ≡ None
  searched_absent i le parted = symbol_at-none rows key (λ k d lt same.
      elim (cases_lt k i) [
        | inl before ↦ let less = ranked _ key _ (sym ((parted comparisons_rise).0 k d (omega arith) before)) in omega arith
        | inr after ↦ let more = ranked _ key _ (sym ((parted comparisons_rise).1 k d after lt)) in omega arith
      ])

-- ---- What is found among the sorted rows is what the table of names says.

-- what is at a key passes what each entry passes
pub symbol_at-passes : (p : ℕ → Symbol → Bool) (rows : List Entry) (key : ℕ) (s : Symbol) → list_all (λ e. p e.key e.symbol) rows ≡ true → symbol_at rows key ≡ Some s
    → p key s ≡ true
unfolding symbol_at
symbol_at-passes p [] key s h e = cc
symbol_at-passes p (x ∷ xs) key s h e =
    let parts = and_parts (p x.key x.symbol) (list_all (λ e. p e.key e.symbol) xs) h in
    elim (cases_Bool (eqb x.key key)) [
      | inl same ↦
          let is_first : Some x.symbol ≡ Some s = sym (cond-true _ _ _ same) ∙ e in
          let is_it : x.symbol ≡ s = cc in
          ap₂ p (sym (eqb-true x.key key same)) (sym is_it) ∙ parts.0
      | inr other ↦ symbol_at-passes p xs key s parts.1 (sym (cond-false _ _ _ other) ∙ e)
    ]

-- where there is nothing at a key no row has it
symbol_at-none-has_key : (rows : List Entry) (key : ℕ) → symbol_at rows key ≡ None → has_key rows key ≡ false
unfolding symbol_at
symbol_at-none-has_key [] key e = refl
symbol_at-none-has_key (x ∷ xs) key e =
    elim (cases_Bool (eqb x.key key)) [
      | inl same ↦ let found : Some x.symbol ≡ None = sym (cond-true _ _ _ same) ∙ e in cc
      | inr other ↦ ap (λ b. b || has_key xs key) other ∙ symbol_at-none-has_key xs key (sym (cond-false _ _ _ other) ∙ e)
    ]

pub glyph_of-pair : (first second : ℕ) → glyph_of (first ∷ second ∷ []) ≡ symbol_at table (name_key first second)
unfolding glyph_of
glyph_of-pair first second = refl

pub glyph_of-length : (name : List ℕ) → (length name ≡ 2 → ⊥) → glyph_of name ≡ None
unfolding glyph_of
glyph_of-length (a ∷ b ∷ []) other = absurd (other refl)
glyph_of-length _ other = refl

-- ---- spellings

-- the spelling of the glyph that was found, empty where none was
abbrev pub spelling_in : Option Glyph → List ℕ
spelling_in None = []
spelling_in (Some g) = g.ascii.now

first_spelling-none : (rows : List Entry) (code : ℕ) (es : List Entry) → list_all (is_spelled rows) es ≡ true → has_key rows code ≡ false → first_spelling code es ≡ []
unfolding first_spelling is_spelled
first_spelling-none rows code [] all absent = refl
first_spelling-none rows code (e ∷ es) all absent =
    let parts = and_parts (is_spelled rows e) (list_all (is_spelled rows) es) all in
    elim (cases_Bool (eqb e.symbol.code code)) [
      | inl same ↦
          let is_code = eqb-true e.symbol.code code same in
          cond-true _ _ _ same
          ∙ elim (or_cases _ _ parts.0) [
            | inl empty ↦ (bytes_eq-Decides e.symbol.spelling []).0 empty
            | inr has ↦ absurd (both_ways _ absent (ap (has_key rows) (sym is_code) ∙ has))
          ]
      | inr differs ↦ cond-false _ _ _ differs ∙ first_spelling-none rows code es parts.1 absent
    ]

-- what the rows have at a code point is its spelling
pub first_spelling-row : (rows : List Entry) (code : ℕ) (o : Option Glyph) → rows_are_spelled rows ≡ true → spellings_have_rows rows ≡ true
    → option_map symbol_of o ≡ symbol_at rows code → spelling_in o ≡ first_spelling code table
unfolding rows_are_spelled spellings_have_rows
first_spelling-row rows code None spelled complete is = sym (first_spelling-none rows code table complete (symbol_at-none-has_key rows code (sym is)))
first_spelling-row rows code (Some g) spelled complete is =
    let same = symbol_at-passes (λ key s. bytes_eq (first_spelling key table) s.spelling) rows code (symbol_of g) spelled (sym is) in
    sym ((bytes_eq-Decides _ _).0 same)

-- ---- the characters of ASCII

-- the text at each place has the character of that place
pub are_characters_from-at : (first : ℕ) (texts : List (Bor (List ℕ))) (i : ℕ) (d : Bor (List ℕ)) → are_characters_from first texts ≡ true → i < length texts → (get_or texts i d).now ≡ (first + i) ∷ []
unfolding are_characters_from
are_characters_from-at first [] i d all lt = absurd (omega arith)
are_characters_from-at first (t ∷ ts) zero d all lt =
    let parts = and_parts (bytes_eq t.now (first ∷ [])) (are_characters_from (first + 1) ts) all in
    rw add-zero ((bytes_eq-Decides t.now (first ∷ [])).0 parts.0)
are_characters_from-at first (t ∷ ts) (suc i) d all lt =
    let parts = and_parts (bytes_eq t.now (first ∷ [])) (are_characters_from (first + 1) ts) all in
    let same : first + 1 + i ≡ first + suc i = omega arith in
    are_characters_from-at (first + 1) ts i d parts.1 (omega arith) ∙ ap (λ n. n ∷ []) same

-- ---- what a character from a blank to `~` is spelled as

pub spelling_of-ascii : (c : ℕ) → 32 ≤ c → c ≤ 126 → spelling_of c ≡ c ∷ []
unfolding spelling_of
spelling_of-ascii c low high = cond-true _ _ _ (and_from _ _ (le-leb 32 c low) (le-leb c 126 high))

pub spelling_of-below : (c : ℕ) → c < 32 → spelling_of c ≡ first_spelling c table
unfolding spelling_of
spelling_of-below c low = cond-false _ _ _ (and_left _ _ (lt-leb 32 c low))

pub spelling_of-above : (c : ℕ) → 126 < c → spelling_of c ≡ first_spelling c table
unfolding spelling_of
spelling_of-above c high = cond-false _ _ _ (and_right _ _ (lt-leb c 126 high))

-- ---- What is printed is short, and a character of printable ASCII has one column.

-- ---- spellings have eight characters at most

abbrev is_short : Entry → Bool
is_short e = nat_le (length e.symbol.spelling) 8

nat_le-true : (a b : ℕ) → nat_le a b ≡ true → a ≤ b
nat_le-true a b h = grind (arith, nat_tests)

all_short : list_all is_short table ≡ true
unfolding table
all_short = refl

first_spelling-short : (code : ℕ) (es : List Entry) → list_all is_short es ≡ true → length (first_spelling code es) ≤ 8
unfolding first_spelling
first_spelling-short code [] h = omega arith
first_spelling-short code (e ∷ es) h =
    let parts = and_parts (is_short e) (list_all is_short es) h in
    elim (cases_Bool (e.symbol.code == code)) [
      | inl same ↦ rw same (nat_le-true (length e.symbol.spelling) 8 parts.0)
      | inr other ↦ rw other (first_spelling-short code es parts.1)
    ]

spelling_of-short : (c : ℕ) → length (spelling_of c) ≤ 8
unfolding spelling_of
spelling_of-short c =
    elim (cases_Bool (nat_le 32 c && nat_le c 126)) [
      | inl ascii ↦ rw ascii (omega arith)
      | inr other ↦ rw other (first_spelling-short c table all_short)
    ]

glyph_of-short : (name : List ℕ) (symbol : Symbol) → Some symbol ≡ glyph_of name → length symbol.spelling ≤ 8
unfolding glyph_of
glyph_of-short (a ∷ b ∷ []) symbol e =
    nat_le-true (length symbol.spelling) 8 (symbol_at-passes (λ key s. nat_le (length s.spelling) 8) table (name_key a b) symbol all_short (sym e))
glyph_of-short _ symbol e = let never : Some symbol ≡ None = e in cc

by_spelling-short : (spelling : List ℕ) (c : ℕ) → length spelling ≤ 8 → length (by_spelling spelling c).characters ≤ 8
by_spelling-short [] c short = omega arith
by_spelling-short (b ∷ bs) c short = short

pub by_spelling_of-short : (c : ℕ) (text : List ℕ) → text ≡ spelling_of c → length (by_spelling text c).characters ≤ 8
by_spelling_of-short c text is = by_spelling-short text c (rw is (spelling_of-short c))

pub by_spelling_of_glyph-short : (name : List ℕ) (symbol : Symbol) → Some symbol ≡ glyph_of name → length (by_spelling symbol.spelling symbol.code).characters ≤ 8
by_spelling_of_glyph-short name symbol is = by_spelling-short symbol.spelling symbol.code (glyph_of-short name symbol is)

-- ---- columns

pub char_columns-printable : (c : ℕ) → 32 ≤ c → c ≤ 126 → char_columns c ≡ 1
unfolding char_width
char_columns-printable c low high = grind (arith, nat_tests, low, high)

-- ---- What a character and the glyph of a name print has no control character.

abbrev is_shown : ℕ → Bool
is_shown c = not (is_control c)

abbrev are_shown : List ℕ → Bool
are_shown cs = list_all is_shown cs

abbrev is_shown_symbol : Symbol → Bool
is_shown_symbol s = is_shown s.code && are_shown s.spelling

-- ---- the table

all_shown : list_all (λ (e : Entry). is_shown_symbol e.symbol) table ≡ true
unfolding table
all_shown = refl

spelling-shown : (code : ℕ) (es : List Entry) → list_all (λ (e : Entry). is_shown_symbol e.symbol) es ≡ true → are_shown (first_spelling code es) ≡ true
unfolding first_spelling
spelling-shown code [] h = refl
spelling-shown code (e ∷ es) h =
    let parts = and_parts (is_shown_symbol e.symbol) (list_all (λ (e : Entry). is_shown_symbol e.symbol) es) h in
    elim (cases_Bool (e.symbol.code == code)) [
      | inl same ↦ rw same ((and_parts (is_shown e.symbol.code) (are_shown e.symbol.spelling) parts.0).1)
      | inr other ↦ rw other (spelling-shown code es parts.1)
    ]

glyph-shown : (name : List ℕ) (symbol : Symbol) → glyph_of name ≡ Some symbol → is_shown_symbol symbol ≡ true
unfolding glyph_of
glyph-shown (a ∷ b ∷ []) symbol e = symbol_at-passes (λ key s. is_shown_symbol s) table (name_key a b) symbol all_shown e
glyph-shown _ symbol e = let never : None ≡ Some symbol = e in cc

-- ---- what is printed

by_spelling-shown : (spelling : List ℕ) (c : ℕ) → are_shown spelling ≡ true → are_shown (by_spelling spelling c).characters ≡ true
by_spelling-shown [] c h = refl
by_spelling-shown (b ∷ bs) c h = h

one-shown : (c : ℕ) → is_shown c ≡ true → are_shown (c ∷ []) ≡ true
one-shown c h = rw h refl

-- above ASCII the spelling in ASCII is one of the table's
listed-shown : (c : ℕ) → nat_lt c 128 ≡ false → are_shown (spelling_of c) ≡ true
unfolding spelling_of
listed-shown c wide =
    elim (cases_Bool (nat_le 32 c && nat_le c 126)) [
      | inl ascii ↦ absurd (grind (arith, nat_tests, ascii, wide))
      | inr other ↦ rw other (spelling-shown c table all_shown)
    ]

wide-shown : (output : Output) (c : ℕ) → is_control c ≡ false → nat_lt c 128 ≡ false
    → are_shown (cond (prints_ascii output) (by_spelling (spelling_of c) c) (known (c ∷ []))).characters ≡ true
wide-shown Ascii c h wide = by_spelling-shown (spelling_of c) c (listed-shown c wide)
wide-shown Lint c h wide = by_spelling-shown (spelling_of c) c (listed-shown c wide)
wide-shown Utf8 c h wide = one-shown c (ap not h)

pub char-shown : (output : Output) (c : ℕ) → list_all (λ d. not (is_control d)) (char_printed output c).characters ≡ true
char-shown output c =
    elim (cases_Bool (c == 9 || c == 160)) [
      | inl blank ↦ rw blank refl
      | inr other ↦ rw other (elim (cases_Bool (is_control c)) [
        | inl control ↦ rw control refl
        | inr shown ↦ rw shown (elim (cases_Bool (nat_lt c 128)) [
          | inl ascii ↦ rw ascii (one-shown c (ap not shown))
          | inr wide ↦ rw wide (wide-shown output c shown wide)
        ])
      ])
    ]

symbol-shown : (output : Output) (name : List ℕ) (found : Option Symbol) → ((symbol : Symbol) → found ≡ Some symbol → is_shown_symbol symbol ≡ true)
    → are_shown (symbol_printed output name found).characters ≡ true
symbol-shown output name None h = refl
symbol-shown Utf8 name (Some s) h = one-shown s.code ((and_parts (is_shown s.code) (are_shown s.spelling) (h s refl)).0)
symbol-shown Ascii name (Some s) h = by_spelling-shown s.spelling s.code ((and_parts (is_shown s.code) (are_shown s.spelling) (h s refl)).1)
symbol-shown Lint name (Some s) h = by_spelling-shown s.spelling s.code ((and_parts (is_shown s.code) (are_shown s.spelling) (h s refl)).1)

pub glyph-printed-shown : (output : Output) (name : List ℕ) → list_all (λ d. not (is_control d)) (glyph_printed output name).characters ≡ true
glyph-printed-shown output name = symbol-shown output name (glyph_of name) (glyph-shown name)
