-- The columns of the spelling of a character above ASCII.
use Rattle.std.proofs.Common.{◌≡◌, ◌≢◌, ℕ, ◌<◌, ◌≤◌, ◌==◌, ◌&&◌, ◌||◌, nat_le, nat_lt, Bool, true, false, inl, inr, List, [], ◌∷◌, length, codes, refl, sym, ap, ◌∙◌, arith}
use Rattle.std.specs.List.{list_all}
use Rattle.std.proofs.lemmas.Bool.{cases_Bool, and_parts}
use Rattle.std.proofs.lemmas.Bool.Decides.{nat_tests}
use Rattle.std.proofs.lemmas.List.Sums.{sum_by-append}
use Rattle.page_core_base.specs.declared.page_settings.Output.{Output}
use Rattle.page_core_tables.specs.Glyphs.{Entry, table, first_spelling, spelling_of, by_spelling, char_columns, char_printed, is_control}
use Rattle.page_core_tables.proofs.Tables.{char_columns-printable, by_spelling_of-short, spelling_of-above}
use Rattle.page_core_numbers.specs.Columns.{characters_columns}

-- ---- a spelling is a column for each byte

abbrev is_printable : ℕ → Bool
is_printable c = nat_le 32 c && nat_le c 126

printable-columns : (cs : List ℕ) → list_all is_printable cs ≡ true → length cs ≡ characters_columns cs
printable-columns [] h = refl
printable-columns (c ∷ cs) h =
    let parts = and_parts (is_printable c) (list_all is_printable cs) h in
    let range : (32 ≤ c) × (c ≤ 126) = grind (arith, nat_tests, parts.0) in
    let one = char_columns-printable c range.0 range.1 in
    let others = printable-columns cs parts.1 in
    let first : characters_columns (c ∷ []) ≡ 1 = rw one refl in
    let parts = sum_by-append char_columns (c ∷ []) cs in
    omega (arith, parts, first, others)

unknown-columns : characters_columns (codes "<?>") ≡ 3
unknown-columns = sym (printable-columns (codes "<?>") refl)

-- a control character but the tab has those of `<?>`
pub control-columns : (output : Output) (c : ℕ) → c ≢ 9 → c < 160 → (32 ≤ c → 126 < c) → 3 ≡ characters_columns (char_printed output c).characters
control-columns output c tab low shown =
    let other : (c == 9 || c == 160) ≡ false = grind (arith, nat_tests, tab, low) in
    let control : is_control c ≡ true = elim (cases_Bool (nat_lt c 32)) [
      | inl below ↦ rw below refl
      | inr above ↦
          let from : 32 ≤ c = grind (arith, nat_tests, above) in
          let past = shown from in
          grind (arith, nat_tests, above, past, low)
    ] in
    rw (other, control) (sym unknown-columns)

-- the characters that have a spelling, and what they are spelled with
abbrev is_known : Entry → Bool
is_known e = nat_le e.symbol.code 0x27E9 && list_all is_printable e.symbol.spelling

all_known : list_all is_known table ≡ true
unfolding table
all_known = refl

first_spelling-printable : (code : ℕ) (es : List Entry) → list_all is_known es ≡ true → list_all is_printable (first_spelling code es) ≡ true
unfolding first_spelling
first_spelling-printable code [] h = refl
first_spelling-printable code (e ∷ es) h =
    let parts = and_parts (is_known e) (list_all is_known es) h in
    let here = and_parts (nat_le e.symbol.code 0x27E9) (list_all is_printable e.symbol.spelling) parts.0 in
    elim (cases_Bool (e.symbol.code == code)) [
      | inl same ↦ rw same here.1
      | inr other ↦ rw other (first_spelling-printable code es parts.1)
    ]

first_spelling-above : (code : ℕ) (es : List Entry) → list_all is_known es ≡ true → 0x27E9 < code → first_spelling code es ≡ []
unfolding first_spelling
first_spelling-above code [] h above = refl
first_spelling-above code (e ∷ es) h above =
    let parts = and_parts (is_known e) (list_all is_known es) h in
    let here = and_parts (nat_le e.symbol.code 0x27E9) (list_all is_printable e.symbol.spelling) parts.0 in
    let other : (e.symbol.code == code) ≡ false = grind (arith, nat_tests, here.0, above) in
    rw other (first_spelling-above code es parts.1 above)

pub unspelled-columns : (c : ℕ) (spelling : List ℕ) → spelling ≡ spelling_of c → length spelling ≡ 0 → 3 ≡ characters_columns (by_spelling (spelling_of c) c).characters
unspelled-columns c [] is empty = rw (← is) (sym unknown-columns)
unspelled-columns c (b ∷ bs) is empty = absurd (omega (arith, empty))

pub above-columns : (c : ℕ) → 0x27E9 < c → 3 ≡ characters_columns (by_spelling (spelling_of c) c).characters
above-columns c above = unspelled-columns c [] (sym (spelling_of-above c (omega arith) ∙ first_spelling-above c table all_known above)) refl

pub spelled-columns : (c : ℕ) (spelling : List ℕ) → 128 ≤ c → spelling ≡ spelling_of c → 0 < length spelling
    → (length spelling ≡ characters_columns (by_spelling (spelling_of c) c).characters) × (length spelling ≤ 8)
spelled-columns c [] high is some = absurd (omega (arith, some))
spelled-columns c (b ∷ bs) high is some =
    let printable : list_all is_printable (b ∷ bs) ≡ true = ap (list_all is_printable) (is ∙ spelling_of-above c (omega arith)) ∙ first_spelling-printable c table all_known in
    let short = by_spelling_of-short c (b ∷ bs) is in
    (rw (← is) (printable-columns (b ∷ bs) printable), short)
