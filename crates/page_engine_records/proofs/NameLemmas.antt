-- Texts in reserved memory.
use Rattle.std.proofs.Common.{◌≡◌, ℕ, ◌+◌, ◌-◌, ◌≤◌, nat_le, Bool, true, false, List, [], ◌∷◌, ◌++◌, length, sym, arith, length-append, refl, ap, ◌∙◌, None, map}
use Rattle.std.proofs.lemmas.List.{take_all, take_at}
use Rattle.page_engine_records.specs.machine.NameTexts.{with_byte, read, Front, after_line, after_lines, ended, is_settled, read-append, read_notes, end_read}
use Rattle.page_engine_records.specs.Records.{with_name, begins_dash, dash_place, is_blank, trimmed, with_names, without_front}
use Rattle.page_engine_records.specs.declared.texts.TheConstants.{TEXT}
use Rattle.std.specs.Prelude.{codes, if◌then◌else◌}
use Rattle.std.proofs.lemmas.Bool.Decides.{nat_tests}
use Rattle.page_core_base.specs.Rows.{Item, noted}
use Rattle.page_engine_lines.specs.Acts.{lines_items}
use Rattle.page_engine_lines.specs.Edges.{LinesEdge}
use Rattle.page_engine_lines.specs.machine.Lines.{source_after, source_items}
use Rattle.page_engine_lines.proofs.TreeLemmas.{one_items, one_after, ending_is}
use Rattle.page_roff_lines.specs.Lines.{Line}
use Rattle.page_engine_records.specs.PageRecords.{raw}
use Rattle.page_engine_records.specs.declared.name_readers.NameReader.{NameReader}

pub without_room : (text : List ℕ) (byte : ℕ) → TEXT ≤ length text → length text ≤ TEXT → with_byte text byte ≡ text
without_room text byte h g = take_at text (byte ∷ []) TEXT (omega (arith, h, g))

pub added_byte : (text : List ℕ) (byte : ℕ) (b : Bool) → b ≡ nat_le 1 (TEXT - length text)
    → length (if b then text ++ byte ∷ [] else text) ≤ TEXT → (if b then text ++ byte ∷ [] else text) ≡ with_byte text byte
added_byte text byte true f h = sym (take_all TEXT (text ++ byte ∷ []) h)
added_byte text byte false f h = sym (without_room text byte (grind (arith, nat_tests, f)) h)

-- ---- names

pub name_length : (names name : List ℕ) → length (with_name names name) ≤ length names + 2 + length name
name_length names [] = omega arith
name_length [] (byte ∷ name) = omega arith
name_length (first ∷ names) (byte ∷ name) = omega (arith, length-append (first ∷ names) (codes ", " ++ byte ∷ name))

-- ---- Names, and the dash after them.

-- ---- the dash

place_at : (byte : ℕ) (bytes : List ℕ) (b : Bool) → begins_dash (byte ∷ bytes) ≡ b → dash_place (byte ∷ bytes) ≡ (if b then 0 else 1 + dash_place bytes)
unfolding dash_place
place_at byte bytes b e = rw e refl

place_none : dash_place [] ≡ 0
unfolding dash_place
place_none = refl

pub place_stop : (text rest : List ℕ) (byte : ℕ) (after : List ℕ) → dash_place text + length rest ≡ length text + dash_place rest → rest ≡ byte ∷ after
    → begins_dash rest ≡ true → length text - length rest ≡ dash_place text
place_stop text rest byte after e r t =
    let z = ap dash_place r ∙ place_at byte after true (ap begins_dash (sym r) ∙ t) in omega (arith, e, z)

pub place_on : (text rest : List ℕ) (byte : ℕ) (after : List ℕ) → dash_place text + length rest ≡ length text + dash_place rest → rest ≡ byte ∷ after
    → begins_dash rest ≡ false → dash_place text + length after ≡ length text + dash_place after
place_on text rest byte after e r f =
    let z = ap dash_place r ∙ place_at byte after false (ap begins_dash (sym r) ∙ f) in
    let w = ap length r in
    omega (arith, e, z, w)

pub place_end : (text rest : List ℕ) → dash_place text + length rest ≡ length text + dash_place rest → length rest ≡ 0 → length text ≡ dash_place text
place_end text [] e z = omega (arith, e, place_none)
place_end text (byte ∷ after) e z = absurd (omega (arith, z))

-- ---- blanks

pub front_blank : (byte : ℕ) (bytes : List ℕ) → is_blank byte ≡ true → without_front (byte ∷ bytes) ≡ without_front bytes
unfolding without_front
front_blank byte bytes h = rw h refl

pub front_other : (byte : ℕ) (bytes : List ℕ) → is_blank byte ≡ false → without_front (byte ∷ bytes) ≡ byte ∷ bytes
unfolding without_front
front_other byte bytes h = rw h refl

pub front_none : (text : List ℕ) → length text ≡ 0 → without_front text ≡ text
unfolding without_front
front_none [] h = refl
front_none (byte ∷ bytes) h = absurd (omega (arith, h))

-- ---- names

pub names_more : (names part : List ℕ) (parts : List (List ℕ)) → with_names names (part ∷ parts) ≡ with_names (with_name names (trimmed part)) parts
unfolding with_names
names_more names part parts = refl

pub names_none : (names : List ℕ) → with_names names [] ≡ names
unfolding with_names
names_none names = refl

-- ---- the record

-- ---- Lines that are read one after another, up to the end of the section NAME.

-- a line's pieces, as the code takes them
pub line_read : (f : Front) (line : Line) → f.lines.roff.to_come ≡ None → is_settled f ≡ false
    → after_line f line
    ≡ record { lines = source_after f.lines line.number line.text; name = read f.name (source_items f.lines line.number line.text) }
line_read f line idle inside =
    let items = source_items f.lines line.number line.text in
    let after = one_after f.lines line.number line.text line.notes idle in
    let name : read f.name (lines_items f.lines (raw line ∷ [])) ≡ read f.name items =
    ap (λ (l : List Item). read f.name l) (one_items f.lines line.number line.text line.notes)
    ∙ (read-append f.name (map noted line.notes) items ∙ ap (λ (r : NameReader). read r items) (read_notes f.name line.notes)) in
    rw (inside, after, name) refl

pub line_taken : (f : Front) (line : Line) (lines : LinesEdge) (reader name : NameReader) (number : ℕ) (text : List ℕ) → f.lines.roff.to_come ≡ None
    → is_settled f ≡ false → text ≡ line.text → number ≡ line.number → name ≡ f.name → lines ≡ source_after f.lines number text
    → reader ≡ read name (source_items f.lines number text) → record { lines = lines; name = reader } ≡ after_line f line
line_taken f line lines reader name number text idle inside t n m l r = rw (l, r, t, n, m) (sym (line_read f line idle inside))

pub ended_stays : (f : Front) (lines : List Line) → is_settled f ≡ true → after_lines f lines ≡ f
unfolding after_lines
ended_stays f [] h = refl
ended_stays f (line ∷ lines) h =
    let one : after_line f line ≡ f = rw h refl in ap (λ (g : Front). after_lines g lines) one ∙ ended_stays f lines h

pub after_lines-append : (f : Front) (xs ys : List Line) → after_lines f (xs ++ ys) ≡ after_lines (after_lines f xs) ys
unfolding after_lines
after_lines-append f [] ys = refl
after_lines-append f (x ∷ xs) ys = after_lines-append (after_line f x) xs ys

pub no_line : (f : Front) (lines : List Line) (b : Bool) (line : Line) → lines ≡ (if b then line ∷ [] else []) → b ≡ false → f ≡ after_lines f lines
unfolding after_lines
no_line f lines b line e h = let z : lines ≡ [] = rw h at e in rw z refl

pub one_line : (f : Front) (lines : List Line) (b : Bool) (line : Line) → lines ≡ (if b then line ∷ [] else []) → b ≡ true → after_line f line ≡ after_lines f lines
unfolding after_lines
one_line f lines b line e h = let z : lines ≡ line ∷ [] = rw h at e in rw z refl

-- ---- the page's end

end_is_read : (f : Front) → end_read f ≡ ended f
end_is_read f = ap (λ (l : List Item). if is_settled f then f.name else read f.name l) (sym (ending_is f.lines 1))

pub end_named : (f g : Front) (name : NameReader) → f ≡ g → name ≡ end_read f → name ≡ ended g
end_named f g name same h = h ∙ (end_is_read f ∙ ap (λ (x : Front). ended x) same)
