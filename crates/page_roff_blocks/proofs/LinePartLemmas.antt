-- The parts of a line: each remainder is an end of its line, and shorter. Helpers of proofs.
use Rattle.std.proofs.Common.{◌≡◌, ℕ, zero, suc, ◌+◌, ◌-◌, ◌<◌, ◌≤◌, ◌==◌, nat_lt, Bool, true, false, List, [], ◌∷◌, length, take, drop, Option, Some, None, refl, sym, ap, ◌∙◌, inl, inr, arith, length-drop, ◌*◌}
use Rattle.std.proofs.lemmas.Bool.{cases_Bool}
use Rattle.std.proofs.lemmas.Bool.Decides.{nat_tests}
use Rattle.std.proofs.lemmas.List.{length-take-le, drop-drop, drop_all, take_all}
use Rattle.std.proofs.lemmas.List.Sums.{prefix_len-le-length}
use Rattle.page_core_base.specs.Bytes.{is_white}
use Rattle.page_roff_syntax.specs.Arguments.{blank_len, after_blanks}
use Rattle.page_roff_syntax.specs.LineForms.{form_of, name_start, name_len, is_control, is_name, has_word, without_comment, control_line, uncommented_form}
use Rattle.page_roff_syntax.specs.laws.Views.{name_of, begins_control}
use Rattle.page_roff_syntax.specs.declared.line_forms.LineForm.{LineForm}
use Rattle.page_roff_syntax.specs.declared.line_forms.LineForm.TheVariants.{Control}
use Rattle.page_roff_syntax.proofs.ClosedLemmas.{uncommented_control}
use Rattle.page_roff_heads.specs.Conditions.{condition_len, begins_pair, remainder_of}
use Rattle.page_roff_heads.specs.Heads.{conditional_of, guarded_of, end_place, block_end_of, loop_of}
use Rattle.page_roff_heads.specs.declared.loops.LoopRead.{LoopRead}
use Rattle.page_roff_heads.specs.declared.texts.Placed.{Placed}
use Rattle.page_roff_heads.proofs.Within.{rest_within}
use Rattle.page_roff_blocks.specs.declared.line_parts.LinePart.TheVariants.{Leaf, Guard, Block, Loop, End, Region}
use Rattle.page_roff_blocks.specs.declared.parts.Columns.{Columns}
use Rattle.page_roff_blocks.specs.declared.parts.Keyword.{Keyword}
use Rattle.page_roff_blocks.specs.declared.parts.Keyword.TheVariants as keywords
use Rattle.page_roff_blocks.specs.Parts.{part_of, with_part, parts, line_parts, rest_text, loop_part_if, end_part, plain_part, raw_rest, keyword_of, keyword_part, form_part, written_part, whole_line_part, ends_first, loop_text}
use Rattle.page_roff_blocks.specs.laws.Views.{line_parts_left, IsWithin, columns_of, named_part, enter, open_loop, skip, leave, leave_from, leave_loop, leave_level, BlockCursor, after_part, guarded_by}
use Rattle.page_roff_blocks.specs.declared.line_parts.LinePart.{LinePart}
use Rattle.page_roff_blocks.specs.machine.Steps.{IsEndOf, IsRestIn, rest_at, parts_at, place_after, is_block, opens_block, Meaning, met, step_leaf, guard_with, guard_met, step_guard, block_with, opening_met, block_met, step_block, step_loop, step_end, step_region, step_parts}
use Rattle.page_roff_blocks.specs.declared.line_parts.Head.{Head}
use Rattle.page_roff_blocks.specs.declared.line_parts.Opening.{Opening}
use Rattle.page_roff_blocks.specs.declared.line_parts.Opening.TheVariants as openings
use Rattle.page_roff_blocks.specs.declared.levels.Way.{Way}
use Rattle.page_roff_blocks.specs.declared.levels.Way.TheVariants.{Runs}
use Rattle.page_roff_blocks.specs.Forest.{Levels}
use Rattle.page_roff_heads.specs.declared.loops.LoopHead.{LoopHead}

-- what is left of a line is shorter than the line
abbrev pub IsShorter : List ℕ → Option (List ℕ) → Type 0
IsShorter line None = Unit {0}
IsShorter line (Some rest) = length rest < length line

-- What is left of a line after a part is an end of it.
EndsRemainder : List ℕ → Option (Placed (List ℕ)) → Type 0
EndsRemainder line None = Unit {0}
EndsRemainder line (Some remainder) = (n : ℕ) × (remainder.text ≡ drop n line)

unfoldable pub EndsRest : List ℕ → Option (List ℕ) → Type 0
EndsRest line None = Unit {0}
EndsRest line (Some text) = (n : ℕ) × (text ≡ drop n line) × (1 ≤ n) × (1 ≤ length line)

pub end_rest : (before : List ℕ) (rest : Option (List ℕ)) → (end_part before rest).rest ≡ rest
end_rest [] rest = refl
end_rest (byte ∷ bytes) rest = refl

further : (n : ℕ) (line : List ℕ) (remainder : Option (Placed (List ℕ))) → EndsRemainder (drop n line) remainder → EndsRemainder line remainder
unfolding EndsRemainder
further n line None h = tt
further n line (Some remainder) h = (n + h.0, h.1 ∙ drop-drop h.0 n line)

further_rest : (n : ℕ) (line : List ℕ) (remainder : Option (Placed (List ℕ))) → 1 ≤ n → 1 ≤ length line → EndsRemainder (drop n line) remainder → EndsRest line (rest_text remainder)
unfolding EndsRemainder EndsRest
further_rest n line None a b h = tt
further_rest n line (Some remainder) a b h = (n + h.0, h.1 ∙ drop-drop h.0 n line, omega arith, b)

remainder_ends : (column : ℕ) (text : List ℕ) → EndsRemainder text (remainder_of column text)
unfolding EndsRemainder remainder_of
remainder_ends column text = grind arith

guarded_ends : (column : ℕ) (text : List ℕ) → EndsRemainder text (guarded_of column text).remainder
unfolding guarded_of
guarded_ends column text =
    elim (cases_Bool (begins_pair 123 (after_blanks text))) [
      | inl t ↦
          let r = remainder_of (column + blank_len text + 2) (drop 2 (after_blanks text)) in
          let h = remainder_ends (column + blank_len text + 2) (drop 2 (after_blanks text)) in
          rw t (further (blank_len text) text r (further 2 (after_blanks text) r h))
      | inr t ↦ rw t (remainder_ends column text)
    ]

conditional_ends : (column : ℕ) (rest : List ℕ) → EndsRemainder rest (conditional_of column rest).guarded.remainder
unfolding conditional_of
conditional_ends column rest =
    let text = after_blanks rest in
    let len = condition_len (column + blank_len rest) (without_comment text) in
    let r = (guarded_of (column + blank_len rest + len) (drop len text)).remainder in
    further (blank_len rest) rest r (further len text r (guarded_ends (column + blank_len rest + len) (drop len text)))

-- what follows the end of a block
plain_ends : (line : List ℕ) → EndsRest line (plain_part line).rest
unfolding block_end_of EndsRest
plain_ends line =
    let place = end_place line in
    let r = remainder_of (place + 3) (drop (place + 2) line) in
    elim (cases_Bool (nat_lt place (length line))) [
      | inl t ↦
          let some : 1 ≤ length line = grind (arith, nat_tests) in
          let h = further_rest (place + 2) line r (omega arith) some (remainder_ends (place + 3) (drop (place + 2) line)) in
          rw (t, end_rest (take place line) (rest_text r)) h
      | inr t ↦ rw t tt
    ]

loop_ends : (line : List ℕ) (opens : Bool) (read : LoopRead (List ℕ)) → EndsRest line (rest_text read.guarded.remainder) → EndsRest line (loop_part_if opens read).rest
unfolding EndsRest
loop_ends line true read h = h
loop_ends line false read h = tt

keyword_ends : (k : Keyword) (line : List ℕ) (column : ℕ) (rest : List ℕ) (n : ℕ) → 2 ≤ n → n ≤ length line + 1 → EndsRest line (keyword_part k line column rest n).rest
unfolding EndsRest loop_of conditional_of
keyword_ends keywords.Else line column rest n a b =
    let raw = raw_rest line n in further_rest (n - 1) line (guarded_of n raw).remainder (omega arith) (omega arith) (guarded_ends n raw)
keyword_ends keywords.While line column rest n a b =
    let raw = raw_rest line n in
    let read = loop_of n raw in
    loop_ends line read.guarded.opens_block read (further_rest (n - 1) line read.guarded.remainder (omega arith) (omega arith) (conditional_ends n raw))
keyword_ends (keywords.Region kind) line column rest n a b = tt
keyword_ends keywords.Other line column rest n a b = plain_ends line
keyword_ends _ line column rest n a b =
    let raw = raw_rest line n in further_rest (n - 1) line (conditional_of n raw).guarded.remainder (omega arith) (omega arith) (conditional_ends n raw)

form_ends : (line : List ℕ) (form : LineForm (List ℕ)) → form_of line ≡ form → EndsRest line (form_part line form).rest
form_ends line (Control name column rest rest_column) e =
    let h = rest_within line name rest column rest_column e in keyword_ends (keyword_of name) line column rest rest_column h.0 h.1
form_ends line _ e = plain_ends line

pub part_ends : (line : List ℕ) → EndsRest line (written_part line).rest
unfolding written_part
part_ends line = form_ends line (form_of line) refl

end_shorter : (line : List ℕ) (rest : Option (List ℕ)) → EndsRest line rest → IsShorter line rest
unfolding EndsRest
end_shorter line None h = tt
end_shorter line (Some text) h = omega (arith, ap length h.1, length-drop h.0 line, h.2, h.3)

pub written_shorter : (line : List ℕ) → IsShorter line (written_part line).rest
written_shorter line = end_shorter line (written_part line).rest (part_ends line)

pub part_shorter : (line : List ℕ) → IsShorter line (part_of line).rest
unfolding part_of
part_shorter line = written_shorter line

-- ---- the columns of a control line, by its name

uncommented_nameless : (line : List ℕ) → begins_control line ≡ false → name_of (uncommented_form (without_comment line)) ≡ None
uncommented_nameless [] h = refl
uncommented_nameless (x ∷ []) h = rw h refl
uncommented_nameless (x ∷ y ∷ ys) h = grind arith

unnamed : (line : List ℕ) → begins_control line ≡ false → name_of (form_of line) ≡ None
unnamed line h = elim (cases_Bool (has_word line)) [ inl w ↦ rw w (uncommented_nameless line h) | inr w ↦ rw w refl ]

-- a line with a name begins with a control character
begins_named : (line name : List ℕ) → name_of (form_of line) ≡ Some name → begins_control line ≡ true
begins_named line name e = grind (arith, unnamed)

no_white : (x : ℕ) → is_control x ≡ true → is_white x ≡ false
no_white x h = grind (arith, nat_tests)

no_slash : (x : ℕ) → is_control x ≡ true → (x == 92) ≡ false
no_slash x h = grind (arith, nat_tests)

some_word : (x : ℕ) (xs : List ℕ) → is_white x ≡ false → has_word (x ∷ xs) ≡ true
some_word x xs h = let t : nat_lt 0 (length (x ∷ xs)) ≡ true = grind (arith, nat_tests) in rw h t

control_form : (x : ℕ) (bytes : List ℕ) → is_control x ≡ true → form_of (x ∷ bytes) ≡ control_line (without_comment bytes)
control_form x [] h = rw (no_white x h, h) refl
control_form x (y ∷ ys) h = rw (some_word x (y ∷ ys) (no_white x h), no_slash x h, h) refl

form_after : (line : List ℕ) → begins_control line ≡ true → form_of line ≡ control_line (without_comment (drop 1 line))
form_after [] h = let no : ⊥ = cc in absurd no
form_after (x ∷ bytes) h = control_form x bytes h

columns_at : ℕ → ℕ → Option Columns
columns_at start len = Some (record { name = 2 + start; rest = 2 + start + len })

pub columns_named : (line name : List ℕ) → name_of (form_of line) ≡ Some name
    → columns_of (form_of line) ≡ Some (record { name = 2 + name_start (drop 1 line); rest = 2 + name_start (drop 1 line) + length name })
unfolding columns_at
columns_named line name e =
    let bytes = drop 1 line in
    let named = drop (name_start bytes) bytes in
    let f = form_after line (begins_named line name e) ∙ uncommented_control bytes in
    let some : Some (take (name_len bytes) named) ≡ Some name = sym (ap name_of f) ∙ e in
    let same : take (name_len bytes) named ≡ name = cc in
    let within : name_len bytes ≤ length named = prefix_len-le-length is_name named in
    let len : length name ≡ name_len bytes = sym (ap length same) ∙ length-take-le (name_len bytes) named within in
    ap columns_of f ∙ ap (columns_at (name_start bytes)) (sym len)

-- the rest of a control line begins after its control character
form_within : (line : List ℕ) (form : LineForm (List ℕ)) (columns : Columns) → form_of line ≡ form → columns_of form ≡ Some columns → IsWithin columns.rest line
form_within line (Control name column rest rest_column) columns e h =
    let w = rest_within line name rest column rest_column e in
    let same : record { name = column; rest = rest_column } ≡ columns = cc in
    let r : rest_column ≡ columns.rest = ap (λ (c : Columns). c.rest) same in
    record { past = rw (sym r) w.0; within = rw (sym r) w.1 }
form_within line _ columns e h = let no : ⊥ = cc in absurd no

pub columns_within : (line : List ℕ) (columns : Columns) → columns_of (form_of line) ≡ Some columns → IsWithin columns.rest line
columns_within line columns h = form_within line (form_of line) columns refl h

-- so many columns are in a line
pub named_within : (line name : List ℕ) → name_of (form_of line) ≡ Some name → 1 + name_start (drop 1 line) + length name ≤ length line
named_within line name e =
    let w = columns_within line (record { name = 2 + name_start (drop 1 line); rest = 2 + name_start (drop 1 line) + length name }) (columns_named line name e) in
    omega (arith, w.within)

-- ---- the first part of a control line, by what it heads

part_in : (line : List ℕ) (form : LineForm (List ℕ)) (name : List ℕ) → name_of form ≡ Some name → form_part line form ≡ named_part (keyword_of name) line form
part_in line (Control other column rest rest_column) name e = grind arith
part_in line _ name e = refl

pub part_named : (line name : List ℕ) → name_of (form_of line) ≡ Some name → written_part line ≡ named_part (keyword_of name) line (form_of line)
unfolding written_part
part_named line name e = part_in line (form_of line) name e

-- ---- a line without a name heads nothing, nor does one of another name

named_other : (line : List ℕ) (form : LineForm (List ℕ)) (name : List ℕ) → name_of form ≡ Some name → keyword_of name ≡ keywords.Other
    → form_part line form ≡ plain_part line
named_other line (Control other column rest rest_column) name e k = grind arith
named_other line _ name e k = refl

pub plain_named : (line name : List ℕ) → name_of (form_of line) ≡ Some name → keyword_of name ≡ keywords.Other → written_part line ≡ plain_part line
unfolding written_part
plain_named line name e k = named_other line (form_of line) name e k

nameless : (line : List ℕ) (form : LineForm (List ℕ)) → name_of form ≡ None → form_part line form ≡ plain_part line
nameless line (Control other column rest rest_column) e = let no : ⊥ = cc in absurd no
nameless line _ e = refl

pub plain_nameless : (line : List ℕ) → name_of (form_of line) ≡ None → written_part line ≡ plain_part line
unfolding written_part
plain_nameless line e = nameless line (form_of line) e

-- ---- so many remainders are enough

unfoldable pub room : Option (List ℕ) → ℕ
room None = 0
room (Some line) = suc (length line)

pub room_left : (line : List ℕ) (rest : Option (List ℕ)) → IsShorter line rest → room rest ≤ length line
unfolding room
room_left line None h = omega arith
room_left line (Some rest) h = omega arith

enough : (n k : ℕ) (rest : Option (List ℕ)) → room rest ≤ n → room rest ≤ k → parts n rest ≡ parts k rest
unfolding room
enough zero zero rest p q = refl
enough zero (suc k) None p q = refl
enough zero (suc k) (Some line) p q = absurd (omega arith)
enough (suc n) zero None p q = refl
enough (suc n) zero (Some line) p q = absurd (omega arith)
enough (suc n) (suc k) None p q = refl
enough (suc n) (suc k) (Some line) p q =
    let h = room_left line (part_of line).rest (part_shorter line) in
    ap (with_part (part_of line)) (enough n k (part_of line).rest (omega (arith, h, p)) (omega (arith, h, q)))

all_left : (n : ℕ) (rest : Option (List ℕ)) → room rest ≤ n → parts n rest ≡ line_parts_left rest
unfolding room line_parts
all_left zero None p = refl
all_left (suc n) None p = refl
all_left n (Some line) p = enough n (suc (length line)) (Some line) p (omega arith)

-- the parts of a line are its first one, and those of what is left of the line
pub line_parts_cons : (line : List ℕ) → line_parts line ≡ with_part (part_of line) (line_parts_left (part_of line).rest)
unfolding line_parts
line_parts_cons line = grind (arith, all_left, room_left, part_shorter)

-- ---- a line that heads nothing and ends no block is one part

pub one_leaf : (line : List ℕ) → written_part line ≡ plain_part line → block_end_of line ≡ None → line_parts line ≡ Leaf line ∷ []
unfolding part_of
one_leaf line h e = grind (arith, line_parts_cons)

-- ---- What is left of a line after a part is the end of that line: helpers of proofs.

-- ---- its place

end_at : (n : ℕ) (line : List ℕ) → drop n line ≡ drop (length line - length (drop n line)) line
end_at n line = grind (arith, length-drop, nat_lt, drop_all)

end_of : (line : List ℕ) (rest : Option (List ℕ)) → EndsRest line rest → IsEndOf line rest
unfolding EndsRest
end_of line None h = tt
end_of line (Some text) h = grind (arith, length-drop, end_at)

-- what is left of a line after its first part is its end
pub written_ends : (line : List ℕ) → IsEndOf line (written_part line).rest
written_ends line = end_of line (written_part line).rest (part_ends line)

pub rest_ends : (line : List ℕ) → IsEndOf line (part_of line).rest
unfolding part_of
rest_ends line = written_ends line

-- what is left of the end of a line is the end of the line
pub end_further : (n : ℕ) (line : List ℕ) (rest : Option (List ℕ)) → n ≤ length line → IsEndOf (drop n line) rest → IsEndOf line rest
end_further n line None p h = tt
end_further n line (Some text) p h = grind (arith, length-drop, drop-drop)

-- it is found again at its place
pub rest_found : (line : List ℕ) (rest : Option (List ℕ)) → IsEndOf line rest → rest_at line (place_after line rest) ≡ rest
rest_found line None h = refl
rest_found line (Some text) h = sym (ap Some h.1)

pub place_within : (line : List ℕ) (rest : Option (List ℕ)) → IsRestIn line (place_after line rest)
place_within line None = tt
place_within line (Some text) = omega arith

pub to_end : (n : ℕ) (line : List ℕ) → take (length line - n) (drop n line) ≡ drop n line
to_end n line = take_all (length line - n) (drop n line) (omega (arith, length-drop n line))

-- what is left after the first part of the end of a line, which a slice of the line holds
pub slice_ends : (n : ℕ) (line : List ℕ) → n ≤ length line → IsEndOf line (part_of (take (length line - n) (drop n line))).rest
slice_ends n line p = rw (to_end n line) (end_further n line (part_of (drop n line)).rest p (rest_ends (drop n line)))

pub slice_parts : (n : ℕ) (line : List ℕ) → n ≤ length line
    → let part = part_of (take (length line - n) (drop n line)) in
    line_parts (drop n line) ≡ part.line_part ∷ parts_at line (record { is_whole = false; is_end = part.is_end; rest = place_after line part.rest })
slice_parts n line p = grind (arith, rest_found, end_further, rest_ends, to_end, line_parts_cons)

-- what of a part belongs to a loop does not change whether it opens a block
whole_block : (line_part : LinePart (List ℕ)) → is_block (whole_line_part line_part) ≡ is_block line_part
whole_block (Leaf text) = refl
whole_block _ = refl

pub slice_opens : (n : ℕ) (line : List ℕ) → n ≤ length line
    → opens_block (line_parts (drop n line)) ≡ is_block (written_part (take (length line - n) (drop n line))).line_part
unfolding part_of
slice_opens n line p = ap opens_block (slice_parts n line p) ∙ whole_block _

-- ---- How many parts a line has, and how many blocks they skip: helpers of proofs.

ends_room : (is_end : Bool) (more : List (LinePart (List ℕ))) → length (ends_first is_end more) ≤ suc (length more)
ends_room true more = omega arith
ends_room false more = omega arith

parts_room : (n : ℕ) (rest : Option (List ℕ)) → length (parts n rest) ≤ 2 * room rest
unfolding room
parts_room zero rest = omega arith
parts_room (suc n) None = omega arith
parts_room (suc n) (Some line) =
    let part = part_of line in
    let h = parts_room n part.rest in
    let k = room_left line part.rest (part_shorter line) in
    let e = ends_room part.is_end (parts n part.rest) in
    omega (arith, h, k, e)

-- a line has at most two parts a byte, and two
pub line_parts_room : (line : List ℕ) → length (line_parts line) ≤ 2 * length line + 2
unfolding line_parts room
line_parts_room line = let h = parts_room (suc (length line)) (Some line) in omega (arith, h)

pub enter_room : (way : Way) (bit : Bool) (l : Levels) → (enter way bit l).skipped ≤ l.skipped + 1
unfolding enter
enter_room Runs bit l = omega arith
enter_room _ bit l = omega arith

pub leave_room : (bit : Bool) (outer : List Bool) (in_loop : Bool) (n : ℕ)
    → (leave (record { bit = bit; outer = outer; in_loop = in_loop; skipped = n })).skipped ≤ n
unfolding leave leave_from leave_loop leave_level
leave_room bit outer true zero = omega arith
leave_room bit [] false zero = omega arith
leave_room bit (b ∷ bs) false zero = omega arith
leave_room bit outer in_loop (suc n) = omega arith

module _ {S : Type 0} (m : Meaning S) where
  guard_room : (is_met : Bool) (h : Head (List ℕ)) (cursor : BlockCursor) (s : S) → (guard_met m is_met h cursor s).0.levels.skipped ≡ cursor.levels.skipped
  unfolding guard_met guard_with guarded_by
  guard_room true h cursor s = refl
  guard_room false h cursor s = refl

  block_room : (is_met : Bool) (h : Opening (List ℕ)) (cursor : BlockCursor) (s : S) → (block_met m is_met h cursor s).0.levels.skipped ≤ cursor.levels.skipped + 1
  unfolding block_met opening_met block_with after_part open_loop skip
  block_room true (openings.Conditional h) cursor s = grind (arith, enter_room)
  block_room true (openings.Loop h) cursor s = omega arith
  block_room false h cursor s = omega arith

  -- each part skips one block at most
  pub step_room : (parts : List (LinePart (List ℕ))) (cursor : BlockCursor) (s : S) → (step_parts m parts cursor s).place.levels.skipped ≤ cursor.levels.skipped + length parts
  unfolding step_parts step_leaf step_guard step_block step_loop step_end step_region after_part
  step_room [] cursor s = omega arith
  step_room (Leaf text ∷ rest) cursor s =
      let r = step_leaf m text cursor s in
      let h = step_room rest r.0 r.1 in
      omega (arith, h)
  step_room (Guard head ∷ rest) cursor s =
      let q = met m cursor s in
      let r = step_guard m head cursor s in
      let h = step_room rest r.0 r.1 in
      let k = guard_room q.0 head cursor q.1 in
      omega (arith, h, k)
  step_room (Block head ∷ rest) cursor s =
      let q = met m cursor s in
      let r = step_block m head cursor s in
      let h = step_room rest r.0 r.1 in
      let k = block_room q.0 head cursor q.1 in
      omega (arith, h, k)
  step_room (Loop head ∷ rest) cursor s =
      let r = step_loop m head cursor s in
      let h = step_room rest r.0 r.1 in
      omega (arith, h)
  step_room (End ∷ rest) cursor s =
      let r = step_end m cursor s in
      let h = step_room rest r.0 r.1 in
      let k = leave_room cursor.levels.bit cursor.levels.outer cursor.levels.in_loop cursor.levels.skipped in
      omega (arith, h, k)
  step_room (Region head ∷ rest) cursor s = omega arith

-- ---- Lines all of whose leaves are such texts: helpers of proofs.

-- such a text, where there is one
abbrev pub IsIfSome : (List ℕ → Type 0) → Option (List ℕ) → Type 0
IsIfSome T None = Unit {0}
IsIfSome T (Some text) = T text

-- what the head of a loop holds is such text
abbrev pub IsLoopHead : (List ℕ → Type 0) → LoopHead (List ℕ) → Type 0
IsLoopHead T head = T head.condition × IsIfSome T head.body

abbrev pub IsOpening : (List ℕ → Type 0) → Opening (List ℕ) → Type 0
IsOpening T (openings.Conditional head) = Unit {0}
IsOpening T (openings.Loop head) = IsLoopHead T head

-- the leaves of a line are such texts, and the heads of its loops hold such
abbrev pub AreLeaves : (List ℕ → Type 0) → List (LinePart (List ℕ)) → Type 0
AreLeaves T [] = Unit {0}
AreLeaves T (Leaf text ∷ rest) = T text × AreLeaves T rest
AreLeaves T (Guard head ∷ rest) = AreLeaves T rest
AreLeaves T (Block opening ∷ rest) = IsOpening T opening × AreLeaves T rest
AreLeaves T (Loop head ∷ rest) = IsLoopHead T head × AreLeaves T rest
AreLeaves T (End ∷ rest) = AreLeaves T rest
AreLeaves T (Region head ∷ rest) = AreLeaves T rest

-- such lines
abbrev pub AreSuch : (List ℕ → Type 0) → List (List ℕ) → Type 0
AreSuch T [] = Unit {0}
AreSuch T (line ∷ lines) = T line × AreSuch T lines

-- the leaves of such a line are such texts
abbrev pub HasLeaves : (List ℕ → Type 0) → Type 0
HasLeaves T = (line : List ℕ) → T line → AreLeaves T (line_parts line)

-- what of such a line belongs to a loop is such a text
abbrev pub HasLoopTexts : (List ℕ → Type 0) → Type 0
HasLoopTexts T = (open_blocks : ℕ) (line : List ℕ) → T line → IsIfSome T (loop_text open_blocks line)

-- any text
abbrev pub IsAny : List ℕ → Type 0
IsAny text = Unit {0}

any_text : (text : Option (List ℕ)) → IsIfSome IsAny text
any_text None = tt
any_text (Some text) = tt

pub any_head : (head : LoopHead (List ℕ)) → IsLoopHead IsAny head
any_head head = (tt, any_text head.body)

pub any_opening : (opening : Opening (List ℕ)) → IsOpening IsAny opening
any_opening (openings.Conditional head) = tt
any_opening (openings.Loop head) = any_head head

pub any_leaves : (parts : List (LinePart (List ℕ))) → AreLeaves IsAny parts
any_leaves [] = tt
any_leaves (Leaf text ∷ rest) = (tt, any_leaves rest)
any_leaves (Guard head ∷ rest) = any_leaves rest
any_leaves (Block opening ∷ rest) = (any_opening opening, any_leaves rest)
any_leaves (Loop head ∷ rest) = (any_head head, any_leaves rest)
any_leaves (End ∷ rest) = any_leaves rest
any_leaves (Region head ∷ rest) = any_leaves rest

pub any_line : HasLeaves IsAny
any_line line t = any_leaves (line_parts line)

pub any_lines : (lines : List (List ℕ)) → AreSuch IsAny lines
any_lines [] = tt
any_lines (line ∷ lines) = (tt, any_lines lines)
