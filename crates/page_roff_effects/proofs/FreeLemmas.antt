-- Free lines, and the vectors by which they are found: helpers of proofs.
use Rattle.std.proofs.Common.{◌≡◌, ℕ, ◌+◌, ◌-◌, ◌<◌, ◌≤◌, ◌==◌, Bool, true, false, not, ◌||◌, ◌&&◌, nat_lt, cond, min, bit_and, List, map, length, get_or, None, refl, sym, ap, ap₂, ◌∙◌, arith, [], ◌∷◌, inl, inr, suc, take, drop, length-drop, if◌then◌else◌}
use Rattle.std.specs.Int.{bit_at}
use Rattle.std.proofs.lemmas.Bool.{eqb-true, cases_Bool}
use Rattle.std.proofs.lemmas.Bool.Decides.{nat_tests}
use Rattle.std.proofs.lemmas.List.{get_or-map, length-take}
use Rattle.std.proofs.lemmas.Nat.Bits.{bit_at_and, bit_at-zero}
use Rattle.std.proofs.lemmas.Simd.{bit_mask_l, get_or-chunk, length-chunk, none_from_empty_mask}
use lib.Lanes.{chunk, mask_l}
use Rattle.page_core_base.specs.declared.limits.TheConstants.{LINE}
use Rattle.page_roff_syntax.specs.LineForms.{without_comment, has_word, uncommented_form, is_name, is_control, begins_comment, name_start, name_len, control_line, form_of}
use Rattle.page_roff_syntax.specs.machine.Closed.{LacksPair}
use Rattle.page_roff_syntax.proofs.PairLemmas.{without_pairs}
use Rattle.page_roff_heads.specs.Heads.{block_end_of, end_place}
use Rattle.page_roff_heads.proofs.Ahead.{without_ends}
use Rattle.page_roff_parts.specs.machine.Verbatim.{IsFree, may_call}
use Rattle.page_roff_parts.proofs.VerbatimLemmas.{verbatim_free}
use Rattle.page_roff_values.specs.machine.Rest.{GivesItself}
use Rattle.page_roff_values.proofs.LineLemmas.{gives_itself, plain_expanded}
use Rattle.page_core_base.specs.laws.Views.{IsFreeLine, is_backslash, is_key}
use Rattle.page_roff_effects.specs.machine.Acting.{IsFreeFrom, Acting, measured, plain_form, line_laid}
use Rattle.std.proofs.Math.Seq.{take-length}
use Rattle.std.proofs.lemmas.List.Sums.{prefix_len_passes, prefix_len-le-length}
use Rattle.std.specs.List.{prefix_len}
use Rattle.page_core_base.specs.declared.lines_taken.Form.TheVariants as forms
use Rattle.page_roff_syntax.specs.laws.Views.{is_plain, begins_control}
use Rattle.page_roff_syntax.specs.declared.line_forms.LineForm.TheVariants.{Text, BlankLine, Control}
use Rattle.page_roff_syntax.proofs.FormLemmas.{read_first, read_all, front_of}
use Rattle.page_roff_values.specs.Values.{nothing, adds, start}
use Rattle.page_roff_effects.specs.Lines.{leaf_outcome}
use Rattle.page_roff_effects.specs.States.{Memory, TextSetting, counted, gives_line, surroundings}
use Rattle.page_core_base.specs.Bytes.{is_white}

-- ---- what a free line lacks

comment_part : (a b c d : Bool) → (a && (b || (c || d))) ≡ false → (a && (b || c)) ≡ false
comment_part true true c d h = h
comment_part true false true d h = h
comment_part true false false d h = refl
comment_part false b c d h = refl

end_part : (a b c d e : Bool) → (a && (b || (c || (d || e)))) ≡ false → (a && (d || d)) ≡ false
end_part true true c d e h = let no : ⊥ = cc in absurd no
end_part true false true d e h = let no : ⊥ = cc in absurd no
end_part true false false true e h = h
end_part true false false false e h = refl
end_part false b c d e h = refl

call_part : (a b c d e : Bool) → (a && (b || (c || (d || e)))) ≡ false → (a && e) ≡ false
call_part true true c d e h = let no : ⊥ = cc in absurd no
call_part true false true d e h = let no : ⊥ = cc in absurd no
call_part true false false true e h = let no : ⊥ = cc in absurd no
call_part true false false false e h = h
call_part false b c d e h = refl

-- a comment
pub uncommented : (line : List ℕ) → IsFreeLine line → without_comment line ≡ line
uncommented line h = grind (arith, without_pairs, comment_part)

-- an end of a block
pub unended : (line : List ℕ) → IsFreeLine line → block_end_of line ≡ None
unfolding block_end_of
unended line h =
    let lacks : LacksPair 125 125 line = λ k l.
    let b = get_or line (k + 1) 0 in
    end_part (is_backslash (get_or line k 0)) (b == 34) (b == 35) (b == 125) (may_call b) (h k l)
    in
    rw (none_if (end_place line) (length line) (without_ends line lacks)) refl
  where
    none_if : (n m : ℕ) → n ≡ m → nat_lt n m ≡ false
    none_if n m e = grind (arith, nat_tests)

-- an interpolation
pub free_itself : (line : List ℕ) → IsFreeLine line → length line ≤ LINE → GivesItself line
free_itself line h short = grind (arith, call_part, gives_itself, verbatim_free)

-- ---- vectors

neither_bit : (a b : Bool) → min (cond a 1 0) (cond b 1 0) ≡ 0 → (a && b) ≡ false
neither_bit true true e = let no : ⊥ = cc in absurd no
neither_bit true false e = refl
neither_bit false b e = refl

not_first : (a b : Bool) → a ≡ false → (a && b) ≡ false
not_first a b e = rw e refl

lane : (p : ℕ → Bool) (text : List ℕ) (at i : ℕ) → at + 16 ≤ length text → i < 16
    → bit_at (mask_l (map p (chunk at 16 text))) i ≡ cond (p (get_or text (at + i) 0)) 1 0
lane p text at i l b =
    bit_mask_l (map p (chunk at 16 text)) i
    ∙ ap (λ x. cond x 1 0) (get_or-map p (chunk at 16 text) i 0 false (omega (arith, length-chunk at 16 text l)) ∙ ap p (get_or-chunk at 16 text i 0 b))

no_more : (b : Bool) → not b ≡ false → b ≡ true
no_more true e = refl
no_more false e = let no : ⊥ = cc in absurd no

-- no bit of both masks, that of a vector and that of the one a byte further
pub free_lanes : (line : List ℕ) (at : ℕ) → at + 16 < length line
    → not (bit_and (mask_l (map is_backslash (chunk at 16 line))) (mask_l (map is_key (chunk (at + 1) 16 line))) == 0) ≡ false → IsFreeFrom at 16 line
free_lanes line at l e = λ k low high.
    let m = mask_l (map is_backslash (chunk at 16 line)) in
    let n = mask_l (map is_key (chunk (at + 1) 16 line)) in
    let i = k - at in
    let here : at + i ≡ k = omega arith in
    let next : (at + 1) + i ≡ k + 1 = omega arith in
    let none : bit_and m n ≡ 0 = eqb-true (bit_and m n) 0 (no_more (bit_and m n == 0) e) in
    let s : bit_at m i ≡ cond (is_backslash (get_or line k 0)) 1 0 = rw here at (lane is_backslash line at i (omega arith) (omega arith)) in
    let t : bit_at n i ≡ cond (is_key (get_or line (k + 1) 0)) 1 0 = rw next at (lane is_key line (at + 1) i (omega arith) (omega arith)) in
    let both : min (bit_at m i) (bit_at n i) ≡ 0 = sym (bit_at_and m n i) ∙ ap (λ x. bit_at x i) none ∙ bit_at-zero i in
    neither_bit (is_backslash (get_or line k 0)) (is_key (get_or line (k + 1) 0)) (ap₂ min (sym s) (sym t) ∙ both)

-- no backslash in a vector
pub free_without : (line : List ℕ) (at : ℕ) → at + 16 < length line → mask_l (map is_backslash (chunk at 16 line)) ≡ 0 → IsFreeFrom at 16 line
free_without line at l e = λ k low high.
    not_first (is_backslash (get_or line k 0)) (is_key (get_or line (k + 1) 0)) (none_from_empty_mask is_backslash line at 16 0 (omega arith) e k low high)

-- ---- A line of plain text is what it gives: helpers of proofs.

no_comment : (line : List ℕ) → prefix_len is_plain line ≡ length line → without_comment line ≡ line
no_comment line p =
    let n = prefix_len is_plain line in
    let e = read_all line n (read_first line n refl) (omega (arith, p)) in
    sym (front_of line (length line) e) ∙ take-length line

both : (b : Bool) → b ≡ true → not b ≡ true → ⊥
both true e h = cc
both false e h = cc

no_backslash : (line : List ℕ) → prefix_len is_plain line ≡ length line → (k : ℕ) → k < length line → ¬ ((get_or line k 0 == 92) ≡ true)
no_backslash line p k h e = both (get_or line k 0 == 92) e (prefix_len_passes is_plain line k 0 (omega (arith, p, h)))

text_form : (line : List ℕ) → has_word line ≡ true → begins_control line ≡ false → uncommented_form line ≡ Text line
text_form [] w b = cc
text_form (x ∷ xs) w b = rw b refl

pub counted_none : (m : Memory) → counted 0 m ≡ m
counted_none m = grind arith

-- a line without a control character at its front and without a backslash is taken as it is written
pub plain_taken : (setting : TextSetting) (may_call : Bool) (line : List ℕ) (m : Memory) → begins_control line ≡ false → prefix_len is_plain line ≡ length line
    → length line ≤ LINE → leaf_outcome setting may_call line m ≡ gives_line (plain_form line) line 0 m
unfolding leaf_outcome
plain_taken setting may_call line m b p h = grind (arith, cases_Bool, no_comment, text_form, plain_expanded, no_backslash, counted_none)

-- and so is a text without a backslash, in copy mode or not
pub plain_laid : (copy : Bool) (text : List ℕ) (a : Acting) → prefix_len is_plain text ≡ length text → length text ≤ LINE
    → line_laid copy text a ≡ nothing (adds text (start a.memory.number))
plain_laid copy text a p h = plain_expanded (surroundings copy (measured a.setting) a.memory) a.memory.number text (no_backslash text p) h

-- ---- A control line without its comment: helpers of proofs.

-- a front of a text
abbrev IsFrontOf : List ℕ → List ℕ → Type 0
IsFrontOf line text = take (length text) line ≡ text

front_cons : (b : ℕ) (line text : List ℕ) → IsFrontOf line text → IsFrontOf (b ∷ line) (b ∷ text)
front_cons b line text e = ap (λ (l : List ℕ). b ∷ l) e

comment_front : (c : Bool) (b n : ℕ) (bytes text : List ℕ) → IsFrontOf bytes text
    → IsFrontOf (b ∷ n ∷ bytes) (if c then [] else b ∷ n ∷ text)
comment_front true b n bytes text e = refl
comment_front false b n bytes text e = front_cons b (n ∷ bytes) (n ∷ text) (front_cons n bytes text e)

pair_front : (p : Bool) (line x y : List ℕ) → IsFrontOf line x → IsFrontOf line y → IsFrontOf line (if p then x else y)
pair_front true line x y e f = e
pair_front false line x y e f = f

pub uncommented_front : (line : List ℕ) → IsFrontOf line (without_comment line)
uncommented_front [] = refl
uncommented_front (b ∷ []) = refl
uncommented_front (b ∷ n ∷ bytes) = grind (arith, pair_front, comment_front, uncommented_front bytes, front_cons, uncommented_front (n ∷ bytes))

-- ---- the parts of a control line

-- the bytes before the rest and those of the rest are all
abbrev IsWhole : ℕ → List ℕ → ℕ → Type 0
IsWhole rest_column rest n = (1 ≤ rest_column) × (rest_column - 1 + length rest ≡ n)

control_size : (bytes name rest : List ℕ) (column rest_column : ℕ) → control_line bytes ≡ Control name column rest rest_column
    → IsWhole rest_column rest (suc (length bytes))
control_size bytes name rest column rest_column e = grind (arith, prefix_len-le-length, length-drop)

byte_size : (c : Bool) (b : ℕ) (bytes name rest : List ℕ) (column rest_column : ℕ)
    → (if c then control_line bytes else Text (b ∷ bytes)) ≡ Control name column rest rest_column → IsWhole rest_column rest (suc (length bytes))
byte_size true b bytes name rest column rest_column e = control_size bytes name rest column rest_column e
byte_size false b bytes name rest column rest_column e = cc

text_size : (text name rest : List ℕ) (column rest_column : ℕ) → uncommented_form text ≡ Control name column rest rest_column
    → IsWhole rest_column rest (length text)
text_size [] name rest column rest_column e = cc
text_size (b ∷ bytes) name rest column rest_column e = byte_size (is_control b) b bytes name rest column rest_column e

form_size : (w : Bool) (line name rest : List ℕ) (column rest_column : ℕ)
    → (if w then uncommented_form (without_comment line) else BlankLine) ≡ Control name column rest rest_column
    → IsWhole rest_column rest (length (without_comment line))
form_size true line name rest column rest_column e = text_size (without_comment line) name rest column rest_column e
form_size false line name rest column rest_column e = cc

pub control_whole : (line name rest : List ℕ) (column rest_column : ℕ) → form_of line ≡ Control name column rest rest_column
    → IsWhole rest_column rest (length (without_comment line))
control_whole line name rest column rest_column e = form_size (has_word line) line name rest column rest_column e

pub uncommented_short : (line : List ℕ) → length (without_comment line) ≤ length line
uncommented_short line =
    let n = length-take (length (without_comment line)) line in
    let e = ap length (uncommented_front line) in
    omega arith
