-- What of a line belongs to a loop: helpers of proofs.
use Rattle.std.proofs.Common.{◌≡◌, ℕ, zero, suc, ◌+◌, ◌-◌, ◌<◌, ◌≤◌, nat_lt, Bool, true, false, List, [], ◌∷◌, length, take, drop, Option, Some, None, refl, ap, ◌∙◌, arith, inl, inr, length-drop, sym, subst}
use Rattle.std.proofs.lemmas.Bool.{cases_Bool}
use Rattle.std.proofs.lemmas.Bool.Decides.{nat_tests}
use Rattle.std.proofs.lemmas.List.{length-take-le}
use Rattle.page_roff_syntax.specs.LineForms.{form_of}
use Rattle.page_roff_syntax.specs.declared.line_forms.LineForm.{LineForm}
use Rattle.page_roff_syntax.specs.declared.line_forms.LineForm.TheVariants.{Control}
use Rattle.page_roff_heads.specs.Heads.{conditional_of, guarded_of, end_place, block_end_of}
use Rattle.page_roff_heads.specs.declared.loops.LoopRead.{LoopRead}
use Rattle.page_roff_blocks.specs.declared.line_parts.LinePart.{LinePart}
use Rattle.page_roff_blocks.specs.declared.line_parts.LinePart.TheVariants.{Leaf, Block, End, Guard, Loop, Region}
use Rattle.page_roff_blocks.specs.declared.line_parts.Head.{Head}
use Rattle.page_roff_blocks.specs.declared.parts.Keyword.{Keyword}
use Rattle.page_roff_blocks.specs.declared.parts.Keyword.TheVariants as keywords
use Rattle.page_roff_blocks.specs.declared.parts.RawPart.{RawPart}
use Rattle.page_roff_blocks.specs.Parts.{blocks_left, blocks_after, before_end, left_by, left_in, left_of, len_before, len_of, head_line_part, loop_part_if, end_part, plain_part, raw_rest, keyword_of, keyword_part, form_part, written_part, line_parts}
use Rattle.page_roff_blocks.specs.laws.Views.{left_rest, what_ends, BlockCursor, at_line, after_part, guarded_by, reached, reached_in, reached_from, reached_if}
use Rattle.page_roff_blocks.specs.machine.Steps.{IsEndOf, place_after, Meaning, At, meet_as, value, leaf_if, loop_if, refuse_if, keep_if, end_by, open_region, met, step_leaf, guard_with, guard_met, step_guard, block_with, opening_met, block_met, step_block, step_loop, step_end, step_region, step_parts, step_inside, collect_if, begin_line, step_from, step, step_lines}
use Rattle.page_roff_blocks.proofs.LinePartLemmas.{IsShorter, room, room_left, written_shorter, to_end, written_ends, end_further, IsLoopHead, IsOpening, AreLeaves, AreSuch, HasLeaves}
use Rattle.page_roff_heads.specs.declared.conditions.Condition.{Condition}
use Rattle.page_roff_heads.specs.declared.loops.LoopHead.{LoopHead}
use Rattle.page_roff_blocks.specs.declared.line_parts.Branch.{Branch}
use Rattle.page_roff_blocks.specs.declared.line_parts.Branch.TheVariants.{If, IfElse, Else}
use Rattle.page_roff_blocks.specs.declared.line_parts.Opening.{Opening}
use Rattle.page_roff_blocks.specs.declared.line_parts.Opening.TheVariants as openings
use Rattle.page_roff_blocks.specs.declared.levels.Ended.{Ended}
use Rattle.page_roff_blocks.specs.declared.levels.Ended.TheVariants as endings
use Rattle.page_roff_blocks.specs.declared.levels.Way.{Way}
use Rattle.page_roff_blocks.specs.declared.levels.Way.TheVariants.{Runs, Skips, Exceeds}
use Rattle.page_roff_syntax.specs.declared.region_heads.RegionHead.{RegionHead}
use Rattle.page_roff_syntax.specs.Regions.{is_ending, Opened}
use Rattle.page_roff_blocks.specs.Forest.{Levels, SourcePlace}

-- ---- what is before the end of a block lies in the line

head_before : (opens : Bool) (head : Head (List ℕ)) → before_end (head_line_part opens head) ≡ 0
head_before true head = refl
head_before false head = refl

loop_before : (opens : Bool) (read : LoopRead (List ℕ)) → before_end (loop_part_if opens read).line_part ≡ 0
loop_before true read = refl
loop_before false read = refl

end_before : (before : List ℕ) (rest : Option (List ℕ)) → before_end (end_part before rest).line_part ≡ length before
end_before [] rest = refl
end_before (byte ∷ bytes) rest = refl

plain_before : (line : List ℕ) → before_end (plain_part line).line_part ≤ length line
unfolding block_end_of
plain_before line =
    let place = end_place line in
    elim (cases_Bool (nat_lt place (length line))) [
      | inl t ↦
          let h : place < length line = grind (arith, nat_tests) in
          let l = length-take-le place line (omega arith) in
          rw (t, end_before (take place line) _) (omega (arith, l))
      | inr t ↦ rw t (omega arith)
    ]

keyword_before : (k : Keyword) (line : List ℕ) (column : ℕ) (rest : List ℕ) (rest_column : ℕ)
    → before_end (keyword_part k line column rest rest_column).line_part ≤ length line
keyword_before keywords.Else line column rest n = rw (head_before (guarded_of n (raw_rest line n)).opens_block _) (omega arith)
keyword_before keywords.While line column rest n = grind (arith, loop_before)
keyword_before (keywords.Region kind) line column rest n = omega arith
keyword_before keywords.Other line column rest n = plain_before line
keyword_before _ line column rest n = rw (head_before (conditional_of n (raw_rest line n)).guarded.opens_block _) (omega arith)

form_before : (line : List ℕ) (form : LineForm (List ℕ)) → before_end (form_part line form).line_part ≤ length line
form_before line (Control name column rest rest_column) = keyword_before (keyword_of name) line column rest rest_column
form_before line _ = plain_before line

pub before_within : (line : List ℕ) → before_end (written_part line).line_part ≤ length line
unfolding written_part
before_within line = form_before line (form_of line)

-- ---- so many remainders are enough

by_same : (blocks : Option ℕ) (f g : ℕ → Option (List ℕ)) (rest : List ℕ) → ((n : ℕ) → f n ≡ g n) → left_by blocks f rest ≡ left_by blocks g rest
by_same None f g rest h = refl
by_same (Some n) f g rest h = h n

enough : (n k blocks : ℕ) (rest : Option (List ℕ)) → room rest ≤ n → room rest ≤ k → left_in n blocks rest ≡ left_in k blocks rest
unfolding room
enough zero zero blocks rest p q = refl
enough zero (suc k) blocks None p q = refl
enough zero (suc k) blocks (Some line) p q = absurd (omega arith)
enough (suc n) zero blocks None p q = refl
enough (suc n) zero blocks (Some line) p q = absurd (omega arith)
enough (suc n) (suc k) blocks None p q = refl
enough (suc n) (suc k) blocks (Some line) p q =
    let part = written_part line in
    let h = room_left line part.rest (written_shorter line) in
    by_same (blocks_after part.line_part part.is_end blocks) (λ b. left_in n b part.rest) (λ b. left_in k b part.rest) (drop (before_end part.line_part) line)
    (λ b. enough n k b part.rest (omega (arith, h, p)) (omega (arith, h, q)))

all_left : (n blocks : ℕ) (rest : Option (List ℕ)) → room rest ≤ n → left_in n blocks rest ≡ left_rest blocks rest
unfolding room left_of
all_left zero blocks None p = refl
all_left (suc n) blocks None p = refl
all_left n blocks (Some line) p = enough n (suc (length line)) blocks (Some line) p (omega arith)

-- a part, and then the rest
pub left_cons : (blocks : ℕ) (line : List ℕ) → let part = written_part line in
    left_of blocks line ≡ left_by (blocks_after part.line_part part.is_end blocks) (λ b. left_rest b part.rest) (drop (before_end part.line_part) line)
unfolding left_of
left_cons blocks line = grind (arith, by_same, all_left, room_left, written_shorter)

-- ---- from a place in a line on, of which a slice holds the end

-- the first part of what such a slice holds
abbrev pub part_from : ℕ → List ℕ → RawPart (List ℕ)
part_from n line = written_part (take (length line - n) (drop n line))

-- the loop ends in this part
pub len_found : (around blocks n : ℕ) (line : List ℕ) (part : RawPart (List ℕ)) → n ≤ length line → part ≡ part_from n line
    → left_of around line ≡ left_of blocks (drop n line) → blocks_after part.line_part part.is_end blocks ≡ None
    → (len_of around line ≡ Some (n + before_end part.line_part)) × (n + before_end part.line_part ≤ length line)
unfolding len_of
len_found around blocks n line part p e same ends = grind (arith, to_end, before_within, left_cons, length-drop)

-- it goes on after this part
left_next : (around blocks b n : ℕ) (line : List ℕ) (part : RawPart (List ℕ)) → part ≡ part_from n line
    → left_of around line ≡ left_of blocks (drop n line) → blocks_after part.line_part part.is_end blocks ≡ Some b → left_of around line ≡ left_rest b part.rest
left_next around blocks b n line part e same goes = grind (arith, to_end, left_cons)

pub ends_from : (n : ℕ) (line : List ℕ) (part : RawPart (List ℕ)) → n ≤ length line → part ≡ part_from n line → IsEndOf line part.rest
ends_from n line part p e = grind (arith, to_end, end_further, written_ends)

shorter_from : (n : ℕ) (line : List ℕ) (part : RawPart (List ℕ)) → part ≡ part_from n line → IsShorter (drop n line) part.rest
shorter_from n line part e = rw (e ∙ ap written_part (to_end n line)) (written_shorter (drop n line))

-- nothing is left
last_rest : (line : List ℕ) (b : ℕ) (rest : Option (List ℕ)) → place_after line rest ≡ None → left_rest b rest ≡ None
last_rest line b None h = refl
last_rest line b (Some text) h = let no : ⊥ = cc in absurd no

pub len_none : (around blocks b n : ℕ) (line : List ℕ) (part : RawPart (List ℕ)) → part ≡ part_from n line
    → left_of around line ≡ left_of blocks (drop n line) → blocks_after part.line_part part.is_end blocks ≡ Some b → place_after line part.rest ≡ None
    → len_of around line ≡ None
unfolding len_of
len_none around blocks b n line part e same goes last =
    ap (len_before line) (left_next around blocks b n line part e same goes ∙ last_rest line b part.rest last)

-- the place after the rest's beginning
next_rest : (line : List ℕ) (b next : ℕ) (rest : Option (List ℕ)) → IsEndOf line rest → place_after line rest ≡ Some next
    → left_rest b rest ≡ left_of b (drop next line)
next_rest line b next None h e = let no : ⊥ = cc in absurd no
next_rest line b next (Some text) h e = grind arith

pub next_left : (around blocks b n next : ℕ) (line : List ℕ) (part : RawPart (List ℕ)) → n ≤ length line → part ≡ part_from n line
    → left_of around line ≡ left_of blocks (drop n line) → blocks_after part.line_part part.is_end blocks ≡ Some b → place_after line part.rest ≡ Some next
    → left_of around line ≡ left_of b (drop next line)
next_left around blocks b n next line part p e same goes place =
    left_next around blocks b n line part e same goes ∙ next_rest line b next part.rest (ends_from n line part p e) place

further_in : (n next : ℕ) (line : List ℕ) (rest : Option (List ℕ)) → n ≤ length line → IsEndOf line rest → IsShorter (drop n line) rest → place_after line rest ≡ Some next
    → (n < next) × (next ≤ length line)
further_in n next line None p h s e = let no : ⊥ = cc in absurd no
further_in n next line (Some text) p h s e = grind (arith, length-drop)

-- it lies further in the line
pub next_further : (n next : ℕ) (line : List ℕ) (part : RawPart (List ℕ)) → n ≤ length line → part ≡ part_from n line → place_after line part.rest ≡ Some next
    → (n < next) × (next ≤ length line)
next_further n next line part p e place = further_in n next line part.rest p (ends_from n line part p e) (shorter_from n line part e) place

-- ---- a part opens one block at most

end_most : (is_end : Bool) (blocks b : ℕ) → blocks_left is_end blocks ≡ Some b → b ≤ blocks + 1
end_most false blocks b h = let is : blocks ≡ b = cc in omega (arith, is)
end_most true zero b h = let no : ⊥ = cc in absurd no
end_most true (suc blocks) b h = let is : blocks ≡ b = cc in omega (arith, is)

pub blocks_most : (line_part : LinePart (List ℕ)) (is_end : Bool) (blocks b : ℕ) → blocks_after line_part is_end blocks ≡ Some b → b ≤ blocks + 1
blocks_most (Leaf text) is_end blocks b h = end_most is_end blocks b h
blocks_most (Block opening) is_end blocks b h = let is : suc blocks ≡ b = cc in omega (arith, is)
blocks_most End is_end blocks b h = end_most true blocks b h
blocks_most _ is_end blocks b h = let is : blocks ≡ b = cc in omega (arith, is)

-- ---- Two sources side by side: states that are tied stay tied. Helpers of proofs.

-- two states are the same, and such
abbrev pub Alike : {S : Type 0} → (S → Type 0) → S → S → Type 0
Alike P s t = (s ≡ t) × P s

-- one of two ties
abbrev pub Ties : {S Q : Type 0} → (S → Q → Type 0) → (S → Q → Type 0) → Bool → S → Q → Type 0
Ties F B true s t = F s t
Ties F B false s t = B s t

-- the same answer, and states that are tied
abbrev pub Both : {A S Q : Type 0} → (S → Q → Type 0) → A × S → A × Q → Type 0
Both B v w = (v.0 ≡ w.0) × B v.1 w.1

abbrev pub BothAt : {S Q : Type 0} → (S → Q → Type 0) → At S → At Q → Type 0
BothAt B a b = (a.place ≡ b.place) × B a.state b.state

-- whether a part is run is the same, and it is `F` that ties the states where it is
abbrev pub Met : {S Q : Type 0} → (S → Q → Type 0) → (S → Q → Type 0) → Bool × S → Bool × Q → Type 0
Met F B v w = (v.0 ≡ w.0) × Ties F B v.0 v.1 w.1

-- the same place past a part
abbrev pub Next : {S Q : Type 0} → (S → Q → Type 0) → BlockCursor × S → BlockCursor × Q → Type 0
Next B x y = (x.0 ≡ y.0) × (x.0.begun ≡ true) × B x.1 y.1

-- one tie for both
pub one_tie : {S Q : Type 0} (B : S → Q → Type 0) (which : Bool) (s : S) (t : Q) → B s t → Ties B B which s t
one_tie B true s t h = h
one_tie B false s t h = h

pub of_one : {S Q : Type 0} (B : S → Q → Type 0) (which : Bool) (s : S) (t : Q) → Ties B B which s t → B s t
of_one B true s t h = h
of_one B false s t h = h

pub same_at : {S : Type 0} (a b : At S) → BothAt (λ s t. s ≡ t) a b → a ≡ b
same_at {S} a b h = grind arith

-- Of lines whose leaves are such: `N` ties states where a line began, `F` where a part is run, and `B` after it.
pub record TiesParts {S Q : Type 0} (T : List ℕ → Type 0) (N F B : S → Q → Type 0) (m : Meaning S) (n : Meaning Q) : Type 0 where
  pub base : (begun : Bool) (s : S) (t : Q) → Ties B N begun s t → B s t
  pub full : (s : S) (t : Q) → F s t → B s t
  pub meets : (is_remainder : Bool) (s : S) (t : Q) → Ties B N is_remainder s t → Met F B (m.meets is_remainder s) (n.meets is_remainder t)
  pub tests : (condition : Condition (List ℕ)) (s : S) (t : Q) → F s t → Both B (m.tests condition s) (n.tests condition t)
  pub refuses : (h : Head (List ℕ)) (s : S) (t : Q) → B s t → B (m.refuses h s) (n.refuses h t)
  pub unopened : (s : S) (t : Q) → B s t → B (m.unopened s) (n.unopened t)
  pub opens_region : (head : RegionHead (List ℕ)) (is_run : Bool) (s : S) (t : Q) → B s t → B (m.opens_region head is_run s) (n.opens_region head is_run t)
  pub opens_loop : (head : LoopHead (List ℕ)) (s : S) (t : Q) → IsLoopHead T head → B s t → B (m.opens_loop head s) (n.opens_loop head t)

-- of a line that begins where states are tied by `A`
pub record TiesLine {S Q : Type 0} (A N B : S → Q → Type 0) (m : Meaning S) (n : Meaning Q) (line : List ℕ) : Type 0 where
  pub begins : (s : S) (t : Q) → A s t → N (m.begins line s) (n.begins line t)
  pub reads : (o : Opened) (s : S) (t : Q) → A s t → B (m.reads o line s) (n.reads o line t)
  pub ends_region : (o : Opened) (s : S) (t : Q) → A s t → B (m.ends_region o line s) (n.ends_region o line t)
  pub collects : (open_blocks : ℕ) (s : S) (t : Q) → N s t → N (m.collects open_blocks line s) (n.collects open_blocks line t)
  pub keeps : (s : S) (t : Q) → B s t → B (m.keeps line s) (n.keeps line t)

module _ {S Q : Type 0} (T : List ℕ → Type 0) (N F B : S → Q → Type 0) (m : Meaning S) (n : Meaning Q) (k : TiesParts T N F B m n) where
  pub ready_tied : (is_met : Bool) (s : S) (t : Q) → Ties F B is_met s t → B s t
  ready_tied true s t h = k.full s t h
  ready_tied false s t h = h

  meet_tied : (in_loop : Bool) (skipped : ℕ) (passing begun : Bool) (s : S) (t : Q) → Ties B N begun s t
      → Met F B (meet_as m (reached_in in_loop skipped passing begun) s) (meet_as n (reached_in in_loop skipped passing begun) t)
  unfolding meet_as reached_in reached_from reached_if
  meet_tied true skipped passing begun s t h = (refl, k.base begun s t h)
  meet_tied false (suc skipped) passing begun s t h = (refl, k.base begun s t h)
  meet_tied false zero true begun s t h = (refl, k.base begun s t h)
  meet_tied false zero false false s t h = k.meets false s t h
  meet_tied false zero false true s t h = k.meets true s t h

  pub met_tied : (cursor : BlockCursor) (s : S) (t : Q) → Ties B N cursor.begun s t → Met F B (met m cursor s) (met n cursor t)
  unfolding met reached
  met_tied cursor s t h = meet_tied cursor.levels.in_loop cursor.levels.skipped cursor.passing cursor.begun s t h

  -- what is done with a part that is met
  after_met : {V W : Type 0} (Z : V → W → Type 0) (x : Bool → S → V) (y : Bool → Q → W) → ((is_met : Bool) (s : S) (t : Q) → Ties F B is_met s t → Z (x is_met s) (y is_met t))
      → (cursor : BlockCursor) (s : S) (t : Q) → Ties B N cursor.begun s t → Z (x (met m cursor s).0 (met m cursor s).1) (y (met n cursor t).0 (met n cursor t).1)
  after_met Z x y then cursor s t h = grind (arith, met_tied)

  value_tied : (branch : Branch (List ℕ)) (bit : Bool) (s : S) (t : Q) → F s t → Both B (value m branch bit s) (value n branch bit t)
  unfolding value
  value_tied (If condition) bit s t h = k.tests condition s t h
  value_tied (IfElse condition) bit s t h = k.tests condition s t h
  value_tied Else bit s t h = (refl, k.full s t h)

  pub guard_tied : (h : Head (List ℕ)) (cursor : BlockCursor) (is_met : Bool) (s : S) (t : Q) → Ties F B is_met s t
      → Next B (guard_met m is_met h cursor s) (guard_met n is_met h cursor t)
  unfolding guard_met guard_with guarded_by
  guard_tied h cursor true s t r =
      let v = value_tied h.branch cursor.levels.bit s t r in
      (ap (λ (bit : Bool). guarded_by h.branch bit cursor.levels) v.0, refl, v.1)
  guard_tied h cursor false s t r = (refl, refl, r)

  refuse_tied : (way : Way) (h : Head (List ℕ)) (s : S) (t : Q) → B s t → B (refuse_if m way h s) (refuse_if n way h t)
  unfolding refuse_if
  refuse_tied Runs h s t r = r
  refuse_tied Skips h s t r = r
  refuse_tied Exceeds h s t r = k.refuses h s t r

  with_tied : (h : Head (List ℕ)) (cursor : BlockCursor) (v : Bool × S) (w : Bool × Q) → Both B v w → Next B (block_with m h cursor v) (block_with n h cursor w)
  unfolding block_with after_part
  with_tied h cursor v w r = grind (arith, refuse_tied)

  opening_tied : (opening : Opening (List ℕ)) (cursor : BlockCursor) (s : S) (t : Q) → IsOpening T opening → F s t
      → Next B (opening_met m opening cursor s) (opening_met n opening cursor t)
  unfolding opening_met after_part
  opening_tied (openings.Conditional h) cursor s t a r =
      with_tied h cursor (value m h.branch cursor.levels.bit s) (value n h.branch cursor.levels.bit t) (value_tied h.branch cursor.levels.bit s t r)
  opening_tied (openings.Loop h) cursor s t a r = (refl, refl, k.opens_loop h s t a (k.full s t r))

  pub block_tied : (opening : Opening (List ℕ)) (cursor : BlockCursor) → IsOpening T opening → (is_met : Bool) (s : S) (t : Q) → Ties F B is_met s t
      → Next B (block_met m is_met opening cursor s) (block_met n is_met opening cursor t)
  unfolding block_met after_part
  block_tied opening cursor a true s t r = opening_tied opening cursor s t a r
  block_tied opening cursor a false s t r = (refl, refl, r)

  pub opens_tied : (head : RegionHead (List ℕ)) (l : Levels) (is_met : Bool) (s : S) (t : Q) → Ties F B is_met s t
      → BothAt B (open_region m head l (is_met, s)) (open_region n head l (is_met, t))
  opens_tied head l is_met s t r = (refl, k.opens_region head is_met s t (ready_tied is_met s t r))

  -- ---- a line

  module _ (A : S → Q → Type 0) (line : List ℕ) (i : TiesLine A N B m n line) where
    pub keep_tied : (in_loop : Bool) (s : S) (t : Q) → B s t → B (keep_if m in_loop line s) (keep_if n in_loop line t)
    unfolding keep_if
    keep_tied true s t h = i.keeps s t h
    keep_tied false s t h = h

    collect_tied : (in_loop : Bool) (open_blocks : ℕ) (s : S) (t : Q) → N s t → N (collect_if m in_loop open_blocks line s) (collect_if n in_loop open_blocks line t)
    unfolding collect_if
    collect_tied true open_blocks s t h = i.collects open_blocks s t h
    collect_tied false open_blocks s t h = h

    pub begin_tied : (l : Levels) (s : S) (t : Q) → A s t → N (begin_line m line l s) (begin_line n line l t)
    unfolding begin_line
    begin_tied l s t h = collect_tied l.in_loop l.skipped (m.begins line s) (n.begins line t) (i.begins s t h)

    inside_tied : (is_end : Bool) (o : Opened) (l : Levels) (s : S) (t : Q) → A s t → BothAt B (step_inside m is_end o line l s) (step_inside n is_end o line l t)
    unfolding step_inside
    inside_tied true o l s t h = (refl, keep_tied l.in_loop (m.ends_region o line s) (n.ends_region o line t) (i.ends_region o s t h))
    inside_tied false o l s t h = (refl, keep_tied l.in_loop (m.reads o line s) (n.reads o line t) (i.reads o s t h))

  -- ---- the parts of a line

  module _ (gives : (text : List ℕ) (s : S) (t : Q) → T text → F s t → B (m.gives text s) (n.gives text t)) (closes : (s : S) (t : Q) → B s t → B (m.closes_loop s) (n.closes_loop t)) where
    leaf_tied : (text : List ℕ) → T text → (is_met : Bool) (s : S) (t : Q) → Ties F B is_met s t → B (leaf_if m is_met text s) (leaf_if n is_met text t)
    unfolding leaf_if
    leaf_tied text a true s t r = gives text s t a r
    leaf_tied text a false s t r = r

    loop_tied : (h : LoopHead (List ℕ)) → IsLoopHead T h → (is_met : Bool) (s : S) (t : Q) → Ties F B is_met s t → B (loop_if m is_met h s) (loop_if n is_met h t)
    unfolding loop_if
    loop_tied h a true s t r = closes (m.opens_loop h s) (n.opens_loop h t) (k.opens_loop h s t a (k.full s t r))
    loop_tied h a false s t r = r

    end_tied : (ending : Ended) (s : S) (t : Q) → B s t → B (end_by m ending s) (end_by n ending t)
    unfolding end_by
    end_tied endings.Block s t r = r
    end_tied endings.Loop s t r = closes s t r
    end_tied endings.Nothing s t r = k.unopened s t r

    then_tied : (rest : List (LinePart (List ℕ))) → ((cursor : BlockCursor) (s : S) (t : Q) → Ties B N cursor.begun s t → BothAt B (step_parts m rest cursor s) (step_parts n rest cursor t))
        → (x : BlockCursor × S) (y : BlockCursor × Q) → Next B x y → BothAt B (step_parts m rest x.0 x.1) (step_parts n rest y.0 y.1)
    then_tied rest then x y e =
        subst (λ (c : BlockCursor). BothAt B (step_parts m rest x.0 x.1) (step_parts n rest c y.1)) e.0
        (then x.0 x.1 y.1 (subst (λ (begun : Bool). Ties B N begun x.1 y.1) (sym e.1) e.2))

    pub parts_tied : (parts : List (LinePart (List ℕ))) → AreLeaves T parts → (cursor : BlockCursor) (s : S) (t : Q) → Ties B N cursor.begun s t
        → BothAt B (step_parts m parts cursor s) (step_parts n parts cursor t)
    unfolding step_parts step_leaf step_guard step_block step_loop step_end step_region after_part
    parts_tied [] a cursor s t h = (refl, k.base cursor.begun s t h)
    parts_tied (Leaf text ∷ rest) a cursor s t h =
        then_tied rest (parts_tied rest a.1) (step_leaf m text cursor s) (step_leaf n text cursor t)
        (refl, refl, after_met B (λ is_met s. leaf_if m is_met text s) (λ is_met t. leaf_if n is_met text t) (leaf_tied text a.0) cursor s t h)
    parts_tied (Guard head ∷ rest) a cursor s t h =
        then_tied rest (parts_tied rest a) (step_guard m head cursor s) (step_guard n head cursor t)
        (after_met (Next B) (λ is_met s. guard_met m is_met head cursor s) (λ is_met t. guard_met n is_met head cursor t) (guard_tied head cursor) cursor s t h)
    parts_tied (Block opening ∷ rest) a cursor s t h =
        then_tied rest (parts_tied rest a.1) (step_block m opening cursor s) (step_block n opening cursor t)
        (after_met (Next B) (λ is_met s. block_met m is_met opening cursor s) (λ is_met t. block_met n is_met opening cursor t) (block_tied opening cursor a.0) cursor s t h)
    parts_tied (Loop head ∷ rest) a cursor s t h =
        then_tied rest (parts_tied rest a.1) (step_loop m head cursor s) (step_loop n head cursor t)
        (refl, refl, after_met B (λ is_met s. loop_if m is_met head s) (λ is_met t. loop_if n is_met head t) (loop_tied head a.0) cursor s t h)
    parts_tied (End ∷ rest) a cursor s t h =
        then_tied rest (parts_tied rest a) (step_end m cursor s) (step_end n cursor t)
        (refl, refl, end_tied (what_ends cursor.levels) s t (k.base cursor.begun s t h))
    parts_tied (Region head ∷ rest) a cursor s t h =
        after_met (BothAt B) (λ is_met s. open_region m head cursor.levels (is_met, s)) (λ is_met t. open_region n head cursor.levels (is_met, t)) (opens_tied head cursor.levels) cursor s t h

    module _ (A : S → Q → Type 0) (line : List ℕ) (i : TiesLine A N B m n line) (leaves : AreLeaves T (line_parts line)) where
      from_tied : (o : Option Opened) (l : Levels) (s : S) (t : Q) → A s t → BothAt B (step_from m o line l s) (step_from n o line l t)
      unfolding step_from at_line
      from_tied None l s t h =
          parts_tied (line_parts line) leaves (at_line l) (begin_line m line l s) (begin_line n line l t) (begin_tied A line i l s t h)
      from_tied (Some o) l s t h = inside_tied A line i (is_ending o.ending line) o l s t h

      pub step_tied : (a : At S) (b : At Q) → BothAt A a b → BothAt B (step m line a) (step n line b)
      unfolding step
      step_tied a b h =
          subst (λ (place : SourcePlace). BothAt B (step m line a) (step_from n place.region line place.levels b.state)) h.0
          (from_tied a.place.region a.place.levels a.state b.state h.1)

-- ---- lines

module _ {S Q : Type 0} (T : List ℕ → Type 0) (N F B : S → Q → Type 0) (m : Meaning S) (n : Meaning Q) (k : TiesParts T N F B m n)
    (gives : (text : List ℕ) (s : S) (t : Q) → T text → F s t → B (m.gives text s) (n.gives text t)) (closes : (s : S) (t : Q) → B s t → B (m.closes_loop s) (n.closes_loop t))
    (leaves : HasLeaves T) (i : (line : List ℕ) → T line → TiesLine B N B m n line) where
  pub lines_tied : (lines : List (List ℕ)) → AreSuch T lines → (a : At S) (b : At Q) → BothAt B a b → BothAt B (step_lines m lines a) (step_lines n lines b)
  unfolding step_lines
  lines_tied [] t a b h = h
  lines_tied (line ∷ lines) t a b h =
      lines_tied lines t.1 (step m line a) (step n line b) (step_tied T N F B m n k gives closes B line (i line t.0) (leaves line t.0) a b h)
