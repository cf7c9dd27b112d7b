-- A source as its parts and lines are passed: helpers of proofs.
use Rattle.std.proofs.Common.{◌≡◌, ℕ, ◌+◌, ◌-◌, ◌*◌, ◌<◌, ◌≤◌, Bool, true, false, not, ◌&&◌, ◌==◌, nat_lt, is_none, is_some, List, [], ◌∷◌, length, take, drop, Option, Some, None, refl, sym, ap, ◌∙◌, arith, length-drop}
use Rattle.std.proofs.lemmas.Bool.Decides.{nat_tests}
use Rattle.std.specs.Borrow.{Bor}
use Rattle.page_core_base.specs.declared.limits.TheConstants.{LINE}
use Rattle.page_roff_blocks.specs.declared.line_parts.LinePart.{LinePart}
use Rattle.page_roff_blocks.specs.declared.line_places.LinePlace.{LinePlace}
use Rattle.page_roff_blocks.specs.Parts.{line_parts}
use Rattle.page_roff_blocks.specs.laws.Views.{ReadsNext, BlockCursor, at_line, after_part, open_loop, skip, passed}
use Rattle.page_roff_blocks.specs.declared.block_cursors.Pass.{Pass}
use Rattle.page_roff_blocks.specs.declared.block_cursors.Pass.TheVariants as passes
use Rattle.page_roff_syntax.specs.Regions.{Opened}
use Rattle.page_roff_blocks.specs.machine.Steps.{parts_at, line_end, is_at_end, IsPlaceIn}
use Rattle.page_roff_blocks.proofs.LinePartLemmas.{line_parts_cons, line_parts_room, enter_room, leave_room}
use Rattle.page_roff_blocks.specs.machine.Machine.{Frame, at_part, weight, work_in}
use Rattle.page_roff_stack.specs.declared.input_frames.InputFrame.{InputFrame}
use Rattle.page_roff_stack.specs.declared.source_kinds.SourceKind.{SourceKind}
use Rattle.page_roff_stack.specs.declared.source_kinds.SourceKind.TheVariants as sources
use Rattle.page_roff_stack.specs.declared.spans.Span.{Span}
use Rattle.page_roff_values.specs.Values.{lines_in}
use Rattle.page_roff_stack.specs.machine.Stacks.{IsAfter, IsAfterIn, past, in_region, next_line, first_line_parts, begins_next, begins_line, ends_with, is_over, HasPart, IfEnters, AreShort, IsBounded, span_text, only_line, AreLinesOf, IsSpanIn, IsFirstLine, frame_of, IsHeld, parts_view, IsNextLine}
use Rattle.page_roff_stack.proofs.InputStackLemmas.{span_len, some_line, no_lines}

-- what is held of a source that stands elsewhere
moved_held : (a : InputFrame) (all : List ℕ) (line : Span) (place : LinePlace) (ahead : Option LinePlace) (lines : Span) (region : Option Opened) (cursor : BlockCursor)
    → let b : InputFrame = record a { line = line; place = place; ahead = ahead; lines = lines; region = region; cursor = cursor } in
    IsSpanIn line all → line.end ≤ line.start + LINE → IsPlaceIn (span_text line all) place → IsAfterIn (span_text line all) place ahead → IsSpanIn lines all
    → AreLinesOf a.kind (span_text lines all) → IsBounded (frame_of b all) → IsHeld a all → IsHeld b all
moved_held a all line place ahead lines region cursor l s p n m o bounds h =
    record { line = l; short = s; place = p; ahead = n; lines = m; only = o; arguments = h.arguments; turns = h.turns; bounds = bounds }

-- ---- a part is read

pub reads_rest : (old : List (LinePart (List ℕ))) (part : Option (LinePart (Bor (List ℕ)))) (new : List (LinePart (List ℕ))) → ReadsNext old part new → new ≡ drop 1 old
reads_rest old None new h = h.1 ∙ sym (ap (drop 1) h.0)
reads_rest old (Some part) new h = sym (ap (drop 1) h)

pub reads_first : (old : List (LinePart (List ℕ))) (part : Option (LinePart (Bor (List ℕ)))) (new : List (LinePart (List ℕ))) → ReadsNext old part new → parts_view part ≡ take 1 old
reads_first old None new h = sym (ap (take 1) h.0)
reads_first old (Some part) new h = sym (ap (take 1) h)

-- ---- a part is passed

abbrev pub after_it : InputFrame → LinePlace → BlockCursor → InputFrame
after_it a place cursor = record a { place = place; ahead = None; cursor = cursor }

pub past_view : (a : InputFrame) (all text : List ℕ) (place : LinePlace) (cursor : BlockCursor) → text ≡ span_text a.line all → IsAfter text a.place place
    → frame_of (after_it a place cursor) all ≡ past cursor (frame_of a all)
unfolding at_part
past_view a all text place cursor e h = grind arith

past_bounded : (f : Frame) (cursor : BlockCursor) → cursor.levels.skipped + 2 * length (drop 1 f.parts) ≤ f.cursor.levels.skipped + 2 * length f.parts → IsBounded f → IsBounded (past cursor f)
unfolding at_part work_in
past_bounded f cursor p h = record { short = h.short; skips = omega (arith, p, h.skips) }

-- a part skips one block at most, where there is one
pass_room : (pass : Pass) (f : Frame) → IfEnters pass (HasPart f)
    → (passed pass f.cursor).levels.skipped + 2 * length (drop 1 f.parts) ≤ f.cursor.levels.skipped + 2 * length f.parts
unfolding after_part skip open_loop
pass_room passes.Leaf f h = omega (arith, length-drop 1 f.parts)
pass_room (passes.Guard None) f h = omega (arith, length-drop 1 f.parts)
pass_room (passes.Guard (Some a)) f h = omega (arith, length-drop 1 f.parts)
pass_room (passes.Block None) f h = omega (arith, h, length-drop 1 f.parts)
pass_room (passes.Block (Some a)) f h = grind (arith, length-drop, enter_room)
pass_room (passes.Loop true) f h = omega (arith, length-drop 1 f.parts)
pass_room (passes.Loop false) f h = omega (arith, h, length-drop 1 f.parts)
pass_room passes.End f h =
    let l = f.cursor.levels in omega (arith, length-drop 1 f.parts, leave_room l.bit l.outer l.in_loop l.skipped)

pub past_held : (a : InputFrame) (all text : List ℕ) (place : LinePlace) (pass : Pass) (cursor : BlockCursor) → text ≡ span_text a.line all → IsAfter text a.place place
    → cursor ≡ passed pass a.cursor → IfEnters pass (HasPart (frame_of a all)) → IsHeld a all → IsHeld (after_it a place cursor) all
past_held a all text place pass cursor e r g p h =
    let f = frame_of a all in
    let room : cursor.levels.skipped + 2 * length (drop 1 f.parts) ≤ f.cursor.levels.skipped + 2 * length f.parts = rw g (pass_room pass f p) in
    moved_held a all a.line place None a.lines a.region cursor h.line h.short (rw e at r.within) tt h.lines h.only
    (rw (past_view a all text place cursor e r) (past_bounded f cursor room h.bounds)) h

-- what was read changes nothing of what is seen
pub ahead_held : (a : InputFrame) (all text : List ℕ) (ahead : LinePlace) → text ≡ span_text a.line all → IsAfter text a.place ahead → IsHeld a all → IsHeld (record a { ahead = Some ahead }) all
ahead_held a all text ahead e r h = grind (arith, moved_held)

-- ---- the rest of the present line is passed

abbrev pub closed : InputFrame → LinePlace → Option Opened → BlockCursor → InputFrame
closed a place region cursor = record a { place = place; ahead = None; region = region; cursor = cursor }

pub closed_view : (a : InputFrame) (all : List ℕ) (place : LinePlace) (region : Option Opened) (cursor : BlockCursor) → place ≡ line_end → cursor ≡ at_line a.cursor.levels
    → frame_of (closed a place region cursor) all ≡ in_region region (frame_of a all)
closed_view a all place region cursor e g = rw (e, g) refl

closed_bounded : (region : Option Opened) (f : Frame) → IsBounded f → IsBounded (in_region region f)
unfolding work_in at_line
closed_bounded region f h = record { short = h.short; skips = omega (arith, h.skips) }

pub closed_held : (a : InputFrame) (all : List ℕ) (place : LinePlace) (region : Option Opened) (cursor : BlockCursor) → place ≡ line_end → cursor ≡ at_line a.cursor.levels → IsHeld a all
    → IsHeld (closed a place region cursor) all
closed_held a all place region cursor e g h =
    moved_held a all a.line place None a.lines region cursor h.line h.short (rw e tt) tt h.lines h.only
    (rw (closed_view a all place region cursor e g) (closed_bounded region (frame_of a all) h.bounds)) h

-- ---- a line is passed

-- the first line is here, and those after it there
pub record IsPassed (a : InputFrame) (all : List ℕ) (line lines : Span) : Type 0 where
  pub first : IsFirstLine (frame_of a all).lines (span_text line all)
  pub rest : lines_in (span_text lines all) ≡ drop 1 (frame_of a all).lines
  pub line_within : IsSpanIn line all
  pub lines_within : IsSpanIn lines all

abbrev pub lined : InputFrame → Span → LinePlace → Span → Option Opened → BlockCursor → InputFrame
lined a line place lines region cursor = record a { line = line; place = place; ahead = None; lines = lines; region = region; cursor = cursor }

first_parts : (lines : List (List ℕ)) (text : List ℕ) → 0 < length lines → IsFirstLine lines text → line_parts text ≡ first_line_parts lines
first_parts [] text p h = absurd (omega arith)
first_parts (line ∷ lines) text p h = rw h refl

first_short : (lines : List (List ℕ)) (text : List ℕ) → 0 < length lines → IsFirstLine lines text → AreShort lines → length text ≤ LINE
first_short [] text p h s = absurd (omega arith)
first_short (line ∷ lines) text p h s = rw h s.0

first_weight : (lines : List (List ℕ)) → 2 * length (first_line_parts lines) + weight (drop 1 lines) ≤ weight lines
unfolding weight
first_weight [] = omega arith
first_weight (line ∷ lines) = omega (arith, line_parts_room line)

rest_weight : (lines : List (List ℕ)) → weight (drop 1 lines) ≤ weight lines
unfolding weight
rest_weight [] = omega arith
rest_weight (line ∷ lines) = omega arith

rest_short : (lines : List (List ℕ)) → AreShort lines → AreShort (drop 1 lines)
rest_short [] h = tt
rest_short (line ∷ lines) h = h.1

next_bounded : (region : Option Opened) (parts : List (LinePart (List ℕ))) (f : Frame) → 2 * length parts + weight (drop 1 f.lines) ≤ weight f.lines → IsBounded f
    → IsBounded (next_line region parts f)
unfolding work_in at_line
next_bounded region parts f p h = record { short = rest_short f.lines h.short; skips = omega (arith, p, h.skips) }

-- the place before the first part of a text
pub record IsStart (text : List ℕ) (place : LinePlace) : Type 0 where
  pub parts : parts_at text place ≡ line_parts text
  pub within : IsPlaceIn text place

-- after the only line of the page nothing is left
only_rest : (kind : SourceKind) (old new : List ℕ) → AreLinesOf kind old → lines_in new ≡ drop 1 (lines_in old) → AreLinesOf kind new
only_rest sources.Page old new h e = none_left new (e ∙ ap (drop 1) h ∙ drop_only old)
  where
    drop_only : (text : List ℕ) → drop 1 (only_line text) ≡ []
    drop_only [] = refl
    drop_only (byte ∷ bytes) = refl

    none_left : (text : List ℕ) → lines_in text ≡ [] → lines_in text ≡ only_line text
    none_left [] e = e
    none_left (byte ∷ bytes) e =
        let n : 0 < length (byte ∷ bytes) = omega arith in
        let p = some_line (byte ∷ bytes) (grind (arith, nat_tests)) in
        absurd (omega (arith, p, ap length e))
only_rest (sources.Body arguments) old new h e = tt

-- a line begins outside of regions
pub outside_regions : (region : Option Opened) (parts : List (LinePart (List ℕ))) (lines : List (List ℕ)) → begins_next region parts lines ≡ true
    → (region ≡ None) × (0 < length lines)
outside_regions None [] (line ∷ more) e = (refl, omega arith)
outside_regions None [] [] e = cc
outside_regions None (part ∷ more) lines e = cc
outside_regions (Some o) parts lines e = cc

-- a line begins
pub begun_view : (a : InputFrame) (all : List ℕ) (line : Span) (place : LinePlace) (lines : Span) (cursor : BlockCursor) → IsPassed a all line lines → begins_line (frame_of a all) ≡ true
    → IsStart (span_text line all) place → cursor ≡ at_line a.cursor.levels
    → frame_of (lined a line place lines a.region cursor) all ≡ next_line None (first_line_parts (frame_of a all).lines) (frame_of a all)
begun_view a all line place lines cursor h b e g = grind (arith, outside_regions, first_parts)

pub begun_held : (a : InputFrame) (all : List ℕ) (line : Span) (place : LinePlace) (lines : Span) (cursor : BlockCursor) → IsPassed a all line lines → begins_line (frame_of a all) ≡ true
    → IsStart (span_text line all) place → cursor ≡ at_line a.cursor.levels → IsHeld a all → IsHeld (lined a line place lines a.region cursor) all
begun_held a all line place lines cursor h b e g held =
    let p = (outside_regions a.region (frame_of a all).parts (frame_of a all).lines b).1 in
    let f = frame_of a all in
    let l = span_len line all h.line_within in
    let s = first_short f.lines (span_text line all) p h.first held.bounds.short in
    moved_held a all line place None lines a.region cursor h.line_within (omega (arith, l, s, h.line_within.0)) e.within tt h.lines_within
    (only_rest a.kind (span_text a.lines all) (span_text lines all) held.only h.rest)
    (rw (begun_view a all line place lines cursor h b e g) (next_bounded None (first_line_parts f.lines) f (first_weight f.lines) held.bounds)) held

-- a line in a region is passed
abbrev pub skipped : InputFrame → LinePlace → Span → BlockCursor → InputFrame
skipped a place lines cursor = record a { place = place; ahead = None; lines = lines; cursor = cursor }

pub skipped_view : (a : InputFrame) (all : List ℕ) (line : Span) (place : LinePlace) (lines : Span) (cursor : BlockCursor) → IsPassed a all line lines → place ≡ line_end → cursor ≡ at_line a.cursor.levels
    → frame_of (skipped a place lines cursor) all ≡ next_line a.region [] (frame_of a all)
skipped_view a all line place lines cursor h e g = rw (e, g, h.rest) refl

pub skipped_held : (a : InputFrame) (all : List ℕ) (line : Span) (place : LinePlace) (lines : Span) (cursor : BlockCursor) → IsPassed a all line lines → place ≡ line_end → cursor ≡ at_line a.cursor.levels
    → IsHeld a all → IsHeld (skipped a place lines cursor) all
skipped_held a all line place lines cursor h e g held =
    let f = frame_of a all in
    moved_held a all a.line place None lines a.region cursor held.line held.short (rw e tt) tt h.lines_within
    (only_rest a.kind (span_text a.lines all) (span_text lines all) held.only h.rest)
    (rw (skipped_view a all line place lines cursor h e g) (next_bounded a.region [] f (omega (arith, rest_weight f.lines)) held.bounds)) held

-- a region ends
pub ended_held : (a : InputFrame) (all : List ℕ) → IsHeld a all → IsHeld (record a { region = None }) all
unfolding work_in
ended_held a all h = grind (arith, moved_held)

-- ---- the line that comes next

pub next_line_is : (lines : List (List ℕ)) (text : List ℕ) → IsFirstLine lines text → AreShort lines → 0 < length lines → IsNextLine lines (Some text)
next_line_is [] text h s p = absurd (omega arith)
next_line_is (line ∷ lines) text h s p = (h, rw h s.0)

-- ---- whether a line begins

-- no part comes after the last place
pub end_parts : (text : List ℕ) (place : LinePlace) → is_at_end place ≡ true → parts_at text place ≡ []
end_parts text place e = at_parts text place.is_whole place.is_end place.rest e
  where
    at_parts : (text : List ℕ) (is_whole is_end : Bool) (rest : Option ℕ) → (not is_whole && (not is_end && is_none rest)) ≡ true
        → parts_at text (record { is_whole = is_whole; is_end = is_end; rest = rest }) ≡ []
    at_parts text true is_end rest e = absurd (cc)
    at_parts text false true rest e = absurd (cc)
    at_parts text false false None e = refl
    at_parts text false false (Some start) e = absurd (cc)

pub some_parts : (text : List ℕ) (place : LinePlace) → is_at_end place ≡ false → 0 < length (parts_at text place)
some_parts text place e = at_parts text place.is_whole place.is_end place.rest e
  where
    at_parts : (text : List ℕ) (is_whole is_end : Bool) (rest : Option ℕ) → (not is_whole && (not is_end && is_none rest)) ≡ false
        → 0 < length (parts_at text (record { is_whole = is_whole; is_end = is_end; rest = rest }))
    at_parts text true is_end rest e = omega arith
    at_parts text false true rest e = omega arith
    at_parts text false false None e = absurd (cc)
    at_parts text false false (Some start) e = rw (line_parts_cons (drop start text)) (omega arith)

begins_region : (region : Option Opened) (parts : List (LinePart (List ℕ))) (lines : List (List ℕ)) → is_some region ≡ true → false ≡ begins_next region parts lines
begins_region None parts lines e = absurd (cc)
begins_region (Some o) parts lines e = refl

begins_part : (region : Option Opened) (parts : List (LinePart (List ℕ))) (lines : List (List ℕ)) → 0 < length parts → false ≡ begins_next region parts lines
begins_part None [] lines h = absurd (omega arith)
begins_part None (part ∷ more) lines h = refl
begins_part (Some o) parts lines h = refl

begins_lines : (lines : List (List ℕ)) (b : Bool) → (b ≡ true → 0 < length lines) → (b ≡ false → lines ≡ []) → b ≡ begins_next None [] lines
begins_lines [] true some none = absurd (let h = some refl in omega (arith, h))
begins_lines [] false some none = refl
begins_lines (line ∷ more) true some none = refl
begins_lines (line ∷ more) false some none = let h = none refl in absurd (cc)

begins_outside : (region : Option Opened) (parts : List (LinePart (List ℕ))) (lines : List (List ℕ)) (b : Bool) → is_some region ≡ false → parts ≡ []
    → (b ≡ true → 0 < length lines) → (b ≡ false → lines ≡ []) → b ≡ begins_next region parts lines
begins_outside None parts lines b e p some none = rw p (begins_lines lines b some none)
begins_outside (Some o) parts lines b e p some none = absurd (cc)

less_some : (start end n : ℕ) → n ≡ end - start → nat_lt start end ≡ true → (n == 0) ≡ false
less_some start end n k t = grind (arith, nat_tests)

less_none : (start end n : ℕ) → n ≡ end - start → nat_lt start end ≡ false → (n == 0) ≡ true
less_none start end n k t = grind (arith, nat_tests)

pub not_in_region : (a : InputFrame) (all : List ℕ) → is_some a.region ≡ true → false ≡ begins_line (frame_of a all)
not_in_region a all e = begins_region a.region (frame_of a all).parts (frame_of a all).lines e

pub not_in_line : (a : InputFrame) (all : List ℕ) → is_at_end a.place ≡ false → false ≡ begins_line (frame_of a all)
not_in_line a all e = grind (arith, begins_part, some_parts)

pub begins_here : (a : InputFrame) (all : List ℕ) → is_some a.region ≡ false → is_at_end a.place ≡ true → IsSpanIn a.lines all
    → nat_lt a.lines.start a.lines.end ≡ begins_line (frame_of a all)
begins_here a all e p h =
    let k = span_len a.lines all h in
    let n = length (span_text a.lines all) in
    begins_outside a.region (frame_of a all).parts (frame_of a all).lines (nat_lt a.lines.start a.lines.end) e (end_parts (span_text a.line all) a.place p)
    (λ b. some_line (span_text a.lines all) (less_some a.lines.start a.lines.end n k b))
    (λ b. no_lines (span_text a.lines all) (less_none a.lines.start a.lines.end n k b))

-- ---- whether nothing is left

lines_left : (region : Option Opened) (parts : List (LinePart (List ℕ))) (lines : List (List ℕ)) → 0 < length lines → false ≡ ends_with region parts lines
lines_left None [] [] h = absurd (omega arith)
lines_left None [] (line ∷ more) h = refl
lines_left None (part ∷ more) lines h = refl
lines_left (Some o) parts [] h = absurd (omega arith)
lines_left (Some o) parts (line ∷ more) h = refl

region_over : (region : Option Opened) (parts : List (LinePart (List ℕ))) → is_some region ≡ true → true ≡ ends_with region parts []
region_over None parts e = absurd (cc)
region_over (Some o) parts e = refl

line_over : (region : Option Opened) (parts : List (LinePart (List ℕ))) (b : Bool) → is_some region ≡ false
    → (b ≡ true → parts ≡ []) → (b ≡ false → 0 < length parts) → b ≡ ends_with region parts []
line_over None [] true e none some = refl
line_over None [] false e none some = absurd (let h = some refl in omega (arith, h))
line_over None (part ∷ more) true e none some = let h = none refl in absurd (cc)
line_over None (part ∷ more) false e none some = refl
line_over (Some o) parts b e none some = absurd (cc)

lines_none : (a : InputFrame) (all : List ℕ) → a.lines.end ≤ a.lines.start → IsSpanIn a.lines all → (frame_of a all).lines ≡ []
lines_none a all p h = grind (arith, nat_tests, span_len a.lines all h, no_lines (span_text a.lines all))

pub lines_here : (a : InputFrame) (all : List ℕ) → a.lines.start < a.lines.end → IsSpanIn a.lines all → false ≡ is_over (frame_of a all)
lines_here a all p h = grind (arith, span_len, lines_left, some_line)

pub over_region : (a : InputFrame) (all : List ℕ) → is_some a.region ≡ true → a.lines.end ≤ a.lines.start → IsSpanIn a.lines all → true ≡ is_over (frame_of a all)
over_region a all e p h = rw (lines_none a all p h) (region_over a.region (frame_of a all).parts e)

pub over_line : (a : InputFrame) (all : List ℕ) → is_some a.region ≡ false → a.lines.end ≤ a.lines.start → IsSpanIn a.lines all → is_at_end a.place ≡ is_over (frame_of a all)
over_line a all e p h =
    rw (lines_none a all p h)
    (line_over a.region (frame_of a all).parts (is_at_end a.place) e (end_parts (span_text a.line all) a.place) (some_parts (span_text a.line all) a.place))
