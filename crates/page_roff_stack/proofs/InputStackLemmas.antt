-- The input stack as its innermost source changes: helpers of proofs.
use Rattle.std.proofs.Common.{◌≡◌, ℕ, suc, ◌+◌, ◌<◌, ◌≤◌, nat_lt, ◌==◌, true, false, List, Option, Some, None, [], ◌∷◌, ◌++◌, length, take, reverse, refl, ap, sym, ◌∙◌, arith, length-append, ◌-◌, Bool, ◌&&◌, if◌then◌else◌, get_or, ◌^◌, append_assoc, zero}
use Rattle.std.specs.Vec.{vec_capacity}
use Rattle.std.specs.Prelude.{◌*◌, drop, sum_by, All}
use Rattle.std.proofs.Math.Seq.{take-append_seam, drop-append_seam, take-length}
use Rattle.std.proofs.lemmas.Bool.Decides.{nat_tests}
use Rattle.std.proofs.lemmas.List.{length-reverse, reverse-append, length-take-le, length-drop, drop-drop, drop-take, drop_all, length-take}
use Rattle.std.proofs.lemmas.List.Elements.{All-nil, All-cons}
use Rattle.std.proofs.lemmas.List.Sums.{sum_by-le}
use Rattle.page_core_base.specs.declared.limits.TheConstants.{ARGS, BODY, CALLS, LINE}
use Rattle.page_roff_blocks.specs.machine.Languages.{Kind, page, body, is_some, inner, TURNS, Language, meaning_at}
use Rattle.page_roff_blocks.specs.machine.Machine.{Frame, Turning, at_part, depth, entered, looped, turned, weight, work_in}
use Rattle.page_roff_values.specs.Values.{arguments_in, lines_in, begin_first}
use Rattle.page_roff_stack.specs.declared.input_stacks.Caller.{Caller}
use Rattle.page_roff_stack.specs.declared.input_stacks.InputStack.TheInside.{Inside}
use Rattle.page_roff_stack.specs.declared.input_frames.InputFrame.{InputFrame}
use Rattle.page_roff_stack.specs.declared.movements.Movement.{Movement}
use Rattle.page_roff_stack.specs.declared.movements.Movement.TheVariants as moves
use Rattle.page_roff_stack.specs.machine.Stacks.{page_line, page_passed, in_turn_of, is_page, went, AreShort, IsBounded, begins_next, ends_with, MayGo, kind_in, span_text, only_line, IsSpanIn, IsFirstLine, turning_in, AreArgumentsIn, AreLinesOf, AreTurnsIn, frame_of, IsHeld, Stack, first_text, call_of, loop_of, running, has_begun, turn_left, turn_in, turn_or_end, next_around, next_in, next_of, is_part, is_line, is_nothing, Suits, end_of, turn_if, step_in, step_of, packed_text, unpacked}
use Rattle.page_roff_stack.specs.machine.InputStacks.{frames_in, stack_of, room_for, texts_in, AreHeld, IsStack}
use Rattle.std.proofs.lemmas.Bool.{eqb-true}
use Rattle.page_core_base.specs.Texts.{has_no_control, is_no_control, IsLine}
use Rattle.page_roff_values.proofs.ArgumentLemmas.{last_of}
use Rattle.page_roff_stack.specs.declared.spans.Span.{Span}
use Rattle.page_roff_blocks.specs.laws.Views.{BlockCursor, at_line}
use Rattle.page_roff_blocks.specs.Forest.{outside}
use Rattle.page_roff_syntax.specs.Regions.{Opened}
use Rattle.page_roff_blocks.specs.machine.Steps.{line_end, Meaning}
use Rattle.page_roff_stack.specs.declared.source_kinds.SourceKind.{SourceKind}
use Rattle.page_roff_stack.specs.declared.source_kinds.SourceKind.TheVariants as sources
use Rattle.page_roff_blocks.specs.declared.line_parts.LinePart.{LinePart}
use Rattle.page_roff_blocks.specs.machine.Machine as machine
use Rattle.page_roff_blocks.specs.declared.block_cursors.Pass.TheVariants as passes

turn_kind_of : (turning : Option Turning) (f : Frame) → (in_turn_of turning f).kind ≡ f.kind
unfolding turned
turn_kind_of None f = refl
turn_kind_of (Some t) f = refl

pub went_kind : (movement : Movement) (f : Frame) → (went movement f).kind ≡ f.kind
unfolding at_part
went_kind moves.Turn f = turn_kind_of f.turning f
went_kind _ f = refl

-- the innermost source changes, but not what it is
pub top_held : (a : Inside) (top : InputFrame) (text : List ℕ) → text ≡ a.text.items → IsHeld top text → (frame_of top text).kind ≡ (frame_of a.top text).kind → IsStack a
    → IsStack (record a { top = top })
top_held a top text t held kind h = grind arith

-- ---- whether one more macro may run

pub may_call_is : (under : List Frame) (n : ℕ) → n ≡ length under → nat_lt n CALLS ≡ is_some (depth under)
unfolding depth is_some
may_call_is under n e = grind (arith, nat_tests)

-- ---- the sources around the innermost one

frames_len : (text : List ℕ) (callers : List Caller) → length (frames_in text callers) ≡ length callers
frames_len text [] = refl
frames_len text (c ∷ cs) = ap suc (frames_len (take c.end text) cs)

pub under_len : (a : Inside) → length (stack_of a).under ≡ length a.callers.items
under_len a = frames_len a.text.items (reverse a.callers.items) ∙ length-reverse a.callers.items

empty_of : {X : Type 0} (xs : List X) → length xs ≡ 0 → xs ≡ []
empty_of [] e = refl
empty_of (x ∷ xs) e = absurd (omega (arith, e))

pub none_around : (a : Inside) (n : ℕ) → n ≡ length a.callers.items → (n == 0) ≡ true → (stack_of a).under ≡ []
none_around a n e t = grind (arith, empty_of, under_len)

pub some_around : (a : Inside) (n : ℕ) → n ≡ length a.callers.items → (n == 0) ≡ false → 0 < length (stack_of a).under
some_around a n e t = grind (arith, under_len)

-- no source is around
pub callers_none : (a : Inside) → (stack_of a).under ≡ [] → a.callers.items ≡ []
callers_none a e = empty_of a.callers.items (sym (under_len a) ∙ ap length e)

pub is_room : (under : List Frame) → is_some (depth under) ≡ true → length under < CALLS
unfolding depth is_some
is_room under h = grind (arith, nat_tests)

-- one more is around
around_one : (callers : List Caller) (caller : Caller) → reverse (callers ++ (caller ∷ [])) ≡ caller ∷ reverse callers
around_one callers caller = reverse-append callers (caller ∷ [])

-- the text goes on after that of the source that calls
pub deeper : (callers : List Caller) (caller : Caller) (text more : List ℕ) → caller.end ≡ length text
    → frames_in (text ++ more) (reverse (callers ++ (caller ∷ []))) ≡ frame_of caller.source text ∷ frames_in text (reverse callers)
deeper callers caller text more e = grind (arith, around_one, take-append_seam)

pub deeper_held : (callers : List Caller) (caller : Caller) (text more : List ℕ) → caller.end ≡ length text → length more ≤ BODY + ARGS
    → IsHeld caller.source text → AreHeld text (reverse callers) → AreHeld (text ++ more) (reverse (callers ++ (caller ∷ [])))
deeper_held callers caller text more e p held around = grind (arith, length-append, around_one, take-append_seam)

deeper_texts : (callers : List Caller) (caller : Caller) (text more : List ℕ) → caller.end ≡ length text
    → texts_in (text ++ more) (reverse (callers ++ (caller ∷ []))) ≡ more ∷ texts_in text (reverse callers)
deeper_texts callers caller text more e = grind (arith, around_one, take-append_seam, drop-append_seam)

-- ---- what is held of the macros that run

-- the texts have their room
fits_in : (text : List ℕ) (callers : List Caller) → AreHeld text callers → length text ≤ room_for (length callers)
fits_in text [] h = omega (arith, h)
fits_in text (c ∷ cs) h = omega (arith, h.1, length-take-le c.end text h.0, fits_in (take c.end text) cs h.3)

pub fits : (a : Inside) → IsStack a → length a.text.items ≤ room_for (length a.callers.items)
fits a h = omega (arith, length-reverse a.callers.items, fits_in a.text.items (reverse a.callers.items) h.around)

texts_len : (text : List ℕ) (callers : List Caller) → length (texts_in text callers) ≡ length callers
texts_len text [] = refl
texts_len text (c ∷ cs) = ap suc (texts_len (take c.end text) cs)

pub texts_are : (a : Inside) → length (stack_of a).texts ≡ length a.callers.items
texts_are a = texts_len a.text.items (reverse a.callers.items) ∙ length-reverse a.callers.items

texts_each : (text : List ℕ) (callers : List Caller) → AreHeld text callers → All (λ t. length t ≤ BODY + ARGS) (texts_in text callers)
texts_each text [] h = All-nil (λ t. length t ≤ BODY + ARGS)
texts_each text (c ∷ cs) h = grind (arith, All-cons, length-drop, texts_each (take c.end text) cs h.3)

texts_short : (a : Inside) → IsStack a → All (λ t. length t ≤ BODY + ARGS) (stack_of a).texts
texts_short a h = texts_each a.text.items (reverse a.callers.items) h.around

pub texts_bytes : (a : Inside) → IsStack a → sum_by length (stack_of a).texts ≤ CALLS * (BODY + ARGS)
texts_bytes a h =
    omega (arith, sum_by-le length (BODY + ARGS) (stack_of a).texts (texts_short a h), texts_are a, h.deep)

-- ---- a line of the page

pub line_set : (a b : Inside) (line : List ℕ) → b.callers.items ≡ [] → CALLS ≤ vec_capacity b.callers → IsHeld b.top b.text.items
    → frame_of b.top b.text.items ≡ page_line line (frame_of a.top a.text.items) → length b.text.items ≤ LINE + 1 → room_for CALLS ≤ vec_capacity b.text
    → let new : Stack = record { top = page_line line (frame_of a.top a.text.items); under = []; texts = [] } in
    IsStack b × (stack_of b ≡ new)
line_set a b line none calls held frame fits room = grind (arith, fits)

-- where no source is around it, the innermost one is the page
page_kind : (kind : Kind) → is_page kind ≡ true → kind ≡ page
page_kind page e = refl
page_kind (body args) e = cc

pub page_of : (a : Inside) → a.callers.items ≡ [] → IsStack a → kind_in a.top.kind a.text.items ≡ page
page_of a none h = grind (arith, page_kind)

-- the text stays
pub line_passed : (a b : Inside) → a.callers.items ≡ [] → b.text ≡ a.text → b.callers ≡ a.callers → IsStack a → IsHeld b.top a.text.items
    → frame_of b.top a.text.items ≡ page_passed (frame_of a.top a.text.items)
    → let new : Stack = record { top = page_passed (frame_of a.top a.text.items); under = []; texts = [] } in
    IsStack b × (stack_of b ≡ new)
line_passed a b none text callers h held frame = grind (arith, fits)

-- ---- a call

pub may_be_called : (a : Inside) → is_some (depth (stack_of a).under) ≡ true → length a.callers.items < CALLS
may_be_called a h = omega (arith, is_room (stack_of a).under h, under_len a)

pub call_room : (a : Inside) → length a.callers.items < CALLS → IsStack a → length a.text.items + BODY + ARGS ≤ vec_capacity a.text
call_room a p h = omega (arith, p, fits a h, h.room)

-- one more source runs inside the innermost one, and its text comes after that of it
pub record IsCalled (a b : Inside) (caller : Caller) (more : List ℕ) : Type 0 where
  pub source : caller.source ≡ a.top
  pub end : caller.end ≡ length a.text.items
  pub callers : b.callers.items ≡ a.callers.items ++ (caller ∷ [])
  pub text : b.text.items ≡ a.text.items ++ more
  pub short : length more ≤ BODY + ARGS
  pub held : IsHeld b.top b.text.items
  pub room : room_for CALLS ≤ vec_capacity b.text
  pub calls : CALLS ≤ vec_capacity b.callers

called_under : (a b : Inside) (caller : Caller) (more : List ℕ) → IsCalled a b caller more → (stack_of b).under ≡ frame_of a.top a.text.items ∷ (stack_of a).under
called_under a b caller more c = grind (arith, deeper)

called_texts : (a b : Inside) (caller : Caller) (more : List ℕ) → IsCalled a b caller more → (stack_of b).texts ≡ more ∷ (stack_of a).texts
called_texts a b caller more c = rw (c.callers, c.text) (deeper_texts a.callers.items caller a.text.items more c.end)

pub called_stack : (a b : Inside) (caller : Caller) (text packed : List ℕ) → IsCalled a b caller (text ++ packed)
    → frame_of b.top b.text.items ≡ entered (lines_in text) (arguments_in packed) → stack_of b ≡ call_of text packed (stack_of a)
called_stack a b caller text packed c frame = rw (frame, called_under a b caller (text ++ packed) c, called_texts a b caller (text ++ packed) c) refl

pub looped_stack : (a b : Inside) (caller : Caller) (text : List ℕ) (packed : Option (List ℕ)) → IsCalled a b caller (text ++ packed_text packed)
    → frame_of b.top b.text.items ≡ looped (body (unpacked packed)) (first_text (lines_in text)) (drop 1 (lines_in text))
    → stack_of b ≡ loop_of text packed (stack_of a)
looped_stack a b caller text packed c frame = grind (arith, called_under, called_texts)

pub called_held : (a b : Inside) (caller : Caller) (more : List ℕ) → IsCalled a b caller more → length a.callers.items < CALLS → IsStack a → IsStack b
called_held a b caller more c p h = grind (arith, length-append, called_under, deeper_held)

-- ---- The lines in a text, each with a line feed at its end: helpers of proofs.

-- ---- a text without a line feed is one line, unless it is empty

pub one_line : (text : List ℕ) → ((i : ℕ) → i < length text → (get_or text i 0 == 10) ≡ false)
    → IsFirstLine (lines_in text) (take (length text) text) × (lines_in (drop (length text + 1) text) ≡ drop 1 (lines_in text))
unfolding arguments_in
one_line [] n = (tt, refl)
one_line (byte ∷ bytes) n =
    let text = byte ∷ bytes in
    let l = last_of text (omega arith) n in
    let none = drop_all (length text + 1) text (omega arith) in
    (rw l (take-length text), rw (none, l) refl)

pub no_text : lines_in [] ≡ []
unfolding arguments_in
no_text = refl

-- the only line of the page ends before the last byte
pub whole_line : (text : List ℕ) (n : ℕ) → lines_in text ≡ only_line text → n ≡ length text - 1
    → IsFirstLine (lines_in text) (take n text) × (lines_in (drop (n + 1) text) ≡ drop 1 (lines_in text))
whole_line [] n h e = (rw no_text tt, rw (drop_all {X = ℕ} (n + 1) [] (omega arith), no_text) refl)
whole_line (byte ∷ bytes) n h e = grind (arith, drop_all, no_text)

-- ---- the lines of a body are no longer than the body, and their weight is bounded

AreWithin : ℕ → List (List ℕ) → Type 0
AreWithin n [] = Unit {0}
AreWithin n (line ∷ lines) = (length line ≤ n) × AreWithin n lines

within_more : (n : ℕ) (lines : List (List ℕ)) → AreWithin n lines → AreWithin (suc n) lines
unfolding AreWithin
within_more n [] h = tt
within_more n (line ∷ lines) h = (omega (arith, h.0), within_more n lines h.1)

begun_within : (byte n : ℕ) (lines : List (List ℕ)) → AreWithin n lines → AreWithin (suc n) (begin_first byte lines)
unfolding AreWithin
begun_within byte n [] h = (omega arith, tt)
begun_within byte n (line ∷ lines) h = (omega (arith, h.0), within_more n lines h.1)

lines_within : (text : List ℕ) → AreWithin (length text) (arguments_in text)
unfolding AreWithin arguments_in
lines_within [] = tt
lines_within (byte ∷ bytes) = either (byte == 10) (arguments_in bytes) (lines_within bytes)
  where
    either : (b : Bool) (lines : List (List ℕ)) → AreWithin (length bytes) lines → AreWithin (suc (length bytes)) (if b then [] ∷ lines else begin_first byte lines)
    either true lines h = (omega arith, within_more (length bytes) lines h)
    either false lines h = begun_within byte (length bytes) lines h

short_within : (n : ℕ) (lines : List (List ℕ)) → n ≤ LINE → AreWithin n lines → AreShort lines
unfolding AreWithin
short_within n [] p h = tt
short_within n (line ∷ lines) p h = (omega (arith, h.0), short_within n lines p h.1)

pub lines_short : (text : List ℕ) → length text ≤ LINE → AreShort (lines_in text)
lines_short text p = short_within (length text) (lines_in text) p (lines_within text)

begun_weight : (byte : ℕ) (lines : List (List ℕ)) → weight (begin_first byte lines) ≤ weight lines + 9
unfolding weight
begun_weight byte [] = omega arith
begun_weight byte (line ∷ lines) = omega arith

pub lines_weight : (text : List ℕ) → weight (lines_in text) ≤ 9 * length text
unfolding weight arguments_in
lines_weight [] = omega arith
lines_weight (byte ∷ bytes) = either (byte == 10) (arguments_in bytes) (lines_weight bytes)
  where
    either : (b : Bool) (lines : List (List ℕ)) → weight lines ≤ 9 * length bytes → weight (if b then [] ∷ lines else begin_first byte lines) ≤ 9 * suc (length bytes)
    either true lines h = omega arith
    either false lines h = omega (arith, begun_weight byte lines)

-- ---- a line of the page, with a line feed after it, is one line

both_left : (a b : Bool) → (a && b) ≡ true → a ≡ true
both_left true b e = refl
both_left false b e = cc

both_right : (a b : Bool) → (a && b) ≡ true → b ≡ true
both_right true b e = e
both_right false b e = cc

pub page_line_in : (before : ℕ) (line : List ℕ) → has_no_control before line ≡ true → arguments_in (line ++ (10 ∷ [])) ≡ line ∷ []
unfolding arguments_in
page_line_in before [] e = refl
page_line_in before (byte ∷ bytes) e =
    grind (arith, nat_tests, page_line_in byte bytes (both_right (is_no_control before byte) (has_no_control byte bytes) e), both_left (is_no_control before byte) (has_no_control byte bytes) e)

-- ---- spans

pub span_len : (span : Span) (text : List ℕ) → IsSpanIn span text → length (span_text span text) ≡ span.end - span.start
span_len span text h = grind (arith, length-drop, length-take-le)

-- what is left of a span after its first bytes
pub span_drop : (start end n : ℕ) (text : List ℕ) → start + n ≤ end
    → drop n (take (end - start) (drop start text)) ≡ take (end - (start + n)) (drop (start + n) text)
span_drop start end n text p =
    let m = end - (start + n) in
    let e : end - start ≡ n + m = omega arith in
    rw e (drop-take n m (drop start text) ∙ ap (λ rest. take m rest) (drop-drop n start text))

length-take-at-most : (n : ℕ) (xs : List ℕ) → length (take n xs) ≤ n
length-take-at-most n xs = omega (arith, length-take n xs)

-- the first line and a line feed are passed, or all of the span
pub rest_before : (start end len : ℕ) (text : List ℕ) → start + len < end
    → lines_in (drop (len + 1) (take (end - start) (drop start text))) ≡ lines_in (take (end - (start + len + 1)) (drop (start + len + 1) text))
rest_before start end len text p = grind (arith, span_drop)

pub rest_none : (start end len : ℕ) (text : List ℕ) → end ≤ start + len
    → lines_in (drop (len + 1) (take (end - start) (drop start text))) ≡ lines_in (take (end - end) (drop end text))
rest_none start end len text p = grind (arith, length-take-at-most, drop_all)

-- ---- whether there is a line

pub no_lines : (text : List ℕ) → (length text == 0) ≡ true → lines_in text ≡ []
unfolding arguments_in
no_lines [] e = refl
no_lines (byte ∷ bytes) e = let k : suc (length bytes) ≡ 0 = eqb-true (suc (length bytes)) 0 e in absurd (omega arith)

begun_some : (byte : ℕ) (lines : List (List ℕ)) → 0 < length (begin_first byte lines)
begun_some byte [] = omega arith
begun_some byte (line ∷ lines) = omega arith

pub some_line : (text : List ℕ) → (length text == 0) ≡ false → 0 < length (lines_in text)
unfolding arguments_in
some_line [] e = cc
some_line (byte ∷ bytes) e = either (byte == 10) (arguments_in bytes)
  where
    either : (b : Bool) (lines : List (List ℕ)) → 0 < length (if b then [] ∷ lines else begin_first byte lines)
    either true lines = omega arith
    either false lines = begun_some byte lines

-- ---- A source that begins: helpers of proofs.

abbrev pub span : ℕ → ℕ → Span
span start end = record { start = start; end = end }

abbrev pub frame : Kind → Option Opened → BlockCursor → List (List ℕ) → Option Turning → Frame
frame kind region cursor lines turning = record { kind = kind; region = region; parts = []; cursor = cursor; lines = lines; turning = turning }

-- no line has begun, and these lines are to come, after what comes before them in the text
pub record IsNew (a : InputFrame) (all before lines : List ℕ) : Type 0 where
  pub line : a.line ≡ span 0 0
  pub place : a.place ≡ line_end
  pub ahead : a.ahead ≡ None
  pub lines_are : a.lines ≡ span (length before) (length (before ++ lines))
  pub front : take (length lines) (drop (length before) all) ≡ lines
  pub within : length (before ++ lines) ≤ length all
  pub arguments : AreArgumentsIn a.kind all
  pub turns : AreTurnsIn a.kind a.turning all

length_after : (before lines : List ℕ) → length (before ++ lines) - length before ≡ length lines
length_after before lines = omega (arith, length-append before lines)

new_view : (a : InputFrame) (all before lines : List ℕ) → IsNew a all before lines → frame_of a all ≡ frame (kind_in a.kind all) a.region a.cursor (lines_in lines) (turning_in a.turning all)
new_view a all before lines h = grind (arith, length_after)

new_held : (a : InputFrame) (all before lines : List ℕ) → IsNew a all before lines → AreLinesOf a.kind lines → IsBounded (frame_of a all) → IsHeld a all
new_held a all before lines h o b =
    record {
      line = rw h.line (omega arith, omega arith);
      short = rw h.line (omega arith);
      place = rw h.place tt;
      ahead = rw h.ahead tt;
      lines = rw h.lines_are (omega (arith, length-append before lines), h.within);
      only = rw (h.lines_are, length_after before lines, h.front) o;
      arguments = h.arguments;
      turns = h.turns;
      bounds = b;
    }

pub new_of : (a : InputFrame) (all before lines more : List ℕ) → all ≡ (before ++ lines) ++ more → a.line ≡ span 0 0 → a.place ≡ line_end → a.ahead ≡ None
    → a.lines ≡ span (length before) (length (before ++ lines)) → AreArgumentsIn a.kind all → AreTurnsIn a.kind a.turning all → IsNew a all before lines
new_of a all before lines more e l p k n h t =
    record {
      line = l;
      place = p;
      ahead = k;
      lines_are = n;
      front = ap (λ text. take (length lines) (drop (length before) text)) (e ∙ append_assoc before lines more)
          ∙ ap (λ text. take (length lines) text) (drop-append_seam before (lines ++ more)) ∙ take-append_seam lines more;
      within = omega (arith, ap length e, length-append (before ++ lines) more);
      arguments = h;
      turns = t;
    }

-- ---- a line of the page

line_bounded : (region : Option Opened) (cursor : BlockCursor) (line : List ℕ) → length line ≤ LINE → cursor.levels.skipped < 2 ^ 62 → IsBounded (frame page region cursor (line ∷ []) None)
unfolding work_in weight
line_bounded region cursor line p s = record { short = (p, tt); skips = omega arith }

line_view : (a : InputFrame) (all line : List ℕ) → IsLine line → IsNew a all [] (line ++ (10 ∷ [])) → a.kind ≡ sources.Page → a.turning ≡ None → frame_of a all ≡ frame page a.region a.cursor (line ∷ []) None
line_view a all line h n e t = grind (arith, new_view, page_line_in)

line_only : (line : List ℕ) → only_line (line ++ (10 ∷ [])) ≡ line ∷ []
line_only [] = refl
line_only (byte ∷ bytes) =
    let n : length (bytes ++ (10 ∷ [])) ≡ suc (length bytes) = omega (arith, length-append bytes (10 ∷ [])) in
    rw n (ap (λ text. text ∷ []) (take-append_seam (byte ∷ bytes) (10 ∷ [])))

-- a line of the page is to come
pub page_set : (a : InputFrame) (all line : List ℕ) → IsLine line → IsNew a all [] (line ++ (10 ∷ [])) → a.kind ≡ sources.Page → a.turning ≡ None → a.cursor.levels.skipped < 2 ^ 62
    → IsHeld a all × (frame_of a all ≡ frame page a.region a.cursor (line ∷ []) None)
page_set a all line h n e t s = grind (arith, line_view, page_line_in, line_only, new_held, line_bounded)

-- ---- a macro

body_bounded : (kind : Kind) (region : Option Opened) (text : List ℕ) → length text ≤ BODY → (turning : Option Turning) → IsBounded (frame kind region (at_line outside) (lines_in text) turning)
unfolding work_in at_line outside
body_bounded kind region text p turning = record { short = lines_short text (omega (arith, p)); skips = omega (arith, lines_weight text, p) }

body_view : (a : InputFrame) (all before text args : List ℕ) → IsNew a all before text → a.kind ≡ sources.Body (Some (length (before ++ text)))
    → drop (length (before ++ text)) all ≡ args → a.region ≡ None → a.cursor ≡ at_line outside → a.turning ≡ None
    → frame_of a all ≡ entered (lines_in text) (arguments_in args)
unfolding entered
body_view a all before text args n e d r s t = grind (arith, new_view)

-- a macro begins
pub body_set : (a : InputFrame) (all before text args : List ℕ) → IsNew a all before text → a.kind ≡ sources.Body (Some (length (before ++ text)))
    → drop (length (before ++ text)) all ≡ args → a.region ≡ None → a.cursor ≡ at_line outside → a.turning ≡ None → length text ≤ BODY
    → IsHeld a all × (frame_of a all ≡ entered (lines_in text) (arguments_in args))
unfolding entered
body_set a all before text args n e d r s t p =
    let view = body_view a all before text args n e d r s t in
    (new_held a all before text n (rw e tt) (rw view (body_bounded (body (Some (arguments_in args))) None text p None)), view)

-- nothing has come
empty_bounded : (kind : Kind) (turning : Option Turning) → IsBounded (frame kind None (at_line outside) [] turning)
unfolding work_in weight at_line outside
empty_bounded kind turning = record { short = tt; skips = omega arith }

empty_only : lines_in [] ≡ only_line []
unfolding arguments_in
empty_only = refl

-- the page, before its first line
pub empty_set : (a : InputFrame) → a.kind ≡ sources.Page → a.line ≡ span 0 0 → a.place ≡ line_end → a.ahead ≡ None → a.lines ≡ span 0 0 → a.region ≡ None → a.cursor ≡ at_line outside
    → a.turning ≡ None → IsHeld a [] × (frame_of a [] ≡ frame page None (at_line outside) [] None)
unfolding arguments_in
empty_set a e l p k n r s t = grind (arith, new_of, new_view, new_held, empty_only, empty_bounded)

-- the page between two lines
place_bounded : (region : Option Opened) (cursor : BlockCursor) → cursor.levels.skipped < 2 ^ 62 → IsBounded (frame page region cursor [] None)
unfolding work_in weight
place_bounded region cursor s = record { short = tt; skips = omega (arith, s) }

pub place_set : (a : InputFrame) (all : List ℕ) → a.kind ≡ sources.Page → a.line ≡ span 0 0 → a.place ≡ line_end → a.ahead ≡ None → a.lines ≡ span 0 0
    → a.turning ≡ None → a.cursor.levels.skipped < 2 ^ 62 → IsHeld a all × (frame_of a all ≡ frame page a.region a.cursor [] None)
unfolding arguments_in
place_set a all e l p k n t s = grind (arith, new_of, new_view, new_held, empty_only, place_bounded)

pub page_none : (kind : SourceKind) (text : List ℕ) → kind_in kind text ≡ page → kind ≡ sources.Page
page_none sources.Page text e = refl
page_none (sources.Body arguments) text e = cc

-- ---- a loop

abbrev pub unturned : List ℕ → List (List ℕ) → Turning
unturned condition lines = record { condition = condition; lines = lines; left = TURNS; begun = false }

-- a loop begins: nothing of it is to come before its first turn
pub loop_set : (a : InputFrame) (all condition : List ℕ) (lines : List (List ℕ)) (args : Option (List (List ℕ))) → IsNew a all [] []
    → kind_in a.kind all ≡ body args → AreLinesOf a.kind [] → a.region ≡ None → a.cursor ≡ at_line outside
    → turning_in a.turning all ≡ Some (unturned condition lines) → IsHeld a all × (frame_of a all ≡ looped (body args) condition lines)
unfolding looped inner
loop_set a all condition lines args n e o r s t = grind (arith, new_view, no_text, new_held, empty_bounded)

-- ---- What comes next in the sources that run: helpers of proofs.

turn_step : {S : Type 0} (l : Language S) (t : Turning) (n : ℕ) (b : Bool) (f g : Frame) (gs : List Frame) (s : S) → f.turning ≡ Some t → t.left ≡ suc n
    → Some (machine.turn_if l b f.kind t n g gs s) ≡ turn_if b f (g ∷ gs) s
unfolding machine.turn_if
turn_step l t n true f g gs s e h = let k : t.left - 1 ≡ n = omega arith in rw (e, k) refl
turn_step l t n false f g gs s e h = refl

turns_step : {S : Type 0} (l : Language S) (m : Meaning S) (t : Turning) (left : ℕ) (region : Option Opened) (parts : List (LinePart (List ℕ))) (lines : List (List ℕ)) (f g : Frame) (gs : List Frame) (s : S)
    → f.turning ≡ Some t → t.left ≡ left
    → Some (machine.turn_next l left f.kind t g gs (machine.finish_if l t.begun (end_of region f s))) ≡ step_in l m (turn_or_end (turn_left left t.condition) region t.begun) parts lines f (g ∷ gs) s
unfolding step_in machine.turn_next
turns_step l m t zero region parts lines f g gs s e h = refl
turns_step l m t (suc n) region parts lines f g gs s e h = grind (arith, turn_step)

end_step : {S : Type 0} (l : Language S) (m : Meaning S) (turning : Option Turning) (region : Option Opened) (parts : List (LinePart (List ℕ))) (lines : List (List ℕ)) (f g : Frame) (gs : List Frame) (s : S)
    → f.turning ≡ turning
    → Some (machine.body_next l turning f.kind g gs (end_of region f s)) ≡ step_in l m (turn_or_end (turn_in turning) region (has_begun turning)) parts lines f (g ∷ gs) s
unfolding step_in machine.body_next machine.finish_if
end_step l m None region parts lines f g gs s e = refl
end_step l m (Some t) region parts lines f g gs s e = turns_step l m t t.left region parts lines f g gs s e refl

step_around : {S : Type 0} (l : Language S) (m : Meaning S) (region : Option Opened) (parts : List (LinePart (List ℕ))) (lines : List (List ℕ)) (f : Frame) (under : List Frame) (s : S)
    → machine.source_next l f.turning f.kind under (end_of region f s) ≡ step_in l m (next_around f.turning region under) parts lines f under s
unfolding step_in machine.source_next
step_around l m region parts lines f [] s = refl
step_around l m region parts lines f (g ∷ gs) s = end_step l m f.turning region parts lines f g gs s refl

steps : {S : Type 0} (l : Language S) (m : Meaning S) (region : Option Opened) (parts : List (LinePart (List ℕ))) (lines : List (List ℕ)) (f : Frame) (under : List Frame) (s : S)
    → machine.next_in l m region parts lines f under s ≡ step_in l m (next_in f.turning region parts lines under) parts lines f under s
unfolding step_in machine.next_in
steps l m None (part ∷ more) lines f under s = refl
steps l m None [] (line ∷ more) f under s = refl
steps l m None [] [] f under s = step_around l m None [] [] f under s
steps l m (Some o) parts (line ∷ more) f under s = refl
steps l m (Some o) parts [] f under s = step_around l m (Some o) parts [] f under s

pub next_steps : {S : Type 0} (l : Language S) (s : Stack) (state : S) → machine.next l (running s state) ≡ step_of l (next_of s) s state
unfolding machine.next step_of
next_steps l s state = steps l (meaning_at l (depth s.under) s.top.kind) s.top.region s.top.parts s.top.lines s.top s.under state

-- ---- what is there, as what comes next says

around_part : (turning : Option Turning) (region : Option Opened) (under : List Frame) → is_part (next_around turning region under) ≡ true → ⊥
around_part turning region [] e = cc
around_part turning region (f ∷ fs) e = end_part (turn_in turning) e
  where
    end_part : (turn : Option (List ℕ)) → is_part (turn_or_end turn region (has_begun turning)) ≡ true → ⊥
    end_part None e = cc
    end_part (Some condition) e = cc

-- a part comes next: it is the first of those that are left
pub part_there : (turning : Option Turning) (region : Option Opened) (parts : List (LinePart (List ℕ))) (lines : List (List ℕ)) (under : List Frame)
    → let next = next_in turning region parts lines under in
    is_part next ≡ true
    → 0 < length parts
part_there turning None (part ∷ more) lines under e = omega arith
part_there turning None [] (line ∷ more) under e = cc
part_there turning None [] [] under e = absurd (around_part turning None under e)
part_there turning (Some o) parts (line ∷ more) under e = cc
part_there turning (Some o) parts [] under e = absurd (around_part turning (Some o) under e)

not_nothing : (turn : Option (List ℕ)) (region : Option Opened) (begun : Bool) → false ≡ is_nothing (turn_or_end turn region begun)
not_nothing None region begun = refl
not_nothing (Some condition) region begun = refl

around_nothing : (turning : Option Turning) (region : Option Opened) (under : List Frame) → is_nothing (next_around turning region under) ≡ true → under ≡ []
around_nothing turning region [] e = refl
around_nothing turning region (f ∷ fs) e = let n = not_nothing (turn_in turning) region (has_begun turning) in cc

pub nothing_there : (turning : Option Turning) (region : Option Opened) (parts : List (LinePart (List ℕ))) (lines : List (List ℕ)) (under : List Frame)
    → is_nothing (next_in turning region parts lines under) ≡ true → under ≡ []
nothing_there turning None (part ∷ more) lines under e = cc
nothing_there turning None [] (line ∷ more) under e = cc
nothing_there turning None [] [] under e = around_nothing turning None under e
nothing_there turning (Some o) parts (line ∷ more) under e = cc
nothing_there turning (Some o) parts [] under e = around_nothing turning (Some o) under e

-- where no source is around the innermost one, the page's line is done once nothing is left of it
pub alone_over : (turning : Option Turning) (region : Option Opened) (parts : List (LinePart (List ℕ))) (lines : List (List ℕ)) (under : List Frame) → under ≡ []
    → ends_with region parts lines ≡ is_nothing (next_in turning region parts lines under)
alone_over turning None [] [] under e = rw e refl
alone_over turning None [] (line ∷ more) under e = refl
alone_over turning None (part ∷ more) lines under e = refl
alone_over turning (Some o) parts [] under e = rw e refl
alone_over turning (Some o) parts (line ∷ more) under e = refl

pub something_around : (turning : Option Turning) (region : Option Opened) (parts : List (LinePart (List ℕ))) (lines : List (List ℕ)) (under : List Frame) → 0 < length under
    → false ≡ is_nothing (next_in turning region parts lines under)
something_around turning region parts lines [] h = absurd (omega arith)
something_around turning None [] [] (f ∷ fs) h = not_nothing (turn_in turning) None (has_begun turning)
something_around turning None [] (line ∷ more) (f ∷ fs) h = refl
something_around turning None (part ∷ more) lines (f ∷ fs) h = refl
something_around turning (Some o) parts [] (f ∷ fs) h = not_nothing (turn_in turning) (Some o) (has_begun turning)
something_around turning (Some o) parts (line ∷ more) (f ∷ fs) h = refl

pub end_around : (turning : Option Turning) (turn : Option (List ℕ)) (region : Option Opened) (under : List Frame) → 0 < length under → turn ≡ turn_in turning
    → turn_or_end turn region (has_begun turning) ≡ next_around turning region under
end_around turning turn region [] h e = absurd (omega arith)
end_around turning turn region (f ∷ fs) h e = rw e refl

-- whether a line begins next does not depend on the sources around
not_line : (turn : Option (List ℕ)) (region : Option Opened) (begun : Bool) → false ≡ is_line (turn_or_end turn region begun)
not_line None region begun = refl
not_line (Some condition) region begun = refl

pub line_next : (turning : Option Turning) (region : Option Opened) (parts : List (LinePart (List ℕ))) (lines : List (List ℕ)) (under : List Frame)
    → begins_next region parts lines ≡ is_line (next_in turning region parts lines under)
line_next turning None (part ∷ more) lines under = refl
line_next turning None [] (line ∷ more) under = refl
line_next turning None [] [] [] = refl
line_next turning None [] [] (f ∷ fs) = not_line (turn_in turning) None (has_begun turning)
line_next turning (Some o) parts (line ∷ more) under = refl
line_next turning (Some o) parts [] [] = refl
line_next turning (Some o) parts [] (f ∷ fs) = not_line (turn_in turning) (Some o) (has_begun turning)

-- a movement for what comes next is one that the innermost source may make
pub may_go : (movement : Movement) (s : Stack) → Suits movement (next_of s) → MayGo movement s.top
may_go (moves.Part passes.Leaf) s h = tt
may_go (moves.Part (passes.Guard answer)) s h = tt
may_go (moves.Part (passes.Block answer)) s h = part_there s.top.turning s.top.region s.top.parts s.top.lines s.under h
may_go (moves.Part (passes.Loop is_run)) s h = part_there s.top.turning s.top.region s.top.parts s.top.lines s.under h
may_go (moves.Part passes.End) s h = tt
may_go (moves.Region is_run) s h = tt
may_go moves.Line s h = line_next s.top.turning s.top.region s.top.parts s.top.lines s.under ∙ h
may_go moves.RegionLine s h = tt
may_go moves.RegionEnd s h = tt
may_go moves.Turn s h = tt
