-- The part of a line that comes next, read ahead: the code's own form of it. Trust needs no reading of it.
use Rattle.std.specs.Prelude.{◌≡◌, List, ℕ, drop, Option, Some, None, ◌+◌, ◌-◌, ◌≤◌, ◌<◌, ◌^◌, Bool, true, false, [], ◌∷◌, length, take, zero, suc, ◌++◌}
use Rattle.page_roff_blocks.specs.declared.line_places.LinePlace.{LinePlace}
use Rattle.page_roff_blocks.specs.machine.Steps.{parts_at, IsPlaceIn, is_block, Meaning, At}
use Rattle.page_core_base.specs.Limits.{LINE, ARGS, BODY}
use Rattle.page_roff_blocks.specs.declared.line_parts.LinePart.{LinePart}
use Rattle.page_roff_blocks.specs.declared.line_parts.LinePart.TheVariants.{Region}
use Rattle.page_roff_blocks.specs.declared.block_cursors.Pass.{Pass}
use Rattle.page_roff_blocks.specs.declared.block_cursors.Pass.TheVariants as passes
use Rattle.page_roff_blocks.specs.Parts.{line_parts}
use Rattle.page_roff_blocks.specs.Forest.{SourcePlace, outside}
use Rattle.page_roff_blocks.specs.laws.Views.{BlockCursor, after_part, at_line, passed, line_part_view, FitsLinePart}
use Rattle.page_roff_syntax.specs.Regions.{Opened, opened, is_ending}
use Rattle.page_roff_blocks.specs.machine.Languages.{Kind, page, body, Language, meaning_at}
use Rattle.page_roff_blocks.specs.machine.Machine.{Frame, Turning, turned, at_part, Running, depth, entered, looped, finish_if, part_next, line_next, region_next, work_in}
use Rattle.page_roff_stack.specs.declared.movements.Movement.{Movement}
use Rattle.page_roff_stack.specs.declared.movements.Movement.TheVariants as moves
use Rattle.page_roff_values.specs.Values.{arguments_in, lines_in}
use Rattle.page_roff_stack.specs.declared.source_kinds.SourceKind.{SourceKind}
use Rattle.page_roff_stack.specs.declared.source_kinds.SourceKind.TheVariants as sources
use Rattle.page_roff_stack.specs.declared.spans.Span.{Span}
use Rattle.page_roff_stack.specs.declared.turns.Turns.{Turns}
use Rattle.page_roff_stack.specs.declared.input_frames.InputFrame.{InputFrame}
use Rattle.std.specs.Borrow.{Bor}
use Rattle.page_roff_syntax.specs.laws.Views.{opened_view}
use Rattle.page_roff_stack.specs.declared.next.Next.{Next}
use Rattle.page_roff_stack.specs.declared.next.Next.TheVariants.{Part, Line, RegionLine, Turn, SourceEnd, Nothing}

-- the second place in a line is the one after the part that comes next at the first
pub record IsAfter (line : List ℕ) (place after : LinePlace) : Type 0 where
  pub next : parts_at line after ≡ drop 1 (parts_at line place)
  pub within : IsPlaceIn line after

-- if it is known
abbrev pub IsAfterIn : List ℕ → LinePlace → Option LinePlace → Type 0
IsAfterIn line place None = Unit {0}
IsAfterIn line place (Some after) = IsAfter line place after

-- ---- What becomes of a source that is being run as its parts and lines are passed, as the steps of the code have it. Trust needs no reading of it.
-- Source: roff(7), "Macros".

-- the page before its first line
abbrev pub first_frame : Frame
first_frame = record { kind = page; region = None; parts = []; cursor = at_line outside; lines = []; turning = None }

-- the page between two lines, where it is so
abbrev pub page_at : SourcePlace → Frame
page_at p = record { kind = page; region = p.region; parts = []; cursor = at_line p.levels; lines = []; turning = None }

-- whether a line begins next, outside of regions
abbrev pub begins_next : Option Opened → List (LinePart (List ℕ)) → List (List ℕ) → Bool
begins_next None [] (line ∷ more) = true
begins_next None [] [] = false
begins_next None (part ∷ more) lines = false
begins_next (Some o) parts lines = false

abbrev pub begins_line : Frame → Bool
begins_line f = begins_next f.region f.parts f.lines

-- whether nothing is left
abbrev pub ends_with : Option Opened → List (LinePart (List ℕ)) → List (List ℕ) → Bool
ends_with None [] [] = true
ends_with None [] (line ∷ more) = false
ends_with None (part ∷ more) lines = false
ends_with (Some o) parts [] = true
ends_with (Some o) parts (line ∷ more) = false

abbrev pub is_over : Frame → Bool
is_over f = ends_with f.region f.parts f.lines

-- a line of the page is to come
abbrev pub page_line : List ℕ → Frame → Frame
page_line line f =
    record { kind = page; region = f.region; parts = []; cursor = at_line f.cursor.levels; lines = line ∷ []; turning = None }

-- a line of the page came that is one part, and was passed
abbrev pub page_passed : Frame → Frame
page_passed f =
    record { kind = page; region = f.region; parts = []; cursor = after_part f.cursor.levels; lines = []; turning = None }

-- the part that comes next is passed, and this is the cursor after it
abbrev pub past : BlockCursor → Frame → Frame
past cursor f = at_part f (drop 1 f.parts) cursor

-- the region of the head that comes first
abbrev pub region_of : Bool → LinePart (List ℕ) → Option Opened
region_of is_run (Region head) = Some (opened head is_run)
region_of is_run _ = None

abbrev pub first_region : Bool → List (LinePart (List ℕ)) → Option Opened
first_region is_run [] = None
first_region is_run (part ∷ more) = region_of is_run part

-- the head of a region is passed, and its line with it
abbrev pub in_region : Option Opened → Frame → Frame
in_region region f =
    record { kind = f.kind; region = region; parts = []; cursor = at_line f.cursor.levels; lines = f.lines; turning = f.turning }

-- the line that comes next begins with these parts, in this region
abbrev pub next_line : Option Opened → List (LinePart (List ℕ)) → Frame → Frame
next_line region parts f =
    record { kind = f.kind; region = region; parts = parts; cursor = at_line f.cursor.levels; lines = drop 1 f.lines; turning = f.turning }

abbrev pub first_line_parts : List (List ℕ) → List (LinePart (List ℕ))
first_line_parts [] = []
first_line_parts (line ∷ more) = line_parts line

-- a turn of a loop begins: all lines of its body are to come
abbrev pub in_turn_of : Option Turning → Frame → Frame
in_turn_of None f = f
in_turn_of (Some t) f = turned f.kind t (t.left - 1)

abbrev pub in_turn : Frame → Frame
in_turn f = in_turn_of f.turning f

abbrev pub is_page : Kind → Bool
is_page page = true
is_page (body args) = false

-- what comes next is passed
abbrev pub went : Movement → Frame → Frame
went (moves.Part pass) f = past (passed pass f.cursor) f
went (moves.Region is_run) f = in_region (first_region is_run f.parts) f
went moves.Line f = next_line None (first_line_parts f.lines) f
went moves.RegionLine f = next_line f.region [] f
went moves.RegionEnd f = next_line None [] f
went moves.Turn f = in_turn f

-- a part comes next
abbrev pub HasPart : Frame → Type 0
HasPart f = 0 < length f.parts

-- this holds, where a block is entered
abbrev pub IfEnters : Pass → Type 0 → Type 0
IfEnters passes.Leaf P = Unit {0}
IfEnters (passes.Guard answer) P = Unit {0}
IfEnters (passes.Block answer) P = P
IfEnters (passes.Loop is_run) P = P
IfEnters passes.End P = Unit {0}

-- a block is entered by a part, and a line begins where one comes next
abbrev pub MayGo : Movement → Frame → Type 0
MayGo (moves.Part pass) f = IfEnters pass (HasPart f)
MayGo moves.Line f = begins_line f ≡ true
MayGo _ f = Unit {0}

-- ---- within bounds

abbrev pub AreShort : List (List ℕ) → Type 0
AreShort [] = Unit {0}
AreShort (line ∷ lines) = (length line ≤ LINE) × AreShort lines

-- lines are short enough, and few enough that the count of skipped blocks is not too large
pub record IsBounded (f : Frame) : Type 0 where
  pub short : AreShort f.lines
  pub skips : f.cursor.levels.skipped + work_in f < 2 ^ 63

-- ---- How the code holds a source: places in its text. Trust needs no reading of it.

abbrev pub span_text : Span → List ℕ → List ℕ
span_text span text = take (span.end - span.start) (drop span.start text)

abbrev pub IsSpanIn : Span → List ℕ → Type 0
IsSpanIn span text = (span.start ≤ span.end) × (span.end ≤ length text)

-- the arguments of a macro are at the end of the text, from here on
abbrev pub arguments_at : Option ℕ → List ℕ → Option (List (List ℕ))
arguments_at None text = None
arguments_at (Some start) text = Some (arguments_in (drop start text))

abbrev pub kind_in : SourceKind → List ℕ → Kind
kind_in sources.Page text = page
kind_in (sources.Body arguments) text = body (arguments_at arguments text)

abbrev pub AreArgumentsAt : Option ℕ → List ℕ → Type 0
AreArgumentsAt None text = Unit {0}
AreArgumentsAt (Some start) text = (start ≤ length text) × (length text ≤ start + ARGS)

abbrev pub AreArgumentsIn : SourceKind → List ℕ → Type 0
AreArgumentsIn sources.Page text = Unit {0}
AreArgumentsIn (sources.Body arguments) text = AreArgumentsAt arguments text

-- all of a text but its last byte is one line
abbrev pub only_line : List ℕ → List (List ℕ)
only_line [] = []
only_line (byte ∷ bytes) = take (length bytes) (byte ∷ bytes) ∷ []

-- a text holds the lines of a source: the page has one line at most, with a line feed at its end
abbrev pub AreLinesOf : SourceKind → List ℕ → Type 0
AreLinesOf sources.Page text = lines_in text ≡ only_line text
AreLinesOf (sources.Body arguments) text = Unit {0}

-- a text is the first of these lines, if there is one
abbrev pub IsFirstLine : List (List ℕ) → List ℕ → Type 0
IsFirstLine [] text = Unit {0}
IsFirstLine (line ∷ lines) text = text ≡ line

-- the first of some lines begins where they do, and the others end where they do
pub record IsCut (lines first others : Span) : Type 0 where
  pub begins : first.start ≡ lines.start
  pub first_within : first.end ≤ lines.end
  pub others_within : lines.start ≤ others.start
  pub ends : others.end ≡ lines.end

-- ---- the turns of a loop

abbrev pub turns_of : Turns → List ℕ → Turning
turns_of t text =
    record { condition = span_text t.condition text; lines = lines_in (span_text t.lines text); left = t.left; begun = t.begun }

abbrev pub turning_in : Option Turns → List ℕ → Option Turning
turning_in None text = None
turning_in (Some t) text = Some (turns_of t text)

-- the condition and the lines of the body lie in the text of a source of this kind, and are not too long
pub record AreTurns (kind : SourceKind) (t : Turns) (text : List ℕ) : Type 0 where
  pub condition : IsSpanIn t.condition text
  pub lines : IsSpanIn t.lines text
  pub only : AreLinesOf kind (span_text t.lines text)
  pub short : t.condition.end ≤ t.condition.start + BODY
  pub bounded : t.lines.end ≤ t.lines.start + BODY

abbrev pub AreTurnsIn : SourceKind → Option Turns → List ℕ → Type 0
AreTurnsIn kind None text = Unit {0}
AreTurnsIn kind (Some t) text = AreTurns kind t text

-- ---- A source that is being run, as the code holds it: places in a text that holds its lines, each with a line feed at its end, and after them the
-- arguments of a macro. Trust needs no reading of it.

abbrev pub frame_of : InputFrame → List ℕ → Frame
frame_of a text = record {
  kind = kind_in a.kind text;
  region = a.region;
  parts = parts_at (span_text a.line text) a.place;
  cursor = a.cursor;
  lines = lines_in (span_text a.lines text);
  turning = turning_in a.turning text;
}

-- the places of a source lie in this text
pub record IsHeld (a : InputFrame) (text : List ℕ) : Type 0 where
  pub line : IsSpanIn a.line text
  pub short : a.line.end ≤ a.line.start + LINE
  pub place : IsPlaceIn (span_text a.line text) a.place
  pub ahead : IsAfterIn (span_text a.line text) a.place a.ahead
  pub lines : IsSpanIn a.lines text
  pub only : AreLinesOf a.kind (span_text a.lines text)
  pub arguments : AreArgumentsIn a.kind text
  pub turns : AreTurnsIn a.kind a.turning text
  pub bounds : IsBounded (frame_of a text)

-- ---- What the code lends of a source, with what its texts hold. Trust needs no reading of it.

-- arguments as they are packed, each with a line feed at its end, where there are some
abbrev pub unpacked : Option (List ℕ) → Option (List (List ℕ))
unpacked None = None
unpacked (Some packed) = Some (arguments_in packed)

-- what is held of them
abbrev pub packed_text : Option (List ℕ) → List ℕ
packed_text None = []
packed_text (Some packed) = packed

-- a part as a list of one
abbrev pub parts_view : Option (LinePart (Bor (List ℕ))) → List (LinePart (List ℕ))
parts_view None = []
parts_view (Some part) = line_part_view part ∷ []

-- the first of these lines, if there is one, which is short enough
abbrev pub IsNextLine : List (List ℕ) → Option (List ℕ) → Type 0
IsNextLine lines None = lines ≡ []
IsNextLine [] (Some text) = [] ≡ text ∷ []
IsNextLine (line ∷ lines) (Some text) = (text ≡ line) × (length text ≤ LINE)

abbrev pub next_view : Next (Bor (List ℕ)) (Bor Opened) → Next (List ℕ) Opened
next_view (Part part) = Part (line_part_view part)
next_view (Line line) = Line line.now
next_view (RegionLine region line is_end) = RegionLine region.now line.now is_end
next_view (Turn region begun condition) = Turn (opened_view region) begun condition.now
next_view (SourceEnd region begun) = SourceEnd (opened_view region) begun
next_view Nothing = Nothing

-- texts lie within a line
abbrev pub FitsNext : Next (List ℕ) Opened → Type 0
FitsNext (Part part) = FitsLinePart part
FitsNext (Line line) = length line ≤ LINE
FitsNext (RegionLine region line is_end) = length line ≤ LINE
FitsNext (Turn region begun condition) = length condition ≤ LINE
FitsNext _ = Unit {0}

-- ---- The input stack, as the code goes through it: the sources that run, one inside another, and what comes next in them. Trust needs no reading
-- of it. Source: mandoc(1), "input stack limit"; roff(7), "Macros".

-- The innermost source, and those around it from the inside out; and the body with the arguments of each macro or loop that runs, from the
-- inside out. These texts say how much is held, and decide nothing that comes.
pub record Stack : Type 0 where
  pub top : Frame
  pub under : List Frame
  pub texts : List (List ℕ)

-- the sources with a state
abbrev pub running : {S : Type 0} → Stack → S → Running S
running s state = record { top = s.top; under = s.under; state = state }

-- the page before its first line
abbrev pub first_stack : Stack
first_stack = record { top = first_frame; under = []; texts = [] }

-- the page between two lines, where it is so
abbrev pub stack_at : SourcePlace → Stack
stack_at p = record { top = page_at p; under = []; texts = [] }

-- where the innermost source is
abbrev pub standing_of : Stack → SourcePlace
standing_of s = record { region = s.top.region; levels = s.top.cursor.levels }

abbrev pub with_top : Frame → Stack → Stack
with_top f s = record { top = f; under = s.under; texts = s.texts }

-- a macro begins, with this body and these arguments
abbrev pub call_of : List ℕ → List ℕ → Stack → Stack
call_of text packed s =
    record { top = entered (lines_in text) (arguments_in packed); under = s.top ∷ s.under; texts = (text ++ packed) ∷ s.texts }

-- the first of these texts, or an empty one
abbrev pub first_text : List (List ℕ) → List ℕ
first_text [] = []
first_text (text ∷ texts) = text

-- A loop begins, with this text and the packed arguments of the macro in which it is, if it is in one. The first line of the text is
-- its condition, and the others are those of its body.
abbrev pub loop_of : List ℕ → Option (List ℕ) → Stack → Stack
loop_of text packed s =
    record {
      top = looped (body (unpacked packed)) (first_text (lines_in text)) (drop 1 (lines_in text));
      under = s.top ∷ s.under;
      texts = (text ++ packed_text packed) ∷ s.texts;
    }

-- ---- what comes next

-- a source was begun: a loop is by its first turn
abbrev pub has_begun : Option Turning → Bool
has_begun None = true
has_begun (Some t) = t.begun

-- the condition of a loop that may have one more turn
abbrev pub turn_left : ℕ → List ℕ → Option (List ℕ)
turn_left zero condition = None
turn_left (suc left) condition = Some condition

abbrev pub turn_in : Option Turning → Option (List ℕ)
turn_in None = None
turn_in (Some t) = turn_left t.left t.condition

-- nothing is left of the innermost source
abbrev pub turn_or_end : Option (List ℕ) → Option Opened → Bool → Next (List ℕ) Opened
turn_or_end None region begun = SourceEnd region begun
turn_or_end (Some condition) region begun = Turn region begun condition

abbrev pub next_around : Option Turning → Option Opened → List Frame → Next (List ℕ) Opened
next_around turning region [] = Nothing
next_around turning region (f ∷ fs) = turn_or_end (turn_in turning) region (has_begun turning)

abbrev pub next_in : Option Turning → Option Opened → List (LinePart (List ℕ)) → List (List ℕ) → List Frame → Next (List ℕ) Opened
next_in turning None (part ∷ more) lines under = Part part
next_in turning None [] (line ∷ more) under = Line line
next_in turning None [] [] under = next_around turning None under
next_in turning (Some o) parts (line ∷ more) under = RegionLine o line (is_ending o.ending line)
next_in turning (Some o) parts [] under = next_around turning (Some o) under

abbrev pub next_of : Stack → Next (List ℕ) Opened
next_of s = next_in s.top.turning s.top.region s.top.parts s.top.lines s.under

abbrev pub is_part : Next (List ℕ) Opened → Bool
is_part (Part part) = true
is_part _ = false

-- the part that comes next
abbrev pub part_in : Next (List ℕ) Opened → Option (LinePart (List ℕ))
part_in (Part part) = Some part
part_in _ = None

abbrev pub is_line : Next (List ℕ) Opened → Bool
is_line (Line line) = true
is_line _ = false

abbrev pub is_turn : Next (List ℕ) Opened → Bool
is_turn (Turn region begun condition) = true
is_turn _ = false

-- the innermost source may end: no turn of it comes, or its turn may not begin
abbrev pub may_end : Next (List ℕ) Opened → Bool
may_end (Turn region begun condition) = true
may_end (SourceEnd region begun) = true
may_end _ = false

abbrev pub is_nothing : Next (List ℕ) Opened → Bool
is_nothing Nothing = true
is_nothing _ = false

-- whether the part that comes next opens a block
abbrev pub opens_block : Next (List ℕ) Opened → Bool
opens_block (Part part) = is_block part
opens_block _ = false

-- a movement is one for what comes next
abbrev pub Suits : Movement → Next (List ℕ) Opened → Type 0
Suits (moves.Part pass) x = IfEnters pass (is_part x ≡ true)
Suits (moves.Region is_run) x = is_part x ≡ true
Suits moves.Line x = is_line x ≡ true
Suits moves.Turn x = is_turn x ≡ true
Suits _ x = Unit {0}

-- ---- the page is around all macros

abbrev pub AreStacked : Kind → List Frame → Type 0
AreStacked kind [] = is_page kind ≡ true
AreStacked kind (f ∷ fs) = AreStacked f.kind fs

-- ---- the steps of the machine

-- where the innermost source ends
abbrev pub end_of : {S : Type 0} → Option Opened → Frame → S → At S
end_of region f s = record { place = record { region = region; levels = f.cursor.levels }; state = s }

-- the innermost source is left
abbrev pub left : {S : Type 0} → List Frame → S → Option (Running S)
left [] s = None
left (f ∷ fs) s = Some (record { top = f; under = fs; state = s })

-- a turn of a loop begins, or the loop is left
abbrev pub turn_if : {S : Type 0} → Bool → Frame → List Frame → S → Option (Running S)
turn_if true f under s = Some (record { top = in_turn f; under = under; state = s })
turn_if false f under s = left under s

module _ {S : Type 0} (l : Language S) where
  -- what is next is done to the state: the step of the machine
  unfoldable pub step_in : Meaning S → Next (List ℕ) Opened → List (LinePart (List ℕ)) → List (List ℕ) → Frame → List Frame → S → Option (Running S)
  step_in m (Part part) parts lines f under s = Some (part_next l m part (drop 1 parts) f under s)
  step_in m (Line line) parts lines f under s = Some (line_next l m line (drop 1 lines) f under s)
  step_in m (RegionLine o line is_end) parts lines f under s = Some (region_next l m is_end o line (drop 1 lines) f under s)
  step_in m (Turn region begun condition) parts lines f under s =
      let v = l.turn f.kind condition (finish_if l begun (end_of region f s)) in turn_if v.0 f under v.1
  step_in m (SourceEnd region begun) parts lines f under s = left under (finish_if l begun (end_of region f s))
  step_in m Nothing parts lines f under s = None

  unfoldable pub step_of : Next (List ℕ) Opened → Stack → S → Option (Running S)
  step_of next s state = step_in (meaning_at l (depth s.under) s.top.kind) next s.top.parts s.top.lines s.top s.under state
