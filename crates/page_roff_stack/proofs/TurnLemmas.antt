-- A loop of which a turn begins: helpers of proofs.
use Rattle.std.proofs.Common.{◌≡◌, ℕ, ◌-◌, ◌≤◌, true, false, List, [], ◌∷◌, ◌++◌, length, take, drop, Option, Some, None, refl, ap, ◌∙◌, append_assoc, arith, length-append}
use Rattle.std.proofs.Math.Seq.{take-append_seam, drop-append_seam}
use Rattle.std.proofs.lemmas.Bool.Decides.{nat_tests}
use Rattle.page_core_base.specs.declared.limits.TheConstants.{BODY}
use Rattle.page_roff_blocks.specs.declared.line_places.LinePlace.{LinePlace}
use Rattle.page_roff_blocks.specs.laws.Views.{BlockCursor, at_line}
use Rattle.page_roff_blocks.specs.Forest.{outside}
use Rattle.page_roff_blocks.specs.machine.Steps.{line_end}
use Rattle.page_roff_blocks.specs.machine.Machine.{Frame, turned, work_in}
use Rattle.page_roff_values.specs.Values.{lines_in}
use Rattle.page_roff_stack.specs.declared.input_frames.InputFrame.{InputFrame}
use Rattle.page_roff_stack.specs.declared.source_kinds.SourceKind.{SourceKind}
use Rattle.page_roff_stack.specs.declared.source_kinds.SourceKind.TheVariants as sources
use Rattle.page_roff_stack.specs.declared.spans.Span.{Span}
use Rattle.page_roff_stack.specs.declared.turns.Turns.{Turns}
use Rattle.page_roff_stack.specs.machine.Stacks.{in_turn, IsBounded, span_text, IsFirstLine, IsSpanIn, IsCut, AreTurns, AreTurnsIn, frame_of, IsHeld, first_text}
use Rattle.page_roff_stack.proofs.InputStackLemmas.{lines_short, lines_weight, some_line, span_len}

abbrev pub after_begin : Turns → Turns
after_begin t = record t { left = t.left - 1; begun = true }

-- a turn begins of a source with these turns, and leaves those
abbrev pub begun : InputFrame → Turns → Turns → LinePlace → BlockCursor → InputFrame
begun a t after place cursor = record a { place = place; ahead = None; lines = t.lines; region = None; cursor = cursor; turning = Some after }

pub begun_view : (a : InputFrame) (all : List ℕ) (t after : Turns) (place : LinePlace) (cursor : BlockCursor) → place ≡ line_end → cursor ≡ at_line outside → a.turning ≡ Some t
    → after ≡ after_begin t → frame_of (begun a t after place cursor) all ≡ in_turn (frame_of a all)
unfolding turned
begun_view a all t after place cursor e g h k = rw (e, g, h, k) refl

lines_bounded : (f : Frame) (text : List ℕ) → f.lines ≡ lines_in text → length text ≤ BODY → f.cursor ≡ at_line outside → length f.parts ≡ 0 → IsBounded f
unfolding work_in at_line outside
lines_bounded f text e p s n =
    record {
      short = rw e (lines_short text (omega (arith, p)));
      skips = rw (e, s) (omega (arith, lines_weight text, p, n));
    }

after_held : (kind : SourceKind) (t after : Turns) (all : List ℕ) → after ≡ after_begin t → AreTurns kind t all → AreTurns kind after all
after_held kind t after all e h = grind arith

held_turns : (kind : SourceKind) (turning : Option Turns) (t : Turns) (all : List ℕ) → turning ≡ Some t → AreTurnsIn kind turning all → AreTurns kind t all
held_turns kind turning t all e h = rw e at h

pub begun_held : (a : InputFrame) (all : List ℕ) (t after : Turns) (place : LinePlace) (cursor : BlockCursor) → place ≡ line_end → cursor ≡ at_line outside → a.turning ≡ Some t
    → after ≡ after_begin t → IsHeld a all → IsHeld (begun a t after place cursor) all
begun_held a all t after place cursor e g i k h =
    let turns = held_turns a.kind a.turning t all i h.turns in
    let l = span_len t.lines all turns.lines in
    record {
      line = h.line;
      short = h.short;
      place = rw e tt;
      ahead = tt;
      lines = turns.lines;
      only = turns.only;
      arguments = h.arguments;
      turns = after_held a.kind t after all k turns;
      bounds = lines_bounded (frame_of (begun a t after place cursor) all) (span_text t.lines all) refl (omega (arith, l, turns.bounded)) g (rw e refl);
    }

-- ---- the text of a loop

empty_of : (text : List ℕ) → length text ≡ 0 → text ≡ []
empty_of [] e = refl
empty_of (byte ∷ bytes) e = absurd (omega (arith, e))

no_line : (text : List ℕ) → length (lines_in text) ≡ 0 → length text ≡ 0
no_line text e = grind (arith, nat_tests, some_line text)

first_of_lines : (lines : List (List ℕ)) (text : List ℕ) → IsFirstLine lines text → (length lines ≡ 0 → length text ≡ 0) → text ≡ first_text lines
first_of_lines [] text h e = empty_of text (e refl)
first_of_lines (line ∷ lines) text h e = h

-- the text of a loop, which was cut after its first line, is in the text of all
pub record IsLoopCut (before more rest all : List ℕ) (lines first others : Span) : Type 0 where
  pub text : all ≡ (before ++ more) ++ rest
  pub start : lines.start ≡ length before
  pub end : lines.end ≡ length (before ++ more)
  pub short : length more ≤ BODY
  pub first_is : IsFirstLine (lines_in (span_text lines all)) (span_text first all)
  pub others_are : lines_in (span_text others all) ≡ drop 1 (lines_in (span_text lines all))
  pub first_within : IsSpanIn first all
  pub others_within : IsSpanIn others all
  pub cut : IsCut lines first others

module _ (before more rest all : List ℕ) (lines first others : Span) (h : IsLoopCut before more rest all lines first others) where
  loop_text : span_text lines all ≡ more
  loop_text =
      let n : length (before ++ more) - length before ≡ length more = omega (arith, length-append before more) in
      rw (h.start, h.end, n)
      (ap (λ text. take (length more) (drop (length before) text)) (h.text ∙ append_assoc before more rest)
      ∙ ap (λ text. take (length more) text) (drop-append_seam before (more ++ rest)) ∙ take-append_seam more rest)

  pub loop_condition : span_text first all ≡ first_text (lines_in more)
  loop_condition = grind (arith, loop_text, span_len, length-append, first_of_lines, no_line)

  pub loop_lines : lines_in (span_text others all) ≡ drop 1 (lines_in more)
  loop_lines = h.others_are ∙ ap (λ text. drop 1 (lines_in text)) loop_text

  pub loop_turns : (arguments : Option ℕ) (left : ℕ)
      → AreTurns (sources.Body arguments) (record { condition = first; lines = others; left = left; begun = false }) all
  loop_turns arguments left = grind (arith, length-append)
