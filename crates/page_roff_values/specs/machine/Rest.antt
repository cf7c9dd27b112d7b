-- How the code holds a line, inside widths too: the code's own form of it. Trust needs no reading of it.
use Rattle.std.specs.Prelude.{ℕ, ◌+◌, ◌*◌, ◌^◌, ◌≤◌, List, [], length, take, drop, ◌≡◌, suc, ◌-◌, false, ◌∷◌, map, reverse, Bool, Option, MatchOption, ◌++◌}
use Rattle.std.specs.Vec.{vec_capacity}
use Rattle.page_core_base.specs.Limits.{LINE, EXPAND}
use Rattle.page_core_base.specs.laws.Views.{NEST}
use Rattle.page_roff_values.specs.declared.expansions.Nested.TheInside.{Inside}
use Rattle.page_roff_values.specs.Values.{TextSoFar, Surroundings, LaidText, nothing, seq, put, call_at, value, finished_len, inside, adds, start, expanded, units_of}
use Rattle.std.specs.Borrow.{Bor}
use Rattle.page_roff_parts.specs.declared.parts.Call.{Call}
use Rattle.page_roff_parts.specs.declared.parts.Part.{Part}
use Rattle.page_roff_parts.specs.declared.parts.Part.TheVariants.{Copied, Called}
use Rattle.page_roff_values.specs.declared.sources.Sources.{Sources}
use Rattle.page_roff_parts.specs.machine.Verbatim.{part_of}
use Rattle.page_roff_values.specs.declared.environments.Environment.{Environment}

-- a line so far, or the text of a width, and what is finished of those that it is inside of, one after another
pub record NestedSpot : Type 0 where
  pub spot : TextSoFar
  pub before : List ℕ

-- one that is inside of no other
abbrev pub outermost : TextSoFar → NestedSpot
outermost s = record { spot = s; before = [] }

-- a step of its own: those that it is inside of stay
abbrev pub over : (TextSoFar → TextSoFar) → NestedSpot → NestedSpot
over f s = record { spot = f s.spot; before = s.before }

abbrev pub nested_of : Inside → NestedSpot
nested_of a = record {
  spot = record {
    around = record { line = a.line; bytes_before = a.bytes_before; width_column = a.width_column };
    text = drop a.start a.text.items;
    count = a.count;
    ended = a.ended;
  };
  before = take a.start a.text.items;
}

pub record IsHeld (a : Inside) : Type 0 where
  pub start : a.start ≤ length a.text.items
  pub line : length a.text.items ≤ a.start + LINE
  pub outside : a.start ≤ LINE * NEST
  pub room : LINE * (NEST + 1) ≤ vec_capacity a.text
  pub bytes_before : a.bytes_before ≤ 2 ^ 31

-- ---- What is still to be laid of the texts that are being read: the code's own steps. Trust needs no reading of it.

-- how many interpolations more may be inside the innermost of these texts, where this many may inside the outermost
unfoldable pub room_in : ℕ → List (List ℕ) → ℕ
room_in room [] = room
room_in room (t ∷ ts) = room - length ts

-- The value of the innermost text, and then the rest of those around it.
unfoldable pub rest : Surroundings → ℕ → List (List ℕ) → TextSoFar → LaidText
rest env room [] s = nothing s
rest env room (t ∷ ts) s = seq (value env (room - length ts) t s) (rest env room ts)

abbrev pub one : Surroundings → ℕ → Part (List ℕ) → TextSoFar → LaidText
one env depth (Copied run) s = put run s
one env depth (Called call) s = call_at env depth call s

-- what a line goes on with
abbrev pub going_on : Surroundings → ℕ → List (List ℕ) → TextSoFar → LaidText
going_on env room ts s = seq (nothing s) (rest env room ts)

-- an interpolation, and what a line goes on with after it
abbrev pub calling : Surroundings → ℕ → Call (List ℕ) → List (List ℕ) → TextSoFar → LaidText
calling env room call ts s = seq (call_at env (room_in room ts) call s) (rest env room ts)

-- a part was read, or nothing is left, where there is room for this many bytes
abbrev pub Reads : Bool → ℕ → List (List ℕ) → Option (Part (Bor (List ℕ))) → List (List ℕ) → Type 0
Reads copy fits ts result us =
    (env : Surroundings) (room : ℕ) (s : TextSoFar) → env.copy ≡ copy → s.ended ≡ false → fits ≤ LINE - finished_len s → MatchOption result
    (rest env room ts s ≡ nothing s) (λ p. rest env room ts s ≡ seq (one env (room_in room us) (part_of p) s) (rest env room us))

-- the bytes that are left of these texts, and their number
abbrev pub size : List (List ℕ) → ℕ
size [] = 0
size (t ∷ ts) = suc (length t + size ts)

-- the innermost first
abbrev pub texts_of : Sources → List (List ℕ)
texts_of s = s.inner ∷ map (λ (t : Bor (List ℕ)). t.now) (reverse s.outer.items)

-- How much may still come, at most: a value is paid by its interpolation, and each byte and each text's end is one.
unfoldable pub HUGE : ℕ
HUGE = 2 ^ 64

unfoldable pub steps : TextSoFar → List (List ℕ) → ℕ
steps s ts = HUGE * (EXPAND - s.count) + size ts

-- ---- The code's own steps on a line. Trust needs no reading of it.

-- the text of a width, as the code begins it
abbrev pub going_inside : NestedSpot → NestedSpot
going_inside s = record { spot = inside s.spot; before = s.before ++ s.spot.text }

-- a line after the text of a width, as the code goes on with it
abbrev pub going_outside : ℕ → Option ℕ → NestedSpot → NestedSpot
going_outside start width_column s = record {
  spot = record s.spot { around = record s.spot.around { width_column = width_column }; text = drop start s.before };
  before = take start s.before;
}

-- ---- A fast way of the code, which no public clause cites: lines that are what they give. Trust needs no reading of it.
-- Source: roff(7), "Escape sequences".

-- a line is what it gives, without a message and without an interpolation, whatever names stand for
abbrev pub GivesItself : List ℕ → Type 0
GivesItself text = (env : Surroundings) (line : ℕ) → env.copy ≡ false → expanded env line text ≡ nothing (adds text (start line))

-- ---- How the code's values are seen. Trust needs no reading of it.

abbrev pub surroundings_of : Environment → Surroundings
surroundings_of e =
    record { copy = e.copy; definitions = e.names.now; arguments = e.arguments.now; units = units_of e.output }
