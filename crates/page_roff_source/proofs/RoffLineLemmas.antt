-- How many skipped blocks a line begins: helpers of proofs.
use Rattle.std.proofs.Common.{ℕ, ◌+◌, ◌*◌, ◌≤◌, Bool, true, false, List, length, Option, Some, None, arith, ◌≡◌, ◌<◌, ◌^◌, [], ◌∷◌, IfSome, is_some, option_map, refl, sym, ap, subst, ◌∙◌}
use Rattle.page_roff_syntax.specs.Regions.{is_ending, Opened}
use Rattle.page_roff_blocks.specs.Forest.{Levels, SourcePlace, outside, first_place}
use Rattle.page_roff_blocks.specs.laws.Views.{at_line, PlaceFits}
use Rattle.page_roff_blocks.specs.machine.Steps.{Meaning, At, step_inside, step_from, step, step_lines}
use Rattle.page_roff_blocks.proofs.LinePartLemmas.{line_parts_room, step_room}
use Rattle.page_roff_blocks.specs.machine.Languages.{run_page, Budgeted}
use Rattle.page_core_base.specs.declared.limits.TheConstants.{LINE, REREAD}
use Rattle.page_roff_source.specs.Runs.{RoffEdge, SourceLine, first_edge, counts_of, end_notes}
use Rattle.page_roff_source.specs.machine.RoffLines.{before_line, run_line, line_done, LinesState, TakesSource, line_given, run_begun, edge_of, state_of, given_by, run_if, IsIdleAs, IsCounted, IsAtEdge, RunsOn}
use Rattle.page_core_base.specs.Texts.{TakenLine}
use Rattle.page_core_base.specs.laws.Views.{line_view}
use Rattle.page_core_base.specs.declared.lines_taken.Taken.{Taken}
use Rattle.page_core_base.specs.Messages.{Message}
use Rattle.page_core_base.specs.declared.page_settings.Output.{Output}
use Rattle.page_roff_blocks.specs.machine.Machine.{next}
use Rattle.page_roff_stack.specs.machine.Stacks.{is_nothing}
use Rattle.page_roff_stack.specs.machine.Stacks as stack
use Rattle.page_roff_effects.specs.laws.Views.{MemoryFits, State}
use Rattle.page_roff_effects.specs.States.{Given, Memory, takes, numbered}
use Rattle.page_roff_machine.specs.machine.Machines.{Machine, outcome_of, to_come, place_of, stands, stands_after, begun_at, Begins, Takes, BeginsOrTakes, Advances, taken_if, IsIdleUnless, IsNew, Resumes}
use Rattle.page_roff_machine.specs.machine.Moving.{IsPassed}
use Rattle.page_roff_machine.specs.machine.Machines as machine
use Rattle.page_roff_machine.proofs.MachineLemmas.{idle_stands, new_idle, resumed_idle}
use Rattle.page_roff_source.specs.declared.counts.Counts.{Counts}
use Rattle.page_roff_source.specs.laws.Views.{RoffFits, Part, IsPart, edge_at, part_of, line_taken, left_if}
use Rattle.page_roff_source.specs.declared.roff_lines.Remaining.{Remaining}
use Rattle.page_roff_source.specs.declared.roff_lines.Remaining.TheVariants as remaining
use Rattle.page_roff_source.proofs.CountLemmas.{taken_bound}

IsRoomy : {S : Type 0} → Levels → List ℕ → At S → Type 0
IsRoomy l line a = a.place.levels.skipped ≤ l.skipped + (2 * length line + 2)

module _ {S : Type 0} (m : Meaning S) where
  inside_room : (is_end : Bool) (o : Opened) (line : List ℕ) (l : Levels) (s : S) → IsRoomy l line (step_inside m is_end o line l s)
  unfolding step_inside IsRoomy
  inside_room true o line l s = omega arith
  inside_room false o line l s = omega arith

  from_room : (o : Option Opened) (line : List ℕ) (l : Levels) (s : S) → IsRoomy l line (step_from m o line l s)
  unfolding step_from IsRoomy at_line
  from_room None line l s = grind (arith, step_room, line_parts_room)
  from_room (Some o) line l s = inside_room (is_ending o.ending line) o line l s

pub done_room : (e : RoffEdge) (line : SourceLine) → (line_done e line).place.levels.skipped ≤ e.place.levels.skipped + (2 * length line.text + 2)
unfolding run_line before_line run_page step_lines step IsRoomy
done_room e line = grind (arith, from_room)

-- ---- The machine that runs a page's lines is at the page's edge: helpers of proofs.

-- an edge by what leaves the page there
abbrev edge_with : Output → At (Budgeted State) → ℕ → Option (List Given) → RoffEdge
edge_with output a source to_come = record {
  output = output;
  place = a.place;
  memory = a.state.rest.memory;
  source = source;
  taken = a.state.taken;
  to_come = to_come;
}

abbrev begun_with : Output → At (Budgeted State) → ℕ → RoffEdge
begun_with output a source = edge_with output a source (Some a.state.rest.out)

-- a line begins where the page is
abbrev begun_from : At (Budgeted State) → ℕ → At (Budgeted State)
begun_from a number = record {
  place = a.place;
  state = record {
    left = REREAD;
    gave_up = false;
    taken = a.state.taken;
    rest = record { memory = numbered number a.state.rest.memory; out = [] };
  };
}

-- ---- before the first line

new_edge : (output : Output) (m : Machine) → IsNew output m → outcome_of m ≡ stands m → edge_of m 0 remaining.Nothing ≡ first_edge output
unfolding at_line first_place
new_edge output m n e = grind arith

pub new_at : (output : Output) (m : Machine) → IsNew output m → edge_of m 0 remaining.Nothing ≡ first_edge output
new_at output m n = new_edge output m n (idle_stands m (new_idle output m n))

pub new_counted : (output : Output) → IsCounted (first_edge output)
unfolding first_place outside
new_counted output = record { source = omega arith; taken = omega arith; skipped = omega arith }

-- ---- between two lines

abbrev pub held_part : SourcePlace → Memory → ℕ → ℕ → Part
held_part place memory source taken = record { place = place; memory = memory; source = source; taken = taken }

resumed_edge : (output : Output) (p : Part) (m : Machine) → Resumes output p.place p.memory p.taken m → outcome_of m ≡ stands m
    → edge_of m p.source remaining.Nothing ≡ edge_at output p
unfolding at_line
resumed_edge output p m h e = grind arith

pub resumed_at : (output : Output) (p : Part) (m : Machine) → Resumes output p.place p.memory p.taken m
    → edge_of m p.source remaining.Nothing ≡ edge_at output p
resumed_at output p m h = resumed_edge output p m h (idle_stands m (resumed_idle output p.place p.memory p.taken m h))

-- the machine is at this edge
at_edge : (m : Machine) (source : ℕ) (left : Remaining) (e : RoffEdge) → edge_of m source left ≡ e → IsIdleAs left m → IsCounted e → IsAtEdge m source left
at_edge m source left e same idle counted = record { idle = idle; counted = subst IsCounted (sym same) counted }

pub resumed_invariant : (output : Output) (p : Part) (m : Machine) → IsPart p → Resumes output p.place p.memory p.taken m
    → IsAtEdge m p.source remaining.Nothing
resumed_invariant output p m k h =
    at_edge m p.source remaining.Nothing (edge_at output p) (resumed_at output p m h) (resumed_idle output p.place p.memory p.taken m h)
    (record { source = k.source; taken = k.taken; skipped = k.skipped })

-- the part that is held where all was given
pub part_at : (m : Machine) (source : ℕ) (left : Remaining) → IsAtEdge m source left → (edge_of m source left).to_come ≡ None
    → part_of (edge_of m source left) ≡ record { place = place_of m; memory = m.actions.memory; source = source; taken = m.budget.taken }
part_at m source remaining.Nothing p none = grind (arith, idle_stands)
part_at m source _ p none = absurd (cc)

pub is_part_at : (m : Machine) (source : ℕ) (left : Remaining) → IsAtEdge m source left → (edge_of m source left).to_come ≡ None
    → ((place_of m).levels.in_loop ≡ true → IsPassed (place_of m).region)
    → IsPart (record { place = place_of m; memory = m.actions.memory; source = source; taken = m.budget.taken })
is_part_at m source left p none passed =
    let e = part_at m source left p none in
    let c = p.counted in
    record {
      source = c.source;
      taken = subst (λ (x : Part). x.taken ≤ (REREAD + 1) * source) e c.taken;
      skipped = subst (λ (x : Part). x.place.levels.skipped ≤ (2 * LINE + 2) * source) e c.skipped;
      passed = passed;
    }

-- ---- a line begins

before_at : (m : Machine) (source : ℕ) (line : SourceLine) → outcome_of m ≡ stands m
    → before_line (edge_of m source remaining.Nothing) line ≡ begun_at line.number m
unfolding before_line
before_at m source line e = ap (λ (a : At (Budgeted State)). begun_from a line.number) e

pub begun : (old new : Machine) (source : ℕ) (line : SourceLine) → machine.is_idle old ≡ true → Begins line.text line.number old new
    → edge_of new (source + 1) remaining.Run ≡ run_begun (edge_of old source remaining.Nothing) line
unfolding run_line
begun old new source line idle b = grind (arith, before_at, idle_stands)

-- a line that was taken at once is all that the line gives
gives_taken : (old new : Machine) (source : ℕ) (taken : TakenLine) (line : SourceLine) → machine.is_idle old ≡ true
    → Takes taken line.text line.number old new
    → stands_after (takes taken ∷ []) new ≡ run_line (edge_of old source remaining.Nothing) line
unfolding run_line
gives_taken old new source taken line idle t = grind (arith, before_at, idle_stands)

gives_alone : (old new : Machine) (source : ℕ) (taken : TakenLine) (line : SourceLine) → machine.is_idle old ≡ true
    → Takes taken line.text line.number old new
    → line_given (edge_of old source remaining.Nothing) line ≡ takes taken ∷ []
gives_alone old new source taken line idle t = grind (arith, gives_taken)

-- it is kept, to be given
kept_line : (old new : Machine) (source : ℕ) (taken : TakenLine) (line : SourceLine) → machine.is_idle old ≡ true
    → Takes taken line.text line.number old new → new.actions.line ≡ taken
    → edge_of new (source + 1) remaining.Line ≡ run_begun (edge_of old source remaining.Nothing) line
kept_line old new source taken line idle t k = grind (arith, idle_stands, gives_taken)

-- it is given, and the line is done
line_is_done : (old new : Machine) (source : ℕ) (taken : TakenLine) (line : SourceLine) → machine.is_idle old ≡ true
    → Takes taken line.text line.number old new
    → edge_of new (source + 1) remaining.Nothing ≡ line_done (edge_of old source remaining.Nothing) line
line_is_done old new source taken line idle t = grind (arith, idle_stands, gives_taken)

pub begun_counted : (e : RoffEdge) (line : SourceLine) → IsCounted e → e.source < 2 ^ 31 → length line.text ≤ LINE → IsCounted (run_begun e line)
begun_counted e line c few short = grind (arith, taken_bound, done_room)

pub room_to_begin : (m : Machine) (source : ℕ) → IsAtEdge m source remaining.Nothing → (m.budget.taken ≤ 2 ^ 62) × ((place_of m).levels.skipped < 2 ^ 62)
room_to_begin m source p = grind (arith, idle_stands)

-- ---- the next line

left_by : (result : Bool) (m : Machine) (next : Option TakenLine) (given : List Given) → next ≡ taken_if result m.actions.line → to_come m ≡ given
    → given_by (run_if result) m ≡ left_if next given
left_by true m next given e r = rw (e, r) refl
left_by false m next given e r = rw e refl

pub advanced : {P S : Type 0} (left : P → S → List Message → Type 0) (old new : Machine) (source : ℕ) (s t : S) (result : Bool)
    → Advances left old s result new t → edge_of new source (run_if result) ≡ line_taken (edge_of old source remaining.Run)
advanced left old new source s t result a = grind (arith, left_by)

-- ---- the code's object

abbrev counts : ℕ → ℕ → ℕ → Counts
counts source taken expansions = record { source = source; taken = taken; expansions = expansions }

pub none_in : (m : Machine) (source : ℕ) (left : Remaining) (r : LinesState) → state_of m source left ≡ r
    → r.edge.to_come ≡ None → (edge_of m source left).to_come ≡ None
none_in m source left r e none = ap (λ (x : LinesState). x.edge.to_come) e ∙ none

pub few_in : (m : Machine) (source : ℕ) (left : Remaining) (r : LinesState) → state_of m source left ≡ r → r.edge.source < 2 ^ 31 → source < 2 ^ 31
few_in m source left r e few = grind arith

idle_unless : (result : Bool) (m : Machine) → IsIdleUnless result m → IsIdleAs (run_if result) m
idle_unless true m h = tt
idle_unless false m h = h

pub new_invariant : (output : Output) (m : Machine) → IsNew output m → IsAtEdge m 0 remaining.Nothing
new_invariant output m n = at_edge m 0 remaining.Nothing (first_edge output) (new_at output m n) (new_idle output m n) (new_counted output)

pub begin_room : (m : Machine) (source : ℕ) (left : Remaining) → IsAtEdge m source left → (edge_of m source left).to_come ≡ None
    → (m.budget.taken ≤ 2 ^ 62) × (m.stack.top.cursor.levels.skipped < 2 ^ 62)
begin_room m source remaining.Nothing p none = room_to_begin m source p
begin_room m source _ p none = absurd (cc)

nothing_left : (m : Machine) (source : ℕ) (left : Remaining) → (edge_of m source left).to_come ≡ None → left ≡ remaining.Nothing
nothing_left m source remaining.Nothing none = refl
nothing_left m source _ none = absurd (cc)

at_nothing : (m : Machine) (source : ℕ) (left : Remaining) → IsAtEdge m source left → (edge_of m source left).to_come ≡ None
    → IsAtEdge m source remaining.Nothing
at_nothing m source left p none = subst (IsAtEdge m source) (nothing_left m source left none) p

-- a line begins that is run
pub begin_edge : (old new : Machine) (source : ℕ) (left : Remaining) (line : List ℕ) (number : ℕ) → IsAtEdge old source left
    → (edge_of old source left).to_come ≡ None → Begins line number old new
    → edge_of new (source + 1) remaining.Run ≡ run_begun (edge_of old source left) (record { text = line; number = number; notes = [] })
begin_edge old new source left line number p none b = grind (arith, at_nothing, nothing_left, begun)

-- the invariant at an edge after a line
begun_invariant : (e : RoffEdge) (new : Machine) (source : ℕ) (left : Remaining) (line : SourceLine) → IsCounted e → e.source < 2 ^ 31
    → length line.text ≤ LINE → edge_of new (source + 1) left ≡ run_begun e line → IsIdleAs left new → IsAtEdge new (source + 1) left
begun_invariant e new source left line c few t same idle = grind (arith, at_edge, begun_counted)

pub begin_invariant : (old new : Machine) (source : ℕ) (left : Remaining) (line : List ℕ) (number : ℕ) → IsAtEdge old source left
    → (edge_of old source left).to_come ≡ None → Begins line number old new → source < 2 ^ 31 → length line ≤ LINE → IsAtEdge new (source + 1) remaining.Run
begin_invariant old new source left line number p none b few t =
    begun_invariant (edge_of old source left) new source remaining.Run (record { text = line; number = number; notes = [] }) p.counted few t
    (begin_edge old new source left line number p none b) tt

-- one begins that is taken at once, and kept
abbrev with_line : TakenLine → Machine → Machine
with_line line m = record m { actions = record m.actions { line = line } }

kept_takes : (old new kept : Machine) (taken : TakenLine) (line : List ℕ) (number : ℕ) → Takes taken line number old new → kept ≡ with_line taken new
    → Takes taken line number old kept
kept_takes old new kept taken line number t e = grind arith

pub keep_edge : (old new kept : Machine) (source : ℕ) (left : Remaining) (taken : TakenLine) (line : List ℕ) (number : ℕ) → IsAtEdge old source left
    → (edge_of old source left).to_come ≡ None → Takes taken line number old new → kept ≡ with_line taken new
    → edge_of kept (source + 1) remaining.Line ≡ run_begun (edge_of old source left) (record { text = line; number = number; notes = [] })
keep_edge old new kept source left taken line number p none t e = grind (arith, at_nothing, nothing_left, kept_line, kept_takes)

pub keep_invariant : (old new kept : Machine) (source : ℕ) (left : Remaining) (taken : TakenLine) (line : List ℕ) (number : ℕ) → IsAtEdge old source left
    → (edge_of old source left).to_come ≡ None → Takes taken line number old new → kept ≡ with_line taken new → source < 2 ^ 31 → length line ≤ LINE
    → IsAtEdge kept (source + 1) remaining.Line
keep_invariant old new kept source left taken line number p none t e few l =
    begun_invariant (edge_of old source left) kept source remaining.Line (record { text = line; number = number; notes = [] }) p.counted few l
    (keep_edge old new kept source left taken line number p none t e) (kept_takes old new kept taken line number t e).idle

-- one begins that is taken at once, and lent, if there is one
pub none_begins : (old new : Machine) (result : Option Taken) (line : List ℕ) (number : ℕ) → is_some result ≡ false
    → BeginsOrTakes result line number old new → Begins line number old new
none_begins old new None line number e b = b
none_begins old new (Some taken) line number e b = absurd (cc)

pub none_takes : (result : Option Taken) (line : SourceLine) (old new : RoffEdge) → is_some result ≡ false → new ≡ run_begun old line
    → TakesSource (option_map line_view result) line old new
none_takes None line old new e b = b
none_takes (Some taken) line old new e b = absurd (cc)

pub lend_takes : (old new : Machine) (source : ℕ) (left : Remaining) (result : Option Taken) (line : List ℕ) (number : ℕ) → IsAtEdge old source left
    → (edge_of old source left).to_come ≡ None → is_some result ≡ true → BeginsOrTakes result line number old new
    → TakesSource (option_map line_view result) (record { text = line; number = number; notes = [] }) (edge_of old source left)
    (edge_of new (source + 1) left)
lend_takes old new source left None line number p none e t = absurd (cc)
lend_takes old new source left (Some taken) line number p none e t =
    let s : SourceLine = record { text = line; number = number; notes = [] } in
    let q = at_nothing old source left p none in
    let view = line_view taken in
    let left_so = sym (nothing_left old source left none) in
    subst (λ (r : Remaining). TakesSource (Some view) s (edge_of old source r) (edge_of new (source + 1) r)) left_so
    (gives_alone old new source view s q.idle t, line_is_done old new source view s q.idle t)

pub lend_text : (old new : Machine) (result : Option Taken) (line : List ℕ) (number : ℕ) → is_some result ≡ true
    → BeginsOrTakes result line number old new → IfSome result (λ taken. length taken.text.now ≤ LINE)
lend_text old new None line number e t = absurd (cc)
lend_text old new (Some taken) line number e t = t.short

pub lend_invariant : (old new : Machine) (source : ℕ) (left : Remaining) (result : Option Taken) (line : List ℕ) (number : ℕ) → IsAtEdge old source left
    → (edge_of old source left).to_come ≡ None → is_some result ≡ true → BeginsOrTakes result line number old new → source < 2 ^ 31 → length line ≤ LINE
    → IsAtEdge new (source + 1) left
lend_invariant old new source left None line number p none e t few l = absurd (cc)
lend_invariant old new source left (Some taken) line number p none e t few l =
    let s : SourceLine = record { text = line; number = number; notes = [] } in
    let before = edge_of old source left in
    let c = begun_counted before s p.counted few l in
    at_edge new (source + 1) left (line_done before s) (lend_takes old new source left (Some taken) line number p none e t).1
    (subst (λ (r : Remaining). IsIdleAs r new) (sym (nothing_left old source left none)) t.idle)
    (record { source = c.source; taken = c.taken; skipped = c.skipped })

-- after the line that was taken at once
pub line_invariant : (m : Machine) (source : ℕ) (left : Remaining) → IsAtEdge m source left → left ≡ remaining.Line → IsAtEdge m source remaining.End
line_invariant m source remaining.Line p e = record {
  idle = p.idle;
  counted = record { source = p.counted.source; taken = p.counted.taken; skipped = p.counted.skipped };
}
line_invariant m source _ p e = absurd (cc)

pub line_runs_on : {P S : Type 0} (left : P → S → List Message → Type 0) (m : Machine) (source : ℕ) (r : Remaining) (old : LinesState) (s : S)
    → IsAtEdge m source r → r ≡ remaining.Line → state_of m source r ≡ old
    → RunsOn left old s true (state_of m source remaining.End) s
line_runs_on left m source remaining.Line old s p e v = grind arith
line_runs_on left m source _ old s p e v = absurd (cc)

-- after its end was reported
pub told_invariant : (m : Machine) (source : ℕ) (left : Remaining) → IsAtEdge m source left → left ≡ remaining.End → IsAtEdge m source remaining.Nothing
told_invariant m source remaining.End p e = record {
  idle = p.idle;
  counted = record { source = p.counted.source; taken = p.counted.taken; skipped = p.counted.skipped };
}
told_invariant m source _ p e = absurd (cc)

pub told_runs_on : {P S : Type 0} (left : P → S → List Message → Type 0) (m : Machine) (source : ℕ) (r : Remaining) (old : LinesState) (s : S)
    → r ≡ remaining.End → state_of m source r ≡ old → RunsOn left old s false (state_of m source remaining.Nothing) s
told_runs_on left m source remaining.End old s e v = grind arith
told_runs_on left m source _ old s e v = absurd (cc)

-- after the next line, or at the end
advance_done : {P S : Type 0} (left : P → S → List Message → Type 0) (old new : Machine) (source : ℕ) (s t : S) (result : Bool)
    → IsAtEdge old source remaining.Run → Advances left old s result new t → IsAtEdge new source (run_if result)
advance_done left old new source s t result p a = grind (arith, at_edge, advanced, idle_unless)

-- it runs on where the machine has something to run
pub advance_at : {P S : Type 0} (left : P → S → List Message → Type 0) (old new : Machine) (source : ℕ) (r : Remaining) (s t : S) (result : Bool)
    → IsAtEdge old source r → r ≡ remaining.Run → Advances left old s result new t → IsAtEdge new source (run_if result)
advance_at left old new source remaining.Run s t result p e a = advance_done left old new source s t result p a
advance_at left old new source _ s t result p e a = absurd (cc)

pub runs_on : {P S : Type 0} (left : P → S → List Message → Type 0) (old new : Machine) (source : ℕ) (r : Remaining) (x : LinesState) (s t : S) (result : Bool)
    → IsAtEdge old source r → r ≡ remaining.Run → state_of old source r ≡ x → Advances left old s result new t
    → RunsOn left x s result (state_of new source (run_if result)) t
runs_on left old new source remaining.Run x s t result p e v a = grind (arith, advanced)
runs_on left old new source _ x s t result p e v a = absurd (cc)

-- where all was given, the machine is at the page's edge
pub counts_at : (m : Machine) (source : ℕ) (left : Remaining) → IsAtEdge m source left → (edge_of m source left).to_come ≡ None
    → counts source m.budget.taken m.actions.memory.expansions ≡ counts_of (edge_of m source left)
counts_at m source remaining.Nothing p none = grind (arith, idle_stands)
counts_at m source _ p none = absurd (cc)

pub fits_at : (m : Machine) (source : ℕ) (left : Remaining) → IsAtEdge m source left → (edge_of m source left).to_come ≡ None
    → PlaceFits (place_of m) → MemoryFits m.actions.memory → RoffFits (edge_of m source left)
fits_at m source remaining.Nothing p none f g = grind (arith, idle_stands)
fits_at m source _ p none f g = absurd (cc)

pub end_notes_at : (m : Machine) (source : ℕ) (left : Remaining) → IsAtEdge m source left → (edge_of m source left).to_come ≡ None
    → end_notes (edge_of m source left) ≡ machine.end_notes m
end_notes_at m source remaining.Nothing p none = grind (arith, idle_stands)
end_notes_at m source _ p none = absurd (cc)

ended_counted : (old new : Machine) (source : ℕ) → machine.is_idle old ≡ true → machine.is_idle new ≡ true → new.stack ≡ old.stack → new.budget ≡ old.budget
    → IsCounted (edge_of old source remaining.Nothing) → IsCounted (edge_of new source remaining.Nothing)
ended_counted old new source i j s b c = grind (arith, idle_stands)

pub end_invariant : (old new : Machine) (source : ℕ) (left : Remaining) → IsAtEdge old source left → (edge_of old source left).to_come ≡ None
    → new.stack ≡ old.stack → new.budget ≡ old.budget → new.actions.memory ≡ machine.end_memory old → IsAtEdge new source left
end_invariant old new source remaining.Nothing p none s b m =
    let i = ap (λ (x : stack.Stack). is_nothing (stack.next_of x)) s ∙ p.idle in
    record {
      idle = i;
      counted = ended_counted old new source p.idle i s b p.counted;
    }
end_invariant old new source _ p none s b m = absurd (cc)
