-- What contracts of the code say by the definitions, and what is proved of these.
use Rattle.std.specs.Prelude.{ℕ, suc, List, [], ◌∷◌, ◌+◌, ◌*◌, ◌≤◌, length, sum_by, Option, Some, None, Bool, true, ◌≡◌, Result, MatchResult, ◌^◌, is_none, unwrap_or}
use Rattle.page_core_base.specs.Limits.{ARGS, BODY, CALLS, LINE, REREAD}
use Rattle.page_core_base.specs.Messages.{Rose, Message}
use Rattle.page_core_base.specs.Texts.{TakenLine}
use Rattle.page_core_base.specs.declared.faults.Fault.{Fault}
use Rattle.page_core_base.specs.declared.faults.Fault.TheVariants.{WriteNotes}
use Rattle.page_core_base.specs.declared.page_settings.Output.{Output}
use Rattle.page_roff_blocks.specs.Forest.{SourcePlace}
use Rattle.page_roff_blocks.specs.laws.Views.{PlaceFits}
use Rattle.page_roff_effects.specs.States.{Given, says, takes, Memory}
use Rattle.page_roff_effects.specs.laws.Views.{MemoryFits}
use Rattle.page_roff_machine.specs.Giving.{next_line, after_line}
use Rattle.page_roff_machine.specs.machine.Moving.{IsPassed}
use Rattle.page_roff_source.specs.Runs.{RoffEdge, first_edge, counts_of, SourceLine, given, done}
use Rattle.page_roff_source.specs.declared.counts.Counts.{Counts}

-- how many lines for the set of macros there are among what was given
unfoldable pub line_count : List Given → ℕ
line_count [] = 0
line_count (says note ∷ given) = line_count given
line_count (takes line ∷ given) = suc (line_count given)

-- The bodies and arguments of the macros and loops that run: at most `CALLS` of them run one inside another, and their texts have no more bytes
-- than as many of the longest bodies with the longest arguments.
pub record RunsWithin (running : List (List ℕ)) : Type 0 where
  pub macros : length running ≤ CALLS
  pub bytes : sum_by length running ≤ CALLS * (BODY + ARGS)

pub record RoffFits (e : RoffEdge) : Type 0 where
  -- names and what they stand for, and the body that the open region has so far, or the text of the loop that is collected
  pub memory : MemoryFits e.memory
  -- the names of the region that is open, if one is, and the true blocks that are open
  pub place : PlaceFits e.place

-- where the page is, in a region and in blocks; what is remembered; how many source lines came, and how many lines were taken of them
pub record Part : Type 0 where
  pub place : SourcePlace
  pub memory : Memory
  pub source : ℕ
  pub taken : ℕ

abbrev pub part_of : RoffEdge → Part
part_of e = record { place = e.place; memory = e.memory; source = e.source; taken = e.taken }

-- the edge between two lines of a page of an output
abbrev pub edge_at : Output → Part → RoffEdge
edge_at output p = record { output = output; place = p.place; memory = p.memory; source = p.source; taken = p.taken; to_come = None }

-- so few lines came that no count is too large; in a loop that is collected no region is run
pub record IsPart (p : Part) : Type 0 where
  pub source : p.source ≤ 2 ^ 31
  pub taken : p.taken ≤ (REREAD + 1) * p.source
  pub skipped : p.place.levels.skipped ≤ (2 * LINE + 2) * p.source
  pub passed : p.place.levels.in_loop ≡ true → IsPassed p.place.region

-- a line begins: the page is where the line leaves it, and all that the line gives is to come
abbrev pub line_begun : RoffEdge → SourceLine → RoffEdge
line_begun e line = record (done e (line ∷ [])) { to_come = Some (given e (line ∷ [])) }

abbrev pub is_idle : RoffEdge → Bool
is_idle e = is_none e.to_come

-- what is still to be given of the present line
abbrev pub given_of : RoffEdge → List Given
given_of e = unwrap_or e.to_come []

-- after the next line for the set of macros, or after the last message
abbrev pub left_if : Option TakenLine → List Given → Option (List Given)
left_if None given = None
left_if (Some line) given = Some given

abbrev pub line_taken : RoffEdge → RoffEdge
line_taken e = record {
  output = e.output;
  place = e.place;
  memory = e.memory;
  source = e.source;
  taken = e.taken;
  to_come = left_if (next_line (given_of e)) (after_line (given_of e));
}

-- What decides the rest, until a message is refused or the page ends; the body with the arguments of each macro or loop that runs, from the
-- inside out; and what was counted up to the last line that is done.
pub record RoffState : Type 0 where
  pub edge : Option RoffEdge
  pub running : List (List ℕ)
  pub counts : Counts

-- before the first line of a page
abbrev pub first_state : Output → RoffState
first_state output = record { edge = Some (first_edge output); running = []; counts = counts_of (first_edge output) }

-- between two lines of a page of an output
abbrev pub state_at : Output → Part → RoffState
state_at output part = record { edge = Some (edge_at output part); running = []; counts = counts_of (edge_at output part) }

-- the counts at an edge: its own where a line is done, inside a line those from before it
abbrev pub counts_with : Option (List Given) → RoffEdge → Counts → Counts
counts_with None e before = counts_of e
counts_with (Some given) e before = before

abbrev pub counts_from : Counts → Option RoffEdge → Counts
counts_from before None = before
counts_from before (Some e) = counts_with e.to_come e before

abbrev pub is_idle_at : Option RoffEdge → Bool
is_idle_at None = true
is_idle_at (Some e) = is_idle e

-- what a call over a sink did: at Ok these messages came, and no other; else a front of them, and the sink failed
pub record Reports {N A : Type 0} (gave within : N → List Message → N → Type 0) (failed : N → ℕ)
    (r : Result A Fault) (s : N) (notes : List Message) (t : N) : Type 0 where
  pub gives : MatchResult r (λ _. gave s notes t) (λ _. within s notes t)
  pub fault : MatchResult r (λ _. failed t ≡ failed s) (λ f. (f ≡ WriteNotes) × Rose (failed s) (failed t))
