-- A machine: what a source does with its calls of macros and its loops. Trust needs no reading of it.
use Rattle.std.specs.Prelude.{ℕ, zero, suc, ◌+◌, Bool, true, false, List, Option, Some, None, ◌&&◌, not, ◌≤◌, ◌^◌}
use Rattle.page_roff_blocks.specs.Forest.{first_place}
use Rattle.page_roff_syntax.specs.Regions.{Opened}
use Rattle.page_roff_blocks.specs.machine.Steps.{Meaning, At, step_lines, each_line}
use Rattle.page_core_base.specs.Limits.{CALLS, REREAD}
use Rattle.page_roff_heads.specs.declared.conditions.Condition.{Condition}
use Rattle.page_roff_heads.specs.declared.loops.LoopHead.{LoopHead}
use Rattle.page_roff_blocks.specs.declared.line_parts.Head.{Head}
use Rattle.page_roff_syntax.specs.declared.region_heads.RegionHead.{RegionHead}
use Rattle.page_roff_blocks.specs.Parts.{loop_text}

-- A source is the page, or a body that runs: that of a macro with its arguments, or that of a loop with those of the innermost macro, if one
-- runs.
pub data Kind : Type 0 where
  page : Kind
  body : Option (List (List ℕ)) → Kind

-- the arguments of the innermost macro; on the page none runs
abbrev pub arguments_of : Kind → Option (List (List ℕ))
arguments_of page = None
arguments_of (body args) = args

-- the body of a loop has the arguments of the source around it
unfoldable pub inner : Kind → Kind
inner page = body None
inner (body args) = body args

-- A leaf or a loop that is whole gives a state, or it calls a macro: the lines of its body, the arguments, and the state before it runs; or it
-- repeats: the condition, the lines of the loop's body, and the state before the first turn.
pub data Done (S : Type 0) : Type 0 where
  gives : S → Done S
  calls : List (List ℕ) → List (List ℕ) → S → Done S
  repeats : List ℕ → List (List ℕ) → S → Done S

abbrev pub state_of : {S : Type 0} → Done S → S
state_of (gives s) = s
state_of (calls lines args s) = s
state_of (repeats condition lines s) = s

-- a loop has no more turns: each that runs takes one of the re-read lines of its source line (`turns_law`)
abbrev pub TURNS : ℕ
TURNS = REREAD + 2

-- What the parts of a source do. A leaf and a loop learn whether one more source may run.
pub record Language (S : Type 0) : Type 0 where
  pub parts : Kind → Meaning S
  pub leaf : Bool → Kind → List ℕ → S → Done S
  -- a loop is whole
  pub closes : Bool → S → Done S
  -- a turn of a loop comes, with its condition: whether its body runs
  pub turn : Kind → List ℕ → S → Bool × S
  -- a body ends, inside a region or not, inside a loop that is collected or not
  pub finish : Option Opened → Bool → S → S

-- whether one more may run, where this many may
unfoldable pub is_some : ℕ → Bool
is_some zero = false
is_some (suc n) = true

unfoldable pub run_if : {S : Type 0} → Bool → (S → S) → S → S
run_if true run s = run s
run_if false run s = s

module _ {S : Type 0} (l : Language S) where
  unfoldable pub finish_at : At S → S
  finish_at a = l.finish a.place.region a.place.levels.in_loop a.state

  -- a body runs down to its end
  unfoldable pub run_body : Meaning S → List (List ℕ) → S → S
  run_body m lines s = finish_at (step_lines m lines (record { place = first_place; state = s }))

  -- A loop with so many turns at most: a turn comes, and where it runs the body runs and a turn comes again.
  unfoldable pub turns : ℕ → (S → S) → Kind → List ℕ → S → S
  turns zero run kind condition s = s
  turns (suc n) run kind condition s =
      let v = l.turn kind condition s in run_if v.0 (λ s. turns n run kind condition (run s)) v.1

  -- what comes of a leaf or a loop, by what the parts of bodies mean
  unfoldable pub done_by : (Kind → Meaning S) → Kind → Done S → S
  done_by inside kind (gives s) = s
  done_by inside kind (calls lines args s) = run_body (inside (body (Some args))) lines s
  done_by inside kind (repeats condition lines s) = turns TURNS (run_body (inside (inner kind)) lines) (inner kind) condition s

  -- the parts of a source by what comes of its leaves and loops, with whether one more source may run
  unfoldable pub meaning_by : Bool → (Kind → Done S → S) → Kind → Meaning S
  meaning_by may_run done kind =
      record (l.parts kind) {
        gives = λ text s. done kind (l.leaf may_run kind text s);
        closes_loop = λ s. done kind (l.closes may_run s);
      }

  -- What comes of a leaf or a loop where this many more sources may run. A macro runs the forest of its body as it is at the call.
  unfoldable pub done_at : ℕ → Kind → Done S → S
  done_at zero kind done = state_of done
  done_at (suc depth) kind done = done_by (meaning_by (is_some depth) (done_at depth)) kind done

  unfoldable pub meaning_at : ℕ → Kind → Meaning S
  meaning_at depth kind = meaning_by (is_some depth) (done_at depth) kind

  -- lines of the page, from where the lines before them left it
  unfoldable pub run_page : List (List ℕ) → At S → At S
  run_page lines a = step_lines (meaning_at CALLS page) lines a

  -- the same of lines that each have more than a text, as a number: what comes before a line, and then what its text does
  unfoldable pub run_page_lines : {X : Type 0} → (X → List ℕ) → (X → S → S) → List X → At S → At S
  run_page_lines text head lines a = each_line (meaning_at CALLS page) text head lines a

-- ---- A machine: the budget of re-read lines of a source line. Trust needs no reading of it.

-- How many re-read lines of the source line are left, whether one beyond them came, how many lines were taken, and all else.
pub record Budgeted (R : Type 0) : Type 0 where
  pub left : ℕ
  pub gave_up : Bool
  pub taken : ℕ
  pub rest : R

-- What the parts of a source do to all else.
pub record Effects (R : Type 0) : Type 0 where
  -- a re-read line comes beyond the budget
  pub exhausts : R → R
  pub tests : Kind → Condition (List ℕ) → R → Bool × R
  pub leaf : Bool → Kind → List ℕ → R → Done R
  pub refuses : Head (List ℕ) → R → R
  pub unopened : R → R
  pub opens_region : Kind → RegionHead (List ℕ) → Bool → R → R
  -- lines of a region, with whether it is still run there
  pub reads : Kind → Opened → Bool → List ℕ → R → R
  pub ends_region : Kind → Opened → Bool → List ℕ → R → R
  -- a loop that is run begins; a text is collected in it, with whether it is still run there
  pub opens_loop : LoopHead (List ℕ) → R → R
  pub collects : Bool → List ℕ → R → R
  -- a loop is whole, with whether it is still run there and whether one more source may run: it gives a state or repeats
  pub closes : Bool → Bool → R → Done R
  -- the condition of a turn
  pub turns : Kind → List ℕ → R → Bool × R
  -- a body ends, inside a region or not, inside a loop that is collected or not, with whether all was given up
  pub finish : Option Opened → Bool → Bool → R → R

module _ {R : Type 0} (e : Effects R) where
  unfoldable pub with_rest : Budgeted R → R → Budgeted R
  with_rest s r = record { left = s.left; gave_up = s.gave_up; taken = s.taken; rest = r }

  -- One re-read line. Beyond the budget all running macros, loops and remainders of the source line are given up.
  unfoldable pub charge_by : Bool → ℕ → Budgeted R → Budgeted R
  charge_by true left s = s
  charge_by false zero s = record { left = 0; gave_up = true; taken = s.taken; rest = e.exhausts s.rest }
  charge_by false (suc left) s = record { left = left; gave_up = false; taken = s.taken + 1; rest = s.rest }

  unfoldable pub charge : Budgeted R → Budgeted R
  charge s = charge_by s.gave_up s.left s

  -- a raw line: one of the page has a budget of its own, one of a body that runs is a re-read line
  unfoldable pub begin_line : Kind → Budgeted R → Budgeted R
  begin_line page s = record { left = REREAD; gave_up = false; taken = s.taken + 1; rest = s.rest }
  begin_line (body args) s = charge s

  unfoldable pub whether_run : Budgeted R → Bool × Budgeted R
  whether_run s = (not s.gave_up, s)

  -- a remainder that is run is a re-read line
  unfoldable pub meet : Bool → Budgeted R → Bool × Budgeted R
  meet false s = whether_run s
  meet true s = whether_run (charge s)

  unfoldable pub test : Kind → Condition (List ℕ) → Budgeted R → Bool × Budgeted R
  test kind condition s = let v = e.tests kind condition s.rest in (v.0, with_rest s v.1)

  -- what a body that runs leaves open is given up with it, without a message
  unfoldable pub unopened_by : Kind → Bool → Budgeted R → Budgeted R
  unopened_by page gave_up s = with_rest s (e.unopened s.rest)
  unopened_by (body args) true s = s
  unopened_by (body args) false s = with_rest s (e.unopened s.rest)

  unfoldable pub read_line : Kind → Opened → List ℕ → Budgeted R → Budgeted R
  read_line kind o line s =
      let t = begin_line kind s in with_rest t (e.reads kind o (o.is_run && not t.gave_up) line t.rest)

  unfoldable pub end_line : Kind → Opened → List ℕ → Budgeted R → Budgeted R
  end_line kind o line s =
      let t = begin_line kind s in with_rest t (e.ends_region kind o (o.is_run && not t.gave_up) line t.rest)

  -- what of a line belongs to a loop is collected
  unfoldable pub collect_some : Option (List ℕ) → Budgeted R → Budgeted R
  collect_some None s = s
  collect_some (Some text) s = with_rest s (e.collects (not s.gave_up) text s.rest)

  unfoldable pub meaning : Kind → Meaning (Budgeted R)
  meaning kind =
      record {
        begins = λ line s. begin_line kind s;
        meets = meet;
        tests = test kind;
        gives = λ text s. s;
        refuses = λ h s. with_rest s (e.refuses h s.rest);
        unopened = λ s. unopened_by kind s.gave_up s;
        opens_region = λ head is_run s. with_rest s (e.opens_region kind head is_run s.rest);
        reads = read_line kind;
        ends_region = end_line kind;
        opens_loop = λ h s. with_rest s (e.opens_loop h s.rest);
        collects = λ open_blocks line s. collect_some (loop_text open_blocks line) s;
        keeps = λ line s. collect_some (Some line) s;
        closes_loop = λ s. s;
      }

  unfoldable pub done_with : Budgeted R → Done R → Done (Budgeted R)
  done_with s (gives r) = gives (with_rest s r)
  done_with s (calls lines args r) = calls lines args (with_rest s r)
  done_with s (repeats condition lines r) = repeats condition lines (with_rest s r)

  -- a loop that is whole calls no macro
  unfoldable pub closed_with : Budgeted R → Done R → Done (Budgeted R)
  closed_with s (gives r) = gives (with_rest s r)
  closed_with s (calls lines args r) = gives (with_rest s r)
  closed_with s (repeats condition lines r) = repeats condition lines (with_rest s r)

  unfoldable pub turn_by : Bool → Kind → List ℕ → Budgeted R → Bool × Budgeted R
  turn_by true kind condition s = (false, s)
  turn_by false kind condition s = let v = e.turns kind condition s.rest in (v.0, with_rest s v.1)

  -- a turn of a loop is a re-read line; its condition is tested where not all was given up
  unfoldable pub turn : Kind → List ℕ → Budgeted R → Bool × Budgeted R
  turn kind condition s = let t = charge s in turn_by t.gave_up kind condition t

  unfoldable pub language : Language (Budgeted R)
  language =
      record {
        parts = meaning;
        leaf = λ may_call kind text s. done_with s (e.leaf may_call kind text s.rest);
        closes = λ may_run s. closed_with s (e.closes (not s.gave_up) may_run s.rest);
        turn = turn;
        finish = λ region in_loop s. with_rest s (e.finish region in_loop s.gave_up s.rest);
      }

-- ---- The budget of a source line by itself, as the code counts it. Source: mandoc(1), "input stack limit exceeded, infinite loop?".

-- How many re-read lines of the source line are left, whether one beyond them came, and how many lines were taken.
pub record Budget : Type 0 where
  pub left : ℕ
  pub gave_up : Bool
  pub taken : ℕ

-- with all else
abbrev pub budgeted : {R : Type 0} → Budget → R → Budgeted R
budgeted b rest = record { left = b.left; gave_up = b.gave_up; taken = b.taken; rest = rest }

abbrev pub budget_of : {R : Type 0} → Budgeted R → Budget
budget_of s = record { left = s.left; gave_up = s.gave_up; taken = s.taken }

-- a page has few enough lines that no count is too large
abbrev pub IsCounted : Budget → Type 0
IsCounted b = b.left + b.taken ≤ 2 ^ 63

abbrev pub first_budget : Budget
first_budget = record { left = 0; gave_up = false; taken = 0 }

-- between two lines of a page of which this many lines were taken
abbrev pub budget_at : ℕ → Budget
budget_at taken = record { left = 0; gave_up = false; taken = taken }

-- a source line has a budget of its own
abbrev pub renewed : Budget → Budget
renewed b = record { left = REREAD; gave_up = false; taken = b.taken }

-- and is taken itself
abbrev pub begun : Budget → Budget
begun b = record { left = REREAD; gave_up = false; taken = b.taken + 1 }

-- one re-read line; whether it is the one beyond the budget
abbrev pub charged_by : Bool → ℕ → Budget → Budget
charged_by true left b = b
charged_by false zero b = record { left = 0; gave_up = true; taken = b.taken }
charged_by false (suc left) b = record { left = left; gave_up = false; taken = b.taken + 1 }

abbrev pub charged : Budget → Budget
charged b = charged_by b.gave_up b.left b

abbrev pub exhausts_by : Bool → ℕ → Bool
exhausts_by true left = false
exhausts_by false zero = true
exhausts_by false (suc left) = false

abbrev pub exhausts : Budget → Bool
exhausts b = exhausts_by b.gave_up b.left
