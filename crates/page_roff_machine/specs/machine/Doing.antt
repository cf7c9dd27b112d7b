-- What the parts of sources do under the budget of the source line: the code's own form of it. Trust needs no reading of it.
use Rattle.std.specs.Prelude.{◌≡◌, ℕ, ◌≤◌, ◌^◌, Bool, true, false, List, [], ◌∷◌, ◌++◌, map, Option, Some, None}
use Rattle.page_core_base.specs.Messages.{Message}
use Rattle.page_core_base.specs.declared.page_settings.Output.{Output}
use Rattle.page_roff_heads.specs.declared.loops.LoopHead.{LoopHead}
use Rattle.page_roff_blocks.specs.declared.line_parts.Branch.{Branch}
use Rattle.page_roff_syntax.specs.declared.region_heads.RegionHead.{RegionHead}
use Rattle.page_roff_blocks.specs.declared.block_cursors.Reached.{Reached}
use Rattle.page_roff_syntax.specs.Regions.{Opened}
use Rattle.page_roff_blocks.specs.machine.Steps.{Meaning, meet_as, value, keep_if}
use Rattle.page_roff_values.specs.Values.{arguments_in, lines_in}
use Rattle.page_core_base.specs.laws.Views.{Came}
use Rattle.page_roff_blocks.specs.machine.Languages.{Kind, Done, gives, calls, repeats, Language, Budgeted, charge, begin_line, meaning, language, Budget, budgeted}
use Rattle.page_roff_effects.specs.declared.commands.ProductKind.{ProductKind}
use Rattle.page_roff_effects.specs.declared.commands.ProductKind.TheVariants as kinds
use Rattle.page_roff_effects.specs.machine.Acting.{Acting, acting_effects, acting_setting}
use Rattle.page_roff_effects.specs.Regions.{condition_in, body_in}
use Rattle.page_roff_effects.specs.laws.Views.{State}
use Rattle.page_roff_effects.specs.States.{Given, says, takes}
use Rattle.page_roff_stack.specs.machine.Stacks.{is_page}
use Rattle.page_roff_machine.specs.declared.budgeted_actions.BudgetedActions.{BudgetedActions}

abbrev pub output_of : BudgetedActions → Output
output_of b = b.actions.setting.output

-- the state, where this was given before
abbrev pub state_in : List Given → BudgetedActions → Budgeted State
state_in given b = budgeted b.budget (record { memory = b.actions.memory; out = given })

-- the arguments are those of the source that runs
abbrev pub IsIn : Kind → BudgetedActions → Type 0
IsIn kind b = b.actions.setting ≡ acting_setting (output_of b) kind

-- it is the page that runs, or not; and a page has few enough lines that no count is too large
pub record IsAt (is_page_now : Bool) (b : BudgetedActions) (kind : Kind) : Type 0 where
  pub page : is_page kind ≡ is_page_now
  pub setting : IsIn kind b

abbrev pub HasRoom : Bool → Budget → Type 0
HasRoom true b = b.taken ≤ 2 ^ 62
HasRoom false b = Unit {0}

-- A call did what the definitions do to the state, whatever was given before: its messages came after it.
pub record Makes {P S A : Type 0} (left : P → S → List Message → Type 0) (old : BudgetedActions) (out : S)
    (suits : Kind → Type 0) (does : Kind → Budgeted State → A) (new : BudgetedActions)
    (to : BudgetedActions → List Given → A) (out_new : S) : Type 0 where
  pub setting : new.actions.setting ≡ old.actions.setting
  pub notes : List Message
  pub came : Came left out notes out_new
  pub state : (kind : Kind) → suits kind → (given : List Given) → does kind (state_in given old)
      ≡ to new (given ++ map says notes)

-- this is the state then, with an answer or not
abbrev pub state_after : BudgetedActions → List Given → Budgeted State
state_after b given = state_in given b

abbrev pub answer_with : {A : Type 0} → A → BudgetedActions → List Given → A × Budgeted State
answer_with result b given = (result, state_in given b)

-- where the arguments are those of the source that runs
abbrev pub Does : {P S : Type 0} → (P → S → List Message → Type 0) → BudgetedActions → S
    → (Kind → Budgeted State → Budgeted State) → BudgetedActions → S → Type 0
Does left old out does new out_new =
    Makes left old out (λ kind. IsIn kind old) does new state_after out_new

-- the same with an answer
abbrev pub Answers : {P S A : Type 0} → (P → S → List Message → Type 0) → BudgetedActions → S
    → (Kind → Budgeted State → A × Budgeted State) → A → BudgetedActions → S → Type 0
Answers left old out does result new out_new =
    Makes left old out (λ kind. IsIn kind old) does new (answer_with result) out_new

-- ---- what is done

abbrev pub parts_of : BudgetedActions → Kind → Meaning (Budgeted State)
parts_of b kind = meaning (acting_effects (output_of b)) kind

abbrev pub charged_in : BudgetedActions → Kind → Budgeted State → Budgeted State
charged_in b kind s = charge (acting_effects (output_of b)) s

abbrev pub begun_in : BudgetedActions → Kind → Budgeted State → Budgeted State
begun_in b kind s = begin_line (acting_effects (output_of b)) kind s

abbrev pub met_in : BudgetedActions → Reached → Kind → Budgeted State → Bool × Budgeted State
met_in b reached kind s = meet_as (parts_of b kind) reached s

abbrev pub value_in : BudgetedActions → Branch (List ℕ) → Bool → Kind → Budgeted State → Bool × Budgeted State
value_in b branch bit kind s = value (parts_of b kind) branch bit s

-- the value of a head, where it is run
abbrev pub answer_if : {S : Type 0} → Meaning S → Branch (List ℕ) → Bool → Bool → S → Option Bool × S
answer_if m branch bit true s = let v = value m branch bit s in (Some v.0, v.1)
answer_if m branch bit false s = (None, s)

abbrev pub answer_after : {S : Type 0} → Meaning S → Branch (List ℕ) → Bool → Bool × S → Option Bool × S
answer_after m branch bit q = answer_if m branch bit q.0 q.1

abbrev pub answer_in : BudgetedActions → Branch (List ℕ) → Bool → Reached → Kind → Budgeted State
    → Option Bool × Budgeted State
answer_in b branch bit reached kind s = answer_after (parts_of b kind) branch bit (met_in b reached kind s)

-- the head of a region
abbrev pub region_after : {S : Type 0} → Meaning S → RegionHead (List ℕ) → Bool × S → Bool × S
region_after m head q = (q.0, m.opens_region head q.0 q.1)

abbrev pub region_in : BudgetedActions → RegionHead (List ℕ) → Reached → Kind → Budgeted State
    → Bool × Budgeted State
region_in b head reached kind s = region_after (parts_of b kind) head (met_in b reached kind s)

-- the head of a loop, where it is run
abbrev pub opens_if : {S : Type 0} → Meaning S → LoopHead (List ℕ) → Bool → S → Bool × S
opens_if m head true s = (true, m.opens_loop head s)
opens_if m head false s = (false, s)

abbrev pub opens_after : {S : Type 0} → Meaning S → LoopHead (List ℕ) → Bool × S → Bool × S
opens_after m head q = opens_if m head q.0 q.1

abbrev pub opened_in : BudgetedActions → LoopHead (List ℕ) → Reached → Kind → Budgeted State → Bool × Budgeted State
opened_in b head reached kind s = opens_after (parts_of b kind) head (met_in b reached kind s)

-- a loop that is collected is whole
abbrev pub closed_in : BudgetedActions → Bool → Kind → Budgeted State → Done (Budgeted State)
closed_in b may_run kind s = (language (acting_effects (output_of b))).closes may_run s

-- a loop without a block, where it is run
abbrev pub closes_if : {S : Type 0} → Language S → Bool → Bool → S → Done S
closes_if l may_run true s = l.closes may_run s
closes_if l may_run false s = gives s

abbrev pub closes_after : {S : Type 0} → Language S → Bool → Bool × S → Done S
closes_after l may_run q = closes_if l may_run q.0 q.1

abbrev pub passed_in : BudgetedActions → Bool → LoopHead (List ℕ) → Reached → Kind → Budgeted State → Done (Budgeted State)
passed_in b may_run head reached kind s = closes_after (language (acting_effects (output_of b))) may_run (opened_in b head reached kind s)

-- a text, and what of a line, belongs to a loop that is collected
abbrev pub kept_in : BudgetedActions → List ℕ → Kind → Budgeted State → Budgeted State
kept_in b text kind s = (parts_of b kind).keeps text s

abbrev pub collected_in : BudgetedActions → ℕ → List ℕ → Kind → Budgeted State → Budgeted State
collected_in b open_blocks line kind s = (parts_of b kind).collects open_blocks line s

-- a turn of a loop
abbrev pub turned_in : BudgetedActions → List ℕ → Kind → Budgeted State → Bool × Budgeted State
turned_in b condition kind s = (language (acting_effects (output_of b))).turn kind condition s

-- a line that heads nothing, where it is run
abbrev pub leaf_if : {S : Type 0} → Language S → Bool → Kind → List ℕ → Bool → S → Done S
leaf_if l may_call kind text true s = l.leaf may_call kind text s
leaf_if l may_call kind text false s = gives s

abbrev pub leaf_after : {S : Type 0} → Language S → Bool → Kind → List ℕ → Bool × S → Done S
leaf_after l may_call kind text q = leaf_if l may_call kind text q.0 q.1

abbrev pub leaf_in : BudgetedActions → Bool → List ℕ → Reached → Kind → Budgeted State → Done (Budgeted State)
leaf_in b may_call text reached kind s =
    leaf_after (language (acting_effects (output_of b))) may_call kind text (met_in b reached kind s)

-- what came of it: a line that was taken is given, and a call or a loop is lent
abbrev pub line_of : ProductKind → Acting → List Given
line_of kinds.Line a = takes a.line ∷ []
line_of _ a = []

abbrev pub line_after : ProductKind → BudgetedActions → List Given → Budgeted State
line_after product b given = state_in (given ++ line_of product b.actions) b

abbrev pub done_as : ProductKind → BudgetedActions → List Given → Done (Budgeted State)
done_as kinds.Nothing b given = gives (state_in given b)
done_as kinds.Line b given = gives (state_in (given ++ (takes b.actions.line ∷ [])) b)
done_as kinds.Call b given =
    calls (lines_in b.actions.call.body) (arguments_in b.actions.call.packed) (state_in given b)
done_as kinds.Loop b given =
    repeats (condition_in b.actions.call.body) (body_in b.actions.call.body) (state_in given b)

-- a line of a region; and its end line, whose text decides nothing more
abbrev pub read_in : BudgetedActions → Opened → List ℕ → Kind → Budgeted State → Budgeted State
read_in b o line kind s = (parts_of b kind).reads o line s

abbrev pub ended_in : BudgetedActions → Opened → Kind → Budgeted State → Budgeted State
ended_in b o kind s = (parts_of b kind).ends_region o [] s

-- both belong to the loop around the region, if one is collected
abbrev pub read_kept_in : BudgetedActions → Bool → Opened → List ℕ → Kind → Budgeted State → Budgeted State
read_kept_in b in_loop o line kind s = keep_if (parts_of b kind) in_loop line (read_in b o line kind s)

abbrev pub ended_kept_in : BudgetedActions → Bool → Opened → List ℕ → Kind → Budgeted State → Budgeted State
ended_kept_in b in_loop o line kind s = keep_if (parts_of b kind) in_loop line (ended_in b o kind s)

-- a source that was begun, or a turn of it, ends
abbrev pub finished_in : BudgetedActions → Bool → Option Opened → Bool → Kind → Budgeted State → Budgeted State
finished_in b true region in_loop kind s = (language (acting_effects (output_of b))).finish region in_loop s
finished_in b false region in_loop kind s = s

-- the end of a block where none is open
abbrev pub unopened_in : BudgetedActions → Kind → Budgeted State → Budgeted State
unopened_in b kind s = (parts_of b kind).unopened s
