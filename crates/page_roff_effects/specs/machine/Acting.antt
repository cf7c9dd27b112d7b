-- A machine: the parts of a source as effects on what is remembered and given. That a source does by them what the definitions say is the law
-- `forest_law` of `page_roff_source`; trust needs no reading of it.
use Rattle.std.specs.Prelude.{ℕ, Bool, List, ◌++◌, ◌≡◌, ◌≤◌, nat_le, true, [], ◌∷◌, length, Option, None, if◌then◌else◌, unwrap_or, ◌+◌, ◌<◌, false}
use Rattle.page_roff_heads.specs.Conditions.{condition_of}
use Rattle.page_roff_values.specs.Answers.{Answer}
use Rattle.page_roff_blocks.specs.machine.Languages.{Kind, arguments_of, Done, gives, calls, repeats, Budgeted, Effects}
use Rattle.page_roff_effects.specs.States.{answer_of, test_outcome, budget_outcome, block_outcome, end_of_block_outcome, Memory, Given, PartOutcome, Product, no_product, line_product, call_product, loop_product, TextSetting, first_memory, surroundings, counted}
use Rattle.page_roff_effects.specs.laws.Views.{State, after}
use Rattle.page_roff_effects.specs.Lines.{leaf_outcome, called_body, request_command}
use Rattle.page_roff_effects.specs.Regions.{loop_outcome, collect_outcome, close_outcome, head_outcome, line_outcome, end_outcome, finish_outcome, condition_in, body_in}
use Rattle.page_core_base.specs.Limits.{ARGS, BODY, LINE}
use Rattle.page_core_base.specs.Messages.{Message}
use Rattle.page_core_base.specs.Texts.{TakenLine}
use Rattle.page_core_base.specs.laws.Views.{line_view, Came, key_at}
use Rattle.page_core_base.specs.declared.lines_taken.Form.{Form}
use Rattle.page_core_base.specs.declared.lines_taken.Form.TheVariants.{Text, Blank}
use Rattle.page_core_base.specs.declared.page_settings.Output.{Output}
use Rattle.page_roff_blocks.specs.declared.line_parts.LinePart.TheVariants.{Leaf}
use Rattle.page_roff_blocks.specs.Parts.{line_parts, keyword_in, keyword_of}
use Rattle.page_roff_syntax.specs.Arguments.{arguments}
use Rattle.page_roff_syntax.specs.LineForms.{has_word}
use Rattle.page_roff_syntax.specs.Requests.{request_of}
use Rattle.page_roff_values.specs.Values.{TextSoFar, LaidText, arguments_in, expanded, lines_in, units_of}
use Rattle.page_roff_definitions.specs.Definitions.{closings_notes, packed}
use Rattle.page_roff_definitions.specs.machine.Buffers.{MacroCall}
use Rattle.page_roff_effects.specs.declared.at_once.AtOnce.{AtOnce}
use Rattle.page_roff_effects.specs.declared.at_once.AtOnce.TheVariants as ways
use Rattle.page_roff_effects.specs.declared.commands.Command.TheVariants.{Pass}
use Rattle.page_roff_effects.specs.declared.commands.ProductKind.{ProductKind}
use Rattle.page_roff_effects.specs.declared.commands.ProductKind.TheVariants as kinds
use Rattle.page_roff_effects.specs.Lines as leaves
use Rattle.page_roff_effects.specs.declared.leaves.ControlLine.{ControlLine}

-- what a part of such a source reads
abbrev pub setting_of : (List ℕ → ℕ) → Kind → TextSetting
setting_of units kind = record { units = units; arguments = arguments_of kind }

-- that of a turn of a loop is read from its own text, of which the first byte is in column 1
abbrev pub turn_answer : TextSetting → List ℕ → Memory → Answer
turn_answer setting condition m = answer_of setting (condition_of 1 condition) m

-- a call of a macro and a loop are left to the source, all else is done
unfoldable pub done_by : Product → State → Done State
done_by no_product s = gives s
done_by (line_product line) s = gives s
done_by (call_product lines arguments) s = calls lines arguments s
done_by (loop_product condition lines) s = repeats condition lines s

unfoldable pub done_after : State → PartOutcome → Done State
done_after s o = done_by o.product (after s o)

unfoldable pub tested_after : State → Answer → Bool × State
tested_after s answer = (answer.holds, after s (test_outcome answer s.memory))

-- where a finished text is so many basic units wide
unfoldable pub effects : (List ℕ → ℕ) → Effects State
effects units =
    record {
      exhausts = λ s. after s (budget_outcome s.memory);
      tests = λ kind condition s. tested_after s (answer_of (setting_of units kind) condition s.memory);
      leaf = λ may_call kind text s. done_after s (leaf_outcome (setting_of units kind) may_call text s.memory);
      refuses = λ head s. after s (block_outcome head.column s.memory);
      unopened = λ s. after s (end_of_block_outcome s.memory);
      opens_region = λ kind head is_run s. after s (head_outcome head is_run s.memory);
      reads = λ kind o is_run line s. after s (line_outcome (setting_of units kind) o is_run line s.memory);
      ends_region = λ kind o is_run line s. after s (end_outcome o is_run s.memory);
      opens_loop = λ head s. after s (loop_outcome head s.memory);
      collects = λ is_run line s. after s (collect_outcome is_run line s.memory);
      closes = λ is_run may_call s. done_after s (close_outcome is_run may_call s.memory);
      turns = λ kind condition s. tested_after s (turn_answer (setting_of units kind) condition s.memory);
      finish = λ region in_loop gave_up s. after s (finish_outcome region in_loop gave_up s.memory);
    }

-- ---- laws

-- how many interpolations were made
abbrev pub expansions_of : State → ℕ
expansions_of s = s.memory.expansions

-- what was given before is in front
abbrev pub given_before : List Given → State → State
given_before given s = record { memory = s.memory; out = given ++ s.out }

abbrev pub in_front : List Given → Budgeted State → Budgeted State
in_front given s = record { left = s.left; gave_up = s.gave_up; taken = s.taken; rest = given_before given s.rest }

-- ---- What the code's object holds, and what its calls do, in terms of the effects of parts. Trust needs no reading of it.
-- Source: roff(7), "LANGUAGE SYNTAX".

-- the output, and the arguments of the macro that runs, if one does
pub record ActingSetting : Type 0 where
  pub output : Output
  pub arguments : Option (List (List ℕ))

-- the code measures any bytes
abbrev pub measured : ActingSetting → TextSetting
measured setting = record { units = units_of setting.output; arguments = setting.arguments }

abbrev pub acting_setting : Output → Kind → ActingSetting
acting_setting output kind = record { output = output; arguments = arguments_of kind }

abbrev pub acting_effects : Output → Effects State
acting_effects output = effects (units_of output)

-- What decides, what is remembered, the line as far as it is expanded, and what was taken last: a line, and a call.
pub record Acting : Type 0 where
  pub setting : ActingSetting
  pub memory : Memory
  pub finished : TextSoFar
  pub line : TakenLine
  pub call : MacroCall

abbrev pub first_setting : Output → ActingSetting
first_setting output = record { output = output; arguments = None }

-- what comes of a part, as the code says it
abbrev pub kind_of : Product → ProductKind
kind_of no_product = kinds.Nothing
kind_of (line_product line) = kinds.Line
kind_of (call_product lines arguments) = kinds.Call
kind_of (loop_product condition lines) = kinds.Loop

-- a call of these lines with these arguments, within the limits of its texts
pub record IsCallOf (lines arguments : List (List ℕ)) (call : MacroCall) : Type 0 where
  pub runs : lines_in call.body ≡ lines
  pub passes : arguments_in call.packed ≡ arguments
  pub body : length call.body ≤ BODY
  pub packed : length call.packed ≤ ARGS

-- what came of a part is what is lent
abbrev pub Lends : Product → Acting → Type 0
Lends no_product a = Unit {0}
Lends (line_product line) a = a.line ≡ line
Lends (call_product lines arguments) a = IsCallOf lines arguments a.call
Lends (loop_product condition lines) a = (condition_in a.call.body ≡ condition) × (body_in a.call.body ≡ lines)

-- one more macro may run, and this one is within the limits
pub record IsCallable (may_call : Bool) (call : MacroCall) : Type 0 where
  pub room : may_call ≡ true
  pub body : length call.body ≤ BODY
  pub packed : length call.packed ≤ ARGS

-- what comes of a leaf: it may be a call, of which something is true, and is no loop
abbrev pub IfCalled : ProductKind → Type 0 → Type 0
IfCalled kinds.Nothing P = Unit {0}
IfCalled kinds.Line P = Unit {0}
IfCalled kinds.Call P = P
IfCalled kinds.Loop P = ⊥

-- one more loop may run, and the text of this one is within its limit
pub record IsRepeatable (may_call : Bool) (text : List ℕ) : Type 0 where
  pub room : may_call ≡ true
  pub short : length text ≤ BODY

-- what comes of a loop that is whole: nothing, or the loop, of which something is true
abbrev pub IfRepeated : ProductKind → Type 0 → Type 0
IfRepeated kinds.Nothing P = Unit {0}
IfRepeated kinds.Line P = ⊥
IfRepeated kinds.Call P = ⊥
IfRepeated kinds.Loop P = P

-- a call did what an outcome says: its messages came, and this is remembered
pub record Does {P S : Type 0} (left : P → S → List Message → Type 0) (old : Acting) (out : S) (o : PartOutcome) (new : Acting) (out_new : S) : Type 0 where
  pub setting : new.setting ≡ old.setting
  pub memory : new.memory ≡ o.memory
  pub came : Came left out o.notes out_new

-- and it answered what comes of the part, which is lent from then on
pub record Gives {P S : Type 0} (left : P → S → List Message → Type 0) (old : Acting) (out : S) (o : PartOutcome) (result : ProductKind) (new : Acting) (out_new : S) : Type 0 where
  pub does : Does left old out o new out_new
  pub kind : result ≡ kind_of o.product
  pub lends : Lends o.product new

-- a condition was tested
pub record Tests {P S : Type 0} (left : P → S → List Message → Type 0) (old : Acting) (out : S) (answer : Answer) (result : Bool) (new : Acting) (out_new : S) : Type 0 where
  pub does : Does left old out (test_outcome answer old.memory) new out_new
  pub holds : result ≡ answer.holds

-- a line was expanded
abbrev pub with_finished : LaidText → Acting → Acting
with_finished laid a =
    record {
      setting = a.setting;
      memory = counted laid.edge.count a.memory;
      finished = laid.edge;
      line = a.line;
      call = a.call;
    }

abbrev pub Expands : {P S : Type 0} → (P → S → List Message → Type 0) → S → S → TextSoFar → LaidText → Type 0
Expands left old new edge laid = (edge ≡ laid.edge) × Came left old laid.notes new

abbrev pub line_laid : Bool → List ℕ → Acting → LaidText
line_laid copy text a = expanded (surroundings copy (measured a.setting) a.memory) a.memory.number text

-- a line was expanded, or is what it gives and was not copied
abbrev pub text_given : Bool → List ℕ → Acting → List ℕ
text_given kept text a = if kept then text else a.finished.text

pub record ExpandsOrKeeps {P S : Type 0} (left : P → S → List Message → Type 0) (copy : Bool) (old : Acting) (out : S) (text : List ℕ) (kept : Bool)
    (new : Acting) (out_new : S) : Type 0 where
  pub setting : new.setting ≡ old.setting
  pub memory : new.memory ≡ counted (line_laid copy text old).edge.count old.memory
  pub given : text_given kept text new ≡ (line_laid copy text old).edge.text
  pub came : Came left out (line_laid copy text old).notes out_new

abbrev pub with_arguments : Option (List (List ℕ)) → Acting → Acting
with_arguments arguments a = record a { setting = record { output = a.setting.output; arguments = arguments } }

abbrev pub with_number : ℕ → Acting → Acting
with_number number a = record a {
  memory = record { definitions = a.memory.definitions; body = a.memory.body; number = number; expansions = a.memory.expansions };
}

-- something came of a part, without a message
pub record Takes (old : Acting) (o : PartOutcome) (result : ProductKind) (new : Acting) : Type 0 where
  pub setting : new.setting ≡ old.setting
  pub memory : new.memory ≡ o.memory
  pub kind : result ≡ kind_of o.product
  pub lends : Lends o.product new

-- a name heads nothing, as one that is no request, and is left to the set of macros where it calls no macro
abbrev pub IsOrdinary : List ℕ → Type 0
IsOrdinary name = (request_command (request_of name) ≡ Pass) × (keyword_of name ≡ keyword_in None)

-- nothing is decided otherwise
pub record IsLeft (old new : Acting) : Type 0 where
  pub setting : new.setting ≡ old.setting
  pub memory : new.memory ≡ old.memory

-- a raw line that is one part was taken as this line, without a message, whether one more macro may run or not
pub record IsTaken (old : Acting) (raw : List ℕ) (outcome : Bool → PartOutcome) (line : TakenLine) (new : Acting) : Type 0 where
  pub leaf : line_parts raw ≡ Leaf raw ∷ []
  pub left : IsLeft old new
  pub short : length line.text ≤ LINE
  pub given : (may_call : Bool) → outcome may_call ≡ record { notes = []; product = line_product line; memory = old.memory }

-- it called a macro without a message, where one more may run
pub record IsCalled (old : Acting) (raw : List ℕ) (outcome : Bool → PartOutcome) (new : Acting) : Type 0 where
  pub leaf : line_parts raw ≡ Leaf raw ∷ []
  pub left : IsLeft old new
  pub given : outcome true ≡ record { notes = []; product = call_product (lines_in new.call.body) (arguments_in new.call.packed); memory = old.memory }
  pub fits : IsCallable true new.call

-- what came of a raw line at once
abbrev pub TakesIf : AtOnce → Acting → List ℕ → (Bool → PartOutcome) → Acting → Type 0
TakesIf ways.Nothing old raw outcome new = IsLeft old new
TakesIf (ways.Line taken) old raw outcome new = IsTaken old raw outcome (line_view taken) new
TakesIf ways.Call old raw outcome new = IsCalled old raw outcome new

-- the call of the macro of a name, with the arguments in the rest of its line, has no message
pub record IsQuiet (name rest : List ℕ) (column : ℕ) (m : Memory) (call : MacroCall) : Type 0 where
  pub body : call.body ≡ unwrap_or (called_body name m.definitions) []
  pub packs : call.packed ≡ packed (arguments column rest)
  pub fits : nat_le (length (packed (arguments column rest))) ARGS ≡ true
  pub closed : closings_notes m.number (arguments column rest) ≡ []

-- it was called, if that has no message
abbrev pub CallsIf : AtOnce → List ℕ → List ℕ → ℕ → Acting → Acting → Type 0
CallsIf ways.Nothing name rest column old new = IsLeft old new
CallsIf (ways.Line taken) name rest column old new = ⊥
CallsIf ways.Call name rest column old new = IsLeft old new × IsQuiet name rest column old.memory new.call

-- an object between two lines remembers this
pub record Remembers (output : Output) (remembered : Memory) (a : Acting) : Type 0 where
  pub setting : a.setting ≡ first_setting output
  pub memory : a.memory ≡ remembered

-- a new object remembers nothing
pub record IsNew (output : Output) (a : Acting) : Type 0 where
  pub setting : a.setting ≡ first_setting output
  pub memory : a.memory ≡ first_memory

-- ---- of the program, with what its texts hold

abbrev pub control_view : ControlLine → leaves.ControlLine
control_view line =
    record { name = line.name.now; column = line.column; name_end = line.name_end; text = line.text.now }

-- the form of a line of plain text
abbrev pub plain_form : List ℕ → Form
plain_form line = if has_word line then Text else Blank

-- ---- A fast way of the code, which no public clause cites: a part of a raw line in which no comment, no end of a block and no interpolation begins. Trust
-- needs no reading of it.
-- Source: roff(7), "LANGUAGE SYNTAX" and "Escape sequences".

-- at none of this many places from one on
abbrev pub IsFreeFrom : ℕ → ℕ → List ℕ → Type 0
IsFreeFrom at n line = (k : ℕ) → at ≤ k → k < at + n → key_at line k ≡ false
