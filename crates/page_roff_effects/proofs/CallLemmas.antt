-- A call that a line gives is within its limits: helpers of proofs.
use Rattle.std.proofs.Common.{arith, ◌≡◌, ℕ, Bool, true, false, ◌==◌, ◌&&◌, List, length, refl, if◌then◌else◌}
use Rattle.page_roff_syntax.specs.LineForms.{form_of}
use Rattle.page_roff_syntax.specs.declared.line_forms.LineForm.{LineForm}
use Rattle.page_roff_syntax.specs.declared.line_forms.LineForm.TheVariants.{Control}
use Rattle.page_roff_effects.specs.declared.commands.Command.{Command}
use Rattle.page_roff_effects.specs.declared.commands.Command.TheVariants.{Call}
use Rattle.page_roff_effects.specs.declared.commands.ProductKind.{ProductKind}
use Rattle.page_roff_effects.specs.machine.Acting.{Acting, kind_of, Lends, IsCallable, IfCalled}
use Rattle.page_roff_effects.specs.Lines.{command_of, ControlLine, call_if, does, command_outcome, control_outcome, control_line, form_outcome, leaf_outcome}
use Rattle.page_roff_effects.specs.States.{Memory, PartOutcome, Product, no_product, line_product, call_product, loop_product, TextSetting, nothing}

IsWithin : Bool → Product → Type 0
IsWithin may_call no_product = Unit {0}
IsWithin may_call (line_product line) = Unit {0}
IsWithin may_call (call_product lines arguments) = may_call ≡ true
IsWithin may_call (loop_product condition lines) = ⊥

call_if_within : (may_call fits : Bool) (body bytes : List ℕ) (m : Memory) → IsWithin may_call (call_if (may_call && fits) body bytes m).product
unfolding IsWithin
call_if_within true true body bytes m = refl
call_if_within true false body bytes m = tt
call_if_within false fits body bytes m = tt

does_within : (may_call : Bool) (command : Command) (line : ControlLine) (text : List ℕ) (m : Memory)
    → IsWithin may_call (does may_call command line text m).product
unfolding IsWithin
does_within may_call Call line text m = call_if_within may_call _ _ _ m
does_within may_call _ line text m = tt

command_within : (setting : TextSetting) (may_call : Bool) (command : Command) (line : ControlLine) (m : Memory)
    → IsWithin may_call (command_outcome setting may_call command line m).product
unfolding command_outcome
command_within setting may_call command line m = does_within may_call command line _ _

control_by : (is_empty may_call : Bool) (o : PartOutcome) (m : Memory)
    → IsWithin may_call o.product → IsWithin may_call (if is_empty then nothing m else o).product
unfolding IsWithin
control_by true may_call o m h = tt
control_by false may_call o m h = h

control_within : (setting : TextSetting) (may_call : Bool) (line : ControlLine) (m : Memory)
    → IsWithin may_call (control_outcome setting may_call line m).product
unfolding control_outcome
control_within setting may_call line m = grind (arith, control_by, command_within)

form_within : (setting : TextSetting) (may_call : Bool) (raw : List ℕ) (form : LineForm (List ℕ)) (m : Memory)
    → IsWithin may_call (form_outcome setting may_call raw form m).product
unfolding IsWithin
form_within setting may_call raw (Control name column rest rest_column) m = grind (arith, control_within)
form_within setting may_call raw _ m = tt

leaf_within : (setting : TextSetting) (may_call : Bool) (raw : List ℕ) (m : Memory)
    → IsWithin may_call (leaf_outcome setting may_call raw m).product
unfolding leaf_outcome
leaf_within setting may_call raw m = form_within setting may_call raw (form_of raw) m

if_called : (p : Product) (may_call : Bool) (a : Acting) → Lends p a → IsWithin may_call p → IfCalled (kind_of p) (IsCallable may_call a.call)
unfolding IsWithin
if_called no_product may_call a lends within = tt
if_called (line_product line) may_call a lends within = tt
if_called (call_product lines arguments) may_call a lends within = record { room = within; body = lends.body; packed = lends.packed }
if_called (loop_product condition lines) may_call a lends within = within

-- what is lent as a call can be called
pub leaf_callable : (setting : TextSetting) (may_call : Bool) (raw : List ℕ) (m : Memory) (result : ProductKind) (a : Acting)
    → result ≡ kind_of (leaf_outcome setting may_call raw m).product → Lends (leaf_outcome setting may_call raw m).product a
    → IfCalled result (IsCallable may_call a.call)
leaf_callable setting may_call raw m result a kind lends = grind (arith, if_called, leaf_within)
