-- Free lines are taken as they are written: helpers of proofs.
use Rattle.std.proofs.Common.{◌≡◌, ℕ, ◌+◌, ◌-◌, ◌≤◌, ◌==◌, nat_le, Bool, true, false, List, [], ◌∷◌, length, take, drop, Option, None, Some, is_some, unwrap_or, if◌then◌else◌, inl, inr, refl, sym, ap, ap₂, ◌∙◌, arith}
use Rattle.std.proofs.lemmas.Bool.{cases_Bool}
use Rattle.std.proofs.lemmas.Bool.Decides.{nat_tests}
use Rattle.std.proofs.lemmas.List.{length-take-le}
use Rattle.std.proofs.lemmas.List.Sums.{prefix_len-le-length}
use Rattle.page_core_base.specs.declared.limits.TheConstants.{ARGS, BODY, LINE}
use Rattle.page_core_base.specs.declared.lines_taken.Form.TheVariants as forms
use Rattle.page_roff_syntax.specs.Arguments.{arguments}
use Rattle.page_roff_syntax.specs.LineForms.{control_line, form_of, has_word, is_control, is_name, name_len, name_start, uncommented_form, without_comment}
use Rattle.page_roff_syntax.specs.laws.Views.{name_of}
use Rattle.page_roff_syntax.specs.Requests.{request_of}
use Rattle.page_roff_syntax.specs.declared.line_forms.LineForm.{LineForm}
use Rattle.page_roff_syntax.specs.declared.line_forms.LineForm.TheVariants.{BlankLine, Text}
use Rattle.page_roff_syntax.specs.declared.quotes.Argument.{Argument}
use Rattle.page_roff_blocks.specs.Parts.{line_parts}
use Rattle.page_roff_blocks.specs.declared.line_parts.LinePart.TheVariants.{Leaf}
use Rattle.page_roff_blocks.proofs.LinePartLemmas.{one_leaf, plain_named, plain_nameless}
use Rattle.page_roff_values.specs.machine.Rest.{GivesItself}
use Rattle.page_roff_names.specs.Names.{Definitions, body_of}
use Rattle.page_roff_definitions.specs.Definitions.{closings_notes, packed}
use Rattle.page_roff_definitions.specs.machine.Buffers.{MacroCall, Packs}
use Rattle.page_roff_values.specs.Values.{arguments_in, lines_in}
use Rattle.page_roff_effects.specs.declared.at_once.AtOnce.{AtOnce}
use Rattle.page_roff_effects.specs.declared.at_once.AtOnce.TheVariants as ways
use Rattle.page_roff_effects.specs.declared.commands.Command.TheVariants.{Call, Pass}
use Rattle.page_roff_effects.specs.machine.Acting.{Acting, measured, plain_form, CallsIf, IsCallable, IsOrdinary, IsQuiet, TakesIf}
use Rattle.page_core_base.specs.laws.Views.{IsFreeLine}
use Rattle.page_roff_effects.specs.Lines.{called_body, command_of, command_or, request_command, ControlLine, calls, control_outcome, command_outcome, does, leaf_outcome, rest_column, rest_of, text_outcome, within_limit}
use Rattle.page_roff_effects.specs.States.{Memory, PartOutcome, TextSetting, call_product, gives_line, surroundings}
use Rattle.page_roff_effects.proofs.FreeLemmas.{free_itself, uncommented, unended, counted_none}

-- ---- lines that are no control lines

text_taken : (setting : TextSetting) (text : List ℕ) (m : Memory) → GivesItself text → text_outcome setting text m ≡ gives_line forms.Text text 0 m
text_taken setting text m g = grind (arith, counted_none)

text_form : (line : List ℕ) → has_word line ≡ true → name_of (uncommented_form line) ≡ None → uncommented_form line ≡ Text line
text_form [] w e = let no : ⊥ = cc in absurd no
text_form (x ∷ xs) w e = grind (arith, cases_Bool)

pub free_text : (setting : TextSetting) (line : List ℕ) (m : Memory) → IsFreeLine line → length line ≤ LINE → name_of (form_of line) ≡ None
    → (may_call : Bool) → leaf_outcome setting may_call line m ≡ gives_line (plain_form line) line 0 m
unfolding leaf_outcome
free_text setting line m h short e may_call =
    elim (cases_Bool (has_word line)) [
      | inl w ↦
          let u = uncommented line h in
          let f = text_form line w (rw (w, u) at e) in
          rw (w, u, f) (text_taken setting line m (free_itself line h short))
      | inr w ↦ rw w refl
    ]

pub free_leaf : (line : List ℕ) → IsFreeLine line → name_of (form_of line) ≡ None → line_parts line ≡ Leaf line ∷ []
free_leaf line h e = one_leaf line (plain_nameless line e) (unended line h)

-- ---- control lines

control_taken : (setting : TextSetting) (may_call : Bool) (line : ControlLine) (m : Memory) → (length line.name == 0) ≡ false → command_of line.name m.definitions ≡ Pass
    → GivesItself line.text → control_outcome setting may_call line m ≡ gives_line forms.Control line.text line.name_end m
unfolding control_outcome command_outcome
control_taken setting may_call line m n p g = grind (arith, counted_none)

abbrev gives_call : MacroCall → Memory → PartOutcome
gives_call call m = record { notes = []; product = call_product (lines_in call.body) (arguments_in call.packed); memory = m }

calls_closed : (column : ℕ) (body : List ℕ) (args : List (Argument (List ℕ))) (m : Memory) → closings_notes m.number args ≡ [] → nat_le (length (packed args)) ARGS ≡ true
    → calls true column body args m ≡ (let call : MacroCall = record { body = body; packed = packed args } in gives_call call m)
calls_closed column body args m c f = rw (c, f) refl

quiet_call : (line : ControlLine) (text : List ℕ) (m : Memory) (call : MacroCall) → IsQuiet line.name (rest_of line text) (rest_column line) m call
    → does true Call line text m ≡ gives_call call m
quiet_call line text m call q = grind (arith, calls_closed, ap₂)

control_called : (setting : TextSetting) (line : ControlLine) (m : Memory) (call : MacroCall) → (length line.name == 0) ≡ false → command_of line.name m.definitions ≡ Call
    → GivesItself line.text → IsQuiet line.name (rest_of line line.text) (rest_column line) m call → control_outcome setting true line m ≡ gives_call call m
unfolding control_outcome command_outcome
control_called setting line m call n p g q = grind (arith, counted_none, quiet_call)

-- the form of a line with a name is that of its bytes after the control character
abbrev HasName : List ℕ → List ℕ → LineForm (List ℕ) → Type 0
HasName line name form = (form ≡ control_line (drop 1 line)) × (length name ≡ name_len (drop 1 line))

first_named : (c : Bool) (x : ℕ) (bytes name : List ℕ) → name_of (if c then control_line bytes else Text (x ∷ bytes)) ≡ Some name
    → HasName (x ∷ bytes) name (if c then control_line bytes else Text (x ∷ bytes))
first_named true x bytes name e = grind (arith, length-take-le, prefix_len-le-length)
first_named false x bytes name e = let no : ⊥ = cc in absurd no

all_named : (line name : List ℕ) → name_of (uncommented_form line) ≡ Some name → HasName line name (uncommented_form line)
all_named [] name e = let no : ⊥ = cc in absurd no
all_named (x ∷ bytes) name e = first_named (is_control x) x bytes name e

word_named : (w : Bool) (line name : List ℕ) → name_of (if w then uncommented_form line else BlankLine) ≡ Some name
    → HasName line name (if w then uncommented_form line else BlankLine)
word_named true line name e = all_named line name e
word_named false line name e = let no : ⊥ = cc in absurd no

form_named : (line name : List ℕ) → without_comment line ≡ line → name_of (form_of line) ≡ Some name → HasName line name (form_of line)
form_named line name u e = rw u (word_named (has_word line) line name (rw u at e))

-- how many bytes go up to the end of the name
abbrev name_end : List ℕ → ℕ
name_end line = 1 + name_start (drop 1 line) + name_len (drop 1 line)

pub free_control : (setting : TextSetting) (line name : List ℕ) (m : Memory) → IsFreeLine line → length line ≤ LINE → name_of (form_of line) ≡ Some name
    → (length name == 0) ≡ false → command_of name m.definitions ≡ Pass
    → (may_call : Bool) → leaf_outcome setting may_call line m ≡ gives_line forms.Control line (1 + name_start (drop 1 line) + length name) m
unfolding leaf_outcome
free_control setting line name m h short e n p may_call = grind (arith, uncommented, form_named, control_taken, free_itself)

-- what follows the name
abbrev rest_after : List ℕ → List ℕ → List ℕ
rest_after line name = drop (1 + name_start (drop 1 line) + length name) line

abbrev column_after : List ℕ → List ℕ → ℕ
column_after line name = 1 + name_start (drop 1 line) + length name + 1

free_call : (setting : TextSetting) (line name : List ℕ) (m : Memory) (call : MacroCall) → IsFreeLine line → length line ≤ LINE → name_of (form_of line) ≡ Some name
    → (length name == 0) ≡ false → command_of name m.definitions ≡ Call → IsQuiet name (rest_after line name) (column_after line name) m call
    → leaf_outcome setting true line m ≡ gives_call call m
unfolding leaf_outcome
free_call setting line name m call h short e n p q = grind (arith, uncommented, form_named, control_called, free_itself)

-- ---- what a name stands for

passed_by : (name : List ℕ) (body : Option (List ℕ)) → is_some body ≡ false → request_command (request_of name) ≡ Pass → command_or name body ≡ Pass
passed_by name None e p = p
passed_by name (Some body) e p = absurd (cc)

called_by : (name : List ℕ) (body : Option (List ℕ)) → is_some body ≡ true → command_or name body ≡ Call
called_by name None e = absurd (cc)
called_by name (Some body) e = refl

pub is_pass : (name : List ℕ) (d : Definitions) → is_some (called_body name d) ≡ false → IsOrdinary name → command_of name d ≡ Pass
unfolding command_of
is_pass name d e o = passed_by name (called_body name d) e o.0

is_call : (name : List ℕ) (d : Definitions) → is_some (called_body name d) ≡ true → command_of name d ≡ Call
unfolding command_of
is_call name d e = called_by name (called_body name d) e

pub free_named : (line name : List ℕ) → IsFreeLine line → name_of (form_of line) ≡ Some name → IsOrdinary name → line_parts line ≡ Leaf line ∷ []
free_named line name h e o = one_leaf line (plain_named line name e o.1) (unended line h)

-- ---- calls

pub packs_call : (name rest : List ℕ) (column : ℕ) (m : Memory) (call : MacroCall) (fits is_closed : Bool) → fits ≡ true → is_closed ≡ true
    → Packs (packed (arguments column rest)) fits call.packed
    → (is_closed ≡ true → (line : ℕ) → closings_notes line (arguments column rest) ≡ [])
    → call.body ≡ unwrap_or (called_body name m.definitions) [] → IsQuiet name rest column m call
packs_call name rest column m call fits is_closed f c p q b = grind arith

body_short : (body : Option (List ℕ)) → length (unwrap_or (within_limit body) []) ≤ BODY
body_short None = omega arith
body_short (Some body) = grind (arith, nat_tests)

call_fits : (name rest : List ℕ) (column : ℕ) (m : Memory) (call : MacroCall) → IsQuiet name rest column m call → IsCallable true call
call_fits name rest column m call q = record {
  room = refl;
  body = rw q.body (body_short (body_of name m.definitions));
  packed = rw q.packs (grind (arith, nat_tests, q.fits));
}

pub takes_call : (result : AtOnce) (raw name : List ℕ) (old new : Acting) → IsFreeLine raw → length raw ≤ LINE → name_of (form_of raw) ≡ Some name
    → (length name == 0) ≡ false → IsOrdinary name → is_some (called_body name old.memory.definitions) ≡ true
    → CallsIf result name (rest_after raw name) (column_after raw name) old new
    → TakesIf result old raw (λ may_call. leaf_outcome (measured old.setting) may_call raw old.memory) new
takes_call ways.Nothing raw name old new h short e n o s c = c
takes_call (ways.Line taken) raw name old new h short e n o s c = absurd c
takes_call ways.Call raw name old new h short e n o s c =
    record {
      leaf = free_named raw name h e o;
      left = c.0;
      given = free_call (measured old.setting) raw name old.memory new.call h short e n (is_call name old.memory.definitions s) c.1;
      fits = call_fits name (rest_after raw name) (column_after raw name) old.memory new.call c.1;
    }
