-- What the parts of a source change, and what they give. Source: roff(7).
use Rattle.std.specs.Prelude.{ℕ, List, Option, [], None, ◌∷◌, ◌+◌, ◌++◌, ◌-◌, ◌^◌, min, Bool, false, codes}
use Rattle.page_core_base.specs.Limits.{name_of}
use Rattle.page_core_base.specs.Messages.{Message, message_about}
use Rattle.page_core_base.specs.Texts.{TakenLine}
use Rattle.page_core_base.specs.declared.limits.Limit.TheVariants as limits
use Rattle.page_core_base.specs.declared.lines_taken.Form.{Form}
use Rattle.page_core_base.specs.declared.note_kinds.NoteKind.{NoteKind}
use Rattle.page_core_base.specs.declared.note_kinds.NoteKind.TheVariants as kinds
use Rattle.page_core_base.specs.declared.places.Place.{Place}
use Rattle.page_roff_names.specs.Names.{Definitions, definitions}
use Rattle.page_roff_heads.specs.declared.conditions.Condition.{Condition}
use Rattle.page_roff_values.specs.Answers.{Answer, condition_answer}
use Rattle.page_roff_values.specs.Values.{Surroundings}

-- ---- What the parts of a source change, and what they give. Source: roff(7), "LANGUAGE SYNTAX", "ds", "de".

-- What is remembered from part to part: what names stand for; the body that the open region has so far, where it defines a macro and
-- no limit was passed, or the text of the loop that is collected; the number of the source line; how many interpolations were made.
pub record Memory : Type 0 where
  pub definitions : Definitions
  pub body : Option (List ℕ)
  pub number : ℕ
  pub expansions : ℕ

-- before the first line of a page
abbrev pub first_memory : Memory
first_memory = record { definitions = definitions [] []; body = None; number = 0; expansions = 0 }

-- messages are about the line of this number from now on
abbrev pub numbered : ℕ → Memory → Memory
numbered number m = record m { number = number }

-- what comes of a part besides messages
pub data Product : Type 0 where
  no_product : Product
  line_product : TakenLine → Product
  -- a macro is called: the lines of its body, and its arguments
  call_product : List (List ℕ) → List (List ℕ) → Product
  -- a loop is whole: its condition, and the lines of its body
  loop_product : List ℕ → List (List ℕ) → Product

-- what a part of a source does: its messages, then what comes of it, and what is remembered after it
pub record PartOutcome : Type 0 where
  pub notes : List Message
  pub product : Product
  pub memory : Memory

-- ---- what was given

-- a message, or a line for the set of macros
pub data Given : Type 0 where
  says : Message → Given
  takes : TakenLine → Given

abbrev pub lines_of : Product → List Given
lines_of (line_product line) = takes line ∷ []
lines_of _ = []

-- ---- outcomes

-- nothing happens
abbrev pub nothing : Memory → PartOutcome
nothing m = record { notes = []; product = no_product; memory = m }

abbrev pub reports : List Message → Memory → PartOutcome
reports notes m = record { notes = notes; product = no_product; memory = m }

abbrev pub gives_line : Form → List ℕ → ℕ → Memory → PartOutcome
gives_line form text name_end m =
    record {
      notes = [];
      product = line_product (record { form = form; text = text; number = m.number; name_end = name_end });
      memory = m;
    }

-- these messages come first
abbrev pub after_notes : List Message → PartOutcome → PartOutcome
after_notes notes o = record { notes = notes ++ o.notes; product = o.product; memory = o.memory }

-- a column of the source line
abbrev pub at : Memory → ℕ → Place
at m column = record { line = m.number; column = column }

-- one message about a column
abbrev pub note_at : NoteKind → ℕ → List ℕ → Memory → List Message
note_at kind column detail m = message_about kind (at m column) detail ∷ []

abbrev pub reports_at : NoteKind → ℕ → List ℕ → Memory → PartOutcome
reports_at kind column detail m = reports (note_at kind column detail m) m

abbrev pub with_body : Option (List ℕ) → Memory → Memory
with_body body m = record m { body = body }

-- a count stays at the greatest number of 64 bits, which no page reaches
abbrev pub sum_of_counts : ℕ → ℕ → ℕ
sum_of_counts a b = a + min b (2 ^ 64 - 1 - a)

-- a count of interpolations more were made
abbrev pub counted : ℕ → Memory → Memory
counted count m = record m { expansions = sum_of_counts m.expansions count }

-- ---- what interpolations read

-- how many basic units wide a finished text is, and the arguments of the macro that runs, if one does
pub record TextSetting : Type 0 where
  pub units : List ℕ → ℕ
  pub arguments : Option (List (List ℕ))

abbrev pub surroundings : Bool → TextSetting → Memory → Surroundings
surroundings copy setting m =
    record { copy = copy; definitions = m.definitions; arguments = setting.arguments; units = setting.units }

-- ---- What the parts of a source do to what is remembered, but for lines and regions. Source: roff(7), "if", "while"; mandoc(1), "DIAGNOSTICS".

-- a condition: its messages, and the interpolations that it made
unfoldable pub answer_of : TextSetting → Condition (List ℕ) → Memory → Answer
answer_of setting condition m = condition_answer (surroundings false setting m) m.number condition

abbrev pub test_outcome : Answer → Memory → PartOutcome
test_outcome answer m = reports answer.notes (counted answer.edge.count m)

-- a re-read line beyond the budget
unfoldable pub budget_outcome : Memory → PartOutcome
budget_outcome m = reports_at kinds.Loop 1 (name_of limits.Reread) m

-- a true block beyond the limit of open ones, whose head's name is in a column
unfoldable pub block_outcome : ℕ → Memory → PartOutcome
block_outcome column m = reports_at kinds.Limit column (name_of limits.Conds) m

-- the end of a block where none is open
unfoldable pub end_of_block_outcome : Memory → PartOutcome
end_of_block_outcome m = reports_at kinds.NotOpen 1 (codes "\\}") m
