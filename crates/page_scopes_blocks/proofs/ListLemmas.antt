-- What comes in two parts: helpers of proofs.
use Rattle.std.proofs.Common.{List, ◌++◌, append_assoc, subst, ℕ, ◌≤◌, [], ◌∷◌, length, Option, None, Some, arith, inl, inr, ℤ, pos}
use Rattle.page_core_base.specs.laws.Views.{Came}
use Rattle.page_core_base.specs.Rows.{Item}
use Rattle.std.specs.Prelude.{int_lt}
use Rattle.std.proofs.lemmas.Bool.{cases_Bool}
use Rattle.std.proofs.lemmas.Int.{ints}
use Rattle.page_scopes_layout.specs.Contexts.{hold}
use Rattle.page_core_base.specs.declared.limits.TheConstants.{LINE}
use Rattle.page_roff_syntax.specs.declared.quotes.Argument.{Argument}
use Rattle.page_sets_lines.proofs.ArgumentLaws.{AreArguments, all_arguments}
use Rattle.page_sets_lines.specs.Lines.{arguments_after}
use Rattle.page_sets_lines.specs.laws.Sets.{IsArgument, IsArgumentIfGiven}
use Rattle.page_sets_lines.specs.Blocks.{list_word, no_options, option_read, options_after, with_argument, with_word}
use Rattle.page_sets_lines.specs.declared.lists.Awaited.{Awaited}
use Rattle.page_sets_lines.specs.declared.lists.Awaited.TheVariants as awaited
use Rattle.page_sets_lines.specs.declared.lists.ListOptions.{ListOptions}
use Rattle.page_sets_lines.specs.declared.lists.ListWord.{ListWord}
use Rattle.page_sets_lines.specs.declared.lists.ListWord.TheVariants as words
use Rattle.page_scopes_blocks.specs.laws.Views.{LengthFits}

-- messages, and then what follows them
pub came_after : {P O : Type 0} (left : P → O → List Item → Type 0) (s t u : O) (notes items : List Item) → Came left s notes t → Came left t items u
    → Came left s (notes ++ items) u
came_after left s t u notes items h k = λ plan rest given.
    k plan rest (h plan (items ++ rest) (subst (λ all. left plan s all) (append_assoc notes items rest) given))

-- ---- The arguments of `Bl` are in its line, and so are the values of its options: helpers of proofs.

pub argument_short : (text : List ℕ) (argument : Argument (List ℕ)) → length text ≤ LINE → IsArgument text argument → length argument.text ≤ LINE
argument_short text argument short slice = let within = slice.slice.within in omega (arith, within, short)

given_short : (text : List ℕ) (given : Option (Argument (List ℕ))) → length text ≤ LINE → IsArgumentIfGiven text given → LengthFits given
given_short text None short slice = tt
given_short text (Some argument) short slice = argument_short text argument short slice

-- a width is held to the columns of a margin
pub hold_bound : (columns : ℤ) → hold columns ≤ 1000
hold_bound columns = elim (cases_Bool (int_lt columns (pos 0))) [
  | inl t ↦ rw t (omega arith)
  | inr f ↦ rw f (elim (cases_Bool (int_lt (pos 1000) columns)) [ inl t ↦ rw t (omega arith) | inr g ↦ rw g (omega (arith, ints, f, g)) ])
]

-- both values are in the line
record ValuesStand (text : List ℕ) (options : ListOptions (List ℕ)) : Type 0 where
  width : IsArgumentIfGiven text options.width
  offset : IsArgumentIfGiven text options.offset

word_stands : (text : List ℕ) (word : Option ListWord) (so_far : ListOptions (List ℕ)) → ValuesStand text so_far → ValuesStand text (with_word word so_far)
word_stands text None so_far h = h
word_stands text (Some (words.Kind kind)) so_far h = record { width = h.width; offset = h.offset }
word_stands text (Some words.Compact) so_far h = record { width = h.width; offset = h.offset }
word_stands text (Some words.Width) so_far h = record { width = h.width; offset = h.offset }
word_stands text (Some words.Offset) so_far h = record { width = h.width; offset = h.offset }

argument_stands : (text : List ℕ) (option : Option Awaited) (so_far : ListOptions (List ℕ)) (word : Argument (List ℕ)) → ValuesStand text so_far → IsArgument text word
    → ValuesStand text (with_argument option so_far word)
argument_stands text None so_far word h k = word_stands text (list_word word.text) so_far h
argument_stands text (Some awaited.Width) so_far word h k = record { width = k; offset = h.offset }
argument_stands text (Some awaited.Offset) so_far word h k = record { width = h.width; offset = k }

options_stand : (text : List ℕ) (so_far : ListOptions (List ℕ)) (words : List (Argument (List ℕ))) → ValuesStand text so_far → AreArguments text words
    → ValuesStand text (options_after so_far words)
options_stand text so_far [] h all = h
options_stand text so_far (word ∷ words) h all = options_stand text (option_read so_far word) words (argument_stands text so_far.awaited so_far word h all.0) all.1

read_stand : (text : List ℕ) → ValuesStand text (options_after no_options (arguments_after 0 text))
read_stand text = options_stand text no_options (arguments_after 0 text) (record { width = tt; offset = tt }) (all_arguments text 0)

pub width_short : (text : List ℕ) → length text ≤ LINE → LengthFits (options_after no_options (arguments_after 0 text)).width
width_short text short = given_short text _ short (read_stand text).width

pub offset_short : (text : List ℕ) → length text ≤ LINE → LengthFits (options_after no_options (arguments_after 0 text)).offset
offset_short text short = given_short text _ short (read_stand text).offset
