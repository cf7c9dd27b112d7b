-- The arguments of a line are slices of it, in order: helpers of proofs.
use Rattle.std.proofs.Common.{◌≡◌, ℕ, zero, suc, ◌+◌, ◌-◌, ◌<◌, ◌≤◌, List, [], ◌∷◌, length, take, drop, refl, sym, ap, subst, ◌∙◌, arith, inl, inr, length-drop, length-take, true, ◌++◌, Option, None, Some, Bool, false, append_assoc, ◌*◌, append-nil, length-append, if◌then◌else◌, ◌==◌, add-one}
use Rattle.std.proofs.lemmas.Bool.{cases_Bool}
use Rattle.std.proofs.lemmas.List.{drop-drop, take-append-drop}
use Rattle.std.proofs.lemmas.Bool.Decides.{nat_tests}
use Rattle.page_roff_syntax.specs.declared.quotes.Argument.{Argument}
use Rattle.page_roff_syntax.specs.Arguments.{is_blank, bare_len, quoted_len, argument_len, first_argument, first_arguments, quoted_argument, bare_argument, arguments}
use Rattle.page_roff_syntax.proofs.ArgumentLemmas.{bare_within, quoted_within}
use Rattle.page_sets_lines.specs.laws.Sets.{IsSlice, IsArgument, AreAll, HasSlices, prints_text, IsPart, IsPartIfGiven, IsArgumentIfGiven, RequestsSlices, BeginsFrom, past, AreInOrder, AreSlices, BlockClosesSlices, BlockOpensSlices, ClosesSlices, LeavesSlices, OpensSlices, StepsSlices}
use Rattle.page_sets_lines.specs.Lines.{arguments_after, event_at, is_unclosed, open_quote, word_place, before_name, name_end, name_of, is_nameless, first_of, second_of, text_of, plain_kind, request}
use Rattle.page_core_base.specs.declared.places.Place.{Place}
use Rattle.page_sets_lines.specs.declared.events.Event.{Event}
use Rattle.page_sets_lines.specs.declared.events.EventKind.{EventKind}
use Rattle.std.proofs.lemmas.List.Sums.{prefix_len-le-length}
use Rattle.std.proofs.Math.Seq.{take-length}
use Rattle.page_core_base.specs.Bytes.{is_white}
use Rattle.page_core_base.specs.Texts.{TakenLine}
use Rattle.page_sets_lines.specs.declared.events.EventKind.TheVariants as kinds
use Rattle.page_sets_lines.specs.declared.plain_lines.PlainLine.{PlainLine}
use Rattle.page_sets_lines.specs.declared.plain_lines.PlainLine.TheVariants as lines
use Rattle.page_roff_syntax.specs.declared.requests.LayoutRequest.{LayoutRequest}
use Rattle.page_roff_syntax.specs.declared.requests.LayoutRequest.TheVariants as layout
use Rattle.std.specs.List.{list_any}
use Rattle.page_sets_lines.specs.laws.Views.{is_quote, ArgumentFits, BlockCloserFits, BlockOpenerFits, CloserFits, KindFits, GivenFits, LeafFits, IsShort, OpenerFits, StepFits}
use Rattle.page_core_base.specs.declared.limits.TheConstants.{LINE}
use Rattle.page_sets_lines.specs.declared.blocks.BlockCloser.{BlockCloser}
use Rattle.page_sets_lines.specs.declared.blocks.BlockCloser.TheVariants as block_closers
use Rattle.page_sets_lines.specs.declared.blocks.BlockOpener.{BlockOpener}
use Rattle.page_sets_lines.specs.declared.blocks.BlockOpener.TheVariants as block_openers
use Rattle.page_sets_lines.specs.declared.leaves.Leaf.{Leaf}
use Rattle.page_sets_lines.specs.declared.leaves.Leaf.TheVariants as leaves
use Rattle.page_sets_lines.specs.declared.line_steps.LineStep.{LineStep}
use Rattle.page_sets_lines.specs.declared.line_steps.LineStep.TheVariants as steps
use Rattle.page_sets_lines.specs.declared.openers.Closer.{Closer}
use Rattle.page_sets_lines.specs.declared.openers.Closer.TheVariants as closers
use Rattle.page_sets_lines.specs.declared.openers.Opener.{Opener}
use Rattle.page_sets_lines.specs.declared.openers.Opener.TheVariants as openers
use Rattle.std.specs.Borrow.{Bor}
use Rattle.page_sets_lines.specs.machine.EventOuts.{nth, found, kept_view}

-- each argument is the slice of the line at its column, and none begins before the one in front of it has ended
abbrev pub ArgumentsFrom : List ℕ → ℕ → List (Argument (List ℕ)) → Type 0
ArgumentsFrom line from [] = Unit {0}
ArgumentsFrom line from (argument ∷ arguments) =
    (from ≤ argument.column) × IsArgument line argument × ArgumentsFrom line (argument.column + length argument.text) arguments

pub earlier : (line : List ℕ) (from to : ℕ) (arguments : List (Argument (List ℕ))) → from ≤ to → ArgumentsFrom line to arguments → ArgumentsFrom line from arguments
earlier line from to [] h a = tt
earlier line from to (argument ∷ arguments) h a = let first = a.0 in (omega arith, a.1, a.2)

-- ---- one argument

pub cut_at : (line : List ℕ) (start n : ℕ) → start ≤ length line → n ≤ length (drop start line) → IsSlice line start (take n (drop start line))
cut_at line start n w h = grind (arith, length-take, length-drop)

one_past : (line : List ℕ) (start : ℕ) → drop 1 (drop start line) ≡ drop (start + 1) line
one_past line start = drop-drop 1 start line

bare_slice : (line : List ℕ) (start : ℕ) → start ≤ length line → IsArgument line (bare_argument (start + 1) (drop start line))
bare_slice line start w = grind (arith, cut_at, bare_within)

quoted_slice : (line : List ℕ) (start : ℕ) → start + 1 ≤ length line → IsArgument line (quoted_argument (start + 1) (drop 1 (drop start line)))
quoted_slice line start w = grind (arith, one_past, cut_at, quoted_within)

pub first_slice : (line : List ℕ) (start : ℕ) → start < length line → IsArgument line (first_argument (start + 1) (drop start line))
first_slice line start w = grind (arith, quoted_slice, bare_slice)

first_column : (line : List ℕ) (start : ℕ) → start + 1 ≤ (first_argument (start + 1) (drop start line)).column
first_column line start = grind arith

bare_past : (line : List ℕ) (start : ℕ) → length (take (bare_len (drop start line)) (drop start line)) ≤ bare_len (drop start line)
bare_past line start = omega (arith, length-take (bare_len (drop start line)) (drop start line))

quoted_past : (inner : List ℕ) → length (take (quoted_len inner) inner) ≤ quoted_len inner
quoted_past inner = omega (arith, length-take (quoted_len inner) inner)

first_past : (line : List ℕ) (start : ℕ) → start < length line
    → (first_argument (start + 1) (drop start line)).column + length (first_argument (start + 1) (drop start line)).text ≤ start + argument_len (drop start line) + 1
first_past line start w = grind (arith, nat_tests, length-drop, quoted_past, quoted_within, bare_past)

-- ---- reading one

pub read_from : (line : List ℕ) (start len : ℕ) → arguments (start + 1 + len) (drop len (drop start line)) ≡ arguments_after (start + len) line
read_from line start len = grind (arith, drop-drop)

-- ---- all of them

one_more : (line : List ℕ) (n start column len : ℕ) (rest : List ℕ) → start < length line → len ≡ argument_len (drop start line)
    → column ≡ start + len + 1 → rest ≡ drop (start + len) line
    → ArgumentsFrom line (start + len + 1) (first_arguments n (start + len + 1) (drop (start + len) line))
    → ArgumentsFrom line (start + 1) (first_argument (start + 1) (drop start line) ∷ first_arguments n column rest)
one_more line n start column len rest w l c r others = grind (arith, first_past, first_column, first_slice, earlier)

all_from : (line : List ℕ) (n start : ℕ) (text : List ℕ) → text ≡ drop start line → ArgumentsFrom line (start + 1) (first_arguments n (start + 1) text)
all_from line zero start text e = tt
all_from line (suc n) start [] e = tt
all_from line (suc n) start (b ∷ bs) e =
    let w : start < length line = omega (arith, length-drop start line, ap length e) in
    let d : bs ≡ drop (start + 1) line = ap (drop 1) e ∙ drop-drop 1 start line in
    let len = argument_len (drop start line) in
    let P : List ℕ → Type 0 =
    λ l. ArgumentsFrom line (start + 1) (first_argument (start + 1) l ∷ first_arguments n (start + 1 + argument_len l) (drop (argument_len l) l)) in
    elim (cases_Bool (is_blank b)) [
      | inl t ↦ rw t (earlier line (start + 1) (start + 1 + 1) _ (omega arith) (all_from line n (start + 1) bs d))
      | inr t ↦
          rw t (subst P (sym e) (one_more line n start (start + 1 + len) len (drop len (drop start line)) w refl (omega arith) (drop-drop len start line)
          (all_from line n (start + len) (drop (start + len) line) refl)))
    ]

pub all_after : (line : List ℕ) (start : ℕ) → ArgumentsFrom line (start + 1) (arguments_after start line)
unfolding arguments
all_after line start = all_from line (length (drop start line)) start (drop start line) refl

few_arguments : (n column : ℕ) (text : List ℕ) → length (first_arguments n column text) ≤ n
few_arguments zero column text = omega arith
few_arguments (suc n) column [] = omega arith
few_arguments (suc n) column (b ∷ bs) =
    grind (arith, few_arguments n (column + 1) bs, few_arguments n (column + argument_len (b ∷ bs)) (drop (argument_len (b ∷ bs)) (b ∷ bs)))

pub few_after : (line : List ℕ) (start : ℕ) → length (arguments_after start line) ≤ length line - start
unfolding arguments
few_after line start = omega (arith, few_arguments (length (drop start line)) (start + 1) (drop start line), length-drop start line)

-- ---- What holds of each event of a line by where it is, where texts of events are slices of the line: helpers of proofs.

pub AreAll-append : (IsSo : Event (List ℕ) → Type 0) (front rest : List (Event (List ℕ))) → AreAll IsSo front → AreAll IsSo rest → AreAll IsSo (front ++ rest)
AreAll-append IsSo [] rest h k = k
AreAll-append IsSo (event ∷ front) rest h k = (h.0, AreAll-append IsSo front rest h.1 k)

-- any event may be at a place
abbrev pub AnyAt : List ℕ → (Event (List ℕ) → Type 0) → Place → Type 0
AnyAt line IsSo place = (kind : EventKind (List ℕ)) → HasSlices line kind → IsSo (event_at place kind)

-- at one that may be missing
abbrev pub AnyAtIfGiven : List ℕ → (Event (List ℕ) → Type 0) → ℕ → Option ℕ → Type 0
AnyAtIfGiven line IsSo number None = Unit {0}
AnyAtIfGiven line IsSo number (Some column) = AnyAt line IsSo (record { line = number; column = column })

-- the quote before an argument that lacks its last one
abbrev pub quote_place : ℕ → Argument (List ℕ) → Place
quote_place number word = record { line = number; column = word.column - 1 }

-- an argument is a slice; what prints may be at it, any event at one that has a byte, and at the quote before it that has no other
pub record Sits (line : List ℕ) (IsSo : Event (List ℕ) → Type 0) (number : ℕ) (word : Argument (List ℕ)) : Type 0 where
  pub slice : IsArgument line word
  pub first : (kind : EventKind (List ℕ)) → prints_text kind ≡ true → HasSlices line kind → IsSo (event_at (word_place number word) kind)
  pub byte : 1 ≤ length word.text → AnyAt line IsSo (word_place number word)
  pub quote : is_unclosed word.quoting ≡ true → AnyAt line IsSo (quote_place number word)

abbrev pub AllSit : List ℕ → (Event (List ℕ) → Type 0) → ℕ → List (Argument (List ℕ)) → Type 0
AllSit line IsSo number [] = Unit {0}
AllSit line IsSo number (word ∷ words) = Sits line IsSo number word × AllSit line IsSo number words

module _ (line : List ℕ) (IsSo : Event (List ℕ) → Type 0) (number : ℕ) where
  pub AllSit-take : (n : ℕ) (words : List (Argument (List ℕ))) → AllSit line IsSo number words → AllSit line IsSo number (take n words)
  AllSit-take zero words h = tt
  AllSit-take (suc n) [] h = tt
  AllSit-take (suc n) (word ∷ words) h = (h.0, AllSit-take n words h.1)

  pub AllSit-drop : (n : ℕ) (words : List (Argument (List ℕ))) → AllSit line IsSo number words → AllSit line IsSo number (drop n words)
  AllSit-drop zero words h = h
  AllSit-drop (suc n) [] h = tt
  AllSit-drop (suc n) (word ∷ words) h = AllSit-drop n words h.1

  pub AllSit-split : (front rest : List (Argument (List ℕ))) → AllSit line IsSo number (front ++ rest) → AllSit line IsSo number front × AllSit line IsSo number rest
  AllSit-split [] rest h = (tt, h)
  AllSit-split (word ∷ front) rest h = let k = AllSit-split front rest h.1 in ((h.0, k.0), k.1)

  -- the quote that is reported
  pub open_at : (printed : ℕ) (words : List (Argument (List ℕ))) → AllSit line IsSo number words → AnyAtIfGiven line IsSo number (open_quote printed words)
  open_at printed [] h = tt
  open_at zero (word ∷ words) h =
      let k = h.0.quote in
      elim (cases_Bool (is_unclosed word.quoting)) [
        | inl t ↦ rw t (k t)
        | inr t ↦ rw t (open_at zero words h.1)
      ]
  open_at (suc printed) (word ∷ words) h = open_at printed words h.1

-- ---- The laws of macro sets, event by event: helpers of proofs.

-- ---- slices

pub nothing_part : (line : List ℕ) → IsPart line []
nothing_part line = (0, record { within = omega arith; bytes = refl })

whole_slice : (line : List ℕ) → IsSlice line 0 line
whole_slice line = record { within = omega arith; bytes = take-length line }

pub whole_part : (line : List ℕ) → IsPart line line
whole_part line = (0, whole_slice line)

pub rest_part : (line : List ℕ) (start : ℕ) → start ≤ length line → IsPart line (drop start line)
rest_part line start h = (start, record { within = omega (arith, length-drop start line); bytes = take-length (drop start line) })

start_within : (text : List ℕ) → before_name text ≤ length text
start_within [] = omega arith
start_within (control ∷ bytes) = omega (arith, prefix_len-le-length is_white bytes)

pub end_within : (line : TakenLine) → name_end line ≤ length line.text
end_within line = omega (arith, start_within line.text)

pub name_part : (line : TakenLine) → IsPart line.text (name_of line)
name_part line =
    let text = line.text in
    let start = before_name text in
    (start, cut_at text start (name_end line - start) (start_within text) (omega (arith, end_within line, length-drop start text)))

pub argument_part : (line : List ℕ) (argument : Argument (List ℕ)) → IsArgument line argument → IsPart line argument.text
argument_part line argument h = (argument.column - 1, h.slice)

pub text_part : (line : List ℕ) (given : Option (Argument (List ℕ))) → IsArgumentIfGiven line given → IsPartIfGiven line (text_of given)
text_part line None h = tt
text_part line (Some argument) h = argument_part line argument h

first_in : (line : List ℕ) (from : ℕ) (arguments : List (Argument (List ℕ))) → ArgumentsFrom line from arguments → IsArgumentIfGiven line (first_of arguments)
first_in line from [] h = tt
first_in line from (argument ∷ arguments) h = h.1

second_in : (line : List ℕ) (from : ℕ) (arguments : List (Argument (List ℕ))) → ArgumentsFrom line from arguments → IsArgumentIfGiven line (second_of arguments)
second_in line from [] h = tt
second_in line from (argument ∷ arguments) h = first_in line _ arguments h.2

pub first_slice_after : (line : List ℕ) (start : ℕ) → IsArgumentIfGiven line (first_of (arguments_after start line))
first_slice_after line start = first_in line (start + 1) (arguments_after start line) (all_after line start)

pub second_slice_after : (line : List ℕ) (start : ℕ) → IsArgumentIfGiven line (second_of (arguments_after start line))
second_slice_after line start = second_in line (start + 1) (arguments_after start line) (all_after line start)

pub first_text_after : (line : List ℕ) (start : ℕ) → IsPartIfGiven line (text_of (first_of (arguments_after start line)))
first_text_after line start = text_part line (first_of (arguments_after start line)) (first_slice_after line start)

pub second_text_after : (line : List ℕ) (start : ℕ) → IsPartIfGiven line (text_of (second_of (arguments_after start line)))
second_text_after line start = text_part line (second_of (arguments_after start line)) (second_slice_after line start)

pub request_slices : (line : List ℕ) (name : LayoutRequest) (given : Option (Argument (List ℕ))) → IsArgumentIfGiven line given → RequestsSlices line (request name given)
request_slices line layout.Space given h = text_part line given h
request_slices line layout.Font given h = h
request_slices line layout.Shift given h = text_part line given h
request_slices line _ given h = tt

pub line_slices : (line : PlainLine) (text : List ℕ) → HasSlices text (plain_kind line text)
line_slices lines.Words text = record { column = omega arith; slice = whole_slice text }
line_slices lines.Blank text = tt
line_slices _ text = whole_part text

-- ---- order

abbrev pub is_word : EventKind (List ℕ) → Bool
is_word (kinds.Word word) = true
is_word _ = false

pub line_order : (line : PlainLine) (text : List ℕ) → BeginsFrom 0 (plain_kind line text)
line_order lines.Words text = omega arith
line_order _ text = tt

-- ---- a line with a name

pub named_bytes : (line : TakenLine) → is_nameless line ≡ false → (2 ≤ name_end line) × (name_end line ≤ length line.text)
named_bytes line h = grind arith

-- ---- Words that are arguments in their order are in order: helpers of proofs.

-- an argument of the list, and those after it
pub record IsTaken (argument : Argument (List ℕ)) (arguments after : List (Argument (List ℕ))) : Type 0 where
  pub before : List (Argument (List ℕ))
  pub split : arguments ≡ before ++ (argument ∷ after)

-- a word takes one of the arguments, and those after it are left; all else takes none
abbrev pub Takes : EventKind (List ℕ) → List (Argument (List ℕ)) → List (Argument (List ℕ)) → Type 0
Takes (kinds.Word word) arguments after = IsTaken word.arg arguments after
Takes _ arguments after = after ≡ arguments

-- the words of the events are some of the arguments, in their order
abbrev pub TakesInOrder : List (Event (List ℕ)) → List (Argument (List ℕ)) → Type 0
TakesInOrder [] arguments = Unit {0}
TakesInOrder (event ∷ events) arguments =
    (after : List (Argument (List ℕ))) × Takes event.kind arguments after × TakesInOrder events after

-- ---- with more arguments in front

later_one : (kind : EventKind (List ℕ)) (events : List (Event (List ℕ))) (front arguments after : List (Argument (List ℕ)))
    → Takes kind arguments after → TakesInOrder events after → TakesInOrder events (front ++ after)
    → (left : List (Argument (List ℕ))) × Takes kind (front ++ arguments) left × TakesInOrder events left
later_one (kinds.Word word) events front arguments after h k m =
    (after, record { before = front ++ h.before; split = ap (λ l. front ++ l) h.split ∙ sym (append_assoc front h.before (word.arg ∷ after)) }, k)
later_one _ events front arguments after h k m = (front ++ after, ap (λ l. front ++ l) h, m)

pub takes_later : (events : List (Event (List ℕ))) (front arguments : List (Argument (List ℕ)))
    → TakesInOrder events arguments → TakesInOrder events (front ++ arguments)
takes_later [] front arguments h = tt
takes_later (event ∷ events) front arguments h = grind (arith, later_one, takes_later events front h.0 h.2)

-- ---- with more arguments behind

more_behind : (kind : EventKind (List ℕ)) (arguments after behind : List (Argument (List ℕ)))
    → Takes kind arguments after → Takes kind (arguments ++ behind) (after ++ behind)
more_behind (kinds.Word word) arguments after behind h = grind (arith, append_assoc)
more_behind _ arguments after behind h = ap (λ l. l ++ behind) h

pub TakesInOrder-append : (events more : List (Event (List ℕ))) (arguments behind : List (Argument (List ℕ)))
    → TakesInOrder events arguments → TakesInOrder more behind → TakesInOrder (events ++ more) (arguments ++ behind)
TakesInOrder-append [] more arguments behind h k = takes_later more arguments behind k
TakesInOrder-append (event ∷ events) more arguments behind h k = grind (arith, more_behind, TakesInOrder-append events more h.0 behind h.2 k)

-- ---- order

taken_from : (line : List ℕ) (argument : Argument (List ℕ)) (after before : List (Argument (List ℕ))) (from : ℕ)
    → ArgumentsFrom line from (before ++ (argument ∷ after))
    → (from ≤ argument.column) × ArgumentsFrom line (argument.column + length argument.text) after
taken_from line argument after [] from h = (h.0, h.2)
taken_from line argument after (first ∷ before) from h = grind (arith, taken_from line argument after before (first.column + length first.text) h.2)

order_one : (line : List ℕ) (from : ℕ) (kind : EventKind (List ℕ)) (arguments after : List (Argument (List ℕ)))
    → ArgumentsFrom line from arguments → Takes kind arguments after → BeginsFrom from kind × ArgumentsFrom line (past from kind) after
order_one line from (kinds.Word word) arguments after a h = taken_from line word.arg after h.before from (rw h.split at a)
order_one line from _ arguments after a h = (tt, rw h a)

pub in_order : (line : List ℕ) (from : ℕ) (events : List (Event (List ℕ))) (arguments : List (Argument (List ℕ)))
    → ArgumentsFrom line from arguments → TakesInOrder events arguments → AreInOrder from events
in_order line from [] arguments a h = tt
in_order line from (event ∷ events) arguments a h =
    let k = order_one line from event.kind arguments h.0 a h.1 in
    (k.0, in_order line (past from event.kind) events h.0 k.1 h.2)

-- ---- arguments that are slices

-- each is the slice of the line at its column
abbrev pub AreArguments : List ℕ → List (Argument (List ℕ)) → Type 0
AreArguments line [] = Unit {0}
AreArguments line (argument ∷ arguments) = IsArgument line argument × AreArguments line arguments

from_one : (line : List ℕ) (from : ℕ) (arguments : List (Argument (List ℕ))) → ArgumentsFrom line from arguments → AreArguments line arguments
from_one line from [] h = tt
from_one line from (argument ∷ arguments) h = (h.1, from_one line (argument.column + length argument.text) arguments h.2)

pub all_arguments : (line : List ℕ) (start : ℕ) → AreArguments line (arguments_after start line)
all_arguments line start = from_one line (start + 1) (arguments_after start line) (all_after line start)

-- ---- What is printed of words: what holds of each event, where they are in the words' order, and few. Helpers of proofs.

-- each event is so, their words are some of these in their order, and there are few of them
pub record Prints (IsSo : Event (List ℕ) → Type 0) (more : ℕ) (words : List (Argument (List ℕ))) (events : List (Event (List ℕ))) : Type 0 where
  pub each : AreAll IsSo events
  pub order : TakesInOrder events words
  pub few : length events ≤ 2 * length words + more

-- what is no word takes no argument
pub nothing_taken : (kind : EventKind (List ℕ)) (arguments : List (Argument (List ℕ))) → is_word kind ≡ false → Takes kind arguments arguments
nothing_taken (kinds.Word word) arguments h = let no : ⊥ = cc in absurd no
nothing_taken _ arguments h = refl

pub first_taken : (word : Argument (List ℕ)) (words : List (Argument (List ℕ))) → IsTaken word (word ∷ words) words
first_taken word words = record { before = []; split = refl }

-- ---- one event

pub no_event : {IsSo : Event (List ℕ) → Type 0} (more : ℕ) (words : List (Argument (List ℕ))) → Prints IsSo more words []
no_event more words = record { each = tt; order = tt; few = omega arith }

pub more_events : {IsSo : Event (List ℕ) → Type 0} (more most : ℕ) (words : List (Argument (List ℕ))) (events : List (Event (List ℕ))) → more ≤ most → Prints IsSo more words events
    → Prints IsSo most words events
more_events more most words events h p = record { each = p.each; order = p.order; few = let few = p.few in omega (arith, few, h) }

-- a text of the macro's own, or a change
pub own_first : {IsSo : Event (List ℕ) → Type 0} (more most : ℕ) (words : List (Argument (List ℕ))) (event : Event (List ℕ)) (events : List (Event (List ℕ)))
    → is_word event.kind ≡ false → IsSo event → 1 + more ≤ most → Prints IsSo more words events → Prints IsSo most words (event ∷ events)
own_first more most words event events w h m p = grind arith

-- alone
pub own_alone : {IsSo : Event (List ℕ) → Type 0} (most : ℕ) (words : List (Argument (List ℕ))) (event : Event (List ℕ)) → is_word event.kind ≡ false → IsSo event → 1 ≤ most
    → Prints IsSo most words (event ∷ [])
own_alone most words event w h m = own_first 0 most words event [] w h m (no_event 0 words)

-- an event with the first word
pub word_first : {IsSo : Event (List ℕ) → Type 0} (more : ℕ) (word : Argument (List ℕ)) (words : List (Argument (List ℕ))) (event : Event (List ℕ)) (events : List (Event (List ℕ)))
    → IsSo event → Takes event.kind (word ∷ words) words → Prints IsSo more words events → Prints IsSo more (word ∷ words) (event ∷ events)
word_first more word words event events h t p = record { each = (h, p.each); order = (words, t, p.order); few = let few = p.few in omega (arith, few) }

-- a word that gives no event of its own
pub word_passed : {IsSo : Event (List ℕ) → Type 0} (more : ℕ) (word : Argument (List ℕ)) (words : List (Argument (List ℕ))) (events : List (Event (List ℕ)))
    → Prints IsSo (more + 2) words events → Prints IsSo more (word ∷ words) events
word_passed more word words events p =
    record { each = p.each; order = takes_later events (word ∷ []) words p.order; few = let few = p.few in omega (arith, few) }

pub both : {IsSo : Event (List ℕ) → Type 0} (more most : ℕ) (words others : List (Argument (List ℕ))) (events rest : List (Event (List ℕ)))
    → Prints IsSo more words events → Prints IsSo most others rest → Prints IsSo (more + most) (words ++ others) (events ++ rest)
both {IsSo = IsSo} more most words others events rest p q = record {
  each = AreAll-append IsSo events rest p.each q.each;
  order = TakesInOrder-append events rest words others p.order q.order;
  few = let few = p.few in let rest_few = q.few in omega (arith, few, rest_few, length-append events rest, length-append words others);
}

-- and then events that take no word
pub then_own : {IsSo : Event (List ℕ) → Type 0} (more most : ℕ) (words : List (Argument (List ℕ))) (events rest : List (Event (List ℕ))) → Prints IsSo more words events → Prints IsSo most [] rest
    → Prints IsSo (more + most) words (events ++ rest)
then_own {IsSo = IsSo} more most words events rest p q =
    subst (λ (l : List (Argument (List ℕ))). Prints IsSo (more + most) l (events ++ rest)) (append-nil words) (both more most words [] events rest p q)

-- words that are parted after some
pub parted : {IsSo : Event (List ℕ) → Type 0} (more most n : ℕ) (words : List (Argument (List ℕ))) (events rest : List (Event (List ℕ)))
    → Prints IsSo more (take n words) events → Prints IsSo most (drop n words) rest → Prints IsSo (more + most) words (events ++ rest)
parted {IsSo = IsSo} more most n words events rest p q =
    subst (λ (l : List (Argument (List ℕ))). Prints IsSo (more + most) l (events ++ rest)) (take-append-drop n words)
    (both more most (take n words) (drop n words) events rest p q)

pub either : {IsSo : Event (List ℕ) → Type 0} (more : ℕ) (test : Bool) (words : List (Argument (List ℕ))) (events others : List (Event (List ℕ)))
    → Prints IsSo more words events → Prints IsSo more words others → Prints IsSo more words (if test then events else others)
either more true words events others p q = p
either more false words events others p q = q

-- ---- Texts without a quote: helpers of proofs.

after_byte : (b : ℕ) (bs : List ℕ) → list_any is_quote (b ∷ bs) ≡ false → ((b == 34) ≡ false) × (list_any is_quote bs ≡ false)
after_byte b bs h = grind arith

after_bytes : (n : ℕ) (text : List ℕ) → list_any is_quote text ≡ false → list_any is_quote (drop n text) ≡ false
after_bytes zero text h = h
after_bytes (suc n) [] h = h
after_bytes (suc n) (b ∷ bs) h = after_bytes n bs (after_byte b bs h).1

-- an argument that does not begin with a quote is not open
bare_passes : (printed column b : ℕ) (bs : List ℕ) (others : List (Argument (List ℕ))) → (b == 34) ≡ false
    → ((printed : ℕ) → open_quote printed others ≡ None) → open_quote printed (first_argument column (b ∷ bs) ∷ others) ≡ None
bare_passes zero column b bs others t h = rw t (h zero)
bare_passes (suc printed) column b bs others t h = h printed

none_in : (n printed column : ℕ) (text : List ℕ) → list_any is_quote text ≡ false → open_quote printed (first_arguments n column text) ≡ None
none_in zero printed column text h = refl
none_in (suc n) printed column [] h = refl
none_in (suc n) printed column (b ∷ bs) h =
    let k = after_byte b bs h in
    let len = argument_len (b ∷ bs) in
    elim (cases_Bool (is_blank b)) [
      | inl t ↦ rw t (none_in n printed (column + 1) bs k.1)
      | inr t ↦ rw t (bare_passes printed column b bs _ k.0 (λ p. none_in n p (column + len) (drop len (b ∷ bs)) (after_bytes len (b ∷ bs) h)))
    ]

-- without a quote no argument is open
none_open : (start printed : ℕ) (text : List ℕ) → list_any is_quote (drop start text) ≡ false → open_quote printed (arguments_after start text) ≡ None
unfolding arguments
none_open start printed text h = none_in (length (drop start text)) printed (start + 1) (drop start text) h

-- the same of a slice up to the text's end
pub rest_open : (start printed : ℕ) (text : List ℕ) → list_any is_quote (take (length text - start) (drop start text)) ≡ false
    → open_quote printed (arguments_after start text) ≡ None
rest_open start printed text h = grind (arith, length-drop, none_open, take-length)

-- ---- What is a slice of a line is in a line.

pub argument_fits : (line : List ℕ) (argument : Argument (List ℕ)) → length line ≤ LINE → IsArgument line argument → ArgumentFits argument
argument_fits line argument short slice = grind arith

given_fits : (line : List ℕ) (argument : Option (Argument (List ℕ))) → length line ≤ LINE → IsArgumentIfGiven line argument → GivenFits argument
given_fits line None short slice = tt
given_fits line (Some argument) short slice = argument_fits line argument short slice

part_fits : (line text : List ℕ) → length line ≤ LINE → IsPart line text → length text ≤ LINE
part_fits line text short part = let within = part.1.within in omega (arith, within, short)

block_opener_fits : (line : List ℕ) (opener : BlockOpener (List ℕ)) → length line ≤ LINE → BlockOpensSlices line opener → BlockOpenerFits opener
block_opener_fits line (block_openers.List kind is_compact options) short slices = part_fits line options short slices
block_opener_fits line (block_openers.Custom mark) short slices = given_fits line mark short slices
block_opener_fits line (block_openers.Display is_literal is_compact offset) short slices = given_fits line offset short slices
block_opener_fits line (block_openers.Function name) short slices = argument_fits line name short slices
block_opener_fits line _ short slices = tt

block_closer_fits : (line : List ℕ) (closer : BlockCloser (List ℕ)) → length line ≤ LINE → BlockClosesSlices line closer → BlockCloserFits closer
block_closer_fits line (block_closers.Custom mark) short slices = given_fits line mark short slices
block_closer_fits line _ short slices = tt

opener_fits : (line : List ℕ) (opener : Opener (List ℕ)) → length line ≤ LINE → OpensSlices line opener → OpenerFits opener
opener_fits line (openers.Indented tag hang) short slices = given_fits line tag short slices.0
opener_fits line (openers.Target link target) short slices = argument_fits line target short slices
opener_fits line (openers.Syntax name) short slices = argument_fits line name short slices
opener_fits line (openers.Block opener) short slices = block_opener_fits line opener short slices
opener_fits line _ short slices = tt

closer_fits : (line : List ℕ) (closer : Closer (List ℕ)) → length line ≤ LINE → ClosesSlices line closer → CloserFits closer
closer_fits line (closers.Target link suffix) short slices = given_fits line suffix short slices
closer_fits line (closers.Block closer) short slices = block_closer_fits line closer short slices
closer_fits line _ short slices = tt

step_fits : (line : List ℕ) (step : LineStep (List ℕ)) → length line ≤ LINE → StepsSlices line step → StepFits step
step_fits line (steps.Uri uri) short slices = argument_fits line uri short slices
step_fits line _ short slices = tt

leaf_fits : (line : List ℕ) (leaf : Leaf (List ℕ)) → length line ≤ LINE → LeavesSlices line leaf → LeafFits leaf
leaf_fits line (leaves.Step step) short slices = step_fits line step short slices
leaf_fits line _ short slices = tt

-- the texts of an event of a line, which are slices of it, are in a line
pub kind_fits : (line : List ℕ) (kind : EventKind (List ℕ)) → length line ≤ LINE → HasSlices line kind → KindFits kind
kind_fits line (kinds.Word word) short slices = argument_fits line word.arg short slices
kind_fits line (kinds.Open opener) short slices = opener_fits line opener short slices
kind_fits line (kinds.Close closer) short slices = closer_fits line closer short slices
kind_fits line (kinds.Leaf leaf) short slices = leaf_fits line leaf short slices
kind_fits line _ short slices = tt

-- the first event of a line
pub first_short : (line : List ℕ) (events : List (Event (List ℕ))) (event : Event (List ℕ)) (others : List (Event (List ℕ)))
    → length line ≤ LINE → AreSlices line events → events ≡ event ∷ others → IsShort event
first_short line [] event others short slices is = let no : ⊥ = cc in absurd no
first_short line (e ∷ es) event others short slices is = grind arith

pub first_fits : (line : List ℕ) (events : List (Event (List ℕ))) (event : Event (List ℕ)) (others : List (Event (List ℕ)))
    → length line ≤ LINE → AreSlices line events → events ≡ event ∷ others → KindFits event.kind
first_fits line events event others short slices is = (first_short line events event others short slices is).0

-- ---- The events of a line after some of them: helpers of proofs.

pub nth_within : (n : ℕ) (events : List (Event (List ℕ))) (event : Event (List ℕ)) → nth n events ≡ Some event → n < length events
nth_within n [] event is = let no : ⊥ = cc in absurd no
nth_within zero (e ∷ es) event is = omega arith
nth_within (suc n) (e ∷ es) event is = let w = nth_within n es event is in omega (arith, w)

nth_next : (n : ℕ) (events : List (Event (List ℕ))) (event : Event (List ℕ)) → nth n events ≡ Some event → drop n events ≡ event ∷ drop (suc n) events
nth_next n [] event is = let no : ⊥ = cc in absurd no
nth_next zero (e ∷ es) event is = cc
nth_next (suc n) (e ∷ es) event is = nth_next n es event is

pub nth_some : (n : ℕ) (events : List (Event (List ℕ))) (event : Event (List ℕ)) → nth n events ≡ Some event → drop n events ≡ event ∷ drop (n + 1) events
nth_some n events event is = rw add-one (nth_next n events event is)

pub nth_none : (n : ℕ) (events : List (Event (List ℕ))) → nth n events ≡ None → drop n events ≡ []
nth_none zero [] is = refl
nth_none (suc n) [] is = refl
nth_none zero (e ∷ es) is = let no : ⊥ = cc in absurd no
nth_none (suc n) (e ∷ es) is = nth_none n es is

pub slices_after : (line : List ℕ) (n : ℕ) (events : List (Event (List ℕ))) → AreSlices line events → AreSlices line (drop n events)
slices_after line zero events h = h
slices_after line (suc n) [] h = tt
slices_after line (suc n) (e ∷ es) h = slices_after line n es h.1

-- ---- what keeps one event

found_none : (n : ℕ) (kept : Option (Event (Bor (List ℕ)))) → found n kept [] ≡ kept_view kept
found_none n None = refl
found_none n (Some event) = refl

-- all events came, and the one that is kept is the one after this many
pub nth_kept : (n : ℕ) (events : List (Event (List ℕ))) (skipped : ℕ) (kept result : Option (Event (Bor (List ℕ))))
    → found skipped kept [] ≡ nth n events → kept_view result ≡ kept_view kept → nth n events ≡ kept_view result
nth_kept n events skipped kept result is same = sym is ∙ (found_none skipped kept ∙ sym same)

pub nth_start : (n : ℕ) (events : List (Event (List ℕ))) (skipped : ℕ) (kept : Option (Event (Bor (List ℕ))))
    → found skipped kept ≡ nth n → found skipped kept (events ++ []) ≡ nth n events
nth_start n events skipped kept is = rw append-nil (ap (λ (f : List (Event (List ℕ)) → Option (Event (List ℕ))). f events) is)
