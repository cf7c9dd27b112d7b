-- The laws of macro sets, from what each set's macros keep: proofs, which the sets' laws cite.
use Rattle.std.proofs.Common.{◌≡◌, ℕ, ◌+◌, ◌*◌, ◌≤◌, Bool, false, List, [], ◌∷◌, length, arith, inl, inr, Option, None, Some, if◌then◌else◌, true, ◌&&◌, drop, refl, option_map}
use Rattle.std.specs.Option.{option_map_or}
use Rattle.std.proofs.lemmas.Bool.{cases_Bool}
use Rattle.page_core_base.specs.Texts.{TakenLine}
use Rattle.page_roff_syntax.specs.declared.quotes.Argument.{Argument}
use Rattle.page_sets_lines.specs.Lines.{arguments_after, is_nameless, line_end, line_start, name_end, name_place, plain_events, event_at, first_of, name_of, plain_line, rest_of}
use Rattle.page_sets_lines.specs.declared.events.Event.{Event}
use Rattle.page_sets_lines.specs.declared.plain_lines.PlainLine.{PlainLine}
use Rattle.page_sets_lines.specs.laws.Sets.{AreAll, AreInOrder, HasSlices, ClosesSlices, IsArgument, IsArgumentIfGiven, LeavesSlices, OpensSlices}
use Rattle.page_sets_lines.proofs.ArgumentLaws.{all_after, earlier, AllSit, AnyAt, AnyAtIfGiven, Sits, open_at, line_order, line_slices, named_bytes, is_word, end_within, first_slice_after, first_text_after, name_part, nothing_part, request_slices, rest_part, second_text_after, AreArguments, all_arguments, in_order, Prints, both, either, first_taken, more_events, no_event, own_alone, own_first, then_own, word_first, word_passed}
use Rattle.page_sets_mdoc_lines.proofs.WordSpanLemmas.{few_arguments_after}
use Rattle.page_core_base.specs.declared.cells.Font.{Font}
use Rattle.page_core_base.specs.declared.cells.Font.TheVariants as fonts
use Rattle.page_core_base.specs.declared.note_kinds.NoteKind.{NoteKind}
use Rattle.page_roff_syntax.specs.Arguments.{has_arguments}
use Rattle.page_sets_lines.specs.declared.events.EventKind.{EventKind}
use Rattle.page_sets_lines.specs.declared.events.EventKind.TheVariants as kinds
use Rattle.page_sets_lines.specs.declared.events.Join.{Join}
use Rattle.page_sets_lines.specs.declared.events.Join.TheVariants.{Apart, Glued}
use Rattle.page_sets_lines.specs.declared.openers.Closer.TheVariants as closers
use Rattle.page_sets_lines.specs.declared.openers.LineOpener.{LineOpener}
use Rattle.page_sets_lines.specs.declared.openers.Opener.{Opener}
use Rattle.page_sets_mdoc_words.proofs.WordPrintLemmas.{marked_after}
use Rattle.page_sets.specs.declared.man_rows.Opens.{Opens}
use Rattle.page_sets.specs.declared.man_rows.Opens.TheVariants as opens
use Rattle.page_sets.specs.declared.man_rows.Closes.{Closes}
use Rattle.page_sets.specs.declared.man_rows.Closes.TheVariants as closes
use Rattle.page_sets.specs.declared.man_rows.Sets.{Sets}
use Rattle.page_sets.specs.declared.man_rows.Sets.TheVariants as sets
use Rattle.page_sets.specs.declared.man_rows.Effect.{Effect}
use Rattle.page_sets.specs.declared.man_rows.Effect.TheVariants as effects
use Rattle.page_sets.specs.declared.man_rows.Alone.{Alone}
use Rattle.page_sets.specs.declared.man_rows.Alone.TheVariants.{Same, Empty, Scope}
use Rattle.page_sets.specs.declared.man_rows.Quotes.{Quotes}
use Rattle.page_sets.specs.declared.man_rows.Quotes.TheVariants.{Printed, After, BodyAfter}
use Rattle.page_sets.specs.declared.man_rows.Words.{Words}
use Rattle.page_sets.specs.declared.man_rows.Words.TheVariants as words
use Rattle.page_sets.specs.declared.man_rows.Last.{Last}
use Rattle.page_sets.specs.declared.man_rows.Last.TheVariants as lasts
use Rattle.page_sets.specs.declared.man_rows.ManRow.{ManRow}
use Rattle.page_sets.specs.Man.{alternating_words, argument_word, closer, effect_kind, has_words, kind_events, last_events, leaf, line_scope, lone_events, macro_events, man_events, missing_quote, named_events, one_word, opener, option_words, plain_words, quote_at, quote_events, reference_words, refused_events, row_of, section_words, words_events}

-- where the events of a line may be: at its start, at its name, at its arguments
pub record HoldsAt (IsSo : Event (List ℕ) → Type 0) (line : TakenLine) : Type 0 where
  pub start : AnyAt line.text IsSo (line_start line.number)
  pub name : is_nameless line ≡ false → AnyAt line.text IsSo (name_place line)
  pub arguments : AllSit line.text IsSo line.number (arguments_after (name_end line) line.text)

-- what then holds of them
pub record IsLawful (IsSo : Event (List ℕ) → Type 0) (line : TakenLine) (events : List (Event (List ℕ))) : Type 0 where
  pub each : AreAll IsSo events
  pub order : AreInOrder 0 events
  pub few : length events ≤ 2 * length line.text + 2

-- a line with a name has at most two events an argument, and six
abbrev pub HasPrinted : (Event (List ℕ) → Type 0) → TakenLine → List (Event (List ℕ)) → Type 0
HasPrinted IsSo line events = Prints IsSo 6 (arguments_after (name_end line) line.text) events

named_lawful : (IsSo : Event (List ℕ) → Type 0) (line : TakenLine) (events : List (Event (List ℕ))) → is_nameless line ≡ false → HasPrinted IsSo line events → IsLawful IsSo line events
named_lawful IsSo line events n p =
    let arguments = arguments_after (name_end line) line.text in
    let b = named_bytes line n in
    let a = few_arguments_after line.text (name_end line) in
    let few = p.few in
    record {
      each = p.each;
      order = in_order line.text 0 events arguments (earlier line.text 0 (name_end line + 1) arguments (omega arith) (all_after line.text (name_end line))) p.order;
      few = omega (arith, b.0, b.1, a, few);
    }

pub line_lawful : (IsSo : Event (List ℕ) → Type 0) (line : TakenLine) (filled : Bool) (named : List (Event (List ℕ))) (plain : Option PlainLine) → HoldsAt IsSo line
    → (is_nameless line ≡ false → HasPrinted IsSo line named)
    → IsLawful IsSo line (option_map_or (plain_events line.number line.text) plain (if is_nameless line then line_end line.number filled ∷ [] else named))
line_lawful IsSo line filled named None h keeps =
    elim (cases_Bool (is_nameless line)) [
      | inl t ↦ rw t (record { each = (h.start _ tt, tt); order = (tt, tt); few = omega arith })
      | inr t ↦ rw t (named_lawful IsSo line named t (keeps t))
    ]
line_lawful IsSo line filled named (Some plain) h keeps =
    record { each = (h.start _ (line_slices plain line.text), (h.start _ tt, tt)); order = (line_order plain line.text, (tt, tt)); few = omega arith }

-- ---- slices of a line may be anywhere

abbrev pub HasOwnSlices : TakenLine → Event (List ℕ) → Type 0
HasOwnSlices line event = HasSlices line.text event.kind

all_sit : (line : TakenLine) (arguments : List (Argument (List ℕ))) → AreArguments line.text arguments → AllSit line.text (HasOwnSlices line) line.number arguments
all_sit line [] h = tt
all_sit line (argument ∷ arguments) h =
    (record { slice = h.0; first = λ kind prints slices. slices; byte = λ some kind slices. slices; quote = λ lacks kind slices. slices }, all_sit line arguments h.1)

pub slices_hold : (line : TakenLine) → HoldsAt (HasOwnSlices line) line
slices_hold line = record {
  start = λ kind slices. slices;
  name = λ named kind slices. slices;
  arguments = all_sit line _ (all_arguments line.text (name_end line));
}

-- ---- The macros of man(7) keep the laws of macro sets: proofs, which the set's laws cite. Source: man(7).

-- ---- slices

-- what may be there, and then has slices
HasSlicesIfGiven : List ℕ → Option (EventKind (List ℕ)) → Type 0
HasSlicesIfGiven line None = Unit {0}
HasSlicesIfGiven line (Some kind) = HasSlices line kind

target_slices : (line : List ℕ) (make : Argument (List ℕ) → Opener (List ℕ)) (given : Option (Argument (List ℕ)))
    → ((argument : Argument (List ℕ)) → IsArgument line argument → OpensSlices line (make argument)) → IsArgumentIfGiven line given
    → HasSlicesIfGiven line (option_map kinds.Open (option_map make given))
unfolding HasSlicesIfGiven
target_slices line make None keeps h = tt
target_slices line make (Some argument) keeps h = keeps argument h

opens_slices : (line : List ℕ) (scope : Opens) (start : ℕ) → HasSlicesIfGiven line (option_map kinds.Open (opener scope (arguments_after start line)))
unfolding HasSlicesIfGiven
opens_slices line opens.Tagged start = first_text_after line start
opens_slices line opens.Indented start = (first_slice_after line start, second_text_after line start)
opens_slices line opens.Hanging start = first_text_after line start
opens_slices line opens.RelativeMargin start = first_text_after line start
opens_slices line (opens.Target link) start =
    target_slices line _ (first_of (arguments_after start line)) (λ argument h. h) (first_slice_after line start)
opens_slices line opens.Syntax start = target_slices line _ (first_of (arguments_after start line)) (λ argument h. h) (first_slice_after line start)
opens_slices line _ start = tt

closes_slices : (line : List ℕ) (scope : Closes) (start : ℕ) → ClosesSlices line (closer scope (arguments_after start line))
closes_slices line closes.RelativeMargin start = first_text_after line start
closes_slices line (closes.Target link) start = first_slice_after line start
closes_slices line closes.Syntax start = tt

sets_slices : (line : List ℕ) (change : Sets) (start : ℕ) → start ≤ length line → LeavesSlices line (leaf change (drop start line) (arguments_after start line))
sets_slices line (sets.Request name) start h = request_slices line name _ (first_slice_after line start)
sets_slices line sets.Title start h = rest_part line start h
sets_slices line sets.Distance start h = first_text_after line start
sets_slices line _ start h = tt

-- ---- a line

module _ (line : TakenLine) (IsSo : Event (List ℕ) → Type 0) (start : AnyAt line.text IsSo (line_start line.number)) (at : AnyAt line.text IsSo (name_place line))
    (sit : AllSit line.text IsSo line.number (arguments_after (name_end line) line.text)) where
  abbrev all : List (Argument (List ℕ))
  all = arguments_after (name_end line) line.text

  -- one event at the macro
  alone : (kind : EventKind (List ℕ)) → is_word kind ≡ false → HasSlices line.text kind → Prints IsSo 1 [] (event_at (name_place line) kind ∷ [])
  alone kind w s = own_alone 1 [] _ w (at kind s) (omega arith)

  ends : (filled : Bool) (words : List (Argument (List ℕ))) → Prints IsSo 1 words (line_end line.number filled ∷ [])
  ends filled words = own_alone 1 words _ refl (start _ tt) (omega arith)

  -- ---- before the words

  break_prints : (breaks : Bool) → Prints IsSo 1 [] (if breaks then event_at (name_place line) (kinds.Close closers.Line) ∷ [] else [])
  break_prints true = alone _ refl tt
  break_prints false = no_event 1 []

  quote_prints : (begins_body : Bool) (column : Option ℕ) → AnyAtIfGiven line.text IsSo line.number column → Prints IsSo 1 [] (quote_events line.number (quote_at begins_body column))
  quote_prints begins_body None h = no_event 1 []
  quote_prints begins_body (Some column) h = own_alone 1 [] _ refl (h _ (nothing_part line.text)) (omega arith)

  quotes_print : (quotes : Quotes) → Prints IsSo 1 [] (quote_events line.number (missing_quote quotes all))
  quotes_print Printed = no_event 1 []
  quotes_print (After printed) = quote_prints false _ (open_at line.text IsSo line.number printed all sit)
  quotes_print (BodyAfter printed) = quote_prints true _ (open_at line.text IsSo line.number printed all sit)

  open_prints : (given : Option (Opener (List ℕ))) → HasSlicesIfGiven line.text (option_map kinds.Open given) → Prints IsSo 1 [] (kind_events (name_place line) (option_map kinds.Open given))
  unfolding HasSlicesIfGiven
  open_prints None h = no_event 1 []
  open_prints (Some opener) h = alone _ refl h

  effect_prints : (effect : Effect) → Prints IsSo 1 [] (kind_events (name_place line) (effect_kind effect (rest_of line) all))
  effect_prints effects.Nothing = no_event 1 []
  effect_prints (effects.Opens scope) = open_prints (opener scope all) (opens_slices line.text scope (name_end line))
  effect_prints (effects.Closes scope) = alone _ refl (closes_slices line.text scope (name_end line))
  effect_prints (effects.Sets change) = alone _ refl (sets_slices line.text change (name_end line) (end_within line))

  scope_prints : (scope : Option LineOpener) → Prints IsSo 1 [] (kind_events (name_place line) (option_map kinds.LineScope scope))
  scope_prints None = no_event 1 []
  scope_prints (Some opener) = alone _ refl tt

  -- ---- the words, and what comes after them

  first_prints : (font : Option Font) (before : Join) (word : Argument (List ℕ)) (words : List (Argument (List ℕ))) (events : List (Event (List ℕ))) → Sits line.text IsSo line.number word
      → Prints IsSo 0 words events → Prints IsSo 0 (word ∷ words) (argument_word line.number font before word ∷ events)
  first_prints font before word words events h p = word_first 0 word words _ events (h.first _ refl h.slice) (first_taken word words) p

  one_prints : (font : Option Font) (before : Join) (words : List (Argument (List ℕ))) → AllSit line.text IsSo line.number words → Prints IsSo 0 words (one_word line.number font before words)
  one_prints font before [] h = no_event 0 []
  one_prints font before (word ∷ words) h = first_prints font before word words [] h.0 (no_event 0 words)

  plain_prints : (words : List (Argument (List ℕ))) → AllSit line.text IsSo line.number words → Prints IsSo 0 words (plain_words line.number words)
  plain_prints [] h = no_event 0 []
  plain_prints (word ∷ words) h = first_prints None Apart word words _ h.0 (plain_prints words h.1)

  alternating_prints : (font other : Font) (before : Join) (words : List (Argument (List ℕ))) → AllSit line.text IsSo line.number words
      → Prints IsSo 0 words (alternating_words line.number font other before words)
  alternating_prints font other before [] h = no_event 0 []
  alternating_prints font other before (word ∷ words) h = first_prints (Some font) before word words _ h.0 (alternating_prints other font Glued words h.1)

  option_prints : (words : List (Argument (List ℕ))) → AllSit line.text IsSo line.number words → Prints IsSo 0 words (option_words line.number words)
  option_prints [] h = no_event 0 []
  option_prints (key ∷ words) h = first_prints (Some fonts.B) Apart key words _ h.0 (one_prints (Some fonts.I) Apart words h.1)

  section_prints : (words : List (Argument (List ℕ))) → AllSit line.text IsSo line.number words → Prints IsSo 1 words (section_words (name_place line) words)
  section_prints [] h = no_event 1 []
  section_prints (section ∷ words) h =
      own_first 0 1 (section ∷ words) _ _ refl (at _ tt) (omega arith)
      (marked_after line.text IsSo 0 (argument_word line.number None Apart section) _ section words _ (h.0.first _ refl h.0.slice, first_taken section words) refl (at _ tt)
      (one_prints None Glued words h.1))

  -- a name makes room for the second mark of its section
  reference_prints : (words : List (Argument (List ℕ))) → AllSit line.text IsSo line.number words → Prints IsSo 0 words (reference_words (name_place line) words)
  reference_prints [] h = no_event 0 []
  reference_prints (name ∷ words) h =
      let p = section_prints words h.1 in
      let few = p.few in
      record { each = (h.0.first _ refl h.0.slice, p.each); order = (words, first_taken name words, p.order); few = omega (arith, few) }

  further_prints : (words : List (Argument (List ℕ))) → AllSit line.text IsSo line.number words → Prints IsSo 0 words (plain_words line.number (drop 1 words))
  further_prints [] h = no_event 0 []
  further_prints (first ∷ words) h = word_passed 0 first words _ (more_events 0 2 words _ (omega arith) (plain_prints words h.1))

  words_print : (these : Words) → Prints IsSo 0 all (words_events (name_place line) these all)
  words_print words.Nothing = no_event 0 all
  words_print words.Plain = plain_prints all sit
  words_print (words.Alternating font other) = alternating_prints font other Apart all sit
  words_print words.Option = option_prints all sit
  words_print words.Reference = reference_prints all sit
  words_print words.Further = further_prints all sit

  last_prints : (last : Last) → Prints IsSo 1 [] (last_events (name_place line) last)
  last_prints lasts.Nothing = no_event 1 []
  last_prints lasts.FontEnds = alone _ refl tt
  last_prints (lasts.Mark text) = alone _ refl tt

  -- ---- a macro

  macro_prints : (row : ManRow) → Prints IsSo 6 all (macro_events (name_place line) row (rest_of line) all)
  macro_prints row =
      both 1 5 [] all _ _ (break_prints row.breaks)
      (both 1 4 [] all _ _ (quotes_print row.quotes)
      (both 1 3 [] all _ _ (effect_prints row.effect)
      (both 1 2 [] all _ _ (scope_prints (line_scope row.effect))
      (then_own 0 2 all _ _ (words_print row.words)
      (both 1 1 [] [] _ _ (last_prints row.last) (ends (has_words row.words && has_arguments (rest_of line)) []))))))

  refused_prints : (kind : NoteKind) → Prints IsSo 6 all (refused_events kind (name_place line) (name_of line))
  refused_prints kind = own_first 1 6 all _ _ refl (at _ (name_part line)) (omega arith) (ends false all)

  lone_prints : (alone : Alone) (events : List (Event (List ℕ))) → Prints IsSo 6 all events → Prints IsSo 6 all (lone_events alone (name_place line) (name_of line) events)
  lone_prints Same events p = p
  lone_prints Empty events p = refused_prints _
  lone_prints (Scope opener) events p = own_first 1 6 all _ _ refl (at _ tt) (omega arith) (ends false all)

  named_prints : (row : Option ManRow) → Prints IsSo 6 all (named_events line row)
  named_prints None = refused_prints _
  named_prints (Some row) =
      let p = macro_prints row in either 6 (has_arguments (rest_of line)) all _ _ p (lone_prints row.alone _ p)

pub man_lawful : (IsSo : Event (List ℕ) → Type 0) (line : TakenLine) → HoldsAt IsSo line → IsLawful IsSo line (man_events line)
unfolding man_events
man_lawful IsSo line h =
    line_lawful IsSo line false (named_events line (row_of (name_of line))) (plain_line line.form line.text) h
    (λ named. named_prints line IsSo h.start (h.name named) h.arguments (row_of (name_of line)))
