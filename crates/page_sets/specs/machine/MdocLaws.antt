-- The words of a line of mdoc(7), with the calls among them: what holds of each event; they are in its order, and few: proofs, which the set's laws cite.
-- Source: mdoc(7).
use Rattle.std.proofs.Common.{◌≡◌, ℕ, ◌+◌, ◌-◌, ◌≤◌, Bool, true, false, List, [], ◌∷◌, ◌++◌, length, refl, sym, subst, append_assoc, arith, inl, inr, Option, None, Some, if◌then◌else◌, ◌&&◌, not}
use Rattle.std.specs.List.{list_all}
use Rattle.std.proofs.lemmas.Bool.{and_parts, cases_Bool}
use Rattle.page_core_base.specs.Texts.{TakenLine}
use Rattle.page_roff_syntax.specs.Arguments.{is_quoted, has_arguments}
use Rattle.page_roff_syntax.specs.declared.quotes.Argument.{Argument}
use Rattle.page_roff_syntax.specs.declared.quotes.Quoting.{Quoting}
use Rattle.page_roff_syntax.specs.declared.quotes.Quoting.TheVariants.{Bare, Closed, Unclosed}
use Rattle.page_sets_lines.specs.declared.events.Event.{Event}
use Rattle.page_sets_lines.specs.Lines.{name_of, name_place, word_place, line_start, line_end, plain_line, layout_request, rest_of}
use Rattle.page_sets_lines.proofs.ArgumentLaws.{AllSit, AllSit-split, AnyAt, name_part, Prints, both, more_events, no_event, own_first, word_passed, either, own_alone, then_own}
use Rattle.page_sets_mdoc_lines.specs.declared.macros.Inline.{Inline}
use Rattle.page_sets_mdoc_lines.specs.Rows.{called, is_parsed, row_of, line_macro}
use Rattle.page_sets_mdoc_lines.specs.Parts.{InlineCall, LineParts, closes, delimiter_of, has_calls, if_parsed, is_closing, part_first, parts, takes, word_call, word_delimiter}
use Rattle.page_sets_mdoc_lines.specs.laws.Views.{as_list, calls_arguments, parts_arguments}
use Rattle.page_sets_mdoc_lines.proofs.WordSpanLemmas.{none_taken, whole}
use Rattle.page_sets_mdoc_words.specs.Inlines.{printed}
use Rattle.page_sets_mdoc_words.proofs.MacroPrintLemmas.{begun_prints, called_prints, own_arguments}
use Rattle.page_sets_mdoc_words.proofs.WordPrintLemmas.{printed_prints, include_prints, sentence_prints, framed_prints}
use Rattle.page_sets.specs.Mdoc.{call_events, calls_events, tail_events, rest_events, head_events, phrase_events, field_font, include_words, words_events, refused_events, macro_events, request_events, named_events, mdoc_events}
use Rattle.page_core_base.specs.declared.note_kinds.NoteKind.{NoteKind}
use Rattle.page_core_base.specs.declared.note_kinds.NoteKind.TheVariants.{UnknownMacro, EmptyMacro}
use Rattle.page_roff_syntax.specs.declared.requests.LayoutRequest.{LayoutRequest}
use Rattle.page_sets_lines.specs.declared.line_steps.SynopsisStep.TheVariants.{Break}
use Rattle.page_sets_mdoc_lines.specs.declared.blocks.LineMacro.{LineMacro}
use Rattle.page_sets_mdoc_lines.specs.declared.blocks.LineMacro.TheVariants as lines
use Rattle.page_sets_mdoc_lines.specs.declared.blocks.Sentence.{Sentence}
use Rattle.page_sets_mdoc_words.specs.Sentences.{sentence_events}
use Rattle.page_sets_mdoc_blocks.specs.Fronts.{line_arguments, request_front, has_real_word, is_standard, given_names, block_front, has_phrase}
use Rattle.page_sets_mdoc_blocks.proofs.FrontLemmas.{front_most, front_prints, request_front_prints, words_more}
use Rattle.page_sets.specs.machine.ManLaws.{HoldsAt, IsLawful, line_lawful}

-- ---- words that call, and delimiters, have bytes

called_byte : (quoting : Quoting) (text : List ℕ) (inline : Inline) → (if is_quoted quoting then None else called text) ≡ Some inline → 1 ≤ length text
unfolding row_of
called_byte Bare [] inline h = let no : called [] ≡ None = refl in cc
called_byte Closed [] inline h = cc
called_byte Unclosed [] inline h = cc
called_byte quoting (byte ∷ bytes) inline h = omega arith

call_byte : (word : Argument (List ℕ)) (parsed : Bool) (inline : Inline) → if_parsed parsed (word_call word) ≡ Some inline → 1 ≤ length word.text
unfolding word_call
call_byte word true inline h = called_byte word.quoting word.text inline h
call_byte word false inline h = let no : ⊥ = cc in absurd no

closed_byte : (quoting : Quoting) (text : List ℕ) → closes (if is_quoted quoting then None else delimiter_of text) ≡ true → 1 ≤ length text
unfolding delimiter_of
closed_byte Bare [] h = let no : delimiter_of [] ≡ None = refl in let none : closes (delimiter_of []) ≡ false = refl in cc
closed_byte Closed [] h = cc
closed_byte Unclosed [] h = cc
closed_byte quoting (byte ∷ bytes) h = omega arith

closing_byte : (word : Argument (List ℕ)) → is_closing word ≡ true → 1 ≤ length word.text
unfolding is_closing word_delimiter
closing_byte word h = closed_byte word.quoting word.text h

-- the names of calls, and the first of the delimiters at the end
abbrev CallsHaveBytes : List InlineCall → Type 0
CallsHaveBytes [] = Unit {0}
CallsHaveBytes (call ∷ calls) = (1 ≤ length call.name.text) × CallsHaveBytes calls

abbrev FirstHasByte : List (Argument (List ℕ)) → Type 0
FirstHasByte [] = Unit {0}
FirstHasByte (word ∷ words) = 1 ≤ length word.text

record HaveBytes (p : LineParts) : Type 0 where
  calls : CallsHaveBytes p.calls
  tail : FirstHasByte p.tail

word_bytes : (word : Argument (List ℕ)) (p : LineParts) (begun : Inline → LineParts) (call : Option Inline) → ((inline : Inline) → call ≡ Some inline → 1 ≤ length word.text)
    → HaveBytes p → ((inline : Inline) → HaveBytes (begun inline)) → HaveBytes (part_first call word p begun)
word_bytes word p begun None b h k = record { calls = h.calls; tail = h.tail }
word_bytes word p begun (Some inline) b h k = record { calls = (b inline refl, (k inline).calls); tail = (k inline).tail }

parts_bytes : (begun : Option Inline) (parsed : Bool) (words : List (Argument (List ℕ))) → HaveBytes (parts begun parsed words)
parts_bytes begun parsed [] = record { calls = tt; tail = tt }
parts_bytes begun parsed (word ∷ words) =
    let others = parts_bytes None parsed words in
    let by_word = word_bytes word (parts None parsed words) (λ inline. parts (Some inline) true words) (if_parsed parsed (word_call word)) (call_byte word parsed) others (λ inline. parts_bytes (Some inline) true words) in
    elim (cases_Bool (takes begun word)) [
      | inl s ↦ rw s (record { calls = others.calls; tail = others.tail })
      | inr s ↦
          elim (cases_Bool (list_all is_closing (word ∷ words))) [
            | inl t ↦ rw (s, t) (record { calls = tt; tail = closing_byte word (and_parts (is_closing word) (list_all is_closing words) t).0 })
            | inr t ↦ rw (s, t) by_word
          ]
    ]

module _ (line : TakenLine) (IsSo : Event (List ℕ) → Type 0) where
  -- ---- after the words of the macro that begins the line

  tail_prints : (tail : List (Argument (List ℕ))) → FirstHasByte tail → AllSit line.text IsSo line.number tail → Prints IsSo 1 tail (tail_events line.number tail)
  tail_prints [] b h = no_event 1 []
  tail_prints (word ∷ words) b h =
      own_first 0 1 (word ∷ words) _ _ refl (h.0.byte b _ tt) (omega arith) (printed_prints line.text IsSo line.number None (word ∷ words) h)

  -- a macro that a word calls, and then what comes after its words
  call_prints : (call : InlineCall) (follows : Bool) (others : List (Argument (List ℕ))) (events : List (Event (List ℕ))) → 1 ≤ length call.name.text
      → AllSit line.text IsSo line.number (call.name ∷ (own_arguments call.taken call.words ++ others)) → Prints IsSo 1 others events
      → Prints IsSo 1 (call.name ∷ (own_arguments call.taken call.words ++ others)) (call_events line.number call follows ++ events)
  call_prints call follows others events b h p =
      let own = own_arguments call.taken call.words in
      word_passed 1 call.name (own ++ others) _
      (both 2 1 own others _ events
      (called_prints line.text IsSo (word_place line.number call.name) (h.0.byte b) call.name.text call.inline call.taken call.words follows (call.name.column - 1, h.0.slice.slice)
      (AllSit-split line.text IsSo line.number own others h.1).0)
      p)

  calls_print : (calls : List InlineCall) (tail : List (Argument (List ℕ))) → CallsHaveBytes calls → FirstHasByte tail → AllSit line.text IsSo line.number (calls_arguments calls ++ tail)
      → Prints IsSo 1 (calls_arguments calls ++ tail) (calls_events line.number calls ++ tail_events line.number tail)
  calls_print [] tail b c h = tail_prints tail c h
  calls_print (call ∷ calls) tail b c h =
      let own = call.name ∷ own_arguments call.taken call.words in
      let others = calls_arguments calls ++ tail in
      let words = append_assoc own (calls_arguments calls) tail in
      let events = append_assoc (call_events line.number call (has_calls calls)) (calls_events line.number calls) (tail_events line.number tail) in
      let all : AllSit line.text IsSo line.number (own ++ others) = subst (λ (l : List (Argument (List ℕ))). AllSit line.text IsSo line.number l) words h in
      subst (λ (l : List (Argument (List ℕ))). Prints IsSo 1 l (calls_events line.number (call ∷ calls) ++ tail_events line.number tail)) (sym words)
      (subst (λ (l : List (Event (List ℕ))). Prints IsSo 1 (own ++ others) l) (sym events)
      (call_prints call (has_calls calls) others _ b.0 all (calls_print calls tail b.1 c (AllSit-split line.text IsSo line.number own others all).1)))

  -- the words of the macro that begins a line, and then what comes after them
  parts_print : (more : ℕ) (p : LineParts) (events : List (Event (List ℕ))) → HaveBytes p → AllSit line.text IsSo line.number (parts_arguments p)
      → (AllSit line.text IsSo line.number (own_arguments p.taken p.words) → Prints IsSo more (own_arguments p.taken p.words) events)
      → Prints IsSo (more + 1) (parts_arguments p) (events ++ rest_events line.number p)
  parts_print more p events b h own =
      let others = calls_arguments p.calls ++ p.tail in
      let words = append_assoc (as_list p.taken) p.words others in
      let all : AllSit line.text IsSo line.number (own_arguments p.taken p.words ++ others) = subst (λ (l : List (Argument (List ℕ))). AllSit line.text IsSo line.number l) (sym words) h in
      let split = AllSit-split line.text IsSo line.number (own_arguments p.taken p.words) others all in
      subst (λ (l : List (Argument (List ℕ))). Prints IsSo (more + 1) l (events ++ rest_events line.number p)) words
      (both more 1 (own_arguments p.taken p.words) others events _ (own split.0) (calls_print p.calls p.tail b.calls b.tail split.1))

  -- a macro that can be among words, and begins the line
  pub head_prints : (inline : Inline) (arguments : List (Argument (List ℕ))) → AnyAt line.text IsSo (name_place line) → AllSit line.text IsSo line.number arguments
      → Prints IsSo 5 arguments (head_events line inline (parts (Some inline) (is_parsed (name_of line)) arguments))
  head_prints inline arguments at h =
      let p = parts (Some inline) (is_parsed (name_of line)) arguments in
      let all = whole (Some inline) (is_parsed (name_of line)) arguments in
      subst (λ (l : List (Argument (List ℕ))). Prints IsSo 5 l (head_events line inline p)) all
      (parts_print 4 p _ (parts_bytes (Some inline) (is_parsed (name_of line)) arguments) (subst (λ (l : List (Argument (List ℕ))). AllSit line.text IsSo line.number l) (sym all) h)
      (λ own. begun_prints line.text IsSo (name_place line) at (name_of line) inline p.taken p.words (has_calls p.calls) (name_part line) own))

  -- words as they are
  phrase_generated : (p : LineParts) → p.taken ≡ None → AllSit line.text IsSo line.number (own_arguments p.taken p.words)
      → Prints IsSo 0 (own_arguments p.taken p.words) (printed line.number None p.words)
  phrase_generated p none h = rw none (printed_prints line.text IsSo line.number None p.words (rw none at h))

  pub phrase_prints : (parsed : Bool) (arguments : List (Argument (List ℕ))) → AllSit line.text IsSo line.number arguments
      → Prints IsSo 3 arguments (phrase_events line.number (parts None parsed arguments))
  phrase_prints parsed arguments h =
      let p = parts None parsed arguments in
      let all = whole None parsed arguments in
      more_events 1 3 arguments _ (omega arith)
      (subst (λ (l : List (Argument (List ℕ))). Prints IsSo 1 l (phrase_events line.number p)) all
      (parts_print 0 p _ (parts_bytes None parsed arguments) (subst (λ (l : List (Argument (List ℕ))). AllSit line.text IsSo line.number l) (sym all) h)
      (λ own. phrase_generated p (none_taken parsed arguments) own)))

-- ---- The macros of mdoc(7) keep the laws of macro sets: proofs, which the set's laws cite. Source: mdoc(7).

-- what comes before the words and what they print have room for five events
room : (begins : LineMacro) → front_most begins + words_more begins ≤ 5
room (lines.Inline inline) = omega arith
room (lines.Sentence sentence) = omega arith
room lines.Include = omega arith
room (lines.Begins block) = omega arith
room (lines.Ends block) = omega arith
room _ = omega arith

module _ (line : TakenLine) (IsSo : Event (List ℕ) → Type 0) (start : AnyAt line.text IsSo (line_start line.number)) (at : AnyAt line.text IsSo (name_place line))
    (sit : AllSit line.text IsSo line.number (line_arguments line)) where
  -- ---- the words of a line

  -- the names of a sentence, after its option
  names_print : (sentence : Sentence) (arguments : List (Argument (List ℕ))) → AllSit line.text IsSo line.number arguments
      → Prints IsSo 4 arguments (sentence_events (name_place line) sentence (given_names arguments))
  names_print sentence [] h = sentence_prints line.text IsSo (name_place line) at sentence [] h
  names_print sentence (word ∷ words) h =
      elim (cases_Bool (is_standard word)) [
        | inl t ↦ rw t (word_passed 4 word words _ (more_events 4 6 words _ (omega arith) (sentence_prints line.text IsSo (name_place line) at sentence words h.1)))
        | inr t ↦ rw t (sentence_prints line.text IsSo (name_place line) at sentence (word ∷ words) h)
      ]

  include_words_print : (real : Bool) → Prints IsSo 4 (line_arguments line) (include_words real line)
  include_words_print true =
      framed_prints line.text IsSo (name_place line) at 2 (Some Break) (Some Break) (line_arguments line) _ (include_prints line.text IsSo (name_place line) at (line_arguments line) sit)
  include_words_print false = more_events 0 4 (line_arguments line) _ (omega arith) (printed_prints line.text IsSo line.number None (line_arguments line) sit)

  words_print : (begins : LineMacro) → Prints IsSo (words_more begins) (line_arguments line) (words_events begins line)
  words_print (lines.Inline inline) = head_prints line IsSo inline (line_arguments line) at sit
  words_print (lines.Heading name) = phrase_prints line IsSo (is_parsed (name_of line)) (line_arguments line) sit
  words_print lines.Description = phrase_prints line IsSo (is_parsed (name_of line)) (line_arguments line) sit
  words_print (lines.OneLine name) = phrase_prints line IsSo (is_parsed (name_of line)) (line_arguments line) sit
  words_print (lines.Begins block) = no_event 2 (line_arguments line)
  words_print (lines.Ends block) = no_event 2 (line_arguments line)
  words_print lines.Item = phrase_prints line IsSo (is_parsed (name_of line)) (line_arguments line) sit
  words_print (lines.Field font) =
      more_events 0 3 (line_arguments line) _ (omega arith)
      (printed_prints line.text IsSo line.number (field_font (has_real_word line) font) (line_arguments line) sit)
  words_print (lines.Sentence sentence) = names_print sentence (line_arguments line) sit
  words_print lines.Include = include_words_print (has_real_word line)
  words_print _ = no_event 3 (line_arguments line)

  -- ---- a line

  refused_keeps : (kind : NoteKind) → Prints IsSo 6 (line_arguments line) (refused_events kind line)
  refused_keeps kind =
      own_first 1 6 (line_arguments line) _ _ refl (at _ (name_part line)) (omega arith) (own_alone 1 (line_arguments line) _ refl (start _ tt) (omega arith))

  -- a front, then words, then the end of the line
  with_words : (most more : ℕ) (front words : List (Event (List ℕ))) → most + more ≤ 5 → Prints IsSo most [] front → Prints IsSo more (line_arguments line) words
      → Prints IsSo 6 (line_arguments line) (front ++ (words ++ (line_end line.number true ∷ [])))
  with_words most more front words m f w =
      more_events (most + (more + 1)) 6 (line_arguments line) _ (omega (arith, m))
      (both most (more + 1) [] (line_arguments line) front _ f
      (then_own more 1 (line_arguments line) words (line_end line.number true ∷ []) w (own_alone 1 [] _ refl (start _ tt) (omega arith))))

  macro_keeps : (begins : LineMacro) → Prints IsSo 6 (line_arguments line) (macro_events begins line)
  macro_keeps begins =
      either 6 (has_phrase begins && not (has_arguments (rest_of line))) (line_arguments line) _ _ (refused_keeps EmptyMacro)
      (with_words (front_most begins) (words_more begins) (block_front begins line) (words_events begins line) (room begins) (front_prints line IsSo at sit begins) (words_print begins))

  request_keeps : (request : Option LayoutRequest) → Prints IsSo 6 (line_arguments line) (request_events request line)
  request_keeps None = refused_keeps UnknownMacro
  request_keeps (Some request) =
      with_words 2 3 (request_front request line) [] (omega arith) (request_front_prints line IsSo at sit request) (no_event 3 (line_arguments line))

  named_keeps : (begins : Option LineMacro) → Prints IsSo 6 (line_arguments line) (named_events begins line)
  named_keeps None = request_keeps (layout_request (name_of line))
  named_keeps (Some begins) = macro_keeps begins

pub mdoc_lawful : (IsSo : Event (List ℕ) → Type 0) (line : TakenLine) → HoldsAt IsSo line → IsLawful IsSo line (mdoc_events line)
unfolding mdoc_events
mdoc_lawful IsSo line h =
    line_lawful IsSo line true (named_events (line_macro (name_of line)) line) (plain_line line.form line.text) h
    (λ named. named_keeps line IsSo h.start (h.name named) h.arguments (line_macro (name_of line)))
