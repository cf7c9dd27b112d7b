-- The words of a macro: what holds of each of their events; they are in the line's order, and few. Helpers of proofs.
use Rattle.std.proofs.Common.{◌≡◌, ℕ, ◌+◌, Bool, true, false, List, [], ◌∷◌, refl, arith, inl, inr, Option, None, Some, ◌++◌, if◌then◌else◌, append-nil}
use Rattle.std.proofs.lemmas.Bool.{cases_Bool}
use Rattle.page_core_base.specs.declared.cells.Font.{Font}
use Rattle.page_core_base.specs.declared.cells.Font.TheVariants.{B, I}
use Rattle.page_core_base.specs.declared.places.Place.{Place}
use Rattle.page_roff_syntax.specs.declared.quotes.Argument.{Argument}
use Rattle.page_sets_lines.specs.declared.events.Event.{Event}
use Rattle.page_sets_lines.specs.Lines.{is_unclosed}
use Rattle.page_sets_lines.proofs.ArgumentLaws.{AllSit, AnyAt, Sits, is_word, nothing_part, Takes, Prints, either, first_taken, more_events, no_event, nothing_taken, own_alone, own_first, then_own, word_first, word_passed}
use Rattle.page_sets_mdoc_lines.specs.declared.delimiters.Delimiter.{Delimiter}
use Rattle.page_sets_mdoc_lines.specs.declared.delimiters.Delimiter.TheVariants.{Opening, Middle, Closing}
use Rattle.page_sets_mdoc_lines.specs.Parts.{word_delimiter, is_real}
use Rattle.page_sets_mdoc_words.specs.Inlines.{word_or_delimiter, printed_word, printed, is_opening, lone, named, flags, section, reference, more_arguments, arguments, function_words, function_end, next_arguments, function_opened, bsd, address, link_words, missing_quote, step_event}
use Rattle.page_sets_lines.specs.declared.line_steps.SynopsisStep.{SynopsisStep}
use Rattle.page_sets_names.specs.declared.generated_texts.GeneratedText.{GeneratedText}
use Rattle.page_sets_mdoc_lines.specs.declared.blocks.Sentence.{Sentence}
use Rattle.page_sets_mdoc_words.specs.declared.sentences.NameCount.{NameCount}
use Rattle.page_sets_mdoc_words.specs.declared.sentences.NameCount.TheVariants as counts
use Rattle.page_sets_mdoc_words.specs.Sentences.{preceded, followed, framed, name_count, has_comma, name_mark, sentence_name, marked, names_events, given_names, sentence_events, file_events, include_events, is_zero, joined}
use Rattle.page_sets_lines.specs.declared.line_steps.LineStep.TheVariants.{ManualName}

module _ (line : List ℕ) (IsSo : Event (List ℕ) → Type 0) where
  -- ---- words as they are printed

  printed_by : (number : ℕ) (font : Option Font) (delimiter : Option Delimiter) (word : Argument (List ℕ)) (words : List (Argument (List ℕ)))
      → Sits line IsSo number word → IsSo (word_or_delimiter number font delimiter word) × Takes (word_or_delimiter number font delimiter word).kind (word ∷ words) words
  printed_by number font None word words h = (h.first _ refl h.slice, first_taken word words)
  printed_by number font (Some Opening) word words h = (h.first _ refl h.slice, first_taken word words)
  printed_by number font (Some Middle) word words h = (h.first _ refl h.slice, first_taken word words)
  printed_by number font (Some Closing) word words h = (h.first _ refl h.slice, first_taken word words)

  pub printed_first : (more number : ℕ) (font : Option Font) (word : Argument (List ℕ)) (words : List (Argument (List ℕ))) (events : List (Event (List ℕ)))
      → Sits line IsSo number word → Prints IsSo more words events → Prints IsSo more (word ∷ words) (printed_word number font word ∷ events)
  printed_first more number font word words events h p =
      let k = printed_by number font (word_delimiter word) word words h in
      word_first more word words (printed_word number font word) events k.0 k.1 p

  -- a mark takes the room of a word's second event: before it
  pub marked_first : (more number : ℕ) (font : Option Font) (event : Event (List ℕ)) (word : Argument (List ℕ)) (words : List (Argument (List ℕ))) (events : List (Event (List ℕ)))
      → is_word event.kind ≡ false → IsSo event → Sits line IsSo number word → Prints IsSo more words events
      → Prints IsSo more (word ∷ words) (event ∷ printed_word number font word ∷ events)
  marked_first more number font event word words events w s h p =
      let k = printed_by number font (word_delimiter word) word words h in
      record {
        each = (s, (k.0, p.each));
        order = (word ∷ words, nothing_taken event.kind (word ∷ words) w, (words, k.1, p.order));
        few = let few = p.few in omega (arith, few);
      }

  -- after it
  pub marked_after : (more : ℕ) (first event : Event (List ℕ)) (word : Argument (List ℕ)) (words : List (Argument (List ℕ))) (events : List (Event (List ℕ)))
      → IsSo first × Takes first.kind (word ∷ words) words → is_word event.kind ≡ false → IsSo event → Prints IsSo more words events
      → Prints IsSo more (word ∷ words) (first ∷ event ∷ events)
  marked_after more first event word words events k w s p = record {
    each = (k.0, (s, p.each));
    order = (words, k.1, (words, nothing_taken event.kind words w, p.order));
    few = let few = p.few in omega (arith, few);
  }

  pub word_marked : (more number : ℕ) (font : Option Font) (event : Event (List ℕ)) (word : Argument (List ℕ)) (words : List (Argument (List ℕ))) (events : List (Event (List ℕ)))
      → is_word event.kind ≡ false → IsSo event → Sits line IsSo number word → Prints IsSo more words events
      → Prints IsSo more (word ∷ words) (printed_word number font word ∷ event ∷ events)
  word_marked more number font event word words events w s h p =
      marked_after more (printed_word number font word) event word words events (printed_by number font (word_delimiter word) word words h) w s p

  pub printed_prints : (number : ℕ) (font : Option Font) (words : List (Argument (List ℕ))) → AllSit line IsSo number words → Prints IsSo 0 words (printed number font words)
  printed_prints number font [] h = no_event 0 []
  printed_prints number font (word ∷ words) h = printed_first 0 number font word words (printed number font words) h.0 (printed_prints number font words h.1)

  -- ---- macros by their rows

  pub lone_prints : (number : ℕ) (event : Bool → Event (List ℕ)) (words : List (Argument (List ℕ)))
      → ((is_last : Bool) → is_word (event is_last).kind ≡ false) → ((is_last : Bool) → IsSo (event is_last))
      → AllSit line IsSo number words → Prints IsSo 1 words (lone number event words)
  lone_prints number event [] w s h = own_alone 1 [] (event true) (w true) (s true) (omega arith)
  lone_prints number event (word ∷ words) w s h =
      either 1 (is_opening word) (word ∷ words) _ _
      (printed_first 1 number None word words (lone number event words) h.0 (lone_prints number event words w s h.1))
      (own_first 0 1 (word ∷ words) (event false) (printed number None (word ∷ words)) (w false) (s false) (omega arith) (printed_prints number None (word ∷ words) h))

  pub flags_print : (number : ℕ) (words : List (Argument (List ℕ))) → AllSit line IsSo number words → Prints IsSo 0 words (flags number words)
  flags_print number [] h = no_event 0 []
  flags_print number (word ∷ words) h =
      let more = flags_print number words h.1 in
      either 0 (is_real word) (word ∷ words) _ _ (marked_first 0 number (Some B) _ word words (flags number words) refl (h.0.first _ refl tt) h.0 more)
      (printed_first 0 number None word words (flags number words) h.0 more)

  pub section_prints : (number : ℕ) (words : List (Argument (List ℕ))) → AllSit line IsSo number words → Prints IsSo 1 words (section number words)
  section_prints number [] h = no_event 1 []
  section_prints number (word ∷ words) h =
      either 1 (is_real word) (word ∷ words) _ _
      (own_first 0 1 (word ∷ words) _ _ refl (h.0.first _ refl tt) (omega arith)
      (word_marked 0 number None _ word words (printed number None words) refl (h.0.first _ refl tt) h.0 (printed_prints number None words h.1)))
      (printed_first 1 number None word words (section number words) h.0 (section_prints number words h.1))

  pub reference_prints : (number : ℕ) (words : List (Argument (List ℕ))) → AllSit line IsSo number words → Prints IsSo 1 words (reference number words)
  reference_prints number [] h = no_event 1 []
  reference_prints number (word ∷ words) h =
      printed_first 1 number None word words _ h.0 (either 1 (is_real word) words _ _ (section_prints number words h.1) (reference_prints number words h.1))

  pub missing_quote_prints : (number : ℕ) (option : Argument (List ℕ)) → Sits line IsSo number option → Prints IsSo 0 (option ∷ []) (missing_quote number option)
  missing_quote_prints number option h = by (is_unclosed option.quoting) refl
    where
      by : (lacks : Bool) → is_unclosed option.quoting ≡ lacks → Prints IsSo 0 (option ∷ []) (missing_quote number option)
      by true e = rw e (word_passed 0 option [] _ (own_alone 2 [] _ refl (h.quote e _ (nothing_part line)) (omega arith)))
      by false e = rw e (no_event 0 (option ∷ []))

  -- ---- macros with events at their own place

  module _ (place : Place) (at : AnyAt line IsSo place) where
    pub named_prints : (words : List (Argument (List ℕ))) → AllSit line IsSo place.line words → Prints IsSo 0 words (named place words)
    named_prints [] h = no_event 0 []
    named_prints (word ∷ words) h =
        either 0 (is_real word) (word ∷ words) _ _
        (word_first 0 word words _ (printed place.line (Some B) words) (h.0.first _ refl h.0.slice) (first_taken word words) (printed_prints place.line (Some B) words h.1))
        (printed_first 0 place.line None word words (named place words) h.0 (named_prints words h.1))

    pub more_arguments_print : (words : List (Argument (List ℕ))) → AllSit line IsSo place.line words → Prints IsSo 0 words (more_arguments place words)
    more_arguments_print [] h = no_event 0 []
    more_arguments_print (word ∷ words) h =
        let more = more_arguments_print words h.1 in
        either 0 (is_real word) (word ∷ words) _ _ (marked_first 0 place.line (Some I) _ word words (more_arguments place words) refl (at _ tt) h.0 more)
        (printed_first 0 place.line (Some I) word words (more_arguments place words) h.0 more)

    pub arguments_print : (words : List (Argument (List ℕ))) → AllSit line IsSo place.line words → Prints IsSo 0 words (arguments place words)
    arguments_print [] h = no_event 0 []
    arguments_print (word ∷ words) h =
        printed_first 0 place.line (Some I) word words _ h.0 (either 0 (is_real word) words _ _ (more_arguments_print words h.1) (arguments_print words h.1))

    pub function_words_print : (words : List (Argument (List ℕ))) → AllSit line IsSo place.line words → Prints IsSo 0 words (function_words place words)
    function_words_print [] h = no_event 0 []
    function_words_print (word ∷ words) h =
        elim (cases_Bool (is_real word)) [
          | inl t ↦ rw t (word_marked 0 place.line (Some B) _ word words (arguments place words) refl (at _ tt) h.0 (arguments_print words h.1))
          | inr t ↦ rw t (printed_first 0 place.line (Some B) word words (function_words place words) h.0 (function_words_print words h.1))
        ]

    pub function_end_prints : (words : List (Argument (List ℕ))) → AllSit line IsSo place.line words → Prints IsSo 1 words (function_end place words)
    function_end_prints words h =
        own_first 0 1 words _ (printed place.line None words) refl (at _ tt) (omega arith) (printed_prints place.line None words h)

    pub next_arguments_print : (words : List (Argument (List ℕ))) → AllSit line IsSo place.line words → Prints IsSo 0 words (next_arguments place words)
    next_arguments_print [] h = no_event 0 []
    next_arguments_print (word ∷ words) h =
        let more = next_arguments_print words h.1 in
        either 0 (is_real word) (word ∷ words) _ _ (marked_first 0 place.line (Some I) _ word words (next_arguments place words) refl (at _ tt) h.0 more)
        (printed_first 0 place.line None word words (next_arguments place words) h.0 more)

    pub function_opened_prints : (words : List (Argument (List ℕ))) → AllSit line IsSo place.line words → Prints IsSo 0 words (function_opened place words)
    function_opened_prints [] h = no_event 0 []
    function_opened_prints (word ∷ words) h =
        either 0 (is_real word) (word ∷ words) _ _
        (word_passed 0 word words _ (own_first 0 2 words _ (printed place.line None words) refl (at _ h.0.slice) (omega arith) (printed_prints place.line None words h.1)))
        (printed_first 0 place.line None word words (function_opened place words) h.0 (function_opened_prints words h.1))

    pub bsd_prints : (words : List (Argument (List ℕ))) → AllSit line IsSo place.line words → Prints IsSo 1 words (bsd place words)
    bsd_prints [] h = own_alone 1 [] _ refl (at _ tt) (omega arith)
    bsd_prints (word ∷ words) h =
        either 1 (is_real word) (word ∷ words) _ _
        (more_events 0 1 (word ∷ words) _ (omega arith)
        (word_marked 0 place.line None _ word words (printed place.line None words) refl (at _ tt) h.0 (printed_prints place.line None words h.1)))
        (either 1 (is_opening word) (word ∷ words) _ _ (printed_first 1 place.line None word words (bsd place words) h.0 (bsd_prints words h.1))
        (own_first 0 1 (word ∷ words) _ (printed place.line None (word ∷ words)) refl (at _ tt) (omega arith) (printed_prints place.line None (word ∷ words) h)))

    -- the address, after its texts
    address_prints : (uri : Argument (List ℕ)) (texts : List (Argument (List ℕ))) → Sits line IsSo place.line uri → AllSit line IsSo place.line texts
        → Prints IsSo 2 texts (address place uri texts)
    address_prints uri [] u h = own_alone 2 [] _ refl (at _ u.slice) (omega arith)
    address_prints uri (text ∷ texts) u h =
        then_own 0 2 (text ∷ texts) _ _ (printed_prints place.line (Some I) (text ∷ texts) h)
        (own_first 1 2 [] _ _ refl (at _ tt) (omega arith) (own_alone 1 [] _ refl (at _ u.slice) (omega arith)))

    pub link_words_print : (words : List (Argument (List ℕ))) → AllSit line IsSo place.line words → Prints IsSo 0 words (link_words place words)
    link_words_print [] h = no_event 0 []
    link_words_print (word ∷ words) h =
        either 0 (is_real word) (word ∷ words) _ _ (word_passed 0 word words _ (address_prints word words h.0 h.1))
        (printed_first 0 place.line None word words (link_words place words) h.0 (link_words_print words h.1))

    -- ---- `In`

    pub file_prints : (words : List (Argument (List ℕ))) → AllSit line IsSo place.line words → Prints IsSo 0 words (file_events place words)
    file_prints [] h = no_event 0 []
    file_prints (file ∷ words) h =
        word_marked 0 place.line None _ file words (printed place.line None words) refl (at _ tt) h.0 (printed_prints place.line None words h.1)

    pub include_prints : (words : List (Argument (List ℕ))) → AllSit line IsSo place.line words → Prints IsSo 2 words (include_events place words)
    include_prints [] h = no_event 2 []
    include_prints (word ∷ words) h =
        either 2 (is_real word) (word ∷ words) _ _
        (own_first 1 2 (word ∷ words) _ _ refl (at _ tt) (omega arith) (own_first 0 1 (word ∷ words) _ _ refl (at _ tt) (omega arith) (file_prints (word ∷ words) h)))
        (printed_first 2 place.line None word words (include_events place words) h.0 (include_prints words h.1))

    -- ---- `Ex`, `Rv`

    -- what is glued to a name takes the room of an argument's second event
    name_first : (more : ℕ) (mark : Option GeneratedText) (name : Argument (List ℕ)) (names : List (Argument (List ℕ))) (events : List (Event (List ℕ)))
        → Sits line IsSo place.line name → Prints IsSo more names events → Prints IsSo more (name ∷ names) (sentence_name place.line name ∷ marked place mark events)
    name_first more None name names events h p = word_first more name names _ events (h.first _ refl h.slice) (first_taken name names) p
    name_first more (Some text) name names events h p =
        marked_after more (sentence_name place.line name) _ name names events (h.first _ refl h.slice, first_taken name names) refl (at _ tt) p

    -- the last name
    last_prints : (sentence : Sentence) (all : NameCount) (name : Argument (List ℕ)) → Sits line IsSo place.line name
        → Prints IsSo 1 (name ∷ []) (names_events place sentence all (name ∷ []))
    last_prints sentence all name h =
        name_first 1 (name_mark sentence (has_comma all counts.Zero)) name [] _ h (own_alone 1 [] _ refl (at _ tt) (omega arith))

    names_print : (sentence : Sentence) (all : NameCount) (names : List (Argument (List ℕ))) → AllSit line IsSo place.line names
        → Prints IsSo 2 names (names_events place sentence all names)
    names_print sentence all [] h = own_alone 2 [] _ refl (at _ tt) (omega arith)
    names_print sentence all (name ∷ []) h = more_events 1 2 (name ∷ []) _ (omega arith) (last_prints sentence all name h.0)
    names_print sentence all (name ∷ last ∷ []) h =
        name_first 2 (name_mark sentence (has_comma all counts.One)) name (last ∷ []) _ h.0
        (own_first 1 2 (last ∷ []) _ _ refl (at _ tt) (omega arith) (last_prints sentence all last h.1.0))
    names_print sentence all (name ∷ second ∷ third ∷ []) h =
        name_first 2 (name_mark sentence (has_comma all counts.Two)) name (second ∷ third ∷ []) _ h.0 (names_print sentence all (second ∷ third ∷ []) h.1)
    names_print sentence all (name ∷ second ∷ third ∷ fourth ∷ names) h =
        name_first 2 (name_mark sentence (has_comma all counts.More)) name (second ∷ third ∷ fourth ∷ names) _ h.0
        (names_print sentence all (second ∷ third ∷ fourth ∷ names) h.1)

    marked_prints : (more : ℕ) (mark : Option GeneratedText) (words : List (Argument (List ℕ))) (events : List (Event (List ℕ)))
        → Prints IsSo more words events → Prints IsSo (more + 1) words (marked place mark events)
    marked_prints more None words events p = more_events more (more + 1) words events (omega arith) p
    marked_prints more (Some text) words events p = own_first more (more + 1) words _ events refl (at _ tt) (omega arith) p

    given_names_print : (sentence : Sentence) (names : List (Argument (List ℕ))) → AllSit line IsSo place.line names
        → Prints IsSo 3 names (given_names place sentence names)
    given_names_print sentence [] h =
        own_first 2 3 [] _ _ refl (at _ tt) (omega arith)
        (marked_prints 1 (name_mark sentence false) [] _ (own_alone 1 [] _ refl (at _ tt) (omega arith)))
    given_names_print sentence (name ∷ names) h =
        more_events 2 3 (name ∷ names) _ (omega arith) (names_print sentence (name_count (name ∷ names)) (name ∷ names) h)

    pub sentence_prints : (sentence : Sentence) (names : List (Argument (List ℕ))) → AllSit line IsSo place.line names
        → Prints IsSo 4 names (sentence_events place sentence names)
    sentence_prints sentence names h = own_first 3 4 names _ _ refl (at _ tt) (omega arith) (given_names_print sentence names h)

    -- ---- with what a macro does in the SYNOPSIS

    preceded_prints : (more : ℕ) (before : Option SynopsisStep) (words : List (Argument (List ℕ))) (events : List (Event (List ℕ)))
        → Prints IsSo more words events → Prints IsSo (more + 1) words (preceded place before events)
    preceded_prints more None words events p = more_events more (more + 1) words events (omega arith) p
    preceded_prints more (Some step) words events p = own_first more (more + 1) words _ events refl (at _ tt) (omega arith) p

    followed_prints : (more : ℕ) (after : Option SynopsisStep) (words : List (Argument (List ℕ))) (events : List (Event (List ℕ)))
        → Prints IsSo more words events → Prints IsSo (more + 1) words (followed place after events)
    followed_prints more None words events p = more_events more (more + 1) words events (omega arith) p
    followed_prints more (Some step) words events p = then_own more 1 words events _ p (own_alone 1 [] _ refl (at _ tt) (omega arith))

    pub framed_prints : (more : ℕ) (before after : Option SynopsisStep) (words : List (Argument (List ℕ))) (events : List (Event (List ℕ)))
        → Prints IsSo more words events → Prints IsSo (more + 2) words (framed place before after events)
    framed_prints more before after words events p =
        more_events (more + 1 + 1) (more + 2) words _ (omega arith) (preceded_prints (more + 1) before words _ (followed_prints more after words events p))

-- ---- What is glued to a name, and the word before the last: helpers of proofs.

and_goes_on : (place : Place) (left : NameCount) (events : List (Event (List ℕ))) → joined place left events ≡ joined place left [] ++ events
and_goes_on place counts.Zero events = refl
and_goes_on place _ events = refl

pub name_goes_on : (place : Place) (mark : Option GeneratedText) (left : NameCount) (events : List (Event (List ℕ)))
    → marked place mark (joined place left events) ≡ marked place mark [] ++ (joined place left [] ++ events)
name_goes_on place None left events = and_goes_on place left events
name_goes_on place (Some text) left events = rw (and_goes_on place left events) refl

marked_goes_on : (place : Place) (mark : Option GeneratedText) (events : List (Event (List ℕ))) → marked place mark events ≡ marked place mark [] ++ events
marked_goes_on place None events = refl
marked_goes_on place (Some text) events = refl

pub given_by : (place : Place) (sentence : Sentence) (names : List (Argument (List ℕ)))
    → given_names place sentence names
    ≡ (if is_zero (name_count names) then step_event place ManualName ∷ marked place (name_mark sentence false) [] else [])
    ++ names_events place sentence (name_count names) names
given_by place sentence [] =
    rw (marked_goes_on place (name_mark sentence false) (names_events place sentence counts.Zero [])) refl
given_by place sentence (a ∷ []) = refl
given_by place sentence (a ∷ b ∷ []) = refl
given_by place sentence (a ∷ b ∷ c ∷ names) = refl

-- ---- What a macro does in the SYNOPSIS before its words and after them: helpers of proofs.

framed_after : (place : Place) (after : Option SynopsisStep) (events : List (Event (List ℕ)))
    → framed place None after events ≡ events ++ preceded place after []
framed_after place None events = rw append-nil refl
framed_after place (Some step) events = refl

pub framed_by : (place : Place) (before after : Option SynopsisStep) (events : List (Event (List ℕ)))
    → framed place before after events ≡ preceded place before [] ++ (events ++ preceded place after [])
framed_by place None after events = framed_after place after events
framed_by place (Some step) after events = rw (framed_after place after events) refl
