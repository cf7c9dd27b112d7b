-- The events of a macro that can be among words: what holds of each; they are in the line's order, and few. Helpers of proofs.
use Rattle.std.proofs.Common.{◌≡◌, ℕ, ◌+◌, ◌≤◌, Bool, true, false, List, [], ◌∷◌, ◌++◌, take, drop, refl, arith, Option, None, Some, if◌then◌else◌, Bor}
use Rattle.std.specs.List.{list_any}
use Rattle.page_core_base.specs.declared.cells.Font.TheVariants.{R, B, I}
use Rattle.page_core_base.specs.declared.places.Place.{Place}
use Rattle.page_roff_syntax.specs.declared.quotes.Argument.{Argument}
use Rattle.page_sets_lines.specs.declared.events.Event.{Event}
use Rattle.page_sets_lines.specs.declared.line_steps.SynopsisStep.TheVariants.{Break}
use Rattle.page_sets_lines.specs.laws.Sets.{IsArgumentIfGiven, IsPart}
use Rattle.page_sets_lines.proofs.ArgumentLaws.{AllSit, AllSit-drop, AllSit-take, AnyAt, is_word, Prints, both, either, first_taken, more_events, own_first, parted, word_first, word_passed}
use Rattle.page_sets_mdoc_lines.specs.declared.macros.Inline.{Inline}
use Rattle.page_sets_mdoc_lines.specs.declared.macros.Inline.TheVariants as inlines
use Rattle.page_sets_mdoc_lines.specs.declared.macros.Pair.{Pair}
use Rattle.page_sets_mdoc_lines.specs.declared.macros.Pair.TheVariants as pairs
use Rattle.page_sets_mdoc_lines.specs.Parts.{is_closing, is_real, front_len}
use Rattle.page_sets_mdoc_lines.specs.laws.Views.{as_list}
use Rattle.page_sets_mdoc_words.specs.Inlines.{printed, author, closed, default_word, empty_macro, function, inline_events, link, lone, lone_dash, manual_name, missing_quote, opened, prefix, refused, with_words}
use Rattle.page_sets_mdoc_words.specs.Sentences.{after_words, before_words, framed, placed_events}
use Rattle.page_sets_mdoc_words.proofs.WordPrintLemmas as prints
use Rattle.page_roff_syntax.specs.laws.Views.{argument_view}

-- the word that a macro takes, and its other words
abbrev pub own_arguments : Option (Argument (List ℕ)) → List (Argument (List ℕ)) → List (Argument (List ℕ))
own_arguments taken words = as_list taken ++ words

module _ (line : List ℕ) (IsSo : Event (List ℕ) → Type 0) (place : Place) (at : AnyAt line IsSo place) where
  -- ---- a macro with all its words

  -- one event, and then the words
  first_prints : (event : Event (List ℕ)) (words : List (Argument (List ℕ))) → is_word event.kind ≡ false → IsSo event
      → AllSit line IsSo place.line words → Prints IsSo 2 words (event ∷ printed place.line None words)
  first_prints event words w s h =
      own_first 0 2 words event (printed place.line None words) w s (omega arith) (prints.printed_prints line IsSo place.line None words h)

  refused_prints : (name : List ℕ) (words : List (Argument (List ℕ))) → IsPart line name → AllSit line IsSo place.line words → Prints IsSo 2 words (refused place name words)
  refused_prints name words n h = first_prints (empty_macro place name) words refl (at _ n) h

  with_words_print : (more : ℕ) (name : List ℕ) (words : List (Argument (List ℕ))) (events : List (Event (List ℕ))) → more ≤ 2
      → IsPart line name → AllSit line IsSo place.line words → Prints IsSo more words events → Prints IsSo 2 words (with_words place name words events)
  with_words_print more name words events m n h p =
      either 2 (list_any is_real words) words events _ (more_events more 2 words events m p) (refused_prints name words n h)

  or_lone_prints : (event : Bool → Event (List ℕ)) (words : List (Argument (List ℕ))) (events : List (Event (List ℕ)))
      → ((is_last : Bool) → is_word (event is_last).kind ≡ false) → ((is_last : Bool) → IsSo (event is_last))
      → AllSit line IsSo place.line words → Prints IsSo 0 words events
      → Prints IsSo 2 words (if list_any is_real words then events else lone place.line event words)
  or_lone_prints event words events w s h p =
      either 2 (list_any is_real words) words events _ (more_events 0 2 words events (omega arith) p)
      (more_events 1 2 words _ (omega arith) (prints.lone_prints line IsSo place.line event words w s h))

  function_prints : (words : List (Argument (List ℕ))) → AllSit line IsSo place.line words → Prints IsSo 1 words (function place words)
  function_prints words h =
      let n = front_len is_closing words in
      parted 0 1 n words _ _ (prints.function_words_print line IsSo place at (take n words) (AllSit-take line IsSo place.line n words h))
      (prints.function_end_prints line IsSo place at (drop n words) (AllSit-drop line IsSo place.line n words h))

  link_prints : (words : List (Argument (List ℕ))) → AllSit line IsSo place.line words → Prints IsSo 0 words (link place words)
  link_prints words h =
      let n = front_len is_closing words in
      parted 0 0 n words _ _ (prints.link_words_print line IsSo place at (take n words) (AllSit-take line IsSo place.line n words h))
      (prints.printed_prints line IsSo place.line None (drop n words) (AllSit-drop line IsSo place.line n words h))

  -- a word that is taken and gives nothing of its own
  skipped : (more : ℕ) (taken : Option (Argument (List ℕ))) (words : List (Argument (List ℕ))) (events : List (Event (List ℕ)))
      → Prints IsSo more words events → Prints IsSo more (own_arguments taken words) events
  skipped more None words events p = p
  skipped more (Some word) words events p = word_passed more word words events (more_events more (more + 2) words events (omega arith) p)

  -- the arguments that follow what is taken
  others_are : (taken : Option (Argument (List ℕ))) (words : List (Argument (List ℕ))) → AllSit line IsSo place.line (own_arguments taken words) → AllSit line IsSo place.line words
  others_are None words h = h
  others_are (Some word) words h = h.1

  author_prints : (name : List ℕ) (taken : Option (Argument (List ℕ))) (words : List (Argument (List ℕ))) → IsPart line name
      → AllSit line IsSo place.line (own_arguments taken words) → Prints IsSo 2 (own_arguments taken words) (author place name taken words)
  author_prints name None words n h = with_words_print 0 name words _ (omega arith) n h (prints.printed_prints line IsSo place.line (Some R) words h)
  author_prints name (Some option) words n h =
      more_events 0 2 (option ∷ words) _ (omega arith)
      (both 0 0 (option ∷ []) words (missing_quote place.line option) (printed place.line (Some R) words)
      (prints.missing_quote_prints line IsSo place.line option h.0) (prints.printed_prints line IsSo place.line (Some R) words h.1))

  prefix_prints : (name : List ℕ) (taken : Option (Argument (List ℕ))) (words : List (Argument (List ℕ))) → IsPart line name
      → AllSit line IsSo place.line (own_arguments taken words) → Prints IsSo 2 (own_arguments taken words) (prefix place name taken words)
  prefix_prints name None words n h = refused_prints name words n h
  prefix_prints name (Some word) words n h =
      word_first 2 word words _ (printed place.line None words) (h.0.first _ refl h.0.slice) (first_taken word words)
      (more_events 0 2 words _ (omega arith) (prints.printed_prints line IsSo place.line None words h.1))

  -- a mark that is taken is in its line
  mark_slice : (taken : Option (Argument (List ℕ))) (words : List (Argument (List ℕ))) → AllSit line IsSo place.line (own_arguments taken words) → IsArgumentIfGiven line taken
  mark_slice None words h = tt
  mark_slice (Some word) words h = h.0.slice

  opened_prints : (name : List ℕ) (pair : Pair) (taken : Option (Argument (List ℕ))) (words : List (Argument (List ℕ)))
      → IsPart line name → IsArgumentIfGiven line taken → AllSit line IsSo place.line words → Prints IsSo 2 words (opened place name pair taken words)
  opened_prints name pairs.Custom taken words n m h = first_prints _ words refl (at _ m) h
  opened_prints name pairs.Function taken words n m h = with_words_print 0 name words _ (omega arith) n h (prints.function_opened_prints line IsSo place at words h)
  opened_prints name _ taken words n m h = first_prints _ words refl (at _ tt) h

  closed_prints : (pair : Pair) (taken : Option (Argument (List ℕ))) (words : List (Argument (List ℕ)))
      → IsArgumentIfGiven line taken → AllSit line IsSo place.line words → Prints IsSo 2 words (closed place pair taken words)
  closed_prints pairs.Custom taken words m h = first_prints _ words refl (at _ m) h
  closed_prints _ taken words m h = first_prints _ words refl (at _ tt) h

  -- at most two events a word and two more
  all_print : (name : List ℕ) (inline : Inline) (taken : Option (Argument (List ℕ))) (words : List (Argument (List ℕ))) (follows : Bool)
      → IsPart line name → IsArgumentIfGiven line taken → AllSit line IsSo place.line words → AllSit line IsSo place.line (own_arguments taken words)
      → Prints IsSo 2 (own_arguments taken words) (inline_events place name inline taken words follows)
  all_print name (inlines.Words font) taken words follows n m h all =
      skipped 2 taken words _ (with_words_print 0 name words _ (omega arith) n h (prints.printed_prints line IsSo place.line (Some font) words h))
  all_print name inlines.Author taken words follows n m h all = author_prints name taken words n all
  all_print name inlines.Declaration taken words follows n m h all =
      skipped 2 taken words _ (with_words_print 0 name words _ (omega arith) n h (prints.printed_prints line IsSo place.line (Some B) words h))
  all_print name inlines.TypeName taken words follows n m h all =
      skipped 2 taken words _ (with_words_print 0 name words _ (omega arith) n h (prints.printed_prints line IsSo place.line (Some I) words h))
  all_print name inlines.Arguments taken words follows n m h all =
      skipped 2 taken words _ (with_words_print 0 name words _ (omega arith) n h (prints.next_arguments_print line IsSo place at words h))
  all_print name inlines.Name taken words follows n m h all =
      skipped 2 taken words _ (or_lone_prints (manual_name place) words _ (λ is_last. refl) (λ is_last. at _ tt) h (prints.named_prints line IsSo place at words h))
  all_print name (inlines.Defaulted default) taken words follows n m h all =
      skipped 2 taken words _
      (or_lone_prints (default_word place default) words _ (λ is_last. refl) (λ is_last. at _ tt) h (prints.printed_prints line IsSo place.line (Some I) words h))
  all_print name inlines.Flag taken words follows n m h all =
      skipped 2 taken words _ (or_lone_prints (lone_dash place follows) words _ (λ is_last. refl) (λ is_last. at _ tt) h (prints.flags_print line IsSo place.line words h))
  all_print name inlines.Reference taken words follows n m h all =
      skipped 2 taken words _ (with_words_print 1 name words _ (omega arith) n h (prints.reference_prints line IsSo place.line words h))
  all_print name inlines.Function taken words follows n m h all =
      skipped 2 taken words _ (with_words_print 1 name words _ (omega arith) n h (function_prints words h))
  all_print name inlines.Bsd taken words follows n m h all =
      skipped 2 taken words _ (more_events 1 2 words _ (omega arith) (prints.bsd_prints line IsSo place at words h))
  all_print name inlines.Link taken words follows n m h all =
      skipped 2 taken words _ (with_words_print 0 name words _ (omega arith) n h (link_prints words h))
  all_print name inlines.Prefix taken words follows n m h all = prefix_prints name taken words n all
  all_print name (inlines.Opens pair) taken words follows n m h all = skipped 2 taken words _ (opened_prints name pair taken words n m h)
  all_print name (inlines.Closes pair) taken words follows n m h all = skipped 2 taken words _ (closed_prints pair taken words m h)
  all_print name _ taken words follows n m h all = skipped 2 taken words _ (first_prints _ words refl (at _ tt) h)

  inline_prints : (name : List ℕ) (inline : Inline) (taken : Option (Argument (List ℕ))) (words : List (Argument (List ℕ))) (follows : Bool)
      → IsPart line name → AllSit line IsSo place.line (own_arguments taken words)
      → Prints IsSo 2 (own_arguments taken words) (inline_events place name inline taken words follows)
  inline_prints name inline taken words follows n all =
      all_print name inline taken words follows n (mark_slice taken words all) (others_are taken words all) all

  -- ---- with what a macro does in the SYNOPSIS

  -- at the front of a line
  pub begun_prints : (name : List ℕ) (inline : Inline) (taken : Option (Argument (List ℕ))) (words : List (Argument (List ℕ))) (follows : Bool)
      → IsPart line name → AllSit line IsSo place.line (own_arguments taken words)
      → Prints IsSo 4 (own_arguments taken words) (placed_events true place name inline taken words follows)
  begun_prints name inline taken words follows n h =
      let real = list_any is_real words in
      prints.framed_prints line IsSo place at 2 (before_words true inline real) (after_words true inline real) (own_arguments taken words) _
      (inline_prints name inline taken words follows n h)

  -- a declaration has an event for each word
  declared_prints : (name : List ℕ) (taken : Option (Argument (List ℕ))) (words : List (Argument (List ℕ))) (follows real : Bool)
      → list_any is_real words ≡ real → IsPart line name → AllSit line IsSo place.line (own_arguments taken words)
      → Prints IsSo 2 (own_arguments taken words)
      (framed place (before_words false inlines.Declaration real) (after_words false inlines.Declaration real)
      (if real then printed place.line (Some B) words else refused place name words))
  declared_prints name taken words follows true real n h =
      prints.framed_prints line IsSo place at 0 (Some Break) (Some Break) (own_arguments taken words) _
      (skipped 0 taken words _ (prints.printed_prints line IsSo place.line (Some B) words (others_are taken words h)))
  declared_prints name taken words follows false real n h = skipped 2 taken words _ (refused_prints name words n (others_are taken words h))

  -- where a word calls it
  pub called_prints : (name : List ℕ) (inline : Inline) (taken : Option (Argument (List ℕ))) (words : List (Argument (List ℕ))) (follows : Bool)
      → IsPart line name → AllSit line IsSo place.line (own_arguments taken words)
      → Prints IsSo 2 (own_arguments taken words) (placed_events false place name inline taken words follows)
  called_prints name inlines.Declaration taken words follows n h = declared_prints name taken words follows (list_any is_real words) refl n h
  called_prints name inline taken words follows n h = inline_prints name inline taken words follows n h

-- ---- A word that was read, and those after it: helpers of proofs.

-- the words that are left where one was read, if there was one more
abbrev pub read_onto : Option (Argument (Bor (List ℕ))) → List (Argument (List ℕ)) → List (Argument (List ℕ))
read_onto None others = []
read_onto (Some word) others = argument_view word ∷ others
