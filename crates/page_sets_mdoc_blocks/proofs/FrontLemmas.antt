-- What comes before a line's words: what holds of each event, none of which is a word, and how many they are. Helpers of proofs.
use Rattle.std.proofs.Common.{◌≡◌, ℕ, ◌≤◌, Bool, true, false, List, [], ◌∷◌, ◌++◌, length, refl, arith, Option, None, Some, if◌then◌else◌, unwrap_or, codes}
use Rattle.std.specs.Option.{option_or}
use Rattle.std.specs.Str.{bytes_eq}
use Rattle.page_core_base.specs.Texts.{TakenLine}
use Rattle.page_core_base.specs.declared.limits.TheConstants.{LINE}
use Rattle.page_core_base.specs.declared.note_kinds.NoteKind.{NoteKind}
use Rattle.page_core_base.specs.declared.note_kinds.NoteKind.TheVariants as note_kinds
use Rattle.page_roff_syntax.specs.declared.quotes.Argument.{Argument}
use Rattle.page_roff_syntax.specs.declared.requests.LayoutRequest.{LayoutRequest}
use Rattle.page_sets_names.specs.declared.macro_names.HeadingName.{HeadingName}
use Rattle.page_sets_names.specs.declared.macro_names.HeadingName.TheVariants as headings
use Rattle.page_sets_lines.specs.declared.events.Event.{Event}
use Rattle.page_sets_lines.specs.declared.events.EventKind.{EventKind}
use Rattle.page_sets_lines.specs.declared.events.EventKind.TheVariants as kinds
use Rattle.page_sets_lines.specs.declared.openers.Opener.TheVariants as openers
use Rattle.page_sets_lines.specs.laws.Views.{BlockOpenerFits}
use Rattle.page_sets_lines.specs.laws.Sets.{IsPart, IsPartIfGiven, IsArgument, IsArgumentIfGiven, HasSlices, OpensSlices, BlockOpensSlices, BlockClosesSlices}
use Rattle.page_sets_lines.specs.Lines.{is_unclosed, name_end, name_place}
use Rattle.page_sets_lines.proofs.ArgumentLaws.{AllSit, AnyAt, AnyAtIfGiven, open_at, is_word, nothing_part, rest_part, end_within, name_part, first_slice_after, first_text_after, request_slices, AreArguments, all_arguments, Prints, both, more_events, no_event, own_alone, own_first, kind_fits}
use Rattle.page_sets_mdoc_lines.specs.declared.blocks.BlockMacro.{BlockMacro}
use Rattle.page_sets_mdoc_lines.specs.declared.blocks.BlockMacro.TheVariants as blocks
use Rattle.page_sets_mdoc_lines.specs.declared.blocks.LineMacro.{LineMacro}
use Rattle.page_sets_mdoc_lines.specs.declared.blocks.LineMacro.TheVariants as lines
use Rattle.page_sets_mdoc_blocks.specs.Fronts.{at_name, line_arguments, quote_events, missing_quote, request_front, heading_opener, first_text, opener_of, closer_of, kind_at_name, note_detail, note_events, block_note, has_real_word, field_front, option_quote, is_standard, include_front, spacing_of, spacing_kind, block_front}
use Rattle.page_sets_mdoc_blocks.specs.declared.displays.DisplayOptions.{DisplayOptions}
use Rattle.page_sets_mdoc_blocks.specs.Displays.{display_type, no_options, option_read, options_after}

-- ---- slices

heading_slices : (line : List ℕ) (name : HeadingName) → OpensSlices line (heading_opener name)
heading_slices line headings.SH = tt
heading_slices line _ = tt

given_part : (line : List ℕ) (text : Option (List ℕ)) → IsPartIfGiven line text → IsPart line (unwrap_or text [])
given_part line None h = nothing_part line
given_part line (Some text) h = h

detail_part : (kind : NoteKind) (line : TakenLine) → IsPart line.text (note_detail kind line)
detail_part note_kinds.UnknownFont line = given_part line.text (first_text line) (first_text_after line.text (name_end line))
detail_part _ line = nothing_part line.text

-- the last `-offset` of a display is in its line
option_slices : (line : List ℕ) (takes is_offset is_compact : Bool) (so_far : DisplayOptions (List ℕ)) (word : Argument (List ℕ)) (kind : Option Bool)
    → IsArgumentIfGiven line so_far.offset → IsArgument line word
    → IsArgumentIfGiven line
    (if takes then record so_far { offset = Some word; takes_offset = false }
    else if is_offset then record so_far { takes_offset = true }
    else if is_compact then record so_far { is_compact = true }
    else record so_far { is_literal = kind }).offset
option_slices line true is_offset is_compact so_far word kind h k = k
option_slices line false true is_compact so_far word kind h k = h
option_slices line false false true so_far word kind h k = h
option_slices line false false false so_far word kind h k = h

read_slices : (line : List ℕ) (so_far : DisplayOptions (List ℕ)) (word : Argument (List ℕ)) → IsArgumentIfGiven line so_far.offset → IsArgument line word
    → IsArgumentIfGiven line (option_read so_far word).offset
read_slices line so_far word h k =
    option_slices line so_far.takes_offset (bytes_eq word.text (codes "-offset")) (bytes_eq word.text (codes "-compact")) so_far word
    (option_or so_far.is_literal (display_type word.text)) h k

options_slices : (line : List ℕ) (so_far : DisplayOptions (List ℕ)) (words : List (Argument (List ℕ))) → IsArgumentIfGiven line so_far.offset
    → AreArguments line words → IsArgumentIfGiven line (options_after so_far words).offset
options_slices line so_far [] h all = h
options_slices line so_far (word ∷ words) h all = options_slices line (option_read so_far word) words (read_slices line so_far word h all.0) all.1

opens_slices : (block : BlockMacro) (line : TakenLine) → BlockOpensSlices line.text (opener_of block line)
opens_slices blocks.List line = rest_part line.text (name_end line) (end_within line)
opens_slices blocks.Display line = options_slices line.text no_options (line_arguments line) tt (all_arguments line.text (name_end line))
opens_slices _ line = tt

closes_slices : (line : List ℕ) (block : BlockMacro) → BlockClosesSlices line (closer_of block)
closes_slices line blocks.List = tt
closes_slices line _ = tt

-- what a block of lines opens with is in the line
pub opens_fit : (block : BlockMacro) (line : TakenLine) → length line.text ≤ LINE → BlockOpenerFits (opener_of block line)
opens_fit block line short = kind_fits line.text (kinds.Open (openers.Block (opener_of block line))) short (opens_slices block line)

-- ---- what may come before the words

-- how many events the words of a macro may add; a block of lines has none, and macros that can be among words have no front
abbrev pub words_more : LineMacro → ℕ
words_more (lines.Inline inline) = 5
words_more (lines.Sentence sentence) = 4
words_more lines.Include = 4
words_more (lines.Begins block) = 2
words_more (lines.Ends block) = 2
words_more _ = 3

-- and how many there may be before them
abbrev pub front_most : LineMacro → ℕ
front_most (lines.Inline inline) = 0
front_most (lines.Sentence sentence) = 1
front_most lines.Include = 1
front_most (lines.Begins block) = 3
front_most (lines.Ends block) = 3
front_most _ = 2

-- a front is what is printed of no word
module _ (line : TakenLine) (IsSo : Event (List ℕ) → Type 0) (at : AnyAt line.text IsSo (name_place line)) (sit : AllSit line.text IsSo line.number (line_arguments line)) where
  -- one event at the macro
  alone : (most : ℕ) (kind : EventKind (List ℕ)) → is_word kind ≡ false → HasSlices line.text kind → 1 ≤ most → Prints IsSo most [] (at_name line kind ∷ [])
  alone most kind w s m = own_alone most [] (at_name line kind) w (at kind s) m

  quote_prints : (begins : Bool) (column : Option ℕ) → AnyAtIfGiven line.text IsSo line.number column → Prints IsSo 1 [] (quote_events line.number begins column)
  quote_prints begins None h = no_event 1 []
  quote_prints begins (Some column) h = own_alone 1 [] _ refl (h _ (nothing_part line.text)) (omega arith)

  missing_prints : (begins : Bool) → Prints IsSo 1 [] (missing_quote begins line)
  missing_prints begins = quote_prints begins _ (open_at line.text IsSo line.number 0 (line_arguments line) sit)

  -- a quote that is missing, and one event
  quoted : (kind : EventKind (List ℕ)) → is_word kind ≡ false → HasSlices line.text kind → Prints IsSo 2 [] (missing_quote false line ++ (at_name line kind ∷ []))
  quoted kind w s = both 1 1 [] [] (missing_quote false line) (at_name line kind ∷ []) (missing_prints false) (alone 1 kind w s (omega arith))

  pub request_front_prints : (name : LayoutRequest) → Prints IsSo 2 [] (request_front name line)
  request_front_prints name = quoted _ refl (request_slices line.text name _ (first_slice_after line.text (name_end line)))

  note_prints : (kind : Option NoteKind) → Prints IsSo 1 [] (note_events line kind)
  note_prints None = no_event 1 []
  note_prints (Some kind) = alone 1 _ refl (detail_part kind line) (omega arith)

  spacing_prints : (on : Option (Option Bool)) → Prints IsSo 1 [] (kind_at_name line (spacing_kind on))
  spacing_prints None = no_event 1 []
  spacing_prints (Some on) = alone 1 _ refl tt (omega arith)

  field_prints : (real : Bool) → Prints IsSo 2 [] (field_front real line)
  field_prints true = alone 2 _ refl tt (omega arith)
  field_prints false = alone 2 _ refl (name_part line) (omega arith)

  include_prints : (real : Bool) → Prints IsSo 1 [] (include_front real line)
  include_prints true = no_event 1 []
  include_prints false = alone 1 _ refl (name_part line) (omega arith)

  -- the option of a sentence lacks its last quote
  option_prints : (words : List (Argument (List ℕ))) → AllSit line.text IsSo line.number words → AnyAtIfGiven line.text IsSo line.number (option_quote words)
  option_prints [] h = tt
  option_prints (word ∷ words) h = by (is_standard word) (is_unclosed word.quoting) refl refl
    where
      by : (standard lacks : Bool) → is_standard word ≡ standard → is_unclosed word.quoting ≡ lacks → AnyAtIfGiven line.text IsSo line.number (option_quote (word ∷ words))
      by true true s t = rw (s, t) (h.0.quote t)
      by true false s t = rw (s, t) tt
      by false lacks s t = rw s tt

  pub front_prints : (begins : LineMacro) → Prints IsSo (front_most begins) [] (block_front begins line)
  front_prints (lines.Inline inline) = no_event 0 []
  front_prints (lines.Prologue name) = quoted _ refl (rest_part line.text (name_end line) (end_within line))
  front_prints (lines.Heading name) = own_first 1 2 [] _ _ refl (at _ (heading_slices line.text name)) (omega arith) (alone 1 _ refl tt (omega arith))
  front_prints (lines.Paragraph name) = quoted _ refl tt
  front_prints (lines.Begins block) =
      both 1 2 [] [] (missing_quote true line) _ (missing_prints true)
      (both 1 1 [] [] (note_events line (block_note block line)) _ (note_prints (block_note block line)) (alone 1 _ refl (opens_slices block line) (omega arith)))
  front_prints (lines.Ends block) = more_events 2 3 [] _ (omega arith) (quoted _ refl (closes_slices line.text block))
  front_prints lines.Item = own_first 1 2 [] _ _ refl (at _ tt) (omega arith) (alone 1 _ refl tt (omega arith))
  front_prints (lines.Field font) = field_prints (has_real_word line)
  front_prints (lines.Sentence sentence) = quote_prints true _ (option_prints (line_arguments line) sit)
  front_prints lines.Include = include_prints (has_real_word line)
  front_prints lines.Spacing = both 1 1 [] [] (missing_quote false line) _ (missing_prints false) (spacing_prints (spacing_of (first_text line)))
  front_prints lines.Target = more_events 1 2 [] _ (omega arith) (missing_prints false)
  front_prints _ = alone 2 _ refl tt (omega arith)
