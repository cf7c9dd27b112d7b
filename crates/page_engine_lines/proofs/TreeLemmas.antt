-- The block tree of what roff gives over all lines is what the lines give one after another: helpers of proofs.
use Rattle.std.proofs.Common.{◌≡◌, ℕ, ◌+◌, nat_lt, Bool, true, false, ◌&&◌, List, [], ◌∷◌, ◌++◌, length, map, Option, None, Some, ◌⊎◌, inl, inr, refl, sym, ap, ◌∙◌, append_assoc, append-nil, if◌then◌else◌}
use Rattle.std.proofs.lemmas.Bool.{cases_Bool}
use Rattle.std.proofs.lemmas.List.{map-append}
use Rattle.page_core_base.specs.Bytes.{is_white}
use Rattle.page_core_base.specs.Texts.{TakenLine}
use Rattle.page_core_base.specs.Messages.{Message, message_about}
use Rattle.page_core_base.specs.Rows.{Item, noted}
use Rattle.page_core_base.specs.declared.note_kinds.NoteKind.TheVariants.{TrailingBlank}
use Rattle.page_roff_effects.specs.States.{Given, says, takes}
use Rattle.page_roff_syntax.specs.Delimiters.{kept_len}
use Rattle.page_roff_source.specs.Runs.{RoffEdge, SourceLine, end_notes, given, done}
use Rattle.page_roff_source.specs.machine.RoffLines.{before_line, run_line, line_given, line_done, lines_given, lines_done}
use Rattle.page_roff_source.proofs.CountLemmas.{given-append, done-append, given-by_line, done-by_line}
use Rattle.page_engine_lines.specs.Bodies.{BodyEdge, chosen, chosen_if, language_of}
use Rattle.page_engine_lines.specs.laws.Views.{decided, events_after, events_items, has_begun, has_title, end_items as body_end_items, ending_items}
use Rattle.page_engine_lines.specs.Trees.{Step, reports, events_steps, page_end_steps, tree_items, tree_after}
use Rattle.page_engine_lines.proofs.BodyTreeLemmas.{events_keep}
use Rattle.page_engine_lines.proofs.StepLemmas.{items-append, after-append, items-none, after-none, message_items, message_after, events_tree_items, events_tree_after, end_tree, tree_title}
use Rattle.page_scopes_words.specs.Words.{at}
use Rattle.page_sets.specs.Mdoc.{either_events}
use Rattle.page_sets.specs.declared.either.Either.{Either}
use Rattle.page_sets_lines.specs.declared.events.Event.{Event}
use Rattle.page_engine_lines.specs.Acts.{given_steps, before_language, from_language, first_language, reader, rest_steps, given_then, trailing_messages, raw_line, lines_items, lines_after, end_steps, page_items}
use Rattle.page_engine_lines.specs.machine.Given.{set_events, line_items, line_after, given_items, body_after}
use Rattle.page_engine_lines.specs.Edges.{LinesEdge}
use Rattle.page_engine_lines.specs.machine.Lines.{source_line, trailing_notes, source_items, source_after, end_items}

language_cases : (o : Option Either) → (o ≡ None) ⊎ ((set : Either) × (o ≡ Some set))
language_cases None = inl refl
language_cases (Some set) = inr (set, refl)

-- ---- what was given, once the language is decided

pub decided_items : (set : Either) (b : BodyEdge) (all : List Given) → b.header.is_decided ≡ true → b.header.set ≡ set
    → tree_items b (given_steps set all) ≡ given_items b all
unfolding given_items
decided_items set b [] d s = items-none b
decided_items set b (says m ∷ more) d s =
    items-append b (reports m ∷ []) (given_steps set more)
    ∙ ap (λ (t : List Item). t ++ tree_items (tree_after b (reports m ∷ [])) (given_steps set more)) (message_items b m)
    ∙ ap (λ (c : BodyEdge). noted m ∷ tree_items c (given_steps set more)) (message_after b m)
    ∙ ap (λ (t : List Item). noted m ∷ t) (decided_items set b more d s)
decided_items set b (takes line ∷ more) d s =
    let events = either_events set line in
    let steps = events_steps events in
    let c = events_after b events in
    let keeps = events_keep b events in
    let same : decided b line ≡ b = rw d refl in
    let own : set_events b line ≡ events = rw s refl in
    rw (same, own) (items-append b steps (given_steps set more)
    ∙ ap (λ (t : List Item). t ++ tree_items (tree_after b steps) (given_steps set more)) (events_tree_items b events)
    ∙ ap (λ (x : BodyEdge). events_items b events ++ tree_items x (given_steps set more)) (events_tree_after b events)
    ∙ ap (λ (t : List Item). events_items b events ++ t) (decided_items set c more (keeps.1 ∙ d) (keeps.0 ∙ s)))

pub decided_after : (set : Either) (b : BodyEdge) (all : List Given) → b.header.is_decided ≡ true → b.header.set ≡ set
    → tree_after b (given_steps set all) ≡ body_after b all
unfolding body_after
decided_after set b [] d s = after-none b
decided_after set b (says m ∷ more) d s =
    after-append b (reports m ∷ []) (given_steps set more)
    ∙ ap (λ (c : BodyEdge). tree_after c (given_steps set more)) (message_after b m)
    ∙ decided_after set b more d s
decided_after set b (takes line ∷ more) d s =
    let events = either_events set line in
    let c = events_after b events in
    let keeps = events_keep b events in
    let same : decided b line ≡ b = rw d refl in
    let own : set_events b line ≡ events = rw s refl in
    rw (same, own) (after-append b (events_steps events) (given_steps set more)
    ∙ ap (λ (x : BodyEdge). tree_after x (given_steps set more)) (events_tree_after b events)
    ∙ decided_after set c more (keeps.1 ∙ d) (keeps.0 ∙ s))

-- ---- and before

turned : BodyEdge → Either → List Given → BodyEdge
turned b set all = chosen_if (tree_after b (given_steps set (before_language all))) (first_language all)

parted_items : BodyEdge → Either → List Given → List Step → List Item
parted_items b set all last =
    let c = turned b set all in
    tree_items b (given_steps set (before_language all)) ++ tree_items c (given_steps c.header.set (from_language all) ++ last)

parted_after : BodyEdge → Either → List Given → BodyEdge
parted_after b set all = let c = turned b set all in tree_after c (given_steps c.header.set (from_language all))

-- acts in front of all that is given before the language is decided
front_more : (b c : BodyEdge) (set : Either) (steps : List Step) (items : List Item) (all more : List Given) (last : List Step)
    → tree_items b steps ≡ items → tree_after b steps ≡ c → given_steps set (before_language all) ≡ steps ++ given_steps set (before_language more)
    → first_language all ≡ first_language more → from_language all ≡ from_language more
    → (parted_items b set all last ≡ items ++ parted_items c set more last) × (parted_after b set all ≡ parted_after c set more)
unfolding turned parted_items parted_after
front_more b c set steps items all more last i a f l r =
    let g = given_steps set (before_language more) in
    let next : tree_after b (steps ++ g) ≡ tree_after c g = after-append b steps g ∙ ap (λ (x : BodyEdge). tree_after x g) a in
    let given : tree_items b (steps ++ g) ≡ items ++ tree_items c g =
    items-append b steps g ∙ ap (λ (t : List Item). t ++ tree_items (tree_after b steps) g) i ∙ ap (λ (x : BodyEdge). items ++ tree_items x g) a in
    rw (f, l, r, next, given) (append_assoc items (tree_items c g) _, refl)

-- a line that decides the language
line_decides : (b : BodyEdge) (set : Either) (line : TakenLine) (language : Either) (more : List Given) (last : List Step)
    → b.header.is_decided ≡ false → language_of line ≡ Some language
    → (parted_items b set (takes line ∷ more) last ≡ given_items b (takes line ∷ more) ++ tree_items (body_after b (takes line ∷ more)) last)
    × (parted_after b set (takes line ∷ more) ≡ body_after b (takes line ∷ more))
unfolding turned parted_items parted_after given_items body_after
line_decides b set line language more last u o =
    let c = chosen b language in
    let all = takes line ∷ more in
    let steps = given_steps language all in
    let items = decided_items language c all refl refl in
    let after = decided_after language c all refl refl in
    let same : decided b line ≡ c = rw (u, o) refl in
    let begun : parted_items b set all last ≡ tree_items c (steps ++ last) =
    rw o (ap (λ (t : List Item). t ++ tree_items (chosen (tree_after b []) language) (steps ++ last)) (items-none b)
    ∙ ap (λ (x : BodyEdge). tree_items (chosen x language) (steps ++ last)) (after-none b)) in
    let left : parted_after b set all ≡ tree_after c steps = rw o (ap (λ (x : BodyEdge). tree_after (chosen x language) steps) (after-none b)) in
    let own : given_items b all ≡ given_items c all =
    ap (λ (x : BodyEdge). events_items x (set_events x line) ++ given_items (events_after x (set_events x line)) more) same in
    let next : body_after b all ≡ body_after c all = ap (λ (x : BodyEdge). body_after (events_after x (set_events x line)) more) same in (
      begun ∙ items-append c steps last
          ∙ ap (λ (t : List Item). t ++ tree_items (tree_after c steps) last) items
          ∙ ap (λ (x : BodyEdge). given_items c all ++ tree_items x last) after
          ∙ ap (λ (t : List Item). t ++ tree_items (body_after c all) last) (sym own)
          ∙ ap (λ (x : BodyEdge). given_items b all ++ tree_items x last) (sym next),
      left ∙ after ∙ sym next,
    )

-- what is given before a language is decided, and from there on, is what its lines give one after another
parted_is : (b : BodyEdge) (set : Either) (all : List Given) (last : List Step) → b.header.is_decided ≡ false → b.header.set ≡ set
    → (parted_items b set all last ≡ given_items b all ++ tree_items (body_after b all) last) × (parted_after b set all ≡ body_after b all)
unfolding turned parted_items parted_after given_items body_after
parted_is b set [] last u s = (
  ap (λ (t : List Item). t ++ tree_items (tree_after b []) last) (items-none b) ∙ ap (λ (x : BodyEdge). tree_items x last) (after-none b),
  ap (λ (x : BodyEdge). tree_after x []) (after-none b) ∙ after-none b,
)
parted_is b set (says m ∷ more) last u s =
    let steps : List Step = reports m ∷ [] in
    let k = front_more b b set steps (noted m ∷ []) (says m ∷ more) more last (message_items b m) (message_after b m) refl refl refl in
    let h = parted_is b set more last u s in
    (k.0 ∙ ap (λ (t : List Item). noted m ∷ t) h.0, k.1 ∙ h.1)
parted_is b set (takes line ∷ more) last u s = elim (language_cases (language_of line)) [
  | inl o ↦
      let events = either_events set line in
      let c = events_after b events in
      let keeps = events_keep b events in
      let same : decided b line ≡ b = rw (u, o) refl in
      let own : set_events b line ≡ events = rw s refl in
      let k = front_more b c set (events_steps events) (events_items b events) (takes line ∷ more) more last (events_tree_items b events)
      (events_tree_after b events) (rw o refl) (rw o refl) (rw o refl) in
      let h = parted_is c set more last (keeps.1 ∙ u) (keeps.0 ∙ s) in
      let all = takes line ∷ more in
      let made : given_items b all ≡ events_items b events ++ given_items c more =
      ap (λ (x : BodyEdge). events_items x (set_events x line) ++ given_items (events_after x (set_events x line)) more) same
      ∙ ap (λ (made : List (Event (List ℕ))). events_items b made ++ given_items (events_after b made) more) own in
      let next : body_after b all ≡ body_after c more =
      ap (λ (x : BodyEdge). body_after (events_after x (set_events x line)) more) same
      ∙ ap (λ (made : List (Event (List ℕ))). body_after (events_after b made) more) own in (
        k.0 ∙ ap (λ (t : List Item). events_items b events ++ t) h.0
            ∙ sym (append_assoc (events_items b events) (given_items c more) (tree_items (body_after c more) last))
            ∙ ap (λ (t : List Item). t ++ tree_items (body_after c more) last) (sym made)
            ∙ ap (λ (x : BodyEdge). given_items b all ++ tree_items x last) (sym next),
        k.1 ∙ h.1 ∙ sym next,
      )
  | inr l ↦ line_decides b set line l.0 more last u l.1
]

-- the body that reads the rest, what it gives and where it ends, with the test of whether the language is decided by itself
abbrev reader_by : Bool → BodyEdge → List Given → BodyEdge
reader_by t b all = if t then b else chosen_if (tree_after b (given_steps b.header.set (if t then [] else before_language all))) (first_language all)

abbrev steps_by : Bool → BodyEdge → List Given → List Step
steps_by t b all = given_steps (reader_by t b all).header.set (if t then all else from_language all)

abbrev given_by : Bool → BodyEdge → List Given → List Step → List Item
given_by t b all more =
    tree_items b (given_steps b.header.set (if t then [] else before_language all)) ++ tree_items (reader_by t b all) (steps_by t b all ++ more)

abbrev left_by : Bool → BodyEdge → List Given → BodyEdge
left_by t b all = tree_after (reader_by t b all) (steps_by t b all)

decided_then : (b : BodyEdge) (all : List Given) (last : List Step) → b.header.is_decided ≡ true
    → (given_then b all last ≡ given_items b all ++ tree_items (body_after b all) last)
    × (tree_after (reader b all) (rest_steps b all) ≡ body_after b all)
decided_then b all last d =
    let steps = given_steps b.header.set all in
    let after = decided_after b.header.set b all d refl in (
      ap (λ (t : Bool). given_by t b all last) d
          ∙ ap (λ (t : List Item). t ++ tree_items b (steps ++ last)) (items-none b)
          ∙ items-append b steps last
          ∙ ap (λ (t : List Item). t ++ tree_items (tree_after b steps) last) (decided_items b.header.set b all d refl)
          ∙ ap (λ (x : BodyEdge). given_items b all ++ tree_items x last) after,
      ap (λ (t : Bool). left_by t b all) d ∙ after,
    )

undecided_then : (b : BodyEdge) (all : List Given) (last : List Step) → b.header.is_decided ≡ false
    → (given_then b all last ≡ given_items b all ++ tree_items (body_after b all) last)
    × (tree_after (reader b all) (rest_steps b all) ≡ body_after b all)
unfolding turned parted_items parted_after
undecided_then b all last u =
    let k = parted_is b b.header.set all last u refl in
    (ap (λ (t : Bool). given_by t b all last) u ∙ k.0, ap (λ (t : Bool). left_by t b all) u ∙ k.1)

pub given_then_is : (b : BodyEdge) (all : List Given) (last : List Step)
    → (given_then b all last ≡ given_items b all ++ tree_items (body_after b all) last)
    × (tree_after (reader b all) (rest_steps b all) ≡ body_after b all)
given_then_is b all last = elim (cases_Bool b.header.is_decided) [ inl d ↦ decided_then b all last d | inr u ↦ undecided_then b all last u ]

pub given_tree_items : (b : BodyEdge) (all : List Given) → given_then b all [] ≡ given_items b all
given_tree_items b all =
    (given_then_is b all []).0 ∙ ap (λ (t : List Item). given_items b all ++ t) (items-none (body_after b all)) ∙ append-nil (given_items b all)

pub given_tree_after : (b : BodyEdge) (all : List Given) → tree_after (reader b all) (rest_steps b all) ≡ body_after b all
given_tree_after b all = (given_then_is b all []).1

-- ---- cut between two lines

given_items-append : (b : BodyEdge) (above below : List Given) → given_items b (above ++ below) ≡ given_items b above ++ given_items (body_after b above) below
unfolding given_items body_after
given_items-append b [] below = refl
given_items-append b (says m ∷ above) below = ap (λ (t : List Item). noted m ∷ t) (given_items-append b above below)
given_items-append b (takes line ∷ above) below =
    let c = line_after b line in
    ap (λ (t : List Item). line_items b line ++ t) (given_items-append c above below)
    ∙ sym (append_assoc (line_items b line) (given_items c above) (given_items (body_after c above) below))

body_after-append : (b : BodyEdge) (above below : List Given) → body_after b (above ++ below) ≡ body_after (body_after b above) below
unfolding body_after
body_after-append b [] below = refl
body_after-append b (says m ∷ above) below = body_after-append b above below
body_after-append b (takes line ∷ above) below = body_after-append (line_after b line) above below

pub lines_items-append : (e : LinesEdge) (above below : List SourceLine)
    → lines_items e (above ++ below) ≡ lines_items e above ++ lines_items (lines_after e above) below
lines_items-append e above below =
    let first = given e.roff above in
    let next = given (done e.roff above) below in
    let after = given_tree_after e.body first in
    given_tree_items e.body (given e.roff (above ++ below))
    ∙ ap (λ (g : List Given). given_items e.body g) (given-append e.roff above below)
    ∙ given_items-append e.body first next
    ∙ ap (λ (t : List Item). t ++ given_items (body_after e.body first) next) (sym (given_tree_items e.body first))
    ∙ ap (λ (t : List Item). lines_items e above ++ t) (sym (given_tree_items (body_after e.body first) next))
    ∙ ap (λ (x : BodyEdge). lines_items e above ++ given_then x next []) (sym after)

pub lines_after-append : (e : LinesEdge) (above below : List SourceLine) → lines_after e (above ++ below) ≡ lines_after (lines_after e above) below
lines_after-append e above below =
    let first = given e.roff above in
    let next = given (done e.roff above) below in
    let all = given e.roff (above ++ below) in
    let body : (lines_after e (above ++ below)).body ≡ (lines_after (lines_after e above) below).body =
    given_tree_after e.body all
    ∙ ap (λ (g : List Given). body_after e.body g) (given-append e.roff above below)
    ∙ body_after-append e.body first next
    ∙ ap (λ (x : BodyEdge). body_after x next) (sym (given_tree_after e.body first))
    ∙ sym (given_tree_after (lines_after e above).body next) in
    rw (done-append e.roff above below, body) refl

-- ---- one line

front_items : (b : BodyEdge) (notes : List Message) (all : List Given) → given_items b (map says notes ++ all) ≡ map noted notes ++ given_items b all
unfolding given_items
front_items b [] all = refl
front_items b (m ∷ notes) all = ap (λ (t : List Item). noted m ∷ t) (front_items b notes all)

front_after : (b : BodyEdge) (notes : List Message) (all : List Given) → body_after b (map says notes ++ all) ≡ body_after b all
unfolding body_after
front_after b [] all = refl
front_after b (m ∷ notes) all = front_after b notes all

noted_if : (test : Bool) (m : Message) → map noted (if test then m ∷ [] else []) ≡ (if test then noted m ∷ [] else [])
noted_if true m = refl
noted_if false m = refl

trailing_is : (number : ℕ) (text : List ℕ) → map noted (trailing_messages number text) ≡ trailing_notes number text
trailing_is number text =
    noted_if (nat_lt (kept_len is_white text) (length text)) (message_about TrailingBlank (at number (kept_len is_white text + 1)) [])

-- what a line gives and where it leaves the page is that of its text and number
given_of_text : (e : RoffEdge) (line : SourceLine) → line_given e line ≡ line_given e (source_line line.text line.number)
unfolding run_line before_line
given_of_text e line = refl

done_of_text : (e : RoffEdge) (line : SourceLine) → line_done e line ≡ line_done e (source_line line.text line.number)
unfolding run_line before_line
done_of_text e line = refl

one_given : (e : RoffEdge) (line : SourceLine) → given e (line ∷ []) ≡ map says line.notes ++ line_given e (source_line line.text line.number)
unfolding lines_given
one_given e line =
    given-by_line e (line ∷ []) ∙ ap (λ (g : List Given). map says line.notes ++ g) (append-nil (line_given e line) ∙ given_of_text e line)

one_done : (e : RoffEdge) (line : SourceLine) → e.to_come ≡ None → done e (line ∷ []) ≡ line_done e (source_line line.text line.number)
unfolding lines_done
one_done e line idle = done-by_line e (line ∷ []) idle ∙ done_of_text e line

pub one_items : (e : LinesEdge) (number : ℕ) (text : List ℕ) (notes : List Message)
    → lines_items e (raw_line number text notes ∷ []) ≡ map noted notes ++ source_items e number text
unfolding source_items
one_items e number text notes =
    let line = raw_line number text notes in
    let trailing = trailing_messages number text in
    let own = line_given e.roff (source_line text number) in
    given_tree_items e.body (given e.roff (line ∷ []))
    ∙ ap (λ (g : List Given). given_items e.body g) (one_given e.roff line)
    ∙ front_items e.body (notes ++ trailing) own
    ∙ ap (λ (t : List Item). t ++ given_items e.body own) (map-append noted notes trailing)
    ∙ append_assoc (map noted notes) (map noted trailing) (given_items e.body own)
    ∙ ap (λ (t : List Item). map noted notes ++ (t ++ given_items e.body own)) (trailing_is number text)

pub one_after : (e : LinesEdge) (number : ℕ) (text : List ℕ) (notes : List Message) → e.roff.to_come ≡ None
    → lines_after e (raw_line number text notes ∷ []) ≡ source_after e number text
one_after e number text notes idle =
    let line = raw_line number text notes in
    let own = line_given e.roff (source_line text number) in
    let body : (lines_after e (line ∷ [])).body ≡ body_after e.body own =
    given_tree_after e.body (given e.roff (line ∷ []))
    ∙ ap (λ (g : List Given). body_after e.body g) (one_given e.roff line)
    ∙ front_after e.body (notes ++ trailing_messages number text) own in
    rw (one_done e.roff line idle, body) refl

-- ---- no line, and the end

pub no_items : (e : LinesEdge) → lines_items e [] ≡ []
unfolding lines_given given_items
no_items e = given_tree_items e.body (given e.roff []) ∙ ap (λ (g : List Given). given_items e.body g) (given-by_line e.roff [])

pub none_after : (e : LinesEdge) → e.roff.to_come ≡ None → lines_after e [] ≡ e
unfolding lines_given lines_done body_after
none_after e idle =
    let body : (lines_after e []).body ≡ e.body =
    given_tree_after e.body (given e.roff []) ∙ ap (λ (g : List Given). body_after e.body g) (given-by_line e.roff []) in
    rw (done-by_line e.roff [] idle, body) refl

told_items : (b : BodyEdge) (notes : List Message) (line : ℕ)
    → tree_items b (map reports notes ++ page_end_steps line) ≡ map noted notes ++ body_end_items b line
told_items b [] line = end_tree b line
told_items b (m ∷ notes) line =
    items-append b (reports m ∷ []) (map reports notes ++ page_end_steps line)
    ∙ ap (λ (t : List Item). t ++ tree_items (tree_after b (reports m ∷ [])) (map reports notes ++ page_end_steps line))
    (message_items b m)
    ∙ ap (λ (c : BodyEdge). noted m ∷ tree_items c (map reports notes ++ page_end_steps line)) (message_after b m)
    ∙ ap (λ (t : List Item). noted m ∷ t) (told_items b notes line)

pub ending_is : (e : LinesEdge) (line : ℕ) → ending_items e line ≡ end_items e line
unfolding end_items
ending_is e line = told_items e.body (end_notes e.roff) line

-- what lines give, and then the page's end
pub end_items_after : (e : LinesEdge) (lines : List SourceLine) (line : ℕ)
    → page_items e lines line ≡ lines_items e lines ++ end_items (lines_after e lines) line
unfolding end_items
end_items_after e lines line =
    let all = given e.roff lines in
    let roff = done e.roff lines in
    (given_then_is e.body all (end_steps roff line)).0
    ∙ ap (λ (t : List Item). t ++ tree_items (body_after e.body all) (end_steps roff line)) (sym (given_tree_items e.body all))
    ∙ ap (λ (x : BodyEdge). lines_items e lines ++ tree_items x (end_steps roff line)) (sym (given_tree_after e.body all))
    ∙ ap (λ (t : List Item). lines_items e lines ++ t) (told_items (lines_after e lines).body (end_notes roff) line)

-- ---- the title

-- where the title of a page is settled, lines leave the fields of the title
title_stays : (b : BodyEdge) (all : List Given) → b.header.is_decided ≡ true → has_begun b ≡ true
    → (tree_after (reader b all) (rest_steps b all)).header.fields ≡ b.header.fields
title_stays b all decided begun =
    let here : reader b all ≡ b = rw decided refl in
    ap (λ (c : BodyEdge). (tree_after c (rest_steps b all)).header.fields) here ∙ tree_title b (rest_steps b all) begun decided

both : (x y : Bool) → x && y ≡ true → (x ≡ true) × (y ≡ true)
both true y h = (refl, h)
both false y h = let no : ⊥ = cc in absurd no

pub title_after : (e : LinesEdge) (lines : List SourceLine) → has_title e.body ≡ true
    → (lines_after e lines).body.header.fields ≡ e.body.header.fields
title_after e lines h =
    let b = both e.body.header.is_decided (has_begun e.body) h in
    title_stays e.body (given e.roff lines) b.0 b.1
