-- Operations of an expression, however many steps their definition has.
use Rattle.std.proofs.Common.{◌≡◌, ℕ, zero, suc, ◌<◌, ◌≤◌, Bool, true, false, List, [], ◌∷◌, length, drop, fold, Option, None, Some, option_map, IfSome, MatchOption, ℤ, refl, ◌∙◌, arith, length-drop, ◌==◌, cond, ◌++◌, inl, inr, ap, ◌+◌, ◌-◌, sym, subst, length-take, min}
use Rattle.std.specs.List.{prefix_len}
use Rattle.page_core_numbers.specs.declared.scales.Scale.{Scale}
use Rattle.page_core_numbers.specs.Expressions.{number_at, after_digits, after_fraction, after_scale, operator_at, operator_named, operator_len, begins_equal, Read, number, after_close, in_parentheses, operand_inside, operand_by, first, after_operation, next_operator, operations_at, expression_by, expression_within}
use Rattle.page_core_base.specs.Bytes.{is_digit, begins_quote}
use Rattle.page_laws.specs.Operations.{operand_of, done}
use Rattle.std.proofs.lemmas.Bool.{cases_Bool}
use Rattle.std.proofs.lemmas.Bool.Decides.{nat_tests}
use Rattle.page_roff_syntax.specs.Arguments.{after_blanks, is_blank, argument_len, quoted_len, first_argument, first_arguments, quoted_argument, bare_argument, arguments}
use Rattle.page_scopes_phrases.specs.LineWords.{after_tab, cell, cells, cells_within, first_part, has_tab, other_cells, span}
use Rattle.page_scopes_phrases.specs.Phrases.{EventOutcome, followed_by}
use Rattle.page_scopes_phrases.specs.declared.formatting.Formatting.{Formatting}
use Rattle.page_scopes_phrases.specs.declared.phrases.Phrase.{Phrase}
use Rattle.std.proofs.lemmas.List.{drop-drop}
use Rattle.page_core_base.specs.Texts.{TakenLine}
use Rattle.page_sets_lines.specs.declared.events.EventKind.{EventKind}
use Rattle.page_sets_lines.specs.Lines.{before_name, name_end, name_place, is_nameless, arguments_after, event_at, line_start, name_of, generated_word, line_end, word_event, word_place}
use Rattle.page_sets_lines.specs.laws.Sets.{IsArgument, prints_text, AreAll}
use Rattle.page_sets_lines.proofs.ArgumentLaws.{first_slice, AllSit, AnyAt, Sits}
use Rattle.page_laws.specs.Places.{ends_in_quote, last_column, IsInLine, quote_after, flag_line, last_argument, flag_events}
use Rattle.page_core_base.specs.Limits.{LINE}
use Rattle.page_sets.specs.Mdoc.{either_events, control_events, head_events, line_parts, mdoc_events, named_events}
use Rattle.page_sets.specs.declared.either.Either.{Either}
use Rattle.page_sets_lines.specs.declared.events.Event.{Event}
use Rattle.page_sets.specs.laws.Views.{either_lawful}
use Rattle.std.specs.Prelude.{codes}
use Rattle.page_roff_syntax.specs.declared.quotes.Argument.{Argument}
use Rattle.page_roff_syntax.specs.declared.quotes.Quoting.TheVariants.{Unclosed}
use Rattle.page_sets_mdoc_lines.specs.Parts.{LineParts, parts, is_real, word_delimiter, word_call, is_closing, takes_next}
use Rattle.page_sets_mdoc_lines.specs.declared.macros.Inline.TheVariants as inlines
use Rattle.page_sets_mdoc_lines.specs.declared.blocks.LineMacro.TheVariants as lines
use Rattle.page_sets_mdoc_blocks.specs.Fronts.{line_arguments}
use Rattle.page_core_base.specs.declared.cells.Font.TheVariants.{B}
use Rattle.page_sets_lines.specs.declared.events.Join.TheVariants.{Apart, Glued}
use Rattle.page_sets_lines.specs.declared.events.Role.TheVariants as roles
use Rattle.page_sets_names.specs.declared.generated_texts.GeneratedText.TheVariants.{Dash}
use Rattle.page_sets_mdoc_lines.specs.Rows.{is_parsed, line_macro, row_of}

-- what is left is no longer than the text that was read
abbrev Shrinks : {V : Type 0} → (List ℕ → Read V) → Type 0
Shrinks f = (text : List ℕ) → length (f text).rest ≤ length text

-- ---- numbers

after-digits-less : (text : List ℕ) → length (after_digits text) ≤ length text
after-digits-less text = omega (arith, length-drop (prefix_len is_digit text) text)

after-fraction-less : (text : List ℕ) → length (after_fraction text) ≤ length text
after-fraction-less [] = omega arith
after-fraction-less (b ∷ bs) = grind (arith, after-digits-less bs)

after-scale-less : (text : List ℕ) → length (after_scale text) ≤ length text
after-scale-less text = grind (arith, length-drop 1 text)

number-less : (scale : Scale) (text : List ℕ) → length (number text (number_at scale text)).rest ≤ length text
unfolding number_at
number-less scale text =
    grind (arith, after-scale-less (after_fraction (after_digits text)), after-fraction-less (after_digits text), after-digits-less text)

-- ---- operands

after-close-less : (text : List ℕ) → length (after_close text) ≤ length text
after-close-less [] = omega arith
after-close-less (b ∷ bs) = grind arith

parentheses-less : (inside : Read ℤ) → length (in_parentheses inside).rest ≤ length inside.rest
parentheses-less inside = grind (arith, after-close-less inside.rest)

-- an operand's inside leaves no more than it was given, where there may be one
abbrev Fits : Option (List ℕ → Read ℤ) → Type 0
Fits None = Unit {0}
Fits (Some inside) = Shrinks inside

inside-less : (inside : Option (List ℕ → Read ℤ)) → Fits inside → (text after : List ℕ) → length after ≤ length text
    → length (operand_inside inside text after).rest ≤ length text
inside-less None h text after less = omega arith
inside-less (Some inside) h text after less = omega (arith, parentheses-less (inside after), h after, less)

operand-less : (inside : Option (List ℕ → Read ℤ)) → Fits inside → (scale : Scale) → Shrinks (operand_by inside scale)
unfolding operand_by
operand-less inside h scale [] = omega arith
operand-less inside h scale (b ∷ bs) =
    grind (arith, operand-less inside h scale bs, inside-less inside h (b ∷ bs) bs (omega arith), number-less scale (b ∷ bs))

-- ---- operations

operator-by : {V : Type 0} (o : Option V) (n b : ℕ) (bs : List ℕ) → 0 < n
    → IfSome {T = V × List ℕ} (option_map (λ operator. (operator, drop n (b ∷ bs))) o) (λ found. length found.1 < length (b ∷ bs))
operator-by None n b bs some = tt
operator-by (Some o) n b bs some = omega (arith, length-drop n (b ∷ bs), some)

operator-len : (b : ℕ) (equal : Bool) → 0 < operator_len b equal
operator-len b equal = grind arith

operator-less : (text : List ℕ) → IfSome (operator_at text) (λ found. length found.1 < length text)
unfolding operator_at
operator-less [] = tt
operator-less (b ∷ bs) =
    operator-by (operator_named b (begins_equal bs)) (operator_len b (begins_equal bs)) b bs (operator-len b (begins_equal bs))

next-less : (ends : Bool) (text : List ℕ) → IfSome (next_operator ends text) (λ found. length found.1 < length text)
next-less true text = tt
next-less false text = operator-less text

-- with this many steps
abbrev all : (List ℕ → Read (Option ℤ)) → ℕ → Read ℤ → Read ℤ
all f n s =
    fold (λ (read : Read ℤ) operation. after_operation read operation.0 operation.1) s (operations_at f n (next_operator s.ends s.rest))

all-less : (f : List ℕ → Read (Option ℤ)) → Shrinks f → (n : ℕ) (s : Read ℤ) → length (all f n s).rest ≤ length s.rest
unfolding operations_at
all-less f h zero s = omega arith
all-less f h (suc n) s = from (next_operator s.ends s.rest) refl (next-less s.ends s.rest) (all-less f h n)
  where
    from : (o : _) → o ≡ next_operator s.ends s.rest → IfSome o (λ found. length found.1 < length s.rest)
        → ((r : Read ℤ) → length (all f n r).rest ≤ length r.rest)
        → length (fold (λ (read : Read ℤ) operation. after_operation read operation.0 operation.1) s (operations_at f (suc n) o)).rest ≤ length s.rest
    from None e g more = omega arith
    from (Some found) e g more = omega (arith, more (after_operation s found.0 (f found.1)), h found.1, g)

-- enough steps are as good as more
all-same : (f : List ℕ → Read (Option ℤ)) → Shrinks f → (n m : ℕ) (s : Read ℤ) → length s.rest < n → length s.rest < m → all f n s ≡ all f m s
unfolding operations_at
all-same f h zero m s below above = absurd (omega arith)
all-same f h (suc n) zero s below above = absurd (omega arith)
all-same f h (suc n) (suc m) s below above = from (next_operator s.ends s.rest) refl (next-less s.ends s.rest) (all-same f h n m)
  where
    from : (o : _) → o ≡ next_operator s.ends s.rest → IfSome o (λ found. length found.1 < length s.rest)
        → ((r : Read ℤ) → length r.rest < n → length r.rest < m → all f n r ≡ all f m r)
        → fold (λ (read : Read ℤ) operation. after_operation read operation.0 operation.1) s (operations_at f (suc n) o)
        ≡ fold (λ (read : Read ℤ) operation. after_operation read operation.0 operation.1) s (operations_at f (suc m) o)
    from None e g more = refl
    from (Some found) e g more =
        more (after_operation s found.0 (f found.1)) (omega (arith, h found.1, g, below)) (omega (arith, h found.1, g, above))

-- ---- expressions

expression-less : (room : ℕ) (scale : Scale) → Shrinks (expression_within room scale)
unfolding expression_within expression_by
expression-less zero scale text =
    let f = operand_by None scale in
    let less = operand-less None tt scale in
    omega (arith, all-less f less (suc (length text)) (first (f text)), less text)
expression-less (suc room) scale text =
    let f = operand_by (Some (expression_within room scale)) scale in
    let less = operand-less (Some (expression_within room scale)) (expression-less room scale) scale in
    omega (arith, all-less f less (suc (length text)) (first (f text)), less text)

of-less : (room : ℕ) (scale : Scale) → Shrinks (operand_of room scale)
of-less zero scale = operand-less None tt scale
of-less (suc room) scale = operand-less (Some (expression_within room scale)) (expression-less room scale) scale

by-room : (room : ℕ) (scale : Scale) (text : List ℕ) → expression_within room scale text ≡ expression_by (operand_of room scale) text
unfolding expression_within
by-room zero scale text = refl
by-room (suc room) scale text = refl

pub first-is : (room : ℕ) (scale : Scale) (text : List ℕ) → expression_within room scale text ≡ done room scale (first (operand_of room scale text))
unfolding expression_by
first-is room scale text =
    let f = operand_of room scale in
    let less = of-less room scale text in
    by-room room scale text
    ∙ all-same f (of-less room scale) (suc (length text)) (suc (length (f text).rest)) (first (f text)) (omega (arith, less)) (omega arith)

pub next-is : (room : ℕ) (scale : Scale) (s : Read ℤ) → MatchOption (next_operator s.ends s.rest)
    (done room scale s ≡ s) (λ found. done room scale s ≡ done room scale (after_operation s found.0 (operand_of room scale found.1)))
unfolding operations_at
next-is room scale s = from (next_operator s.ends s.rest) refl (next-less s.ends s.rest)
  where
    f : List ℕ → Read (Option ℤ)
    f = operand_of room scale

    from : (o : _) → o ≡ next_operator s.ends s.rest → IfSome o (λ found. length found.1 < length s.rest)
        → MatchOption o
        (fold (λ (read : Read ℤ) operation. after_operation read operation.0 operation.1) s (operations_at f (suc (length s.rest)) o) ≡ s)
        (λ found. fold (λ (read : Read ℤ) operation. after_operation read operation.0 operation.1) s (operations_at f (suc (length s.rest)) o)
        ≡ done room scale (after_operation s found.0 (f found.1)))
    from None e g = refl
    from (Some found) e g =
        let more = of-less room scale found.1 in
        all-same f (of-less room scale) (length s.rest) (suc (length (f found.1).rest)) (after_operation s found.0 (f found.1)) (omega (arith, more, g)) (omega arith)

-- ---- Cells of a text in columns, however many steps their definition has.

-- after a tab there is less
after_tab-less : (text : List ℕ) → 0 < length text → length (after_tab text) < length text
after_tab-less [] some = absurd (omega arith)
after_tab-less (b ∷ bs) some = grind (arith, length-drop 1 bs)

blanks-less : (text : List ℕ) → length (after_blanks text) ≤ length text
blanks-less text = omega (arith, length-drop (prefix_len (λ byte. byte == 32) text) text)

other-less : (p : Phrase (List ℕ)) → has_tab p ≡ true → length (other_cells (span p) p).text < length p.text
other-less p h =
    let at : (span p).tab < length p.text = grind (arith, nat_tests, h) in
    let rest = drop (span p).tab p.text in
    let some : 0 < length rest = omega (arith, length-drop (span p).tab p.text, at) in
    omega (arith, blanks-less (after_tab rest), after_tab-less rest some, length-drop (span p).tab p.text)

no-tab : (p : Phrase (List ℕ)) → length p.text ≤ 0 → has_tab p ≡ false
no-tab p h = grind (arith, nat_tests, h)

-- what comes first, and then this
abbrev then : EventOutcome → EventOutcome → EventOutcome
then first next = record { items = first.items ++ next.items; state = next.state }

-- enough steps are as good as more
cells-same : (n m line : ℕ) (p : Phrase (List ℕ)) (s : Formatting) → length p.text ≤ n → length p.text ≤ m
    → cells_within n line p s ≡ cells_within m line p s
unfolding cells_within
cells-same zero zero line p s below above = refl
cells-same zero (suc m) line p s below above = rw (no-tab p below) refl
cells-same (suc n) zero line p s below above = rw (no-tab p above) refl
cells-same (suc n) (suc m) line p s below above = elim (cases_Bool (has_tab p)) [
  | inl e ↦
      let less = other-less p e in
      let first = first_part (span p) line p s in
      rw e (ap (then first) (cells-same n m line (other_cells (span p) p) first.state (omega arith) (omega arith)))
  | inr e ↦ rw e refl
]

pub cells-next : (line : ℕ) (p : Phrase (List ℕ)) (s : Formatting) → cells line p s
    ≡ cond (has_tab p) (followed_by (first_part (span p) line p s) (cells line (other_cells (span p) p))) (cell line p s)
unfolding cells_within
cells-next line p s =
    cells-same (length p.text) (suc (length p.text)) line p s (omega arith) (omega arith)
    ∙ elim (cases_Bool (has_tab p)) [
      | inl e ↦
          let less = other-less p e in
          let q = other_cells (span p) p in
          let first = first_part (span p) line p s in
          rw e (ap (then first) (cells-same (length p.text) (length q.text) line q first.state (omega arith) (omega arith)))
      | inr e ↦ rw e refl
    ]

-- ---- Events are in their line, where its arguments are: helpers of proofs.

-- ---- the arguments of a line

long_enough : (prints : Bool) (text : List ℕ) → length text ≤ last_column prints text
long_enough false text = omega arith
long_enough true text = grind arith

quote_last : (text : List ℕ) (start : ℕ) → start + 1 ≡ length text → begins_quote (drop start text) ≡ true → ends_in_quote text ≡ true
quote_last [] start l h = absurd (omega (arith, l))
quote_last (byte ∷ []) zero l h = h
quote_last (byte ∷ []) (suc start) l h = absurd (omega (arith, l))
quote_last (byte ∷ next ∷ bytes) zero l h = absurd (omega (arith, l))
quote_last (byte ∷ next ∷ bytes) (suc start) l h = quote_last (next ∷ bytes) start (omega (arith, l)) h

after_quote : (text : List ℕ) (start : ℕ) → start < length text → begins_quote (drop start text) ≡ true → start + 1 + 1 ≤ last_column true text
after_quote text start w h =
    let last : start + 1 ≡ length text → ends_in_quote text ≡ true = λ l. quote_last text start l h in grind (arith, nat_tests, w, last)

-- an event in a line by its column
in_line : (line : TakenLine) (column : ℕ) (kind : EventKind (List ℕ)) → 1 ≤ column → column ≤ last_column (prints_text kind) line.text
    → IsInLine line (event_at (record { line = line.number; column = column }) kind)
in_line line column kind b e = record { number = refl; begins = b; ends = e }

-- at one of its bytes
at_byte : (line : TakenLine) (column : ℕ) → 1 ≤ column → column ≤ length line.text → AnyAt line.text (IsInLine line) (record { line = line.number; column = column })
at_byte line column b e = λ kind slices. in_line line column kind b (omega (arith, e, long_enough (prints_text kind) line.text))

bare_sits : (line : TakenLine) (start : ℕ) (text : List ℕ) → start < length line.text → IsArgument line.text (bare_argument (start + 1) text)
    → Sits line.text (IsInLine line) line.number (bare_argument (start + 1) text)
bare_sits line start text w slice =
    let any = at_byte line (start + 1) (omega arith) (omega (arith, w)) in
    record { slice = slice; first = λ kind prints. any kind; byte = λ some. any; quote = λ no. cc }

quoted_byte : (line : TakenLine) (start : ℕ) → start < length line.text → 1 ≤ length (quoted_argument (start + 1) (drop 1 (drop start line.text))).text
    → AnyAt line.text (IsInLine line) (record { line = line.number; column = start + 1 + 1 })
quoted_byte line start w some =
    let inner = drop 1 (drop start line.text) in
    at_byte line (start + 1 + 1) (omega arith) (omega (arith, some, length-take (quoted_len inner) inner, length-drop 1 (drop start line.text), length-drop start line.text))

quoted_text : (line : TakenLine) (start : ℕ) (kind : EventKind (List ℕ)) → start < length line.text → begins_quote (drop start line.text) ≡ true → prints_text kind ≡ true
    → IsInLine line (event_at (record { line = line.number; column = start + 1 + 1 }) kind)
quoted_text line start kind w h prints =
    in_line line (start + 1 + 1) kind (omega arith) (rw prints (after_quote line.text start w h))

quoted_sits : (line : TakenLine) (start : ℕ) → start < length line.text → begins_quote (drop start line.text) ≡ true
    → IsArgument line.text (quoted_argument (start + 1) (drop 1 (drop start line.text)))
    → Sits line.text (IsInLine line) line.number (quoted_argument (start + 1) (drop 1 (drop start line.text)))
quoted_sits line start w h slice =
    let e : start + 1 + 1 - 1 ≡ start + 1 = omega arith in
    record {
      slice = slice;
      first = λ kind prints slices. quoted_text line start kind w h prints;
      byte = quoted_byte line start w;
      quote = λ alone. rw e (at_byte line (start + 1) (omega arith) (omega (arith, w)));
    }

first_sits : (line : TakenLine) (start : ℕ) → start < length line.text → Sits line.text (IsInLine line) line.number (first_argument (start + 1) (drop start line.text))
first_sits line start w =
    let slice = first_slice line.text start w in
    elim (cases_Bool (begins_quote (drop start line.text))) [
      | inl t ↦ rw t (quoted_sits line start w t (rw t at slice))
      | inr t ↦ rw t (bare_sits line start (drop start line.text) w (rw t at slice))
    ]

all_from : (line : TakenLine) (n start : ℕ) (text : List ℕ) → text ≡ drop start line.text → AllSit line.text (IsInLine line) line.number (first_arguments n (start + 1) text)
all_from line zero start text e = tt
all_from line (suc n) start [] e = tt
all_from line (suc n) start (b ∷ bs) e =
    let w : start < length line.text = omega (arith, length-drop start line.text, ap length e) in
    let d : bs ≡ drop (start + 1) line.text = ap (drop 1) e ∙ drop-drop 1 start line.text in
    let len = argument_len (b ∷ bs) in
    let column : start + 1 + len ≡ start + len + 1 = omega arith in
    let rest : drop len (b ∷ bs) ≡ drop (start + len) line.text = ap (drop len) e ∙ drop-drop len start line.text in
    let first : Sits line.text (IsInLine line) line.number (first_argument (start + 1) (b ∷ bs)) =
    subst (λ l. Sits line.text (IsInLine line) line.number (first_argument (start + 1) l)) (sym e) (first_sits line start w) in
    elim (cases_Bool (is_blank b)) [
      | inl t ↦ rw t (all_from line n (start + 1) bs d)
      | inr t ↦ rw t (first, rw column (all_from line n (start + len) (drop len (b ∷ bs)) rest))
    ]

pub all_sit : (line : TakenLine) (start : ℕ) → AllSit line.text (IsInLine line) line.number (arguments_after start line.text)
unfolding arguments
all_sit line start = all_from line (length (drop start line.text)) start (drop start line.text) refl

-- ---- its name, and its start

pub start_in : (line : TakenLine) → AnyAt line.text (IsInLine line) (line_start line.number)
start_in line = λ kind slices. in_line line 1 kind (omega arith) (omega arith)

pub name_in : (line : TakenLine) → is_nameless line ≡ false → AnyAt line.text (IsInLine line) (name_place line)
name_in line h =
    let n : (before_name line.text == name_end line) ≡ false = h in
    let some : before_name line.text < length line.text = grind (arith, nat_tests) in
    at_byte line (before_name line.text + 1) (omega arith) (omega (arith, some))

-- ---- The events of each set of macros are in their line: helpers of proofs.

pub all_in_line : (set : Either) (line : TakenLine) → AreAll (IsInLine line) (either_events set line)
all_in_line set line =
    (either_lawful (IsInLine line) set line (record { start = start_in line; name = name_in line; arguments = all_sit line (name_end line) })).each

-- ---- each event of a list

each_then : (IsSo IsThen : Event (List ℕ) → Type 0) (events : List (Event (List ℕ))) → ((event : Event (List ℕ)) → IsSo event → IsThen event)
    → AreAll IsSo events → AreAll IsThen events
each_then IsSo IsThen [] f h = tt
each_then IsSo IsThen (event ∷ events) f h = (f event h.0, each_then IsSo IsThen events f h.1)

-- ---- by the limit of a line

one_more : (line : TakenLine) (event : Event (List ℕ)) → length line.text ≤ LINE → IsInLine line event → event.place.column ≤ LINE + 1
one_more line event l h =
    let e = h.ends in grind (arith, l, e)

pub all_one_more : (set : Either) (line : TakenLine) → length line.text ≤ LINE → AreAll (λ event. event.place.column ≤ LINE + 1) (either_events set line)
all_one_more set line l = each_then (IsInLine line) _ (either_events set line) (λ event h. one_more line event l h) (all_in_line set line)

-- so no limit above it changes a column
pub all_same : (set : Either) (line : TakenLine) → length line.text ≤ LINE → AreAll (λ event. min event.place.column (LINE + 1) ≡ event.place.column) (either_events set line)
all_same set line l = each_then _ _ (either_events set line) (λ event h. omega (arith, h)) (all_one_more set line l)

-- ---- A line whose last event is at the column after its last byte: helpers of proofs.

quote_len : (blanks : ℕ) → length (quote_after blanks) ≡ suc blanks
quote_len zero = refl
quote_len (suc blanks) = ap suc (quote_len blanks)

-- a quote at the end of a line is an argument without bytes
quote_argument : (blanks column last : ℕ) → column + blanks + 1 ≡ last
    → first_arguments (suc blanks) column (quote_after blanks) ≡ record { text = []; column = last; quoting = Unclosed } ∷ []
quote_argument zero column last h =
    let e : column + 1 ≡ last = omega (arith, h) in
    rw e refl
quote_argument (suc blanks) column last h = quote_argument blanks (column + 1) last (omega (arith, h))

flag_argument : (number blanks : ℕ) → arguments_after 3 (flag_line number blanks).text ≡ last_argument (flag_line number blanks) ∷ []
unfolding arguments
flag_argument number blanks =
    let l = quote_len blanks in
    rw l (quote_argument blanks 4 _ (omega (arith, l)))

before_flag : (number blanks : ℕ) → before_name (flag_line number blanks).text ≡ 1
before_flag number blanks = omega arith

flag_end : (number blanks : ℕ) → name_end (flag_line number blanks) ≡ 3
flag_end number blanks = omega (arith, before_flag number blanks)

-- ---- a line with that name and that argument

abbrev empty_word : ℕ → Argument (List ℕ)
empty_word column = record { text = []; column = column; quoting = Unclosed }

abbrev flag_parts : ℕ → LineParts
flag_parts column = record { taken = None; words = empty_word column ∷ []; calls = []; tail = [] }

abbrev unclosed_flag : ℕ → ℕ → List (Event (List ℕ))
unclosed_flag number column =
    generated_word (word_place number (empty_word column)) Dash (Some B) Apart Glued
    ∷ word_event number roles.Argument (Some B) Apart Apart (empty_word column)
    ∷ line_end number true
    ∷ []

parted : (column : ℕ) (parsed : Bool) → parts (Some inlines.Flag) parsed (empty_word column ∷ []) ≡ flag_parts column
unfolding word_delimiter word_call is_closing takes_next
parted column true = refl
parted column false = refl

flag_macro : line_macro (codes "Fl") ≡ Some (lines.Inline inlines.Flag)
unfolding row_of
flag_macro = refl

line_parted : (line : TakenLine) (column : ℕ) → line_arguments line ≡ empty_word column ∷ [] → line_parts (Some inlines.Flag) line ≡ flag_parts column
line_parted line column h = rw h (parted column (is_parsed (name_of line)))

parted_events : (line : TakenLine) (column : ℕ)
    → head_events line inlines.Flag (flag_parts column) ++ (line_end line.number true ∷ []) ≡ unclosed_flag line.number column
unfolding is_real word_delimiter
parted_events line column = refl

named_flag : (line : TakenLine) (column : ℕ) → is_nameless line ≡ false → name_of line ≡ codes "Fl" → line_arguments line ≡ empty_word column ∷ []
    → control_events line ≡ unclosed_flag line.number column
named_flag line column n name h =
    let by_name : named_events (line_macro (name_of line)) line ≡ named_events (Some (lines.Inline inlines.Flag)) line =
    ap (λ found. named_events found line) (ap line_macro name ∙ flag_macro) in
    let by_parts : named_events (Some (lines.Inline inlines.Flag)) line ≡ head_events line inlines.Flag (flag_parts column) ++ (line_end line.number true ∷ []) =
    ap (λ these. head_events line inlines.Flag these ++ (line_end line.number true ∷ [])) (line_parted line column h) in
    rw n (by_name ∙ by_parts ∙ parted_events line column)

flag_named : (number blanks : ℕ) → is_nameless (flag_line number blanks) ≡ false
flag_named number blanks = rw (flag_end number blanks, before_flag number blanks) refl

flag_name : (number blanks : ℕ) → name_of (flag_line number blanks) ≡ codes "Fl"
flag_name number blanks = rw (flag_end number blanks, before_flag number blanks) refl

flag_arguments : (number blanks : ℕ) → line_arguments (flag_line number blanks) ≡ last_argument (flag_line number blanks) ∷ []
flag_arguments number blanks = rw (flag_end number blanks) (flag_argument number blanks)

pub flag_reached : (number blanks : ℕ) → mdoc_events (flag_line number blanks) ≡ flag_events (flag_line number blanks)
unfolding mdoc_events
flag_reached number blanks =
    named_flag (flag_line number blanks) _ (flag_named number blanks) (flag_name number blanks) (flag_arguments number blanks)
