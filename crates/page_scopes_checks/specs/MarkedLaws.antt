-- The small set keeps the laws of macro sets: proofs, which the set's laws cite.
use Rattle.std.proofs.Common.{ℕ, ◌+◌, ◌*◌, ◌≤◌, Bool, true, false, List, [], ◌∷◌, length, arith, inl, inr, Option, None, Some, codes}
use Rattle.std.specs.Str.{bytes_eq}
use Rattle.std.proofs.lemmas.Bool.{cases_Bool}
use Rattle.page_core_base.specs.Texts.{TakenLine}
use Rattle.page_roff_syntax.specs.declared.quotes.Argument.{Argument}
use Rattle.page_sets_lines.specs.declared.plain_lines.PlainLine.{PlainLine}
use Rattle.page_sets_lines.specs.laws.Sets.{HasSlices, AreSlices, AreInOrder}
use Rattle.page_sets_lines.specs.Lines.{name_end, name_of, is_nameless, arguments_after, plain_line}
use Rattle.page_sets_lines.proofs.ArgumentLaws.{ArgumentsFrom, all_after, earlier, few_after, end_within, name_part, line_slices, line_order}
use Rattle.page_scopes_checks.specs.declared.marked.MarkedPlace.{MarkedPlace}
use Rattle.page_scopes_checks.specs.declared.marked.MarkedPlace.TheVariants as places
use Rattle.page_scopes_checks.specs.Marked.{italic_words, quotation, events_from, FitsPlace, macro_place, control_place, place_of, marked_events}

-- ---- a place is of its line

macro_fits : (line : TakenLine) → FitsPlace line (macro_place (name_of line) line.text (name_end line))
unfolding macro_place
macro_fits line =
    elim (cases_Bool (bytes_eq (name_of line) (codes "I"))) [
      | inl t ↦ rw t (end_within line)
      | inr t ↦
          rw t (elim (cases_Bool (bytes_eq (name_of line) (codes "Open"))) [
            | inl s ↦ rw s tt
            | inr s ↦
                rw s (elim (cases_Bool (bytes_eq (name_of line) (codes "Close"))) [
                  | inl r ↦ rw r tt
                  | inr r ↦ rw r tt
                ])
          ])
    ]

pub control_fits : (line : TakenLine) → FitsPlace line (control_place line)
control_fits line =
    elim (cases_Bool (is_nameless line)) [
      | inl t ↦ rw t tt
      | inr t ↦ rw t (macro_fits line)
    ]

pub place_fits : (line : TakenLine) (plain : Option PlainLine) → FitsPlace line (place_of line plain)
place_fits line None = control_fits line
place_fits line (Some plain) = tt

-- ---- slices

words_slices : (line : List ℕ) (number from : ℕ) (arguments : List (Argument (List ℕ))) (filled : Bool)
    → ArgumentsFrom line from arguments → AreSlices line (italic_words number arguments filled)
words_slices line number from [] filled h = (tt, tt)
words_slices line number from (argument ∷ arguments) filled h =
    (h.1, words_slices line number (argument.column + length argument.text) arguments filled h.2)

quotation_slices : (line : List ℕ) (begins : Bool) → HasSlices line (quotation begins)
quotation_slices line true = tt
quotation_slices line false = tt

pub place_slices : (line : TakenLine) (place : MarkedPlace) → FitsPlace line place → AreSlices line.text (events_from line place)
place_slices line (places.Plain plain) fits = (line_slices plain line.text, (tt, tt))
place_slices line places.Unknown fits = (name_part line, (tt, tt))
place_slices line (places.Quotation begins) fits = (quotation_slices line.text begins, (tt, tt))
place_slices line (places.Words rest filled) fits =
    words_slices line.text line.number (rest + 1) (arguments_after rest line.text) filled (all_after line.text rest)
place_slices line (places.End filled) fits = (tt, tt)
place_slices line places.Nothing fits = tt

pub marked_slices : (line : TakenLine) → AreSlices line.text (marked_events line)
marked_slices line =
    let plain = plain_line line.form line.text in
    place_slices line (place_of line plain) (place_fits line plain)

-- ---- order

words_order : (line : List ℕ) (number from : ℕ) (arguments : List (Argument (List ℕ))) (filled : Bool)
    → ArgumentsFrom line from arguments → AreInOrder from (italic_words number arguments filled)
words_order line number from [] filled h = (tt, tt)
words_order line number from (argument ∷ arguments) filled h =
    (h.0, words_order line number (argument.column + length argument.text) arguments filled h.2)

quotation_order : (begins : Bool) (line : TakenLine) → AreInOrder 0 (events_from line (places.Quotation begins))
quotation_order true line = (tt, (tt, tt))
quotation_order false line = (tt, (tt, tt))

plain_order : (line : TakenLine) (plain : PlainLine) → AreInOrder 0 (events_from line (places.Plain plain))
plain_order line plain = (line_order plain line.text, (tt, tt))

place_order : (line : TakenLine) (place : MarkedPlace) → AreInOrder 0 (events_from line place)
place_order line (places.Plain plain) = plain_order line plain
place_order line places.Unknown = (tt, (tt, tt))
place_order line (places.Quotation begins) = quotation_order begins line
place_order line (places.Words rest filled) =
    let arguments = arguments_after rest line.text in
    words_order line.text line.number 0 arguments filled (earlier line.text 0 (rest + 1) arguments (omega arith) (all_after line.text rest))
place_order line (places.End filled) = (tt, tt)
place_order line places.Nothing = tt

pub marked_in_order : (line : TakenLine) → AreInOrder 0 (marked_events line)
marked_in_order line = place_order line (place_of line (plain_line line.form line.text))

-- ---- few

few_words : (number : ℕ) (arguments : List (Argument (List ℕ))) (filled : Bool) → length (italic_words number arguments filled) ≤ length arguments + 1
few_words number [] filled = omega arith
few_words number (argument ∷ arguments) filled = let f = few_words number arguments filled in omega (arith, f)

few_from : (line : TakenLine) (place : MarkedPlace) → length (events_from line place) ≤ 2 * length line.text + 2
few_from line (places.Plain plain) = omega arith
few_from line places.Unknown = omega arith
few_from line (places.Quotation begins) = omega arith
few_from line (places.Words rest filled) =
    let f = few_after line.text rest in
    let w = few_words line.number (arguments_after rest line.text) filled in
    omega (arith, f, w)
few_from line (places.End filled) = omega arith
few_from line places.Nothing = omega arith

pub marked_few : (line : TakenLine) → length (marked_events line) ≤ 2 * length line.text + 2
marked_few line = few_from line (place_of line (plain_line line.form line.text))
