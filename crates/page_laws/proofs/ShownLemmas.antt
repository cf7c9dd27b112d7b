-- Names and counts that have the room of a machine: what they would be without it.
use Rattle.std.proofs.Common.{◌≡◌, ℕ, ◌+◌, ◌-◌, ◌<◌, ◌≤◌, ◌^◌, List, length, arith, [], ◌∷◌, take, Option, None, Some, option_map, refl, ap, ◌++◌, drop, get_or, sym, ◌∙◌, subst, lt-ltb, zero, suc, ◌==◌, ◌&&◌, ◌||◌, not, nat_lt, nat_le, Bool, true, false, map, flat_map, replicate, inl, inr, cond, ◌%◌, ◌/◌, codes, decimal, append_assoc}
use Rattle.std.proofs.lemmas.List.{take_all, length-take, take_more, drop_more, take-append-drop, length-map, length-take-le}
use Rattle.page_core_base.specs.Limits.{NAME, CELLS}
use Rattle.page_core_base.specs.declared.page_settings.Output.{Output}
use Rattle.page_roff_effects.specs.States.{sum_of_counts}
use Rattle.page_roff_source.specs.Runs.{SourceLine, first_edge, done}
use Rattle.page_roff_source.proofs.CountLemmas.{lines_bound, lines_expansions}
use Rattle.page_roff_syntax.specs.Arguments.{NAME_ROOM, argument_name, argument_value}
use Rattle.page_roff_syntax.specs.declared.quotes.Argument.{Argument}
use Rattle.page_core_tables.specs.Glyphs.{Symbol, glyph_of, glyph_printed, symbol_printed, is_control}
use mathlib.Core.List.{map-append}
use Rattle.page_core_base.specs.declared.faults.Fault.{Fault}
use Rattle.page_core_base.specs.Messages.{IsSinkFault, Message, level_name, level_of, text_of}
use Rattle.page_core_base.specs.Rows.{Laid, join, nothing, LaidRow, row_of, seq, Item}
use Rattle.page_core_base.specs.laws.Views.{IsSink, is_printable}
use Rattle.page_roff_lines.specs.Lines.{Line}
use Rattle.page_engine.specs.machine.PageSinks as by_line
use Rattle.page_engine.specs.Edges.{Edge}
use Rattle.page_engine.specs.laws.Views.{IsReached, counts_at, Came, Front}
use Rattle.page_engine.specs.Page.{settled, edge}
use Rattle.page_engine.specs.laws.States.{PageState, IsOpenAt, line_fault}
use Rattle.page_roff_source.specs.declared.counts.Counts.{Counts}
use Rattle.page_engine.specs.Runs.{Sinks}
use Rattle.page_laws.specs.declared.feeding.Numbered.{Numbered}
use Rattle.page_laws.specs.Fed.{line_given, lines_given}
use Rattle.std.specs.List.{All, list_all}
use Rattle.std.specs.Bool.{⊤}
use Rattle.std.proofs.lemmas.Bool.{cases_Bool, and_parts, and_from}
use Rattle.std.proofs.lemmas.List.Elements.{All-nil, All-cons, All-head, All-tail, All-append, All-push, All-take, All-drop, All-replicate, All-map}
use Rattle.std.proofs.lemmas.List.Sums.{AllPass-from_list_all}
use Rattle.page_core_base.specs.declared.cells.Cell.{Cell}
use Rattle.page_core_base.specs.declared.places.Place.{Place}
use Rattle.page_fill_rows.specs.OpenRows.{Sheet, with_notes}
use Rattle.page_fill.specs.Filled.{CellOrNote, shown, noted, RowWord, counted, with_cell, opens, before_word, row_begun, row_ended, full_row_ended, first_word, WordOutcome, fits, too_wide, too_many, after_note, outcome, by_word, by_blanks, one_word, rest_of_word, filling}
use Rattle.page_fill_cells.specs.Cells.{blank, cell_columns, columns}
use Rattle.page_laws.specs.Shown.{AreShown, AreShownRows, IsMessageText}
use Rattle.std.specs.Fmt.{digit_glyph, digits_onto, digits}
use Rattle.std.proofs.lemmas.Bool.Decides.{nat_tests}
use Rattle.std.proofs.lemmas.List.Folds.{list_all-append}
use Rattle.page_core_base.specs.Bytes.{ascii}
use Rattle.page_core_base.specs.Texts.{is_no_control, has_no_control}
use Rattle.page_core_base.specs.declared.note_kinds.Level.{Level}
use Rattle.page_core_base.specs.declared.note_kinds.Level.TheVariants.{Base, Style, Warning, Error, Unsupp}
use Rattle.page_core_base.specs.declared.note_kinds.NoteKind.{NoteKind}
use Rattle.page_core_base.specs.declared.note_kinds.NoteKind.TheVariants.{TrailingBlank, MissingTitle, UnknownSection, MissingDate, MissingOs, LateMacro, NoBody, BeforeSection, SkipPara, LineScope, EmptyMacro, BadNest, BlankFill, TabFill, UndefString, UndefEscape, BadEscape, NoGlyph, UnknownFont, Unterminated, MissingWidth, BadChar, UnknownMacro, ItemOutside, NotOpen, FewerRs, MissingEnd, ArgOutside, NotNumeric, DivZero, NoListType, MissingName, BadCondition, Loop, Limit, UnsuppRequest, UnsuppEscape, Table}
use Rattle.page_core_streams.specs.Streams.{detail_bytes, parts_bytes}

pub short-name : (argument : Argument (List ℕ)) → length (argument_value argument) ≤ NAME → argument_name argument ≡ argument_value argument
short-name argument h = take_all NAME_ROOM (argument_value argument) (omega (arith, h))

pub long-name : (argument : Argument (List ℕ)) → NAME < length (argument_value argument) → NAME < length (argument_name argument)
long-name argument h = omega (arith, h, length-take NAME_ROOM (argument_value argument))

pub plain-sum : (a b : ℕ) → a < 2 ^ 64 → sum_of_counts a b < 2 ^ 64 - 1 → sum_of_counts a b ≡ a + b
plain-sum a b room less = omega (arith, room, less)

pub page-count : (output : Output) (lines : List SourceLine) → length lines ≤ 2 ^ 31 → (done (first_edge output) lines).memory.expansions < 2 ^ 64 - 1
page-count output lines few =
    omega (arith, few, lines_bound (first_edge output) lines, lines_expansions (first_edge output) lines)

-- ---- The names of glyphs, whose first 64 bytes say all.

-- a name of a glyph has two bytes
same-glyph : (name : List ℕ) → glyph_of (take 64 name) ≡ glyph_of name
unfolding glyph_of
same-glyph [] = refl
same-glyph (a ∷ []) = refl
same-glyph (a ∷ b ∷ []) = refl
same-glyph (a ∷ b ∷ c ∷ name) = refl

take-twice : (name : List ℕ) → take 64 (take 64 name) ≡ take 64 name
take-twice name = take_all 64 (take 64 name) (omega (arith, length-take 64 name))

by-symbol : (output : Output) (name : List ℕ) (symbol : Option Symbol)
    → (symbol_printed output (take 64 name) symbol).characters ≡ (symbol_printed output name symbol).characters
by-symbol output name None = refl
by-symbol output name (Some symbol) = refl

unknown-by : (output : Output) (name : List ℕ) (symbol : Option Symbol)
    → option_map (take 64) (symbol_printed output (take 64 name) symbol).unknown ≡ option_map (take 64) (symbol_printed output name symbol).unknown
unknown-by output name None = ap Some (take-twice name)
unknown-by output name (Some symbol) = refl

pub same-characters : (output : Output) (name : List ℕ) → (glyph_printed output (take 64 name)).characters ≡ (glyph_printed output name).characters
same-characters output name = rw (same-glyph name) (by-symbol output name (glyph_of name))

pub same-unknown : (output : Output) (name : List ℕ)
    → option_map (take 64) (glyph_printed output (take 64 name)).unknown ≡ option_map (take 64) (glyph_printed output name).unknown
same-unknown output name = rw (same-glyph name) (unknown-by output name (glyph_of name))

-- ---- What lines so far, and one more, did.

pub record HasFed {R N : Type 0} (k : Sinks R N) (r r' : R) (n n' : N) (e : Edge) (lines : List Line) (p : PageState) : Type 0 where
  pub came : Came k r r' n n' (settled e lines)
  pub at : IsOpenAt p (edge e lines)

-- ---- sinks

pub came_none : {R N E : Type 0} (k : Sinks R N) → IsSink k.to.row_gave k.to.row_within → IsSink k.to.note_gave k.to.note_within
    → (r : R) (n : N) (e : E) → Came k r r n n (nothing e)
came_none k rl nl r n e = record { gave = record { rows = rl.none r; notes = nl.none n }; rows_quiet = refl; notes_quiet = refl }

pub came_more : {R N E F : Type 0} (k : Sinks R N) → IsSink k.to.row_gave k.to.row_within → IsSink k.to.note_gave k.to.note_within
    → (r s t : R) (n m o : N) (a : Laid E) (b : Laid F) → Came k r s n m a → Came k s t m o b → Came k r t n o (join a b)
came_more k rl nl r s t n m o a b x y = record {
  gave = record { rows = rl.more r s t a.rows b.rows x.gave.rows y.gave.rows; notes = nl.more n m o a.notes b.notes x.gave.notes y.gave.notes };
  rows_quiet = y.rows_quiet ∙ x.rows_quiet;
  notes_quiet = y.notes_quiet ∙ x.notes_quiet;
}

cause_at : (fault : Fault) (a a' b c c' d : ℕ) → a' ≡ a → c' ≡ c → IsSinkFault fault a' b c' d → IsSinkFault fault a b c d
cause_at fault a a' b c c' d e f h = subst (λ (x : ℕ). IsSinkFault fault x b c d) e (subst (λ (y : ℕ). IsSinkFault fault a' b y d) f h)

pub front_more : {R N E F : Type 0} (k : Sinks R N) → IsSink k.to.row_gave k.to.row_within → IsSink k.to.note_gave k.to.note_within
    → (r s t : R) (n m o : N) (a : Laid E) (b : Laid F) (fault : Fault) → Came k r s n m a → Front k s t m o b fault → Front k r t n o (join a b) fault
front_more k rl nl r s t n m o a b fault x y = record {
  gave = record { rows = rl.after r s t a.rows b.rows x.gave.rows y.gave.rows; notes = nl.after n m o a.notes b.notes x.gave.notes y.gave.notes };
  cause = cause_at fault _ _ _ _ _ _ x.rows_quiet x.notes_quiet y.cause;
}

pub front_before : {R N E F : Type 0} (k : Sinks R N) → IsSink k.to.row_gave k.to.row_within → IsSink k.to.note_gave k.to.note_within
    → (r s : R) (n m : N) (a : Laid E) (b : Laid F) (fault : Fault) → Front k r s n m a fault → Front k r s n m (join a b) fault
front_before k rl nl r s n m a b fault x = record {
  gave = record { rows = rl.before r s a.rows b.rows x.gave.rows; notes = nl.before n m a.notes b.notes x.gave.notes };
  cause = x.cause;
}

-- ---- lines

pub none_fed : {R N : Type 0} (k : Sinks R N) → IsSink k.to.row_gave k.to.row_within → IsSink k.to.note_gave k.to.note_within
    → ((e : Edge) (lines : List Line) → IsReached e → settled e lines ≡ by_line.settled e lines)
    → (r : R) (n : N) (e : Edge) (p : PageState) → IsOpenAt p e → HasFed k r r n n e [] p
unfolding by_line.settled
none_fed k rl nl law r n e p o =
    let none : settled e [] ≡ nothing e = law e [] o.reached in record {
      came = subst (λ (l : Laid Edge). Came k r r n n l) (sym none) (came_none k rl nl r n e);
      at = subst (λ (l : Laid Edge). IsOpenAt p l.edge) (sym none) o;
    }

given_more : (given : List Numbered) (i : ℕ) (d : Numbered) → i < length given
    → lines_given (take (i + 1) given) ≡ lines_given (take i given) ++ line_given (get_or given i d) ∷ []
given_more given i d h = ap lines_given (take_more given i d h) ∙ map-append line_given (take i given) (get_or given i d ∷ [])

pub one_fed : {R N : Type 0} (k : Sinks R N) → IsSink k.to.row_gave k.to.row_within → IsSink k.to.note_gave k.to.note_within
    → ((e : Edge) (above below : List Line) → IsReached e → settled e (above ++ below) ≡ join (settled e above) (settled (edge e above) below))
    → (r s t : R) (n m o : N) (e : Edge) (p p' : PageState) (given : List Numbered) (i : ℕ) (d : Numbered) → i < length given → IsReached e
    → HasFed k r s n m e (lines_given (take i given)) p
    → Came k s t m o (settled (edge e (lines_given (take i given))) (line_given (get_or given i d) ∷ []))
    → IsOpenAt p' (edge (edge e (lines_given (take i given))) (line_given (get_or given i d) ∷ []))
    → HasFed k r t n o e (lines_given (take (i + 1) given)) p'
one_fed k rl nl law r s t n m o e p p' given i d h reached x y at =
    let above = lines_given (take i given) in
    let line = line_given (get_or given i d) ∷ [] in
    let all : settled e (lines_given (take (i + 1) given)) ≡ join (settled e above) (settled (edge e above) line) =
    ap (λ (l : List Line). settled e l) (given_more given i d h) ∙ law e above line reached in record {
      came = subst (λ (l : Laid Edge). Came k r t n o l) (sym all) (came_more k rl nl r s t n m o (settled e above) (settled (edge e above) line) x.came y);
      at = subst (λ (l : Laid Edge). IsOpenAt p' l.edge) (sym all) at;
    }

-- ---- the next line

source_so_far : ((e : Edge) (lines : List Line) → (counts_at (edge e lines)).source ≡ (counts_at e).source + length lines)
    → (e : Edge) (given : List Numbered) (i : ℕ) → i < length given → (counts_at (edge e (lines_given (take i given)))).source ≡ (counts_at e).source + i
source_so_far law e given i h =
    law e (lines_given (take i given))
    ∙ ap (λ (n : ℕ). (counts_at e).source + n) (length-map (take i given) line_given ∙ length-take-le i given (omega arith))

pub takes_one : ((e : Edge) (lines : List Line) → (counts_at (edge e lines)).source ≡ (counts_at e).source + length lines)
    → (e : Edge) (p q : PageState) (given : List Numbered) (i : ℕ) → IsOpenAt p e → p.counts.source + length given ≤ 2 ^ 31 - 1 → i < length given
    → IsOpenAt q (edge e (lines_given (take i given))) → line_fault q ≡ None
takes_one law e p q given i o room h at =
    let before : q.counts.source ≡ (counts_at e).source + i = ap (λ (c : Counts). c.source) at.counts ∙ source_so_far law e given i h in
    let few : q.counts.source < 2 ^ 31 - 1 = omega (arith, before, ap (λ (c : Counts). c.source) o.counts, room, h) in
    rw (at.phase, lt-ltb q.counts.source (2 ^ 31 - 1) few) refl

-- a sink failed at a line: a front of all that the list settles came
given_parts : (given : List Numbered) (i : ℕ) (d : Numbered) → i < length given
    → lines_given given ≡ lines_given (take i given) ++ line_given (get_or given i d) ∷ lines_given (drop (i + 1) given)
given_parts given i d h =
    ap lines_given (sym (take-append-drop i given) ∙ ap (λ (l : List Numbered). take i given ++ l) (drop_more given i d h))
    ∙ map-append line_given (take i given) (get_or given i d ∷ drop (i + 1) given)

pub part_fed : {R N : Type 0} (k : Sinks R N) → IsSink k.to.row_gave k.to.row_within → IsSink k.to.note_gave k.to.note_within
    → ((e : Edge) (above below : List Line) → IsReached e → settled e (above ++ below) ≡ join (settled e above) (settled (edge e above) below))
    → (r s t : R) (n m o : N) (e : Edge) (p : PageState) (given : List Numbered) (i : ℕ) (d : Numbered) (fault : Fault) → i < length given → IsReached e
    → HasFed k r s n m e (lines_given (take i given)) p
    → Front k s t m o (settled (edge e (lines_given (take i given))) (line_given (get_or given i d) ∷ [])) fault
    → Front k r t n o (settled e (lines_given given)) fault
part_fed k rl nl law r s t n m o e p given i d fault h reached x y =
    let above = lines_given (take i given) in
    let line = line_given (get_or given i d) ∷ [] in
    let below = lines_given (drop (i + 1) given) in
    let first : settled (edge e above) (line ++ below) ≡ join (settled (edge e above) line) (settled (edge (edge e above) line) below) = law (edge e above) line below x.at.reached in
    let all : settled e (lines_given given) ≡ join (settled e above) (join (settled (edge e above) line) (settled (edge (edge e above) line) below)) =
    ap (λ (l : List Line). settled e l) (given_parts given i d h) ∙ (law e above (line ++ below) reached ∙ ap (λ (l : Laid Edge). join (settled e above) l) first) in
    subst (λ (l : Laid Edge). Front k r t n o l fault) (sym all)
    (front_more k rl nl r s t n m o (settled e above) (join (settled (edge e above) line) (settled (edge (edge e above) line) below)) fault x.came
    (front_before k rl nl s t m o (settled (edge e above) line) (settled (edge (edge e above) line) below) fault y))

-- ---- Filling makes rows without control characters, whatever it fills them with.

abbrev pub IsShownCell : Cell → Type 0
IsShownCell cell = is_control cell.c ≡ false

abbrev pub IsShownRow : LaidRow → Type 0
IsShownRow row = AreShown row.cells

-- ---- rows

-- rows without control characters, and the open row has none
pub record Shows (l : Laid Sheet) : Type 0 where
  pub rows : AreShownRows l.rows
  pub cells : AreShown l.edge.cells

pub nothing-shows : (s : Sheet) → AreShown s.cells → Shows (nothing s)
nothing-shows s h = record { rows = All-nil IsShownRow; cells = h }

pub seq-shows : (l : Laid Sheet) (f : Sheet → Laid Sheet) → Shows l → ((s : Sheet) → AreShown s.cells → Shows (f s)) → Shows (seq l f)
seq-shows l f h next =
    let then = next l.edge h.cells in
    record { rows = All-append IsShownRow l.rows (f l.edge).rows h.rows then.rows; cells = then.cells }

notes-show : (notes : List Message) (l : Laid Sheet) → Shows l → Shows (with_notes notes l)
notes-show notes l h = record { rows = h.rows; cells = h.cells }

pub ended-shows : (s : Sheet) (cells : List Cell) → AreShown cells → Shows (row_ended s cells)
ended-shows s cells h = record { rows = All-cons IsShownRow (row_of s.margin cells) [] h (All-nil IsShownRow); cells = All-nil IsShownCell }

full-shows : (s : Sheet) (cells : List Cell) (place : Place) → AreShown cells → Shows (full_row_ended s cells place)
full-shows s cells place h = record { rows = All-cons IsShownRow (row_of s.margin cells) [] h (All-nil IsShownRow); cells = All-nil IsShownCell }

-- ---- content

abbrev pub IsShownContent : CellOrNote → Type 0
IsShownContent (shown cell place) = is_control cell.c ≡ false
IsShownContent (noted m) = ⊤

abbrev pub AreShownParts : List CellOrNote → Type 0
AreShownParts content = All IsShownContent content

one-cell : (cell : Cell) → is_control cell.c ≡ false → AreShown (cell ∷ [])
one-cell cell h = All-cons IsShownCell cell [] h (All-nil IsShownCell)

first-shows : (s : Sheet) (content : List CellOrNote) → AreShown s.cells → AreShownParts content → Shows (first_word s content)
unfolding first_word
first-shows s [] h c = nothing-shows s h
first-shows s (noted m ∷ content) h c = notes-show (m ∷ []) (first_word s content) (first-shows s content h (All-tail IsShownContent (noted m) content c))
first-shows s (shown cell place ∷ content) h c =
    let head : is_control cell.c ≡ false = All-head IsShownContent (shown cell place) content c in
    let rest = All-tail IsShownContent (shown cell place) content c in
    elim (cases_Bool (length s.cells == CELLS)) [
      | inl full ↦ rw full (seq-shows (full_row_ended s s.cells place) (λ t. first_word (row_begun (counted t cell) (cell ∷ [])) content)
          (full-shows s s.cells place h) (λ t k. first-shows (row_begun (counted t cell) (cell ∷ [])) content (one-cell cell head) rest))
      | inr room ↦ rw room (elim (cases_Bool (length s.cells == 0)) [
        | inl none ↦ rw none (first-shows (row_begun (counted s cell) (cell ∷ [])) content (one-cell cell head) rest)
        | inr some ↦ rw some (first-shows (with_cell s cell) content (All-push IsShownCell s.cells cell h head) rest)
      ])
    ]

-- ---- what a word does in a row

abbrev IsShownOutcome : WordOutcome → Type 0
IsShownOutcome (fits notes taken) = AreShown taken.cells
IsShownOutcome (too_wide taken) = AreShown taken.cells
IsShownOutcome (too_many notes taken place left) = AreShown taken.cells × AreShownParts left

after-note : (m : Message) (o : WordOutcome) → IsShownOutcome o → IsShownOutcome (after_note m o)
after-note m (fits notes taken) h = h
after-note m (too_wide taken) h = h
after-note m (too_many notes taken place left) h = h

outcome-shown : (s : Sheet) (content : List CellOrNote) → AreShown s.cells → AreShownParts content → IsShownOutcome (outcome s content)
unfolding outcome
outcome-shown s [] h c = h
outcome-shown s (noted m ∷ content) h c = after-note m (outcome s content) (outcome-shown s content h (All-tail IsShownContent (noted m) content c))
outcome-shown s (shown cell place ∷ content) h c =
    let head : is_control cell.c ≡ false = All-head IsShownContent (shown cell place) content c in
    let rest = All-tail IsShownContent (shown cell place) content c in
    elim (cases_Bool (not s.literal && nat_lt s.width (s.margin + columns s.cells + cell_columns cell))) [
      | inl wide ↦ rw wide h
      | inr narrow ↦ rw narrow (elim (cases_Bool (length s.cells == CELLS)) [
        | inl full ↦ rw full (h, c)
        | inr room ↦ rw room (outcome-shown (with_cell s cell) content (All-push IsShownCell s.cells cell h head) rest)
      ])
    ]

-- ---- words

word-shows : (s : Sheet) (content : List CellOrNote) (o : WordOutcome) → AreShown s.cells → AreShownParts content → IsShownOutcome o → Shows (by_word s content o)
word-shows s content (fits notes taken) h c o = notes-show notes (nothing taken) (nothing-shows taken o)
word-shows s content (too_wide taken) h c o =
    let cells = drop s.word s.cells in
    seq-shows (row_ended s (before_word s)) (λ t. first_word (cond (length cells == 0) t (row_begun t cells)) content)
    (ended-shows s (before_word s) (All-take IsShownCell s.gap s.cells h))
    (λ t k. elim (cases_Bool (length cells == 0)) [
      | inl none ↦ rw none (first-shows t content k c)
      | inr some ↦ rw some (first-shows (row_begun t cells) content (All-drop IsShownCell s.word s.cells h) c)
    ])
word-shows s content (too_many notes taken place left) h c o =
    let row = seq (full_row_ended taken taken.cells place) (λ t. first_word t left) in
    notes-show notes row (seq-shows (full_row_ended taken taken.cells place) (λ t. first_word t left) (full-shows taken taken.cells place o.0)
    (λ t k. first-shows t left k o.1))

blanks-show : (content : List CellOrNote) (o : WordOutcome) → AreShownParts content → IsShownOutcome o → Shows (by_blanks content o)
blanks-show content (fits notes taken) c o =
    let s = record taken { word = length taken.cells } in
    word-shows s content (outcome s content) o c (outcome-shown s content o c)
blanks-show content (too_wide taken) c o =
    seq-shows (row_ended taken (before_word taken)) (λ t. first_word t content)
    (ended-shows taken (before_word taken) (All-take IsShownCell taken.gap taken.cells o)) (λ t k. first-shows t content k c)
blanks-show content (too_many notes taken place left) c o =
    seq-shows (full_row_ended taken (before_word taken) place) (λ t. first_word t content)
    (full-shows taken (before_word taken) place (All-take IsShownCell taken.gap taken.cells o.0)) (λ t k. first-shows t content k c)

abbrev pub IsShownWord : RowWord → Type 0
IsShownWord word = AreShownParts word.content

one-shows : (s : Sheet) (word : RowWord) → AreShown s.cells → IsShownWord word → Shows (one_word s word)
one-shows s word h c =
    elim (cases_Bool (length s.cells == 0)) [
      | inl none ↦ rw none (first-shows (opens s) word.content h c)
      | inr some ↦ rw some (blanks-show word.content (outcome (opens s) (replicate word.blanks (shown blank word.place))) c
          (outcome-shown (opens s) (replicate word.blanks (shown blank word.place)) h (All-replicate IsShownContent word.blanks (shown blank word.place) refl)))
    ]

pub rest-shows : (s : Sheet) (content : List CellOrNote) → AreShown s.cells → AreShownParts content → Shows (rest_of_word s content)
rest-shows s content h c =
    elim (cases_Bool (s.gap == 0)) [
      | inl first ↦ rw first (first-shows s content h c)
      | inr later ↦ rw later (word-shows s content (outcome s content) h c (outcome-shown s content h c))
    ]

pub filling-shows : (s : Sheet) (words : List RowWord) → AreShown s.cells → All IsShownWord words → Shows (filling s words)
unfolding filling
filling-shows s [] h c = nothing-shows s h
filling-shows s (word ∷ words) h c =
    notes-show word.notes (seq (one_word s word) (λ t. filling t words))
    (seq-shows (one_word s word) (λ t. filling t words) (one-shows s word h (All-head IsShownWord word words c))
    (λ t k. filling-shows t words k (All-tail IsShownWord word words c)))

-- ---- The bytes of a message without control characters.

abbrev are_printable : List ℕ → Bool
are_printable bytes = list_all is_printable bytes

-- ---- printable bytes, and what follows them

-- after a byte that begins no control character
after-byte : (before : ℕ) (bytes : List ℕ) → (before == 0xC2) ≡ false → has_no_control 0 bytes ≡ true → has_no_control before bytes ≡ true
after-byte before [] other h = refl
after-byte before (byte ∷ bytes) other h = rw other h

printable-plain : (before byte : ℕ) → (before == 0xC2) ≡ false → is_printable byte ≡ true → is_no_control before byte ≡ true
printable-plain before byte other h = grind (arith, nat_tests, other, h)

printable-begins-none : (byte : ℕ) → is_printable byte ≡ true → (byte == 0xC2) ≡ false
printable-begins-none byte h = grind (arith, nat_tests, h)

printable-then : (front rest : List ℕ) (before : ℕ) → are_printable front ≡ true → (before == 0xC2) ≡ false → has_no_control 0 rest ≡ true
    → has_no_control before (front ++ rest) ≡ true
printable-then [] rest before h other plain = after-byte before rest other plain
printable-then (byte ∷ front) rest before h other plain =
    let parts = and_parts (is_printable byte) (are_printable front) h in
    and_from (is_no_control before byte) (has_no_control byte (front ++ rest)) (printable-plain before byte other parts.0)
    (printable-then front rest byte parts.1 (printable-begins-none byte parts.0) plain)

both : (a b : List ℕ) → are_printable a ≡ true → are_printable b ≡ true → are_printable (a ++ b) ≡ true
both a b h k = list_all-append is_printable a b ∙ and_from (are_printable a) (are_printable b) h k

-- ---- numbers

digit-printable : (n : ℕ) → is_printable (digit_glyph false (n % 10)) ≡ true
digit-printable n = grind (arith, nat_tests)

digits-printable : (k n : ℕ) (after : List ℕ) → are_printable after ≡ true → are_printable (digits_onto k 10 false n after) ≡ true
digits-printable zero n after h = h
digits-printable (suc k) n after h =
    let more = and_from (is_printable (digit_glyph false (n % 10))) (are_printable after) (digit-printable n) h in
    elim (cases_Bool (n / 10 == 0)) [
      | inl last ↦ rw last more
      | inr other ↦ rw other (digits-printable k (n / 10) (digit_glyph false (n % 10) ∷ after) more)
    ]

decimal-printable : (n : ℕ) → are_printable (decimal n) ≡ true
unfolding digits
decimal-printable n = digits-printable 64 n [] refl

-- ---- the table of kinds

level-printable : (level : Level) → are_printable (level_name level) ≡ true
level-printable Base = refl
level-printable Style = refl
level-printable Warning = refl
level-printable Error = refl
level-printable Unsupp = refl

kind-printable : (kind : NoteKind) → are_printable (text_of kind) ≡ true
kind-printable TrailingBlank = refl
kind-printable MissingTitle = refl
kind-printable UnknownSection = refl
kind-printable MissingDate = refl
kind-printable MissingOs = refl
kind-printable LateMacro = refl
kind-printable NoBody = refl
kind-printable BeforeSection = refl
kind-printable SkipPara = refl
kind-printable LineScope = refl
kind-printable EmptyMacro = refl
kind-printable BadNest = refl
kind-printable BlankFill = refl
kind-printable TabFill = refl
kind-printable UndefString = refl
kind-printable UndefEscape = refl
kind-printable BadEscape = refl
kind-printable NoGlyph = refl
kind-printable UnknownFont = refl
kind-printable Unterminated = refl
kind-printable MissingWidth = refl
kind-printable BadChar = refl
kind-printable UnknownMacro = refl
kind-printable ItemOutside = refl
kind-printable NotOpen = refl
kind-printable FewerRs = refl
kind-printable MissingEnd = refl
kind-printable ArgOutside = refl
kind-printable NotNumeric = refl
kind-printable DivZero = refl
kind-printable NoListType = refl
kind-printable MissingName = refl
kind-printable BadCondition = refl
kind-printable Loop = refl
kind-printable Limit = refl
kind-printable UnsuppRequest = refl
kind-printable UnsuppEscape = refl
kind-printable Table = refl

-- ---- messages

detail-plain : (detail : List ℕ) → has_no_control 0 detail ≡ true → has_no_control 0 (detail_bytes detail) ≡ true
detail-plain [] h = refl
detail-plain (byte ∷ bytes) h = printable-then (codes ": ") (byte ∷ bytes) 0 refl refl h

pub shown-plain : (is_plain : Bool) (detail : List ℕ) → has_no_control 0 detail ≡ is_plain → has_no_control 0 (cond is_plain detail []) ≡ true
shown-plain true detail h = h
shown-plain false detail h = refl

-- a message whose detail has no control character but the tab
pub parts-text : (file : List ℕ) (m : Message) (detail : List ℕ) → has_no_control 0 detail ≡ true
    → IsMessageText file (parts_bytes file (decimal m.line) (decimal m.column) (level_name (level_of m.kind)) (text_of m.kind) detail)
parts-text file m detail h =
    let line = decimal m.line in
    let column = decimal m.column in
    let level = level_name (level_of m.kind) in
    let text = text_of m.kind in
    let end = text ++ detail_bytes detail in
    let named = level ++ (58 ∷ 32 ∷ end) in
    let placed = column ++ (58 ∷ 32 ∷ named) in
    let all = 58 ∷ (line ++ (58 ∷ placed)) in
    let end-plain = printable-then text (detail_bytes detail) 0 (kind-printable m.kind) refl (detail-plain detail h) in
    let named-plain = printable-then level (58 ∷ 32 ∷ end) 0 (level-printable (level_of m.kind)) refl (printable-then (58 ∷ 32 ∷ []) end 0 refl refl end-plain) in
    let placed-plain = printable-then column (58 ∷ 32 ∷ named) 0 (decimal-printable m.column) refl (printable-then (58 ∷ 32 ∷ []) named 0 refl refl named-plain) in
    let line-plain = printable-then line (58 ∷ placed) 0 (decimal-printable m.line) refl (printable-then (58 ∷ []) placed 0 refl refl placed-plain) in
    record {
      text = all;
      parts = ap (λ l. codes "mandoc: " ++ (file ++ l)) (ends line column level text (detail_bytes detail));
      plain = printable-then (58 ∷ []) (line ++ (58 ∷ placed)) 0 refl refl line-plain;
    }
  where
    -- the line feed is at the end of all
    ends : (line column level text detail : List ℕ)
        → 58 ∷ (line ++ (58 ∷ (column ++ (58 ∷ 32 ∷ (level ++ (58 ∷ 32 ∷ (text ++ (detail ++ codes "\n"))))))))
        ≡ (58 ∷ (line ++ (58 ∷ (column ++ (58 ∷ 32 ∷ (level ++ (58 ∷ 32 ∷ (text ++ detail)))))))) ++ codes "\n"
    ends line column level text detail = rw (
      append_assoc line (58 ∷ (column ++ (58 ∷ 32 ∷ (level ++ (58 ∷ 32 ∷ (text ++ detail)))))) (codes "\n"),
      append_assoc column (58 ∷ 32 ∷ (level ++ (58 ∷ 32 ∷ (text ++ detail)))) (codes "\n"),
      append_assoc level (58 ∷ 32 ∷ (text ++ detail)) (codes "\n"),
      append_assoc text detail (codes "\n"),
    ) refl
