-- What the bytes of a page settle, part by part, and a run that takes them: a page has at most a line for each of its bytes, also with the line that is open.
use Rattle.std.proofs.Common.{◌≡◌, ℕ, ◌+◌, ◌<◌, ◌≤◌, ◌-◌, ◌^◌, None, Bool, true, false, List, [], ◌∷◌, length, refl, ap, ◌∙◌, sym, arith, length-append, ◌++◌, Result, Ok, Err, take, drop, append_assoc, append-nil, inl, inr, OnOk, subst}
use Rattle.std.specs.Prelude.{if◌then◌else◌, ◌==◌}
use Rattle.std.proofs.lemmas.Bool.{lt-ltb}
use Rattle.std.proofs.lemmas.List.{take-append-drop}
use Rattle.page_core_base.specs.Messages.{Message, IsSinkFault}
use Rattle.page_core_base.specs.Rows.{LaidRow, Laid, Gave, join, nothing}
use Rattle.page_core_base.specs.laws.Views.{IsSink, FailsAs, Gives}
use Rattle.page_core_base.specs.declared.faults.Fault.{Fault}
use Rattle.page_core_base.specs.declared.faults.Fault.TheVariants.{WriteText, WriteNotes, Memory, Read, TooLong, Settings, Failed, Ended, BadIndex}
use Rattle.page_core_base.specs.declared.page_settings.Encoding.{Encoding}
use Rattle.page_core_base.specs.declared.page_settings.Settings.{Settings as PageSettings}
use Rattle.page_core_streams.specs.Streams.{SourceState}
use Rattle.page_roff_lines.specs.Lines.{Line, lines, whole_lines, lines_made, line_left}
use Rattle.page_roff_lines.specs.laws.Views.{newline}
use Rattle.page_roff_lines.specs.laws.Cutting.{Point, IsAfter, first_point, point_after, lines_within, last_line, line_of, line_at, next_point, point_at, end_point}
use Rattle.page_roff_lines.specs.machine.Open.{Open, restart, put, put_plain, put_pair, put_in, close, without_return, newline_in, put_newline, put_byte, count_byte, ends_mark, next_open, end_open}
use Rattle.page_roff_lines.specs.declared.Mode.{Mode}
use Rattle.page_roff_lines.specs.declared.Mode.TheVariants.{Plain, Backslash, Comment, Dropped}
use Rattle.page_roff_lines.proofs.LineAgreement.{lines-one_by_one}
use Rattle.page_roff_lines.proofs.PointLemmas.{lines_within-append, point_after-append}
use Rattle.page_roff_lines.proofs.WholeLemmas.{whole-is, made-is, left-is}
use Rattle.page_roff_source.specs.declared.counts.Counts.{Counts}
use Rattle.page_engine.specs.Edges.{Edge, start}
use Rattle.page_engine.specs.Page.{edge, settled, page}
use Rattle.page_engine.specs.Runs.{Sinks, AllCame, FrontCame, RunsOver, Whole, Broken, BrokeIn, whole_page, settled_page, settled_by, page_rest}
use Rattle.page_engine.specs.declared.pages.Phase.{Phase}
use Rattle.page_engine.specs.declared.pages.Phase.TheVariants.{Open as open_phase}
use Rattle.page_engine.specs.declared.runs.Outcome.{Outcome}
use Rattle.page_engine.specs.declared.runs.Run.{Run}
use Rattle.page_engine.specs.laws.Reads.{RunState, HasTaken, Fed, BrokeAt}
use Rattle.page_engine.specs.laws.States.{PageState, IsOpenAt, line_fault}
use Rattle.page_engine.specs.laws.Views.{IsReached, counts_at, Came, Front}
use Rattle.page_engine.specs.machine.PageSinks.{cause_later}
use Rattle.page_engine.specs.machine.Steps.{state_of, HasRoom, CanTake, Through, PartBroke, PutsOut, no_more}
use Rattle.page_engine.proofs.Items.{source_more}
use Rattle.page_engine.proofs.WholeLines.{at_most, consumed_more, settled-append, page-append, settled_none, start_reached}

-- ---- a line that is whole has not begun again

abbrev IsClosed : Open → Type 0
IsClosed o = o.whole ≡ true → o.begun ≡ false

either : (P : Open → Type 0) (c : Bool) (x y : Open) → P x → P y → P (if c then x else y)
either P true x y a b = a
either P false x y a b = b

not_both : (w : Bool) → w ≡ false → w ≡ true → ⊥
not_both w f t = let no : false ≡ true = sym f ∙ t in cc

free_closed : (o : Open) → o.whole ≡ false → IsClosed o
free_closed o f = λ t. absurd (not_both o.whole f t)

restart_at : (o : Open) (w : Bool) → o.whole ≡ w → (restart o).whole ≡ false
unfolding restart
restart_at o true is = rw is refl
restart_at o false is = rw is refl

restart_free : (o : Open) → (restart o).whole ≡ false
restart_free o = restart_at o o.whole refl

restart_begun : (o : Open) → (restart o).begun ≡ o.begun
unfolding restart
restart_begun o = either (λ x. x.begun ≡ o.begun) o.whole _ o refl refl

in_whole : (m : Mode) (r : Bool) (o : Open) (b : ℕ) → (put_in m r o b).whole ≡ o.whole
unfolding put_in put_plain put_pair put
in_whole Plain r o b = refl
in_whole Backslash true o b = refl
in_whole Backslash false o b = either (λ x. x.whole ≡ o.whole) _ _ _ refl refl
in_whole Comment r o b = refl
in_whole Dropped r o b = refl

return_whole : (o : Open) → (without_return o).whole ≡ o.whole
unfolding without_return
return_whole o = either (λ x. x.whole ≡ o.whole) o.after_return _ o refl refl

newline_closed : (m : Mode) (o : Open) → o.whole ≡ false → IsClosed (newline_in m o)
unfolding newline_in close
newline_closed Backslash o f = λ t. absurd (not_both o.whole f t)
newline_closed Dropped o f = λ t. absurd (not_both o.whole f t)
newline_closed _ o f = λ t. refl

put_newline_closed : (o : Open) → o.whole ≡ false → IsClosed (put_newline o)
unfolding put_newline
put_newline_closed o f = newline_closed o.mode (without_return o) (return_whole o ∙ f)

put_closed : (c : Bool) (o : Open) (b : ℕ) → o.whole ≡ false → IsClosed (put_byte c o b)
unfolding put_byte
put_closed true o b f = λ t. refl
put_closed false o b f =
    let kept = put_in o.mode o.after_return o b in
    either IsClosed (b == newline) (put_newline o) kept (put_newline_closed o f)
    (free_closed kept (in_whole o.mode o.after_return o b ∙ f))

next_closed : (o : Open) (b : ℕ) → IsClosed (next_open o b)
unfolding next_open count_byte
next_closed o b = put_closed (ends_mark o.mark b) (count_byte (restart o) b) b (restart_free o)

-- ---- at most one line a byte

end_free : (o : Open) → o.begun ≡ false → (end_open o).whole ≡ false
unfolding end_open
end_free o f = let g = restart_begun o ∙ f in rw g (restart_free o)

one_at_most : (p : Point) → length (line_at p) ≤ 1
unfolding line_at
one_at_most p = at_most p.line.whole (line_of p)

no_line_at : (p : Point) → p.line.whole ≡ false → line_at p ≡ []
unfolding line_at
no_line_at p f = rw f refl

no_last_line : (p : Point) → p.line.begun ≡ false → last_line p ≡ []
unfolding end_point point_at
no_last_line p f = no_line_at (end_point p) (end_free p.line f)

one_of_both : (p : Point) (w : Bool) → p.line.whole ≡ w → IsClosed p.line → length (line_at p) + length (last_line p) ≤ 1
one_of_both p true is closed = let z : length (last_line p) ≡ 0 = ap length (no_last_line p (closed is)) in omega (arith, one_at_most p, z)
one_of_both p false is closed = let z : length (line_at p) ≡ 0 = ap length (no_line_at p is) in omega (arith, z, one_at_most (end_point p))

one_more : (p : Point) (b : ℕ) → length (line_at (next_point p b)) + length (last_line (next_point p b)) ≤ 1
unfolding next_point point_at
one_more p b = one_of_both (next_point p b) (next_open p.line b).whole refl (next_closed p.line b)

pub lines_most : (p : Point) (bytes : List ℕ)
    → length (lines_within p bytes) + length (last_line (point_after p bytes)) ≤ length bytes + length (last_line p)
unfolding lines_within point_after
lines_most p [] = omega arith
lines_most p (b ∷ bs) =
    let q = next_point p b in
    omega (arith, length-append (line_at q) (lines_within q bs), one_more p b, lines_most q bs)

-- no line is open before the first byte
pub first_none : (e : Encoding) → last_line (first_point e) ≡ []
first_none e = no_last_line (first_point e) refl

-- ---- What bytes settle, part by part.

made_parts : (set : Encoding) (before xs ys : List ℕ) → lines_made set before (xs ++ ys) ≡ lines_made set before xs ++ lines_made set (before ++ xs) ys
made_parts set before xs ys =
    let p = point_after (first_point set) before in
    let more = made-is set (before ++ xs) ys ∙ ap (λ (q : Point). lines_within q ys) (point_after-append (first_point set) before xs) in
    made-is set before (xs ++ ys) ∙ lines_within-append p xs ys
    ∙ sym (ap (λ (l : List Line). l ++ lines_made set (before ++ xs) ys) (made-is set before xs) ∙ ap (λ (l : List Line). lines_within p xs ++ l) more)

whole_parts : (set : Encoding) (before own : List ℕ) → whole_lines set (before ++ own) ≡ whole_lines set before ++ lines_made set before own
whole_parts set before own =
    let p = first_point set in
    whole-is set (before ++ own) ∙ lines_within-append p before own
    ∙ sym (ap (λ (l : List Line). l ++ lines_made set before own) (whole-is set before) ∙ ap (λ (l : List Line). lines_within p before ++ l) (made-is set before own))

line_parts : (set : Encoding) (bytes : List ℕ) → lines set bytes ≡ whole_lines set bytes ++ line_left set bytes
line_parts set bytes =
    lines-one_by_one set bytes
    ∙ sym (ap (λ (l : List Line). l ++ line_left set bytes) (whole-is set bytes) ∙ ap (λ (l : List Line). lines_within (first_point set) bytes ++ l) (left-is set bytes))

pub page_more : (s : PageSettings) (before own : List ℕ) → settled_page s (before ++ own) ≡ join (settled_page s before) (settled_by s before own)
page_more s before own =
    ap (settled (start s)) (whole_parts s.encoding before own)
    ∙ settled-append (start s) (whole_lines s.encoding before) (lines_made s.encoding before own) (start_reached s)

pub page_whole : (s : PageSettings) (bytes : List ℕ) → whole_page s bytes ≡ join (settled_page s bytes) (page_rest s bytes)
page_whole s bytes =
    ap (page (start s)) (line_parts s.encoding bytes)
    ∙ page-append (start s) (whole_lines s.encoding bytes) (line_left s.encoding bytes) (start_reached s)

pub edge_more : (s : PageSettings) (before own : List ℕ) → (settled_page s (before ++ own)).edge ≡ (settled_by s before own).edge
edge_more s before own = ap (λ (l : Laid Edge). l.edge) (page_more s before own)

made_more : (s : PageSettings) (before xs ys : List ℕ) → IsReached (settled_page s before).edge
    → settled_by s before (xs ++ ys) ≡ join (settled_by s before xs) (settled_by s (before ++ xs) ys)
made_more s before xs ys reached =
    let e = (settled_page s before).edge in
    let ls = lines_made s.encoding before xs in
    let ms = lines_made s.encoding (before ++ xs) ys in
    ap (settled e) (made_parts s.encoding before xs ys) ∙ settled-append e ls ms reached
    ∙ ap (λ (f : Edge). join (settled e ls) (settled f ms)) (sym (edge_more s before xs))

none_made : (s : PageSettings) (before : List ℕ) → lines_made s.encoding before [] ≡ []
unfolding lines_within
none_made s before = made-is s.encoding before []

made_none : (s : PageSettings) (before : List ℕ) → IsReached (settled_page s before).edge → settled_by s before [] ≡ nothing (settled_page s before).edge
made_none s before reached = ap (settled (settled_page s before).edge) (none_made s before) ∙ settled_none (settled_page s before).edge reached

pub bytes_none : (s : PageSettings) → settled_page s [] ≡ nothing (start s)
unfolding lines_within
bytes_none s = ap (settled (start s)) (whole-is s.encoding []) ∙ settled_none (start s) (start_reached s)

-- ---- the lines of bytes

pub made_lines : (s : PageSettings) (before own : List ℕ) (q : Point) (b : Bool) (line : Line) → IsAfter q s.encoding before
    → lines_within q own ≡ (if b then line ∷ [] else []) → lines_made s.encoding before own ≡ (if b then line ∷ [] else [])
made_lines s before own q b line h f = made-is s.encoding before own ∙ (ap (λ (p : Point). lines_within p own) (sym h) ∙ f)

pub left_line : (s : PageSettings) (bytes : List ℕ) (q end : Point) (b : Bool) (line : Line) → IsAfter q s.encoding bytes → end ≡ end_point q
    → line_at end ≡ (if b then line ∷ [] else []) → line_left s.encoding bytes ≡ (if b then line ∷ [] else [])
left_line s bytes q end b line h is f =
    left-is s.encoding bytes ∙ (ap last_line (sym h) ∙ (ap line_at (sym is) ∙ f))

pub point_more : (s : PageSettings) (before own : List ℕ) (q : Point) → IsAfter q s.encoding before → IsAfter (point_after q own) s.encoding (before ++ own)
point_more s before own q h = ap (λ (p : Point). point_after p own) h ∙ sym (point_after-append (first_point s.encoding) before own)

pub consumed_is : (s : PageSettings) (bytes : List ℕ) (q : Point) → IsAfter q s.encoding bytes → q.line.consumed ≡ length bytes
consumed_is s bytes q h =
    let none : (first_point s.encoding).line.consumed ≡ 0 = refl in
    omega (arith, none, ap (λ (p : Point). p.line.consumed) h, consumed_more (first_point s.encoding) bytes)

pub source_is : (c : Counts) (s : PageSettings) (all : List Line) → c ≡ counts_at (edge (start s) all) → c.source ≡ length all
source_is c s all h =
    let none : (counts_at (start s)).source ≡ 0 = refl in
    omega (arith, none, ap (λ (c : Counts). c.source) h, source_more (start s) all)

lines_few : (s : PageSettings) (bytes : List ℕ) → length (whole_lines s.encoding bytes) + length (line_left s.encoding bytes) ≤ length bytes
lines_few s bytes =
    let e = s.encoding in
    omega (arith, ap length (whole-is e bytes), ap length (left-is e bytes), lines_most (first_point e) bytes, ap length (first_none e))

may_take : (p : PageState) (s : PageSettings) (bytes : List ℕ) → IsOpenAt p (settled_page s bytes).edge
    → length (whole_lines s.encoding bytes) < 2 ^ 31 - 1 → line_fault p ≡ None
may_take p s bytes h few =
    let source = source_is p.counts s (whole_lines s.encoding bytes) h.counts in
    rw (h.phase, lt-ltb p.counts.source (2 ^ 31 - 1) (omega (arith, source, few))) refl

-- a page takes the next line of its bytes, and the last one
pub may_take_made : (p : PageState) (s : PageSettings) (before own : List ℕ) → IsOpenAt p (settled_page s before).edge
    → length (lines_made s.encoding before own) ≡ 1 → length before + length own < 2 ^ 31 → line_fault p ≡ None
may_take_made p s before own h one few =
    let e = s.encoding in
    let all = ap length (whole_parts e before own) ∙ length-append (whole_lines e before) (lines_made e before own) in
    may_take p s before h (omega (arith, all, one, few, lines_few s (before ++ own), length-append before own))

pub may_take_left : (p : PageState) (s : PageSettings) (bytes : List ℕ) → IsOpenAt p (settled_page s bytes).edge
    → length (line_left s.encoding bytes) ≡ 1 → length bytes < 2 ^ 31 → line_fault p ≡ None
may_take_left p s bytes h one few = may_take p s bytes h (omega (arith, one, few, lines_few s bytes))

-- ---- two things, one after the other

pub both_within : {R N E F : Type 0} {rg rw_ : R → List LaidRow → R → Type 0} {ng nw : N → List Message → N → Type 0} → IsSink rg rw_ → IsSink ng nw
    → {r a : R} {n b : N} (a' : R) (b' : N) (x : Laid E) (y : Laid F) → Gave rg ng r a n b x → Gave rw_ nw a a' b b' y → Gave rw_ nw r a' n b' (join x y)
both_within k l {r} {a} {n} {b} a' b' x y g h =
    record { rows = k.after r a a' x.rows y.rows g.rows h.rows; notes = l.after n b b' x.notes y.notes g.notes h.notes }

pub came_both : {R N E F : Type 0} (k : Sinks R N) → IsSink k.to.row_gave k.to.row_within → IsSink k.to.note_gave k.to.note_within
    → {r a r' : R} {n b n' : N} (x : Laid E) (y : Laid F) → Came k r a n b x → Came k a r' b n' y → Came k r r' n n' (join x y)
came_both k rows notes {r} {a} {r'} {n} {b} {n'} x y c d = record {
  gave = record {
    rows = rows.more r a r' x.rows y.rows c.gave.rows d.gave.rows;
    notes = notes.more n b n' x.notes y.notes c.gave.notes d.gave.notes;
  };
  rows_quiet = d.rows_quiet ∙ c.rows_quiet;
  notes_quiet = d.notes_quiet ∙ c.notes_quiet;
}

pub front_both : {R N E F : Type 0} (k : Sinks R N) → IsSink k.to.row_gave k.to.row_within → IsSink k.to.note_gave k.to.note_within
    → {r a r' : R} {n b n' : N} (x : Laid E) (y : Laid F) (fault : Fault) → Came k r a n b x → Front k a r' b n' y fault → Front k r r' n n' (join x y) fault
front_both k rows notes {r' = r'} {n' = n'} x y fault c d = record {
  gave = both_within rows notes r' n' x y c.gave d.gave;
  cause = cause_later fault _ _ _ _ _ _ c.rows_quiet c.notes_quiet d.cause;
}

pub came_none : {R N E : Type 0} (k : Sinks R N) → IsSink k.to.row_gave k.to.row_within → IsSink k.to.note_gave k.to.note_within
    → (r : R) (n : N) (e : E) → Came k r r n n (nothing e)
came_none k rows notes r n e = record { gave = record { rows = rows.none r; notes = notes.none n }; rows_quiet = refl; notes_quiet = refl }

-- ---- A run part by part.

pub through_none : {R N : Type 0} (k : Sinks R N) → IsSink k.to.row_gave k.to.row_within → IsSink k.to.note_gave k.to.note_within
    → (run : Run) (r : R) (n : N) → run.cutter.ready ≡ false → Through k run run r r n n []
unfolding point_after
through_none k rows notes run r n free = record {
  fed = λ s before h. record {
    came = rw (made_none s before h.page.reached) (came_none k rows notes r n (settled_page s before).edge);
    taken = rw append-nil h;
  };
  point = refl;
  free = free;
}

pub through_more : {R N : Type 0} (k : Sinks R N) → IsSink k.to.row_gave k.to.row_within → IsSink k.to.note_gave k.to.note_within
    → {run mid run' : Run} {r a a' : R} {n b b' : N} (xs ys : List ℕ)
    → Through k run mid r a n b xs → Through k mid run' a a' b b' ys → Through k run run' r a' n b' (xs ++ ys)
through_more k rows notes {run} xs ys f g = record {
  fed = λ s before h.
      let x = f.fed s before h in
      let y = g.fed s (before ++ xs) x.taken in record {
        came = rw (made_more s before xs ys h.page.reached) (came_both k rows notes (settled_by s before xs) (settled_by s (before ++ xs) ys) x.came y.came);
        taken = rw (← append_assoc before xs ys) y.taken;
      };
  point = g.point ∙ (ap (λ p. point_after p ys) f.point ∙ sym (point_after-append run.cutter.point xs ys));
  free = g.free;
}

-- what is held inside of a run that takes bytes
pub taken_inside : {phase : Phase} {x : RunState} (run : Run) (s : PageSettings) (bytes : List ℕ)
    → record { phase = phase; page = run.page; point = run.cutter.point } ≡ x → HasTaken x s bytes → HasTaken (state_of run) s bytes
taken_inside run s bytes is h =
    let i = subst (λ (y : RunState). HasTaken y s bytes) (sym is) h in
    record { phase = refl; page = i.page; point = i.point }

pub room_inside : {phase : Phase} (run : Run) (left : ℕ) → phase ≡ open_phase → HasRoom phase run left → HasRoom open_phase run left
room_inside run left is room = rw is at room

-- how many bytes more it may have taken
pub room_left : (run : Run) (left : ℕ) (s : PageSettings) (bytes : List ℕ) → HasTaken (state_of run) s bytes → HasRoom open_phase run left
    → length bytes + left ≡ 2 ^ 31 - 1
room_left run left s bytes h room = omega (arith, room.1, consumed_is s bytes run.cutter.point h.point)

pub room_after : {R N : Type 0} {k : Sinks R N} {run mid : Run} {r a : R} {n b : N} (xs : List ℕ) (count more : ℕ) → Through k run mid r a n b xs
    → CanTake run count → length xs + more ≤ count → CanTake mid more
room_after {run = run} xs count more t c h = record {
  free = t.free;
  room = omega (arith, c.room, h, ap (λ p. p.line.consumed) t.point, consumed_more run.cutter.point xs);
}

-- ---- what waits is put out

-- nothing waits in either
pub both_out : (res : Result (Unit {0}) Fault) (P Q : Type 0) → P → OnOk res Q → OnOk res (P × Q)
both_out (Ok _) P Q p q = (p, q)
both_out (Err fault) P Q p q = tt

-- both sinks in turn, where the rows were put out, and where they were not
pub rows_out : {R N : Type 0} (k : Sinks R N) → ((r r' : R) (xs : List LaidRow) → k.to.row_gave r xs r' → k.to.row_within r xs r')
    → (r r' : R) (n n' : N) (y : Result (Unit {0}) Fault) → k.to.row_gave r [] r' → k.rows_failed r' ≡ k.rows_failed r
    → Gives y k.to.note_gave k.to.note_within n [] n' → FailsAs WriteNotes y (k.notes_failed n) (k.notes_failed n')
    → PutsOut y k r r' n n'
rows_out k v r r' n n' (Ok _) g f h e = record { gave = record { rows = g; notes = h }; rows_quiet = f; notes_quiet = e }
rows_out k v r r' n n' (Err fault) g f h e = record { gave = record { rows = v r r' [] g; notes = h }; cause = rw e.0 e.1 }

pub rows_broke : {R N : Type 0} (k : Sinks R N) → ((n n' : N) (xs : List Message) → k.to.note_gave n xs n' → k.to.note_within n xs n')
    → (r r' : R) (n n' : N) (fault : Fault) (y : Result (Unit {0}) Fault) → k.to.row_within r [] r'
    → FailsAs WriteText (Err fault) (k.rows_failed r) (k.rows_failed r') → Gives y k.to.note_gave k.to.note_within n [] n'
    → PutsOut (Err fault) k r r' n n'
rows_broke k w r r' n n' fault (Ok _) g f h = record { gave = record { rows = g; notes = w n n' [] h }; cause = rw f.0 f.1 }
rows_broke k w r r' n n' fault (Err other) g f h = record { gave = record { rows = g; notes = h }; cause = rw f.0 f.1 }

-- what came, and then nothing more
pub came_out : {R N E : Type 0} (k : Sinks R N) → IsSink k.to.row_gave k.to.row_within → IsSink k.to.note_gave k.to.note_within
    → {r a a' : R} {n b b' : N} (laid : Laid E) → Came k r a n b laid → Came k a a' b b' no_more → Came k r a' n b' laid
came_out k rows notes {r} {a} {a'} {n} {b} {b'} laid c d =
    let all = came_both k rows notes laid no_more c d in
    record { gave = record { rows = rw append-nil at all.gave.rows; notes = rw append-nil at all.gave.notes }; rows_quiet = all.rows_quiet; notes_quiet = all.notes_quiet }

pub front_out : {R N E : Type 0} (k : Sinks R N) → IsSink k.to.row_gave k.to.row_within → IsSink k.to.note_gave k.to.note_within
    → {r a a' : R} {n b b' : N} (laid : Laid E) (fault : Fault) → Came k r a n b laid → Front k a a' b b' no_more fault → Front k r a' n b' laid fault
front_out k rows notes {r} {a} {a'} {n} {b} {b'} laid fault c d =
    let all = front_both k rows notes laid no_more fault c d in
    record { gave = record { rows = rw append-nil at all.gave.rows; notes = rw append-nil at all.gave.notes }; cause = all.cause }

-- after a piece
pub piece_out : {R N : Type 0} (k : Sinks R N) → IsSink k.to.row_gave k.to.row_within → IsSink k.to.note_gave k.to.note_within
    → {run : RunState} {r a a' : R} {n b b' : N} (s : PageSettings) (before xs : List ℕ)
    → Fed k r a n b s before xs run → Came k a a' b b' no_more → Fed k r a' n b' s before xs run
piece_out k rows notes s before xs f d = record { came = came_out k rows notes (settled_by s before xs) f.came d; taken = f.taken }

pub piece_kept : {R N : Type 0} (k : Sinks R N) {run : RunState} {r a a' : R} {n b b' : N} (s : PageSettings) (before xs : List ℕ) (fault : Fault)
    → Fed k r a n b s before xs run → Front k a a' b b' no_more fault → BrokeAt k r a' n b' s before xs fault
piece_kept k {a = a} {b = b} s before xs fault f d = record {
  before = xs;
  own = [];
  left = [];
  parts = sym (append-nil xs);
  rows = a;
  notes = b;
  whole = f.came;
  one = rw (none_made s (before ++ xs)) (omega arith);
  front = rw (made_none s (before ++ xs) f.taken.page.reached) record { gave = record { rows = d.gave.rows; notes = d.gave.notes }; cause = d.cause };
}

-- ---- chunks of what was read

pub all_done : (xs ys zs : List ℕ) → xs ≡ ys ++ zs → length zs ≤ 0 → xs ≡ ys
all_done xs ys [] h n = h ∙ append-nil ys
all_done xs ys (z ∷ zs) h n = absurd (omega arith)

pub part_of : (xs ys zs : List ℕ) (n : ℕ) → xs ≡ ys ++ zs → xs ≡ (ys ++ take n zs) ++ drop n zs
part_of xs ys zs n h = h ∙ (ap (λ l. ys ++ l) (sym (take-append-drop n zs)) ∙ sym (append_assoc ys (take n zs) (drop n zs)))

-- a sink failed in the rest of a chunk
pub part_broke : {R N : Type 0} (k : Sinks R N) {r a r' : R} {n b n' : N} (s : PageSettings) (before chunk done rest : List ℕ) (fault : Fault)
    → chunk ≡ done ++ rest → Came k r a n b (settled_by s before done) → PartBroke k a r' b n' s (before ++ done) rest fault
    → BrokeAt k r r' n n' s before chunk fault
part_broke k {a = a} {b = b} s before chunk done rest fault parts came p = record {
  before = done;
  own = take p.count rest;
  left = drop p.count rest;
  parts = parts ∙ ap (λ l. done ++ l) (sym (take-append-drop p.count rest));
  rows = a;
  notes = b;
  whole = came;
  one = p.one;
  front = p.front;
}

-- ---- The causes of faults, from sinks to what lies below them.

-- sinks over what lies below them: what comes to the sinks comes there, where a fact of the sink of messages stays, and they fail as it does
pub record LieOver {R N W V : Type 0} (k : Sinks R N) (i : Sinks W V) (f : R → W) (g : N → V) (P : N → Type 0) : Type 0 where
  pub rows : (x y : R) (l : List LaidRow) → k.to.row_gave x l y → i.to.row_gave (f x) l (f y)
  pub rows_front : (x y : R) (l : List LaidRow) → k.to.row_within x l y → i.to.row_within (f x) l (f y)
  pub notes : (x y : N) (l : List Message) → P x → k.to.note_gave x l y → i.to.note_gave (g x) l (g y)
  pub notes_front : (x y : N) (l : List Message) → P x → k.to.note_within x l y → i.to.note_within (g x) l (g y)
  pub stays : (x y : N) (l : List Message) → P x → k.to.note_gave x l y → P y
  pub rows_failed : (x : R) → k.rows_failed x ≡ i.rows_failed (f x)
  pub notes_failed : (x : N) → k.notes_failed x ≡ i.notes_failed (g x)

module _ {R N W V : Type 0} (k : Sinks R N) (i : Sinks W V) (f : R → W) (g : N → V) (P : N → Type 0) (o : LieOver k i f g P) where
  all_on : {E : Type 0} (r r' : R) (n n' : N) (l : Laid E) → P n → AllCame k.to r r' n n' l → AllCame i.to (f r) (f r') (g n) (g n') l
  all_on r r' n n' l p h = record { rows = o.rows r r' l.rows h.rows; notes = o.notes n n' l.notes p h.notes }

  front_on : {E : Type 0} (r r' : R) (n n' : N) (l : Laid E) → P n → FrontCame k.to r r' n n' l → FrontCame i.to (f r) (f r') (g n) (g n') l
  front_on r r' n n' l p h = record { rows = o.rows_front r r' l.rows h.rows; notes = o.notes_front n n' l.notes p h.notes }

  whole_on : (r r' : R) (n n' : N) (s : PageSettings) (bytes : List ℕ) (after : _) (out : Outcome) → P n
      → Whole (λ l. AllCame k.to r r' n n' l) s bytes after out → Whole (λ l. AllCame i.to (f r) (f r') (g n) (g n') l) s bytes after out
  whole_on r r' n n' s bytes after out p h = record {
    gave = all_on r r' n n' (whole_page s bytes) p h.gave;
    worst = h.worst;
    source = h.source;
    counts = h.counts;
    good = h.good;
    all = h.all;
  }

  cause_at : (fault : Fault) (a a' b b' c c' d d' : ℕ) → a ≡ a' → b ≡ b' → c ≡ c' → d ≡ d' → IsSinkFault fault a b c d → IsSinkFault fault a' b' c' d'
  cause_at fault a a' b b' c c' d d' e1 e2 e3 e4 h =
      subst (λ (x : ℕ). IsSinkFault fault x b' c' d') e1 (subst (λ (x : ℕ). IsSinkFault fault a x c' d') e2
      (subst (λ (x : ℕ). IsSinkFault fault a b x d') e3 (subst (λ (x : ℕ). IsSinkFault fault a b c x) e4 h)))

  broke_on : (r r' : R) (n n' : N) (s : PageSettings) (before own left : List ℕ) → P n → BrokeIn k.to r r' n n' s before own left
      → BrokeIn i.to (f r) (f r') (g n) (g n') s before own left
  broke_on r r' n n' s before own left q (inl h) =
      inl (h.0, front_on r r' n n' (settled_by s before own) q h.1)
  broke_on r r' n n' s before own left q (inr h) =
      inr (h.0, h.1, front_on r r' n n' (page_rest s before) q h.2)

  broken_on : (r r' : R) (n n' : N) (s : PageSettings) (bytes : List ℕ) (fault : Fault) → P n → Broken k r r' n n' s bytes fault → Broken i (f r) (f r') (g n) (g n') s bytes fault
  broken_on r r' n n' s bytes fault q h = record {
    before = h.before;
    own = h.own;
    left = h.left;
    parts = h.parts;
    recent = h.recent;
    rows = f h.rows;
    notes = g h.notes;
    whole = all_on r h.rows n h.notes (settled_page s h.before) q h.whole;
    front = broke_on h.rows r' h.notes n' s h.before h.own h.left (o.stays n h.notes (settled_page s h.before).notes q h.whole.notes) h.front;
    cause = cause_at fault _ _ _ _ _ _ _ _ (o.rows_failed r) (o.rows_failed r') (o.notes_failed n) (o.notes_failed n') h.cause;
  }

  pub caused_on : (a b : SourceState) (r r' : R) (n n' : N) (s : PageSettings) (bytes : List ℕ) (res : Result Outcome Fault) → P n
      → RunsOver res k a b r r' n n' s bytes → RunsOver res i a b (f r) (f r') (g n) (g n') s bytes
  caused_on a b r r' n n' s bytes (Ok out) p h = record {
    asked = h.asked;
    few = h.few;
    source = h.source;
    lean = h.lean;
    runs = whole_on r r' n n' s bytes b.remaining out p h.runs;
    cause = (h.cause.0, sym (o.rows_failed r') ∙ (h.cause.1 ∙ o.rows_failed r), sym (o.notes_failed n') ∙ (h.cause.2 ∙ o.notes_failed n));
  }
  caused_on a b r r' n n' s bytes (Err Memory) p h = record {
    asked = h.asked;
    few = h.few;
    source = h.source;
    lean = h.lean;
    runs = (h.runs.0, h.runs.1, all_on r r' n n' (nothing (start s)) p h.runs.2);
    cause = (h.cause.0, ap f h.cause.1, ap g h.cause.2);
  }
  caused_on a b r r' n n' s bytes (Err Read) p h = record {
    asked = h.asked;
    few = h.few;
    source = h.source;
    lean = h.lean;
    runs = (h.runs.0, all_on r r' n n' (settled_page s bytes) p h.runs.1);
    cause = h.cause;
  }
  caused_on a b r r' n n' s bytes (Err TooLong) p h = record {
    asked = h.asked;
    few = h.few;
    source = h.source;
    lean = h.lean;
    runs = (h.runs.0, all_on r r' n n' _ p h.runs.1);
    cause = h.cause;
  }
  caused_on a b r r' n n' s bytes (Err WriteText) p h = record {
    asked = h.asked;
    few = h.few;
    source = h.source;
    lean = h.lean;
    runs = (h.runs.0, front_on r r' n n' (whole_page s bytes) p h.runs.1);
    cause = broken_on r r' n n' s bytes WriteText p h.cause;
  }
  caused_on a b r r' n n' s bytes (Err WriteNotes) p h = record {
    asked = h.asked;
    few = h.few;
    source = h.source;
    lean = h.lean;
    runs = (h.runs.0, front_on r r' n n' (whole_page s bytes) p h.runs.1);
    cause = broken_on r r' n n' s bytes WriteNotes p h.cause;
  }
  caused_on a b r r' n n' s bytes (Err (Settings x)) p h = record {
    asked = h.asked;
    few = h.few;
    source = h.source;
    lean = h.lean;
    runs = (h.runs.0, h.runs.1, all_on r r' n n' (nothing (start s)) p h.runs.2);
    cause = (h.cause.0, ap f h.cause.1, ap g h.cause.2);
  }
  caused_on a b r r' n n' s bytes (Err Failed) p h = absurd h.cause
  caused_on a b r r' n n' s bytes (Err Ended) p h = absurd h.cause
  caused_on a b r r' n n' s bytes (Err (BadIndex x)) p h = absurd h.cause
