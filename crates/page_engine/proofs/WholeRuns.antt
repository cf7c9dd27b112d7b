-- Whole runs.
use Rattle.std.proofs.Common.{◌≡◌, ℕ, ◌-◌, ◌^◌, List, [], length, take, inl, inr, Result, Ok, Err, MatchResult, refl, sym, ap, ◌∙◌, arith, ◌<◌, ◌≤◌, ◌++◌, Some, append-nil, append_assoc, length-append}
use Rattle.std.specs.Io.KnownBytes.{IsAtEnd}
use Rattle.std.proofs.lemmas.List.{take-append-le}
use Rattle.page_core_base.specs.laws.Views.{IsSink}
use Rattle.page_core_base.specs.Messages.{Message}
use Rattle.page_core_base.specs.Rows.{Laid, join, nothing, LaidRow}
use Rattle.page_core_base.specs.Settings.{IsGood, IsFirst}
use Rattle.page_core_base.specs.declared.faults.Fault.{Fault}
use Rattle.page_core_base.specs.declared.faults.Fault.TheVariants.{Memory, Read, WriteText, WriteNotes, TooLong, Settings, Failed, Ended, BadIndex}
use Rattle.page_core_base.specs.declared.page_settings.Settings.{Settings as PageSettings}
use Rattle.page_core_base.specs.declared.page_settings.SettingFault.{SettingFault}
use Rattle.page_core_base.proofs.LatchLemmas.{within-join}
use Rattle.page_core_streams.specs.Streams.{SourceState, HasGiven, IsLean}
use Rattle.page_core_streams.specs.laws.Views.{Stops, source_state}
use Rattle.page_core_streams.proofs.AsciiLemmas.{given_none, lean_none, lean_long}
use Rattle.page_roff_lines.specs.Lines.{lines, line_left}
use Rattle.page_engine.specs.declared.runs.Outcome.{Outcome}
use Rattle.page_engine.specs.laws.States.{PageState, IsOpenAt, IsEndedAt, CannotStart}
use Rattle.page_engine.specs.laws.Reads.{RunState, HasTaken, Fed, BrokeAt}
use Rattle.page_engine.specs.Edges.{Edge, start}
use Rattle.page_engine.specs.laws.Views.{Came, Front, RunsIn}
use Rattle.page_engine.specs.Page.{page}
use Rattle.page_engine.specs.Runs.{Streams, Sinks, AllCame, FrontCame, RunsOver, Broken, whole_page, settled_page, settled_by, page_rest}
use Rattle.page_engine.specs.machine.Steps.{last_settled, PutsOut}
use Rattle.page_engine.specs.machine.PageSinks.{cause_later}
use Rattle.page_engine.proofs.Items.{counts_end}
use Rattle.page_engine.proofs.Through.{page_more, page_whole, source_is, both_within, came_both, front_both, came_out, front_out}
use Rattle.page_engine.proofs.WholeLines.{page_end}

-- ---- the end of the bytes

-- the last line was taken, then the page's end, and it is put out
rest_is : (s : PageSettings) (bytes : List ℕ) {p : PageState} → IsOpenAt p (settled_page s bytes).edge
    → page_rest s bytes ≡ join (last_settled s bytes) (page (last_settled s bytes).edge [])
rest_is s bytes h = page_end (settled_page s bytes).edge (line_left s.encoding bytes) h.reached

pub finished : {R N : Type 0} (k : Sinks R N) → IsSink k.to.row_gave k.to.row_within → IsSink k.to.note_gave k.to.note_within
    → {r a a' : R} (r' : R) {n b b' : N} (n' : N) {p p' : PageState} (s : PageSettings) (bytes : List ℕ) (res : Result (Unit {0}) Fault)
    → IsOpenAt p (settled_page s bytes).edge → Came k r a n b (last_settled s bytes)
    → Came k a a' b b' (page (last_settled s bytes).edge []) × IsEndedAt p' (page (last_settled s bytes).edge []).edge → PutsOut res k a' r' b' n'
    → MatchResult res (λ _. Came k r r' n n' (page_rest s bytes) × IsEndedAt p' (whole_page s bytes).edge) (λ fault. Front k r r' n n' (page_rest s bytes) fault)
finished k rows notes r' n' s bytes (Ok _) h last end out =
    let l = last_settled s bytes in
    let same : (page l.edge []).edge ≡ (whole_page s bytes).edge =
    sym (ap (λ (x : Laid Edge). x.edge) (page_whole s bytes ∙ ap (join (settled_page s bytes)) (rest_is s bytes h))) in (
      came_out k rows notes (page_rest s bytes) (rw (rest_is s bytes h) (came_both k rows notes l (page l.edge []) last end.0)) out,
      rw same at end.1,
    )
finished k rows notes r' n' s bytes (Err fault) h last end out =
    let l = last_settled s bytes in
    front_out k rows notes (page_rest s bytes) fault (rw (rest_is s bytes h) (came_both k rows notes l (page l.edge []) last end.0)) out

-- a sink failed at the end
pub end_broke : {R N : Type 0} (k : Sinks R N) → IsSink k.to.row_gave k.to.row_within → IsSink k.to.note_gave k.to.note_within
    → {r a r' : R} {n b n' : N} {p : PageState} (s : PageSettings) (bytes : List ℕ) (fault : Fault)
    → IsOpenAt p (settled_page s bytes).edge → Came k r a n b (last_settled s bytes)
    → Front k a r' b n' (page (last_settled s bytes).edge []) fault → Front k r r' n n' (page_rest s bytes) fault
end_broke k rows notes s bytes fault h last end =
    let l = last_settled s bytes in rw (rest_is s bytes h) (front_both k rows notes l (page l.edge []) fault last end)

-- or at the last line
pub last_broke : {R N : Type 0} (k : Sinks R N) → IsSink k.to.row_gave k.to.row_within → IsSink k.to.note_gave k.to.note_within
    → {r r' : R} {n n' : N} {p : PageState} (s : PageSettings) (bytes : List ℕ) (fault : Fault)
    → IsOpenAt p (settled_page s bytes).edge → Front k r r' n n' (last_settled s bytes) fault → Front k r r' n n' (page_rest s bytes) fault
last_broke k rows notes {r} {r'} {n} {n'} s bytes fault h f =
    let l = last_settled s bytes in rw (rest_is s bytes h) record {
      gave = within-join rows notes r r' n n' l (page l.edge []) f.gave;
      cause = f.cause;
    }

-- ---- a run that reads

-- what was read was taken, and what it settles came
pub record HasCome {R N : Type 0} (k : Sinks R N) (run : RunState) (r r' : R) (n n' : N) (s : PageSettings) (bytes : List ℕ) : Type 0 where
  pub taken : HasTaken run s bytes
  pub came : Came k r r' n n' (settled_page s bytes)

pub come_more : {R N : Type 0} (k : Sinks R N) → IsSink k.to.row_gave k.to.row_within → IsSink k.to.note_gave k.to.note_within
    → {run run' : RunState} {r a r' : R} {n b n' : N} (s : PageSettings) (xs ys : List ℕ)
    → HasCome k run r a n b s xs → Fed k a r' b n' s xs ys run' → HasCome k run' r r' n n' s (xs ++ ys)
come_more k rows notes s xs ys h f = record {
  taken = f.taken;
  came = rw (page_more s xs ys) (came_both k rows notes (settled_page s xs) (settled_by s xs ys) h.came f.came);
}

-- a sink failed at a chunk, or at the end
pub broken_chunk : {R N : Type 0} (k : Sinks R N) → IsSink k.to.row_gave k.to.row_within → IsSink k.to.note_gave k.to.note_within
    → {r a r' : R} {n b n' : N} (s : PageSettings) (xs ys : List ℕ) (fault : Fault) → length ys ≤ 2 ^ 14
    → Came k r a n b (settled_page s xs) → BrokeAt k a r' b n' s xs ys fault → Broken k r r' n n' s (xs ++ ys) fault
broken_chunk k rows notes s xs ys fault small came c =
    let all = rw (← page_more s xs c.before) at (came_both k rows notes (settled_page s xs) (settled_by s xs c.before) came c.whole) in record {
      before = xs ++ c.before;
      own = c.own;
      left = c.left;
      parts = ap (λ l. xs ++ l) c.parts ∙ sym (append_assoc xs c.before (c.own ++ c.left));
      recent = omega (arith, small, ap length c.parts, length-append c.before (c.own ++ c.left));
      rows = c.rows;
      notes = c.notes;
      whole = all.gave;
      front = inl (c.one, c.front.gave);
      cause = cause_later fault _ _ _ _ _ _ all.rows_quiet all.notes_quiet c.front.cause;
    }

pub broken_end : {R N : Type 0} (k : Sinks R N) {r a r' : R} {n b n' : N} (s : PageSettings) (bytes : List ℕ) (fault : Fault)
    → Came k r a n b (settled_page s bytes) → Front k a r' b n' (page_rest s bytes) fault → Broken k r r' n n' s bytes fault
broken_end k {a = a} {b = b} s bytes fault came f = record {
  before = bytes;
  own = [];
  left = [];
  parts = sym (append-nil bytes);
  recent = omega arith;
  rows = a;
  notes = b;
  whole = came.gave;
  front = inr (refl, refl, f.gave);
  cause = cause_later fault _ _ _ _ _ _ came.rows_quiet came.notes_quiet f.cause;
}

-- what came is a front of the page that the bytes make
broken_front : {R N : Type 0} (k : Sinks R N) → IsSink k.to.row_gave k.to.row_within → IsSink k.to.note_gave k.to.note_within
    → {r r' : R} {n n' : N} (s : PageSettings) (bytes : List ℕ) (fault : Fault) → Broken k r r' n n' s bytes fault → FrontCame k.to r r' n n' (whole_page s bytes)
broken_front k rows notes {r} {r'} {n} {n'} s bytes fault c = elim c.front [
  | inl f ↦
      let x = c.before ++ c.own in
      let own : FrontCame k.to r r' n n' (settled_page s x) =
      rw (page_more s c.before c.own) (both_within rows notes r' n' (settled_page s c.before) (settled_by s c.before c.own) c.whole f.1) in
      let all : FrontCame k.to r r' n n' (settled_page s (x ++ c.left)) =
      rw (page_more s x c.left) (within-join rows notes r r' n n' (settled_page s x) (settled_by s x c.left) own) in
      rw (c.parts, ← append_assoc c.before c.own c.left, page_whole s (x ++ c.left))
      (within-join rows notes r r' n n' (settled_page s (x ++ c.left)) (page_rest s (x ++ c.left)) all)
  | inr f ↦
      let is : bytes ≡ c.before = rw (f.0, f.1, append-nil) at c.parts in
      rw (is, page_whole s c.before) (both_within rows notes r' n' (settled_page s c.before) (page_rest s c.before) c.whole f.2)
]

pub stopped_by : {R N : Type 0} (k : Sinks R N) → IsSink k.to.row_gave k.to.row_within → IsSink k.to.note_gave k.to.note_within
    → {a b : SourceState} {r r' : R} {n n' : N} (s : PageSettings) (asked : ℕ) (bytes : List ℕ) (fault : Fault) → IsGood s → asked ≤ 2 ^ 32 - 1
    → HasGiven a b asked bytes → IsLean a b asked bytes → Broken k r r' n n' s bytes fault → RunsOver (Err fault) k a b r r' n n' s bytes
stopped_by k rows notes s asked bytes WriteText g few source lean c =
    record { asked = asked; few = few; source = source; lean = lean; runs = (g, broken_front k rows notes s bytes WriteText c); cause = c }
stopped_by k rows notes s asked bytes WriteNotes g few source lean c =
    record { asked = asked; few = few; source = source; lean = lean; runs = (g, broken_front k rows notes s bytes WriteNotes c); cause = c }
stopped_by k rows notes s asked bytes _ g few source lean c = absurd c.cause

-- a fault of the source
pub stopped_reading : {R N : Type 0} (fault : Fault) (k : Sinks R N) {a b : SourceState} {r r' : R} {n n' : N} (s : PageSettings) (bytes : List ℕ) → IsGood s
    → Stops a b bytes fault → Came k r r' n n' (settled_page s bytes) → (all : List ℕ) × RunsOver (Err fault) k a b r r' n n' s all
stopped_reading Read k s bytes g w c =
    (bytes, record { asked = w.0; few = w.1.few; source = w.1.source; lean = w.1.lean; runs = (g, c.gave); cause = w.2 })
stopped_reading TooLong k s bytes g w c =
    (w.1, record { asked = w.0; few = w.2.few; source = w.2.source; lean = w.2.lean; runs = (g, rw w.4 c.gave); cause = w.3 })
stopped_reading _ k s bytes g w c = absurd w

-- a good end
pub runs_well : {R N : Type 0} (k : Sinks R N) → IsSink k.to.row_gave k.to.row_within → IsSink k.to.note_gave k.to.note_within
    → {a b : SourceState} {r m r' : R} {n l n' : N} {p : PageState} (s : PageSettings) (asked : ℕ) (bytes : List ℕ) (o : Outcome) → IsGood s → asked ≤ 2 ^ 32 - 1
    → HasGiven a b asked bytes → IsLean a b asked bytes → IsAtEnd b.remaining → b.failed ≡ a.failed
    → Came k r m n l (settled_page s bytes) → Came k m r' l n' (page_rest s bytes) → IsEndedAt p (whole_page s bytes).edge
    → o.worst ≡ p.worst → o.counts ≡ p.counts → RunsOver (Ok o) k a b r r' n n' s bytes
runs_well k rows notes s asked bytes o g few source lean at quiet came rest ended ow oc =
    let all = rw (← page_whole s bytes) at (came_both k rows notes (settled_page s bytes) (page_rest s bytes) came rest) in
    let counts = oc ∙ ended.counts in record {
      asked = asked;
      few = few;
      source = source;
      lean = lean;
      runs = record {
        gave = all.gave;
        worst = ow ∙ ended.worst;
        source = source_is o.counts s (lines s.encoding bytes) (counts ∙ counts_end (start s) (lines s.encoding bytes));
        counts = counts;
        good = g;
        all = at;
      };
      cause = (quiet, all.rows_quiet, all.notes_quiet);
    }

-- ---- nothing was read or given

none_came : {R N : Type 0} (j : Streams R N) → IsSink j.row_gave j.row_within → IsSink j.note_gave j.note_within
    → (r : R) (n : N) (e : Edge) → AllCame j r r n n (nothing e)
none_came j rows notes r n e = record { rows = rows.none r; notes = notes.none n }

runs_refused : {R N : Type 0} (k : Sinks R N) → IsSink k.to.row_gave k.to.row_within → IsSink k.to.note_gave k.to.note_within
    → (a : SourceState) (r : R) (n : N) (s : PageSettings) (fault : SettingFault) → IsFirst s fault → RunsOver (Err (Settings fault)) k a a r r n n s []
runs_refused k rows notes a r n s fault h = record {
  asked = 0;
  few = omega arith;
  source = given_none a;
  lean = lean_none a;
  runs = (h, refl, none_came k.to rows notes r n (start s));
  cause = (refl, refl, refl);
}

runs_without_memory : {R N : Type 0} (k : Sinks R N) → IsSink k.to.row_gave k.to.row_within → IsSink k.to.note_gave k.to.note_within
    → (a : SourceState) (r : R) (n : N) (s : PageSettings) → IsGood s → RunsOver (Err Memory) k a a r r n n s []
runs_without_memory k rows notes a r n s g = record {
  asked = 0;
  few = omega arith;
  source = given_none a;
  lean = lean_none a;
  runs = (g, refl, none_came k.to rows notes r n (start s));
  cause = (refl, refl, refl);
}

-- a page that cannot start
pub runs_not_begun : {R N : Type 0} (k : Sinks R N) → IsSink k.to.row_gave k.to.row_within → IsSink k.to.note_gave k.to.note_within
    → (a : SourceState) (r : R) (n : N) (s : PageSettings) (fault : Fault) → CannotStart s fault → RunsOver (Err fault) k a a r r n n s []
runs_not_begun k rows notes a r n s Memory h = runs_without_memory k rows notes a r n s h
runs_not_begun k rows notes a r n s (Settings f) h = runs_refused k rows notes a r n s f h
runs_not_begun k rows notes a r n s _ h = absurd h

-- ---- Runs over bytes in memory.

-- a source over bytes before the first call, and after calls
abbrev from_bytes : List ℕ → SourceState
from_bytes bytes = source_state (Some bytes) 0 0 0 0

-- of bytes that are more than so many, the first so many are those of a front that is more
longer : {R N : Type 0} (j : Streams R N) {r r' : R} {n n' : N} (s : PageSettings) (most : ℕ) (all xs rest : List ℕ) → all ≡ xs ++ rest → most < length xs
    → AllCame j r r' n n' (settled_page s (take most xs)) → (most < length all) × AllCame j r r' n n' (settled_page s (take most all))
longer j s most all xs rest is more came =
    rw is (omega (arith, more, length-append xs rest), rw (take-append-le most xs rest (omega (arith, more))) came)

pub runs_in : {R N : Type 0} (k : Sinks R N) {r r' : R} {n n' : N} (s : PageSettings) (all rest xs : List ℕ) (calls given : ℕ) (res : Result Outcome Fault)
    → RunsOver res k (from_bytes all) (source_state (Some rest) 0 calls given 0) r r' n n' s xs → RunsIn res k.to r r' n n' s all
runs_in k s all rest xs calls given (Ok o) h =
    let w = h.runs in
    let is : all ≡ xs = h.source.read ∙ (ap (λ l. xs ++ l) w.all ∙ append-nil xs) in
    rw is (record { gave = w.gave; worst = w.worst; source = w.source; counts = w.counts; good = w.good; all = refl })
runs_in k s all rest xs calls given (Err Memory) h = (h.runs.0, h.runs.2)
runs_in k s all rest xs calls given (Err Read) h = absurd (omega (arith, h.cause (omega arith)))
runs_in k s all rest xs calls given (Err TooLong) h =
    let more = lean_long h.asked xs refl refl h.lean h.cause in
    let l = longer k.to s (2 ^ 31 - 1) all xs rest h.source.read more h.runs.1 in
    (h.runs.0, l.0, l.1)
runs_in k s all rest xs calls given (Err WriteText) h = (h.runs.0, record { read = xs; left = rest; parts = h.source.read; front = h.runs.1 })
runs_in k s all rest xs calls given (Err WriteNotes) h = (h.runs.0, record { read = xs; left = rest; parts = h.source.read; front = h.runs.1 })
runs_in k s all rest xs calls given (Err (Settings f)) h = (h.runs.0, h.runs.2)
runs_in k s all rest xs calls given (Err Failed) h = absurd h.runs
runs_in k s all rest xs calls given (Err Ended) h = absurd h.runs
runs_in k s all rest xs calls given (Err (BadIndex l)) h = absurd h.runs

-- what comes to sinks comes to what lies below them
gave_on : {R N W V E : Type 0} (j : Streams R N) (i : Streams W V) {r r' : R} {n n' : N} {w w' : W} {v v' : V} (l : Laid E)
    → ((rows : List LaidRow) → j.row_gave r rows r' → i.row_gave w rows w') → ((notes : List Message) → j.note_gave n notes n' → i.note_gave v notes v')
    → AllCame j r r' n n' l → AllCame i w w' v v' l
gave_on j i l rows notes g = record { rows = rows l.rows g.rows; notes = notes l.notes g.notes }

front_on : {R N W V E : Type 0} (j : Streams R N) (i : Streams W V) {r r' : R} {n n' : N} {w w' : W} {v v' : V} (l : Laid E)
    → ((rows : List LaidRow) → j.row_within r rows r' → i.row_within w rows w') → ((notes : List Message) → j.note_within n notes n' → i.note_within v notes v')
    → FrontCame j r r' n n' l → FrontCame i w w' v v' l
front_on j i l rows notes g = record { rows = rows l.rows g.rows; notes = notes l.notes g.notes }

pub passed_on : {R N W V : Type 0} (j : Streams R N) (i : Streams W V) (r r' : R) (n n' : N) (w w' : W) (v v' : V) (s : PageSettings) (bytes : List ℕ) (res : Result Outcome Fault)
    → ((rows : List LaidRow) → j.row_gave r rows r' → i.row_gave w rows w') → ((rows : List LaidRow) → j.row_within r rows r' → i.row_within w rows w')
    → ((notes : List Message) → j.note_gave n notes n' → i.note_gave v notes v') → ((notes : List Message) → j.note_within n notes n' → i.note_within v notes v')
    → RunsIn res j r r' n n' s bytes → RunsIn res i w w' v v' s bytes
passed_on j i r r' n n' w w' v v' s bytes (Ok o) a b c d h =
    record { gave = gave_on j i (whole_page s bytes) a c h.gave; worst = h.worst; source = h.source; counts = h.counts; good = h.good; all = h.all }
passed_on j i r r' n n' w w' v v' s bytes (Err Memory) a b c d h = (h.0, gave_on j i (nothing (start s)) a c h.1)
passed_on j i r r' n n' w w' v v' s bytes (Err Read) a b c d h = h
passed_on j i r r' n n' w w' v v' s bytes (Err TooLong) a b c d h = (h.0, h.1, gave_on j i (settled_page s (take (2 ^ 31 - 1) bytes)) a c h.2)
passed_on j i r r' n n' w w' v v' s bytes (Err WriteText) a b c d h =
    (h.0, record { read = h.1.read; left = h.1.left; parts = h.1.parts; front = front_on j i (whole_page s h.1.read) b d h.1.front })
passed_on j i r r' n n' w w' v v' s bytes (Err WriteNotes) a b c d h =
    (h.0, record { read = h.1.read; left = h.1.left; parts = h.1.parts; front = front_on j i (whole_page s h.1.read) b d h.1.front })
passed_on j i r r' n n' w w' v v' s bytes (Err (Settings f)) a b c d h = (h.0, gave_on j i (nothing (start s)) a c h.1)
passed_on j i r r' n n' w w' v v' s bytes (Err Failed) a b c d h = h
passed_on j i r r' n n' w w' v v' s bytes (Err Ended) a b c d h = h
passed_on j i r r' n n' w w' v v' s bytes (Err (BadIndex l)) a b c d h = h
