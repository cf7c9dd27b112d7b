-- The record that is read line by line, up to where it is settled, is the record of the whole page.
use Rattle.std.proofs.Common.{◌≡◌, Bool, true, false, ◌&&◌, inl, inr, List, [], ◌∷◌, ◌++◌, None, map, refl, ap, sym, ◌∙◌, ℕ, zero, suc, ◌+◌, ◌<◌, ◌≤◌, length, take, drop, Ok, Err, Option, append_assoc, append-nil, arith, length-append}
use Rattle.std.proofs.lemmas.Bool.{cases_Bool}
use Rattle.page_core_base.specs.Rows.{Item}
use Rattle.page_core_base.specs.declared.page_settings.Settings.{Settings, Settings as PageSettings}
use Rattle.page_engine_lines.specs.laws.Views.{has_title, ending_items}
use Rattle.page_engine_lines.specs.Acts.{lines_items, lines_after, page_items}
use Rattle.page_engine_lines.specs.Edges.{LinesEdge, start_of}
use Rattle.page_engine_lines.proofs.TreeLemmas.{ending_is, end_items_after, lines_after-append, lines_items-append, no_items, none_after, title_after}
use Rattle.page_roff_lines.specs.Lines.{Line}
use Rattle.page_roff_source.specs.Runs.{RoffEdge, SourceLine}
use Rattle.page_roff_source.proofs.CountLemmas.{done-idle}
use Rattle.page_engine_records.specs.machine.NameTexts.{Front, after_line, after_lines, ended, front_record, is_settled, start, has_ended, kept_of, read, read-append, EndedWell, Finished, HasRoom, IsAt, ReadsAll, StartsAt, StoppedBy, Through, front_of}
use Rattle.page_engine_records.specs.NameTexts.{name_text}
use Rattle.page_engine_records.specs.PageRecords.{raw, record_of_lines, page_record}
use Rattle.page_engine_records.specs.declared.name_readers.NameReader.{NameReader}
use Rattle.page_engine_records.proofs.NameLemmas.{ended_stays, after_lines-append}
use Rattle.page_engine_records.proofs.NameTextLemmas.{kept_is_name_text, read_ended}
use Rattle.std.proofs.Math.Path.{subst}
use Rattle.std.specs.Prelude.{if◌then◌else◌}
use Rattle.std.specs.Io.KnownBytes.{IsAtEnd}
use Rattle.std.proofs.lemmas.List.{take-append-drop}
use Rattle.page_core_base.specs.Settings.{IsGood}
use Rattle.page_core_base.specs.declared.faults.Fault.{Fault}
use Rattle.page_core_base.specs.declared.faults.Fault.TheVariants.{Read, TooLong}
use Rattle.page_core_streams.specs.laws.Views.{Stops}
use Rattle.page_core_streams.specs.Streams.{SourceState}
use Rattle.page_engine_index.specs.declared.records.Record.{Record}
use Rattle.page_roff_lines.specs.laws.Cutting.{Point, first_point, last_line, lines_from, lines_within, point_after}
use Rattle.page_roff_lines.proofs.LineAgreement.{lines-one_by_one}
use Rattle.page_roff_lines.proofs.PointLemmas.{lines_within-append, point_after-append}
use Rattle.page_engine_records.specs.Records.{record_by}
use Rattle.page_engine_records.specs.Runs.{HasCause, ReadsRecordOver, Stopped}
use Rattle.page_engine_records.specs.declared.runs.RecordRun.{RecordRun}

both : (x y : Bool) → x && y ≡ true → (x ≡ true) × (y ≡ true)
both true y h = (refl, h)
both false y h = let no : ⊥ = cc in absurd no

-- ---- lines

-- what lines give, and then the page's end
abbrev rest_items : LinesEdge → List Line → List Item
rest_items e lines = lines_items e (map raw lines) ++ ending_items (lines_after e (map raw lines)) 1

rest_none : (e : LinesEdge) → e.roff.to_come ≡ None → rest_items e [] ≡ ending_items e 1
rest_none e idle =
    ap (λ (l : List Item). l ++ ending_items (lines_after e []) 1) (no_items e) ∙ ap (λ (d : LinesEdge). ending_items d 1) (none_after e idle)

-- the front after one line that is read
abbrev line_front : Front → Line → Front
line_front f line = record { lines = lines_after f.lines (raw line ∷ []); name = read f.name (lines_items f.lines (raw line ∷ [])) }

rest_more : (f : Front) (line : Line) (lines : List Line)
    → read f.name (rest_items f.lines (line ∷ lines)) ≡ read (line_front f line).name (rest_items (line_front f line).lines lines)
rest_more f line lines =
    let one = raw line ∷ [] in
    let more = map raw lines in
    let first = lines_items f.lines one in
    let g = lines_after f.lines one in
    let items : lines_items f.lines (one ++ more) ≡ first ++ lines_items g more = lines_items-append f.lines one more in
    let after : lines_after f.lines (one ++ more) ≡ lines_after g more = lines_after-append f.lines one more in
    let last = ending_items (lines_after g more) 1 in
    ap (λ (l : List Item). read f.name (l ++ ending_items (lines_after f.lines (one ++ more)) 1)) items
    ∙ (ap (λ (d : LinesEdge). read f.name ((first ++ lines_items g more) ++ ending_items d 1)) after
    ∙ (read-append f.name (first ++ lines_items g more) last
    ∙ (ap (λ (r : NameReader). read r last) (read-append f.name first (lines_items g more))
    ∙ sym (read-append (read f.name first) (lines_items g more) last))))

idle_after : (e : LinesEdge) (lines : List SourceLine) → (lines_after e lines).roff.to_come ≡ None
idle_after e lines = ap (λ (r : RoffEdge). r.to_come) (done-idle e.roff lines)

-- ---- a front

-- what is read of the lines from a front on is what is read of the whole rest of the page
abbrev NameIs : Front → List Line → Type 0
NameIs f lines = ended (after_lines f lines) ≡ read f.name (rest_items f.lines lines)

abbrev FieldsAre : Front → List Line → Type 0
FieldsAre f lines = (after_lines f lines).lines.body.header.fields ≡ (lines_after f.lines (map raw lines)).body.header.fields

settled_name : (f : Front) (lines : List Line) → is_settled f ≡ true → NameIs f lines
settled_name f lines h =
    let here : ended f ≡ f.name = rw h refl in
    ap (λ (g : Front). ended g) (ended_stays f lines h)
    ∙ (here ∙ sym (read_ended f.name (rest_items f.lines lines) (both (has_ended f.name) (has_title f.lines.body) h).0))

settled_fields : (f : Front) (lines : List Line) → is_settled f ≡ true → FieldsAre f lines
settled_fields f lines h =
    ap (λ (g : Front). g.lines.body.header.fields) (ended_stays f lines h)
    ∙ sym (title_after f.lines (map raw lines) (both (has_ended f.name) (has_title f.lines.body) h).1)

end_name : (f : Front) → is_settled f ≡ false → f.lines.roff.to_come ≡ None → NameIs f []
unfolding after_lines
end_name f h idle =
    let here : ended f ≡ read f.name (ending_items f.lines 1) = rw h refl in
    here ∙ ap (λ (l : List Item). read f.name l) (sym (rest_none f.lines idle))

end_fields : (f : Front) → f.lines.roff.to_come ≡ None → FieldsAre f []
unfolding after_lines
end_fields f idle = ap (λ (e : LinesEdge). e.body.header.fields) (sym (none_after f.lines idle))

one_front : (f : Front) (line : Line) → is_settled f ≡ false → after_line f line ≡ line_front f line
one_front f line h = rw h refl

next_name : (f : Front) (line : Line) (lines : List Line) → is_settled f ≡ false → NameIs (line_front f line) lines → NameIs f (line ∷ lines)
unfolding after_lines
next_name f line lines h next =
    ap (λ (g : Front). ended (after_lines g lines)) (one_front f line h) ∙ (next ∙ sym (rest_more f line lines))

next_fields : (f : Front) (line : Line) (lines : List Line) → is_settled f ≡ false → FieldsAre (line_front f line) lines → FieldsAre f (line ∷ lines)
unfolding after_lines
next_fields f line lines h next =
    ap (λ (g : Front). (after_lines g lines).lines.body.header.fields) (one_front f line h)
    ∙ (next ∙ ap (λ (e : LinesEdge). e.body.header.fields) (sym (lines_after-append f.lines (raw line ∷ []) (map raw lines))))

front_name : (f : Front) (lines : List Line) → f.lines.roff.to_come ≡ None → NameIs f lines
front_name f [] idle = elim (cases_Bool (is_settled f)) [
  | inl t ↦ settled_name f [] t
  | inr h ↦ end_name f h idle
]
front_name f (line ∷ lines) idle = elim (cases_Bool (is_settled f)) [
  | inl t ↦ settled_name f (line ∷ lines) t
  | inr h ↦ next_name f line lines h (front_name (line_front f line) lines (idle_after f.lines (raw line ∷ [])))
]

front_fields : (f : Front) (lines : List Line) → f.lines.roff.to_come ≡ None → FieldsAre f lines
front_fields f [] idle = end_fields f idle
front_fields f (line ∷ lines) idle = elim (cases_Bool (is_settled f)) [
  | inl t ↦ settled_fields f (line ∷ lines) t
  | inr h ↦ next_fields f line lines h (front_fields (line_front f line) lines (idle_after f.lines (raw line ∷ [])))
]

-- ---- the record

page_is : (e : LinesEdge) (lines : List Line) → page_items e (map raw lines) 1 ≡ rest_items e lines
page_is e lines =
    let raws = map raw lines in
    end_items_after e raws 1 ∙ ap (λ (l : List Item). lines_items e raws ++ l) (sym (ending_is (lines_after e raws) 1))

pub whole_record : (s : Settings) (page : List Line) → front_record (after_lines (start s) page) ≡ record_of_lines s page
unfolding record_of_lines
whole_record s page =
    let f = after_lines (start s) page in
    let items = page_items (start_of s) (map raw page) 1 in
    let name : kept_of (ended f) ≡ name_text items =
    ap (λ (r : NameReader). kept_of r) (front_name (start s) page refl ∙ ap (λ (l : List Item). read (start s).name l) (sym (page_is (start_of s) page)))
    ∙ kept_is_name_text items in
    let fields = front_fields (start s) page refl in
    rw (name, fields) refl

-- ---- A run over the bytes of a page, part by part.

-- ---- bytes

pub through_none : (run : RecordRun) → Through run run []
unfolding lines_within point_after after_lines
through_none run = record {
  front = λ p h. refl;
  at = λ p h. h;
  room = λ count h. let e : 0 + count ≡ count = omega arith in subst (λ (n : ℕ). HasRoom run n) e h;
}

pub through_more : {a b d : RecordRun} (xs ys : List ℕ) → Through a b xs → Through b d ys → Through a d (xs ++ ys)
through_more {a} {b} {d} xs ys s t = record {
  front = λ p h.
      let q = point_after p xs in
      t.front q (s.at p h)
      ∙ (ap (λ (f : Front). after_lines f (lines_within q ys)) (s.front p h)
      ∙ (sym (after_lines-append (front_of a.page) (lines_within p xs) (lines_within q ys))
      ∙ ap (λ (l : List Line). after_lines (front_of a.page) l) (sym (lines_within-append p xs ys))));
  at = λ p h. rw (point_after-append p xs ys) (t.at (point_after p xs) (s.at p h));
  room = λ count h.
      let e : length (xs ++ ys) + count ≡ length xs + (length ys + count) = omega (arith, length-append xs ys) in
      t.room count (s.room (length ys + count) (subst (λ (n : ℕ). HasRoom a n) e h));
}

not_both : {X : Type 0} (b : Bool) → b ≡ true → b ≡ false → X
not_both b t f = let no : ⊥ = cc in absurd no

-- once the record is settled
pub ended_through : (run : RecordRun) (bytes : List ℕ) → is_settled (front_of run.page) ≡ true → Through run run bytes
ended_through run bytes e = record {
  front = λ p h. sym (ended_stays (front_of run.page) (lines_within p bytes) e);
  at = λ p h. record { point = λ f. not_both (is_settled (front_of run.page)) e f; idle = h.idle };
  room = λ count h. record {
    free = λ f. not_both (is_settled (front_of run.page)) e f;
    bytes = λ f. not_both (is_settled (front_of run.page)) e f;
    lines = omega (arith, h.lines);
  };
}

-- before it the cutter took them
pub part_through : (run run' : RecordRun) (bytes : List ℕ) → is_settled (front_of run.page) ≡ false
    → front_of run'.page ≡ after_lines (front_of run.page) (lines_within run.cutter.point bytes)
    → run'.cutter.point ≡ point_after run.cutter.point bytes → run'.cutter.ready ≡ false
    → run'.cutter.point.line.consumed ≡ run.cutter.point.line.consumed + length bytes
    → run'.page.lines.roff.source ≤ run.page.lines.roff.source + length bytes
    → (run.page.lines.roff.to_come ≡ None → run'.page.lines.roff.to_come ≡ None) → Through run run' bytes
part_through run run' bytes inside front point free consumed source idle = record {
  front = λ p h. front ∙ ap (λ (q : Point). after_lines (front_of run.page) (lines_within q bytes)) (h.point inside);
  at = λ p h. record { point = λ _. point ∙ ap (λ (q : Point). point_after q bytes) (h.point inside); idle = idle h.idle };
  room = λ count h. record {
    free = λ _. free;
    bytes = λ _. let b = h.bytes inside in omega (arith, consumed, b);
    lines = omega (arith, source, h.lines);
  };
}

pub room_less : (run : RecordRun) (most count : ℕ) → HasRoom run most → count ≤ most → HasRoom run count
room_less run most count h less = record {
  free = h.free;
  bytes = λ f. let b = h.bytes f in omega (arith, b, less);
  lines = omega (arith, h.lines, less);
}

-- at its own point
pub is_here : (run : RecordRun) → run.page.lines.roff.to_come ≡ None → IsAt run run.cutter.point
is_here run idle = record { point = λ f. refl; idle = idle }

-- a part of a chunk
pub part_of : (xs ys zs : List ℕ) (n : ℕ) → xs ≡ ys ++ zs → xs ≡ (ys ++ take n zs) ++ drop n zs
part_of xs ys zs n h = h ∙ (ap (λ l. ys ++ l) (sym (take-append-drop n zs)) ∙ sym (append_assoc ys (take n zs) (drop n zs)))

pub all_done : (xs ys zs : List ℕ) → xs ≡ ys ++ zs → length zs ≤ 0 → xs ≡ ys
all_done xs ys [] h none = h ∙ append-nil ys
all_done xs ys (z ∷ zs) h none = absurd (omega (arith, none))

-- a line that is whole has a byte
pub some_taken : (p : Point) (n : ℕ) (chunk : List ℕ) (b : Bool) (line : Line) → lines_within p (take n chunk) ≡ (if b then line ∷ [] else []) → b ≡ true → 0 < n
unfolding lines_within
some_taken p zero chunk b line h t = let z : [] ≡ line ∷ [] = rw t at h in let no : ⊥ = cc in absurd no
some_taken p (suc n) chunk b line h t = omega arith

-- ---- the end

pub finished : (run mid run' : RecordRun) (a b : SourceState) (bytes : List ℕ) → Through run mid bytes → Finished mid run'
    → IsAtEnd b.remaining → b.failed ≡ a.failed → EndedWell run run' a b bytes
finished run mid run' a b bytes s t all quiet =
    let front : (p : Point) → IsAt run p
    → after_lines (front_of mid.page) (last_line (point_after p bytes)) ≡ after_lines (front_of run.page) (lines_from p bytes) = λ p h.
    ap (λ (f : Front). after_lines f (last_line (point_after p bytes))) (s.front p h)
    ∙ sym (after_lines-append (front_of run.page) (lines_within p bytes) (last_line (point_after p bytes))) in record {
      name = λ p h. t.name (point_after p bytes) (s.at p h) ∙ ap (λ (f : Front). ended f) (front p h);
      fields = λ p h. t.fields (point_after p bytes) (s.at p h) ∙ ap (λ (f : Front). f.lines.body.header.fields) (front p h);
      all = all;
      quiet = quiet;
    }

-- a fault of the source ends it
pub stopped : (fault : Fault) (run run' : RecordRun) (a b : SourceState) (bytes : List ℕ) → Stops a b bytes fault
    → (all : List ℕ) × ReadsAll (Err fault) run run' a b all
stopped Read run run' a b bytes w =
    (bytes, record { asked = w.0; few = w.1.few; source = w.1.source; lean = w.1.lean; ends = w.2 })
stopped TooLong run run' a b bytes w =
    (w.1, record { asked = w.0; few = w.2.few; source = w.2.source; lean = w.2.lean; ends = (w.3, w.5) })
stopped _ run run' a b bytes w = absurd w

-- ---- a run

starts_at : (run : RecordRun) (s : PageSettings) → StartsAt run s → IsAt run (first_point s.encoding)
starts_at run s h = record { point = λ f. h.point; idle = ap (λ (f : Front). f.lines.roff.to_come) h.front }

whole_page : (run run' : RecordRun) (a b : SourceState) (s : PageSettings) (bytes : List ℕ) → StartsAt run s → EndedWell run run' a b bytes
    → record_by (kept_of run'.page.name) run'.page.lines.body.header.fields.section ≡ page_record s bytes
whole_page run run' a b s bytes h w =
    let p = first_point s.encoding in
    let at = starts_at run s h in
    let f = after_lines (start s) (lines_from p bytes) in
    let same : after_lines (front_of run.page) (lines_from p bytes) ≡ f = ap (λ (g : Front). after_lines g (lines_from p bytes)) h.front in
    let name = w.name p at ∙ ap (λ (g : Front). ended g) same in
    let fields = w.fields p at ∙ ap (λ (g : Front). g.lines.body.header.fields) same in
    let all : front_record f ≡ page_record s bytes =
    whole_record s (lines_from p bytes) ∙ ap (λ (l : List Line). record_of_lines s l) (sym (lines-one_by_one s.encoding bytes)) in
    rw (name, fields) all

pub ends_well : (run run' : RecordRun) (a b : SourceState) (s : PageSettings) (bytes : List ℕ) (found : Option Record) → IsGood s → StartsAt run s
    → found ≡ record_by (kept_of run'.page.name) run'.page.lines.body.header.fields.section
    → ReadsAll (Ok tt) run run' a b bytes → ReadsRecordOver (Ok found) a b s bytes
ends_well run run' a b s bytes found good h is w = record {
  asked = w.asked;
  few = w.few;
  source = w.source;
  lean = w.lean;
  reads = record { value = is ∙ whole_page run run' a b s bytes h w.ends; good = good; all = w.ends.all };
  cause = w.ends.quiet;
}

stops : (a b : SourceState) (s : PageSettings) (asked : ℕ) (bytes : List ℕ) (fault : Fault) → IsGood s → StoppedBy a b asked bytes fault
    → Stopped s bytes fault × HasCause a b asked bytes fault
stops a b s asked bytes Read good h = (good, h)
stops a b s asked bytes TooLong good h = (good, h)
stops a b s asked bytes _ good h = absurd h

pub ends_early : (run run' : RecordRun) (a b : SourceState) (s : PageSettings) (bytes : List ℕ) (fault : Fault) → IsGood s
    → ReadsAll (Err fault) run run' a b bytes → ReadsRecordOver (Err fault) a b s bytes
ends_early run run' a b s bytes fault good w =
    let z = stops a b s w.asked bytes fault good w.ends in record {
      asked = w.asked;
      few = w.few;
      source = w.source;
      lean = w.lean;
      reads = z.0;
      cause = z.1;
    }
