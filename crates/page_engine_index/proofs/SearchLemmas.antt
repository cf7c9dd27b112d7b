-- A run as far as it has come: the lines that were read, and the line that is open.
use Rattle.std.proofs.Common.{◌≡◌, ℕ, ◌+◌, ◌-◌, ◌<◌, ◌≤◌, Bool, true, false, List, [], ◌∷◌, ◌++◌, length, take, drop, nat_le, Option, Some, None, Result, Ok, Err, MatchResult, refl, sym, ap, subst, ◌∙◌, arith, inl, inr, append_assoc, append-nil, length-append, codes, suc, ◌&&◌, ◌||◌, not, map}
use Rattle.std.specs.Str.{bytes_eq}
use Rattle.std.proofs.lemmas.Bool.{lt-leb, eqb-true, cases_Bool, false≢true, le-leb}
use Rattle.std.proofs.lemmas.Bool.Decides.{nat_tests}
use Rattle.std.proofs.lemmas.Slice.Eq.{bytes_eq-Decides}
use Rattle.std.proofs.lemmas.Grind.{flat_map-append, common_steps}
use Rattle.std.specs.Io.KnownBytes.{IsAtEnd}
use Rattle.std.proofs.lemmas.List.{take-append-drop, take_at, take_all, length-take}
use Rattle.std.proofs.Math.Seq.{split_at}
use Rattle.memchr.specs.Find.{IsFirstByte, is_byte}
use Rattle.page_engine_index.proofs.MatchLemmas.{front_none, HasNoFeed, no_feed_all, whole-append, open-append, lines-append, no_feed-append, open_no_feed, whole_flat, open_flat, whole_end, open_end, lines_end, lines_begun, lines_flat, no_lines}
use Rattle.page_core_streams.specs.laws.Views.{Stops}
use Rattle.page_core_streams.specs.Streams.{SourceState}
use Rattle.page_core_base.specs.laws.Views.{IsSink}
use Rattle.page_core_base.specs.declared.faults.Fault.{Fault}
use Rattle.page_core_base.specs.declared.faults.Fault.TheVariants.{Memory, Read, WriteText, WriteNotes, TooLong, Settings, Failed, Ended, BadIndex}
use Rattle.page_core_base.specs.declared.limits.TheConstants.{LINE}
use Rattle.page_engine_index.specs.Entries.{Line, Entry, Index, all_read, with_entries, bad_at, lines, whole_lines, index_from, index, whole_index, entry_of, version_of, is_line_feed, is_tab}
use Rattle.page_engine_index.specs.Whatis.{Asked, rows, row_of}
use Rattle.page_engine_index.specs.Searches.{RowsTo, ReadWhole, Searches, SearchesOver, Stopped, Quiet, HasCause}
use Rattle.page_engine_index.specs.machine.Steps.{Here, TookLine, TookPart, TakesPart, TakesOpen, BreaksIn, LineStops, IsNext, index_at, StoppedIn, CameToBad, EndedWell, EndStops, Finishes, IsFresh, open_line}
use Rattle.page_engine_index.specs.declared.entries.Place.{Place}
use Rattle.page_engine_index.specs.declared.entries.Version.{Version}
use Rattle.page_engine_index.specs.declared.searches.Search.{Search}
use Rattle.std.specs.List.{flat_map, list_any, slice_split}
use Rattle.page_engine_index.specs.Matches.{IsMatch, begins_word, ends_word, folded, is_match, is_word_byte, matches_here, matches_in}
use Rattle.page_engine_index.specs.Records.{AreKept, IsKept, entry_line, is_end}
use Rattle.page_engine_index.specs.declared.entries.Version.TheVariants.{Two}

-- ---- entries and their rows

with_more : (xs ys : List Entry) (i : Index) → with_entries xs (with_entries ys i) ≡ with_entries (xs ++ ys) i
with_more xs ys i = ap (λ (es : List Entry). let r : Index = record { entries = es; bad = i.bad } in r) (sym (append_assoc xs ys i.entries))

rows_more : (q : Asked) (xs ys : List Entry) → rows q (xs ++ ys) ≡ rows q xs ++ rows q ys
rows_more q xs ys = flat_map-append (row_of q) xs ys

none_left : (version : Option Version) (n : ℕ) → index_from version n [] ≡ all_read
unfolding index_from
none_left None n = refl
none_left (Some v) n = refl

number_of : {m n : ℕ} → BadIndex m ≡ BadIndex n → m ≡ n
number_of e = cc

-- ---- before the first byte

pub here_start : {L : Type 0} (k : RowsTo L) (q : Asked) → IsSink k.to.gave k.to.within → (s : L) (run : Search) → IsFresh run → Here k q s s run []
unfolding open_line whole_lines
here_start k q laws s run f = grind arith

-- ---- a line that ends

whole_then : (bytes part : List ℕ) → HasNoFeed part → whole_lines (bytes ++ (part ++ 10 ∷ [])) ≡ whole_lines bytes ++ (open_line bytes ++ part) ∷ []
unfolding whole_lines
whole_then bytes part flat = grind (arith, whole-append, append_assoc, whole_end, no_feed-append, open_no_feed)

open_then : (bytes part : List ℕ) → HasNoFeed part → open_line (bytes ++ (part ++ 10 ∷ [])) ≡ []
unfolding open_line
open_then bytes part flat =
    let held = open_line bytes in
    open-append bytes (part ++ 10 ∷ []) ∙ (ap open_line (sym (append_assoc held part (10 ∷ [])))
    ∙ open_end (held ++ part) [] (no_feed-append held part (open_no_feed bytes) flat))

-- what an index holds, by what was read of it and what follows
split_lines : (bytes part rest : List ℕ) → HasNoFeed part → lines (bytes ++ (part ++ 10 ∷ rest)) ≡ whole_lines bytes ++ (open_line bytes ++ part) ∷ lines rest
split_lines bytes part rest flat = grind (arith, lines-append, append_assoc, lines_end, no_feed-append, open_no_feed)

-- where bytes and a chunk are followed by more
followed : (bytes chunk part rest more : List ℕ) → chunk ≡ part ++ 10 ∷ rest → (bytes ++ chunk) ++ more ≡ bytes ++ (part ++ 10 ∷ (rest ++ more))
followed bytes chunk part rest more e = grind (arith, append_assoc)

split_index : {L : Type 0} (k : RowsTo L) (q : Asked) (s t : L) (run : Search) (bytes chunk part rest more : List ℕ) (h : Here k q s t run bytes) → HasNoFeed part
    → chunk ≡ part ++ 10 ∷ rest
    → index ((bytes ++ chunk) ++ more) ≡ with_entries h.came (index_at run.place ((run.held ++ part) ∷ lines (rest ++ more)))
split_index k q s t run bytes chunk part rest more h flat e = grind (arith, common_steps, followed, split_lines)

pub line_here : {L : Type 0} (k : RowsTo L) (q : Asked) → IsSink k.to.gave k.to.within → (first s t : L) (run part_run run' : Search) (bytes part : List ℕ)
    → part_run ≡ record run { held = run.held ++ part } → HasNoFeed part → Here k q first s run bytes → TookLine k q part_run run' s t
    → Here k q first t run' (bytes ++ (part ++ 10 ∷ []))
line_here k q laws first s t run part_run run' bytes part is flat h w =
    let v = rw is at w in
    let open_is : run.held ++ part ≡ open_line bytes ++ part = ap (λ l. l ++ part) h.holds in
    let wholes = whole_then bytes part flat in record {
      came = h.came ++ v.entries;
      gave = rw rows_more (laws.more first s t (rows q h.came) (rows q v.entries) h.gave v.gave.0);
      quiet = v.gave.1 ∙ h.quiet;
      holds = v.empty ∙ sym (open_then bytes part flat);
      reads = λ later.
          ap (λ (l : List Line). index_from None 1 (l ++ later)) wholes
          ∙ (ap (index_from None 1) (append_assoc (whole_lines bytes) ((open_line bytes ++ part) ∷ []) later)
          ∙ (h.reads ((open_line bytes ++ part) ∷ later)
          ∙ (ap (λ l. with_entries h.came (index_at run.place (l ∷ later))) (sym open_is)
          ∙ (ap (with_entries h.came) (v.next later) ∙ with_more h.came v.entries (index_at run'.place later)))));
      lines = omega (arith, v.lines, h.lines, ap length wholes, length-append (whole_lines bytes) ((open_line bytes ++ part) ∷ []));
      count = omega (arith, v.count, h.count, ap length (rows_more q h.came v.entries), length-append (rows q h.came) (rows q v.entries));
      few = omega (arith, v.few, v.count, h.few, v.lines);
    }

pub line_stopped : {L : Type 0} (k : RowsTo L) (q : Asked) → IsSink k.to.gave k.to.within → (first s t : L) (run part_run : Search) (bytes chunk part rest : List ℕ)
    (fault : Fault) → part_run ≡ record run { held = run.held ++ part } → HasNoFeed part → chunk ≡ part ++ 10 ∷ rest → Here k q first s run bytes
    → LineStops k q part_run s t fault → StoppedIn k q first t (bytes ++ chunk) fault
line_stopped k q laws first s t run part_run bytes chunk part rest WriteText is flat e h w =
    let v = rw is at w in record {
      came = h.came ++ v.entries;
      gave = rw rows_more (laws.after first s t (rows q h.came) (rows q v.entries) h.gave v.breaks);
      cause = rw h.quiet at v.cause;
      front = λ more.
          let i = index_at v.after (lines (rest ++ more)) in (
            i.entries,
            ap (λ (x : Index). x.entries) (split_index k q first s run bytes chunk part rest more h flat e ∙ (ap (with_entries h.came) (v.next (lines (rest ++ more)))
                ∙ with_more h.came v.entries i)),
          );
    }
line_stopped k q laws first s t run part_run bytes chunk part rest (BadIndex n) is flat e h w =
    let v = rw is at w in
    let n_is : n ≡ run.place.lines + 1 = number_of v.0.0 in record {
      came = h.came;
      gave = rw v.1 h.gave;
      quiet = rw v.1 h.quiet;
      bad = λ more. rw n_is (split_index k q first s run bytes chunk part rest more h flat e ∙ ap (with_entries h.came) (v.0.1 (lines (rest ++ more))));
    }
line_stopped k q laws first s t run part_run bytes chunk part rest _ is flat e h w = absurd w

-- ---- a line with too many bytes

long_no_entry : (version : Version) (line : List ℕ) → LINE < length line → entry_of version line ≡ None
unfolding entry_of
long_no_entry version line h = rw (lt-leb (length line) LINE h) refl

other_length : (xs ys : List ℕ) (b : Bool) → bytes_eq xs ys ≡ b → length ys < length xs → b ≡ false
other_length xs ys true e h = let same = (bytes_eq-Decides xs ys).0 e in absurd (omega (arith, ap length same, h))
other_length xs ys false e h = refl

long_no_version : (line : List ℕ) → LINE < length line → version_of line ≡ None
unfolding version_of
long_no_version line h = grind (arith, other_length, codes)

long_bad_at : (version : Option Version) (n : ℕ) (line : List ℕ) (later : List Line) → LINE < length line → index_from version n (line ∷ later) ≡ bad_at n
unfolding index_from
long_bad_at None n line later h = rw (long_no_version line h) refl
long_bad_at (Some v) n line later h = rw (long_no_entry v line h) refl

long_lines_of : (xs rest : List ℕ) → HasNoFeed xs → LINE < length xs → (z : Line) × (zs : List Line) × (lines (xs ++ rest) ≡ (xs ++ z) ∷ zs)
long_lines_of [] rest flat h = absurd (omega (arith, h))
long_lines_of (x ∷ xs) rest flat h = lines_begun x xs rest flat

long_lines : (held part rest : List ℕ) → HasNoFeed (held ++ part) → LINE < length (held ++ part)
    → (z : Line) × (zs : List Line) × (lines ((held ++ part) ++ rest) ≡ ((held ++ part) ++ z) ∷ zs)
long_lines held part rest flat h = long_lines_of (held ++ part) rest flat h

long_index : {L : Type 0} (k : RowsTo L) (q : Asked) (s t : L) (run : Search) (bytes part rest : List ℕ) (h : Here k q s t run bytes) → HasNoFeed part
    → LINE < length (run.held ++ part) → index (bytes ++ (part ++ rest)) ≡ with_entries h.came (bad_at (run.place.lines + 1))
long_index k q s t run bytes part rest h flat long =
    let held = open_line bytes in
    let g : LINE < length (held ++ part) = rw h.holds at long in
    let w = long_lines held part rest (no_feed-append held part (open_no_feed bytes) flat) g in
    ap (index_from None 1) (lines-append bytes (part ++ rest) ∙ ap (λ (l : List Line). whole_lines bytes ++ l) (ap lines (sym (append_assoc held part rest)) ∙ w.2))
    ∙ (h.reads (((held ++ part) ++ w.0) ∷ w.1)
    ∙ ap (with_entries h.came) (long_bad_at run.place.version (run.place.lines + 1) ((held ++ part) ++ w.0) w.1 (omega (arith, g, length-append (held ++ part) w.0))))

pub long_stopped : {L : Type 0} (k : RowsTo L) (q : Asked) (first s : L) (run : Search) (bytes chunk part rest : List ℕ) (fault : Fault)
    → fault ≡ BadIndex (run.place.lines + 1) → HasNoFeed part → chunk ≡ part ++ rest → LINE < length (run.held ++ part) → Here k q first s run bytes
    → StoppedIn k q first s (bytes ++ chunk) fault
long_stopped k q first s run bytes chunk part rest fault is flat e long h = rw is (record {
  came = h.came;
  gave = h.gave;
  quiet = h.quiet;
  bad = λ more.
      ap index (append_assoc bytes chunk more ∙ ap (λ l. bytes ++ l) (ap (λ l. l ++ more) e ∙ append_assoc part rest more))
      ∙ long_index k q first s run bytes part (rest ++ more) h flat long;
})

-- ---- bytes without a line feed

pub flat_here : {L : Type 0} (k : RowsTo L) (q : Asked) (first s : L) (run run' : Search) (bytes part : List ℕ)
    → run' ≡ record run { held = run.held ++ part } → HasNoFeed part → Here k q first s run bytes → Here k q first s run' (bytes ++ part)
flat_here k q first s run run' bytes part is flat h = grind (arith, no_feed-append, open_no_feed, whole-append, whole_flat, append-nil, open-append, open_flat)

-- ---- the end

whole_of : {L : Type 0} (k : RowsTo L) (q : Asked) (s t : L) (run : Search) (bytes : List ℕ) (h : Here k q s t run bytes)
    → whole_index bytes ≡ with_entries h.came all_read
whole_of k q s t run bytes h =
    ap (index_from None 1) (sym (append-nil (whole_lines bytes)))
    ∙ (h.reads [] ∙ ap (with_entries h.came) (none_left run.place.version (run.place.lines + 1)))

entries_of : (xs : List Entry) (i : Index) → i ≡ with_entries xs all_read → i.entries ≡ xs
entries_of xs i e = ap (λ (x : Index). x.entries) e ∙ append-nil xs

pub read_whole : {L : Type 0} (k : RowsTo L) (q : Asked) (s t : L) (run : Search) (bytes : List ℕ) → Here k q s t run bytes → ReadWhole k.to s t q bytes
read_whole k q s t run bytes h =
    let e = whole_of k q s t run bytes h in record {
      gave = rw (entries_of h.came (whole_index bytes) e) h.gave;
      good = ap (λ (x : Index). x.bad) e;
    }

last_lines : (bytes : List ℕ) → lines bytes ≡ whole_lines bytes ++ lines (open_line bytes)
last_lines bytes = ap lines (sym (append-nil bytes)) ∙ (lines-append bytes [] ∙ ap (λ l. whole_lines bytes ++ lines l) (append-nil (open_line bytes)))

empty_index : {L : Type 0} (k : RowsTo L) (q : Asked) (s t : L) (run : Search) (bytes : List ℕ) (h : Here k q s t run bytes) → run.held ≡ []
    → index bytes ≡ with_entries h.came all_read
empty_index k q s t run bytes h e =
    let none : lines (open_line bytes) ≡ [] = ap lines (sym h.holds ∙ e) ∙ no_lines in
    ap (index_from None 1) (last_lines bytes ∙ (ap (λ (l : List Line). whole_lines bytes ++ l) none ∙ append-nil (whole_lines bytes)))
    ∙ whole_of k q s t run bytes h

pub end_empty : {L : Type 0} (k : RowsTo L) (q : Asked) (s t : L) (run : Search) (bytes : List ℕ) → run.held ≡ [] → Here k q s t run bytes
    → EndedWell k q s t bytes run.rows
end_empty k q s t run bytes e h =
    let i = empty_index k q s t run bytes h e in
    let came = entries_of h.came (index bytes) i in record {
      gave = rw came h.gave;
      quiet = h.quiet;
      count = rw came h.count;
      good = ap (λ (x : Index). x.bad) i;
    }

one_line : (held : List ℕ) → HasNoFeed held → ¬ (held ≡ []) → lines held ≡ held ∷ []
one_line [] flat some = absurd (some refl)
one_line (x ∷ xs) flat some = lines_flat x xs flat

last_index : {L : Type 0} (k : RowsTo L) (q : Asked) (s t : L) (run : Search) (bytes : List ℕ) (h : Here k q s t run bytes) → ¬ (run.held ≡ [])
    → index bytes ≡ with_entries h.came (index_at run.place (run.held ∷ []))
last_index k q s t run bytes h some = grind (arith, one_line, open_no_feed, last_lines)

pub end_line : {L : Type 0} (k : RowsTo L) (q : Asked) → IsSink k.to.gave k.to.within → (first s t : L) (run run' : Search) (bytes : List ℕ)
    → ¬ (run.held ≡ []) → TookLine k q run run' s t → Here k q first s run bytes → EndedWell k q first t bytes run'.rows
end_line k q laws first s t run run' bytes some v h =
    let i : index bytes ≡ with_entries (h.came ++ v.entries) all_read =
    last_index k q first s run bytes h some ∙ (ap (with_entries h.came) (v.next []) ∙ (with_more h.came v.entries (index_at run'.place [])
    ∙ ap (with_entries (h.came ++ v.entries)) (none_left run'.place.version (run'.place.lines + 1)))) in
    let came = entries_of (h.came ++ v.entries) (index bytes) i in record {
      gave = rw (came, rows_more) (laws.more first s t (rows q h.came) (rows q v.entries) h.gave v.gave.0);
      quiet = v.gave.1 ∙ h.quiet;
      count = rw came (omega (arith, v.count, h.count, ap length (rows_more q h.came v.entries), length-append (rows q h.came) (rows q v.entries)));
      good = ap (λ (x : Index). x.bad) i;
    }

pub end_stopped : {L : Type 0} (k : RowsTo L) (q : Asked) → IsSink k.to.gave k.to.within → (first s t : L) (run : Search) (bytes : List ℕ) (fault : Fault)
    → ¬ (run.held ≡ []) → LineStops k q run s t fault → Here k q first s run bytes → EndStops k q first t bytes fault
end_stopped k q laws first s t run bytes WriteText some v h =
    let i = last_index k q first s run bytes h some ∙ (ap (with_entries h.came) (v.next []) ∙ (with_more h.came v.entries (index_at v.after [])
    ∙ ap (with_entries (h.came ++ v.entries)) (none_left v.after.version (v.after.lines + 1)))) in
    let came = entries_of (h.came ++ v.entries) (index bytes) i in
    (rw (came, rows_more) (laws.after first s t (rows q h.came) (rows q v.entries) h.gave v.breaks), rw h.quiet at v.cause)
end_stopped k q laws first s t run bytes (BadIndex n) some v h =
    let i : index bytes ≡ with_entries h.came (bad_at (run.place.lines + 1)) = last_index k q first s run bytes h some ∙ ap (with_entries h.came) (v.0.1 []) in
    let came = ap (λ (x : Index). x.entries) i ∙ append-nil h.came in
    (rw (came, v.1) h.gave, ap (λ (x : Index). x.bad) i ∙ ap (λ (m : ℕ). Some m) (sym (number_of v.0.0)), rw v.1 h.quiet)
end_stopped k q laws first s t run bytes _ some v h = absurd v

-- ---- what a search did

-- a part of a chunk
pub part_of : (xs ys zs : List ℕ) (n : ℕ) → xs ≡ ys ++ zs → xs ≡ (ys ++ take n zs) ++ drop n zs
part_of xs ys zs n h = h ∙ (ap (λ l. ys ++ l) (sym (take-append-drop n zs)) ∙ sym (append_assoc ys (take n zs) (drop n zs)))

pub all_done : (xs ys zs : List ℕ) → xs ≡ ys ++ zs → length zs ≤ 0 → xs ≡ ys
all_done xs ys [] h none = h ∙ append-nil ys
all_done xs ys (z ∷ zs) h none = absurd (omega (arith, none))

pub here_more : {L : Type 0} (k : RowsTo L) (q : Asked) (s t : L) (run : Search) (xs ys zs : List ℕ) → Here k q s t run ((xs ++ ys) ++ zs) → Here k q s t run (xs ++ (ys ++ zs))
here_more k q s t run xs ys zs h = rw (← append_assoc xs ys zs) h

pub stopped_at : {L : Type 0} (k : RowsTo L) (q : Asked) (s t : L) (bytes chunk done rest : List ℕ) (fault : Fault) → chunk ≡ done ++ rest
    → StoppedIn k q s t ((bytes ++ done) ++ rest) fault → StoppedIn k q s t (bytes ++ chunk) fault
stopped_at k q s t bytes chunk done rest fault e w = rw e (rw (← append_assoc bytes done rest) w)

-- at the end
abbrev pub Over : {L : Type 0} → Result ℕ Fault → RowsTo L → SourceState → SourceState → L → L → Asked → ℕ → List ℕ → Type 0
Over res k a b s t q asked bytes = Searches res k.to s t q bytes b.remaining × MatchResult res (λ _. Quiet k a b s t) (λ fault. HasCause k a b s t asked bytes fault)

pub over_end : {L : Type 0} (res : Result ℕ Fault) (k : RowsTo L) (a b : SourceState) (first s t : L) (q : Asked) (run : Search) (asked : ℕ) (bytes : List ℕ)
    → IsAtEnd b.remaining → b.failed ≡ a.failed → Here k q first s run bytes → Finishes res k q run s t → Over res k a b first t q asked bytes
over_end (Ok n) k a b first s t q run asked bytes all quiet h f =
    let w = f first bytes h in
    (record { gave = w.gave; count = w.count; good = w.good; all = all }, record { source = quiet; rows = w.quiet })
over_end (Err WriteText) k a b first s t q run asked bytes all quiet h f = let w = f first bytes h in (w.0, (quiet, w.1))
over_end (Err (BadIndex n)) k a b first s t q run asked bytes all quiet h f =
    let w = f first bytes h in (record { gave = w.0; bad = w.1; stays = inl all }, record { source = quiet; rows = w.2 })
over_end (Err Memory) k a b first s t q run asked bytes all quiet h f = absurd (f first bytes h)
over_end (Err Read) k a b first s t q run asked bytes all quiet h f = absurd (f first bytes h)
over_end (Err WriteNotes) k a b first s t q run asked bytes all quiet h f = absurd (f first bytes h)
over_end (Err TooLong) k a b first s t q run asked bytes all quiet h f = absurd (f first bytes h)
over_end (Err (Settings x)) k a b first s t q run asked bytes all quiet h f = absurd (f first bytes h)
over_end (Err Failed) k a b first s t q run asked bytes all quiet h f = absurd (f first bytes h)
over_end (Err Ended) k a b first s t q run asked bytes all quiet h f = absurd (f first bytes h)

-- in the middle
nil_index : (bytes : List ℕ) → index (bytes ++ []) ≡ index bytes
nil_index bytes = ap index (append-nil bytes)

pub over_stopped : {L : Type 0} (fault : Fault) (k : RowsTo L) → IsSink k.to.gave k.to.within → (a b : SourceState) (s t : L) (q : Asked) (asked : ℕ) (bytes : List ℕ)
    → b.failed ≡ a.failed → StoppedIn k q s t bytes fault → Stopped k.to s t q bytes b.remaining fault × HasCause k a b s t asked bytes fault
over_stopped WriteText k laws a b s t q asked bytes quiet w =
    let f = w.front [] in
    let e : (index bytes).entries ≡ w.came ++ f.0 = ap (λ (x : Index). x.entries) (sym (nil_index bytes)) ∙ f.1 in
    let front : k.to.within s (rows q (w.came ++ f.0)) t = rw rows_more (laws.before s t (rows q w.came) (rows q f.0) w.gave) in
    (subst (λ (es : List Entry). k.to.within s (rows q es) t) (sym e) front, (quiet, w.cause))
over_stopped (BadIndex n) k laws a b s t q asked bytes quiet w =
    let e : index bytes ≡ with_entries w.came (bad_at n) = sym (nil_index bytes) ∙ w.bad [] in
    let came : (index bytes).entries ≡ w.came = ap (λ (x : Index). x.entries) e ∙ append-nil w.came in (
      record { gave = subst (λ (es : List Entry). k.to.gave s (rows q es) t) (sym came) w.gave; bad = ap (λ (x : Index). x.bad) e; stays = inr (λ more. w.bad more ∙ sym e) },
      record { source = quiet; rows = w.quiet },
    )
over_stopped _ k laws a b s t q asked bytes quiet w = absurd w

-- by a fault of the source
pub over_fault : {L : Type 0} (fault : Fault) (k : RowsTo L) (a b : SourceState) (s t : L) (q : Asked) (run : Search) (bytes : List ℕ)
    → Stops a b bytes fault → Here k q s t run bytes → (all : List ℕ) × SearchesOver (Err fault) k a b s t q all
over_fault Read k a b s t q run bytes w h = (
  bytes,
  record { asked = w.0; few = w.1.few; source = w.1.source; lean = w.1.lean; ends = read_whole k q s t run bytes h; cause = (w.2, h.quiet) },
)
over_fault TooLong k a b s t q run bytes w h = (
  w.1,
  record {
    asked = w.0;
    few = w.2.few;
    source = w.2.source;
    lean = w.2.lean;
    ends = rw w.4 (read_whole k q s t run bytes h);
    cause = (w.3, record { source = w.5; rows = h.quiet });
  },
)
over_fault _ k a b s t q run bytes w h = absurd w

-- ---- the code's steps

pub no_feed_in : (chunk : List ℕ) → IsFirstByte (is_byte 10) chunk None → HasNoFeed chunk
no_feed_in chunk h = no_feed_all chunk (rw (take_all (length chunk) chunk (omega arith)) at (front_none 10 chunk (length chunk) (omega arith) h))

pub no_feed_before : (chunk : List ℕ) (n : ℕ) → IsFirstByte (is_byte 10) chunk (Some n) → HasNoFeed (take n chunk)
no_feed_before chunk n h = no_feed_all (take n chunk) (front_none 10 chunk n (omega (arith, h.0.high)) h.0.before)

feed_at : (chunk : List ℕ) (n : ℕ) → IsFirstByte (is_byte 10) chunk (Some n) → chunk ≡ take n chunk ++ 10 ∷ drop (n + 1) chunk
feed_at chunk n h = grind (arith, split_at, eqb-true)

taken_line : (chunk : List ℕ) (n : ℕ) → IsFirstByte (is_byte 10) chunk (Some n) → take (n + 1) chunk ≡ take n chunk ++ 10 ∷ []
taken_line chunk n h = grind (arith, common_steps, length-append, length-take, feed_at, append_assoc, take_at)

-- more than a line may hold
pub no_room : (held more : List ℕ) → false ≡ nat_le (length more) (LINE - length held) → LINE < length (held ++ more)
no_room held more full = grind (arith, nat_tests, full, length-append held more)

pub part_open : {L : Type 0} (res : Result ℕ Fault) (k : RowsTo L) (q : Asked) (run run' : Search) (s : L) (chunk : List ℕ) → HasNoFeed chunk → 0 < length chunk
    → run.rows ≤ run.place.lines → TakesOpen res run run' chunk → TakesPart res k q run run' s s chunk
part_open (Ok n) k q run run' s chunk flat some few w = grind (arith, take_all, flat_here)
part_open (Err fault) k q run run' s chunk flat some few w = λ first bytes h.
    long_stopped k q first s run bytes chunk chunk [] fault w.0 flat (sym (append-nil chunk)) w.1 h

pub part_long : {L : Type 0} (k : RowsTo L) (q : Asked) (first s : L) (run : Search) (bytes chunk : List ℕ) (n : ℕ) → IsFirstByte (is_byte 10) chunk (Some n)
    → LINE < length (run.held ++ take n chunk) → Here k q first s run bytes → CameToBad k q first s (bytes ++ chunk) (run.place.lines + 1)
part_long k q first s run bytes chunk n is long h =
    long_stopped k q first s run bytes chunk (take n chunk) (drop n chunk) (BadIndex (run.place.lines + 1)) refl (no_feed_before chunk n is)
    (sym (take-append-drop n chunk)) long h

pub part_line : {L : Type 0} (k : RowsTo L) (q : Asked) → IsSink k.to.gave k.to.within → (run run' : Search) (held : List ℕ) (s t : L) (chunk : List ℕ) (n : ℕ)
    → IsFirstByte (is_byte 10) chunk (Some n) → held ≡ run.held ++ take n chunk → run.rows ≤ run.place.lines → TookLine k q (record run { held = held }) run' s t
    → TookPart k q run run' s t chunk (n + 1)
part_line k q laws run run' held s t chunk n is e few w = record {
  some = omega arith;
  most = omega (arith, is.0.high);
  lines = omega (arith, w.lines);
  few = omega (arith, w.few, w.count, few, w.lines);
  here = λ first bytes h. rw (taken_line chunk n is) (line_here k q laws first s t run (record run { held = held }) run' bytes (take n chunk)
      (ap (λ (l : List ℕ). record run { held = l }) e) (no_feed_before chunk n is) h w);
}

pub part_stopped : {L : Type 0} (k : RowsTo L) (q : Asked) → IsSink k.to.gave k.to.within → (run : Search) (held : List ℕ) (first s t : L) (bytes chunk : List ℕ) (n : ℕ)
    (fault : Fault) → IsFirstByte (is_byte 10) chunk (Some n) → held ≡ run.held ++ take n chunk → LineStops k q (record run { held = held }) s t fault
    → Here k q first s run bytes → StoppedIn k q first t (bytes ++ chunk) fault
part_stopped k q laws run held first s t bytes chunk n fault is e w h =
    line_stopped k q laws first s t run (record run { held = held }) bytes chunk (take n chunk) (drop (n + 1) chunk) fault
    (ap (λ (l : List ℕ). record run { held = l }) e) (no_feed_before chunk n is) (feed_at chunk n is) h w

pub line_broke : {L : Type 0} (k : RowsTo L) (q : Asked) (run : Search) (after : Place) (s t : L) (entries : List Entry) (fault : Fault)
    → IsNext run.place after run.held entries → BreaksIn k s t (rows q entries) fault → LineStops k q run s t fault
line_broke k q run after s t entries fault next w =
    rw w.0 (record { entries = entries; after = after; next = next; breaks = w.1; cause = w.2 })

pub empty_of : (xs : List ℕ) → length xs ≤ 0 → xs ≡ []
empty_of [] h = refl
empty_of (x ∷ xs) h = absurd (omega (arith, h))

pub not_empty : (xs : List ℕ) → 0 < length xs → ¬ (xs ≡ [])
not_empty xs h = λ e. absurd (omega (arith, h, ap length e))

-- ---- What the test of a word says, and what an index that was written holds.

-- ---- a word in a name

-- it occurs after a byte that is one of a word or not
record Occurs (word : List ℕ) (before : Bool) (text : List ℕ) : Type 0 where
  front : List ℕ
  found : List ℕ
  rest : List ℕ
  parts : text ≡ front ++ (found ++ rest)
  same : folded found ≡ folded word
  left : ends_word before front ≡ false
  right : begins_word rest ≡ false

and_first : (a b : Bool) → (a && b) ≡ true → a ≡ true
and_first true b e = refl
and_first false b e = absurd (false≢true e)

and_second : (a b : Bool) → (a && b) ≡ true → b ≡ true
and_second true b e = e
and_second false b e = absurd (false≢true e)

not_true : (b : Bool) → not b ≡ true → b ≡ false
not_true true e = absurd (false≢true e)
not_true false e = refl

here_sound : (word : List ℕ) (before : Bool) (text : List ℕ) → matches_here word before text ≡ true → Occurs word before text
here_sound word before text e =
    let same = and_second (not before) _ e in record {
      front = [];
      found = take (length word) text;
      rest = drop (length word) text;
      parts = sym (take-append-drop (length word) text);
      same = (bytes_eq-Decides (folded (take (length word) text)) (folded word)).0 (and_first (bytes_eq (folded (take (length word) text)) (folded word)) _ same);
      left = not_true before (and_first (not before) _ e);
      right = not_true (begins_word (drop (length word) text)) (and_second (bytes_eq (folded (take (length word) text)) (folded word)) _ same);
    }

later : (word : List ℕ) (before : Bool) (byte : ℕ) (bytes : List ℕ) → Occurs word (is_word_byte byte) bytes → Occurs word before (byte ∷ bytes)
later word before byte bytes o =
    record { front = byte ∷ o.front; found = o.found; rest = o.rest; parts = ap (λ l. byte ∷ l) o.parts; same = o.same; left = o.left; right = o.right }

or_else : (a b : Bool) → (a || b) ≡ true → a ≡ false → b ≡ true
or_else true b e f = absurd (false≢true (sym f))
or_else false b e f = e

in_sound : (word : List ℕ) (before : Bool) (text : List ℕ) → matches_in word before text ≡ true → Occurs word before text
unfolding matches_in
in_sound word before [] e = here_sound word before [] e
in_sound word before (byte ∷ bytes) e = elim (cases_Bool (matches_here word before (byte ∷ bytes))) [
  | inl t ↦ here_sound word before (byte ∷ bytes) t
  | inr f ↦ later word before byte bytes (in_sound word (is_word_byte byte) bytes (or_else (matches_here word before (byte ∷ bytes)) _ e f))
]

pub match_sound : (word name : List ℕ) → is_match word name ≡ true → IsMatch word name
match_sound word name e =
    let o = in_sound word false name e in
    record { before = o.front; found = o.found; after = o.rest; parts = o.parts; same = o.same; left = o.left; right = o.right }

length-folded : (xs : List ℕ) → length (folded xs) ≡ length xs
length-folded [] = refl
length-folded (x ∷ xs) = ap suc (length-folded xs)

drop_front : (xs ys : List ℕ) → drop (length xs) (xs ++ ys) ≡ ys
drop_front [] ys = refl
drop_front (x ∷ xs) ys = drop_front xs ys

here_complete : (word : List ℕ) (before : Bool) (found rest : List ℕ) → folded found ≡ folded word → before ≡ false → begins_word rest ≡ false
    → matches_here word before (found ++ rest) ≡ true
here_complete word before found rest same left right = grind (arith, length-folded, take_at, drop_front, bytes_eq-Decides)

in_here : (word : List ℕ) (before : Bool) (text : List ℕ) → matches_here word before text ≡ true → matches_in word before text ≡ true
unfolding matches_in
in_here word before [] e = e
in_here word before (byte ∷ bytes) e = ap (λ (b : Bool). b || matches_in word (is_word_byte byte) bytes) e

or_true : (a : Bool) → (a || true) ≡ true
or_true true = refl
or_true false = refl

in_complete : (word : List ℕ) (before : Bool) (front found rest : List ℕ) → folded found ≡ folded word → ends_word before front ≡ false → begins_word rest ≡ false
    → matches_in word before (front ++ (found ++ rest)) ≡ true
unfolding matches_in
in_complete word before [] found rest same left right = in_here word before (found ++ rest) (here_complete word before found rest same left right)
in_complete word before (x ∷ xs) found rest same left right = grind (arith, or_true, in_complete word (is_word_byte x) xs found rest same left right)

pub match_complete : (word name : List ℕ) → IsMatch word name → is_match word name ≡ true
match_complete word name m = ap (matches_in word false) m.parts ∙ in_complete word false m.before m.found m.after m.same m.left m.right

-- ---- an index that was written

-- the line of an entry without its line feed
text_of : Entry → List ℕ
text_of e = e.names ++ (9 ∷ (e.section ++ (9 ∷ (e.description ++ (9 ∷ e.file)))))

line_text : (e : Entry) (rest : List ℕ) → entry_line e ++ rest ≡ text_of e ++ 10 ∷ rest
unfolding text_of
line_text e rest = simp append_assoc

line_length : (e : Entry) → length (entry_line e) ≡ length (text_of e) + 1
line_length e =
    let k = line_text e [] in omega (arith, ap length k, length-append (entry_line e) [], length-append (text_of e) (10 ∷ []))

either_false : (a b : Bool) → (a || b) ≡ false → (a ≡ false) × (b ≡ false)
either_false true b e = absurd (false≢true (sym e))
either_false false b e = (refl, e)

no_feed_of_end : (xs : List ℕ) → list_any is_end xs ≡ false → HasNoFeed xs
no_feed_of_end [] h = refl
no_feed_of_end (x ∷ xs) h =
    let p = either_false (is_end x) _ h in
    rw (either_false (is_tab x) (is_line_feed x) p.0).1 (no_feed_of_end xs p.1)

no_tab_of_end : (xs : List ℕ) → list_any is_end xs ≡ false → slice_split is_tab xs ≡ xs ∷ []
no_tab_of_end [] h = refl
no_tab_of_end (x ∷ xs) h =
    let p = either_false (is_end x) _ h in
    rw ((either_false (is_tab x) (is_line_feed x) p.0).0, no_tab_of_end xs p.1) refl

split_field : (xs rest : List ℕ) → list_any is_end xs ≡ false → slice_split is_tab (xs ++ 9 ∷ rest) ≡ xs ∷ slice_split is_tab rest
split_field [] rest h = refl
split_field (x ∷ xs) rest h =
    let p = either_false (is_end x) _ h in
    rw ((either_false (is_tab x) (is_line_feed x) p.0).0, split_field xs rest p.1) refl

text_fields : (e : Entry) → IsKept e → slice_split is_tab (text_of e) ≡ e.names ∷ e.section ∷ e.description ∷ e.file ∷ []
unfolding text_of
text_fields e k = grind (arith, split_field, no_tab_of_end)

text_flat : (e : Entry) → IsKept e → HasNoFeed (text_of e)
unfolding text_of
text_flat e k = grind (arith, no_feed_of_end, no_feed-append)

text_entry : (e : Entry) → IsKept e → entry_of Two (text_of e) ≡ Some e
unfolding entry_of
text_entry e k = grind (arith, text_of, le-leb, line_length, text_fields)

written_lines : (es : List Entry) → AreKept es → lines (flat_map entry_line es) ≡ map text_of es
written_lines [] k = no_lines
written_lines (e ∷ es) k = grind (arith, line_text, lines_end, text_of, text_flat, written_lines es k.1)

index_next : (n : ℕ) (line : List ℕ) (later : List Line) (e : Entry) → entry_of Two line ≡ Some e
    → index_from (Some Two) n (line ∷ later) ≡ with_entries (e ∷ []) (index_from (Some Two) (n + 1) later)
unfolding index_from
index_next n line later e is = rw is refl

index_done : (n : ℕ) → index_from (Some Two) n [] ≡ all_read
unfolding index_from
index_done n = refl

kept_index : (n : ℕ) (es : List Entry) → AreKept es → index_from (Some Two) n (map text_of es) ≡ with_entries es all_read
kept_index n [] k = index_done n
kept_index n (e ∷ es) k =
    index_next n (text_of e) (map text_of es) e (text_entry e k.0) ∙ ap (with_entries (e ∷ [])) (kept_index (n + 1) es k.1)

version_two : version_of (codes "whatis 2") ≡ Some Two
unfolding version_of
version_two = refl

index_first : (later : List Line) → index_from None 1 (codes "whatis 2" ∷ later) ≡ index_from (Some Two) 2 later
unfolding index_from
index_first later = rw version_two refl

nothing_more : (es : List Entry) → with_entries es all_read ≡ record { entries = es; bad = None }
nothing_more es = ap (λ (l : List Entry). let i : Index = record { entries = l; bad = None } in i) (append-nil es)

pub reads_back : (es : List Entry) → AreKept es → index (codes "whatis 2\n" ++ flat_map entry_line es) ≡ record { entries = es; bad = None }
reads_back es k =
    ap (index_from None 1) (lines_end (codes "whatis 2") (flat_map entry_line es) refl ∙ ap (λ (l : List Line). codes "whatis 2" ∷ l) (written_lines es k))
    ∙ (index_first (map text_of es) ∙ (kept_index 2 es k ∙ nothing_more es))
