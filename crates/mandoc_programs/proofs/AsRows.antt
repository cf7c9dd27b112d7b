-- What a search gave to a writer, as a list, and why it ended by a fault.
use Rattle.std.proofs.Common.{◌≡◌, Bool, true, false, map, sym, subst, ℕ, List, [], Option, Some, Result, Ok, Err, refl, take, ◌^◌, ◌-◌}
use Rattle.std.specs.Prelude.{option_map, if◌then◌else◌}
use Rattle.std.specs.Borrow.{Bor}
use Rattle.std.specs.List.{flat_map}
use Rattle.page_core_base.specs.declared.faults.Fault.{Fault}
use Rattle.page_core_base.specs.declared.faults.Fault.TheVariants.{Memory, Read, WriteText, WriteNotes, TooLong, Settings, Failed, Ended, BadIndex}
use Rattle.page_core_streams.specs.Streams.{Grows, SourceState}
use Rattle.page_engine_index.specs.Entries.{index, whole_index}
use Rattle.page_engine_index.specs.Searches.{Rows, Searches, SearchesOver, counting}
use Rattle.page_engine_index.specs.Whatis.{Asked, asked, rows}
use Rattle.page_engine_index.specs.Written.{written}
use Rattle.page_engine_index.specs.declared.queries.Show.{Show}
use Rattle.page_engine_index.specs.declared.queries.Show.TheVariants as show
use Rattle.mandoc_command.specs.Line.{Searches as Wanted}
use Rattle.mandoc_formats.specs.Formats.{HasCause}
use Rattle.mandoc_programs.specs.Searches.{asked_by, index_causes, printed, prints}

module _ {W : Type 0} (c : W → Option (List ℕ)) (show : Show) (w w' : W) (q : Asked) (bytes : List ℕ) (after : Option (List ℕ)) where
  pub as_rows : (result : Result ℕ Fault) → Searches result (prints show c) w w' q bytes after
      → (came : List ℕ) × Grows (c w) (c w') came × Searches result (prints show Some) [] came q bytes after
  as_rows (Ok number) h =
      (flat_map (printed show) (rows q (index bytes).entries), h.gave, record { gave = refl; count = h.count; good = h.good; all = h.all })
  as_rows (Err Memory) h = ([], h.1, (h.0, refl))
  as_rows (Err Read) h = (flat_map (printed show) (rows q (whole_index bytes).entries), h.gave, record { gave = refl; good = h.good })
  as_rows (Err TooLong) h =
      (flat_map (printed show) (rows q (whole_index (take (2 ^ 31 - 1) bytes)).entries), h.gave, record { gave = refl; good = h.good })
  as_rows (Err WriteText) h = (h.done, h.grows, record { done = h.done; rest = h.rest; parts = h.parts; grows = refl })
  as_rows (Err (BadIndex number)) h =
      (flat_map (printed show) (rows q (index bytes).entries), h.gave, record { gave = refl; bad = h.bad; stays = h.stays })
  as_rows (Err WriteNotes) h = absurd h
  as_rows (Err (Settings fault)) h = absurd h
  as_rows (Err Failed) h = absurd h
  as_rows (Err Ended) h = absurd h

-- entries that were looked for by words and a section that are borrowed
pub entries_asked : {W : Type 0} (c : W → Option (List ℕ)) (w w' : W) (words : List (Bor (List ℕ))) (section : Option (Bor (List ℕ))) (wanted : Wanted)
    (bytes : List ℕ) (after : Option (List ℕ)) (result : Result ℕ Fault)
    → map (λ word. word.now) words ≡ wanted.words → option_map (λ text. text.now) section ≡ wanted.section → wanted.shows_files ≡ false
    → Searches result (written c) w w' (asked words section show.Entry) bytes after → Searches result (prints (asked_by wanted).show c) w w' (asked_by wanted) bytes after
entries_asked c w w' words section wanted bytes after result ew es ef h =
    let entry = sym ef in
    subst (λ (q : Asked). Searches result (prints q.show c) w w' q bytes after)
    (λ i. record { words = ew i; section = es i; show = if entry i then show.File else show.Entry }) h

-- files are looked for
pub no_entry : (files : Bool) → files ≡ true → (if files then show.File else show.Entry) ≡ show.Entry → ⊥
no_entry true t e = cc
no_entry false t e = cc

-- why a search ended by a fault
pub search_caused : {I W : Type 0} (state : I → SourceState) (f : W → ℕ) (to : Rows W) (a b : I) (w w' : W) (q : Asked) (ci cw : Bool) (result : Result ℕ Fault)
    → (ci ≡ true → cw ≡ true → (bytes : List ℕ) × SearchesOver result (counting to f) (state a) (state b) w w' q bytes) → HasCause (index_causes ci cw state f) result
search_caused state f to a b w w' q ci cw (Err Read) r = λ k. record { before = a; after = b; rose = (r k.0 k.1).1.cause.0 }
search_caused state f to a b w w' q ci cw (Err TooLong) r =
    λ k. let o = r k.0 k.1 in record { before = a; after = b; asked = o.1.asked; bytes = o.0; given = o.1.source; is = o.1.cause.0 }
search_caused state f to a b w w' q ci cw (Err WriteText) r = λ k. record { before = w; after = w'; rose = (r k.0 k.1).1.cause.1 }
search_caused state f to a b w w' q ci cw (Err WriteNotes) r = λ k. absurd (r k.0 k.1).1.cause
search_caused state f to a b w w' q ci cw (Ok number) r = tt
search_caused state f to a b w w' q ci cw (Err Memory) r = tt
search_caused state f to a b w w' q ci cw (Err (Settings fault)) r = tt
search_caused state f to a b w w' q ci cw (Err Failed) r = tt
search_caused state f to a b w w' q ci cw (Err Ended) r = tt
search_caused state f to a b w w' q ci cw (Err (BadIndex line)) r = tt
