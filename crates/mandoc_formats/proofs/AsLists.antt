-- What a run gave to writers, as lists, and why it ended by a fault.
use Rattle.std.proofs.Common.{◌≡◌, ℕ, Bool, true, List, [], Option, Some, Result, Ok, Err, inl, inr, refl, take, ◌^◌, ◌-◌, arith}
use Rattle.std.specs.List.{flat_map}
use Rattle.page_core_base.specs.Rows.{Laid, nothing}
use Rattle.page_core_base.specs.declared.faults.Fault.{Fault}
use Rattle.page_core_base.specs.declared.faults.Fault.TheVariants.{Memory, Read, WriteText, WriteNotes, TooLong, Settings, Failed, Ended, BadIndex}
use Rattle.page_core_base.specs.declared.page_settings.Settings.{Settings as PageSettings}
use Rattle.page_core_streams.specs.Streams.{Grows, SourceState, row_bytes, message_bytes}
use Rattle.page_engine.specs.declared.runs.Outcome.{Outcome}
use Rattle.page_engine.specs.Runs.{Runs, RunsOver, whole_page, settled_page, Streams, writers, AllCame, FrontCame}
use Rattle.page_engine.specs.Edges.{Edge, start}
use Rattle.mandoc_formats.specs.Formats.{Causes, HasCause, HasFailed, causes}

-- streams of lists
abbrev lists : List ℕ → Streams (List ℕ) (List ℕ)
lists name = writers Some Some name

pub record AsLists {R N : Type 0} (c : R → Option (List ℕ)) (d : N → Option (List ℕ)) (name : List ℕ) (result : Result Outcome Fault)
    (r r' : R) (n n' : N) (settings : PageSettings) (bytes : List ℕ) (after : Option (List ℕ)) : Type 0 where
  pub rows : List ℕ
  pub notes : List ℕ
  pub rows_came : Grows (c r) (c r') rows
  pub notes_came : Grows (d n) (d n') notes
  pub runs : Runs result (lists name) [] rows [] notes settings bytes after

module _ {R N : Type 0} (c : R → Option (List ℕ)) (d : N → Option (List ℕ)) (name : List ℕ) (r r' : R) (n n' : N) where
  all_lists : (laid : Laid Edge) → AllCame (lists name) [] (flat_map row_bytes laid.rows) [] (flat_map (message_bytes name) laid.notes) laid
  all_lists laid = record { rows = refl; notes = refl }

  front_lists : (laid : Laid Edge) (h : FrontCame (writers c d name) r r' n n' laid) → FrontCame (lists name) [] h.rows.done [] h.notes.done laid
  front_lists laid h = record {
    rows = record { done = h.rows.done; rest = h.rows.rest; parts = h.rows.parts; grows = refl };
    notes = record { done = h.notes.done; rest = h.notes.rest; parts = h.notes.parts; grows = refl };
  }

  pub as_lists : (result : Result Outcome Fault) (settings : PageSettings) (bytes : List ℕ) (after : Option (List ℕ))
      → Runs result (writers c d name) r r' n n' settings bytes after → AsLists c d name result r r' n n' settings bytes after
  as_lists (Ok outcome) settings bytes after h = record {
    rows = flat_map row_bytes (whole_page settings bytes).rows;
    notes = flat_map (message_bytes name) (whole_page settings bytes).notes;
    rows_came = h.gave.rows;
    notes_came = h.gave.notes;
    runs = record { gave = all_lists (whole_page settings bytes); worst = h.worst; source = h.source; counts = h.counts; good = h.good; all = h.all };
  }
  as_lists (Err Memory) settings bytes after h = record {
    rows = [];
    notes = [];
    rows_came = h.2.rows;
    notes_came = h.2.notes;
    runs = (h.0, h.1, all_lists (nothing (start settings)));
  }
  as_lists (Err Read) settings bytes after h = record {
    rows = flat_map row_bytes (settled_page settings bytes).rows;
    notes = flat_map (message_bytes name) (settled_page settings bytes).notes;
    rows_came = h.1.rows;
    notes_came = h.1.notes;
    runs = (h.0, all_lists (settled_page settings bytes));
  }
  as_lists (Err TooLong) settings bytes after h = record {
    rows = flat_map row_bytes (settled_page settings (take (2 ^ 31 - 1) bytes)).rows;
    notes = flat_map (message_bytes name) (settled_page settings (take (2 ^ 31 - 1) bytes)).notes;
    rows_came = h.1.rows;
    notes_came = h.1.notes;
    runs = (h.0, all_lists (settled_page settings (take (2 ^ 31 - 1) bytes)));
  }
  as_lists (Err WriteText) settings bytes after h = record {
    rows = h.1.rows.done;
    notes = h.1.notes.done;
    rows_came = h.1.rows.grows;
    notes_came = h.1.notes.grows;
    runs = (h.0, front_lists (whole_page settings bytes) h.1);
  }
  as_lists (Err WriteNotes) settings bytes after h = record {
    rows = h.1.rows.done;
    notes = h.1.notes.done;
    rows_came = h.1.rows.grows;
    notes_came = h.1.notes.grows;
    runs = (h.0, front_lists (whole_page settings bytes) h.1);
  }
  as_lists (Err (Settings fault)) settings bytes after h = record {
    rows = [];
    notes = [];
    rows_came = h.2.rows;
    notes_came = h.2.notes;
    runs = (h.0, h.1, all_lists (nothing (start settings)));
  }
  as_lists (Err Failed) settings bytes after h = absurd h
  as_lists (Err Ended) settings bytes after h = absurd h
  as_lists (Err (BadIndex line)) settings bytes after h = absurd h

-- ---- why a run ended by a fault

module _ {I W V : Type 0} (state : I → SourceState) (f : W → ℕ) (h : V → ℕ) (to : Streams W V) (a b : I) (w w' : W) (v v' : V) (settings : PageSettings) (ci cw cv : Bool) where
  abbrev Over : Result Outcome Fault → Type 0
  Over result = ci ≡ true → cw ≡ true → cv ≡ true → (bytes : List ℕ)
      × RunsOver result (record { to = to; rows_failed = f; notes_failed = h }) (state a) (state b) w w' v v' settings bytes

  pub caused : (result : Result Outcome Fault) → Over result → HasCause (causes ci cw cv state f h) result
  caused (Err Read) r = λ k. record { before = a; after = b; rose = (r k.0 k.1 k.2).1.cause }
  caused (Err TooLong) r = λ k. let o = r k.0 k.1 k.2 in record { before = a; after = b; asked = o.1.asked; bytes = o.0; given = o.1.source; is = o.1.cause }
  caused (Err WriteText) r = λ k. inl (record { before = w; after = w'; rose = (r k.0 k.1 k.2).1.cause.cause })
  caused (Err WriteNotes) r = λ k. inr (record { before = v; after = v'; rose = (r k.0 k.1 k.2).1.cause.cause })
  caused (Ok outcome) r = tt
  caused (Err Memory) r = tt
  caused (Err (Settings why)) r = tt
  caused (Err Failed) r = tt
  caused (Err Ended) r = tt
  caused (Err (BadIndex line)) r = tt

-- where each cause follows from another
pub caused_so : (p q : Causes) → (p.unread → q.unread) → (p.too_long → q.too_long) → (p.unwritten → q.unwritten) → (result : Result Outcome Fault)
    → HasCause p result → HasCause q result
caused_so p q i j k (Err Read) c = i c
caused_so p q i j k (Err TooLong) c = j c
caused_so p q i j k (Err WriteText) c = k c
caused_so p q i j k (Err WriteNotes) c = k c
caused_so p q i j k (Ok outcome) c = tt
caused_so p q i j k (Err Memory) c = tt
caused_so p q i j k (Err (Settings why)) c = tt
caused_so p q i j k (Err Failed) c = tt
caused_so p q i j k (Err Ended) c = tt
caused_so p q i j k (Err (BadIndex line)) c = tt

-- what takes bytes, and keeps none, never fails
pub never : {S : Type 0} (P : Type 0) → HasFailed {S = S} true (λ _. 0) → P
never P h = absurd (omega (arith, h.rose (omega arith)))
