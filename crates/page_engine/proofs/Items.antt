-- One item through a filler.
use Rattle.std.proofs.Common.{◌≡◌, ℕ, List, [], ◌∷◌, Option, None, Some, IfSome, length, map, Bool, true, false, Result, Ok, Err, MatchResult, OnOk, refl, ap, append-nil, length-append, ◌∙◌, arith, ◌+◌, ◌*◌, ◌≤◌}
use Rattle.std.specs.Prelude.{if◌then◌else◌}
use Rattle.std.specs.List.{list_all}
use Rattle.std.proofs.lemmas.Bool.Decides.{nat_tests}
use Rattle.page_core_base.specs.laws.Views.{cells_in, IsSink, font_cells, is_kept, is_lettered_word, joined_cells, lettered_cells, lettered_pieces, word_letters, Gets, FailsAs, FailsBySink, IsPieceFault}
use Rattle.page_core_base.specs.declared.cells.Cell.{Cell}
use Rattle.page_core_base.specs.declared.cells.Font.{Font}
use Rattle.page_core_base.specs.declared.pieces.Piece.{Piece}
use Rattle.page_fill_rows.specs.laws.Views.{IsHeld}
use Rattle.page_fill.specs.laws.Views.{is_sound, AreKept, AreWords}
use Rattle.page_fill.proofs.LetteredPieces.{items-law}
use Rattle.page_fill.proofs.LetteredWordLemmas.{first-is, word-some}
use Rattle.page_core_base.specs.Messages.{Message, IsSinkFault}
use Rattle.page_core_base.specs.Rows.{LaidRow, Laid, Gave, join, nothing, Item, shown, noted}
use Rattle.page_core_base.specs.declared.faults.Fault.{Fault}
use Rattle.page_core_base.specs.declared.faults.Fault.TheVariants.{WriteText, WriteNotes, Failed}
use Rattle.page_fill.specs.declared.edges.FillEdge.{FillEdge}
use Rattle.page_fill.specs.machine.Words.{laid_item, laid_items}
use Rattle.page_fill.specs.Filling.{filled}
use Rattle.page_engine.specs.machine.PageSinks.{Passed, Broken, Ends, Quiet, cause_later, laid_notes}
use Rattle.page_core_base.specs.declared.note_kinds.Level.{Level}
use Rattle.page_core_base.specs.declared.page_settings.Output.{Output}
use Rattle.page_engine_lines.specs.Edges.{LinesEdge}
use Rattle.page_engine.specs.laws.Views.{FilterGave, FilterWithin, ShownGave, ShownWithin, shown_rows-nil, counts_at, raw}
use Rattle.page_engine.specs.Page.{is_silent, of_page, reported, worst_of, edge, page, raw_lines, settled}
use Rattle.page_engine.specs.machine.Layers.{IsAt}
use Rattle.page_engine.specs.Edges.{Edge}
use Rattle.page_engine.specs.declared.layers.Layers.{Layers}
use Rattle.std.proofs.lemmas.List.{length-map}
use Rattle.page_roff_lines.specs.Lines.{Line}
use Rattle.page_core_base.specs.declared.limits.TheConstants.{EXPAND, REREAD}
use Rattle.page_roff_source.specs.laws.Expansions.{EachIsWithin}
use Rattle.page_roff_source.proofs.CountLemmas.{lines_bound, lines_expansions, each_bound}

pub laid_items_one : (row : FillEdge) (x : Item) → laid_items row (x ∷ []) ≡ laid_item row x
unfolding laid_items
laid_items_one row x = rw (append-nil, append-nil) refl

-- a sink's fault is one of a sink of pieces
sink_cause : (fault : Fault) (r r' n n' : ℕ) → IsSinkFault fault r r' n n' → IsPieceFault fault r r' n n'
sink_cause WriteText r r' n n' cause = cause
sink_cause WriteNotes r r' n n' cause = cause
sink_cause _ r r' n n' cause = absurd cause

-- where no item came nothing did
pub nothing_passes : {R N : Type 0} {rg rw_ : R → List LaidRow → R → Type 0} {rf : R → ℕ} {ng nw : N → List Message → N → Type 0} {nf : N → ℕ}
    → IsSink rg rw_ → IsSink ng nw → (f : Option FillEdge) (r : R) (n : N)
    → ((row : FillEdge) → f ≡ Some row → Passed rg rf ng nf f f r r n n (laid_items row [])) × Quiet rf nf r r n n
unfolding laid_items
nothing_passes k l f r n = (
  λ row is. record { filler = is; rows = k.none r; notes = l.none n; rows_failed = refl; notes_failed = refl },
  record { rows = refl; notes = refl },
)

-- what a filler says of items is what is asked of a sink, where it lays them one by one
pub items_pass : {R N : Type 0} (rg rw_ : R → List LaidRow → R → Type 0) (rf : R → ℕ) (ng nw : N → List Message → N → Type 0) (nf : N → ℕ)
    (res : Result (Unit {0}) Fault) (f f' : Option FillEdge) (r r' : R) (n n' : N) (items : List Item)
    → ((e : FillEdge) → f ≡ Some e → laid_items e items ≡ filled e items)
    → ((e : FillEdge) → f ≡ Some e → Gets res rg rw_ ng nw r r' n n' (filled e items))
    → ((e : FillEdge) → f ≡ Some e → OnOk res (f' ≡ Some (filled e items).edge))
    → ((e : FillEdge) → f ≡ Some e → FailsBySink res (rf r) (rf r') (nf n) (nf n'))
    → (f ≡ None → (res ≡ Err Failed) × (r' ≡ r) × (n' ≡ n))
    → MatchResult res
    (λ _. ((row : FillEdge) → f ≡ Some row → Passed rg rf ng nf f f' r r' n n' (laid_items row items)) × Quiet rf nf r r' n n')
    (λ fault. IsPieceFault fault (rf r) (rf r') (nf n) (nf n') × ((row : FillEdge) → f ≡ Some row → Broken rw_ rf nw nf r r' n n' fault (laid_items row items)))
items_pass rg rw_ rf ng nw nf (Ok x) None f' r r' n n' items laid gets edge faults closed =
    let c = (closed refl).0 in let never : ⊥ = cc in absurd never
items_pass rg rw_ rf ng nw nf (Ok x) (Some e) f' r r' n n' items laid gets edge faults closed = (
  λ row is. rw (laid row is) record {
    filler = edge row is;
    rows = (gets row is).rows;
    notes = (gets row is).notes;
    rows_failed = (faults row is).0;
    notes_failed = (faults row is).1;
  },
  record { rows = (faults e refl).0; notes = (faults e refl).1 },
)
items_pass rg rw_ rf ng nw nf (Err x) None f' r r' n n' items laid gets edge faults closed =
    let c = closed refl in
    let over : x ≡ Failed = let same = c.0 in cc in
    (rw (over, c.1, c.2) (refl, refl), λ row is. let never : ⊥ = cc in absurd never)
items_pass rg rw_ rf ng nw nf (Err x) (Some e) f' r r' n n' items laid gets edge faults closed = (
  sink_cause x (rf r) (rf r') (nf n) (nf n') (faults e refl),
  λ row is. rw (laid row is) record { rows = (gets row is).rows; notes = (gets row is).notes; cause = faults row is },
)

-- the same of words of letters, which all came, or a front of them and then a fault
-- a text without a byte has no words
no_words : (text : List ℕ) (fonts : List Font) (words : List (List (Piece (List ℕ)))) → length text ≡ 0 → list_all is_lettered_word words ≡ true
    → cells_in text fonts ≡ joined_cells words → words ≡ []
no_words [] fonts [] none are e = refl
no_words [] fonts (word ∷ words) none are e =
    let len = ap (λ (cells : List Cell). length cells) e in
    let some = word-some word (first-is word words are) in
    let all = length-append (word_letters word) (lettered_cells words) in
    absurd (grind (arith, nat_tests, len, some, all))
no_words (b ∷ text) fonts words none are e = absurd (omega (arith, none))

no_pieces : (blanks : ℕ) → lettered_pieces blanks [] ≡ []
unfolding lettered_pieces
no_pieces blanks = refl

pub no_words_pass : {R N : Type 0} {rg rw_ : R → List LaidRow → R → Type 0} {rf : R → ℕ} {ng nw : N → List Message → N → Type 0} {nf : N → ℕ}
    → IsSink rg rw_ → IsSink ng nw → (f : Option FillEdge) (r : R) (n : N) (blanks : ℕ) (text : List ℕ) (fonts : List Font)
    → length text ≡ 0 → (words : List (List (Piece (List ℕ)))) → list_all is_lettered_word words ≡ true → cells_in text fonts ≡ joined_cells words
    → ((row : FillEdge) → f ≡ Some row → Passed rg rf ng nf f f r r n n (laid_items row (map shown (lettered_pieces blanks words)))) × Quiet rf nf r r n n
no_words_pass k l f r n blanks text fonts none words are cells =
    let is = no_words text fonts words none are cells in
    rw (is, no_pieces blanks) (nothing_passes k l f r n)

pub words_took : {R N : Type 0} (rg rw_ : R → List LaidRow → R → Type 0) (rf : R → ℕ) (ng nw : N → List Message → N → Type 0) (nf : N → ℕ)
    (res : Result (Unit {0}) Fault) (f f' : Option FillEdge) (r r' : R) (n n' : N) (blanks : ℕ) (text : List ℕ) (fonts : List Font)
    → ((e : FillEdge) (words : List (List (Piece (List ℕ)))) → f ≡ Some e → AreWords text fonts words
    → Gets res rg rw_ ng nw r r' n n' (filled e (map shown (lettered_pieces blanks words))))
    → ((e : FillEdge) (words : List (List (Piece (List ℕ)))) → f ≡ Some e → AreWords text fonts words
    → OnOk res (f' ≡ Some (filled e (map shown (lettered_pieces blanks words))).edge))
    → ((e : FillEdge) → f ≡ Some e → FailsBySink res (rf r) (rf r') (nf n) (nf n'))
    → (f ≡ None → (res ≡ Err Failed) × (r' ≡ r) × (n' ≡ n))
    → IfSome f (λ (e : FillEdge). IsHeld e.sheet) → IfSome f (λ (e : FillEdge). is_sound e.word ≡ true)
    → (words : List (List (Piece (List ℕ)))) → list_all is_lettered_word words ≡ true → cells_in text fonts ≡ joined_cells words
    → (x : Unit {0}) → res ≡ Ok x
    → ((row : FillEdge) → f ≡ Some row → Passed rg rf ng nf f f' r r' n n' (laid_items row (map shown (lettered_pieces blanks words)))) × Quiet rf nf r r' n n'
words_took rg rw_ rf ng nw nf res f f' r r' n n' blanks text fonts gets edge faults closed held sound words are cells x ok =
    rw ok at (
    items_pass rg rw_ rf ng nw nf res f f' r r' n n' (map shown (lettered_pieces blanks words))
    (λ e is. items-law e (map shown (lettered_pieces blanks words)) (rw is at held) (rw is at sound))
    (λ e is. gets e words is (are, cells)) (λ e is. edge e words is (are, cells)) faults closed
    )

pub words_broke : {R N : Type 0} (rg rw_ : R → List LaidRow → R → Type 0) (rf : R → ℕ) (ng nw : N → List Message → N → Type 0) (nf : N → ℕ)
    (res : Result (Unit {0}) Fault) (f f' : Option FillEdge) (r r' : R) (n n' : N) (blanks : ℕ) (text : List ℕ) (fonts : List Font)
    → ((e : FillEdge) (words : List (List (Piece (List ℕ)))) → f ≡ Some e → AreWords text fonts words
    → Gets res rg rw_ ng nw r r' n n' (filled e (map shown (lettered_pieces blanks words))))
    → ((e : FillEdge) (words : List (List (Piece (List ℕ)))) → f ≡ Some e → AreWords text fonts words
    → OnOk res (f' ≡ Some (filled e (map shown (lettered_pieces blanks words))).edge))
    → ((e : FillEdge) → f ≡ Some e → FailsBySink res (rf r) (rf r') (nf n) (nf n'))
    → (f ≡ None → (res ≡ Err Failed) × (r' ≡ r) × (n' ≡ n))
    → IfSome f (λ (e : FillEdge). IsHeld e.sheet) → IfSome f (λ (e : FillEdge). is_sound e.word ≡ true)
    → (words : List (List (Piece (List ℕ)))) → list_all is_lettered_word words ≡ true → cells_in text fonts ≡ joined_cells words
    → (fault : Fault) → res ≡ Err fault
    → IsPieceFault fault (rf r) (rf r') (nf n) (nf n')
    × ((row : FillEdge) → f ≡ Some row → Broken rw_ rf nw nf r r' n n' fault (laid_items row (map shown (lettered_pieces blanks words))))
words_broke rg rw_ rf ng nw nf res f f' r r' n n' blanks text fonts gets edge faults closed held sound words are cells fault err =
    rw err at (
    items_pass rg rw_ rf ng nw nf res f f' r r' n n' (map shown (lettered_pieces blanks words))
    (λ e is. items-law e (map shown (lettered_pieces blanks words)) (rw is at held) (rw is at sound))
    (λ e is. gets e words is (are, cells)) (λ e is. edge e words is (are, cells)) faults closed
    )

-- the same of characters of a row that is kept as it is, which settle nothing
pub kept_pass : {R N : Type 0} {rg rw_ : R → List LaidRow → R → Type 0} {rf : R → ℕ} {ng nw : N → List Message → N → Type 0} {nf : N → ℕ}
    → IsSink rg rw_ → IsSink ng nw → (f f' : Option FillEdge) (r : R) (n : N) (text : List ℕ) (font : Font) (taken : Bool)
    → ((e : FillEdge) (pieces : List (Piece (List ℕ))) → f ≡ Some e → taken ≡ true → AreKept text font pieces
    → (g : FillEdge) × (f' ≡ Some g) × (filled e (map shown pieces) ≡ nothing g))
    → (taken ≡ false → f' ≡ f)
    → IfSome f (λ (e : FillEdge). IsHeld e.sheet) → IfSome f (λ (e : FillEdge). is_sound e.word ≡ true)
    → (pieces : List (Piece (List ℕ))) → list_all is_kept pieces ≡ true → font_cells font text ≡ word_letters pieces
    → ((row : FillEdge) → f ≡ Some row → Passed rg rf ng nf f f' r r n n (laid_items row (if taken then map shown pieces else []))) × Quiet rf nf r r n n
kept_pass k l f f' r n text font true kept same held sound pieces all cells = (
  λ row is.
      let g = kept row pieces is refl (all, cells) in
      let laid : laid_items row (map shown pieces) ≡ nothing g.0 = items-law row (map shown pieces) (rw is at held) (rw is at sound) ∙ g.2 in
      rw laid record { filler = g.1; rows = k.none r; notes = l.none n; rows_failed = refl; notes_failed = refl },
  record { rows = refl; notes = refl },
)
kept_pass k l f f' r n text font false kept same held sound pieces all cells = rw (same refl) (nothing_passes k l f r n)

-- a message passes the filler by, and goes to its sink
pub note_passes : {R N : Type 0} (rg rw_ : R → List LaidRow → R → Type 0) (rf : R → ℕ) (ng nw : N → List Message → N → Type 0) (nf : N → ℕ)
    → IsSink rg rw_ → ((r r' : R) (xs : List LaidRow) → rg r xs r' → rw_ r xs r')
    → (res : Result (Unit {0}) Fault) (f : Option FillEdge) (r : R) (n n' : N) (m : Message)
    → MatchResult res (λ _. ng n (m ∷ []) n') (λ _. nw n (m ∷ []) n') → FailsAs WriteNotes res (nf n) (nf n')
    → MatchResult res
    (λ _. ((row : FillEdge) → f ≡ Some row → Passed rg rf ng nf f f r r n n' (laid_items row (noted m ∷ []))) × Quiet rf nf r r n n')
    (λ _. (row : FillEdge) → f ≡ Some row → Gave rw_ nw r r n n' (laid_items row (noted m ∷ [])))
unfolding laid_items
note_passes rg rw_ rf ng nw nf k whole (Ok x) f r n n' m g h =
    (λ row e. record { filler = e; rows = k.none r; notes = g; rows_failed = refl; notes_failed = h }, record { rows = refl; notes = h })
note_passes rg rw_ rf ng nw nf k whole (Err x) f r n n' m g h = λ row e.
    record { rows = whole r r [] (k.none r); notes = g }

-- items, and then the end of the row
pub ends_after : {R N : Type 0} {rg rw_ : R → List LaidRow → R → Type 0} {rf : R → ℕ} {ng nw : N → List Message → N → Type 0} {nf : N → ℕ}
    → IsSink rg rw_ → IsSink ng nw → {f f' : Option FillEdge} {r a : R} {n b : N} (a' : R) (b' : N) (res : Result (Unit {0}) Fault) (x y : Laid FillEdge)
    → Passed rg rf ng nf f f' r a n b x → Gets res rg rw_ ng nw a a' b b' y → FailsBySink res (rf a) (rf a') (nf b) (nf b')
    → Ends res rg rw_ rf ng nw nf r a' n b' (join x y)
ends_after k l {r = r} {a = a} {n = n} {b = b} a' b' (Ok o) x y p g h =
    (record { rows = k.more r a a' x.rows y.rows p.rows g.rows; notes = l.more n b b' x.notes y.notes p.notes g.notes }, h.0 ∙ p.rows_failed, h.1 ∙ p.notes_failed)
ends_after k l {r = r} {a = a} {n = n} {b = b} a' b' (Err fault) x y p g h =
    record { rows = k.after r a a' x.rows y.rows p.rows g.rows; notes = l.after n b b' x.notes y.notes p.notes g.notes; cause = rw (p.rows_failed, p.notes_failed) at h }

pub broken_join : {R N : Type 0} {rg rw_ : R → List LaidRow → R → Type 0} {rf : R → ℕ} {ng nw : N → List Message → N → Type 0} {nf : N → ℕ}
    → IsSink rg rw_ → IsSink ng nw → {r a : R} {n b : N} {fault : Fault} (x y : Laid FillEdge)
    → Broken rw_ rf nw nf r a n b fault x → Broken rw_ rf nw nf r a n b fault (join x y)
broken_join k l {r} {a} {n} {b} x y p =
    record { rows = k.before r a x.rows y.rows p.rows; notes = l.before n b x.notes y.notes p.notes; cause = p.cause }

-- items, and then a front of more
pub broken_after : {R N : Type 0} {rg rw_ : R → List LaidRow → R → Type 0} {rf : R → ℕ} {ng nw : N → List Message → N → Type 0} {nf : N → ℕ}
    → IsSink rg rw_ → IsSink ng nw → {f f' : Option FillEdge} {r a : R} {n b : N} {fault : Fault} (a' : R) (b' : N) (x y : Laid FillEdge)
    → Passed rg rf ng nf f f' r a n b x → Broken rw_ rf nw nf a a' b b' fault y → Broken rw_ rf nw nf r a' n b' fault (join x y)
broken_after k l {r = r} {a = a} {n = n} {b = b} {fault = fault} a' b' x y p q = record {
  rows = k.after r a a' x.rows y.rows p.rows q.rows;
  notes = l.after n b b' x.notes y.notes p.notes q.notes;
  cause = cause_later fault _ _ _ _ _ _ p.rows_failed p.notes_failed q.cause;
}

-- items, and then the end of what comes after them
pub ends_join : {R N : Type 0} {rg rw_ : R → List LaidRow → R → Type 0} {rf : R → ℕ} {ng nw : N → List Message → N → Type 0} {nf : N → ℕ}
    → IsSink rg rw_ → IsSink ng nw → {f f' : Option FillEdge} {r a : R} {n b : N} (a' : R) (b' : N) (res : Result (Unit {0}) Fault) (x y : Laid FillEdge)
    → Passed rg rf ng nf f f' r a n b x → Ends res rg rw_ rf ng nw nf a a' b b' y → Ends res rg rw_ rf ng nw nf r a' n b' (join x y)
ends_join k l {r = r} {a = a} {n = n} {b = b} a' b' (Ok o) x y p q = (
  record { rows = k.more r a a' x.rows y.rows p.rows q.0.rows; notes = l.more n b b' x.notes y.notes p.notes q.0.notes },
  q.1 ∙ p.rows_failed,
  q.2 ∙ p.notes_failed,
)
ends_join k l a' b' (Err fault) x y p q = broken_after k l a' b' x y p q

-- ---- What a call below a page did, as it is said of the page.

-- what a call did that passes items on
abbrev pub Passes : {T R S N : Type 0} → Result (Unit {0}) Fault → (R → List LaidRow → R → Type 0) → (R → List LaidRow → R → Type 0) → (T → ℕ) → (T → R) → (T → Bool)
    → (N → List Message → N → Type 0) → (N → List Message → N → Type 0) → (S → ℕ) → (S → N) → (S → Option Level) → (S → Option Level)
    → Option FillEdge → Option FillEdge → T → T → S → S → (FillEdge → Laid FillEdge) → Type 0
Passes res rg rw_ rf under silent ng nw nf below least worst f f' t t' s s' l =
    MatchResult res
    (λ _. ((x : FillEdge) → f ≡ Some x → Passed (ShownGave rg under silent) rf (FilterGave ng below least worst) nf f f' t t' s s' (l x))
    × Quiet rf nf t t' s s')
    (λ fault. IsPieceFault fault (rf t) (rf t') (nf s) (nf s')
    × ((x : FillEdge) → f ≡ Some x → Broken (ShownWithin rw_ under silent) rf (FilterWithin nw below least) nf t t' s s' fault (l x)))

pub passes_gets : {T R S N : Type 0} (rg rw_ : R → List LaidRow → R → Type 0) (rf : T → ℕ) (under : T → R) (silent : T → Bool) (ng nw : N → List Message → N → Type 0) (nf : S → ℕ)
    (below : S → N) (least worst : S → Option Level) (res : Result (Unit {0}) Fault) (f f' : Option FillEdge) (t t' : T) (s s' : S) (l : FillEdge → Laid FillEdge) (e next : Edge)
    → f ≡ Some e.fill → silent t ≡ is_silent e.fill.output → least s ≡ e.least → Passes res rg rw_ rf under silent ng nw nf below least worst f f' t t' s s' l
    → Gets res rg rw_ ng nw (under t) (under t') (below s) (below s') (of_page e next (l e.fill))
passes_gets rg rw_ rf under silent ng nw nf below least worst (Ok x) f f' t t' s s' l e next q o k h =
    let p = h.0 e.fill q in record { rows = rw o at p.rows.0; notes = rw k at p.notes.0 }
passes_gets rg rw_ rf under silent ng nw nf below least worst (Err x) f f' t t' s s' l e next q o k h =
    let p = h.1 e.fill q in record { rows = rw o at p.rows; notes = rw k at p.notes }

pub passes_edge : {T R S N : Type 0} (rg rw_ : R → List LaidRow → R → Type 0) (rf : T → ℕ) (under : T → R) (silent : T → Bool) (ng nw : N → List Message → N → Type 0) (nf : S → ℕ)
    (below : S → N) (least worst : S → Option Level) (res : Result (Unit {0}) Fault) (f f' : Option FillEdge) (t t' : T) (s s' : S) (l : FillEdge → Laid FillEdge) (e next : Edge)
    (lines : LinesEdge) (output : Output) (kept : Option Level) (last : Option ℕ)
    → f ≡ Some e.fill → least s ≡ e.least → worst s ≡ e.worst → Passes res rg rw_ rf under silent ng nw nf below least worst f f' t t' s s' l
    → lines ≡ next.lines → output ≡ (l e.fill).edge.output → kept ≡ next.least → last ≡ next.last
    → OnOk res (IsAt (record { filler = f'; lines = lines; output = output; least = kept; worst = worst s'; last = last }) (of_page e next (l e.fill)).edge)
passes_edge rg rw_ rf under silent ng nw nf below least worst (Ok x) f f' t t' s s' l e next lines output kept last q k w h a o b c =
    let p = h.0 e.fill q in record { filled = p.filler; lines = a; output = o; levels = b; worst_level = rw (k, w) at p.notes.2; last_line = c }
passes_edge rg rw_ rf under silent ng nw nf below least worst (Err x) f f' t t' s s' l e next lines output kept last q k w h a o b c = tt

pub passes_faults : {T R S N : Type 0} (rg rw_ : R → List LaidRow → R → Type 0) (rf : T → ℕ) (under : T → R) (silent : T → Bool) (ng nw : N → List Message → N → Type 0) (nf : S → ℕ)
    (below : S → N) (least worst : S → Option Level) (res : Result (Unit {0}) Fault) (f f' : Option FillEdge) (t t' : T) (s s' : S) (l : FillEdge → Laid FillEdge) (x : FillEdge)
    → f ≡ Some x → Passes res rg rw_ rf under silent ng nw nf below least worst f f' t t' s s' l → FailsBySink res (rf t) (rf t') (nf s) (nf s')
passes_faults rg rw_ rf under silent ng nw nf below least worst (Ok o) f f' t t' s s' l x q h = let p = h.0 x q in (p.rows_failed, p.notes_failed)
passes_faults rg rw_ rf under silent ng nw nf below least worst (Err o) f f' t t' s s' l x q h = (h.1 x q).cause

-- the same of the end
pub ends_gets : {T R S N : Type 0} (rg rw_ : R → List LaidRow → R → Type 0) (rf : T → ℕ) (under : T → R) (silent : T → Bool) (ng nw : N → List Message → N → Type 0) (nf : S → ℕ)
    (below : S → N) (least worst : S → Option Level) (res : Result (Unit {0}) Fault) (t t' : T) (s s' : S) (l : Laid FillEdge) (e next : Edge)
    → silent t ≡ is_silent e.fill.output → least s ≡ e.least
    → Ends res (ShownGave rg under silent) (ShownWithin rw_ under silent) rf (FilterGave ng below least worst) (FilterWithin nw below least) nf t t' s s' l
    → Gets res rg rw_ ng nw (under t) (under t') (below s) (below s') (of_page e next l)
ends_gets rg rw_ rf under silent ng nw nf below least worst (Ok x) t t' s s' l e next o k h = record { rows = rw o at h.0.rows.0; notes = rw k at h.0.notes.0 }
ends_gets rg rw_ rf under silent ng nw nf below least worst (Err x) t t' s s' l e next o k h = record { rows = rw o at h.rows; notes = rw k at h.notes }

pub ends_worst : {T R S N : Type 0} (rg rw_ : R → List LaidRow → R → Type 0) (rf : T → ℕ) (under : T → R) (silent : T → Bool) (ng nw : N → List Message → N → Type 0) (nf : S → ℕ)
    (below : S → N) (least worst : S → Option Level) (res : Result (Unit {0}) Fault) (t t' : T) (s s' : S) (l : Laid FillEdge) (e next : Edge)
    → least s ≡ e.least → worst s ≡ e.worst
    → Ends res (ShownGave rg under silent) (ShownWithin rw_ under silent) rf (FilterGave ng below least worst) (FilterWithin nw below least) nf t t' s s' l
    → OnOk res (worst s' ≡ (of_page e next l).edge.worst)
ends_worst rg rw_ rf under silent ng nw nf below least worst (Ok x) t t' s s' l e next k w h = rw (k, w) at h.0.notes.2
ends_worst rg rw_ rf under silent ng nw nf below least worst (Err x) t t' s s' l e next k w h = tt

pub ends_faults : {T R S N : Type 0} (rg rw_ : R → List LaidRow → R → Type 0) (rf : T → ℕ) (under : T → R) (silent : T → Bool) (ng nw : N → List Message → N → Type 0) (nf : S → ℕ)
    (below : S → N) (least worst : S → Option Level) (res : Result (Unit {0}) Fault) (t t' : T) (s s' : S) (l : Laid FillEdge)
    → Ends res (ShownGave rg under silent) (ShownWithin rw_ under silent) rf (FilterGave ng below least worst) (FilterWithin nw below least) nf t t' s s' l
    → FailsBySink res (rf t) (rf t') (nf s) (nf s')
ends_faults rg rw_ rf under silent ng nw nf below least worst (Ok x) t t' s s' l h = (h.1, h.2)
ends_faults rg rw_ rf under silent ng nw nf below least worst (Err x) t t' s s' l h = h.cause

-- the end of the source leaves the header as it was
pub same_header : (lines kept e : LinesEdge) → lines.body.header ≡ kept.body.header → kept ≡ e → lines.body.header ≡ e.body.header
same_header lines kept e h k = rw k at h

-- ---- A line that was cut, and then what it says.

-- the messages of a cutting change the worst level alone
pub cut_at : {here : Layers} {e : Edge} (worst' : Option Level) (m : List Message)
    → IsAt here e → worst' ≡ worst_of here.worst (reported here.least m) → IsAt (record here { worst = worst' }) (laid_notes e m).edge
cut_at {here} {e} worst' m h w =
    record { filled = h.filled; lines = h.lines; output = h.output; levels = h.levels; worst_level = rw (h.worst_level, h.levels) at w; last_line = h.last_line }

pub cut_gave : {R N : Type 0} {rg rw_ : R → List LaidRow → R → Type 0} (ng : N → List Message → N → Type 0) → IsSink rg rw_ → (r : R) {n b : N} (least : Option Level) (e : Edge) (m : List Message)
    → least ≡ e.least → ng n (reported least m) b → Gave rg ng r r n b (laid_notes e m)
cut_gave ng k r least e m l g = record { rows = rw shown_rows-nil (k.none r); notes = rw l at g }

pub cut_within : {R N E : Type 0} {rg rw_ : R → List LaidRow → R → Type 0} {ng nw : N → List Message → N → Type 0} → IsSink rg rw_ → IsSink ng nw
    → ((s t : R) (xs : List LaidRow) → rg s xs t → rw_ s xs t) → (r : R) {n b : N} (least : Option Level) (e : Edge) (m : List Message) (y : Laid E)
    → least ≡ e.least → nw n (reported least m) b → Gave rw_ nw r r n b (join (laid_notes e m) y)
cut_within k j whole r {n} {b} least e m y l g =
    record { rows = rw shown_rows-nil (k.before r r [] y.rows (whole r r [] (k.none r))); notes = j.before n b (reported e.least m) y.notes (rw l at g) }

-- one thing came, and then a call gave another
pub gets_after : {R N E F G : Type 0} {rg rw_ : R → List LaidRow → R → Type 0} {ng nw : N → List Message → N → Type 0} → IsSink rg rw_ → IsSink ng nw
    → {r a : R} {n b : N} (a' : R) (b' : N) (res : Result (Unit {0}) F) (x : Laid G) (y : Laid E)
    → Gave rg ng r a n b x → Gets res rg rw_ ng nw a a' b b' y → Gets res rg rw_ ng nw r a' n b' (join x y)
gets_after k l {r} {a} {n} {b} a' b' (Ok o) x y g h =
    record { rows = k.more r a a' x.rows y.rows g.rows h.rows; notes = l.more n b b' x.notes y.notes g.notes h.notes }
gets_after k l {r} {a} {n} {b} a' b' (Err o) x y g h =
    record { rows = k.after r a a' x.rows y.rows g.rows h.rows; notes = l.after n b b' x.notes y.notes g.notes h.notes }

pub faults_after : (res : Result (Unit {0}) Fault) (r r' n n' n'' : ℕ) → n' ≡ n → FailsBySink res r r' n' n'' → FailsBySink res r r' n n''
faults_after res r r' n n' n'' e h = rw e at h

-- ---- What lists of lines count.

pub source_more : (e : Edge) (lines : List Line) → (counts_at (edge e lines)).source ≡ (counts_at e).source + length lines
unfolding settled
source_more e lines = ap (λ n. e.lines.roff.source + n) (length-map lines raw)

pub taken_more : (e : Edge) (lines : List Line) → (counts_at (edge e lines)).taken ≤ (counts_at e).taken + (REREAD + 1) * length lines
unfolding settled
taken_more e lines = rw (length-map lines raw) at (lines_bound e.lines.roff (raw_lines lines))

pub expansions_more : (e : Edge) (lines : List Line)
    → (counts_at (edge e lines)).expansions + EXPAND * (counts_at e).taken
    ≤ EXPAND * (counts_at (edge e lines)).taken + (counts_at e).expansions
unfolding settled
expansions_more e lines = lines_expansions e.lines.roff (raw_lines lines)

pub each_line : (e : Edge) → EachIsWithin e.lines.roff
each_line e = each_bound e.lines.roff

pub counts_end : (e : Edge) (lines : List Line) → counts_at (page e lines).edge ≡ counts_at (edge e lines)
unfolding page settled
counts_end e lines = refl
