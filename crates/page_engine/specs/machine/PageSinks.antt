-- A machine: a page line by line and piece by piece, as the code takes it. That it settles what whole lists of lines settle is the law `line_by_line_law`,
-- so trust in a page does not need this file.
use Rattle.std.specs.Prelude.{ℕ, Some, List, [], ◌∷◌, ◌≡◌, Option, Result, MatchResult, refl}
use Rattle.page_core_base.specs.Messages.{Message, IsSinkFault, Rose}
use Rattle.page_core_base.specs.Rows.{Laid, nothing, seq, LaidRow, Gave, Item, noted}
use Rattle.page_engine_lines.specs.Edges.{footer_items}
use Rattle.page_engine_lines.specs.machine.Lines.{source_items, source_after, end_items}
use Rattle.page_fill.specs.machine.Words.{laid_items, laid_items-append}
use Rattle.page_fill.specs.Filling.{row_end}
use Rattle.page_fill.specs.laws.Views as fill
use Rattle.page_fill.specs.declared.edges.FillEdge.{FillEdge}
use Rattle.page_roff_lines.specs.Lines.{Line}
use Rattle.page_engine.specs.Edges.{Edge, last_line}
use Rattle.page_engine.specs.Page.{of_page}
use Rattle.std.proofs.Common.{◌∙◌}
use Rattle.std.proofs.lemmas.List.{map-append}
use Rattle.page_core_base.specs.declared.faults.Fault.{Fault}
use Rattle.page_core_base.specs.declared.faults.Fault.TheVariants.{Failed, WriteNotes}
use Rattle.page_core_base.specs.laws.Views.{IsSink, IsPieceFault, all_noted}

-- ---- lines

-- the messages of a line's cutting
abbrev pub laid_notes : Edge → List Message → Laid Edge
laid_notes e messages = of_page e e (record { rows = []; notes = messages; edge = e.fill })

-- the text of a line: roff and the macros make items of it, and these are filled
abbrev pub passed : Edge → List ℕ → ℕ → Edge
passed e text number = record e { last = Some number; lines = source_after e.lines number text }

unfoldable pub settled_text : Edge → List ℕ → ℕ → Laid Edge
settled_text e text number =
    of_page e (passed e text number) (laid_items e.fill (source_items e.lines number text))

abbrev pub settled_line : Edge → Line → Laid Edge
settled_line e line = seq (laid_notes e line.notes) (λ f. settled_text f line.text line.number)

unfoldable pub settled : Edge → List Line → Laid Edge
settled e [] = nothing e
settled e (line ∷ lines) = seq (settled_line e line) (λ f. settled f lines)

-- ---- the end

-- what roff left open, the body's end, the footer, and the end of filling
abbrev pub footer_laid : Edge → FillEdge → Laid FillEdge
footer_laid e f =
    seq (laid_items f (footer_items e.lines (last_line e) (fill.blank_rows_at_end f))) row_end

abbrev pub end_laid : Edge → Laid FillEdge
end_laid e = seq (laid_items e.fill (end_items e.lines (last_line e))) (λ f. footer_laid e f)

unfoldable pub ended : Edge → Laid Edge
ended e = of_page e e (end_laid e)

abbrev pub page : Edge → List Line → Laid Edge
page e lines = seq (settled e lines) ended

-- ---- A filler between pieces and a pair of sinks is a sink of pieces: steps of the code, of which trust needs no reading.

-- the rows and messages of these items came, and the filler's row is the one after them
pub record Passed {R N : Type 0} (rg : R → List LaidRow → R → Type 0) (rf : R → ℕ)
    (ng : N → List Message → N → Type 0) (nf : N → ℕ)
    (f f' : Option FillEdge) (r r' : R) (n n' : N) (l : Laid FillEdge) : Type 0 where
  pub filler : f' ≡ Some l.edge
  pub rows : rg r l.rows r'
  pub notes : ng n l.notes n'
  pub rows_failed : rf r' ≡ rf r
  pub notes_failed : nf n' ≡ nf n

-- a front of each came, and then this fault of a sink
pub record Broken {R N : Type 0} (rw_ : R → List LaidRow → R → Type 0) (rf : R → ℕ)
    (nw : N → List Message → N → Type 0) (nf : N → ℕ)
    (r r' : R) (n n' : N) (fault : Fault) (l : Laid FillEdge) : Type 0 where
  pub rows : rw_ r l.rows r'
  pub notes : nw n l.notes n'
  pub cause : IsSinkFault fault (rf r) (rf r') (nf n) (nf n')

-- nothing failed
pub record Quiet {R N : Type 0} (rf : R → ℕ) (nf : N → ℕ) (r r' : R) (n n' : N) : Type 0 where
  pub rows : rf r' ≡ rf r
  pub notes : nf n' ≡ nf n

abbrev pub PageSinkTook : {S R N : Type 0} → (R → List LaidRow → R → Type 0) → (R → ℕ) → (N → List Message → N
    → Type 0) → (N → ℕ)
    → (S → Option FillEdge) → (S → R) → (S → N) → S → List Item → S → Type 0
PageSinkTook rg rf ng nf filler rows notes s xs t =
    ((row : FillEdge) → filler s ≡ Some row
    → Passed rg rf ng nf (filler s) (filler t) (rows s) (rows t) (notes s) (notes t) (laid_items row xs))
    × Quiet rf nf (rows s) (rows t) (notes s) (notes t)

abbrev pub PageSinkBroke : {S R N : Type 0} → (R → List LaidRow → R → Type 0) → (R → ℕ) → (N → List Message
    → N → Type 0) → (N → ℕ)
    → (S → Option FillEdge) → (S → R) → (S → N) → S → Fault → List Item → S → Type 0
PageSinkBroke rw_ rf nw nf filler rows notes s fault xs t =
    IsPieceFault fault (rf (rows s)) (rf (rows t)) (nf (notes s)) (nf (notes t))
    × ((row : FillEdge) → filler s ≡ Some row
    → Broken rw_ rf nw nf (rows s) (rows t) (notes s) (notes t) fault (laid_items row xs))

-- messages alone: the filler passes them by
abbrev pub PageSinkGave : {S R N : Type 0} → (R → List LaidRow → R → Type 0) → (R → ℕ) → (N → List Message → N
    → Type 0) → (N → ℕ)
    → (S → Option FillEdge) → (S → R) → (S → N) → S → List Message → S → Type 0
PageSinkGave rg rf ng nf filler rows notes s xs t = PageSinkTook rg rf ng nf filler rows notes s (all_noted xs) t

abbrev pub PageSinkWithin : {S R N : Type 0} → (R → List LaidRow → R → Type 0) → (N → List Message → N
    → Type 0)
    → (S → Option FillEdge) → (S → R) → (S → N) → S → List Message → S → Type 0
PageSinkWithin rw_ nw filler rows notes s xs t =
    (row : FillEdge) → filler s ≡ Some row
    → Gave rw_ nw (rows s) (rows t) (notes s) (notes t) (laid_items row (all_noted xs))

-- a sink's fault stays its own after calls without one
pub cause_later : (fault : Fault) (r r' r'' n n' n'' : ℕ) → r' ≡ r → n' ≡ n
    → IsSinkFault fault r' r'' n' n'' → IsSinkFault fault r r'' n n''
cause_later fault r r' r'' n n' n'' e d h = rw (e, d) at h

page_cause_later : (fault : Fault) (r r' r'' n n' n'' : ℕ) → r' ≡ r → n' ≡ n
    → IsPieceFault fault r' r'' n' n'' → IsPieceFault fault r r'' n n''
page_cause_later fault r r' r'' n n' n'' e d h = rw (e, d) at h

pub page-sink : {S R N : Type 0} (rg rw_ : R → List LaidRow → R → Type 0) (rf : R → ℕ) (ng nw : N
    → List Message → N → Type 0) (nf : N → ℕ)
    → IsSink rg rw_ → IsSink ng nw → (filler : S → Option FillEdge) (rows : S → R) (notes : S
    → N) (fault : Fault)
    → IsSink (PageSinkTook rg rf ng nf filler rows notes)
    (λ s xs t. PageSinkBroke rw_ rf nw nf filler rows notes s fault xs t)
unfolding laid_items
page-sink rg rw_ rf ng nw nf k l filler rows notes fault = record {
  none = λ s. (
    λ row e.
        record { filler = e; rows = k.none (rows s); notes = l.none (notes s); rows_failed = refl; notes_failed = refl },
    record { rows = refl; notes = refl },
  );
  more = λ s t u xs ys g h. (
    λ row e.
        let x = laid_items row xs in
        let y = laid_items x.edge ys in
        let a = g.0 row e in
        let b = h.0 x.edge a.filler in
        rw laid_items-append record {
          filler = b.filler;
          rows = k.more (rows s) (rows t) (rows u) x.rows y.rows a.rows b.rows;
          notes = l.more (notes s) (notes t) (notes u) x.notes y.notes a.notes b.notes;
          rows_failed = b.rows_failed ∙ a.rows_failed;
          notes_failed = b.notes_failed ∙ a.notes_failed;
        },
    record { rows = h.1.rows ∙ g.1.rows; notes = h.1.notes ∙ g.1.notes },
  );
  after = λ s t u xs ys g h. (
    page_cause_later fault _ _ _ _ _ _ g.1.rows g.1.notes h.0,
    λ row e.
        let x = laid_items row xs in
        let y = laid_items x.edge ys in
        let a = g.0 row e in
        let b = h.1 x.edge a.filler in
        rw laid_items-append record {
          rows = k.after (rows s) (rows t) (rows u) x.rows y.rows a.rows b.rows;
          notes = l.after (notes s) (notes t) (notes u) x.notes y.notes a.notes b.notes;
          cause = cause_later fault _ _ _ _ _ _ a.rows_failed a.notes_failed b.cause;
        },
  );
  before = λ s t xs ys h. (
    h.0,
    λ row e.
        let x = laid_items row xs in
        let y = laid_items x.edge ys in
        let b = h.1 row e in
        rw laid_items-append record {
          rows = k.before (rows s) (rows t) x.rows y.rows b.rows;
          notes = l.before (notes s) (notes t) x.notes y.notes b.notes;
          cause = b.cause;
        },
  );
}

-- so a filler over two sinks is a sink of messages too
pub message-sink : {S R N : Type 0} (rg rw_ : R → List LaidRow → R → Type 0) (rf : R → ℕ) (ng nw : N
    → List Message → N → Type 0) (nf : N → ℕ)
    → IsSink rg rw_ → IsSink ng nw → (filler : S → Option FillEdge) (rows : S → R) (notes : S → N)
    → IsSink (PageSinkGave rg rf ng nf filler rows notes) (PageSinkWithin rw_ nw filler rows notes)
unfolding laid_items
message-sink rg rw_ rf ng nw nf k l filler rows notes =
    let m = page-sink rg rw_ rf ng nw nf k l filler rows notes Failed in
    record {
      none = λ s. m.none s;
      more = λ s t u xs ys g h. rw (map-append noted xs ys) (m.more s t u (all_noted xs) (all_noted ys) g h);
      after = λ s t u xs ys g h row e.
          let x = laid_items row (all_noted xs) in
          let y = laid_items x.edge (all_noted ys) in
          let a = g.0 row e in
          let b = h x.edge a.filler in
          rw (map-append noted xs ys, laid_items-append) record {
            rows = k.after (rows s) (rows t) (rows u) x.rows y.rows a.rows b.rows;
            notes = l.after (notes s) (notes t) (notes u) x.notes y.notes a.notes b.notes;
          };
      before = λ s t xs ys h row e.
          let x = laid_items row (all_noted xs) in
          let y = laid_items x.edge (all_noted ys) in
          let b = h row e in
          rw (map-append noted xs ys, laid_items-append) record {
            rows = k.before (rows s) (rows t) x.rows y.rows b.rows;
            notes = l.before (notes s) (notes t) x.notes y.notes b.notes;
          };
    }

pub message-whole : {S R N : Type 0} (rg rw_ : R → List LaidRow → R → Type 0) (rf : R → ℕ) (ng nw : N
    → List Message → N → Type 0) (nf : N → ℕ)
    → ((s t : R) (xs : List LaidRow) → rg s xs t → rw_ s xs t) → ((s t : N) (xs : List Message) → ng s xs t → nw s xs t)
    → (filler : S → Option FillEdge) (rows : S → R) (notes : S → N) (s t : S) (xs : List Message)
    → PageSinkGave rg rf ng nf filler rows notes s xs t → PageSinkWithin rw_ nw filler rows notes s xs t
message-whole rg rw_ rf ng nw nf k l filler rows notes s t xs g = λ row e.
    let x = laid_items row (all_noted xs) in
    let a = g.0 row e in
    record { rows = k (rows s) (rows t) x.rows a.rows; notes = l (notes s) (notes t) x.notes a.notes }

pub message-fault : {S R N : Type 0} (rw_ : R → List LaidRow → R → Type 0) (rf : R → ℕ) (nw : N
    → List Message → N → Type 0) (nf : N → ℕ)
    → (filler : S → Option FillEdge) (rows : S → R) (notes : S → N) (s t : S) (xs : List Message)
    → PageSinkWithin rw_ nw filler rows notes s xs t → Rose (nf (notes s)) (nf (notes t))
    → PageSinkBroke rw_ rf nw nf filler rows notes s WriteNotes (all_noted xs) t
message-fault rw_ rf nw nf filler rows notes s t xs h rose =
    (rose, λ row e. record { rows = (h row e).rows; notes = (h row e).notes; cause = rose })

-- what a call did that ends a page below the scopes
abbrev pub Ends : {R N : Type 0} → Result (Unit {0}) Fault → (R → List LaidRow → R → Type 0) → (R
    → List LaidRow → R → Type 0) → (R → ℕ)
    → (N → List Message → N → Type 0) → (N → List Message → N → Type 0) → (N → ℕ) → R → R → N → N
    → Laid FillEdge → Type 0
Ends res rg rw_ rf ng nw nf r r' n n' l =
    MatchResult res (λ _. Gave rg ng r r' n n' l × (rf r' ≡ rf r) × (nf n' ≡ nf n))
    (λ fault. Broken rw_ rf nw nf r r' n n' fault l)
