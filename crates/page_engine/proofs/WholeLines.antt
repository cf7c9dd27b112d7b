-- What filling leaves as it was: the output and the width of rows.
use Rattle.std.proofs.Common.{◌≡◌, ℕ, ◌==◌, Bool, true, false, List, [], ◌∷◌, length, Option, None, Some, inl, inr, refl, ap, ◌∙◌, ◌<◌, ◌-◌, ◌^◌, sym, arith, Result, Ok, Err, MatchResult, IfOk, ◌++◌, map, append-nil, ◌+◌, ◌*◌, ◌≤◌, zero, suc, take}
use Rattle.std.specs.Prelude.{if◌then◌else◌, unwrap_or, sum_by, IfSome}
use Rattle.std.proofs.lemmas.Bool.{cases_Bool}
use Rattle.page_core_base.specs.declared.page_settings.Output.{Output}
use Rattle.page_core_base.specs.declared.places.Place.{Place}
use Rattle.page_core_base.specs.declared.pieces.Piece.{Piece}
use Rattle.page_core_base.specs.declared.pieces.Piece.TheVariants.{Text, Glyph, Char, Blank, Glue, Split, Tab, Break, RowEnd, Para, Space, Indent, Literal, Tag, TagEnd, Heading, Column}
use Rattle.page_core_base.specs.declared.pieces.TagForm.TheVariants as forms
use Rattle.page_core_base.specs.Rows.{Laid, seq, Item, shown, noted, nothing, join, LaidRow, Gave}
use Rattle.page_fill.specs.declared.edges.OpenTag.{OpenTag}
use Rattle.page_fill.specs.declared.edges.FillEdge.{FillEdge}
use Rattle.page_fill.specs.machine.Words.{laid_item, laid_items, laid_items-append}
use Rattle.page_fill.specs.Filling.{Group, words, other, groups, row_end, placed, after_tag, tag_end, stop_content, other_laid, groups_laid, filled}
use Rattle.page_fill.specs.Filled.{CellOrNote}
use Rattle.page_fill.specs.Words.{words_laid, content_laid}
use Rattle.page_fill.proofs.WordLaw.{going_width}
use Rattle.std.proofs.Math.Path.{subst}
use Rattle.page_core_base.specs.Messages.{IsSinkFault, Message}
use Rattle.page_core_base.specs.declared.faults.Fault.{Fault}
use Rattle.page_core_base.specs.declared.faults.Fault.TheVariants as faults
use Rattle.page_engine.specs.declared.pages.Phase.{Phase}
use Rattle.page_engine.specs.declared.pages.Phase.TheVariants.{Open, Failed}
use Rattle.page_engine.specs.declared.layers.Layers.{Layers}
use Rattle.page_engine.specs.laws.States.{PageState, IsOpenAt, IsFailedAt}
use Rattle.page_engine_lines.specs.Edges.{LinesEdge, footer_items}
use Rattle.page_roff_source.specs.Runs.{counts_of, SourceLine}
use Rattle.page_roff_source.specs.declared.counts.Counts.{Counts}
use Rattle.page_engine.specs.Edges.{Edge, start, last_line}
use Rattle.page_engine.specs.machine.Layers.{IsAt, edge_of, IsKept}
use Rattle.page_engine.specs.laws.Within.{IsWithin, bytes_in, target_bytes, text_bytes}
use Rattle.page_core_base.specs.declared.page_settings.Settings.{Settings}
use Rattle.page_roff_lines.specs.Lines.{Line}
use Rattle.page_engine_lines.specs.Acts.{lines_items, lines_after}
use Rattle.page_engine_lines.specs.Bodies.{BodyEdge}
use Rattle.page_engine_lines.proofs.TreeSameLemmas.{last_of, done_number_is}
use Rattle.page_engine_lines.proofs.BodySharedLemmas.{Shared, shared_of, sharing}
use Rattle.page_engine_lines.proofs.StepLemmas.{lines_shared}
use Rattle.page_engine.specs.Page.{edge, last_number, raw_lines, settled, reported, worst_of, of_page, after, page, footer_laid}
use Rattle.page_engine.specs.laws.Views.{Agrees, reported-append, worst_of-append, IsReached, counts_at, raw, text_line, shown_rows-append, shown_rows-nil}
use Rattle.std.proofs.lemmas.List.{map-append}
use Rattle.page_core_base.specs.laws.Views.{join_assoc, IsSink}
use Rattle.page_fill.specs.laws.Views as fill
use Rattle.page_fill.proofs.LetteredPieces.{items-law}
use Rattle.page_fill.proofs.FillingLaw.{cut-law, held-law}
use Rattle.page_fill.proofs.WordRunLemmas.{fresh-held}
use Rattle.page_engine_lines.specs.machine.Lines.{source_items, source_after, end_items}
use Rattle.page_engine_lines.proofs.TreeLemmas.{lines_items-append, lines_after-append, one_items, one_after, no_items, none_after, end_items_after}
use Rattle.page_engine.specs.machine.PageSinks as by_line
use Rattle.std.proofs.lemmas.List.Sums.{sum_by-cons}
use Rattle.page_roff_names.specs.Names.{size}
use Rattle.page_scopes.specs.laws.Views.{TargetsFit}
use Rattle.page_scopes.specs.declared.layouts.Kept.{Kept}
use Rattle.page_scopes_tree.specs.declared.nestings.Scope.{Scope}
use Rattle.page_scopes_labels.specs.declared.labels.Label.{Label}
use Rattle.page_roff_lines.specs.laws.Cutting.{Point, point_after, lines_within, next_point, point_at}
use Rattle.page_roff_lines.specs.machine.Open.{open_after}
use Rattle.page_roff_lines.proofs.PointLemmas.{open_after-consumed}

abbrev pub fixed : FillEdge → Output × ℕ
fixed e = (e.output, e.sheet.width)

either_fixed : (b : Bool) (k l : Laid FillEdge) (kept : Output × ℕ) → fixed k.edge ≡ kept → fixed l.edge ≡ kept → fixed (if b then k else l).edge ≡ kept
either_fixed true k l kept h g = h
either_fixed false k l kept h g = g

heading_fixed : (b : Bool) (e : FillEdge) → fixed (if b then e else record e { sheet = record e.sheet { heading = true } }) ≡ fixed e
heading_fixed true e = refl
heading_fixed false e = refl

row_end_fixed : (e : FillEdge) → fixed (row_end e).edge ≡ fixed e
row_end_fixed e = elim (cases_Bool (length e.sheet.cells == 0)) [ inl z ↦ rw z refl | inr z ↦ rw z refl ]

after_tag_fixed : (e : FillEdge) (tag : OpenTag) → fixed (after_tag e tag).edge ≡ fixed e
after_tag_fixed e tag = either_fixed _ _ _ (fixed e) refl (either_fixed tag.ends_row (row_end e) (placed e 1) (fixed e) (row_end_fixed e) refl)

tag_end_fixed : (e : FillEdge) (set_in : Option ℕ) (tag : Option OpenTag) → fixed (tag_end e set_in tag).edge ≡ fixed e
tag_end_fixed e None (Some tag) = either_fixed e.sheet.tag_begun _ _ (fixed e) (after_tag_fixed (record e { tag = None }) tag) refl
tag_end_fixed e None None = row_end_fixed (record e { tag = None })
tag_end_fixed e (Some blanks) tag = refl

-- with this width
of_width : (e : FillEdge) (w : ℕ) → w ≡ e.sheet.width → (e.output, w) ≡ fixed e
of_width e w h = rw h refl

words_fixed : (e : FillEdge) (items : List Item) → fixed (words_laid e items).edge ≡ fixed e
unfolding words_laid
words_fixed e items = of_width e _ (going_width e.sheet _)

content_fixed : (e : FillEdge) (place : Place) (content : List CellOrNote) → fixed (content_laid e place content).edge ≡ fixed e
unfolding content_laid
content_fixed e place content = of_width e _ (going_width e.sheet _)

tab_fixed : (e : FillEdge) (place : Place) → fixed (seq (content_laid e place []) (λ f. content_laid f place (stop_content f.sheet.cells place))).edge ≡ fixed e
tab_fixed e place = let f = (content_laid e place []).edge in content_fixed f place (stop_content f.sheet.cells place) ∙ content_fixed e place []

other_fixed : (e : FillEdge) (p : Piece (List ℕ)) → fixed (other_laid e p).edge ≡ fixed e
unfolding other_laid words_laid content_laid
other_fixed e (Tab font place) =
    either_fixed e.sheet.literal _ _ (fixed e) (tab_fixed e place) (words_fixed e (shown (Tab font place) ∷ []))
other_fixed e Break = row_end_fixed e
other_fixed e RowEnd = either_fixed (length e.sheet.cells == 0) _ _ (fixed e) (row_end_fixed e) (row_end_fixed e)
other_fixed e (Para n) = row_end_fixed e
other_fixed e (Space n) = row_end_fixed e
other_fixed e TagEnd = tag_end_fixed e e.set_in e.tag
other_fixed e Heading = heading_fixed (length e.sheet.cells == 0) (row_end e).edge ∙ row_end_fixed e
other_fixed e (Text bytes font place) = words_fixed e (shown (Text bytes font place) ∷ [])
other_fixed e (Glyph name font place) = words_fixed e (shown (Glyph name font place) ∷ [])
other_fixed e (Char c font place) = words_fixed e (shown (Char c font place) ∷ [])
other_fixed e (Blank count has_tab) = words_fixed e (shown (Blank count has_tab) ∷ [])
other_fixed e Glue = words_fixed e (shown Glue ∷ [])
other_fixed e Split = words_fixed e (shown Split ∷ [])
other_fixed e (Indent first rest) = refl
other_fixed e (Literal literal) = refl
other_fixed e (Tag hang forms.Row) = refl
other_fixed e (Tag hang forms.Hang) = refl
other_fixed e (Tag hang (forms.Inset n)) = refl
other_fixed e (Column n) = refl

groups_fixed : (e : FillEdge) (all : List Group) → fixed (groups_laid e all).edge ≡ fixed e
unfolding groups_laid
groups_fixed e [] = refl
groups_fixed e (words items ∷ more) = groups_fixed (words_laid e items).edge more ∙ words_fixed e items
groups_fixed e (other p ∷ more) = groups_fixed (other_laid e p).edge more ∙ other_fixed e p

pub filled_fixed : (e : FillEdge) (items : List Item) → fixed (filled e items).edge ≡ fixed e
filled_fixed e items = groups_fixed e (groups items)

-- piece by piece
item_fixed : (e : FillEdge) (item : Item) → fixed (laid_item e item).edge ≡ fixed e
item_fixed e (shown p) = filled_fixed e (shown p ∷ [])
item_fixed e (noted m) = refl

pub items_fixed : (e : FillEdge) (items : List Item) → fixed (laid_items e items).edge ≡ fixed e
unfolding laid_items
items_fixed e [] = refl
items_fixed e (item ∷ items) = items_fixed (laid_item e item).edge items ∙ item_fixed e item

pub output_kept : (f g : FillEdge) → fixed f ≡ fixed g → f.output ≡ g.output
output_kept f g h = ap (λ (p : Output × ℕ). p.0) h

-- ---- What a call on the layers did, as it is said of the page.

-- ---- the edge that the layers are at

pub edge_at : (p : Layers) (e : Edge) → IsAt p e → edge_of p ≡ Some e
edge_at p e h = rw (h.filled, h.lines, h.levels, h.worst_level, h.last_line) refl

-- what is kept of an open page
pub open_kept : {phase : Phase} {counts : Counts} {layers : Layers} → phase ≡ Open → IsKept phase counts layers → IsKept Open counts layers
open_kept is kept = rw is at kept

some_same : (f e : Edge) → Some f ≡ Some e → f ≡ e
some_same f e is = cc

-- the edge that layers are at is one
edge_is : (p : Layers) (f e : Edge) → IsAt p f → edge_of p ≡ Some e → f ≡ e
edge_is p f e at h = some_same f e (sym (edge_at p f at) ∙ h)

pub within_is : (p : Layers) (f e : Edge) → IsAt p f → edge_of p ≡ Some e → IsWithin f → IsWithin e
within_is p f e at h fits = subst (λ (x : Edge). IsWithin x) (edge_is p f e at h) fits

-- and so is what was copied of it
pub within_held : (res : Result Edge Fault) (e : Edge) → MatchResult res (λ x. x ≡ e) (λ fault. fault ≡ faults.Memory) → IsWithin e → IfOk res IsWithin
within_held (Ok x) e same fits = subst (λ (y : Edge). IsWithin y) (sym same) fits
within_held (Err fault) e same fits = tt

-- the layers of a page that is open at an edge
pub open_layers : {now : PageState} {phase : Phase} {counts : Counts} (layers : Layers) (e : Edge) → IsKept phase counts layers
    → record { phase = phase; edge = edge_of layers; worst = layers.worst; counts = counts } ≡ now → IsOpenAt now e → IsAt layers e
open_layers layers e kept is h =
    let k = open_kept (ap (λ (p : PageState). p.phase) is ∙ h.phase) kept in
    subst (λ (x : Edge). IsAt layers x) (edge_is layers k.0 e k.1 (ap (λ (p : PageState). p.edge) is ∙ h.edge)) k.1

-- a page that is open is at an edge
pub open_at : {now : PageState} {phase : Phase} {counts : Counts} (layers : Layers) → IsKept phase counts layers
    → record { phase = phase; edge = edge_of layers; worst = layers.worst; counts = counts } ≡ now → now.phase ≡ Open → (e : Edge) × IsOpenAt now e
open_at {now} layers kept is h =
    let k = open_kept (ap (λ (p : PageState). p.phase) is ∙ h) kept in (
      k.0,
      record {
        reached = k.2;
        phase = h;
        edge = ap (λ (p : PageState). p.edge) (sym is) ∙ edge_at layers k.0 k.1;
        worst = ap (λ (p : PageState). p.worst) (sym is) ∙ k.1.worst_level;
        counts = ap (λ (p : PageState). p.counts) (sym is) ∙ (k.3 ∙ ap (λ (l : LinesEdge). counts_of l.roff) k.1.lines);
      },
    )

-- a page that has failed has the worst level and the counts from before
pub failed_at : {now after : PageState} {phase : Phase} {counts : Counts} (layers : Layers) (e : Edge)
    → record { phase = phase; edge = edge_of layers; worst = layers.worst; counts = counts } ≡ now → IsOpenAt now e
    → after.phase ≡ Failed → after.worst ≡ layers.worst → after.counts ≡ counts → IsFailedAt after e
failed_at layers e is h phase worst counts = record {
  phase = phase;
  worst = worst ∙ (ap (λ (p : PageState). p.worst) is ∙ h.worst);
  counts = counts ∙ (ap (λ (p : PageState). p.counts) is ∙ h.counts);
}

-- ---- sinks that are well

rose_not : (old new : ℕ) → old < 2 ^ 64 - 1 → new ≡ old → (old < 2 ^ 64 - 1 → old < new) → ⊥
rose_not old new room same rose = let less = rose room in omega (arith, less, same)

pub no_cause : (fault : Fault) (r r' n n' : ℕ) → r < 2 ^ 64 - 1 → r' ≡ r → n < 2 ^ 64 - 1 → n' ≡ n → IsSinkFault fault r r' n n' → ⊥
no_cause faults.WriteText r r' n n' a b c d h = rose_not r r' a b h
no_cause faults.WriteNotes r r' n n' a b c d h = rose_not n n' c d h
no_cause _ r r' n n' a b c d h = h

-- ---- What the layers of a page share stays alike in them.

pub start_agrees : (s : Settings) → Agrees (start s)
start_agrees s = record { number = refl; output = refl; measure = refl; scopes_indent = refl; scopes_output = refl }

last_is : (n : Option ℕ) (lines : List Line) → last_of (unwrap_or n 0) (raw_lines lines) ≡ unwrap_or (last_number n lines) 0
last_is n [] = refl
last_is n (line ∷ lines) = last_is (Some line.number) lines

-- what the body of an edge shares, where its layers agree
shares : (e : Edge) → Agrees e
    → shared_of e.lines.body ≡ sharing e.fill.sheet.width e.fill.output e.lines.body.header.indent e.lines.body.header.os e.lines.body.header.set
shares e h = rw (h.measure, h.scopes_indent, h.scopes_output) refl

pub lines_agree : (e : Edge) (lines : List Line) → e.lines.roff.to_come ≡ None → Agrees e → Agrees (edge e lines)
unfolding settled
lines_agree e lines idle h =
    let b : BodyEdge = (lines_after e.lines (raw_lines lines)).body in
    let indent = e.lines.body.header.indent in
    let os = e.lines.body.header.os in
    let kept = sym (filled_fixed e.fill (lines_items e.lines (raw_lines lines))) in
    let k = lines_shared e.fill.sheet.width e.fill.output indent os e.lines (raw_lines lines) (shares e h) in
    let alike : shared_of b ≡ sharing (edge e lines).fill.sheet.width (edge e lines).fill.output b.header.indent b.header.os b.header.set =
    k
    ∙ ap (λ (i : Option ℕ). sharing e.fill.sheet.width e.fill.output i os b.header.set) (sym (ap (λ (s : Shared). s.indent) k))
    ∙ ap (λ (n : List ℕ). sharing e.fill.sheet.width e.fill.output b.header.indent n b.header.set) (sym (ap (λ (s : Shared). s.os) k))
    ∙ ap (λ (p : Output × ℕ). sharing p.1 p.0 b.header.indent b.header.os b.header.set) kept in
    record {
      number = done_number_is e.lines.roff (raw_lines lines) idle ∙ (ap (λ (n : ℕ). last_of n (raw_lines lines)) h.number ∙ last_is e.last lines);
      output = h.output ∙ ap (λ (p : Output × ℕ). p.0) kept;
      measure = ap (λ (s : Shared). s.measure) alike;
      scopes_indent = ap (λ (s : Shared). s.scopes_indent) alike;
      scopes_output = ap (λ (s : Shared). s.scopes_output) alike;
    }

-- ---- Whole lists of lines: they may be cut anywhere, and settle what their lines settle one after another.

-- ---- one thing after another, by levels

of_page-join : (e f g : Edge) (a b : Laid FillEdge) → a.edge.output ≡ e.fill.output → f.least ≡ e.least
    → of_page e g (join a b) ≡ join (of_page e f a) (of_page (of_page e f a).edge g b)
of_page-join e f g a b o h = rw (o, h, shown_rows-append, reported-append, worst_of-append) refl

-- of the edge beside the open row and the worst level, three fields count
of_page-same : (e f g : Edge) (l : Laid FillEdge) → f.least ≡ g.least → f.last ≡ g.last → f.lines ≡ g.lines → of_page e f l ≡ of_page e g l
of_page-same e f g l least last lines = rw (least, last, lines) refl

-- where lines move it to
abbrev moved : Edge → LinesEdge → Option ℕ → Edge
moved e lines last = record e { last = last; lines = lines }

of_page-moved : (e f : Edge) (n m : Option ℕ) (a b : LinesEdge) (l : Laid FillEdge) → n ≡ m → a ≡ b → of_page e (moved f a n) l ≡ of_page e (moved f b m) l
of_page-moved e f n m a b l h g = rw (h, g) refl

no_messages : (e : Edge) → of_page e e (nothing e.fill) ≡ nothing e
unfolding reported worst_of
no_messages e = rw shown_rows-nil refl

-- ---- lists of lines

last_number-append : (n : Option ℕ) (xs ys : List Line) → last_number n (xs ++ ys) ≡ last_number (last_number n xs) ys
last_number-append n [] ys = refl
last_number-append n (x ∷ xs) ys = last_number-append (Some x.number) xs ys

after-append : (e : LinesEdge) (xs ys : List Line) → lines_after e (raw_lines (xs ++ ys)) ≡ lines_after (lines_after e (raw_lines xs)) (raw_lines ys)
after-append e xs ys = ap (λ (l : List SourceLine). lines_after e l) (map-append raw xs ys) ∙ lines_after-append e (raw_lines xs) (raw_lines ys)

items-append : (e : LinesEdge) (xs ys : List Line)
    → lines_items e (raw_lines (xs ++ ys)) ≡ lines_items e (raw_lines xs) ++ lines_items (lines_after e (raw_lines xs)) (raw_lines ys)
items-append e xs ys = ap (λ (l : List SourceLine). lines_items e l) (map-append raw xs ys) ∙ lines_items-append e (raw_lines xs) (raw_lines ys)

-- ---- the edges that a page comes to

pub start_reached : (s : Settings) → IsReached (start s)
start_reached s = record { agrees = start_agrees s; row = fresh-held s.width; word = refl; line = refl }

pub reached : (e : Edge) (lines : List Line) → IsReached e → IsReached (edge e lines)
unfolding settled
reached e lines r =
    let h = held-law e.fill (lines_items e.lines (raw_lines lines)) r.row r.word in
    record { agrees = lines_agree e lines r.line r.agrees; row = h.0; word = h.1; line = refl }

-- in them roff and the body are where the lines leave these
pub lines_edge : (e : Edge) (lines : List Line) → (edge e lines).lines ≡ lines_after e.lines (raw_lines lines)
unfolding settled
lines_edge e lines = refl

-- ---- what lines settle

pub settled_none : (e : Edge) → IsReached e → settled e [] ≡ nothing e
unfolding settled laid_items
settled_none e r =
    let none : filled e.fill (lines_items e.lines []) ≡ nothing e.fill =
    ap (λ (l : List Item). filled e.fill l) (no_items e.lines) ∙ sym (items-law e.fill [] r.row r.word) in
    ap (λ (l : Laid FillEdge). of_page e (after e []) l) none
    ∙ of_page-moved e e e.last e.last _ e.lines (nothing e.fill) refl (none_after e.lines r.line)
    ∙ no_messages e

pub settled-append : (e : Edge) (xs ys : List Line) → IsReached e → settled e (xs ++ ys) ≡ join (settled e xs) (settled (edge e xs) ys)
unfolding settled
settled-append e xs ys r =
    let lines = e.lines in
    let above = lines_items lines (raw_lines xs) in
    let next = lines_after lines (raw_lines xs) in
    let below = lines_items next (raw_lines ys) in
    let a = filled e.fill above in
    let b = filled a.edge below in
    let f = edge e xs in
    ap (λ (l : List Item). of_page e (after e (xs ++ ys)) (filled e.fill l)) (items-append lines xs ys)
    ∙ ap (λ (l : Laid FillEdge). of_page e (after e (xs ++ ys)) l) (cut-law e.fill above below r.row r.word)
    ∙ of_page-join e (after e xs) (after e (xs ++ ys)) a b (output_kept a.edge e.fill (filled_fixed e.fill above)) refl
    ∙ ap (λ (l : Laid Edge). join (of_page e (after e xs) a) l)
    (of_page-moved f f _ _ (lines_after lines (raw_lines (xs ++ ys))) (lines_after next (raw_lines ys)) b (last_number-append e.last xs ys) (after-append lines xs ys))

-- ---- one line

told_notes : (f : FillEdge) (notes : List Message) → laid_items f (map noted notes) ≡ record { rows = []; notes = notes; edge = f }
unfolding laid_items
told_notes f [] = refl
told_notes f (m ∷ notes) = ap (λ (l : Laid FillEdge). record { rows = l.rows; notes = m ∷ l.notes; edge = l.edge }) (told_notes f notes)

pub one_line : (e : Edge) (line : Line) → IsReached e → settled e (line ∷ []) ≡ by_line.settled_line e line
unfolding settled by_line.settled_text
one_line e line r =
    let lines = e.lines in
    let items = source_items lines line.number line.text in
    let notes : Laid FillEdge = record { rows = []; notes = line.notes; edge = e.fill } in
    let laid = laid_items e.fill items in
    let f = (by_line.laid_notes e line.notes).edge in
    let all = after e (line ∷ []) in
    ap (λ (l : List Item). of_page e all (filled e.fill l)) (one_items lines line.number line.text line.notes)
    ∙ ap (λ (l : Laid FillEdge). of_page e all l) (sym (items-law e.fill (map noted line.notes ++ items) r.row r.word))
    ∙ ap (λ (l : Laid FillEdge). of_page e all l) (laid_items-append e.fill (map noted line.notes) items)
    ∙ ap (λ (l : Laid FillEdge). of_page e all (join l (laid_items l.edge items))) (told_notes e.fill line.notes)
    ∙ of_page-join e e all notes laid refl refl
    ∙ ap (λ (l : Laid Edge). join (of_page e e notes) l)
    (of_page-moved f f _ _ (lines_after lines (raw line ∷ [])) (source_after lines line.number line.text) laid refl (one_after lines line.number line.text line.notes r.line))

pub line_reached : (e : Edge) (line : Line) → IsReached e → IsReached (by_line.settled_line e line).edge
line_reached e line r = subst (λ (l : Laid Edge). IsReached l.edge) (one_line e line r) (reached e (line ∷ []) r)

-- a line without a message of its cutting
pub text_settled : (e : Edge) (text : List ℕ) (number : ℕ) → IsReached e → settled e (text_line text number ∷ []) ≡ by_line.settled_text e text number
unfolding reported worst_of
text_settled e text number r =
    one_line e (text_line text number) r ∙ ap (λ (l : Laid Edge). join l (by_line.settled_text l.edge text number)) (no_messages e)

pub text_reached : (e : Edge) (text : List ℕ) (number : ℕ) → IsReached e → IsReached (by_line.settled_text e text number).edge
text_reached e text number r =
    subst (λ (l : Laid Edge). IsReached l.edge) (text_settled e text number r) (reached e (text_line text number ∷ []) r)

-- line after line
pub by_lines : (e : Edge) (lines : List Line) → IsReached e → settled e lines ≡ by_line.settled e lines
unfolding by_line.settled
by_lines e [] r = settled_none e r
by_lines e (line ∷ lines) r =
    settled-append e (line ∷ []) lines r
    ∙ ap (λ (l : Laid Edge). join (settled e (line ∷ [])) l) (by_lines (edge e (line ∷ [])) lines (reached e (line ∷ []) r))
    ∙ ap (λ (l : Laid Edge). join l (by_line.settled l.edge lines)) (one_line e line r)

-- ---- the page's end

-- from an edge
end_laid : Edge → Laid FillEdge
end_laid e = seq (filled e.fill (end_items e.lines (last_line e))) (λ h. footer_laid e h)

end_of : Edge → Laid Edge
end_of e = of_page e e (end_laid e)

-- a page is what its lines settle, and then its end
page_is : (e : Edge) (lines : List Line) → IsReached e → page e lines ≡ join (settled e lines) (end_of (edge e lines))
unfolding page settled end_of end_laid
page_is e lines r =
    let f = after e lines in
    let g = edge e lines in
    let n = last_line f in
    let above = lines_items e.lines (raw_lines lines) in
    let end = end_items g.lines n in
    let a = filled e.fill above in
    let z = filled a.edge end in
    let w = footer_laid g z.edge in
    ap (λ (l : List Item). of_page e f (seq (filled e.fill l) (λ h. footer_laid f h))) (end_items_after e.lines (raw_lines lines) n)
    ∙ ap (λ (l : Laid FillEdge). of_page e f (seq l (λ h. footer_laid g h))) (cut-law e.fill above end r.row r.word)
    ∙ ap (λ (l : Laid FillEdge). of_page e f l) (join_assoc a z w)
    ∙ of_page-join e f f a (join z w) (output_kept a.edge e.fill (filled_fixed e.fill above)) refl
    ∙ ap (λ (l : Laid Edge). join (of_page e f a) l) (of_page-same g f g (join z w) refl refl refl)

pub page-append : (e : Edge) (xs ys : List Line) → IsReached e → page e (xs ++ ys) ≡ join (settled e xs) (page (edge e xs) ys)
page-append e xs ys r =
    let f = edge e xs in
    page_is e (xs ++ ys) r
    ∙ ap (λ (l : Laid Edge). join l (end_of l.edge)) (settled-append e xs ys r)
    ∙ join_assoc (settled e xs) (settled f ys) (end_of (settled f ys).edge)
    ∙ ap (λ (l : Laid Edge). join (settled e xs) l) (sym (page_is f ys (reached e xs r)))

pub page_end : (e : Edge) (lines : List Line) → IsReached e → page e lines ≡ join (settled e lines) (page (edge e lines) [])
page_end e lines r = ap (page e) (sym (append-nil lines)) ∙ page-append e lines [] r

-- the end, step by step
end_by_line : (e : Edge) → IsReached e → end_of e ≡ by_line.ended e
unfolding end_of end_laid by_line.ended
end_by_line e r =
    let end = end_items e.lines (last_line e) in
    let a = filled e.fill end in
    let held = held-law e.fill end r.row r.word in
    let footer = footer_items e.lines (last_line e) (fill.blank_rows_at_end a.edge) in
    let rows : footer_laid e a.edge ≡ by_line.footer_laid e a.edge =
    ap (λ (l : Laid FillEdge). seq l row_end) (sym (items-law a.edge footer held.0 held.1)) in
    ap (λ (l : Laid FillEdge). of_page e e (join a l)) rows
    ∙ ap (λ (l : Laid FillEdge). of_page e e (join l (by_line.footer_laid e l.edge))) (sym (items-law e.fill end r.row r.word))

pub page_none : (e : Edge) → IsReached e → page e [] ≡ by_line.ended e
page_none e r =
    page_is e [] r
    ∙ ap (λ (l : Laid Edge). join l (end_of l.edge)) (settled_none e r)
    ∙ end_by_line e r

-- the end counts nothing
pub end_counts : (e : Edge) → IsReached e → counts_at (page e []).edge ≡ counts_at e
unfolding by_line.ended
end_counts e r = ap (λ (l : Laid Edge). counts_at l.edge) (page_none e r)

pub page_by_lines : (e : Edge) (lines : List Line) → IsReached e → page e lines ≡ by_line.page e lines
page_by_lines e lines r =
    page_is e lines r
    ∙ ap (λ (l : Laid Edge). join (settled e lines) l) (end_by_line (edge e lines) (reached e lines r))
    ∙ ap (λ (l : Laid Edge). join l (by_line.ended l.edge)) (by_lines e lines r)

-- ---- How many bytes the texts of an edge have.

-- what fits has at most so many bytes
in_most : {A : Type 0} (o : Option A) (Fits : A → Type 0) (bytes : A → ℕ) (most : ℕ) → ((x : A) → Fits x → bytes x ≤ most) → IfSome o Fits → bytes_in o bytes ≤ most
in_most None Fits bytes most each h = omega arith
in_most (Some x) Fits bytes most each h = each x h

text_most : (o : Option (List ℕ)) (most : ℕ) → IfSome o (λ text. length text ≤ most) → bytes_in o length ≤ most
text_most None most h = omega arith
text_most (Some text) most h = h

target_most : (scope : Scope Label Kept) → IfSome scope.before.target (λ target. length target.text ≤ 256) → target_bytes scope ≤ 256
target_most scope h = in_most scope.before.target (λ target. length target.text ≤ 256) (λ target. length target.text) 256 (λ target fits. fits) h

targets_most : (scopes : List (Scope Label Kept)) → TargetsFit scopes → sum_by target_bytes scopes ≤ 256 * length scopes
targets_most [] h = omega arith
targets_most (scope ∷ scopes) h = omega (arith, sum_by-cons target_bytes scope scopes, target_most scope h.0, targets_most scopes h.1)

pub texts_most : (e : Edge) → IsWithin e → text_bytes e ≤ 100224
texts_most e h =
    let roff = e.lines.roff in
    let lines = e.lines.body in
    let d = roff.memory.definitions in
    let fields = lines.header.fields in
    let names : size d.texts + size d.registers ≤ 65536 = h.roff.memory.names.bytes in
    let region : bytes_in roff.place.region (λ region. bytes_in region.name length + length region.ending) ≤ 128 =
    in_most roff.place.region _ (λ region. bytes_in region.name length + length region.ending) 128
    (λ region fits. omega (arith, text_most region.name 64 fits.name, fits.ending)) h.roff.place.region in
    let body : bytes_in roff.memory.body length ≤ 16384 = text_most roff.memory.body 16384 h.roff.memory.body in
    let targets = targets_most lines.scopes.scopes h.body.scopes.targets in
    let depth : length lines.scopes.scopes ≤ 64 = h.body.scopes.depth in
    let manual : bytes_in lines.scopes.state.name (λ name. length name.text) ≤ 256 =
    in_most lines.scopes.state.name (λ name. length name.text ≤ 256) (λ name. length name.text) 256 (λ name fits. fits) h.body.scopes.name in
    let os : length lines.header.os ≤ 256 = h.body.os in
    let title : length fields.title ≤ 256 = h.body.fields.title in
    let section : length fields.section ≤ 256 = h.body.fields.section in
    let date : length fields.date ≤ 256 = h.body.fields.date in
    let source : length fields.source ≤ 256 = h.body.fields.source in
    let volume : length fields.volume ≤ 256 = h.body.fields.volume in
    omega (arith, names, region, body, targets, depth, manual, os, title, section, date, source, volume)

-- ---- The bytes of a page part by part, and what their lines settle.

-- ---- a part of the bytes

-- no line was whole
pub none_gave : {R N : Type 0} {rg rw_ : R → List LaidRow → R → Type 0} {ng nw : N → List Message → N → Type 0} → IsSink rg rw_ → IsSink ng nw
    → (r : R) (n : N) (e : Edge) (lines : List Line) (b : Bool) (line : Line) → IsReached e
    → lines ≡ (if b then line ∷ [] else []) → b ≡ false → Gave rg ng r r n n (settled e lines)
none_gave k l r n e lines b line i h f =
    let z : lines ≡ [] = rw f at h in
    let none : settled e lines ≡ nothing e = rw z (settled_none e i) in
    rw none record { rows = k.none r; notes = l.none n }

pub none_edge : {here : PageState} (e : Edge) (lines : List Line) (b : Bool) (line : Line)
    → lines ≡ (if b then line ∷ [] else []) → b ≡ false → IsOpenAt here e → IsOpenAt here (settled e lines).edge
none_edge e lines b line h f i =
    let z : lines ≡ [] = rw f at h in
    let none : settled e lines ≡ nothing e = rw z (settled_none e i.reached) in
    rw none i

-- one line was whole
pub one_gave : {R N : Type 0} {rg : R → List LaidRow → R → Type 0} {ng : N → List Message → N → Type 0} {r r' : R} {n n' : N} (e : Edge) (lines : List Line) (b : Bool) (line : Line)
    → lines ≡ (if b then line ∷ [] else []) → b ≡ true → Gave rg ng r r' n n' (settled e (line ∷ [])) → Gave rg ng r r' n n' (settled e lines)
one_gave e lines b line h t g = let z : lines ≡ line ∷ [] = rw t at h in rw z g

pub one_edge : {here : PageState} (e : Edge) (lines : List Line) (b : Bool) (line : Line)
    → lines ≡ (if b then line ∷ [] else []) → b ≡ true → IsOpenAt here (settled e (line ∷ [])).edge → IsOpenAt here (settled e lines).edge
one_edge e lines b line h t i = let z : lines ≡ line ∷ [] = rw t at h in rw z i

-- a byte has at most one line
pub at_most : (b : Bool) (line : Line) → length (if b then line ∷ [] else []) ≤ 1
at_most true line = omega arith
at_most false line = omega arith

-- each byte counts
pub consumed_more : (p : Point) (bytes : List ℕ) → (point_after p bytes).line.consumed ≡ p.line.consumed + length bytes
unfolding point_after next_point point_at open_after
consumed_more p [] = omega arith
consumed_more p (b ∷ bs) = omega (arith, consumed_more (next_point p b) bs, open_after-consumed p.line (b ∷ []))

-- ---- the lines of a part of a chunk

pub none_count : (lines : List Line) (b : Bool) (line : Line) → lines ≡ (if b then line ∷ [] else []) → b ≡ false → length lines ≡ 0
none_count lines b line h f = let z : lines ≡ [] = rw f at h in rw z refl

pub one_count : (lines : List Line) (b : Bool) (line : Line) → lines ≡ (if b then line ∷ [] else []) → b ≡ true → length lines ≡ 1
one_count lines b line h t = let z : lines ≡ line ∷ [] = rw t at h in rw z refl

pub most_one : (lines : List Line) (b : Bool) (line : Line) → lines ≡ (if b then line ∷ [] else []) → length lines ≤ 1
most_one lines b line h = rw h (at_most b line)

-- a whole line has a byte
pub some_taken : (p : Point) (n : ℕ) (chunk : List ℕ) (b : Bool) (line : Line) → lines_within p (take n chunk) ≡ (if b then line ∷ [] else []) → b ≡ true → 0 < n
unfolding lines_within
some_taken p zero chunk b line h t = let z : [] ≡ line ∷ [] = rw t at h in let no : ⊥ = cc in absurd no
some_taken p (suc n) chunk b line h t = omega arith
