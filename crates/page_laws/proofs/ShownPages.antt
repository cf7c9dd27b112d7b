-- The rows of a page, and their bytes, without control characters.
use Rattle.std.specs.List.{All}
use Rattle.std.specs.Prelude.{◌⊎◌}
use Rattle.std.proofs.Common.{◌≡◌, ℕ, ◌==◌, ◌++◌, Bool, true, false, cond, List, [], ◌∷◌, map, flat_map, replicate, encode_utf8, codes, length, inl, inr, refl, sym, ap, ◌∙◌, append-nil, append_assoc, zero, suc}
use Rattle.std.proofs.lemmas.Bool.{cases_Bool}
use Rattle.std.proofs.lemmas.Grind.{flat_map-append}
use Rattle.std.proofs.lemmas.List.Elements.{All-nil, All-cons, All-head, All-tail, All-append, All-replicate}
use Rattle.page_core_base.specs.Rows.{LaidRow, Laid, seq, Item, is_blank, trimmed, trimmed_before}
use Rattle.page_core_base.specs.declared.cells.Cell.{Cell}
use Rattle.page_core_base.specs.declared.cells.Font.{Font}
use Rattle.page_core_base.specs.declared.cells.Font.TheVariants.{R, B, I, BI}
use Rattle.page_core_base.specs.declared.page_settings.Settings.{Settings}
use Rattle.page_core_streams.specs.Streams.{backspace, marked_bytes, cell_bytes_of, row_bytes, printed}
use Rattle.page_core_tables.specs.Glyphs.{is_control}
use Rattle.page_roff_lines.specs.Lines.{Line}
use Rattle.page_fill.specs.Filling.{filled, row_end}
use Rattle.page_fill.specs.declared.edges.FillEdge.{FillEdge}
use Rattle.page_engine_lines.specs.Acts.{lines_items, page_items}
use Rattle.page_engine_lines.specs.Edges.{footer_items}
use Rattle.page_engine.specs.Edges.{Edge, last_line, start}
use Rattle.page_engine.specs.Page.{shown_rows, is_silent, raw_lines, after, settled, edge, footer_laid, page}
use Rattle.page_laws.specs.Shown.{AreShown, AreShownRows, IsRowText}
use Rattle.page_laws.proofs.ShownLemmas.{IsShownCell, IsShownRow}
use Rattle.page_laws.proofs.ShownPieces.{ShowsFilled, one-after, end-shows, filled-shows}

-- ---- rows

unless-silent : (silent : Bool) (rows : List LaidRow) → AreShownRows rows → AreShownRows (shown_rows silent rows)
unfolding shown_rows
unless-silent true rows h = All-nil IsShownRow
unless-silent false rows h = h

pub settled-shows : (e : Edge) (lines : List Line) → AreShown e.fill.sheet.cells → AreShownRows (settled e lines).rows × AreShown (edge e lines).fill.sheet.cells
unfolding settled
settled-shows e lines h =
    let all = filled-shows e.fill (lines_items e.lines (raw_lines lines)) h in
    (unless-silent (is_silent e.fill.output) (filled e.fill (lines_items e.lines (raw_lines lines))).rows all.rows, all.cells)

pub page-shows : (e : Edge) (lines : List Line) → AreShown e.fill.sheet.cells → AreShownRows (page e lines).rows
unfolding page
page-shows e lines h =
    let f = after e lines in
    let body = filled e.fill (page_items e.lines (raw_lines lines) (last_line f)) in
    let all = one-after body (λ g. footer_laid f g) (filled-shows e.fill (page_items e.lines (raw_lines lines) (last_line f)) h)
    (λ g k. one-after (filled g (footer_items f.lines (last_line f) g.sheet.blank_rows)) row_end
    (filled-shows g (footer_items f.lines (last_line f) g.sheet.blank_rows) k) end-shows) in
    unless-silent (is_silent e.fill.output) (seq body (λ g. footer_laid f g)).rows all.rows

pub start-shows : (s : Settings) → AreShown (start s).fill.sheet.cells
start-shows s = All-nil IsShownCell

-- ---- bytes

abbrev IsSign : ℕ → Type 0
IsSign c = (is_control c ≡ false) ⊎ (c ≡ backspace)

abbrev marked : ℕ → Font → List ℕ
marked c R = c ∷ []
marked c B = c ∷ backspace ∷ c ∷ []
marked c I = 95 ∷ backspace ∷ c ∷ []
marked c BI = 95 ∷ backspace ∷ c ∷ backspace ∷ c ∷ []

marked-bytes : (c : ℕ) (font : Font) → marked_bytes c font ≡ flat_map encode_utf8 (marked c font)
unfolding lib.Utf8.encode
marked-bytes c R = sym (append-nil (encode_utf8 c))
marked-bytes c B = ap (λ l. encode_utf8 c ++ backspace ∷ l) (sym (append-nil (encode_utf8 c)))
marked-bytes c I = ap (λ l. 95 ∷ backspace ∷ l) (sym (append-nil (encode_utf8 c)))
marked-bytes c BI = ap (λ l. 95 ∷ backspace ∷ (encode_utf8 c ++ backspace ∷ l)) (sym (append-nil (encode_utf8 c)))

twice-signs : (c : ℕ) → is_control c ≡ false → All IsSign (c ∷ backspace ∷ c ∷ [])
twice-signs c h = All-cons IsSign c (backspace ∷ c ∷ []) (inl h) (All-cons IsSign backspace (c ∷ []) (inr refl) (All-cons IsSign c [] (inl h) (All-nil IsSign)))

low-signs : (cs : List ℕ) → All IsSign cs → All IsSign (95 ∷ backspace ∷ cs)
low-signs cs h = All-cons IsSign 95 (backspace ∷ cs) (inl refl) (All-cons IsSign backspace cs (inr refl) h)

marked-signs : (c : ℕ) (font : Font) → is_control c ≡ false → All IsSign (marked c font)
marked-signs c R h = All-cons IsSign c [] (inl h) (All-nil IsSign)
marked-signs c B h = twice-signs c h
marked-signs c I h = low-signs (c ∷ []) (All-cons IsSign c [] (inl h) (All-nil IsSign))
marked-signs c BI h = low-signs (c ∷ backspace ∷ c ∷ []) (twice-signs c h)

-- characters of which each is no control character, or a backspace, and whose bytes these are
record AreSigns (bytes : List ℕ) : Type 0 where
  signs : List ℕ
  are : bytes ≡ flat_map encode_utf8 signs
  shown : All IsSign signs

no-signs : AreSigns []
no-signs = record { signs = []; are = refl; shown = All-nil IsSign }

more-signs : (a b : List ℕ) → AreSigns a → AreSigns b → AreSigns (a ++ b)
more-signs a b x y = record {
  signs = x.signs ++ y.signs;
  are = ap (λ l. l ++ b) x.are ∙ ap (λ l. flat_map encode_utf8 x.signs ++ l) y.are ∙ sym (flat_map-append encode_utf8 x.signs y.signs);
  shown = All-append IsSign x.signs y.signs x.shown y.shown;
}

cell-signs : (cell : Cell) → is_control cell.c ≡ false → AreSigns (cell_bytes_of cell)
unfolding lib.Utf8.encode
cell-signs cell h =
    elim (cases_Bool (is_blank cell)) [
      | inl blank ↦ rw blank (record { signs = 32 ∷ []; are = refl; shown = All-cons IsSign 32 [] (inl refl) (All-nil IsSign) })
      | inr other ↦ rw other (record { signs = marked cell.c cell.font; are = marked-bytes cell.c cell.font; shown = marked-signs cell.c cell.font h })
    ]

cells-signs : (cells : List Cell) → AreShown cells → AreSigns (flat_map cell_bytes_of cells)
cells-signs [] h = no-signs
cells-signs (cell ∷ cells) h =
    more-signs (cell_bytes_of cell) (flat_map cell_bytes_of cells) (cell-signs cell (All-head IsShownCell cell cells h)) (cells-signs cells (All-tail IsShownCell cell cells h))

margin-signs : (count : ℕ) → AreSigns (replicate count 32)
unfolding lib.Utf8.encode
margin-signs zero = no-signs
margin-signs (suc count) = more-signs (32 ∷ []) (replicate count 32) (record { signs = 32 ∷ []; are = refl; shown = All-cons IsSign 32 [] (inl refl) (All-nil IsSign) }) (margin-signs count)

before-shown : (cell : Cell) (cells : List Cell) → is_control cell.c ≡ false → AreShown cells → AreShown (trimmed_before cell cells)
before-shown cell [] h k =
    elim (cases_Bool (is_blank cell)) [
      | inl blank ↦ rw blank (All-nil IsShownCell)
      | inr other ↦ rw other (All-cons IsShownCell cell [] h (All-nil IsShownCell))
    ]
before-shown cell (next ∷ cells) h k = All-cons IsShownCell cell (next ∷ cells) h k

trimmed-shown : (cells : List Cell) → AreShown cells → AreShown (trimmed cells)
trimmed-shown [] h = h
trimmed-shown (cell ∷ cells) h =
    before-shown cell (trimmed cells) (All-head IsShownCell cell cells h) (trimmed-shown cells (All-tail IsShownCell cell cells h))

printed-text : (margin : ℕ) (cells : List Cell) → AreShown cells → IsRowText (printed margin cells)
printed-text margin [] h = record { characters = []; parts = refl; shown = All-nil IsSign }
printed-text margin (cell ∷ cells) h =
    let all = more-signs (replicate margin 32) (flat_map cell_bytes_of (cell ∷ cells)) (margin-signs margin) (cells-signs (cell ∷ cells) h) in
    record {
      characters = all.signs;
      parts = sym (append_assoc (replicate margin 32) (flat_map cell_bytes_of (cell ∷ cells)) (codes "\n")) ∙ ap (λ l. l ++ codes "\n") all.are;
      shown = all.shown;
    }

pub row-text : (row : LaidRow) → AreShown row.cells → IsRowText (row_bytes row)
row-text row h = printed-text row.margin (trimmed row.cells) (trimmed-shown row.cells h)
