-- Words of letters: those that the open row has room for go into it together, and one before which it ends begins the next row.
use Rattle.std.proofs.Common.{◌≡◌, ℕ, zero, suc, ◌+◌, ◌-◌, ◌<◌, ◌≤◌, true, false, ◌&&◌, ◌||◌, ◌==◌, min, List, [], ◌∷◌, ◌++◌, length, map, replicate, take, drop, append-nil, append_assoc, length-append, length-drop, drop-drop, subst, refl, sym, ap, ◌∙◌, inl, inr, arith}
use Rattle.std.specs.List.{list_all}
use Rattle.std.proofs.Math.Seq.{take-append_seam, drop-append_seam}
use Rattle.std.proofs.lemmas.List.{length-map, length-replicate, length-take-le, map-append, take-append-drop, take-map, take_all}
use Rattle.std.proofs.lemmas.List.Folds.{list_all-append}
use Rattle.std.proofs.lemmas.List.Sums.{prefix_len-le-length, sum_by-append}
use Rattle.std.proofs.lemmas.Bool.{cases_Bool}
use Rattle.std.proofs.lemmas.Bool.Decides.{nat_tests}
use Rattle.page_core_base.specs.declared.cells.Cell.{Cell}
use Rattle.page_core_base.specs.declared.cells.Font.{Font}
use Rattle.page_core_base.specs.declared.pieces.Piece.{Piece}
use Rattle.page_core_base.specs.declared.pieces.Piece.TheVariants.{Blank}
use Rattle.page_core_base.specs.declared.places.Place.{Place}
use Rattle.page_core_base.specs.declared.limits.TheConstants.{CELLS}
use Rattle.page_core_base.specs.Rows.{Laid, nothing, join}
use Rattle.page_core_base.specs.laws.Views.{join_assoc, cells_in, blank_words, is_lettered_word, is_word, joined_cells, lettered_cells, lettered_pieces, word_letters, is_printable_ascii}
use Rattle.page_fill_cells.proofs.PlaceLemmas.{in-drop, in-length, in-take}
use Rattle.page_fill_rows.specs.OpenRows.{Sheet, over}
use Rattle.page_fill_cells.specs.Cells.{blank, cell_columns, columns}
use Rattle.page_fill_rows.specs.machine.Sheets.{emptied, gives, letters}
use Rattle.page_fill_rows.specs.machine.Plain.{begun_with, blank_counted, ends_before, free_cells, has_word_room, next_free_cells, spaced_by, taken, word_end, word_start, words_taken, wraps_plain, wraps_words}
use Rattle.page_fill_rows.proofs.PlainLemmas.{are_plain, cells-fit, columns-blanks, columns-cells, in-plain, spaced-room, taken-cells}
use Rattle.page_fill_rows.proofs.GroupLemmas.{start-append}
use Rattle.page_fill_rows.proofs.WrapLemmas.{both, both-cells}
use Rattle.page_fill.specs.laws.Views.{AreWords, first_letters, fits_after, is_in_row}
use Rattle.page_fill.specs.declared.edges.FillEdge.{FillEdge}
use Rattle.page_fill.specs.machine.Fill.{laid}
use Rattle.page_fill.specs.machine.Items.{AreSpaced, LaysUpTo, LaysWords}
use Rattle.page_fill.specs.machine.Words.{next_front, whole_words}
use Rattle.page_fill.proofs.FilledWords.{laid-append}
use Rattle.page_fill.proofs.LetteredPieces.{back-is-plain, begun_on, bytes_of, front-is-plain, word-is, word-laid, word-laid-after, word_bytes}
use Rattle.page_fill.proofs.WordRunLemmas.{first-length, joined_words, none-whole, start-blank, start-letters, start-some, whole-words, word-letters}

-- ---- the bytes of words

abbrev all_bytes : List (List (Piece (List ℕ))) → List (List ℕ)
all_bytes words = map word_bytes words

pub first-is : (word : List (Piece (List ℕ))) (words : List (List (Piece (List ℕ)))) → list_all is_lettered_word (word ∷ words) ≡ true → is_lettered_word word ≡ true
first-is word words all = grind (arith, all)

others-are : (word : List (Piece (List ℕ))) (words : List (List (Piece (List ℕ)))) → list_all is_lettered_word (word ∷ words) ≡ true → list_all is_lettered_word words ≡ true
others-are word words all = grind (arith, all)

words-are : (words : List (List (Piece (List ℕ)))) → list_all is_lettered_word words ≡ true → list_all is_word (all_bytes words) ≡ true
words-are [] all = refl
words-are (word ∷ words) all = grind (arith, word-is, first-is, others-are, words-are words (others-are word words all))

lettered-bytes : (words : List (List (Piece (List ℕ)))) → bytes_of (lettered_cells words) ≡ blank_words (all_bytes words)
unfolding lettered_cells blank_words
lettered-bytes [] = refl
lettered-bytes (word ∷ words) = grind (arith, map-append, word_bytes, lettered-bytes words)

joined-bytes : (words : List (List (Piece (List ℕ)))) → bytes_of (joined_cells words) ≡ joined_words (all_bytes words)
joined-bytes [] = refl
joined-bytes (word ∷ words) = grind (arith, map-append, word_bytes, lettered-bytes)

joined-length : (words : List (List (Piece (List ℕ)))) → length (joined_cells words) ≡ length (joined_words (all_bytes words))
joined-length words = sym (length-map (joined_cells words) (λ (cell : Cell). cell.c)) ∙ ap (λ (bytes : List ℕ). length bytes) (joined-bytes words)

in-bytes : (text : List ℕ) (fonts : List Font) → length fonts ≡ length text → bytes_of (cells_in text fonts) ≡ text
in-bytes [] fonts same = refl
in-bytes (b ∷ text) [] same = absurd (omega (arith, same))
in-bytes (b ∷ text) (font ∷ fonts) same = ap (λ (bytes : List ℕ). b ∷ bytes) (in-bytes text fonts (omega (arith, same)))

text-is : (text : List ℕ) (fonts : List Font) (words : List (List (Piece (List ℕ)))) → length fonts ≡ length text → cells_in text fonts ≡ joined_cells words
    → text ≡ joined_words (all_bytes words)
text-is text fonts words same is = sym (in-bytes text fonts same) ∙ (ap bytes_of is ∙ joined-bytes words)

-- ---- the first words, and the others

cells-split : (words : List (List (Piece (List ℕ)))) (n : ℕ) → lettered_cells words ≡ lettered_cells (take n words) ++ lettered_cells (drop n words)
unfolding lettered_cells
cells-split [] zero = refl
cells-split [] (suc n) = refl
cells-split (word ∷ words) zero = refl
cells-split (word ∷ words) (suc n) = grind (arith, append_assoc, cells-split words n)

-- the first ones, if there are any
joined-split : (words : List (List (Piece (List ℕ)))) (n : ℕ) → 0 < length (joined_cells (take n words))
    → joined_cells words ≡ joined_cells (take n words) ++ lettered_cells (drop n words)
joined-split [] zero some = absurd (omega (arith, some))
joined-split [] (suc n) some = absurd (omega (arith, some))
joined-split (word ∷ words) zero some = absurd (omega (arith, some))
joined-split (word ∷ words) (suc n) some = grind (arith, cells-split, append_assoc)

-- a first word after blanks is one of the first ones
after-split : (blanks : ℕ) (word : List (Piece (List ℕ))) (words : List (List (Piece (List ℕ)))) (n : ℕ)
    → lettered_pieces 1 words ≡ lettered_pieces 1 (take n words) ++ lettered_pieces 1 (drop n words)
    → lettered_pieces blanks (word ∷ words) ≡ lettered_pieces blanks (word ∷ take n words) ++ lettered_pieces 1 (drop n words)
unfolding lettered_pieces
after-split blanks word words n others = grind (arith, append_assoc)

pieces-split : (words : List (List (Piece (List ℕ)))) (n : ℕ) → lettered_pieces 1 words ≡ lettered_pieces 1 (take n words) ++ lettered_pieces 1 (drop n words)
unfolding lettered_pieces
pieces-split [] zero = refl
pieces-split [] (suc n) = refl
pieces-split (word ∷ words) zero = refl
pieces-split (word ∷ words) (suc n) = after-split 1 word words n (pieces-split words n)

-- the first ones after other blanks
split-first : (blanks : ℕ) (words : List (List (Piece (List ℕ)))) (n : ℕ) → 0 < length (joined_cells (take n words))
    → lettered_pieces blanks words ≡ lettered_pieces blanks (take n words) ++ lettered_pieces 1 (drop n words)
split-first blanks [] zero some = absurd (omega (arith, some))
split-first blanks [] (suc n) some = absurd (omega (arith, some))
split-first blanks (word ∷ words) zero some = absurd (omega (arith, some))
split-first blanks (word ∷ words) (suc n) some = after-split blanks word words n (pieces-split words n)

words-parted : (words : List (List (Piece (List ℕ)))) (n : ℕ) → list_all is_lettered_word words ≡ true
    → (list_all is_lettered_word (take n words) && list_all is_lettered_word (drop n words)) ≡ true
words-parted words n all = sym (ap (list_all is_lettered_word) (sym (take-append-drop n words)) ∙ list_all-append is_lettered_word (take n words) (drop n words)) ∙ all

-- ---- words in the open row

-- a filled row with a cell has room for this count of cells of a column each
record HasFree (s : Sheet) (count : ℕ) : Type 0 where
  pub filled : s.literal ≡ false
  pub some : (length s.cells == 0) ≡ false
  pub cells : length s.cells + count ≤ CELLS
  pub columns : s.margin + columns s.cells + count ≤ s.width

free-word : (s : Sheet) (blanks count : ℕ) → HasFree s (blanks + count) → has_word_room s blanks count ≡ true
free-word s blanks count free = grind arith

free-spaced : (s : Sheet) (m count : ℕ) → HasFree s (m + count) → HasFree (spaced_by s m) count
free-spaced s m count free = grind (arith, length-append, length-replicate, sum_by-append, columns-blanks)

free-after : (s : Sheet) (blanks : ℕ) (front : List Cell) (start count : ℕ) → are_plain front ≡ true → HasFree s (blanks + (length front + count))
    → HasFree (words_taken s blanks front start) count
free-after s blanks front start count plain free =
    let f = free-spaced s blanks (length front + count) free in
    let spaced = s.cells ++ replicate blanks blank in
    let len = length-append spaced front in
    let wide : columns (spaced ++ front) ≡ columns spaced + length front =
    sum_by-append cell_columns spaced front ∙ ap (λ n. columns spaced + n) (columns-cells front plain) in
    record {
      filled = f.filled;
      some = let some = f.some in grind (arith, nat_tests, some, len);
      cells = omega (arith, len, f.cells);
      columns = omega (arith, wide, f.columns);
    }

free-less : (s : Sheet) (m n : ℕ) → m ≤ n → HasFree s n → HasFree s m
free-less s m n less free = grind arith

free-reported : (s : Sheet) (count : ℕ) → s.literal ≡ false → (length s.cells == 0) ≡ false → 0 < count → count ≤ free_cells s → HasFree s count
free-reported s count filled some above within = grind arith

-- one word after blanks
one-word : (s : Sheet) (blanks : ℕ) (cells : List Cell) → (length s.cells == 0) ≡ false → taken (spaced_by s blanks) cells ≡ words_taken s blanks cells 0
one-word s blanks cells some = grind (arith, taken-cells)

-- words, and others after them
both-taken : (s : Sheet) (n : ℕ) (front back : List Cell) (k j : ℕ)
    → words_taken (words_taken s n front k) 1 back j ≡ words_taken s n (front ++ blank ∷ back) (length front + (1 + j))
both-taken s n front back k j = grind (arith, length-append, length-replicate, append_assoc)

-- the row took blanks and words
abbrev words_on : FillEdge → ℕ → List Cell → ℕ → FillEdge
words_on e blanks cells start = begun_on e (words_taken e.sheet blanks cells start)

-- where no message is, it does not matter where a word is
abbrev anywhere : Place
anywhere = record { line = 0; column = 0 }

fits-cells : (s : Sheet) (m : ℕ) (cells : List Cell) → (length cells == 0) ≡ false → are_plain cells ≡ true → has_word_room s (suc m) (length cells) ≡ true
    → letters (spaced_by s (suc m)) cells anywhere ≡ nothing (taken (spaced_by s (suc m)) cells)
fits-cells s m [] some plain room = absurd (grind (arith, some))
fits-cells s m (cell ∷ cells) some plain room = cells-fit (spaced_by s (suc m)) cell cells anywhere plain (spaced-room s (suc m) (length (cell ∷ cells)) room)

wraps-cells : (s : Sheet) (cells : List Cell) → (length cells == 0) ≡ false → are_plain cells ≡ true → ends_before s (length cells) ≡ true
    → both s cells anywhere ≡ wraps_plain s cells
wraps-cells s [] some plain ends = absurd (grind (arith, some))
wraps-cells s (cell ∷ cells) some plain ends = both-cells s cell cells anywhere plain ends

pub word-some : (word : List (Piece (List ℕ))) → is_lettered_word word ≡ true → (length (word_letters word) == 0) ≡ false
word-some word is =
    let w = word-is word is in
    let len = length-map (word_letters word) (λ (cell : Cell). cell.c) in
    grind (arith, nat_tests, w, len)

word-fits : (e : FillEdge) (m : ℕ) (word : List (Piece (List ℕ))) → e.word.is_placed ≡ false → is_lettered_word word ≡ true → are_plain (word_letters word) ≡ true
    → HasFree e.sheet (suc m + length (word_letters word)) → laid e (Blank (suc m) false ∷ word) ≡ nothing (words_on e (suc m) (word_letters word) 0)
word-fits e m word placed is plain free =
    let cells = word_letters word in
    let room = free-word e.sheet (suc m) (length cells) free in
    word-laid-after e m word anywhere placed is plain room
    ∙ ap (λ (l : Laid Sheet). over l (begun_on e)) (fits-cells e.sheet m cells (word-some word is) plain room ∙ ap nothing (one-word e.sheet (suc m) cells free.some))

-- where the last word starts
last-start : (word : List (Piece (List ℕ))) → is_lettered_word word ≡ true → word_start (bytes_of (word_letters word)) ≡ 0
last-start word is = start-letters (word_bytes word) (word-letters (word_bytes word) (word-is word is))

words-fit : (e : FillEdge) (m : ℕ) (word : List (Piece (List ℕ))) (words : List (List (Piece (List ℕ)))) → e.word.is_placed ≡ false
    → list_all is_lettered_word (word ∷ words) ≡ true → are_plain (joined_cells (word ∷ words)) ≡ true → HasFree e.sheet (suc m + length (joined_cells (word ∷ words)))
    → laid e (lettered_pieces (suc m) (word ∷ words)) ≡ nothing (words_on e (suc m) (joined_cells (word ∷ words)) (word_start (bytes_of (joined_cells (word ∷ words)))))
unfolding lettered_cells lettered_pieces laid
words-fit e m word [] placed all plain free = grind (arith, first-is, front-is-plain, length-append, free-less, append-nil, last-start, word-fits)
words-fit e m word (more ∷ words) placed all plain free =
    let is = first-is word (more ∷ words) all in
    let cells = word_letters word in
    let back = joined_cells (more ∷ words) in
    let first = front-is-plain cells (blank ∷ back) plain in
    let after : are_plain (blank ∷ back) ≡ true = back-is-plain cells (blank ∷ back) plain in
    let others : are_plain back ≡ true = grind (arith, after) in
    let len = length-append cells (blank ∷ back) in
    let room : HasFree e.sheet (suc m + length cells) = free-less e.sheet _ _ (omega (arith, len)) free in
    let whole : HasFree e.sheet (suc m + (length cells + (1 + length back))) = free-less e.sheet _ _ (omega (arith, len)) free in
    let f = words_on e (suc m) cells 0 in
    let free_back : HasFree f.sheet (1 + length back) = free-after e.sheet (suc m) cells 0 (1 + length back) first whole in
    let start = word_start (bytes_of back) in
    let size : length (bytes_of cells) ≡ length cells = length-map cells (λ (cell : Cell). cell.c) in
    let one = start-blank (bytes_of back) in
    let last : word_start (bytes_of (cells ++ blank ∷ back)) ≡ length cells + (1 + start) =
    ap word_start (map-append (λ (cell : Cell). cell.c) cells (blank ∷ back))
    ∙ (start-append (bytes_of cells) (32 ∷ bytes_of back) (start-some (bytes_of back)) ∙ omega (arith, size, one)) in
    let next = words-fit f 0 more words refl (others-are word (more ∷ words) all) others free_back in
    laid-append e (Blank (suc m) false ∷ word) (lettered_pieces 1 (more ∷ words))
    ∙ (ap (λ (l : Laid FillEdge). join l (laid l.edge (lettered_pieces 1 (more ∷ words)))) (word-fits e m word placed is first room)
    ∙ (next
    ∙ (ap (λ (s : Sheet). nothing (begun_on e s)) (both-taken e.sheet (suc m) cells back 0 start)
    ∙ ap (λ n. nothing (words_on e (suc m) (cells ++ blank ∷ back) n)) (sym last))))

some-words : (e : FillEdge) (m : ℕ) (words : List (List (Piece (List ℕ)))) → is_in_row e ≡ true → list_all is_lettered_word words ≡ true
    → are_plain (joined_cells words) ≡ true → 0 < length (joined_cells words) → suc m + length (joined_cells words) ≤ free_cells e.sheet
    → laid e (lettered_pieces (suc m) words) ≡ nothing (words_on e (suc m) (joined_cells words) (word_start (bytes_of (joined_cells words))))
some-words e m [] ready all plain there within = absurd (omega (arith, there))
some-words e m (word ∷ words) ready all plain there within = grind (arith, words-fit, free-reported)

-- ---- the first words of a text

words-ready : (e : FillEdge) (blanks : ℕ) (cells : List Cell) (start : ℕ) → is_in_row e ≡ true → is_in_row (words_on e blanks cells start) ≡ true
words-ready e blanks cells start ready = grind (arith, length-append)

-- those that are whole among so many bytes, and the others after them
record IsFront (text : List ℕ) (fonts : List Font) (end : ℕ) (words : List (List (Piece (List ℕ)))) : Type 0 where
  pub count : ℕ
  pub size : end ≡ length (joined_cells (take count words))
  pub cells : cells_in (take end text) (take end fonts) ≡ joined_cells (take count words)
  pub bytes : take end text ≡ bytes_of (joined_cells (take count words))
  pub all : list_all is_lettered_word (take count words) ≡ true
  pub plain : are_plain (joined_cells (take count words)) ≡ true
  pub rest : AreSpaced (drop end text) (drop end fonts) (drop count words)

whole-front : (text : List ℕ) (fonts : List Font) (end room : ℕ) → length fonts ≡ length text → is_printable_ascii text ≡ true → end ≡ whole_words text room → end ≤ length text → 0 < end
    → (words : List (List (Piece (List ℕ)))) → AreWords text fonts words → IsFront text fonts end words
whole-front text fonts end room same plain is least above words are =
    let text_is = text-is text fonts words same are.1 in
    let whole = whole-words (all_bytes words) room (words-are words are.0) in
    let n = whole.0 in
    let front = take n words in
    let others = lettered_cells (drop n words) in
    let len : end ≡ length (joined_cells front) =
    is ∙ (ap (λ (bytes : List ℕ). whole_words bytes room) text_is
    ∙ (whole.1 ∙ (ap (λ (all : List (List ℕ)). length (joined_words all)) (take-map word_bytes n words) ∙ sym (joined-length front)))) in
    let split : joined_cells words ≡ joined_cells front ++ others = joined-split words n (omega (arith, len, above)) in
    let cells : cells_in (take end text) (take end fonts) ≡ joined_cells front =
    sym (in-take end text fonts) ∙ (ap (take end) (are.1 ∙ split) ∙ (ap (λ (k : ℕ). take k (joined_cells front ++ others)) len ∙ take-append_seam (joined_cells front) others)) in
    let rest : cells_in (drop end text) (drop end fonts) ≡ others =
    sym (in-drop end text fonts same) ∙ (ap (drop end) (are.1 ∙ split) ∙ (ap (λ (k : ℕ). drop k (joined_cells front ++ others)) len ∙ drop-append_seam (joined_cells front) others)) in
    let sizes : length (take end fonts) ≡ length (take end text) =
    length-take-le end fonts (omega (arith, least, same)) ∙ sym (length-take-le end text least) in
    let both = words-parted words n are.0 in
    record {
      count = n;
      size = len;
      cells = cells;
      bytes = sym (in-bytes (take end text) (take end fonts) sizes) ∙ ap bytes_of cells;
      all = grind (arith, both);
      plain = front-is-plain (joined_cells front) others (rw (are.1 ∙ split) at (in-plain text fonts plain));
      rest = (grind (arith, both), rest);
    }

-- those that the row has room for
some-fits : (e : FillEdge) (m : ℕ) (text : List ℕ) (fonts : List Font) (end : ℕ) → length fonts ≡ length text → is_printable_ascii text ≡ true
    → end ≡ whole_words text (free_cells e.sheet - suc m) → suc m + end ≤ free_cells e.sheet → end ≤ length text → 0 < end
    → LaysUpTo e (suc m) text fonts (drop end text) (drop end fonts)
    (nothing (begun_on e (words_taken e.sheet (suc m) (cells_in (take end text) (take end fonts)) (word_start (take end text)))))
some-fits e m text fonts end same plain is within least above = λ words are ready.
    let f = whole-front text fonts end (free_cells e.sheet - suc m) same plain is least above words are in
    let front = take f.count words in
    let others = drop f.count words in
    let some : 0 < length (joined_cells front) = omega (arith, f.size, above) in
    let fits = some-words e m front ready f.all f.plain some (omega (arith, f.size, within)) in
    let after = words_on e (suc m) (cells_in (take end text) (take end fonts)) (word_start (take end text)) in
    let laid_is : laid e (lettered_pieces (suc m) front) ≡ nothing after = rw (f.cells, f.bytes) fits in (
      others,
      f.rest,
      words-ready e (suc m) (cells_in (take end text) (take end fonts)) (word_start (take end text)) ready,
      ap (laid e) (split-first (suc m) words f.count some)
          ∙ (laid-append e (lettered_pieces (suc m) front) (lettered_pieces 1 others)
          ∙ ap (λ (l : Laid FillEdge). join l (laid l.edge (lettered_pieces 1 others))) laid_is),
    )

pub front-fits : (e : FillEdge) (blanks : ℕ) (text : List ℕ) (fonts : List Font) (end : ℕ) → 0 < blanks → length fonts ≡ length text → is_printable_ascii text ≡ true
    → end ≡ whole_words text (free_cells e.sheet - blanks) → blanks + end ≤ free_cells e.sheet → end ≤ length text → 0 < end
    → LaysUpTo e blanks text fonts (drop end text) (drop end fonts)
    (nothing (begun_on e (words_taken e.sheet blanks (cells_in (take end text) (take end fonts)) (word_start (take end text)))))
front-fits e blanks text fonts end some same plain is within least above =
    let one : suc (blanks - 1) ≡ blanks = omega (arith, some) in
    subst
    (λ (n : ℕ).
    LaysUpTo e n text fonts (drop end text) (drop end fonts)
    (nothing (begun_on e (words_taken e.sheet n (cells_in (take end text) (take end fonts)) (word_start (take end text))))))
    one
    (some-fits e (blanks - 1) text fonts end same plain (is ∙ ap (λ (n : ℕ). whole_words text (free_cells e.sheet - n)) (sym one)) (omega (arith, within, one)) least above)

word-ends : (s : Sheet) (count : ℕ) → s.literal ≡ false → (length s.cells == 0) ≡ false → length s.cells + 1 + count ≤ CELLS → free_cells s < 1 + count → ends_before s count ≡ true
word-ends s count filled some room short = grind arith

-- after more blanks than one, the first word has room
fits-first : (e : FillEdge) (blanks : ℕ) (text : List ℕ) → is_in_row e ≡ true → length e.sheet.cells + blanks + length text ≤ CELLS → fits_after e blanks text ≡ true
    → blanks + first_letters text ≤ free_cells e.sheet
fits-first e blanks text ready room fits = grind (arith, prefix_len-le-length)

-- where it has none, there is one
is-one : (e : FillEdge) (blanks : ℕ) (text : List ℕ) → is_in_row e ≡ true → length e.sheet.cells + blanks + length text ≤ CELLS → (blanks == 1 || fits_after e blanks text) ≡ true
    → free_cells e.sheet - blanks < first_letters text → blanks ≡ 1
is-one e blanks text ready room fits short = grind (arith, fits-first)

-- the first one, before which the row ends
first-wraps : (e : FillEdge) (blanks : ℕ) (text : List ℕ) (fonts : List Font) (word : List (Piece (List ℕ))) (words : List (List (Piece (List ℕ)))) → length fonts ≡ length text
    → is_printable_ascii text ≡ true → length e.sheet.cells + blanks + length text ≤ CELLS → (blanks == 1 || fits_after e blanks text) ≡ true
    → whole_words text (free_cells e.sheet - blanks) ≡ 0 → AreWords text fonts (word ∷ words) → is_in_row e ≡ true
    → (blanks ≡ 1) × (laid e (Blank 1 false ∷ word) ≡ over (wraps_plain e.sheet (word_letters word)) (begun_on e))
first-wraps e blanks text fonts word words same plain room fits none are ready =
    let cells = word_letters word in
    let rest = lettered_cells words in
    let first = first-is word words are.0 in
    let text_is = text-is text fonts (word ∷ words) same are.1 in
    let bytes = word_bytes word in
    let size : length bytes ≡ length cells = length-map cells (λ (cell : Cell). cell.c) in
    let letters = word-letters bytes (word-is word first) in
    let first_is : first_letters text ≡ length cells = ap first_letters text_is ∙ (first-length bytes (all_bytes words) letters ∙ size) in
    let each : are_plain (cells ++ rest) ≡ true = rw are.1 at (in-plain text fonts plain) in
    let printable = front-is-plain cells rest each in
    let whole : length text ≡ length cells + length rest = sym (in-length text fonts same) ∙ (ap (λ (l : List Cell). length l) are.1 ∙ length-append cells rest) in
    let placed : e.word.is_placed ≡ false = grind (arith, ready) in
    let filled : e.sheet.literal ≡ false = grind (arith, ready) in
    let begun : (length e.sheet.cells == 0) ≡ false = grind (arith, nat_tests, ready) in
    let short = none-whole bytes (all_bytes words) (free_cells e.sheet - blanks) (word-is word first) (rw text_is at none) in
    let one : blanks ≡ 1 = is-one e blanks text ready room fits (omega (arith, short, size, first_is)) in
    let within : length e.sheet.cells + 1 + length cells ≤ CELLS = omega (arith, whole, room, one) in
    let ends = word-ends e.sheet (length cells) filled begun within (omega (arith, short, size, one)) in (
      one,
      word-laid e word anywhere placed filled begun first printable within
          ∙ ap (λ (l : Laid Sheet). over l (begun_on e)) (wraps-cells e.sheet cells (word-some word first) printable ends),
    )

-- it alone begins the next row
wraps-first : (e : FillEdge) (blanks : ℕ) (text : List ℕ) (fonts : List Font) (end : ℕ) → length fonts ≡ length text → is_printable_ascii text ≡ true → 0 < length text
    → length e.sheet.cells + blanks + length text ≤ CELLS → (blanks == 1 || fits_after e blanks text) ≡ true → whole_words text (free_cells e.sheet - blanks) ≡ 0 → end ≡ word_end text
    → (words : List (List (Piece (List ℕ)))) → AreWords text fonts words → is_in_row e ≡ true
    → let given : Laid FillEdge = over (wraps_words e.sheet (cells_in (take end text) (take end fonts)) (word_start (take end text))) (begun_on e) in
    (left : List (List (Piece (List ℕ)))) × AreSpaced (drop end text) (drop end fonts) left × (is_in_row given.edge ≡ true)
    × (laid e (lettered_pieces blanks words) ≡ join given (laid given.edge (lettered_pieces 1 left)))
unfolding lettered_pieces
wraps-first e blanks text fonts end same plain some room fits none is [] are ready = grind arith
wraps-first e blanks text fonts end same plain some room fits none is (word ∷ words) are ready =
    let cells = word_letters word in
    let rest = lettered_cells words in
    let first = first-is word words are.0 in
    let text_is = text-is text fonts (word ∷ words) same are.1 in
    let bytes = word_bytes word in
    let size : length bytes ≡ length cells = length-map cells (λ (cell : Cell). cell.c) in
    let letters = word-letters bytes (word-is word first) in
    let first_is : first_letters text ≡ length cells = ap first_letters text_is ∙ (first-length bytes (all_bytes words) letters ∙ size) in
    let len : end ≡ length cells = is ∙ first_is in
    let own : cells_in (take end text) (take end fonts) ≡ cells =
    sym (in-take end text fonts) ∙ (ap (take end) are.1 ∙ (ap (λ (k : ℕ). take k (cells ++ rest)) len ∙ take-append_seam cells rest)) in
    let others : cells_in (drop end text) (drop end fonts) ≡ rest =
    sym (in-drop end text fonts same) ∙ (ap (drop end) are.1 ∙ (ap (λ (k : ℕ). drop k (cells ++ rest)) len ∙ drop-append_seam cells rest)) in
    let front : take end text ≡ bytes =
    ap (take end) text_is ∙ (ap (λ (k : ℕ). take k (bytes ++ blank_words (all_bytes words))) (len ∙ sym size) ∙ take-append_seam bytes (blank_words (all_bytes words))) in
    let start : word_start (take end text) ≡ 0 = ap word_start front ∙ start-letters bytes letters in
    let wrapped = first-wraps e blanks text fonts word words same plain room fits none are ready in
    let filled : e.sheet.literal ≡ false = grind (arith, ready) in
    let there = word-some word first in
    let given : Laid FillEdge = over (wraps_plain e.sheet cells) (begun_on e) in
    let all_laid : laid e (lettered_pieces blanks (word ∷ words)) ≡ join given (laid given.edge (lettered_pieces 1 words)) =
    rw wrapped.0 (laid-append e (Blank 1 false ∷ word) (lettered_pieces 1 words) ∙ ap (λ (l : Laid FillEdge). join l (laid l.edge (lettered_pieces 1 words))) wrapped.1) in (
      words,
      (others-are word words are.0, others),
      rw own (grind (arith, nat_tests, filled, there)),
      rw (own, start) all_laid,
    )

-- ---- more words of the next row

-- a row that ends keeps its width and what is set for the next ones
counted-same : (s : Sheet) → ((blank_counted s).width ≡ s.width) × ((blank_counted s).first ≡ s.first) × ((blank_counted s).literal ≡ s.literal)
counted-same s = grind arith

-- a word begins the next row, and others go into it
begun-taken : (s : Sheet) (front back : List Cell) (j : ℕ)
    → words_taken (taken (emptied s) front) 1 back j ≡ begun_with s (front ++ blank ∷ back) (length front + (1 + j))
begun-taken s front back j = grind (arith, append_assoc, length-append)

-- it has room for them
free-begun : (s : Sheet) (front : List Cell) (count : ℕ) → s.literal ≡ false → (length front == 0) ≡ false → are_plain front ≡ true
    → length front + count ≤ min CELLS (s.width - s.first) → 0 < count → HasFree (taken (emptied s) front) count
free-begun s front count filled some plain room above = grind (arith, columns-cells)

-- the first words, before which the row ends
words-wrap : (e : FillEdge) (word : List (Piece (List ℕ))) (words : List (List (Piece (List ℕ)))) → e.sheet.literal ≡ false → list_all is_lettered_word (word ∷ words) ≡ true
    → are_plain (joined_cells (word ∷ words)) ≡ true → length (joined_cells (word ∷ words)) ≤ next_free_cells e.sheet
    → laid e (Blank 1 false ∷ word) ≡ over (wraps_plain e.sheet (word_letters word)) (begun_on e)
    → laid e (lettered_pieces 1 (word ∷ words))
    ≡ over (wraps_words e.sheet (joined_cells (word ∷ words)) (word_start (bytes_of (joined_cells (word ∷ words))))) (begun_on e)
unfolding lettered_cells lettered_pieces laid
words-wrap e word [] filled all plain room first = grind (arith, first-is, append-nil, last-start)
words-wrap e word (more ∷ words) filled all plain room first =
    let is = first-is word (more ∷ words) all in
    let cells = word_letters word in
    let back = joined_cells (more ∷ words) in
    let front = front-is-plain cells (blank ∷ back) plain in
    let after : are_plain (blank ∷ back) ≡ true = back-is-plain cells (blank ∷ back) plain in
    let others : are_plain back ≡ true = grind (arith, after) in
    let len = length-append cells (blank ∷ back) in
    let t = (gives (blank_counted e.sheet) e.sheet.cells).edge in
    let f = begun_on e (taken (emptied t) cells) in
    let kept = counted-same e.sheet in
    let free : HasFree f.sheet (1 + length back) =
    free-begun t cells (1 + length back) (kept.2 ∙ filled) (word-some word is) front (rw (kept.0, kept.1) (omega (arith, len, room))) (omega arith) in
    let start = word_start (bytes_of back) in
    let size : length (bytes_of cells) ≡ length cells = length-map cells (λ (cell : Cell). cell.c) in
    let one = start-blank (bytes_of back) in
    let last : word_start (bytes_of (cells ++ blank ∷ back)) ≡ length cells + (1 + start) =
    ap word_start (map-append (λ (cell : Cell). cell.c) cells (blank ∷ back))
    ∙ (start-append (bytes_of cells) (32 ∷ bytes_of back) (start-some (bytes_of back)) ∙ omega (arith, size, one)) in
    let next = words-fit f 0 more words refl (others-are word (more ∷ words) all) others free in
    let given : Laid FillEdge = over (wraps_plain e.sheet cells) (begun_on e) in
    laid-append e (Blank 1 false ∷ word) (lettered_pieces 1 (more ∷ words))
    ∙ (ap (λ (l : Laid FillEdge). join l (laid l.edge (lettered_pieces 1 (more ∷ words)))) first
    ∙ (ap (λ (l : Laid FillEdge). join given l) next
    ∙ (ap (λ (s : Sheet). join given (nothing (begun_on e s))) (begun-taken t cells back start)
    ∙ ap (λ (n : ℕ). join given (nothing (begun_on e (begun_with t (cells ++ blank ∷ back) n)))) (sym last))))

-- a count of the words is among them
counted-wrap : (e : FillEdge) (word : List (Piece (List ℕ))) (words : List (List (Piece (List ℕ)))) (n : ℕ) → e.sheet.literal ≡ false
    → list_all is_lettered_word (take n (word ∷ words)) ≡ true → are_plain (joined_cells (take n (word ∷ words))) ≡ true
    → length (joined_cells (take n (word ∷ words))) ≤ next_free_cells e.sheet → 0 < length (joined_cells (take n (word ∷ words)))
    → laid e (Blank 1 false ∷ word) ≡ over (wraps_plain e.sheet (word_letters word)) (begun_on e)
    → laid e (lettered_pieces 1 (take n (word ∷ words)))
    ≡ over (wraps_words e.sheet (joined_cells (take n (word ∷ words))) (word_start (bytes_of (joined_cells (take n (word ∷ words)))))) (begun_on e)
counted-wrap e word words zero filled all plain room some first = absurd (omega (arith, some))
counted-wrap e word words (suc n) filled all plain room some first = words-wrap e word (take n words) filled all plain room first

wrapped-ready : (e : FillEdge) (cells : List Cell) (start : ℕ) → e.sheet.literal ≡ false → 0 < length cells
    → is_in_row (over (wraps_words e.sheet cells start) (begun_on e)).edge ≡ true
wrapped-ready e cells start filled some = grind (arith, nat_tests, filled, some)

-- they are those that the next row has room for
wraps-more : (e : FillEdge) (blanks : ℕ) (text : List ℕ) (fonts : List Font) (end : ℕ) → length fonts ≡ length text → is_printable_ascii text ≡ true → 0 < length text
    → length e.sheet.cells + blanks + length text ≤ CELLS → (blanks == 1 || fits_after e blanks text) ≡ true → whole_words text (free_cells e.sheet - blanks) ≡ 0
    → end ≡ whole_words text (next_free_cells e.sheet) → end ≤ next_free_cells e.sheet → end ≤ length text → 0 < end
    → (words : List (List (Piece (List ℕ)))) → AreWords text fonts words → is_in_row e ≡ true
    → let given : Laid FillEdge = over (wraps_words e.sheet (cells_in (take end text) (take end fonts)) (word_start (take end text))) (begun_on e) in
    (left : List (List (Piece (List ℕ)))) × AreSpaced (drop end text) (drop end fonts) left × (is_in_row given.edge ≡ true)
    × (laid e (lettered_pieces blanks words) ≡ join given (laid given.edge (lettered_pieces 1 left)))
wraps-more e blanks text fonts end same plain some room fits none is within least above [] are ready = grind arith
wraps-more e blanks text fonts end same plain some room fits none is within least above (word ∷ words) are ready =
    let f = whole-front text fonts end (next_free_cells e.sheet) same plain is least above (word ∷ words) are in
    let front = take f.count (word ∷ words) in
    let others = drop f.count (word ∷ words) in
    let there : 0 < length (joined_cells front) = omega (arith, f.size, above) in
    let filled : e.sheet.literal ≡ false = grind (arith, ready) in
    let wrapped = first-wraps e blanks text fonts word words same plain room fits none are ready in
    let fits_next : length (joined_cells front) ≤ next_free_cells e.sheet = omega (arith, f.size, within) in
    let wraps = counted-wrap e word words f.count filled f.all f.plain fits_next there wrapped.1 in
    let given : Laid FillEdge = over (wraps_words e.sheet (joined_cells front) (word_start (bytes_of (joined_cells front)))) (begun_on e) in
    let all_laid : laid e (lettered_pieces blanks (word ∷ words)) ≡ join given (laid given.edge (lettered_pieces 1 others)) =
    rw wrapped.0
    (ap (laid e) (split-first 1 (word ∷ words) f.count there)
    ∙ (laid-append e (lettered_pieces 1 front) (lettered_pieces 1 others) ∙ ap (λ (l : Laid FillEdge). join l (laid l.edge (lettered_pieces 1 others))) wraps)) in
    (others, f.rest, rw f.cells (wrapped-ready e (joined_cells front) (word_start (take end text)) filled there), rw (f.cells, f.bytes) all_laid)

pub front-wraps : (e : FillEdge) (blanks : ℕ) (text : List ℕ) (fonts : List Font) (end : ℕ) → length fonts ≡ length text → is_printable_ascii text ≡ true → 0 < length text
    → length e.sheet.cells + blanks + length text ≤ CELLS → (blanks == 1 || fits_after e blanks text) ≡ true → whole_words text (free_cells e.sheet - blanks) ≡ 0
    → whole_words text (next_free_cells e.sheet) ≤ next_free_cells e.sheet → end ≤ length text → end ≡ next_front e.sheet text
    → LaysUpTo e blanks text fonts (drop end text) (drop end fonts)
    (over (wraps_words e.sheet (cells_in (take end text) (take end fonts)) (word_start (take end text))) (begun_on e))
front-wraps e blanks text fonts end same plain some room fits none within least is = elim (cases_Bool (whole_words text (next_free_cells e.sheet) == 0)) [
  | inl short ↦ wraps-first e blanks text fonts end same plain some room fits none (rw short at is)
  | inr more ↦
      let whole : end ≡ whole_words text (next_free_cells e.sheet) = rw more at is in
      let above : 0 < whole_words text (next_free_cells e.sheet) = grind (arith, nat_tests, more) in
      wraps-more e blanks text fonts end same plain some room fits none whole (omega (arith, whole, within)) least (omega (arith, whole, above))
]

-- ---- some words after others

pub tail-all : {A : Type 0} (n : ℕ) (l : List A) → take (length l - n) (drop n l) ≡ drop n l
tail-all n l = let len = length-drop n l in take_all (length l - n) (drop n l) (omega (arith, len))

-- after a blank, those that are left have a blank between two
after-blank : (rest : List ℕ) (own : List Font) (left : List (List (Piece (List ℕ)))) → length own ≡ length rest → 0 < length rest → AreSpaced rest own left
    → (0 < length (drop 1 rest)) × AreWords (drop 1 rest) (drop 1 own) left
unfolding lettered_cells
after-blank [] own left same some are = absurd (omega (arith, some))
after-blank (b ∷ rest) [] left same some are = absurd (omega (arith, same))
after-blank (b ∷ rest) (font ∷ own) [] same some are = let none = ap (λ (cells : List Cell). length cells) are.1 in absurd (omega (arith, none))
after-blank (b ∷ rest) (font ∷ own) (word ∷ words) same some are =
    let cells : cells_in rest own ≡ joined_cells (word ∷ words) = ap (λ (l : List Cell). drop 1 l) are.1 in
    let there = word-some word (first-is word words are.0) in
    let above : 0 < length (word_letters word) = grind (arith, nat_tests, there) in
    let size = in-length rest own (omega (arith, same)) in
    let len = ap (λ (l : List Cell). length l) cells in
    let sum = length-append (word_letters word) (lettered_cells words) in
    (omega (arith, above, size, len, sum), (are.0, cells))

pub lays-more : (e : FillEdge) (blanks : ℕ) (text : List ℕ) (fonts : List Font) (rest : List ℕ) (own : List Font) (given more : Laid FillEdge) (end next : ℕ) → length own ≡ length rest
    → end < length rest → LaysUpTo e blanks text fonts (drop end rest) (drop end own) given
    → (0 < length (drop (end + 1) rest)
    → LaysUpTo given.edge 1 (drop (end + 1) rest) (drop (end + 1) own) (drop next (drop (end + 1) rest)) (drop next (drop (end + 1) own)) more)
    → LaysUpTo e blanks text fonts (drop next (drop (end + 1) rest)) (drop next (drop (end + 1) own)) (join given more)
lays-more e blanks text fonts rest own given more end next same within lays front = λ words are ready.
    let u = lays words are ready in
    let left = u.0 in
    let t = length-drop end rest in
    let o = length-drop end own in
    let after = after-blank (drop end rest) (drop end own) left (omega (arith, t, o, same)) (omega (arith, t, within)) u.1 in
    let texts : drop 1 (drop end rest) ≡ drop (end + 1) rest = drop-drop 1 end rest in
    let owns : drop 1 (drop end own) ≡ drop (end + 1) own = drop-drop 1 end own in
    let some : 0 < length (drop (end + 1) rest) = rw texts at after.0 in
    let there : AreWords (drop (end + 1) rest) (drop (end + 1) own) left = rw (texts, owns) at after.1 in
    let f = front some left there u.2 in
    (f.0, f.1, f.2, u.3 ∙ (ap (λ (l : Laid FillEdge). join given l) f.3 ∙ sym (join_assoc given more (laid more.edge (lettered_pieces 1 f.0)))))

none-left : (words : List (List (Piece (List ℕ)))) → [] ≡ lettered_cells words → words ≡ []
unfolding lettered_cells
none-left [] is = refl
none-left (word ∷ words) is = let len = ap (λ (cells : List Cell). length cells) is in absurd (omega (arith, len))

pub lays-all : (e : FillEdge) (blanks : ℕ) (text : List ℕ) (fonts : List Font) (rest : List ℕ) (own : List Font) (given : Laid FillEdge) → length rest ≡ 0
    → LaysUpTo e blanks text fonts rest own given → LaysWords e blanks text fonts given
unfolding lettered_pieces laid
lays-all e blanks text fonts [] own given none lays = grind (arith, none-left, append-nil)
lays-all e blanks text fonts (b ∷ rest) own given none lays = absurd (omega (arith, none))
