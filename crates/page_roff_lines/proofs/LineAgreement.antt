-- The decoded lines of a page are those that its bytes give one by one.
use Rattle.std.proofs.Common.{◌≡◌, ℕ, Bool, true, false, cond, List, [], ◌∷◌, ◌++◌, map, take, refl, sym, ap, ◌∙◌, append_assoc, arith, zero, suc, ◌+◌, ◌-◌, ◌*◌, ◌/◌, ◌^◌, ◌<◌, ◌≤◌, length, drop, slice_index, get_or, inl, inr, subst}
use Rattle.std.specs.Prelude.{◌==◌, nat_lt, nat_eq, if◌then◌else◌, not, ◌&&◌}
use lib.Pointwise.{pointwise}
use Rattle.std.proofs.lemmas.Bool.Decides.{eqb_tells, nat_tests}
use Rattle.page_core_base.specs.Bytes.{ascii}
use Rattle.page_core_base.specs.declared.page_settings.Encoding.{Encoding}
use Rattle.page_core_base.specs.declared.page_settings.Encoding.TheVariants.{Auto, Ascii, Latin1, Utf8}
use Rattle.page_roff_decoding.specs.Decoding.{good, bad, is_printable, sequence_length, character, later_length, characters_after, characters, choice_of}
use Rattle.page_roff_lines.specs.declared.Mode.{Mode}
use Rattle.page_roff_lines.specs.declared.Mode.TheVariants.{Plain, Backslash, Comment, Dropped}
use Rattle.page_roff_lines.specs.declared.Mark.{Mark}
use Rattle.page_roff_lines.specs.declared.Mark.TheVariants.{Unread, First, Second, Absent, Present}
use Rattle.page_roff_lines.specs.laws.Views.{newline}
use Rattle.page_roff_lines.specs.Lines.{KeptLine, has_mark, Line, decode_line, or_else, choice_of_lines, lines}
use Rattle.page_roff_lines.specs.machine.Open.{Open, first_open, restart, close, count_byte, put, put_plain, put_pair, put_in, put_byte, ends_mark, mark_after, is_marked, next_open, end_open, end_in, kept_of, if_whole, whole_lines, open_after, lines_from as raw_lines_from, is_settled, BeginsPair, IsFine, ends_run, IsFreeTo, is_quiet}
use Rattle.page_roff_lines.specs.laws.Cutting.{Point, first_point, encoding_after, point_at, next_point, end_point, line_at, lines_within, point_after, lines_from, IsAfter, IsFed}
use Rattle.page_roff_lines.proofs.PointLemmas.{next_open-mark, open_point, point_after-append, lines_within-append}
use Rattle.page_roff_lines.proofs.Agreement.{kept_lines-one_by_one}
use Rattle.std.specs.List.{prefix_len}
use Rattle.std.proofs.Math.Seq.{take-add}
use Rattle.std.proofs.lemmas.List.{drop-drop, drop-map, drop-take, get_or-drop, get_or-take, length-take-le, take_all}
use Rattle.std.proofs.lemmas.List.Sums.{prefix_len-le-length, prefix_len_passes}
use native.Mathlib.Nat.{pow-suc, mul_comm, zero-div, div-one, div-div-eq-div-mul}
use lib.Lanes.{mask_l}
use lib.Count.{count_trailing_zeros}
use Rattle.page_roff_decoding.specs.machine.Fronts.{is_text, is_stop}
use Rattle.page_roff_decoding.proofs.ScanLemmas.{rest_of, all-append, not-not, run_bound, run_stops, run_through, text-printable, and_true}
use Rattle.page_roff_lines.proofs.ReadLemmas.{pair-printable, run-front, text-more, text-pair}
use Rattle.std.proofs.lemmas.Bool.{cases_lt}
use Rattle.page_core_base.specs.laws.Views.{IsFreeLine, is_backslash}

-- lines decoded one after the other, each of which may decide the encoding of the next
abbrev decode_all : Encoding → Bool → List KeptLine → List Line
decode_all e m [] = []
decode_all e m (k ∷ ks) =
    decode_line (or_else e (cond m Utf8 (choice_of k.text))) k ∷ decode_all (or_else e (cond m Utf8 (choice_of k.text))) m ks

-- a text that decides nothing has the same characters under each encoding
low_by : (low none : Bool) (c : Encoding) → cond low c (cond none Latin1 Utf8) ≡ Auto → (low ≡ true) × (c ≡ Auto)
low_by true none c h = (refl, h)
low_by false true c h = cc
low_by false false c h = cc

low_first : (b : ℕ) (bs : List ℕ) → choice_of (b ∷ bs) ≡ Auto → (nat_lt b 128 ≡ true) × (choice_of bs ≡ Auto)
unfolding choice_of
low_first b bs h = low_by (nat_lt b 128) (sequence_length (b ∷ bs) == 0) (choice_of bs) h

characters-low : (e f : Encoding) (text : List ℕ) → choice_of text ≡ Auto → characters e text ≡ characters f text
unfolding characters_after character later_length
characters-low e f [] h = refl
characters-low e f (b ∷ bs) h =
    let low = low_first b bs h in
    rw low.0 (ap (λ cs. cond (is_printable b) (good (b ∷ [])) (bad b) ∷ cs) (characters-low e f bs low.1))

decode_line-low : (e f : Encoding) (k : KeptLine) → choice_of k.text ≡ Auto → decode_line e k ≡ decode_line f k
unfolding decode_line
decode_line-low e f k h = rw (characters-low e f k.text h) refl

-- once the encoding is known, it stays
known : (e : Encoding) (m : Bool) (ks : List KeptLine) → ((c : Encoding) → or_else e c ≡ e) → decode_all e m ks ≡ map (decode_line e) ks
known e m [] h = refl
known e m (k ∷ ks) h = rw (h (cond m Utf8 (choice_of k.text))) (ap (λ ls. decode_line e k ∷ ls) (known e m ks h))

-- a line that decides or not, where the encoding is not known
first_decides : (k : KeptLine) (ks : List KeptLine) → decode_all Auto false ks ≡ map (decode_line (choice_of_lines ks)) ks → (c : Encoding) → choice_of k.text ≡ c
    → decode_line c k ∷ decode_all c false ks ≡ map (decode_line (or_else c (choice_of_lines ks))) (k ∷ ks)
first_decides k ks rest Ascii h = ap (λ ls. decode_line Ascii k ∷ ls) (known Ascii false ks (λ c. refl))
first_decides k ks rest Latin1 h = ap (λ ls. decode_line Latin1 k ∷ ls) (known Latin1 false ks (λ c. refl))
first_decides k ks rest Utf8 h = ap (λ ls. decode_line Utf8 k ∷ ls) (known Utf8 false ks (λ c. refl))
first_decides k ks rest Auto h = grind (arith, decode_line-low)

-- the encoding of the page is that of each line, as far as the line depends on it
decode_all-page : (e : Encoding) (m : Bool) (ks : List KeptLine) → decode_all e m ks ≡ map (decode_line (or_else e (if m then Utf8 else choice_of_lines ks))) ks
decode_all-page Ascii m ks = known Ascii m ks (λ c. refl)
decode_all-page Latin1 m ks = known Latin1 m ks (λ c. refl)
decode_all-page Utf8 m ks = known Utf8 m ks (λ c. refl)
decode_all-page Auto true [] = refl
decode_all-page Auto true (k ∷ ks) = ap (λ ls. decode_line Utf8 k ∷ ls) (known Utf8 true ks (λ c. refl))
decode_all-page Auto false [] = refl
decode_all-page Auto false (k ∷ ks) = first_decides k ks (decode_all-page Auto false ks) (choice_of k.text) refl

-- a byte that ends no physical line makes no line whole
either-whole : (c : Bool) (o p : Open) (w : Bool) → o.whole ≡ w → p.whole ≡ w → (cond c o p).whole ≡ w
either-whole true o p w h g = h
either-whole false o p w h g = g

put_in-whole : (m : Mode) (r : Bool) (o : Open) (b : ℕ) → (put_in m r o b).whole ≡ o.whole
unfolding put_in put_plain put_pair put
put_in-whole Plain r o b = refl
put_in-whole Comment r o b = refl
put_in-whole Dropped r o b = refl
put_in-whole Backslash true o b = refl
put_in-whole Backslash false o b = either-whole (b == ascii "#") _ _ o.whole refl refl

restart-by : (w : Bool) (o p : Open) → w ≡ o.whole → p.whole ≡ false → (cond w p o).whole ≡ false
restart-by true o p h g = g
restart-by false o p h g = sym h

restart-whole : (o : Open) → (restart o).whole ≡ false
unfolding restart
restart-whole o = restart-by o.whole o _ refl refl

put_byte-whole : (e : Bool) (o : Open) (b : ℕ) → (b == newline) ≡ false → o.whole ≡ false → (put_byte e o b).whole ≡ false
unfolding put_byte
put_byte-whole true o b h w = w
put_byte-whole false o b h w = rw h (put_in-whole o.mode o.after_return o b ∙ w)

pub next_open-whole : (o : Open) (b : ℕ) → (b == newline) ≡ false → (next_open o b).whole ≡ false
unfolding next_open count_byte
next_open-whole o b h = put_byte-whole (ends_mark o.mark b) (count_byte (restart o) b) b h (restart-whole o)

settled_by_newline : (m : Mark) → is_settled (mark_after m newline) ≡ true
unfolding mark_after
settled_by_newline Unread = refl
settled_by_newline _ = refl

-- where a line is whole, the page's first bytes were read
whole-settled : (o : Open) (b : ℕ) → (next_open o b).whole ≡ true → is_settled (next_open o b).mark ≡ true
whole-settled o b w = grind (arith, eqb_tells, next_open-mark, settled_by_newline, next_open-whole)

mark_after-settled : (m : Mark) (b : ℕ) → is_settled m ≡ true → mark_after m b ≡ m
unfolding mark_after
mark_after-settled Absent b h = refl
mark_after-settled Present b h = refl
mark_after-settled _ b h = cc

open_after-mark : (o : Open) (bs : List ℕ) → is_settled o.mark ≡ true → (open_after o bs).mark ≡ o.mark
unfolding open_after
open_after-mark o [] h = refl
open_after-mark o (b ∷ bs) h =
    let same : (next_open o b).mark ≡ o.mark = next_open-mark o b ∙ mark_after-settled o.mark b h in
    open_after-mark (next_open o b) bs (rw same h) ∙ same

-- the end of the page leaves the mark
either-mark : (c : Bool) (o p : Open) (m : Mark) → o.mark ≡ m → p.mark ≡ m → (cond c o p).mark ≡ m
either-mark true o p m h g = h
either-mark false o p m h g = g

end_in-mark : (m : Mode) (r : Bool) (o : Open) → (end_in m r o).mark ≡ o.mark
unfolding end_in
end_in-mark Plain r o = refl
end_in-mark Comment r o = refl
end_in-mark Dropped r o = refl
end_in-mark Backslash true o = refl
end_in-mark Backslash false o = refl

end_open-mark : (o : Open) → (end_open o).mark ≡ o.mark
unfolding end_open restart close
end_open-mark o = grind (arith, either-mark, end_in-mark)

-- lines one by one are the raw lines, each decoded in turn
abbrev marked_at_end : Open → List ℕ → Bool
marked_at_end o bs = is_marked (open_after o bs).mark

one-by : (e : Encoding) (o : Open) (w : Bool)
    → cond w (decode_line (cond w (encoding_after e o) e) (kept_of o) ∷ []) [] ≡ decode_all e (is_marked o.mark) (cond w (kept_of o ∷ []) [])
unfolding encoding_after
one-by e o true = refl
one-by e o false = refl

one-decode_line : (e : Encoding) (o : Open) → line_at (point_at e o) ≡ decode_all e (is_marked o.mark) (if_whole o)
unfolding line_at point_at if_whole
one-decode_line e o = one-by e o o.whole

last-decode_line : (e : Encoding) (o : Open) → line_at (point_at e (end_open o)) ≡ decode_all e (is_marked o.mark) (if_whole (end_open o))
last-decode_line e o = grind (arith, one-decode_line, end_open-mark)

step-by : (e : Encoding) (o : Open) (bs : List ℕ) (w : Bool) → (w ≡ true → is_settled o.mark ≡ true)
    → ((f : Encoding) → lines_from (open_point f o) bs ≡ decode_all f (marked_at_end o bs) (raw_lines_from o bs))
    → cond w (decode_line (cond w (encoding_after e o) e) (kept_of o) ∷ []) [] ++ lines_from (open_point (cond w (encoding_after e o) e) o) bs
    ≡ decode_all e (marked_at_end o bs) (cond w (kept_of o ∷ []) [] ++ raw_lines_from o bs)
unfolding encoding_after
step-by e o bs false settles rest = rest e
step-by e o bs true settles rest = grind (arith, cond, open_after-mark)

step-decode_line : (e : Encoding) (o : Open) (bs : List ℕ) → (o.whole ≡ true → is_settled o.mark ≡ true)
    → ((f : Encoding) → lines_from (open_point f o) bs ≡ decode_all f (marked_at_end o bs) (raw_lines_from o bs))
    → line_at (point_at e o) ++ lines_from (point_at e o) bs ≡ decode_all e (marked_at_end o bs) (if_whole o ++ raw_lines_from o bs)
unfolding line_at point_at if_whole
step-decode_line e o bs settles rest = step-by e o bs o.whole settles rest

all-decode_line : (e : Encoding) (o : Open) (bs : List ℕ) → lines_from (open_point e o) bs ≡ decode_all e (marked_at_end o bs) (raw_lines_from o bs)
unfolding lines_within point_after whole_lines open_after next_point end_point
all-decode_line e o [] = last-decode_line e o
all-decode_line e o (b ∷ bs) =
    let p = next_open o b in
    append_assoc (line_at (point_at e p)) (lines_within (point_at e p) bs) (line_at (end_point (point_after (point_at e p) bs)))
    ∙ step-decode_line e p bs (whole-settled o b) (λ f. all-decode_line f p bs)
    ∙ ap (λ ks. decode_all e (marked_at_end p bs) ks) (sym (append_assoc (if_whole p) (whole_lines p bs) (if_whole (end_open (open_after p bs)))))

-- whether the page begins with a mark
abbrev marks : Mark → List ℕ → Mark
marks m [] = m
marks m (b ∷ bs) = marks (mark_after m b) bs

open_after-marks : (o : Open) (bs : List ℕ) → (open_after o bs).mark ≡ marks o.mark bs
unfolding open_after
open_after-marks o [] = refl
open_after-marks o (b ∷ bs) = open_after-marks (next_open o b) bs ∙ ap (λ m. marks m bs) (next_open-mark o b)

marks-absent : (bs : List ℕ) → marks Absent bs ≡ Absent
unfolding mark_after
marks-absent [] = refl
marks-absent (b ∷ bs) = marks-absent bs

marks-present : (bs : List ℕ) → marks Present bs ≡ Present
unfolding mark_after
marks-present [] = refl
marks-present (b ∷ bs) = marks-present bs

marks-third : (bs : List ℕ) → is_marked (marks Second bs) ≡ pointwise nat_eq (0xBF ∷ []) (take 1 bs)
unfolding mark_after
marks-third [] = refl
marks-third (b ∷ bs) = grind (arith, eqb_tells, marks-present, marks-absent)

marks-second : (bs : List ℕ) → is_marked (marks First bs) ≡ pointwise nat_eq (0xBB ∷ 0xBF ∷ []) (take 2 bs)
unfolding mark_after
marks-second [] = refl
marks-second (b ∷ bs) = grind (arith, eqb_tells, marks-third, marks-absent)

marks-first : (bs : List ℕ) → is_marked (marks Unread bs) ≡ has_mark bs
unfolding mark_after
marks-first [] = refl
marks-first (b ∷ bs) = grind (arith, eqb_tells, marks-second, marks-absent)

is_marked-open_after : (bs : List ℕ) → marked_at_end first_open bs ≡ has_mark bs
is_marked-open_after bs = ap (λ m. is_marked m) (open_after-marks first_open bs) ∙ marks-first bs

-- the lines of a page by their definition are those that its bytes give one by one
pub lines-one_by_one : (set : Encoding) (bytes : List ℕ) → lines set bytes ≡ lines_from (first_point set) bytes
lines-one_by_one set bytes = grind (arith, all-decode_line, is_marked-open_after, kept_lines-one_by_one, decode_all-page)

-- a page cut anywhere
pub lines-cut : (set : Encoding) (above below : List ℕ)
    → lines set (above ++ below) ≡ lines_within (first_point set) above ++ lines_from (point_after (first_point set) above) below
lines-cut set above below = grind (arith, lines-one_by_one, lines_within-append, point_after-append, append_assoc)

-- bytes that were read after those that came before
pub fed-of_page : (p q : Point) (more : List ℕ) (given : List Line) → q ≡ point_after p more → lines_within p more ≡ given
    → (set : Encoding) (bytes : List ℕ) → IsAfter p set bytes → IsFed q set bytes more given
fed-of_page p q more given after came set bytes at =
    let f = first_point set in
    let here : q ≡ point_after f (bytes ++ more) = after ∙ ap (λ o. point_after o more) at ∙ sym (point_after-append f bytes more) in
    let within : lines_within f (bytes ++ more) ≡ lines_within f bytes ++ given =
    lines_within-append f bytes more ∙ ap (λ ls. lines_within f bytes ++ ls) (ap (λ o. lines_within o more) (sym at) ∙ came) in
    record {
      after = here;
      page = λ rest.
          ap (λ bs. lines set bs) (sym (append_assoc bytes more rest)) ∙ lines-cut set (bytes ++ more) rest
          ∙ ap (λ o. lines_within f (bytes ++ more) ++ lines_from o rest) (sym here) ∙ ap (λ ls. ls ++ lines_from q rest) within
          ∙ append_assoc (lines_within f bytes) given (lines_from q rest);
    }

-- the page ends at a point
pub ended-of_page : (p : Point) (given : List Line) → line_at (end_point p) ≡ given
    → (set : Encoding) (bytes : List ℕ) → IsAfter p set bytes → lines set bytes ≡ lines_within (first_point set) bytes ++ given
ended-of_page p given came set bytes at = grind (arith, lines-one_by_one)

-- ---- Text and pairs that the mask of a vector's stops finds are read at once, and printable.

-- text ends no run
pub text-run : (b : ℕ) → is_text b ≡ true → ends_run Plain b ≡ false
text-run b h = grind (arith, nat_tests)

-- ---- masks

half : (b : Bool) (n : ℕ) → (cond b 1 0 + 2 * n) / 2 ≡ n
half true n = omega arith
half false n = omega arith

-- the lanes after the first ones
pub mask-after : (bs : List Bool) (k : ℕ) → mask_l bs / 2 ^ k ≡ mask_l (drop k bs)
mask-after bs zero = div-one (mask_l bs)
mask-after [] (suc k) = zero-div (2 ^ suc k)
mask-after (b ∷ bs) (suc k) =
    ap (λ n. mask_l (b ∷ bs) / n) (pow-suc 2 k ∙ mul_comm (2 ^ k) 2) ∙ sym (div-div-eq-div-mul (mask_l (b ∷ bs)) 2 (2 ^ k))
    ∙ ap (λ n. n / 2 ^ k) (half b (mask_l bs)) ∙ mask-after bs k

-- ---- fine bytes

-- to a place of a chunk, and those after it
pub fine-more : (xs : List ℕ) (i n : ℕ) → IsFine (take i xs) → IsFine (take n (drop i xs)) → IsFine (take (i + n) xs)
fine-more xs i n above below = record {
  text = text-more xs i n above.text below.text;
  printable = rw (take-add i n xs) (all-append is_printable (take i xs) (take n (drop i xs)) above.printable below.printable);
}

-- text
pub fine-text : (ys : List ℕ) (n : ℕ) → n ≤ prefix_len is_text ys → IsFine (take n ys)
fine-text ys n most = record {
  text = run-front ys n (omega (arith, most, prefix_len-le-length is_text ys)) (λ k below. text-run (slice_index ys k) (prefix_len_passes is_text ys k 0 (omega arith)));
  printable = text-printable ys n most;
}

-- a pair
pub fine-pair : (xs : List ℕ) (i : ℕ) → BeginsPair (take (length xs - i) (drop i xs)) → IsFine (take 2 (drop i xs))
fine-pair xs i pair =
    let pair_at = rw (rest_of xs i) at pair in
    record { text = text-pair (drop i xs) pair_at; printable = pair-printable (drop i xs) pair_at }

-- ---- a vector

-- the stops of so many bytes from a place on
abbrev pub stops_from : List ℕ → ℕ → ℕ → ℕ
stops_from xs i n = mask_l (map is_stop (take n (drop i xs)))

-- the first stop is a place of the bytes
pub stop-within : (xs : List ℕ) (i n : ℕ) → i + n ≤ length xs → n ≤ 64 → 0 < stops_from xs i n → i + count_trailing_zeros 64 (stops_from xs i n) ≤ length xs
stop-within xs i n room short some =
    let len = run_stops is_stop is_text (λ x. not-not (is_text x)) xs i n room short some in
    omega (arith, len, run_bound is_text xs i (omega arith))

-- up to the first stop
pub fine-stop : (xs : List ℕ) (i n : ℕ) → i + n ≤ length xs → n ≤ 64 → 0 < stops_from xs i n → IsFine (take i xs)
    → IsFine (take (i + count_trailing_zeros 64 (stops_from xs i n)) xs)
fine-stop xs i n room short some above =
    let len = run_stops is_stop is_text (λ x. not-not (is_text x)) xs i n room short some in
    fine-more xs i (count_trailing_zeros 64 (stops_from xs i n)) above (fine-text (drop i xs) (count_trailing_zeros 64 (stops_from xs i n)) (omega (arith, len)))

-- where there is none, all of them
pub fine-through : (xs : List ℕ) (i n : ℕ) → i + n ≤ length xs → stops_from xs i n ≡ 0 → IsFine (take i xs) → IsFine (take (i + n) xs)
fine-through xs i n room none above =
    let len = run_through is_stop is_text (λ x. not-not (is_text x)) xs i n room none in
    fine-more xs i n above (fine-text (drop i xs) n (omega (arith, len)))

-- the stops after the first bytes
pub stops-after : (xs : List ℕ) (i n k : ℕ) → k ≤ n → stops_from xs i n / 2 ^ k ≡ stops_from xs (i + k) (n - k)
stops-after xs i n k most =
    let parts : k + (n - k) ≡ n = omega arith in
    mask-after (map is_stop (take n (drop i xs))) k
    ∙ ap mask_l (drop-map is_stop k (take n (drop i xs)))
    ∙ ap (λ l. mask_l (map is_stop l))
    (ap (λ m. drop k (take m (drop i xs))) (sym parts) ∙ drop-take k (n - k) (drop i xs) ∙ ap (take (n - k)) (drop-drop k i xs))

-- ---- Text, and pairs of quiet bytes, begin no comment, no end of a block and no interpolation.

other : (b : Bool) → not b ≡ true → b ≡ false
other true h = let no : ⊥ = cc in absurd no
other false h = refl

not_first : (a b : Bool) → a ≡ false → (a && b) ≡ false
not_first a b e = rw e refl

not_second : (a b : Bool) → b ≡ false → (a && b) ≡ false
not_second true b e = e
not_second false b e = refl

-- text
pub text-free : (xs : List ℕ) (i n : ℕ) → n ≤ prefix_len is_text (drop i xs) → IsFreeTo i xs → IsFreeTo (i + n) xs
text-free xs i n most above = λ k below.
    elim (cases_lt k i) [
      | inl early ↦ above k early
      | inr late ↦
          let back : i + (k - i) ≡ k = omega arith in
          let is = prefix_len_passes is_text (drop i xs) (k - i) 0 (omega (arith, most)) in
          let here : is_text (get_or xs k 0) ≡ true =
          subst (λ b. is_text b ≡ true) (get_or-drop i xs (k - i) 0 ∙ ap (λ j. get_or xs j 0) back) is in
          not_first (is_backslash (get_or xs k 0)) _ (other (is_backslash (get_or xs k 0)) (and_true (is_printable (get_or xs k 0)) _ here).1)
    ]

-- a pair
pub pair-free : (xs : List ℕ) (i : ℕ) → is_quiet (get_or xs (i + 1) 0) ≡ true → IsFreeTo i xs → IsFreeTo (i + 2) xs
pair-free xs i quiet above = grind (arith, get_or, and_true, cases_lt, not_second, other, not_first)

-- up to the first stop of a vector
pub free-stop : (xs : List ℕ) (i n : ℕ) → i + n ≤ length xs → n ≤ 64 → 0 < stops_from xs i n → IsFreeTo i xs
    → IsFreeTo (i + count_trailing_zeros 64 (stops_from xs i n)) xs
free-stop xs i n room short some above =
    let len = run_stops is_stop is_text (λ x. not-not (is_text x)) xs i n room short some in
    text-free xs i (count_trailing_zeros 64 (stops_from xs i n)) (omega (arith, len)) above

-- where there is none, all of it
pub free-through : (xs : List ℕ) (i n : ℕ) → i + n ≤ length xs → stops_from xs i n ≡ 0 → IsFreeTo i xs → IsFreeTo (i + n) xs
free-through xs i n room none above =
    let len = run_through is_stop is_text (λ x. not-not (is_text x)) xs i n room none in
    text-free xs i n (omega (arith, len)) above

-- the bytes before a place
pub front-free : (xs : List ℕ) (n : ℕ) → n ≤ length xs → IsFreeTo n xs → IsFreeLine (take n xs)
front-free xs n within h = grind (arith, length-take-le, get_or-take)

-- the front of a line
pub less-free : (xs : List ℕ) (n : ℕ) → IsFreeLine xs → IsFreeLine (take n xs)
less-free xs n h = λ k l.
    elim (cases_lt n (length xs)) [
      | inl shorter ↦
          let len = length-take-le n xs (omega arith) in
          rw (get_or-take n xs k 0 (omega (arith, len)), get_or-take n xs (k + 1) 0 (omega (arith, len))) (h k (omega (arith, len)))
      | inr all ↦ subst IsFreeLine (sym (take_all n xs (omega arith))) h k l
    ]

-- the text at the front
pub text-front : (xs : List ℕ) (n : ℕ) → n ≤ prefix_len is_text xs → IsFreeTo n xs
text-front xs n most = λ k below. text-free xs 0 n most (λ k below. absurd (omega arith)) k (omega (arith, below))

pub text-front-free : (xs : List ℕ) (n : ℕ) → n ≤ prefix_len is_text xs → IsFreeLine (take n xs)
text-front-free xs n most = front-free xs n (omega (arith, most, prefix_len-le-length is_text xs)) (text-front xs n most)
