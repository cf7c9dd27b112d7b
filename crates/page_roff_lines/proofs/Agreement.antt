-- The logical lines of a page, joined of its physical lines, are those that its bytes give one by one.
use Rattle.std.proofs.Common.{◌≡◌, ℕ, zero, suc, ◌+◌, Bool, true, false, cond, List, [], ◌∷◌, ◌++◌, map, length, take, refl, sym, ap, ◌∙◌, append_assoc, append-nil, arith, drop}
use Rattle.std.specs.Prelude.{All, ◌==◌, nat_eq}
use Rattle.std.specs.List.{slice_split, onto_first, join_with_byte}
use Rattle.std.specs.Str.Lines.{strip_carriage_return, lines_of_parts, lines as physical_lines}
use Rattle.std.proofs.lemmas.Bool.Decides.{eqb_tells}
use Rattle.std.proofs.Math.Dec.{eqb-suc-zero}
use Rattle.std.proofs.lemmas.List.Splits.{join_with_byte-slice_split}
use Rattle.page_roff_lines.specs.declared.Mode.TheVariants.{Plain}
use Rattle.page_roff_lines.specs.declared.Mark.{Mark}
use Rattle.page_roff_lines.specs.declared.Mark.TheVariants.{Absent, Present, First, Second}
use Rattle.page_roff_lines.specs.laws.Views.{newline}
use Rattle.page_roff_lines.specs.machine.Open.{Held, hold, nothing_held, extend, Open, restart, next_open, put_byte, put_newline, newline_in, without_return, close, put_in, put_plain, put, count_byte, ends_mark, mark_after, end_open, open_after, whole_lines, if_whole, last_line, lines_from, first_open, end_in, is_settled}
use Rattle.page_roff_lines.specs.Lines.{read, Logical, join_texts, logical_lines, keep, kept_lines, has_mark}
use Rattle.page_roff_lines.proofs.PointLemmas.{open_after-append, whole_lines-append}
use Rattle.page_roff_lines.proofs.RunLemmas.{st, any, open_after-restart, whole_lines-restart, plain, at, upon, after_line, open_after-line, open_after-end, line-none}
use lib.Pointwise.{pointwise}

-- no line feed in a physical line, in each of several
abbrev NoNewline : List ℕ → Type 0
NoNewline y = All (λ b. (b == newline) ≡ false) y

abbrev NoNewlines : List (List ℕ) → Type 0
NoNewlines [] = Unit {0}
NoNewlines (y ∷ ys) = NoNewline y × NoNewlines ys

no_newline_cons : (b : ℕ) (y : List ℕ) → (b == newline) ≡ false → NoNewline y → NoNewline (b ∷ y)
no_newline_cons b y h e zero d l = h
no_newline_cons b y h e (suc k) d l = e k d (omega arith)

onto_first-none : (b : ℕ) (ps : List (List ℕ)) → (b == newline) ≡ false → NoNewlines ps → NoNewlines (onto_first b ps)
onto_first-none b [] h e = (no_newline_cons b [] h (λ k d l. absurd (omega arith)), tt)
onto_first-none b (p ∷ ps) h e = (no_newline_cons b p h e.0, e.1)

slice_split-none : (bs : List ℕ) → NoNewlines (slice_split (λ b. b == newline) bs)
slice_split-none [] = ((λ k d l. absurd (omega arith)), tt)
slice_split-none (b ∷ bs) = grind (arith, eqb_tells, slice_split-none bs, onto_first-none)

-- texts in front of a line, one after the other
join_texts-join_texts : (n p : ℕ) (s t : List ℕ) (ls : List Logical) → join_texts n s (join_texts p t ls) ≡ join_texts n (s ++ t) ls
unfolding join_texts
join_texts-join_texts n p s t [] = refl
join_texts-join_texts n p s t (l ∷ ls) = rw append_assoc refl

-- the empty text in front of the lines that begin with this number
join_texts-nil-if : (c : Bool) (p : ℕ) (t : List ℕ) (ls : List Logical)
    → join_texts p [] (cond c (join_texts p t ls) (record { number = p; text = t } ∷ ls)) ≡ cond c (join_texts p t ls) (record { number = p; text = t } ∷ ls)
unfolding join_texts
join_texts-nil-if false p t ls = refl
join_texts-nil-if true p t [] = refl
join_texts-nil-if true p t (l ∷ ls) = refl

join_texts-nil : (p : ℕ) (l : List ℕ) (ls : List (List ℕ)) → join_texts p [] (logical_lines p (l ∷ ls)) ≡ logical_lines p (l ∷ ls)
unfolding logical_lines
join_texts-nil p l ls = join_texts-nil-if (read l).joins p (read l).text (logical_lines (p + 1) ls)

-- after a whole line, as before the first
lines_from-nothing : (t : Held) (n p k : ℕ) (a : Mark)
    → lines_from (any true Plain t false false n p k a) [] ≡ lines_from (st Plain nothing_held false false p p k a) []
unfolding restart open_after end_open whole_lines
lines_from-nothing t n p k a = refl

lines_from-byte : (t : Held) (n p k : ℕ) (a : Mark) (b : ℕ) (bs : List ℕ)
    → lines_from (any true Plain t false false n p k a) (b ∷ bs) ≡ lines_from (st Plain nothing_held false false p p k a) (b ∷ bs)
unfolding restart
lines_from-byte t n p k a b bs = grind (arith, any, whole_lines-restart, st, open_after-restart)

lines_from-whole : (t : Held) (n p k : ℕ) (a : Mark) (bs : List ℕ)
    → lines_from (any true Plain t false false n p k a) bs ≡ lines_from (st Plain nothing_held false false p p k a) bs
lines_from-whole t n p k a [] = lines_from-nothing t n p k a
lines_from-whole t n p k a (b ∷ bs) = lines_from-byte t n p k a b bs

-- a physical line and its line feed, and what follows
line-then : (o next : Open) (y rest : List ℕ) → whole_lines o y ≡ [] → next_open (open_after o y) newline ≡ next
    → lines_from o (y ++ newline ∷ rest) ≡ if_whole next ++ lines_from next rest
unfolding open_after whole_lines
line-then o next y rest none e = grind (arith, whole_lines-append, open_after-append, append_assoc)

lines_from-line : (a : Mark) (n p k : ℕ) (text y rest : List ℕ) → is_settled a ≡ true → NoNewline y
    → lines_from (at a n p plain text k) (y ++ newline ∷ rest)
    ≡ if_whole (after_line a n p (k + length y + 1) (upon text (read (strip_carriage_return y))))
    ++ lines_from (after_line a n p (k + length y + 1) (upon text (read (strip_carriage_return y)))) rest
lines_from-line a n p k text y rest h e =
    line-then (at a n p plain text k) _ y rest (line-none a n p k plain text y h e) (open_after-line a n p k plain text y h e)

-- a last physical line
lines_from-last : (a : Mark) (n p k : ℕ) (text y : List ℕ) → is_settled a ≡ true → NoNewline y
    → lines_from (at a n p plain text k) y ≡ keep (record { number = n; text = text ++ (read y).text }) ∷ []
unfolding if_whole
lines_from-last a n p k text y h e = rw (line-none a n p k plain text y h e, open_after-end a n p k plain text y h e) refl

-- the first byte begins the line
take-nil : (n : ℕ) → take {A = ℕ} n [] ≡ []
take-nil zero = refl
take-nil (suc n) = refl

first_byte : (a : Mark) (p k : ℕ) (b : ℕ) → is_settled a ≡ true → (b == newline) ≡ false
    → next_open (st Plain nothing_held false false p p k a) b ≡ next_open (at a p p plain [] k) b
unfolding next_open put_byte count_byte restart ends_mark mark_after put_in put_plain put
first_byte Absent p k b h e = rw (e, take-nil) refl
first_byte Present p k b h e = rw (e, take-nil) refl
first_byte _ p k b h e = cc

begin : (a : Mark) (p k : ℕ) (b : ℕ) (bs : List ℕ) → is_settled a ≡ true → (b == newline) ≡ false
    → lines_from (st Plain nothing_held false false p p k a) (b ∷ bs) ≡ lines_from (at a p p plain [] k) (b ∷ bs)
unfolding open_after whole_lines
begin a p k b bs h e = ap (λ (q : Open). (if_whole q ++ whole_lines q bs) ++ last_line (open_after q bs)) (first_byte a p k b h e)

-- the lines of physical lines, of which the first goes on a line that was begun, or is a line's first
abbrev Goes : List (List ℕ) → Type 0
Goes more = (a : Mark) (n p k : ℕ) (text y : List ℕ) → is_settled a ≡ true → NoNewline y → NoNewlines more
    → lines_from (at a n p plain text k) (join_with_byte newline (y ∷ more)) ≡ map keep (join_texts n text (logical_lines p (lines_of_parts (y ∷ more))))

abbrev Begins : List (List ℕ) → Type 0
Begins more = (a : Mark) (p k : ℕ) (y : List ℕ) → is_settled a ≡ true → NoNewline y → NoNewlines more
    → lines_from (st Plain nothing_held false false p p k a) (join_with_byte newline (y ∷ more)) ≡ map keep (logical_lines p (lines_of_parts (y ∷ more)))

one_line : (c : Bool) (n p : ℕ) (s t : List ℕ)
    → join_texts n s (cond c (join_texts p t []) (record { number = p; text = t } ∷ [])) ≡ record { number = n; text = s ++ t } ∷ []
unfolding join_texts
one_line true n p s t = refl
one_line false n p s t = refl

goes-last : Goes []
unfolding join_texts logical_lines read
goes-last a n p k text [] h e f = grind (arith, lines_from-last, append-nil)
goes-last a n p k text (b ∷ y) h e f = grind (arith, lines_from-last, eqb-suc-zero, one_line)

-- a physical line is joined to the next, or ends its line
goes-line : (z : List ℕ) (zs : List (List ℕ)) → Goes zs → Begins zs → (a : Mark) (n p k : ℕ) (text : List ℕ) (c : Bool) (t : List ℕ) → is_settled a ≡ true
    → NoNewline z → NoNewlines zs
    → if_whole (after_line a n p k (record { text = text ++ t; joins = c })) ++ lines_from (after_line a n p k (record { text = text ++ t; joins = c })) (join_with_byte newline (z ∷ zs))
    ≡ map keep (join_texts n text (cond c (join_texts p t (logical_lines (p + 1) (lines_of_parts (z ∷ zs))))
    (record { number = p; text = t } ∷ logical_lines (p + 1) (lines_of_parts (z ∷ zs)))))
unfolding if_whole join_texts
goes-line z zs go be a n p k text true t h e f =
    ap (λ l. lines_from (any false Plain (hold l) false true n (p + 1) k a) (join_with_byte newline (z ∷ zs))) (sym (append-nil (text ++ t)))
    ∙ go a n (p + 1) k (text ++ t) z h e f
    ∙ sym (ap (λ ls. map keep ls) (join_texts-join_texts n p text t (logical_lines (p + 1) (lines_of_parts (z ∷ zs)))))
goes-line z zs go be a n p k text false t h e f = grind (arith, lines_from-whole)

goes-more : (z : List ℕ) (zs : List (List ℕ)) → Goes zs → Begins zs → Goes (z ∷ zs)
unfolding logical_lines
goes-more z zs go be a n p k text y h e f = grind (arith, lines_from-line, goes-line)

-- an empty physical line
empty_line : (a : Mark) (p k : ℕ) → is_settled a ≡ true
    → next_open (st Plain nothing_held false false p p k a) newline ≡ any true Plain nothing_held false false p (p + 1) (k + 1) a
unfolding next_open put_byte count_byte restart ends_mark mark_after put_newline newline_in without_return close
empty_line Absent p k h = refl
empty_line Present p k h = refl
empty_line _ p k h = cc

begins-byte : (more : List (List ℕ)) → Goes more → (a : Mark) (p k b : ℕ) (y : List ℕ) → is_settled a ≡ true → NoNewline (b ∷ y) → NoNewlines more
    → lines_from (st Plain nothing_held false false p p k a) (join_with_byte newline ((b ∷ y) ∷ more)) ≡ map keep (logical_lines p (lines_of_parts ((b ∷ y) ∷ more)))
begins-byte [] go a p k b y h e f =
    begin a p k b y h (e 0 0 (omega arith)) ∙ go a p p k [] (b ∷ y) h e f
    ∙ rw (eqb-suc-zero (length y)) (ap (λ ls. map keep ls) (join_texts-nil p (b ∷ y) []))
begins-byte (z ∷ zs) go a p k b y h e f =
    begin a p k b (y ++ newline ∷ join_with_byte newline (z ∷ zs)) h (e 0 0 (omega arith)) ∙ go a p p k [] (b ∷ y) h e f
    ∙ ap (λ ls. map keep ls) (join_texts-nil p (strip_carriage_return (b ∷ y)) (lines_of_parts (z ∷ zs)))

begins-last : Begins []
unfolding open_after whole_lines end_open restart if_whole logical_lines
begins-last a p k [] h e f = refl
begins-last a p k (b ∷ y) h e f = begins-byte [] goes-last a p k b y h e f

begins-more : (z : List ℕ) (zs : List (List ℕ)) → Goes zs → Begins zs → Begins (z ∷ zs)
unfolding whole_lines if_whole logical_lines read open_after
begins-more z zs go be a p k [] h e f = grind (arith, line-then, st, empty_line, any, lines_from-whole, take-nil)
begins-more z zs go be a p k (b ∷ y) h e f = begins-byte (z ∷ zs) (goes-more z zs go be) a p k b y h e f

pub goes : (more : List (List ℕ)) → Goes more × Begins more
goes [] = (goes-last, begins-last)
goes (z ∷ zs) = let rest = goes zs in (goes-more z zs rest.0 rest.1, begins-more z zs rest.0 rest.1)

of_parts : (a : Mark) (k : ℕ) (ps : List (List ℕ)) → is_settled a ≡ true → NoNewlines ps
    → lines_from (st Plain nothing_held false false 1 1 k a) (join_with_byte newline ps) ≡ map keep (logical_lines 1 (lines_of_parts ps))
unfolding open_after whole_lines end_open restart if_whole logical_lines
of_parts a k [] h e = refl
of_parts a k (y ∷ ys) h e = (goes ys).1 a 1 k y h e.0 e.1

-- after the bytes that may be a mark
pub lines_from-start : (a : Mark) (k : ℕ) (bs : List ℕ) → is_settled a ≡ true
    → lines_from (st Plain nothing_held false false 1 1 k a) bs ≡ map keep (logical_lines 1 (physical_lines bs))
lines_from-start a k bs h =
    ap (λ l. lines_from (st Plain nothing_held false false 1 1 k a) l) (sym (join_with_byte-slice_split newline bs))
    ∙ of_parts a k (slice_split (λ b. b == newline) bs) h (slice_split-none bs)

-- ---- A byte order mark is dropped, and a page that only begins like one has these bytes.

-- a page without a mark, and one after its mark
abbrev unmarked : Open
unmarked = st Plain nothing_held false false 1 1 0 Absent

abbrev marked : Open
marked = st Plain nothing_held false false 1 1 3 Present

-- after the first bytes of a mark
abbrev after_one : Mark → Open
after_one a = st Plain (extend nothing_held (0xEF ∷ [])) false true 1 1 1 a

abbrev after_two : Mark → Open
after_two a = st Plain (extend (extend nothing_held (0xEF ∷ [])) (0xBB ∷ [])) false true 1 1 2 a

by_first : (o q : Open) (b : ℕ) (bs : List ℕ) → next_open o b ≡ next_open q b → lines_from o (b ∷ bs) ≡ lines_from q (b ∷ bs)
unfolding open_after whole_lines
by_first o q b bs h = ap (λ (q : Open). (if_whole q ++ whole_lines q bs) ++ last_line (open_after q bs)) h

by_open : (o q : Open) (b : ℕ) (bs : List ℕ) → next_open o b ≡ q → if_whole q ≡ [] → lines_from o (b ∷ bs) ≡ lines_from q bs
unfolding open_after whole_lines
by_open o q b bs h e = rw (h, e) refl

third : (bs : List ℕ) → lines_from (after_two Second) bs
    ≡ cond (pointwise nat_eq (0xBF ∷ []) (take 1 bs)) (lines_from marked (drop 1 bs)) (lines_from (after_two Absent) bs)
unfolding open_after whole_lines end_open end_in restart close if_whole next_open put_byte count_byte ends_mark mark_after
third [] = refl
third (b ∷ bs) = grind (arith, eqb_tells, by_open, by_first)

second : (bs : List ℕ) → lines_from (after_one First) bs
    ≡ cond (pointwise nat_eq (0xBB ∷ 0xBF ∷ []) (take 2 bs)) (lines_from marked (drop 2 bs)) (lines_from (after_one Absent) bs)
unfolding open_after whole_lines end_open end_in restart close if_whole next_open put_byte put_in put_plain put count_byte ends_mark mark_after
second [] = refl
second (b ∷ bs) = grind (arith, eqb_tells, by_open, third, cond, by_first)

first : (bs : List ℕ) → lines_from first_open bs ≡ cond (has_mark bs) (lines_from marked (drop 3 bs)) (lines_from unmarked bs)
unfolding open_after whole_lines end_open end_in restart close if_whole next_open put_byte put_in put_plain put count_byte ends_mark mark_after
first [] = refl
first (b ∷ bs) = grind (arith, eqb_tells, by_open, second, cond, by_first)

either : (c : Bool) (xs ys : List ℕ)
    → cond c (lines_from marked xs) (lines_from unmarked ys) ≡ map keep (logical_lines 1 (physical_lines (cond c xs ys)))
either true xs ys = lines_from-start Present 3 xs refl
either false xs ys = lines_from-start Absent 0 ys refl

-- the lines of a page by its definition are those that its bytes give one by one
pub kept_lines-one_by_one : (bytes : List ℕ) → kept_lines bytes ≡ lines_from first_open bytes
kept_lines-one_by_one bytes = sym (first bytes ∙ either (has_mark bytes) (drop 3 bytes) bytes)
