-- A text of which only the first n bytes are held.
use Rattle.std.proofs.Common.{◌≡◌, ℕ, ◌+◌, ◌-◌, ◌<◌, ◌≤◌, List, [], ◌∷◌, ◌++◌, length, take, refl, ap, ◌∙◌, append-nil, arith, Bool, true, false, drop, get_or, append_assoc, zero, suc, sym, add-one}
use Rattle.std.specs.Prelude.{Result, Ok, Err, IsOk, is_ok, cond, ◌==◌}
use Rattle.std.proofs.lemmas.List.{take_all, take_more, length-take}
use Rattle.std.proofs.Math.Seq.{take-append-add, take-add}
use Rattle.page_core_base.specs.Bytes.{ascii}
use Rattle.page_roff_decoding.proofs.ScanLemmas.{rest_of}
use Rattle.page_roff_lines.specs.declared.Mode.{Mode}
use Rattle.page_roff_lines.specs.declared.Mode.TheVariants.{Plain, Backslash, Comment, Dropped}
use Rattle.page_roff_lines.specs.declared.Mark.{Mark}
use Rattle.page_roff_lines.specs.laws.Views.{newline}
use Rattle.page_roff_lines.specs.machine.Open.{Open, restart, close, count_byte, put, put_plain, put_pair, put_in, without_return, newline_in, put_newline, put_byte, mark_after, next_open, kept_of, if_whole, whole_lines, open_after, end_open, ends_mark, Held, extend, shorten}
use Rattle.page_core_base.specs.declared.page_settings.Encoding.{Encoding}
use Rattle.page_roff_lines.specs.Lines.{KeptLine}
use Rattle.page_roff_lines.specs.laws.Cutting.{Point, Cutting, encoding_after, point_at, next_point, end_point, line_of, line_at, lines_within, point_after, first_point, IsAfter}
use Rattle.page_roff_decoding.specs.Decoding.{line_limit}
use Rattle.page_roff_decoding.specs.laws.Views.{line_limit_is}

-- what fits after the bytes that are held
pub take-append-room : (n : ℕ) (xs ys : List ℕ) → length xs ≤ n → take n (xs ++ ys) ≡ xs ++ take (n - length xs) ys
take-append-room n xs ys h =
    let e : n ≡ length xs + (n - length xs) = omega arith in
    ap (λ k. take k (xs ++ ys)) e ∙ take-append-add xs ys (n - length xs)

pub take-append-one : (n : ℕ) (xs : List ℕ) (y : ℕ) → length xs < n → take n (xs ++ y ∷ []) ≡ xs ++ y ∷ []
take-append-one n xs y h = grind (arith, take-append-room, take_all)

pub take-append-full : (n : ℕ) (xs ys : List ℕ) → length xs ≤ n → n ≤ length xs → take n (xs ++ ys) ≡ xs
take-append-full n xs ys h g = grind (arith, take-append-room, append-nil)

-- a result that is known to be a value
pub if_ok : {T E X : Type 0} (r : Result T E) (x y : X) → IsOk r → cond (is_ok r) x y ≡ x
if_ok (Ok v) x y h = refl
if_ok (Err e) x y h = cc

-- ---- The page's bytes one by one, and cut anywhere.

pub open_after-append : (o : Open) (xs ys : List ℕ) → open_after o (xs ++ ys) ≡ open_after (open_after o xs) ys
unfolding open_after
open_after-append o [] ys = refl
open_after-append o (x ∷ xs) ys = open_after-append (next_open o x) xs ys

pub whole_lines-append : (o : Open) (xs ys : List ℕ) → whole_lines o (xs ++ ys) ≡ whole_lines o xs ++ whole_lines (open_after o xs) ys
unfolding open_after whole_lines
whole_lines-append o [] ys = refl
whole_lines-append o (x ∷ xs) ys = grind (arith, whole_lines-append (next_open o x) xs ys, append_assoc)

-- what only the bytes themselves change, and not how they are read: how many came, and how much of a mark
abbrev part : Open → ℕ × Mark
part o = (o.consumed, o.mark)

either-part : (c : Bool) (o p : Open) (k : ℕ × Mark) → part o ≡ k → part p ≡ k → part (cond c o p) ≡ k
either-part true o p k h g = h
either-part false o p k h g = g

restart-part : (o : Open) → part (restart o) ≡ part o
unfolding restart
restart-part o = either-part o.whole _ _ (part o) refl refl

put_in-part : (m : Mode) (r : Bool) (o : Open) (b : ℕ) → part (put_in m r o b) ≡ part o
unfolding put_in put_plain put_pair put
put_in-part Plain r o b = refl
put_in-part Comment r o b = refl
put_in-part Dropped r o b = refl
put_in-part Backslash true o b = refl
put_in-part Backslash false o b = either-part (b == ascii "#") _ _ (part o) refl refl

newline_in-part : (m : Mode) (o : Open) → part (newline_in m o) ≡ part o
unfolding newline_in close
newline_in-part Plain o = refl
newline_in-part _ o = refl

put_newline-part : (o : Open) → part (put_newline o) ≡ part o
unfolding put_newline without_return
put_newline-part o = newline_in-part o.mode (without_return o) ∙ either-part o.after_return _ _ (part o) refl refl

put_byte-part : (e : Bool) (o : Open) (b : ℕ) → part (put_byte e o b) ≡ part o
unfolding put_byte
put_byte-part true o b = refl
put_byte-part false o b = either-part (b == newline) _ _ (part o) (put_newline-part o) (put_in-part o.mode o.after_return o b)

next_open-part : (o : Open) (b : ℕ) → part (next_open o b) ≡ (o.consumed + 1, mark_after o.mark b)
unfolding next_open count_byte
next_open-part o b = grind (arith, put_byte-part, restart-part)

pub next_open-mark : (o : Open) (b : ℕ) → (next_open o b).mark ≡ mark_after o.mark b
next_open-mark o b = ap (λ (p : ℕ × Mark). p.1) (next_open-part o b)

next_open-consumed : (o : Open) (b : ℕ) → (next_open o b).consumed ≡ o.consumed + 1
next_open-consumed o b = ap (λ (p : ℕ × Mark). p.0) (next_open-part o b)

pub open_after-consumed : (o : Open) (bs : List ℕ) → (open_after o bs).consumed ≡ o.consumed + length bs
unfolding open_after
open_after-consumed o [] = omega arith
open_after-consumed o (b ∷ bs) = omega (arith, open_after-consumed (next_open o b) bs, next_open-consumed o b)

-- a part more of a list that is read
pub open_after-more : (o : Open) (xs : List ℕ) (i n : ℕ) → open_after (open_after o (take i xs)) (take n (drop i xs)) ≡ open_after o (take (i + n) xs)
open_after-more o xs i n = rw (take-add i n xs, open_after-append) refl

pub whole_lines-more : (o : Open) (xs : List ℕ) (i n : ℕ)
    → whole_lines o (take (i + n) xs) ≡ whole_lines o (take i xs) ++ whole_lines (open_after o (take i xs)) (take n (drop i xs))
whole_lines-more o xs i n = rw (take-add i n xs, whole_lines-append) refl

-- one byte more
pub open_after-next : (o : Open) (xs : List ℕ) (i : ℕ) → i < length xs → next_open (open_after o (take i xs)) (get_or xs i 0) ≡ open_after o (take (i + 1) xs)
unfolding open_after
open_after-next o xs i h = rw (take_more xs i 0 h, open_after-append o (take i xs) (get_or xs i 0 ∷ [])) refl

pub whole_lines-next : (o : Open) (xs : List ℕ) (i : ℕ) → i < length xs
    → whole_lines o (take (i + 1) xs) ≡ whole_lines o (take i xs) ++ if_whole (next_open (open_after o (take i xs)) (get_or xs i 0))
unfolding whole_lines
whole_lines-next o xs i h = rw (take_more xs i 0 h, whole_lines-append o (take i xs) (get_or xs i 0 ∷ []), append-nil) refl

-- a run more of a chunk
pub run-open_after : (o p q : Open) (xs : List ℕ) (i n : ℕ) → p ≡ open_after o (take i xs) → q ≡ open_after p (take n (take (length xs - i) (drop i xs)))
    → q ≡ open_after o (take (i + n) xs)
run-open_after o p q xs i n h g = g ∙ rw (rest_of xs i, h) (open_after-more o xs i n)

pub run-none : (o p : Open) (xs : List ℕ) (i n : ℕ) → p ≡ open_after o (take i xs) → whole_lines o (take i xs) ≡ []
    → whole_lines p (take n (take (length xs - i) (drop i xs))) ≡ [] → whole_lines o (take (i + n) xs) ≡ []
run-none o p xs i n h e g = grind (arith, rest_of, whole_lines-more)

-- one byte more of a chunk, with which the line is whole or not
pub byte-open_after : (o p q : Open) (xs : List ℕ) (j : ℕ) → j < length xs → p ≡ open_after o (take j xs) → q ≡ next_open p (get_or xs j 0) → q ≡ open_after o (take (j + 1) xs)
byte-open_after o p q xs j l h g = g ∙ ap (λ o. next_open o (get_or xs j 0)) h ∙ open_after-next o xs j l

pub byte-lines : (o p q : Open) (xs : List ℕ) (j : ℕ) → j < length xs → p ≡ open_after o (take j xs) → q ≡ next_open p (get_or xs j 0)
    → whole_lines o (take j xs) ≡ [] → whole_lines o (take (j + 1) xs) ≡ cond q.whole (kept_of q ∷ []) []
unfolding if_whole
byte-lines o p q xs j l h g e = rw (whole_lines-next o xs j l, e, ← h, ← g) refl

-- ---- up to a place of a chunk

-- the bytes before it were read, and hold no end of a logical line
abbrev pub IsReadTo : Open → Open → List ℕ → ℕ → Type 0
IsReadTo o p xs i = (i ≤ length xs) × (p ≡ open_after o (take i xs)) × (whole_lines o (take i xs) ≡ [])

-- ---- Places of a page, and the lines between them.

-- the law: a page cut anywhere
pub point_after-append : (p : Point) (xs ys : List ℕ) → point_after p (xs ++ ys) ≡ point_after (point_after p xs) ys
unfolding point_after
point_after-append p [] ys = refl
point_after-append p (x ∷ xs) ys = point_after-append (next_point p x) xs ys

pub lines_within-append : (p : Point) (xs ys : List ℕ) → lines_within p (xs ++ ys) ≡ lines_within p xs ++ lines_within (point_after p xs) ys
unfolding point_after lines_within
lines_within-append p [] ys = refl
lines_within-append p (x ∷ xs) ys = grind (arith, lines_within-append (next_point p x) xs ys, append_assoc)

nil-append : {X : Type 0} (xs ys : List X) → xs ++ ys ≡ [] → (xs ≡ []) × (ys ≡ [])
nil-append [] ys h = (refl, h)
nil-append (x ∷ xs) ys h = cc

whole-nil : (w : Bool) (k : KeptLine) → cond w (k ∷ []) [] ≡ [] → w ≡ false
whole-nil false k h = refl
whole-nil true k h = cc

pub if_whole-nil : (o : Open) → if_whole o ≡ [] → o.whole ≡ false
unfolding if_whole
if_whole-nil o h = whole-nil o.whole (kept_of o) h

-- where no line is whole, the encoding stays as it is
abbrev pub open_point : Encoding → Open → Point
open_point e o = record { line = o; encoding = e }

next_point-none : (e : Encoding) (o : Open) (b : ℕ) → (next_open o b).whole ≡ false → next_point (open_point e o) b ≡ open_point e (next_open o b)
unfolding next_point point_at
next_point-none e o b w = ap (λ c. record { line = next_open o b; encoding = cond c (encoding_after e (next_open o b)) e }) w

line_at-none : (p : Point) → p.line.whole ≡ false → line_at p ≡ []
unfolding line_at
line_at-none p w = ap (λ c. cond c (line_of p ∷ []) []) w

pub point_after-none : (e : Encoding) (o : Open) (bs : List ℕ) → whole_lines o bs ≡ []
    → (point_after (open_point e o) bs ≡ open_point e (open_after o bs)) × (lines_within (open_point e o) bs ≡ [])
unfolding point_after lines_within open_after whole_lines
point_after-none e o [] h = (refl, refl)
point_after-none e o (b ∷ bs) h =
    let both = nil-append (if_whole (next_open o b)) (whole_lines (next_open o b) bs) h in
    let no = if_whole-nil (next_open o b) both.0 in
    let next = next_point-none e o b no in
    let rest = point_after-none e (next_open o b) bs both.1 in
    let none = line_at-none (open_point e (next_open o b)) no in (
      ap (λ (q : Point). point_after q bs) next ∙ rest.0,
      ap (λ (q : Point). line_at q ++ lines_within q bs) next ∙ ap (λ l. l ++ lines_within (open_point e (next_open o b)) bs) none ∙ rest.1,
    )

-- the last byte makes the line whole
abbrev pub whole_point : Encoding → Open → Point
whole_point e o = record { line = o; encoding = encoding_after e o }

next_point-whole : (e : Encoding) (o : Open) (b : ℕ) → (next_open o b).whole ≡ true
    → next_point (record { line = o; encoding = e }) b ≡ whole_point e (next_open o b)
unfolding next_point point_at
next_point-whole e o b w = rw w refl

line_at-whole : (p : Point) → p.line.whole ≡ true → line_at p ≡ line_of p ∷ []
unfolding line_at
line_at-whole p w = rw w refl

open_after-one : (o : Open) (bs : List ℕ) (b : ℕ) → open_after o (bs ++ b ∷ []) ≡ next_open (open_after o bs) b
unfolding open_after
open_after-one o bs b = open_after-append o bs (b ∷ [])

point_after-one : (p : Point) (bs : List ℕ) (b : ℕ) (o : Open) → whole_lines p.line bs ≡ [] → o ≡ open_after p.line (bs ++ b ∷ []) → o.whole ≡ true
    → (point_after p (bs ++ b ∷ []) ≡ whole_point p.encoding o) × (lines_within p (bs ++ b ∷ []) ≡ line_of (whole_point p.encoding o) ∷ [])
unfolding point_after lines_within
point_after-one p bs b o h is w =
    grind (arith, point_after-none, open_after-one, next_point-whole, append-nil, line_at-whole, point_after-append, lines_within-append)

nothing_whole : (o : Open) (k : KeptLine) → whole_lines o [] ≡ k ∷ [] → ⊥
unfolding whole_lines
nothing_whole o k h = cc

-- a part of a chunk that was fed
pub fed : (p : Point) (xs : List ℕ) (n : ℕ) (w : Bool) (o : Open) → n ≤ length xs → o ≡ open_after p.line (take n xs)
    → whole_lines p.line (take n xs) ≡ cond w (kept_of o ∷ []) [] → (w ≡ true → whole_lines p.line (take (n - 1) xs) ≡ []) → (w ≡ true → o.whole ≡ true)
    → let q : Point = record { line = o; encoding = cond w (encoding_after p.encoding o) p.encoding } in
    (q ≡ point_after p (take n xs)) × (lines_within p (take n xs) ≡ cond w (line_of q ∷ []) []) × (w ≡ true → lines_within p (take (n - 1) xs) ≡ [])
fed p xs n false o h is lines before whole =
    let none = point_after-none p.encoding p.line (take n xs) lines in
    (ap (λ (o : Open). record { line = o; encoding = p.encoding }) is ∙ sym none.0, none.1, λ no. cc)
fed p xs zero true o h is lines before whole = absurd (nothing_whole p.line (kept_of o) lines)
fed p xs (suc n) true o h is lines before whole =
    let short : suc n - 1 ≡ n = omega arith in
    let more : take (suc n) xs ≡ take n xs ++ get_or xs n 0 ∷ [] = rw (← add-one) (take_more xs n 0 (omega arith)) in
    let none = rw short at (before refl) in
    let one = point_after-one p (take n xs) (get_or xs n 0) o none (is ∙ ap (λ l. open_after p.line l) more) (whole refl) in
    let rest = point_after-none p.encoding p.line (take n xs) none in (
      sym (ap (λ l. point_after p l) more ∙ one.0),
      ap (λ l. lines_within p l) more ∙ one.1,
      λ _. rw short rest.1,
    )

-- the end of a page
pub end_point-is : (p : Point) (w : Bool) (o : Open) → o ≡ end_open p.line → w ≡ o.whole
    → let q : Point = record { line = o; encoding = cond w (encoding_after p.encoding o) p.encoding } in
    (q ≡ end_point p) × (line_at q ≡ cond w (line_of q ∷ []) [])
unfolding end_point point_at line_at
end_point-is p w o is whole = grind (arith, cond)

-- the point of a cutter for which no line waits
pub free_point : (v : Cutting) (o : Open) (e : Encoding) (r : Bool) (t : List ℕ)
    → record { point = record { line = o; encoding = cond r (encoding_after e o) e }; ready = r; text = t } ≡ v → v.ready ≡ false → v.point ≡ open_point e o
free_point v o e r t is free = grind (arith, cond)

-- the point of a cutter for which one does
pub waiting_point : (v : Cutting) (o : Open) (e : Encoding) (r : Bool) (t : List ℕ)
    → record { point = record { line = o; encoding = cond r (encoding_after e o) e }; ready = r; text = t } ≡ v → v.ready ≡ true → v.point ≡ whole_point e o
waiting_point v o e r t is waits = grind (arith, cond)

-- ---- An open line keeps no more bytes than the limit.

-- within the limit
abbrev Short : Open → Type 0
Short o = length o.text.bytes ≤ line_limit

extend-short : (h : Held) (more : List ℕ) → length (extend h more).bytes ≤ line_limit
unfolding extend
extend-short h more = omega (arith, length-take line_limit (h.bytes ++ more))

shorten-short : (h : Held) → length h.bytes ≤ line_limit → length (shorten h).bytes ≤ line_limit
unfolding shorten
shorten-short h le = omega (arith, length-take (h.total - 1) h.bytes)

either-short : (c : Bool) (o p : Open) → Short o → Short p → Short (cond c o p)
either-short true o p h g = h
either-short false o p h g = g

restart-short : (o : Open) → Short o → Short (restart o)
unfolding restart
restart-short o h = either-short o.whole _ o (omega arith) h

put_in-short : (m : Mode) (r : Bool) (o : Open) (b : ℕ) → Short o → Short (put_in m r o b)
unfolding put_in put_plain put_pair put
put_in-short Plain r o b h = extend-short o.text (b ∷ [])
put_in-short Comment r o b h = extend-short o.text (b ∷ [])
put_in-short Dropped r o b h = h
put_in-short Backslash true o b h = extend-short o.text (b ∷ [])
put_in-short Backslash false o b h = either-short (b == ascii "#") _ _ (shorten-short o.text h) (extend-short o.text (b ∷ []))

newline_in-short : (m : Mode) (o : Open) → Short o → Short (newline_in m o)
unfolding newline_in close
newline_in-short Backslash o h = shorten-short o.text h
newline_in-short _ o h = h

put_newline-short : (o : Open) → Short o → Short (put_newline o)
unfolding put_newline without_return
put_newline-short o h = newline_in-short o.mode _ (either-short o.after_return _ o (shorten-short o.text h) h)

put_byte-short : (e : Bool) (o : Open) (b : ℕ) → Short o → Short (put_byte e o b)
unfolding put_byte
put_byte-short true o b h = omega arith
put_byte-short false o b h = either-short (b == newline) _ _ (put_newline-short o h) (put_in-short o.mode o.after_return o b h)

next_open-short : (o : Open) (b : ℕ) → Short o → Short (next_open o b)
unfolding next_open count_byte
next_open-short o b h = put_byte-short (ends_mark o.mark b) (count_byte (restart o) b) b (restart-short o h)

point_after-short : (p : Point) (bytes : List ℕ) → Short p.line → Short (point_after p bytes).line
unfolding point_after next_point point_at
point_after-short p [] h = h
point_after-short p (b ∷ bs) h = point_after-short (next_point p b) bs (next_open-short p.line b h)

pub hold-limit : (set : Encoding) (bytes : List ℕ) → length (point_after (first_point set) bytes).line.text.bytes ≤ 65536
hold-limit set bytes =
    let limit = line_limit_is in
    let short = point_after-short (first_point set) bytes (omega arith) in
    omega (arith, limit, short)

-- the open line after bytes that were read after those that came before
pub fed-held : (p q : Point) (more : List ℕ) → q ≡ point_after p more
    → (set : Encoding) (bytes : List ℕ) → IsAfter p set bytes → length q.line.text.bytes ≤ 65536
fed-held p q more after set bytes at =
    rw (after ∙ ap (λ o. point_after o more) at ∙ sym (point_after-append (first_point set) bytes more)) (hold-limit set (bytes ++ more))
