-- A run of bytes does to the open line what its bytes do one by one.
use Rattle.std.proofs.Common.{zero, suc, add_assoc, ◌≡◌, ℕ, ◌+◌, ◌-◌, ◌<◌, Bool, true, false, List, [], ◌∷◌, ◌++◌, length, take, get_or, refl, ap, ◌∙◌, append_assoc, length-append, arith, append-nil, cond, sym}
use Rattle.std.specs.Prelude.{◌==◌, ◌||◌, slice_index, if◌then◌else◌, not, All}
use Rattle.page_core_base.specs.Bytes.{ascii}
use Rattle.page_roff_lines.specs.declared.Mode.{Mode}
use Rattle.page_roff_lines.specs.declared.Mode.TheVariants.{Plain, Backslash, Comment, Dropped}
use Rattle.page_roff_lines.specs.declared.Mark.{Mark}
use Rattle.page_roff_lines.specs.declared.Mark.TheVariants.{Absent, Present}
use Rattle.page_roff_lines.specs.laws.Views.{newline, carriage_return}
use Rattle.page_roff_lines.specs.machine.Open.{Held, extend, hold, shorten, nothing_held, Open, restart, next_open, put_byte, put_in, put_plain, put_newline, without_return, newline_in, close, put, count_byte, ends_mark, mark_after, if_whole, whole_lines, open_after, put_pair, pair_mode, end_open, end_in, ends_run, is_settled, run_in, with_run, IsFine, ReadsText}
use Rattle.std.proofs.lemmas.Bool.Decides.{eqb_tells, nat_tests}
use Rattle.page_roff_decoding.specs.Decoding.{line_limit, is_printable}
use Rattle.std.specs.Str.Lines.{strip_carriage_return}
use Rattle.page_roff_lines.specs.Lines.{Physical, after_byte, read, read_pair}
use Rattle.std.specs.List.{list_all}
use Rattle.page_roff_decoding.proofs.ScanLemmas.{and_true}

-- no byte of the run ends it
pub record IsRun (o : Open) (run : List ℕ) : Type 0 where
  pub settled : is_settled o.mark ≡ true
  pub bytes : (k : ℕ) → k < length run → ends_run o.mode (slice_index run k) ≡ false

-- an open line that is not whole
abbrev pub st : Mode → Held → Bool → Bool → ℕ → ℕ → ℕ → Mark → Open
st m t r g n p k a = record { text = t; mode = m; after_return = r; begun = g; whole = false; number = n; physical = p; consumed = k; mark = a }

or_false : (a b : Bool) → (a || b) ≡ false → (a ≡ false) × (b ≡ false)
or_false false b h = (refl, h)
or_false true b h = cc

-- one byte of a run
pub plain_byte : (t : Held) (r g : Bool) (n p k : ℕ) (a : Mark) (b : ℕ) → is_settled a ≡ true → ends_run Plain b ≡ false
    → next_open (st Plain t r g n p k a) b ≡ st Plain (extend t (b ∷ [])) (b == carriage_return) true n p (k + 1) a
unfolding next_open put_byte put_in put_plain put count_byte restart ends_mark mark_after
plain_byte t r g n p k Absent b h e = let f = or_false (b == newline) (b == ascii "\\") e in rw (f.0, f.1) refl
plain_byte t r g n p k Present b h e = let f = or_false (b == newline) (b == ascii "\\") e in rw (f.0, f.1) refl
plain_byte t r g n p k _ b h e = cc

pub comment_byte : (t : Held) (r g : Bool) (n p k : ℕ) (a : Mark) (b : ℕ) → is_settled a ≡ true → ends_run Comment b ≡ false
    → next_open (st Comment t r g n p k a) b ≡ st Comment (extend t (b ∷ [])) (b == carriage_return) true n p (k + 1) a
unfolding next_open put_byte put_in put_plain put count_byte restart ends_mark mark_after
comment_byte t r g n p k Absent b h e = rw e refl
comment_byte t r g n p k Present b h e = rw e refl
comment_byte t r g n p k _ b h e = cc

pub dropped_byte : (t : Held) (r g : Bool) (n p k : ℕ) (a : Mark) (b : ℕ) → is_settled a ≡ true → ends_run Dropped b ≡ false
    → next_open (st Dropped t r g n p k a) b ≡ st Dropped t r g n p (k + 1) a
unfolding next_open put_byte put_in put_plain put count_byte restart ends_mark mark_after
dropped_byte t r g n p k Absent b h e = rw e refl
dropped_byte t r g n p k Present b h e = rw e refl
dropped_byte t r g n p k _ b h e = cc

-- two texts at the end, one after the other
pub take-take-append : (n : ℕ) (xs ys : List ℕ) → take n (take n xs ++ ys) ≡ take n (xs ++ ys)
take-take-append zero xs ys = refl
take-take-append (suc n) [] ys = refl
take-take-append (suc n) (x ∷ xs) ys = ap (λ l. x ∷ l) (take-take-append n xs ys)

pub extend-extend : (t : Held) (xs ys : List ℕ) → extend (extend t xs) ys ≡ extend t (xs ++ ys)
unfolding extend
extend-extend t xs ys = grind (arith, take-take-append, append_assoc, length-append, add_assoc)

-- the last byte of a list
abbrev pub last_of : List ℕ → ℕ
last_of run = get_or run (length run - 1) 0

last_more : (b c : ℕ) (bs : List ℕ) → last_of (b ∷ c ∷ bs) ≡ last_of (c ∷ bs)
last_more b c bs = grind arith

-- in this mode a byte that passes is kept
abbrev KeepsByte : Mode → ℕ → ℕ → Mark → (ℕ → Bool) → Type 0
KeepsByte m n p a ends = (t : Held) (r g : Bool) (k b : ℕ) → ends b ≡ false
    → next_open (st m t r g n p k a) b ≡ st m (extend t (b ∷ [])) (b == carriage_return) true n p (k + 1) a

keep-open_after : (m : Mode) (n p : ℕ) (a : Mark) (ends : ℕ → Bool) → KeepsByte m n p a ends
    → (t : Held) (r g : Bool) (k b : ℕ) (bs : List ℕ) → ((i : ℕ) → i < length (b ∷ bs) → ends (get_or (b ∷ bs) i 0) ≡ false)
    → open_after (st m t r g n p k a) (b ∷ bs) ≡ st m (extend t (b ∷ bs)) (last_of (b ∷ bs) == carriage_return) true n p (k + length (b ∷ bs)) a
unfolding open_after
keep-open_after m n p a ends one t r g k b [] h = one t r g k b (h 0 (omega arith))
keep-open_after m n p a ends one t r g k b (c ∷ bs) h =
    let count : k + 1 + suc (length bs) ≡ k + suc (suc (length bs)) = omega arith in
    rw (one t r g k b (h 0 (omega arith)))
    (keep-open_after m n p a ends one (extend t (b ∷ [])) (b == carriage_return) true (k + 1) c bs (λ i l. h (suc i) (omega arith))
    ∙ rw (extend-extend t (b ∷ []) (c ∷ bs), last_more b c bs, count) refl)

keep-none : (m : Mode) (n p : ℕ) (a : Mark) (ends : ℕ → Bool) → KeepsByte m n p a ends
    → (t : Held) (r g : Bool) (k : ℕ) (bs : List ℕ) → ((i : ℕ) → i < length bs → ends (get_or bs i 0) ≡ false)
    → whole_lines (st m t r g n p k a) bs ≡ []
unfolding whole_lines if_whole
keep-none m n p a ends one t r g k [] h = refl
keep-none m n p a ends one t r g k (b ∷ bs) h =
    rw (one t r g k b (h 0 (omega arith)))
    (keep-none m n p a ends one (extend t (b ∷ [])) (b == carriage_return) true (k + 1) bs (λ i l. h (suc i) (omega arith)))

dropped-open_after : (t : Held) (r g : Bool) (n p : ℕ) (a : Mark) → is_settled a ≡ true → (k : ℕ) (bs : List ℕ)
    → ((i : ℕ) → i < length bs → ends_run Dropped (get_or bs i 0) ≡ false)
    → open_after (st Dropped t r g n p k a) bs ≡ st Dropped t r g n p (k + length bs) a
unfolding open_after
dropped-open_after t r g n p a s k [] h = let count : k ≡ k + 0 = omega arith in rw (← count) refl
dropped-open_after t r g n p a s k (b ∷ bs) h =
    let count : k + 1 + length bs ≡ k + suc (length bs) = omega arith in
    rw (dropped_byte t r g n p k a b s (h 0 (omega arith))) (dropped-open_after t r g n p a s (k + 1) bs (λ i l. h (suc i) (omega arith)) ∙ rw count refl)

dropped-none : (t : Held) (r g : Bool) (n p : ℕ) (a : Mark) → is_settled a ≡ true → (k : ℕ) (bs : List ℕ)
    → ((i : ℕ) → i < length bs → ends_run Dropped (get_or bs i 0) ≡ false) → whole_lines (st Dropped t r g n p k a) bs ≡ []
unfolding whole_lines if_whole
dropped-none t r g n p a s k [] h = refl
dropped-none t r g n p a s k (b ∷ bs) h =
    rw (dropped_byte t r g n p k a b s (h 0 (omega arith))) (dropped-none t r g n p a s (k + 1) bs (λ i l. h (suc i) (omega arith)))

-- in each mode
run-open_after : (m : Mode) (t : Held) (r g : Bool) (n p k : ℕ) (a : Mark) (b : ℕ) (bs : List ℕ) → IsRun (st m t r g n p k a) (b ∷ bs)
    → open_after (st m t r g n p k a) (b ∷ bs) ≡ with_run (st m t r g n p k a) (b ∷ bs)
unfolding run_in
run-open_after Plain t r g n p k a b bs is =
    keep-open_after Plain n p a (ends_run Plain) (λ u s f j c. plain_byte u s f n p j a c is.settled) t r g k b bs is.bytes
run-open_after Comment t r g n p k a b bs is =
    keep-open_after Comment n p a (ends_run Comment) (λ u s f j c. comment_byte u s f n p j a c is.settled) t r g k b bs is.bytes
run-open_after Dropped t r g n p k a b bs is = dropped-open_after t r g n p a is.settled k (b ∷ bs) is.bytes
run-open_after Backslash t r g n p k a b bs is = let h = is.bytes 0 (omega arith) in cc

run-none : (m : Mode) (t : Held) (r g : Bool) (n p k : ℕ) (a : Mark) (bs : List ℕ) → IsRun (st m t r g n p k a) bs
    → whole_lines (st m t r g n p k a) bs ≡ []
unfolding whole_lines
run-none Plain t r g n p k a bs is =
    keep-none Plain n p a (ends_run Plain) (λ u s f j c. plain_byte u s f n p j a c is.settled) t r g k bs is.bytes
run-none Comment t r g n p k a bs is =
    keep-none Comment n p a (ends_run Comment) (λ u s f j c. comment_byte u s f n p j a c is.settled) t r g k bs is.bytes
run-none Dropped t r g n p k a bs is = dropped-none t r g n p a is.settled k bs is.bytes
run-none Backslash t r g n p k a [] is = refl
run-none Backslash t r g n p k a (b ∷ bs) is = let h = is.bytes 0 (omega arith) in cc

-- an open line, whole or not
abbrev pub any : Bool → Mode → Held → Bool → Bool → ℕ → ℕ → ℕ → Mark → Open
any w m t r g n p k a = record { text = t; mode = m; after_return = r; begun = g; whole = w; number = n; physical = p; consumed = k; mark = a }

-- a byte begins the line after a whole one
pub open_after-restart : (w : Bool) (m : Mode) (t : Held) (r g : Bool) (n p k : ℕ) (a : Mark) (b : ℕ) (bs : List ℕ)
    → open_after (any w m t r g n p k a) (b ∷ bs) ≡ open_after (restart (any w m t r g n p k a)) (b ∷ bs)
unfolding open_after next_open restart
open_after-restart false m t r g n p k a b bs = refl
open_after-restart true m t r g n p k a b bs = refl

pub whole_lines-restart : (w : Bool) (m : Mode) (t : Held) (r g : Bool) (n p k : ℕ) (a : Mark) (bs : List ℕ)
    → whole_lines (any w m t r g n p k a) bs ≡ whole_lines (restart (any w m t r g n p k a)) bs
unfolding whole_lines next_open restart
whole_lines-restart false m t r g n p k a bs = refl
whole_lines-restart true m t r g n p k a [] = refl
whole_lines-restart true m t r g n p k a (b ∷ bs) = refl

any-open_after : (w : Bool) (m : Mode) (t : Held) (r g : Bool) (n p k : ℕ) (a : Mark) (run : List ℕ) → 0 < length run → IsRun (any w m t r g n p k a) run
    → open_after (any w m t r g n p k a) run ≡ with_run (restart (any w m t r g n p k a)) run
unfolding restart
any-open_after w m t r g n p k a [] some is = absurd (omega arith)
any-open_after false m t r g n p k a (b ∷ bs) some is = run-open_after m t r g n p k a b bs record { settled = is.settled; bytes = is.bytes }
any-open_after true m t r g n p k a (b ∷ bs) some is = grind (arith, open_after-restart, run-open_after)

any-none : (w : Bool) (m : Mode) (t : Held) (r g : Bool) (n p k : ℕ) (a : Mark) (run : List ℕ) → IsRun (any w m t r g n p k a) run
    → whole_lines (any w m t r g n p k a) run ≡ []
unfolding restart
any-none false m t r g n p k a run is = run-none m t r g n p k a run record { settled = is.settled; bytes = is.bytes }
any-none true m t r g n p k a run is = grind (arith, whole_lines-restart, run-none)

pub open_after-run : (o : Open) (run : List ℕ) → 0 < length run → IsRun o run → open_after o run ≡ with_run (restart o) run
open_after-run o run some is = any-open_after o.whole o.mode o.text o.after_return o.begun o.number o.physical o.consumed o.mark run some is

pub whole_lines-run : (o : Open) (run : List ℕ) → IsRun o run → whole_lines o run ≡ []
whole_lines-run o run is = any-none o.whole o.mode o.text o.after_return o.begun o.number o.physical o.consumed o.mark run is

-- a line feed after text ends the line, and takes nothing away
pub newline-st : (t : Held) (g : Bool) (n p k : ℕ) (a : Mark) → is_settled a ≡ true
    → next_open (st Plain t false g n p k a) newline ≡ any true Plain t false false n (p + 1) (k + 1) a
unfolding next_open put_byte put_newline without_return newline_in close count_byte restart ends_mark mark_after
newline-st t g n p k Absent h = refl
newline-st t g n p k Present h = refl
newline-st t g n p k _ h = cc

-- ---- Where the reading of a physical line is, with the bytes at its end that the next byte may take away.

pub data Spot : Type 0 where
  plain : Spot
  returned : Spot
  slash : Spot
  slash_returned : Spot
  noted : Spot
  noted_returned : Spot
  dropping : Spot

abbrev pub mode_of : Spot → Mode
mode_of plain = Plain
mode_of returned = Plain
mode_of slash = Backslash
mode_of slash_returned = Backslash
mode_of noted = Comment
mode_of noted_returned = Comment
mode_of dropping = Dropped

abbrev pub return_of : Spot → Bool
return_of plain = false
return_of returned = true
return_of slash = false
return_of slash_returned = true
return_of noted = false
return_of noted_returned = true
return_of dropping = false

-- the bytes at the end that the next byte may take away
abbrev pub pending : Spot → List ℕ
pending plain = []
pending returned = carriage_return ∷ []
pending slash = ascii "\\" ∷ []
pending slash_returned = ascii "\\" ∷ carriage_return ∷ []
pending noted = []
pending noted_returned = carriage_return ∷ []
pending dropping = []

-- the open line there, after a text and the pending bytes
abbrev pub at : Mark → ℕ → ℕ → Spot → List ℕ → ℕ → Open
at a n p s text k = st (mode_of s) (hold (text ++ pending s)) (return_of s) true n p k a

abbrev plain_next : ℕ → Spot
plain_next b = if b == ascii "\\" then slash else (if b == carriage_return then returned else plain)

abbrev plain_text : List ℕ → ℕ → List ℕ
plain_text text b = if b == ascii "\\" then text else (if b == carriage_return then text else text ++ b ∷ [])

abbrev noted_next : ℕ → Spot
noted_next b = if b == carriage_return then noted_returned else noted

abbrev noted_text : List ℕ → ℕ → List ℕ
noted_text text b = if b == carriage_return then text else text ++ b ∷ []

abbrev pub next : Spot → ℕ → Spot
next plain b = plain_next b
next returned b = plain_next b
next slash b = if b == ascii "\"" then noted else (if b == ascii "#" then dropping else (if b == carriage_return then slash_returned else plain))
next slash_returned b = plain_next b
next noted b = noted_next b
next noted_returned b = noted_next b
next dropping b = dropping

abbrev pub next_text : Spot → List ℕ → ℕ → List ℕ
next_text plain text b = plain_text text b
next_text returned text b = plain_text (text ++ carriage_return ∷ []) b
next_text slash text b = if b == ascii "\"" then text ++ ascii "\\" ∷ ascii "\"" ∷ [] else (if b == ascii "#" then text else (if b == carriage_return then text else text ++ ascii "\\" ∷ b ∷ []))
next_text slash_returned text b = plain_text (text ++ ascii "\\" ∷ carriage_return ∷ []) b
next_text noted text b = noted_text text b
next_text noted_returned text b = noted_text (text ++ carriage_return ∷ []) b
next_text dropping text b = text

-- a held text grows and shrinks at its end
pub hold-push : (text : List ℕ) (b : ℕ) → extend (hold text) (b ∷ []) ≡ hold (text ++ b ∷ [])
unfolding extend
hold-push text b = rw (take-take-append line_limit text (b ∷ []), length-append text (b ∷ [])) refl

take-length-take : (n : ℕ) (xs ys : List ℕ) → take (length xs) (take n (xs ++ ys)) ≡ take n xs
take-length-take zero [] ys = refl
take-length-take zero (x ∷ xs) ys = refl
take-length-take (suc n) [] ys = refl
take-length-take (suc n) (x ∷ xs) ys = ap (λ l. x ∷ l) (take-length-take n xs ys)

pub hold-pop : (text : List ℕ) (b : ℕ) → shorten (hold (text ++ b ∷ [])) ≡ hold text
unfolding shorten
hold-pop text b =
    let count : length (text ++ b ∷ []) - 1 ≡ length text = omega (arith, length-append text (b ∷ [])) in
    rw (count, take-length-take line_limit text (b ∷ [])) refl

-- a byte is one of those that cutting looks at, or another
pub by_byte : (P : ℕ → Type 0) → P (ascii "\\") → P (ascii "\"") → P (ascii "#") → P carriage_return
    → ((b : ℕ) → (b == ascii "\\") ≡ false → (b == ascii "\"") ≡ false → (b == ascii "#") ≡ false → (b == carriage_return) ≡ false → P b) → (b : ℕ) → P b
by_byte P p q h c other b = grind (arith, eqb_tells)

-- a byte that ends no physical line, when the page's first bytes are read
pub next_open-settled : (m : Mode) (t : Held) (r : Bool) (n p k : ℕ) (a : Mark) (b : ℕ) → is_settled a ≡ true → (b == newline) ≡ false
    → next_open (st m t r true n p k a) b ≡ put_in m r (st m t r true n p (k + 1) a) b
unfolding next_open put_byte count_byte restart ends_mark mark_after
next_open-settled m t r n p k Absent b h e = rw e refl
next_open-settled m t r n p k Present b h e = rw e refl
next_open-settled m t r n p k _ b h e = cc

grown : (xs ys : List ℕ) (b : ℕ) → xs ++ b ∷ [] ≡ ys → extend (hold xs) (b ∷ []) ≡ hold ys
grown xs ys b e = hold-push xs b ∙ ap hold e

put_plain-at : (a : Mark) (n p k : ℕ) (m : Mode) (r : Bool) (text : List ℕ) (b : ℕ)
    → put_plain (st m (hold text) r true n p k a) b ≡ at a n p (plain_next b) (plain_text text b) k
unfolding put_plain put
put_plain-at a n p k m r text = grind (arith, by_byte, st, hold-push, grown, append-nil)

put_comment-at : (a : Mark) (n p k : ℕ) (m : Mode) (r : Bool) (text : List ℕ) (b : ℕ)
    → put (st m (hold text) r true n p k a) b Comment ≡ at a n p (noted_next b) (noted_text text b) k
unfolding put
put_comment-at a n p k m r text = grind (arith, by_byte, st, grown, append-nil, hold-push)

put_pair-at : (a : Mark) (n p k : ℕ) (text : List ℕ) (b : ℕ)
    → put_pair (st Backslash (hold (text ++ ascii "\\" ∷ [])) false true n p k a) b ≡ at a n p (next slash b) (next_text slash text b) k
unfolding put_pair pair_mode put
put_pair-at a n p k text = grind (arith, by_byte, st, grown, append_assoc, append-nil, hold-pop)

put_in-at : (a : Mark) (n p k : ℕ) (s : Spot) (text : List ℕ) (b : ℕ)
    → put_in (mode_of s) (return_of s) (at a n p s text k) b ≡ at a n p (next s b) (next_text s text b) k
unfolding put_in
put_in-at a n p k plain text b = rw append-nil (put_plain-at a n p k Plain false text b)
put_in-at a n p k returned text b = put_plain-at a n p k Plain true (text ++ carriage_return ∷ []) b
put_in-at a n p k slash text b = put_pair-at a n p k text b
put_in-at a n p k slash_returned text b = put_plain-at a n p k Backslash true (text ++ ascii "\\" ∷ carriage_return ∷ []) b
put_in-at a n p k noted text b = rw append-nil (put_comment-at a n p k Comment false text b)
put_in-at a n p k noted_returned text b = put_comment-at a n p k Comment true (text ++ carriage_return ∷ []) b
put_in-at a n p k dropping text b = refl

-- from spot to spot
pub next_open-at : (a : Mark) (n p k : ℕ) (s : Spot) (text : List ℕ) (b : ℕ) → is_settled a ≡ true → (b == newline) ≡ false
    → next_open (at a n p s text k) b ≡ at a n p (next s b) (next_text s text b) (k + 1)
next_open-at a n p k s text b h e = grind (arith, next_open-settled, put_in-at)

-- ---- What a physical line gives, from each spot of its reading on.

-- the rest of a physical line, read from there
abbrev pub read_at : Spot → List ℕ → Physical
read_at plain y = read y
read_at returned y = read y
read_at slash y = read y
read_at slash_returned y = read y
read_at noted y = record { text = y; joins = false }
read_at noted_returned y = record { text = y; joins = false }
read_at dropping y = record { text = []; joins = true }

-- after a text
abbrev pub upon : List ℕ → Physical → Physical
upon text r = record { text = text ++ r.text; joins = r.joins }

-- an end that is taken off a line, where it is a carriage return
pub record TakesReturn (f : List ℕ → List ℕ) : Type 0 where
  pub more : (x y : ℕ) (zs : List ℕ) → f (x ∷ y ∷ zs) ≡ x ∷ f (y ∷ zs)
  pub other : (x : ℕ) (zs : List ℕ) → (x == carriage_return) ≡ false → f (x ∷ zs) ≡ x ∷ f zs

abbrev pub whole_of : (List ℕ → List ℕ) → Spot → List ℕ → Physical
whole_of f s y = read_at s (f (pending s ++ y))

after_other : (text : List ℕ) (b : ℕ) (r : Physical) → upon text (after_byte b r) ≡ upon (text ++ b ∷ []) r
after_other text b r = rw append_assoc refl

after_two : (text : List ℕ) (b c : ℕ) (r : Physical) → upon text (after_byte b (after_byte c r)) ≡ upon (text ++ b ∷ c ∷ []) r
after_two text b c r = rw append_assoc refl

plain_reading : (f : List ℕ → List ℕ) → TakesReturn f → (text : List ℕ) (b : ℕ) (ys : List ℕ)
    → upon text (read (f (b ∷ ys))) ≡ upon (next_text plain text b) (whole_of f (next plain b) ys)
unfolding read read_pair
plain_reading f t text b ys = grind (arith, by_byte, next_text, plain, next, after_other)

noted_reading : (f : List ℕ → List ℕ) → TakesReturn f → (text : List ℕ) (b : ℕ) (ys : List ℕ)
    → upon text (read_at noted (f (b ∷ ys))) ≡ upon (next_text noted text b) (whole_of f (next noted b) ys)
noted_reading f t text b ys = grind (arith, by_byte, noted, next_text, next, append_assoc)

slash_reading : (f : List ℕ → List ℕ) → TakesReturn f → (text : List ℕ) (b : ℕ) (ys : List ℕ)
    → upon text (whole_of f slash (b ∷ ys)) ≡ upon (next_text slash text b) (whole_of f (next slash b) ys)
unfolding read read_pair
slash_reading f t text b ys = grind (arith, by_byte, slash, next_text, next, after_two, append_assoc)

-- a byte more
pub upon-next : (f : List ℕ → List ℕ) → TakesReturn f → (s : Spot) (text : List ℕ) (b : ℕ) (ys : List ℕ)
    → upon text (whole_of f s (b ∷ ys)) ≡ upon (next_text s text b) (whole_of f (next s b) ys)
unfolding read read_pair
upon-next f t plain text b ys = plain_reading f t text b ys
upon-next f t returned text b ys = grind (arith, after_other, plain_reading)
upon-next f t slash text b ys = slash_reading f t text b ys
upon-next f t slash_returned text b ys = grind (arith, after_two, plain_reading)
upon-next f t noted text b ys = noted_reading f t text b ys
upon-next f t noted_returned text b ys =
    rw (t.more carriage_return b ys)
    (after_other text carriage_return record { text = f (b ∷ ys); joins = false } ∙ noted_reading f t (text ++ carriage_return ∷ []) b ys)
upon-next f t dropping text b ys = refl

-- the line before a line feed loses its carriage return, and the last one doesn't
cond_cons : (c : Bool) (x : ℕ) (ys zs : List ℕ) → cond c (x ∷ ys) (x ∷ zs) ≡ x ∷ cond c ys zs
cond_cons true x ys zs = refl
cond_cons false x ys zs = refl

strip-more : (x y : ℕ) (zs : List ℕ) → strip_carriage_return (x ∷ y ∷ zs) ≡ x ∷ strip_carriage_return (y ∷ zs)
strip-more x y zs = grind (arith, cond_cons, get_or)

strip-other : (x : ℕ) (zs : List ℕ) → (x == carriage_return) ≡ false → strip_carriage_return (x ∷ zs) ≡ x ∷ strip_carriage_return zs
strip-other x [] h = rw h refl
strip-other x (y ∷ zs) h = strip-more x y zs

pub strips : TakesReturn strip_carriage_return
strips = record { more = strip-more; other = strip-other }

pub keeps : TakesReturn (λ l. l)
keeps = record { more = λ x y zs. refl; other = λ x zs h. refl }

-- the line after a line feed: joined to the next physical line, or whole
abbrev pub after_line : Mark → ℕ → ℕ → ℕ → Physical → Open
after_line a n p k r = any (not r.joins) Plain (hold r.text) false r.joins n (p + 1) k a

next_open-newline : (m : Mode) (t : Held) (r : Bool) (n p k : ℕ) (a : Mark) → is_settled a ≡ true
    → next_open (st m t r true n p k a) newline ≡ put_newline (st m t r true n p (k + 1) a)
unfolding next_open put_byte count_byte restart ends_mark mark_after
next_open-newline m t r n p k Absent h = refl
next_open-newline m t r n p k Present h = refl
next_open-newline m t r n p k _ h = cc

popped : (text : List ℕ) (b : ℕ) → shorten (hold (text ++ b ∷ [])) ≡ hold (text ++ [])
popped text b = hold-pop text b ∙ ap hold (sym (append-nil text))

newline-at : (a : Mark) (n p k : ℕ) (s : Spot) (text : List ℕ)
    → put_newline (at a n p s text k) ≡ after_line a n p k (upon text (whole_of strip_carriage_return s []))
unfolding put_newline newline_in without_return close read read_pair
newline-at a n p k plain text = refl
newline-at a n p k returned text = ap (λ h. any true Plain h false false n (p + 1) k a) (popped text carriage_return)
newline-at a n p k slash text = ap (λ h. any false Plain h false true n (p + 1) k a) (popped text (ascii "\\"))
newline-at a n p k slash_returned text =
    ap (λ h. any false Plain (shorten h) false true n (p + 1) k a)
    (ap (λ l. shorten (hold l)) (sym (append_assoc text (ascii "\\" ∷ []) (carriage_return ∷ []))) ∙ hold-pop (text ++ ascii "\\" ∷ []) carriage_return)
    ∙ ap (λ h. any false Plain h false true n (p + 1) k a) (popped text (ascii "\\"))
newline-at a n p k noted text = refl
newline-at a n p k noted_returned text = ap (λ h. any true Plain h false false n (p + 1) k a) (popped text carriage_return)
newline-at a n p k dropping text = refl

-- the end of the page
end_open-at : (a : Mark) (n p k : ℕ) (s : Spot) (text : List ℕ)
    → end_open (at a n p s text k) ≡ any true Plain (hold (upon text (whole_of (λ l. l) s [])).text) false false n p k a
unfolding end_open end_in restart close read read_pair
end_open-at a n p k plain text = refl
end_open-at a n p k returned text = refl
end_open-at a n p k slash text = ap (λ h. any true Plain h false false n p k a) (popped text (ascii "\\"))
end_open-at a n p k slash_returned text = refl
end_open-at a n p k noted text = refl
end_open-at a n p k noted_returned text = refl
end_open-at a n p k dropping text = refl

-- a whole physical line with its line feed
pub open_after-line : (a : Mark) (n p k : ℕ) (s : Spot) (text y : List ℕ) → is_settled a ≡ true → All (λ b. (b == newline) ≡ false) y
    → next_open (open_after (at a n p s text k) y) newline ≡ after_line a n p (k + length y + 1) (upon text (whole_of strip_carriage_return s y))
unfolding open_after
open_after-line a n p k s text [] h e = grind (arith, next_open-newline, mode_of, pending, return_of, newline-at)
open_after-line a n p k s text (b ∷ y) h e =
    let count : k + 1 + length y + 1 ≡ k + suc (length y) + 1 = omega arith in
    ap (λ o. next_open (open_after o y) newline) (next_open-at a n p k s text b h (e 0 0 (omega arith)))
    ∙ open_after-line a n p (k + 1) (next s b) (next_text s text b) y h (λ i d l. e (suc i) d (omega arith))
    ∙ ap (λ j. after_line a n p j (upon (next_text s text b) (whole_of strip_carriage_return (next s b) y))) count
    ∙ ap (λ r. after_line a n p (k + suc (length y) + 1) r) (sym (upon-next strip_carriage_return strips s text b y))

-- a last physical line
pub open_after-end : (a : Mark) (n p k : ℕ) (s : Spot) (text y : List ℕ) → is_settled a ≡ true → All (λ b. (b == newline) ≡ false) y
    → end_open (open_after (at a n p s text k) y) ≡ any true Plain (hold (upon text (whole_of (λ l. l) s y)).text) false false n p (k + length y) a
unfolding open_after
open_after-end a n p k s text [] h e = grind (arith, end_open-at, any)
open_after-end a n p k s text (b ∷ y) h e =
    let count : k + 1 + length y ≡ k + suc (length y) = omega arith in
    ap (λ o. end_open (open_after o y)) (next_open-at a n p k s text b h (e 0 0 (omega arith)))
    ∙ open_after-end a n p (k + 1) (next s b) (next_text s text b) y h (λ i d l. e (suc i) d (omega arith))
    ∙ ap (λ j. any true Plain (hold (upon (next_text s text b) (whole_of (λ l. l) (next s b) y)).text) false false n p j a) count
    ∙ ap (λ (r : Physical). any true Plain (hold r.text) false false n p (k + suc (length y)) a) (sym (upon-next (λ l. l) keeps s text b y))

-- no line is whole within it
pub line-none : (a : Mark) (n p k : ℕ) (s : Spot) (text y : List ℕ) → is_settled a ≡ true → All (λ b. (b == newline) ≡ false) y
    → whole_lines (at a n p s text k) y ≡ []
unfolding whole_lines if_whole
line-none a n p k s text [] h e = refl
line-none a n p k s text (b ∷ y) h e =
    rw (next_open-at a n p k s text b h (e 0 0 (omega arith)))
    (line-none a n p (k + 1) (next s b) (next_text s text b) y h (λ i d l. e (suc i) d (omega arith)))

-- ---- A line of printable bytes after a whole one.

no_return : (b : ℕ) → is_printable b ≡ true → (b == carriage_return) ≡ false
no_return b h = grind (arith, nat_tests)

-- the last byte is no carriage return
last-printable : (b : ℕ) (bs : List ℕ) → list_all is_printable (b ∷ bs) ≡ true → (last_of (b ∷ bs) == carriage_return) ≡ false
last-printable b [] h = no_return b (and_true (is_printable b) true h).0
last-printable b (c ∷ bs) h =
    let place : suc (suc (length bs)) - 1 ≡ suc (suc (length bs) - 1) = omega arith in
    rw place (last-printable c bs (and_true (is_printable b) _ h).1)

line-any : (m : Mode) (t : Held) (r g : Bool) (n p k : ℕ) (a : Mark) (b : ℕ) (bs : List ℕ) → m ≡ Plain → is_settled a ≡ true
    → list_all is_printable (b ∷ bs) ≡ true
    → next_open (with_run (restart (any true m t r g n p k a)) (b ∷ bs)) newline
    ≡ any true Plain (extend nothing_held (b ∷ bs)) false false p (p + 1) (k + (length (b ∷ bs) + 1)) a
unfolding restart run_in
line-any m t r g n p k a b bs e s h = grind (arith, last-printable, newline-st)

line-some : (m : Mode) (t : Held) (r g : Bool) (n p k : ℕ) (a : Mark) (text : List ℕ) → m ≡ Plain → is_settled a ≡ true
    → 0 < length text → list_all is_printable text ≡ true
    → next_open (with_run (restart (any true m t r g n p k a)) text) newline
    ≡ any true Plain (extend nothing_held text) false false p (p + 1) (k + (length text + 1)) a
line-some m t r g n p k a [] e s some h = absurd (omega arith)
line-some m t r g n p k a (b ∷ bs) e s some h = line-any m t r g n p k a b bs e s h

line-of : (w : Bool) (m : Mode) (t : Held) (r g : Bool) (n p k : ℕ) (a : Mark) (text : List ℕ) → w ≡ true → m ≡ Plain → is_settled a ≡ true
    → 0 < length text → list_all is_printable text ≡ true
    → next_open (with_run (restart (any w m t r g n p k a)) text) newline
    ≡ any true Plain (extend nothing_held text) false false p (p + 1) (k + (length text + 1)) a
line-of w m t r g n p k a text whole e s some h = rw whole (line-some m t r g n p k a text e s some h)

-- read at once with its line feed
pub text-line : (o : Open) (text : List ℕ) → o.whole ≡ true → ReadsText o → 0 < length text → IsFine text
    → next_open (open_after o text) newline ≡ any true Plain (extend nothing_held text) false false o.physical (o.physical + 1) (o.consumed + (length text + 1)) o.mark
text-line o text whole reads some fine =
    ap (λ q. next_open q newline) ((fine.text o reads).after some)
    ∙ line-of o.whole o.mode o.text o.after_return o.begun o.number o.physical o.consumed o.mark text whole reads.plain reads.settled some fine.printable
