-- A backslash and the byte that stays with it do to the open line what a run of both does.
use Rattle.std.proofs.Common.{◌≡◌, ℕ, ◌+◌, Bool, true, false, not, ◌&&◌, List, [], ◌∷◌, take, get_or, refl, ap, arith, ◌-◌, ◌<◌, ◌≤◌, ◌++◌, length, drop, slice_index, ◌⊎◌, inl, inr, ◌∙◌, append-nil, length-append}
use Rattle.std.specs.Prelude.{◌==◌, nat_lt, ◌||◌}
use Rattle.std.proofs.lemmas.Bool.{eqb-true}
use Rattle.page_core_base.specs.Bytes.{ascii}
use Rattle.page_roff_decoding.specs.Decoding.{is_printable, line_limit, limit_notes}
use Rattle.page_roff_lines.specs.declared.Mode.{Mode}
use Rattle.page_roff_lines.specs.declared.Mode.TheVariants.{Plain, Backslash, Comment, Dropped}
use Rattle.page_roff_lines.specs.declared.Mark.{Mark}
use Rattle.page_roff_lines.specs.declared.Mark.TheVariants.{Absent, Present}
use Rattle.page_roff_lines.specs.laws.Views.{newline, carriage_return}
use Rattle.page_roff_lines.specs.machine.Open.{Held, extend, nothing_held, Open, restart, next_open, put_byte, put_in, put_plain, put_pair, pair_mode, put, count_byte, ends_mark, mark_after, if_whole, whole_lines, open_after, BeginsPair, ReadsText, is_settled, run_in, stays, with_run, IsRead, IsText, ends_run}
use Rattle.page_roff_lines.proofs.RunLemmas.{any, extend-extend, open_after-restart, st, whole_lines-restart, IsRun, last_of, open_after-run, whole_lines-run}
use Rattle.std.specs.List.{list_all}
use Rattle.std.proofs.Math.Seq.{take-add}
use Rattle.std.proofs.lemmas.List.{get_or-append-add, get_or-take, length-drop, length-take-le}
use Rattle.page_roff_decoding.proofs.ScanLemmas.{rest_of, all-append, and_true}
use Rattle.page_roff_lines.proofs.PointLemmas.{open_after-append, whole_lines-append}
use Rattle.std.proofs.lemmas.Bool.Decides.{nat_tests}
use Rattle.page_core_base.specs.declared.page_settings.Encoding.{Encoding}
use Rattle.page_roff_decoding.proofs.SequenceLemmas.{singles, characters-plain, characters_within-singles, all_bytes-singles, bad_notes-singles}
use Rattle.page_roff_lines.specs.Lines.{KeptLine, decode_line}

-- what a byte is not that stays with a backslash
record Stays (b : ℕ) : Type 0 where
  no_newline : (b == newline) ≡ false
  no_return : (b == carriage_return) ≡ false
  no_quote : (b == ascii "\"") ≡ false
  no_hash : (b == ascii "#") ≡ false

both : (a b : Bool) → (a && b) ≡ true → (a ≡ true) × (b ≡ true)
both true b h = (refl, h)
both false b h = let no : ⊥ = cc in absurd no

not_so : (a : Bool) → not a ≡ true → a ≡ false
not_so true h = let no : ⊥ = cc in absurd no
not_so false h = refl

stays_is : (b : ℕ) → stays b ≡ true → Stays b
stays_is b h =
    let p = both (is_printable b) (not (b == ascii "\"") && not (b == ascii "#")) h in
    let q = both (not (b == ascii "\"")) (not (b == ascii "#")) p.1 in
    record {
      no_newline = unprintable b newline refl p.0;
      no_return = unprintable b carriage_return refl p.0;
      no_quote = not_so (b == ascii "\"") q.0;
      no_hash = not_so (b == ascii "#") q.1;
    }
  where
    is_if : (c : Bool) (b n : ℕ) → (b == n) ≡ c → is_printable n ≡ false → is_printable b ≡ true → c ≡ false
    is_if false b n e f h = refl
    is_if true b n e f h = let is = eqb-true b n e in let no : ⊥ = cc in absurd no

    unprintable : (b n : ℕ) → is_printable n ≡ false → is_printable b ≡ true → (b == n) ≡ false
    unprintable b n f h = is_if (b == n) b n refl f h

-- the backslash
escape_byte : (t : Held) (r g : Bool) (n p k : ℕ) (a : Mark) → is_settled a ≡ true
    → next_open (st Plain t r g n p k a) (ascii "\\") ≡ st Backslash (extend t (ascii "\\" ∷ [])) false true n p (k + 1) a
unfolding next_open put_byte put_in put_plain put count_byte restart ends_mark mark_after
escape_byte t r g n p k Absent h = refl
escape_byte t r g n p k Present h = refl
escape_byte t r g n p k _ h = cc

-- the byte after it
letter_byte : (t : Held) (g : Bool) (n p k : ℕ) (a : Mark) (b : ℕ) → is_settled a ≡ true → Stays b
    → next_open (st Backslash t false g n p k a) b ≡ st Plain (extend t (b ∷ [])) false true n p (k + 1) a
unfolding next_open put_byte put_in put_pair pair_mode put count_byte restart ends_mark mark_after
letter_byte t g n p k Absent b h s = rw (s.no_newline, s.no_hash, s.no_quote, s.no_return) refl
letter_byte t g n p k Present b h s = rw (s.no_newline, s.no_hash, s.no_quote, s.no_return) refl
letter_byte t g n p k _ b h s = cc

pair-open_after : (t : Held) (r g : Bool) (n p k : ℕ) (a : Mark) (b : ℕ) → is_settled a ≡ true → Stays b
    → open_after (st Plain t r g n p k a) (ascii "\\" ∷ b ∷ []) ≡ with_run (st Plain t r g n p k a) (ascii "\\" ∷ b ∷ [])
unfolding open_after run_in
pair-open_after t r g n p k a b h s = grind (arith, escape_byte, letter_byte, extend-extend)

pair-none : (t : Held) (r g : Bool) (n p k : ℕ) (a : Mark) (b : ℕ) → is_settled a ≡ true → Stays b
    → whole_lines (st Plain t r g n p k a) (ascii "\\" ∷ b ∷ []) ≡ []
unfolding whole_lines if_whole
pair-none t r g n p k a b h s = grind (arith, escape_byte, letter_byte)

any-open_after : (w : Bool) (m : Mode) (t : Held) (r g : Bool) (n p k : ℕ) (a : Mark) (b : ℕ) → m ≡ Plain → is_settled a ≡ true → Stays b
    → open_after (any w m t r g n p k a) (ascii "\\" ∷ b ∷ []) ≡ with_run (restart (any w m t r g n p k a)) (ascii "\\" ∷ b ∷ [])
unfolding restart
any-open_after false m t r g n p k a b e h s = rw e (pair-open_after t r g n p k a b h s)
any-open_after true m t r g n p k a b e h s = grind (arith, open_after-restart, pair-open_after)

any-none : (w : Bool) (m : Mode) (t : Held) (r g : Bool) (n p k : ℕ) (a : Mark) (b : ℕ) → m ≡ Plain → is_settled a ≡ true → Stays b
    → whole_lines (any w m t r g n p k a) (ascii "\\" ∷ b ∷ []) ≡ []
unfolding restart
any-none false m t r g n p k a b e h s = rw e (pair-none t r g n p k a b h s)
any-none true m t r g n p k a b e h s = grind (arith, whole_lines-restart, pair-none)

-- the first two of some bytes
pub front_two : (bytes : List ℕ) → BeginsPair bytes → take 2 bytes ≡ ascii "\\" ∷ get_or bytes 1 0 ∷ []
front_two [] h = absurd (omega (arith, h.long))
front_two (b ∷ []) h = absurd (omega (arith, h.long))
front_two (b ∷ c ∷ bs) h = ap (λ x. x ∷ c ∷ []) h.escapes

pub open_after-pair : (o : Open) (bytes : List ℕ) → ReadsText o → BeginsPair bytes → open_after o (take 2 bytes) ≡ with_run (restart o) (take 2 bytes)
open_after-pair o bytes t h =
    rw (front_two bytes h)
    (any-open_after o.whole o.mode o.text o.after_return o.begun o.number o.physical o.consumed o.mark (get_or bytes 1 0) t.plain t.settled (stays_is (get_or bytes 1 0) h.stays))

pub whole_lines-pair : (o : Open) (bytes : List ℕ) → ReadsText o → BeginsPair bytes → whole_lines o (take 2 bytes) ≡ []
whole_lines-pair o bytes t h =
    rw (front_two bytes h)
    (any-none o.whole o.mode o.text o.after_return o.begun o.number o.physical o.consumed o.mark (get_or bytes 1 0) t.plain t.settled (stays_is (get_or bytes 1 0) h.stays))

-- ---- Runs and pairs, one after another, are read at once as one of them is.

pub run-read : (o : Open) (run : List ℕ) → IsRun o run → IsRead o run
run-read o run is = record { after = λ some. open_after-run o run some is; none = whole_lines-run o run is }

pub none-read : (o : Open) → IsRead o []
unfolding whole_lines
none-read o = record { after = λ some. absurd (omega arith); none = refl }

pub text-run : (bytes : List ℕ) → ((k : ℕ) → k < length bytes → ends_run Plain (slice_index bytes k) ≡ false) → IsText bytes
text-run bytes h = λ o t. run-read o bytes record { settled = t.settled; bytes = λ k l. rw t.plain (h k l) }

pub text-pair : (bytes : List ℕ) → BeginsPair bytes → IsText (take 2 bytes)
text-pair bytes h = λ o t. record { after = λ _. open_after-pair o bytes t h; none = whole_lines-pair o bytes t h }

last-append : (xs ys : List ℕ) → 0 < length ys → last_of (xs ++ ys) ≡ last_of ys
last-append xs ys some = grind (arith, length-append, get_or-append-add)

-- one after the other, at a line that is not whole
twice-st : (t : Held) (r g : Bool) (n p k : ℕ) (a : Mark) (xs ys : List ℕ) → 0 < length ys
    → with_run (with_run (st Plain t r g n p k a) xs) ys ≡ with_run (st Plain t r g n p k a) (xs ++ ys)
unfolding run_in
twice-st t r g n p k a xs ys some = grind (arith, length-append, extend-extend, last-append)

append-st : (t : Held) (r g : Bool) (n p k : ℕ) (a : Mark) → is_settled a ≡ true → (xs ys : List ℕ) → IsText xs → IsText ys
    → IsRead (st Plain t r g n p k a) (xs ++ ys)
unfolding restart run_in
append-st t r g n p k a s [] ys f h = h (st Plain t r g n p k a) record { settled = s; plain = refl }
append-st t r g n p k a s (x ∷ xs) [] f h = rw (append-nil xs) (f (st Plain t r g n p k a) record { settled = s; plain = refl })
append-st t r g n p k a s (x ∷ xs) (y ∷ ys) f h =
    let o = st Plain t r g n p k a in
    let u = with_run o (x ∷ xs) in
    let above = f o record { settled = s; plain = refl } in
    let below = h u record { settled = s; plain = refl } in
    let first : open_after o (x ∷ xs) ≡ u = above.after (omega arith) in
    record {
      after = λ _. open_after-append o (x ∷ xs) (y ∷ ys) ∙ ap (λ q. open_after q (y ∷ ys)) first ∙ below.after (omega arith)
          ∙ twice-st t r g n p k a (x ∷ xs) (y ∷ ys) (omega arith);
      none = whole_lines-append o (x ∷ xs) (y ∷ ys) ∙ rw (above.none, first) below.none;
    }

-- the line after a whole one begins with the first byte
restart-read : (w : Bool) (m : Mode) (t : Held) (r g : Bool) (n p k : ℕ) (a : Mark) (bytes : List ℕ)
    → IsRead (restart (any w m t r g n p k a)) bytes → IsRead (any w m t r g n p k a) bytes
unfolding restart
restart-read false m t r g n p k a bytes h = h
restart-read true m t r g n p k a [] h = none-read (any true m t r g n p k a)
restart-read true m t r g n p k a (b ∷ bs) h =
    record {
      after = λ some. open_after-restart true m t r g n p k a b bs ∙ h.after some;
      none = whole_lines-restart true m t r g n p k a (b ∷ bs) ∙ h.none;
    }

any-append : (w : Bool) (m : Mode) (t : Held) (r g : Bool) (n p k : ℕ) (a : Mark) → m ≡ Plain → is_settled a ≡ true
    → (xs ys : List ℕ) → IsText xs → IsText ys → IsRead (any w m t r g n p k a) (xs ++ ys)
unfolding restart
any-append false m t r g n p k a e s xs ys f h = rw e (append-st t r g n p k a s xs ys f h)
any-append true m t r g n p k a e s xs ys f h =
    restart-read true m t r g n p k a (xs ++ ys) (rw e (append-st nothing_held r g p p k a s xs ys f h))

text-append : (xs ys : List ℕ) → IsText xs → IsText ys → IsText (xs ++ ys)
text-append xs ys f h = λ o t.
    any-append o.whole o.mode o.text o.after_return o.begun o.number o.physical o.consumed o.mark t.plain t.settled xs ys f h

-- text to a place of a chunk, and what is read after it
pub text-more : (xs : List ℕ) (i n : ℕ) → IsText (take i xs) → IsText (take n (drop i xs)) → IsText (take (i + n) xs)
text-more xs i n f h = rw (take-add i n xs) (text-append (take i xs) (take n (drop i xs)) f h)

-- the front of a run
pub run-front : (ys : List ℕ) (n : ℕ) → n ≤ length ys → ((k : ℕ) → k < n → ends_run Plain (slice_index ys k) ≡ false) → IsText (take n ys)
run-front ys n le h =
    let len = length-take-le n ys le in
    text-run (take n ys) (λ k l. rw (get_or-take n ys k 0 (omega (arith, l, len))) (h k (omega (arith, l, len))))

-- a pair more, and the run after it
pub pair-more : (xs : List ℕ) (i n : ℕ) → i ≤ length xs → IsText (take i xs) → BeginsPair (take (length xs - i) (drop i xs))
    → n ≤ length (take (length xs - (i + 2)) (drop (i + 2) xs))
    → ((k : ℕ) → k < n → ends_run Plain (slice_index (take (length xs - (i + 2)) (drop (i + 2) xs)) k) ≡ false)
    → (i + 2 + n ≤ length xs) × IsText (take (i + 2 + n) xs)
pair-more xs i n le f pair within run =
    let room = rw (rest_of xs (i + 2)) at within in
    let pair_at = rw (rest_of xs i) at pair in
    let long : i + 2 ≤ length xs = omega (arith, pair_at.long, length-drop i xs) in (
      omega (arith, room, length-drop (i + 2) xs, long),
      text-more xs (i + 2) n (text-more xs i 2 f (text-pair (drop i xs) pair_at))
          (run-front (drop (i + 2) xs) n room (rw (rest_of xs (i + 2)) at run)),
    )

pub pair-printable : (bytes : List ℕ) → BeginsPair bytes → list_all is_printable (take 2 bytes) ≡ true
pair-printable bytes h = grind (arith, get_or, and_true, front_two)

pub printable-more : (xs : List ℕ) (i n : ℕ) → list_all is_printable (take i xs) ≡ true → BeginsPair (take (length xs - i) (drop i xs))
    → list_all is_printable (take n (take (length xs - (i + 2)) (drop (i + 2) xs))) ≡ true
    → list_all is_printable (take (i + 2 + n) xs) ≡ true
printable-more xs i n above pair below = grind (arith, rest_of, take-add, all-append, pair-printable)

-- what comes before a line feed, in a comment or after one that drops its line feed
pub comment-read : (o : Open) (ys : List ℕ) (n : ℕ) → is_settled o.mark ≡ true → (o.mode ≡ Comment) ⊎ (o.mode ≡ Dropped) → n ≤ length ys
    → ((k : ℕ) → k < n → ends_run Comment (slice_index ys k) ≡ false) → IsRead o (take n ys)
comment-read o ys n s mode le h =
    let len = length-take-le n ys le in
    run-read o (take n ys) record {
      settled = s;
      bytes = λ k l.
          let same = get_or-take n ys k 0 (omega (arith, l, len)) in
          elim mode [
            | inl e ↦ rw (e, same) (h k (omega (arith, l, len)))
            | inr e ↦ rw (e, same) (h k (omega (arith, l, len)))
          ];
    }

-- ---- A line of printable bytes is decoded to itself.

below_itself : (n : ℕ) → nat_lt n n ≡ false
below_itself n = grind (arith, nat_tests)

or_false : (c : Bool) → (c || false) ≡ c
or_false true = refl
or_false false = refl

pub decode_line-plain : (e : Encoding) (k : KeptLine) → list_all is_printable k.text ≡ true → length k.text ≤ line_limit
    → ((decode_line e k).text ≡ k.text) × ((decode_line e k).notes ≡ limit_notes k.cut k.number)
unfolding decode_line
decode_line-plain e k plain short =
    grind (arith, characters-plain, characters_within-singles, all_bytes-singles, below_itself, singles, or_false, bad_notes-singles, append-nil)
