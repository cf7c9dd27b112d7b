-- The lines that are whole by their definition are those that are given within bytes.
use Rattle.std.proofs.Common.{◌≡◌, ℕ, ◌-◌, Bool, true, false, cond, List, [], ◌∷◌, ◌++◌, length, take, refl, ap, append-nil, length-append, arith}
use Rattle.std.specs.Prelude.{◌==◌, ⊤}
use Rattle.std.proofs.Math.Seq.{take-append_seam, drop-append_seam}
use Rattle.std.proofs.lemmas.Bool.Decides.{eqb_tells}
use Rattle.page_core_base.specs.Bytes.{ascii}
use Rattle.page_core_base.specs.declared.page_settings.Encoding.{Encoding}
use Rattle.page_roff_lines.specs.declared.Mode.{Mode}
use Rattle.page_roff_lines.specs.declared.Mode.TheVariants.{Plain, Backslash, Comment, Dropped}
use Rattle.page_roff_lines.specs.declared.Mark.{Mark}
use Rattle.page_roff_lines.specs.declared.Mark.TheVariants.{Unread, First, Second, Absent, Present}
use Rattle.page_roff_lines.specs.Lines.{letter, whole_lines, lines_made, line_left}
use Rattle.page_roff_lines.specs.machine.Open.{Open, restart, close, count_byte, put, put_plain, put_pair, pair_mode, put_in, newline_in, put_newline, put_byte, ends_mark, mark_after, next_open, end_open}
use Rattle.page_roff_lines.specs.laws.Cutting.{Point, first_point, point_at, next_point, end_point, point_after, line_at, lines_within, last_line}
use Rattle.page_roff_lines.proofs.PointLemmas.{next_open-mark, point_after-append, lines_within-append}
use Rattle.page_roff_lines.proofs.LineAgreement.{lines-one_by_one, next_open-whole}

-- ---- where bytes were read that another byte may take away, a line was begun

abbrev Goes : Mode → Bool → Type 0
Goes Plain begun = ⊤
Goes _ begun = begun ≡ true

-- a byte order mark is looked for before anything else is read
abbrev Early : Mark → Mode → Type 0
Early Absent mode = ⊤
Early Present mode = ⊤
Early _ mode = mode ≡ Plain

begun-goes : (m : Mode) → Goes m true
begun-goes Plain = tt
begun-goes _ = refl

abbrev Steady : Open → Type 0
Steady o = Goes o.mode o.begun × Early o.mark o.mode

abbrev HasBegun : Open → Type 0
HasBegun o = Goes o.mode o.begun

either-begun : (c : Bool) (o p : Open) → HasBegun o → HasBegun p → HasBegun (cond c o p)
either-begun true o p h g = h
either-begun false o p h g = g

put_in-begun : (m : Mode) (r : Bool) (o : Open) (b : ℕ) → Goes m o.begun → HasBegun o → HasBegun (put_in m r o b)
unfolding put_in put_plain put_pair put
put_in-begun Plain r o b h g = begun-goes (put_plain o b).mode
put_in-begun Comment r o b h g = refl
put_in-begun Dropped r o b h g = g
put_in-begun Backslash true o b h g = begun-goes (put_plain o b).mode
put_in-begun Backslash false o b h g = either-begun (b == ascii "#") _ _ h (begun-goes (pair_mode b))

newline_in-begun : (m : Mode) (o : Open) → HasBegun (newline_in m o)
unfolding newline_in close
newline_in-begun Plain o = tt
newline_in-begun _ o = tt

put_byte-begun : (e : Bool) (o : Open) (b : ℕ) → HasBegun o → (e ≡ true → o.mode ≡ Plain) → HasBegun (put_byte e o b)
unfolding put_byte put_newline
put_byte-begun true o b h p = rw (p refl) tt
put_byte-begun false o b h p = grind (arith, either-begun, newline_in-begun, put_in-begun)

ends-plain : (m : Mark) (mode : Mode) (b : ℕ) → Early m mode → ends_mark m b ≡ true → mode ≡ Plain
unfolding ends_mark
ends-plain Absent mode b h e = cc
ends-plain Present mode b h e = cc
ends-plain _ mode b h e = h

put_byte-early : (m : Mark) (o : Open) (b : ℕ) → Early m o.mode → Early (mark_after m b) (put_byte (ends_mark m b) o b).mode
unfolding put_byte put_in put_plain put ends_mark mark_after
put_byte-early Unread o b h = grind (arith, eqb_tells)
put_byte-early First o b h = grind (arith, eqb_tells)
put_byte-early Second o b h = grind (arith, eqb_tells)
put_byte-early _ o b h = tt

-- a byte more, by how much of a mark came before it
next-steady : (m : Mark) (o : Open) (b : ℕ) → HasBegun o → Early m o.mode
    → HasBegun (put_byte (ends_mark m b) (count_byte o b) b) × Early (mark_after m b) (put_byte (ends_mark m b) (count_byte o b) b).mode
unfolding count_byte
next-steady m o b h g = grind (arith, put_byte-begun, ends-plain, put_byte-early)

either-next : (m : Mark) (b : ℕ) (w : Bool) (p o : Open)
    → HasBegun (put_byte (ends_mark m b) (count_byte p b) b) × Early (mark_after m b) (put_byte (ends_mark m b) (count_byte p b) b).mode
    → HasBegun (put_byte (ends_mark m b) (count_byte o b) b) × Early (mark_after m b) (put_byte (ends_mark m b) (count_byte o b) b).mode
    → HasBegun (put_byte (ends_mark m b) (count_byte (cond w p o) b) b) × Early (mark_after m b) (put_byte (ends_mark m b) (count_byte (cond w p o) b) b).mode
either-next m b true p o h g = h
either-next m b false p o h g = g

stepped : (o : Open) (b : ℕ) → Steady o → HasBegun (next_open o b) × Early (mark_after o.mark b) (next_open o b).mode
unfolding next_open restart
stepped o b h = either-next o.mark b o.whole _ o (next-steady o.mark _ b h.0 h.1) (next-steady o.mark o b h.0 h.1)

next_open-steady : (o : Open) (b : ℕ) → Steady o → Steady (next_open o b)
next_open-steady o b h = let s = stepped o b h in (s.0, rw (next_open-mark o b) s.1)

point-steady : (p : Point) (bytes : List ℕ) → Steady p.line → Steady (point_after p bytes).line
unfolding point_after next_point point_at
point-steady p [] h = h
point-steady p (b ∷ bs) h = point-steady (next_point p b) bs (next_open-steady p.line b h)

-- ---- a letter belongs to the line that is open after it

letter-put : (m : Mode) (r : Bool) (o : Open) → Goes m o.begun → (put_in m r o letter).begun ≡ true
unfolding put_in put_plain put_pair put
letter-put Plain r o h = refl
letter-put Comment r o h = refl
letter-put Dropped r o h = h
letter-put Backslash true o h = refl
letter-put Backslash false o h = refl

letter-byte : (m : Mark) (o : Open) → HasBegun o → (put_byte (ends_mark m letter) o letter).begun ≡ true
unfolding put_byte ends_mark
letter-byte Unread o h = letter-put o.mode o.after_return o h
letter-byte _ o h = letter-put o.mode o.after_return o h

letter-either : (m : Mark) (w : Bool) (p o : Open) → HasBegun p → HasBegun o
    → (put_byte (ends_mark m letter) (count_byte (cond w p o) letter) letter).begun ≡ true
unfolding count_byte
letter-either m true p o h g = letter-byte m (count_byte p letter) h
letter-either m false p o h g = letter-byte m (count_byte o letter) g

letter-begun : (o : Open) → HasBegun o → (next_open o letter).begun ≡ true
unfolding next_open restart
letter-begun o h = letter-either o.mark o.whole _ o h h

end-whole : (o : Open) → o.whole ≡ false → o.begun ≡ true → (end_open o).whole ≡ true
unfolding end_open restart close
end-whole o w b = rw (w, b) refl

-- ---- the lines

at-whole : (p : Point) → p.line.whole ≡ true → length (line_at p) ≡ 1
unfolding line_at
at-whole p w = rw w refl

at-open : (p : Point) → p.line.whole ≡ false → line_at p ≡ []
unfolding line_at
at-open p w = rw w refl

none-more : (p : Point) → lines_within p (letter ∷ []) ≡ []
unfolding lines_within next_point point_at
none-more p = ap (λ l. l ++ []) (at-open (next_point p letter) (next_open-whole p.line letter refl))

one-last : (p : Point) → Steady p.line → length (last_line (point_after p (letter ∷ []))) ≡ 1
unfolding point_after next_point point_at end_point
one-last p h = grind (arith, at-whole, end-whole, next_open-whole, letter-begun)

front-is : {X : Type 0} (xs ys : List X) → length ys ≡ 1 → take (length (xs ++ ys) - 1) (xs ++ ys) ≡ xs
front-is xs ys h =
    let n : length (xs ++ ys) - 1 ≡ length xs = omega (arith, length-append xs ys, h) in
    rw n (take-append_seam xs ys)

pub whole-is : (set : Encoding) (bytes : List ℕ) → whole_lines set bytes ≡ lines_within (first_point set) bytes
whole-is set bytes = grind (arith, lines_within-append, none-more, append-nil, lines-one_by_one, point_after-append, front-is, one-last, point-steady)

pub made-is : (set : Encoding) (before own : List ℕ) → lines_made set before own ≡ lines_within (point_after (first_point set) before) own
made-is set before own = grind (arith, whole-is, lines_within-append, drop-append_seam)

pub left-is : (set : Encoding) (bytes : List ℕ) → line_left set bytes ≡ last_line (point_after (first_point set) bytes)
left-is set bytes = grind (arith, whole-is, lines-one_by_one, drop-append_seam)
