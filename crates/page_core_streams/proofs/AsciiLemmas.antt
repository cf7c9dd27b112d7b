-- What a source gave, call by call.
use Rattle.std.proofs.Common.{◌≡◌, ℕ, ◌+◌, ◌-◌, ◌^◌, ◌<◌, List, [], ◌++◌, length, refl, sym, ap, ◌∙◌, append_assoc, append-nil, arith, length-append, inl, inr, Option, Some, None, Bool, true, false, ◌&&◌, nat_lt, take, get_or, bit_or, suc, ◌≢◌, ◌≤◌, ◌==◌, ◌∷◌, drop, replicate, subst, zero, min, rules}
use Rattle.std.specs.Io.KnownBytes.{Consumes}
use Rattle.page_core_streams.specs.Streams.{SourceState, HasGiven, IsLean, IsTooLong, counted, Grows, GrowsInto, cell_bytes_of, printed, row_bytes, RisesIf, marked_bytes}
use Rattle.page_core_streams.specs.laws.Views.{IsBusy, GrowsUpTo, Grows-nil, Grows-append, FailsBy, count_of, state_of}
use Rattle.std.specs.Bool.{MatchBool}
use Rattle.std.specs.List.{list_all, flat_map}
use Rattle.std.proofs.lemmas.List.Folds.{list_all_more, list_all-append}
use Rattle.std.proofs.lemmas.Bool.Decides.{nat_tests}
use Rattle.std.proofs.lemmas.Nat.{or_lt}
use Rattle.page_core_base.specs.declared.cells.Cell.{Cell}
use Rattle.page_core_streams.specs.machine.PlainCells.{is_plain, is_roman}
use Rattle.std.proofs.lemmas.List.{take_more, take-append-drop, replicate-append-replicate, drop-drop, length-take, length-drop, drop_all, length-take-le, take-take}
use Rattle.std.proofs.lemmas.Grind.{flat_map-append}
use Rattle.std.proofs.lemmas.Bool.{eqb-true, cases_Bool, and_parts}
use Rattle.std.proofs.Math.Seq.{take-add, take-append-add}
use Rattle.page_core_base.specs.Rows.{is_blank, is_blank_row, row_of, trimmed, trimmed_before}
use Rattle.page_core_base.specs.Messages.{Rose}
use Rattle.page_core_base.specs.declared.cells.Font.{Font}
use Rattle.page_core_base.specs.declared.cells.Font.TheVariants.{R}
use Rattle.page_core_base.specs.laws.Views.{AreAscii, cells_in, is_ascii}
use Rattle.page_core_base.proofs.RowLemmas.{cells-more}

pub consumes_none : (a : Option (List ℕ)) → Consumes a a []
consumes_none None = tt
consumes_none (Some xs) = refl

pub consumes_more : (a b c : Option (List ℕ)) (xs ys : List ℕ) → Consumes a b xs → Consumes b c ys → Consumes a c (xs ++ ys)
consumes_more None b c xs ys g h = tt
consumes_more (Some us) None c xs ys g h = absurd g
consumes_more (Some us) (Some vs) None xs ys g h = absurd h
consumes_more (Some us) (Some vs) (Some ws) xs ys g h = g ∙ (ap (λ l. xs ++ l) h ∙ sym (append_assoc xs ys ws))

pub counted_none : (n : ℕ) → n ≡ counted n 0
counted_none n = omega arith

pub counted_more : (n a b : ℕ) → counted (counted n a) b ≡ counted n (a + b)
counted_more n a b = omega arith

pub given_none : (s : SourceState) → HasGiven s s 0 []
given_none s = record { read = consumes_none s.remaining; calls = counted_none s.calls; given = counted_none s.given }

pub given_more : {s t u : SourceState} (a b : ℕ) (xs ys : List ℕ) → HasGiven s t a xs → HasGiven t u b ys → HasGiven s u (a + b) (xs ++ ys)
given_more {s} {t} {u} a b xs ys g h = record {
  read = consumes_more s.remaining t.remaining u.remaining xs ys g.read h.read;
  calls = h.calls ∙ (ap (λ n. counted n b) g.calls ∙ counted_more s.calls a b);
  given = h.given ∙ (ap (λ n. counted n (length ys)) g.given ∙ (counted_more s.given (length xs) (length ys)
      ∙ ap (λ n. counted s.given n) (sym (length-append xs ys))));
}

-- no byte more
pub given_end : {s t u : SourceState} (a b : ℕ) (xs : List ℕ) → HasGiven s t a xs → HasGiven t u b [] → HasGiven s u (a + b) xs
given_end {s} {t} {u} a b xs g h = rw append-nil at (given_more a b xs [] g h)

-- ---- each call gave a byte or was empty

pub lean_none : (s : SourceState) → IsLean s s 0 []
lean_none s = record { idle = 0; empty = counted_none s.empty; most = omega arith }

pub busy_more : {s t u : SourceState} (asked count : ℕ) (xs ys : List ℕ) → IsBusy s t asked xs → length ys ≡ count → u.empty ≡ counted t.empty (1 - count)
    → IsBusy s u (asked + 1) (xs ++ ys)
busy_more {s} {t} {u} asked count xs ys b n e = record {
  idle = b.idle + (1 - count);
  empty = e ∙ (ap (λ k. counted k (1 - count)) b.empty ∙ counted_more s.empty b.idle (1 - count));
  most = omega (arith, b.most, n, length-append xs ys);
}

pub busy_lean : {s t : SourceState} (asked : ℕ) (xs : List ℕ) → IsBusy s t asked xs → IsLean s t asked xs
busy_lean asked xs b = record { idle = b.idle; empty = b.empty; most = omega (arith, b.most) }

pub busy_end : {s t u : SourceState} (asked : ℕ) (xs : List ℕ) → IsBusy s t asked xs → u.empty ≡ t.empty → IsLean s u (asked + 1) xs
busy_end asked xs b e = record { idle = b.idle; empty = e ∙ b.empty; most = omega (arith, b.most) }

-- where no call is empty, each gave a byte, but for one
pub lean_long : {s t : SourceState} (asked : ℕ) (bytes : List ℕ) → s.empty ≡ 0 → t.empty ≡ 0 → IsLean s t asked bytes → IsTooLong asked bytes
    → 2 ^ 31 - 1 < length bytes
lean_long asked bytes d e l (inl bound) = omega (arith, bound, l.most, l.empty, d, e)
lean_long asked bytes d e l (inr more) = more

-- ---- How growths of a list follow one another.

pub GrowsUpTo-start : {A : Type 0} (a : Option (List A)) (all : List A) → GrowsUpTo a a all all
GrowsUpTo-start a all = record { done = []; parts = refl; grows = Grows-nil a }

pub GrowsUpTo-more : {A : Type 0} {a b : Option (List A)} {all next : List A} (c : Option (List A)) (part rest : List A)
    → GrowsUpTo a b all next → next ≡ part ++ rest → Grows b c part → GrowsUpTo a c all rest
GrowsUpTo-more {A} {a} {b} {all} {next} c part rest u e g =
    record { done = u.done ++ part; parts = u.parts ∙ (ap (λ l. u.done ++ l) e ∙ sym (append_assoc u.done part rest)); grows = Grows-append a b c u.done part u.grows g }

-- one part, and then a second or a front of it
pub Grows-two : {A : Type 0} (a b c : Option (List A)) (xs ys : List A) → Grows a b xs → GrowsInto b c ys → GrowsInto a c (xs ++ ys)
Grows-two a b c xs ys g h = record {
  done = xs ++ h.done;
  rest = h.rest;
  parts = ap (λ l. xs ++ l) h.parts ∙ sym (append_assoc xs h.done h.rest);
  grows = Grows-append a b c xs h.done g h.grows;
}

-- the front of what is to come flows on
pub GrowsUpTo-flow : {A : Type 0} {a b : Option (List A)} {all next : List A} (c : Option (List A)) (part left rest : List A)
    → GrowsUpTo a b all next → next ≡ part ++ rest → GrowsUpTo b c part left → GrowsUpTo a c all (left ++ rest)
GrowsUpTo-flow {A} {a} {b} {all} {next} c part left rest u e f = record {
  done = u.done ++ f.done;
  parts = u.parts ∙ (ap (λ l. u.done ++ l) (e ∙ (ap (λ l. l ++ rest) f.parts ∙ append_assoc f.done left rest)) ∙ sym (append_assoc u.done f.done (left ++ rest)));
  grows = Grows-append a b c u.done f.done u.grows f.grows;
}

-- a front of the next part comes
pub GrowsUpTo-broken : {A : Type 0} {a b : Option (List A)} {all next : List A} (c : Option (List A)) (part rest : List A)
    → GrowsUpTo a b all next → next ≡ part ++ rest → GrowsInto b c part → GrowsInto a c all
GrowsUpTo-broken {A} {a} {b} {all} {next} c part rest u e w =
    let v : GrowsUpTo a c all (w.rest ++ rest) = GrowsUpTo-more c w.done (w.rest ++ rest) u (e ∙ (ap (λ l. l ++ rest) w.parts ∙ append_assoc w.done w.rest rest)) w.grows in
    record { done = v.done; rest = w.rest ++ rest; parts = v.parts; grows = v.grows }

-- the last part comes, or a front of it
pub GrowsUpTo-last : {A : Type 0} {a b : Option (List A)} {all next : List A} (c : Option (List A)) (part : List A) (r : Bool)
    → GrowsUpTo a b all next → next ≡ part → MatchBool r (Grows b c part) (GrowsInto b c part) → MatchBool r (Grows a c all) (GrowsInto a c all)
GrowsUpTo-last {A} {a} {b} {all} {next} c part true u e g = rw (u.parts ∙ ap (λ l. u.done ++ l) e) (Grows-append a b c u.done part u.grows g)
GrowsUpTo-last {A} {a} {b} {all} {next} c part false u e g = GrowsUpTo-broken c part [] u (e ∙ sym (append-nil part)) g

-- what waited was written, and then a call that writes more
pub sends : {A : Type 0} (a b c : Option (List A)) (before text left : List A) (r : Bool) → Grows a b before → left ≡ []
    → MatchBool r (Grows b c text) (GrowsInto b c text) → MatchBool r (GrowsUpTo a c (before ++ text) left) (GrowsInto a c (before ++ text))
sends a b c before text left true g e h = record { done = before ++ text; parts = rw (e, append-nil) refl; grows = Grows-append a b c before text g h }
sends a b c before text left false g e h = Grows-two a b c before text g h

-- ---- Plain cells one by one, and what is joined of them bit by bit.

pub plain_cell : (cell : Cell) → cell.c < 128 → is_roman cell.font ≡ true → is_plain cell ≡ true
plain_cell cell h r = rw r (grind (arith, nat_tests))

both : (a b : Bool) → (a && b) ≡ true → (a ≡ true) × (b ≡ true)
both true b h = (refl, h)
both false b h = cc

pub plain_parts : (cell : Cell) → is_plain cell ≡ true → (cell.c < 128) × (is_roman cell.font ≡ true)
plain_parts cell h =
    let p = both (nat_lt cell.c 128) (is_roman cell.font) h in
    let few : nat_lt cell.c 128 ≡ true = p.0 in
    (grind (arith, nat_tests), p.1)

-- one more plain cell
pub plain_more : (cells : List Cell) (i : ℕ) (d : Cell) → i < length cells → list_all is_plain (take i cells) ≡ true
    → is_plain (get_or cells i d) ≡ true → list_all is_plain (take (i + 1) cells) ≡ true
plain_more cells i d h all one = rw (list_all_more is_plain cells i d h, all, one) refl

-- the cells but the last one, and it
pub plain_less : (cells : List Cell) (i : ℕ) (d : Cell) → i < length cells → list_all is_plain (take (i + 1) cells) ≡ true
    → (list_all is_plain (take i cells) ≡ true) × (is_plain (get_or cells i d) ≡ true)
plain_less cells i d h all = both (list_all is_plain (take i cells)) (is_plain (get_or cells i d)) (sym (list_all_more is_plain cells i d h) ∙ all)

pub joined_few : (a b : ℕ) → a < 128 → b < 128 → bit_or a b < 128
joined_few a b h k = or_lt 7 a b h k

pub joined_none : (a b : ℕ) → a ≡ 0 → b ≡ 0 → bit_or a b ≡ 0
joined_none a b h k = rw (h, k) refl

-- ---- The blanks at a row's end, and cells one by one.

pub trimmed-blank : (xs : List Cell) (x : Cell) → x.c ≡ 32 → trimmed (xs ++ x ∷ []) ≡ trimmed xs
trimmed-blank [] x h = let t : is_blank x ≡ true = grind (arith, nat_tests) in rw t refl
trimmed-blank (y ∷ ys) x h = ap (trimmed_before y) (trimmed-blank ys x h)

before_last : (y : Cell) (ys : List Cell) (x : Cell) → trimmed_before y (ys ++ x ∷ []) ≡ y ∷ (ys ++ x ∷ [])
before_last y [] x = refl
before_last y (z ∷ zs) x = refl

pub trimmed-full : (xs : List Cell) (x : Cell) → x.c ≢ 32 → trimmed (xs ++ x ∷ []) ≡ xs ++ x ∷ []
trimmed-full [] x h = let t : is_blank x ≡ false = grind (arith, nat_tests) in rw t refl
trimmed-full (y ∷ ys) x h = ap (trimmed_before y) (trimmed-full ys x h) ∙ before_last y ys x

-- a group of blanks
blanks-only : (ys : List Cell) → list_all is_blank ys ≡ true → trimmed ys ≡ []
blanks-only [] blank = refl
blanks-only (y ∷ ys) blank =
    let first : is_blank y ≡ true = grind (arith, blank) in
    let others : list_all is_blank ys ≡ true = grind (arith, blank) in
    rw (blanks-only ys others, first) refl

trimmed-blanks : (xs ys : List Cell) → list_all is_blank ys ≡ true → trimmed (xs ++ ys) ≡ trimmed xs
trimmed-blanks [] ys blank = blanks-only ys blank
trimmed-blanks (x ∷ xs) ys blank = ap (trimmed_before x) (trimmed-blanks xs ys blank)

-- a group of them before a place
pub trimmed-group : (cells : List Cell) (len count : ℕ) → count ≤ len → list_all is_blank (take (len - (len - count)) (drop (len - count) cells)) ≡ true
    → trimmed (take len cells) ≡ trimmed (take (len - count) cells)
trimmed-group cells len count within blank =
    let sum : len ≡ (len - count) + (len - (len - count)) = omega (arith, within) in
    let group = take (len - (len - count)) (drop (len - count) cells) in
    ap (λ n. trimmed (take n cells)) sum
    ∙ (ap trimmed (take-add (len - count) (len - (len - count)) cells) ∙ trimmed-blanks (take (len - count) cells) group blank)

-- the first cells of a row come before the others
pub cells_moved : (front : List ℕ) (cells : List Cell) (n : ℕ)
    → front ++ (flat_map cell_bytes_of cells ++ 10 ∷ []) ≡ (front ++ flat_map cell_bytes_of (take n cells)) ++ (flat_map cell_bytes_of (drop n cells) ++ 10 ∷ [])
cells_moved front cells n =
    let f = flat_map cell_bytes_of (take n cells) in
    let l = flat_map cell_bytes_of (drop n cells) in
    let e : flat_map cell_bytes_of cells ≡ f ++ l = ap (flat_map cell_bytes_of) (sym (take-append-drop n cells)) ∙ flat_map-append cell_bytes_of (take n cells) (drop n cells) in
    ap (λ bytes. front ++ (bytes ++ 10 ∷ [])) e ∙ (ap (λ bytes. front ++ bytes) (append_assoc f l (10 ∷ [])) ∙ sym (append_assoc front f (l ++ 10 ∷ [])))

-- the first blanks of a margin come before the others
pub blanks_moved : (n left : ℕ) → n ≤ left → replicate {A = ℕ} left 32 ≡ replicate {A = ℕ} n 32 ++ replicate {A = ℕ} (left - n) 32
blanks_moved n left h =
    let e : left ≡ n + (left - n) = omega arith in
    ap (λ m. replicate {A = ℕ} m 32) e ∙ sym (replicate-append-replicate n (left - n) 32)

-- the parts of a row that has a cell
pub printed_parts : (margin : ℕ) (cells : List Cell) → (length cells == 0) ≡ false
    → printed margin cells ≡ replicate margin 32 ++ (flat_map cell_bytes_of cells ++ 10 ∷ [])
printed_parts margin [] h = cc
printed_parts margin (x ∷ xs) h = refl

-- the last cell of a front
last_of_front : (cells : List Cell) (n m : ℕ) (d : Cell) → n ≡ m + 1 → m < length cells → take n cells ≡ take m cells ++ get_or cells m d ∷ []
last_of_front cells n m d e h = rw e (take_more cells m d h)

-- a blank at the end more or less
pub trimmed_less : (cells : List Cell) (n : ℕ) (d : Cell) → 0 < n → n ≤ length cells → (get_or cells (n - 1) d).c ≡ 32
    → trimmed (take n cells) ≡ trimmed (take (n - 1) cells)
trimmed_less cells n d p h e =
    let t = last_of_front cells n (n - 1) d (omega arith) (omega arith) in
    rw t (trimmed-blank (take (n - 1) cells) (get_or cells (n - 1) d) e)

pub trimmed_same : (cells : List Cell) (n : ℕ) (d : Cell) → 0 < n → n ≤ length cells → (get_or cells (n - 1) d).c ≢ 32
    → trimmed (take n cells) ≡ take n cells
trimmed_same cells n d p h e =
    let t = last_of_front cells n (n - 1) d (omega arith) (omega arith) in
    rw t (trimmed-full (take (n - 1) cells) (get_or cells (n - 1) d) e)

pub trimmed_nothing : (cells : List Cell) (n : ℕ) → n ≤ 0 → trimmed (take n cells) ≡ take n cells
trimmed_nothing cells n h = let e : n ≡ 0 = omega arith in rw e refl

-- a row of blanks alone is a line feed
no_cells : (cells : List Cell) → (length cells == 0) ≡ true → cells ≡ []
no_cells [] e = refl
no_cells (cell ∷ cells) e = let no : suc (length cells) ≡ 0 = eqb-true (suc (length cells)) 0 e in absurd (omega arith)

pub blank_bytes : (margin : ℕ) (cells : List Cell) → is_blank_row (row_of margin cells) ≡ true → row_bytes (row_of margin cells) ≡ 10 ∷ []
blank_bytes margin cells e = rw (no_cells (trimmed cells) e) refl

-- ---- Counts of failures, one call after another.

pub rises-after : (counts : Bool) (a b c : ℕ) → b ≡ a → RisesIf counts b c → RisesIf counts a c
rises-after true a b c g h = subst (λ (x : ℕ). Rose x c) g h
rises-after false a b c g h = tt

pub fails-after : (counts result : Bool) (a b c : ℕ) → b ≡ a → FailsBy counts result b c → FailsBy counts result a c
fails-after counts true a b c g h = h ∙ g
fails-after counts false a b c g h = rises-after counts a b c g h

-- what counts is what is counted below
pub count_true : (counts : Bool) (below own : ℕ) → counts ≡ true → count_of counts below own ≡ below
count_true true below own e = refl
count_true false below own e = cc

pub state_true : (counts : Bool) (below : SourceState) (f c g e : ℕ) → counts ≡ true → state_of counts below f c g e ≡ below
state_true true below f c g e h = refl
state_true false below f c g e h = cc

-- ---- Characters of ASCII in their fonts, as the cells that they stand for.

-- ---- parts of a row

pub cells-take : (cs : List ℕ) (fonts : List Font) (n : ℕ) → cells_in (take n cs) fonts ≡ take n (cells_in cs fonts)
cells-take cs fonts zero = refl
cells-take [] fonts (suc n) = refl
cells-take (c ∷ cs) [] (suc n) = refl
cells-take (c ∷ cs) (font ∷ fonts) (suc n) = ap (λ cells. record { c = c; font = font } ∷ cells) (cells-take cs fonts n)

pub cells-front : (cs : List ℕ) (fonts : List Font) (n : ℕ) → cells_in (take n cs) (take n fonts) ≡ take n (cells_in cs fonts)
cells-front cs fonts zero = refl
cells-front [] fonts (suc n) = refl
cells-front (c ∷ cs) [] (suc n) = refl
cells-front (c ∷ cs) (font ∷ fonts) (suc n) = ap (λ cells. record { c = c; font = font } ∷ cells) (cells-front cs fonts n)

cells-none : (cs : List ℕ) → cells_in cs [] ≡ []
cells-none [] = refl
cells-none (c ∷ cs) = refl

pub cells-back : (cs : List ℕ) (fonts : List Font) (n : ℕ) → cells_in (drop n cs) (drop n fonts) ≡ drop n (cells_in cs fonts)
cells-back cs fonts zero = refl
cells-back [] fonts (suc n) = refl
cells-back (c ∷ cs) [] (suc n) = cells-none (drop n cs)
cells-back (c ∷ cs) (font ∷ fonts) (suc n) = cells-back cs fonts n

pub cells-count : (cs : List ℕ) (fonts : List Font) → length fonts ≡ length cs → length (cells_in cs fonts) ≡ length cs
cells-count [] fonts sizes = refl
cells-count (c ∷ cs) [] sizes = absurd (omega (arith, sizes))
cells-count (c ∷ cs) (font ∷ fonts) sizes = ap suc (cells-count cs fonts (omega (arith, sizes)))

abbrev pub no_cell : Cell
no_cell = record { c = 0; font = R }

pub cell-at : (cs : List ℕ) (fonts : List Font) (i : ℕ) → length fonts ≡ length cs → (get_or (cells_in cs fonts) i no_cell).c ≡ get_or cs i 0
cell-at [] fonts i sizes = refl
cell-at (c ∷ cs) [] i sizes = absurd (omega (arith, sizes))
cell-at (c ∷ cs) (font ∷ fonts) zero sizes = refl
cell-at (c ∷ cs) (font ∷ fonts) (suc i) sizes = cell-at cs fonts i (omega (arith, sizes))

module _ {X : Type 0} (p : X → Bool) (xs : List X) (n : ℕ) (all : list_all p xs ≡ true) where
  parts : (list_all p (take n xs) && list_all p (drop n xs)) ≡ true
  parts = sym (list_all-append p (take n xs) (drop n xs)) ∙ (ap (list_all p) (take-append-drop n xs) ∙ all)

  pub all-front : list_all p (take n xs) ≡ true
  all-front = (and_parts (list_all p (take n xs)) (list_all p (drop n xs)) parts).0

  pub all-back : list_all p (drop n xs) ≡ true
  all-back = (and_parts (list_all p (take n xs)) (list_all p (drop n xs)) parts).1

module _ (cs : List ℕ) (fonts : List Font) (blank : Bool) (n : ℕ) (are : AreAscii cs fonts blank) where
  pub ascii-front : AreAscii (take n cs) (take n fonts) false
  ascii-front = record {
    sizes = length-take n fonts ∙ (ap (λ m. min n m) are.sizes ∙ sym (length-take n cs));
    ascii = all-front is_ascii cs n are.ascii;
    letters = λ no. cc;
  }

  pub ascii-back : AreAscii (drop n cs) (drop n fonts) false
  ascii-back = record {
    sizes = length-drop n fonts ∙ (ap (λ m. m - n) are.sizes ∙ sym (length-drop n cs));
    ascii = all-back is_ascii cs n are.ascii;
    letters = λ no. cc;
  }

-- ---- fonts

pub roman-more : (fonts : List Font) (i : ℕ) → i < length fonts → list_all is_roman (take i fonts) ≡ true → is_roman (get_or fonts i R) ≡ true
    → list_all is_roman (take (i + 1) fonts) ≡ true
roman-more fonts i within all one = rw (list_all_more is_roman fonts i R within, all, one) refl

pub roman-less : (fonts : List Font) (i : ℕ) → i < length fonts → list_all is_roman (take (i + 1) fonts) ≡ true
    → (list_all is_roman (take i fonts) ≡ true) × (is_roman (get_or fonts i R) ≡ true)
roman-less fonts i within all = and_parts (list_all is_roman (take i fonts)) (is_roman (get_or fonts i R)) (sym (list_all_more is_roman fonts i R within) ∙ all)

-- ---- bytes

marked-roman : (c : ℕ) (font : Font) → c < 128 → is_roman font ≡ true → marked_bytes c font ≡ c ∷ []
unfolding lib.Utf8.encode
marked-roman c R few roman = search (rules, few)
marked-roman c _ few roman = cc

roman-byte : (c : ℕ) (font : Font) → c < 128 → is_roman font ≡ true → cell_bytes_of (record { c = c; font = font }) ≡ c ∷ []
roman-byte c font few roman =
    elim (cases_Bool (c == 32)) [
      | inl blank ↦ rw blank (ap (λ b. b ∷ []) (sym (eqb-true c 32 blank)))
      | inr letter ↦ rw letter (marked-roman c font few roman)
    ]

-- characters in roman are printed as they are
pub roman-bytes : (cs : List ℕ) (fonts : List Font) → length fonts ≡ length cs → list_all is_ascii cs ≡ true → list_all is_roman fonts ≡ true
    → flat_map cell_bytes_of (cells_in cs fonts) ≡ cs
roman-bytes [] fonts sizes ascii roman = refl
roman-bytes (c ∷ cs) [] sizes ascii roman = absurd (omega (arith, sizes))
roman-bytes (c ∷ cs) (font ∷ fonts) sizes ascii roman =
    let a = and_parts (is_ascii c) (list_all is_ascii cs) ascii in
    let r = and_parts (is_roman font) (list_all is_roman fonts) roman in
    let few : c < 128 = grind (arith, nat_tests, a.0) in
    rw (roman-byte c font few r.0, roman-bytes cs fonts (omega (arith, sizes)) a.1 r.1) refl

-- one character more
pub bytes-more : (cs : List ℕ) (fonts : List Font) (i : ℕ) → i < length cs → length fonts ≡ length cs
    → flat_map cell_bytes_of (cells_in (take (i + 1) cs) (take (i + 1) fonts))
    ≡ flat_map cell_bytes_of (cells_in (take i cs) (take i fonts)) ++ cell_bytes_of (record { c = get_or cs i 0; font = get_or fonts i R })
bytes-more cs fonts i within sizes =
    let cell : Cell = record { c = get_or cs i 0; font = get_or fonts i R } in
    let front = cells_in (take i cs) (take i fonts) in
    ap (flat_map cell_bytes_of) (cells-more cs fonts i 0 R within sizes)
    ∙ (flat_map-append cell_bytes_of front (cell ∷ []) ∙ ap (λ bytes. flat_map cell_bytes_of front ++ bytes) (append-nil (cell_bytes_of cell)))

-- a front and what follows it
pub bytes-parts : (cs : List ℕ) (fonts : List Font) (n : ℕ) → flat_map cell_bytes_of (cells_in cs fonts)
    ≡ flat_map cell_bytes_of (cells_in (take n cs) (take n fonts)) ++ flat_map cell_bytes_of (cells_in (drop n cs) (drop n fonts))
bytes-parts cs fonts n =
    let cells = cells_in cs fonts in
    rw (cells-front cs fonts n, cells-back cs fonts n)
    (ap (flat_map cell_bytes_of) (sym (take-append-drop n cells)) ∙ flat_map-append cell_bytes_of (take n cells) (drop n cells))

-- a front, and as much of what follows it as makes a longer one
pub bytes-next : (cs : List ℕ) (fonts : List Font) (i n : ℕ) → flat_map cell_bytes_of (cells_in (take (i + n) cs) (take (i + n) fonts))
    ≡ flat_map cell_bytes_of (cells_in (take i cs) (take i fonts)) ++ flat_map cell_bytes_of (cells_in (take n (drop i cs)) (take n (drop i fonts)))
bytes-next cs fonts i n =
    let cells = cells_in cs fonts in
    rw (cells-front cs fonts (i + n), cells-front cs fonts i, cells-front (drop i cs) (drop i fonts) n, cells-back cs fonts i)
    (ap (flat_map cell_bytes_of) (take-add i n cells) ∙ flat_map-append cell_bytes_of (take i cells) (take n (drop i cells)))

-- the first characters come before the others
pub text-front : (front cs : List ℕ) (fonts : List Font) (n : ℕ)
    → front ++ (flat_map cell_bytes_of (cells_in cs fonts) ++ 10 ∷ [])
    ≡ (front ++ flat_map cell_bytes_of (cells_in (take n cs) (take n fonts))) ++ (flat_map cell_bytes_of (cells_in (drop n cs) (drop n fonts)) ++ 10 ∷ [])
text-front front cs fonts n =
    let f = flat_map cell_bytes_of (cells_in (take n cs) (take n fonts)) in
    let l = flat_map cell_bytes_of (cells_in (drop n cs) (drop n fonts)) in
    ap (λ bytes. front ++ (bytes ++ 10 ∷ [])) (bytes-parts cs fonts n)
    ∙ (ap (λ bytes. front ++ bytes) (append_assoc f l (10 ∷ [])) ∙ sym (append_assoc front f (l ++ 10 ∷ [])))

-- the same of those from a place on
pub text-moved : (front cs : List ℕ) (fonts : List Font) (i n : ℕ)
    → front ++ (flat_map cell_bytes_of (cells_in (drop i cs) (drop i fonts)) ++ 10 ∷ [])
    ≡ (front ++ flat_map cell_bytes_of (cells_in (take n (drop i cs)) (take n (drop i fonts))))
    ++ (flat_map cell_bytes_of (cells_in (drop (i + n) cs) (drop (i + n) fonts)) ++ 10 ∷ [])
text-moved front cs fonts i n = rw (sym (drop-drop n i cs), sym (drop-drop n i fonts)) (text-front front (drop i cs) (drop i fonts) n)

-- the parts of a row that has a character
pub text-printed : (margin : ℕ) (cs : List ℕ) (fonts : List Font) → length fonts ≡ length cs → (length cs == 0) ≡ false
    → printed margin (cells_in cs fonts) ≡ replicate margin 32 ++ (flat_map cell_bytes_of (cells_in cs fonts) ++ 10 ∷ [])
text-printed margin cs fonts sizes some = printed_parts margin (cells_in cs fonts) (ap (λ n. n == 0) (cells-count cs fonts sizes) ∙ some)

-- ---- blanks at the end

abbrev pub is_space : ℕ → Bool
is_space c = c == 32

blank-cells : (cs : List ℕ) (fonts : List Font) → list_all is_space cs ≡ true → list_all is_blank (cells_in cs fonts) ≡ true
blank-cells [] fonts all = refl
blank-cells (c ∷ cs) [] all = refl
blank-cells (c ∷ cs) (font ∷ fonts) all =
    let a = and_parts (is_space c) (list_all is_space cs) all in
    rw (a.0, blank-cells cs fonts a.1) refl

-- a group of them before a place
pub text-group : (text : List ℕ) (fonts : List Font) (len count : ℕ) → count ≤ len → list_all is_space (take (len - (len - count)) (drop (len - count) text)) ≡ true
    → trimmed (cells_in (take len text) fonts) ≡ trimmed (cells_in (take (len - count) text) fonts)
text-group text fonts len count within blank =
    let start = len - count in
    let group : cells_in (take (len - start) (drop start text)) (drop start fonts) ≡ take (len - start) (drop start (cells_in text fonts)) =
    cells-take (drop start text) (drop start fonts) (len - start) ∙ ap (take (len - start)) (cells-back text fonts start) in
    rw (cells-take text fonts len, cells-take text fonts start)
    (trimmed-group (cells_in text fonts) len count within
    (sym (ap (list_all is_blank) group) ∙ blank-cells (take (len - start) (drop start text)) (drop start fonts) blank))

module _ (text : List ℕ) (fonts : List Font) (sizes : length fonts ≡ length text) (n : ℕ) (some : 0 < n) (within : n ≤ length text) where
  reach : n ≤ length (cells_in text fonts)
  reach = omega (arith, within, cells-count text fonts sizes)

  -- one of them before a place
  pub text-less : get_or text (n - 1) 0 ≡ 32 → trimmed (cells_in (take n text) fonts) ≡ trimmed (cells_in (take (n - 1) text) fonts)
  text-less blank = rw (cells-take text fonts n, cells-take text fonts (n - 1)) (trimmed_less (cells_in text fonts) n no_cell some reach (cell-at text fonts (n - 1) sizes ∙ blank))

  -- none
  pub text-same : get_or text (n - 1) 0 ≢ 32 → trimmed (cells_in (take n text) fonts) ≡ cells_in (take n text) (take n fonts)
  text-same letter =
      rw (cells-take text fonts n, cells-front text fonts n)
      (trimmed_same (cells_in text fonts) n no_cell some reach (λ blank. letter (sym (cell-at text fonts (n - 1) sizes) ∙ blank)))

-- ---- Rows of which a group of characters is written at a time.

-- a whole group was written, of which the first characters count
group-front : (old new text : List ℕ) (start count : ℕ) → start ≤ length old → count ≤ length text → take (start + length text) new ≡ take start old ++ text
    → take (start + count) new ≡ take start old ++ take count text
group-front old new text start count room within e =
    let front = take start old in
    let size : length front ≡ start = length-take-le start old room in
    sym (take-take (start + count) (start + length text) new (omega (arith, within)))
    ∙ ap (take (start + count)) e
    ∙ ap (λ (k : ℕ). take (k + count) (front ++ text)) (sym size)
    ∙ take-append-add front text count

-- the first characters of a group in roman, of which all were written
pub roman-front : (old new text : List ℕ) (fonts : List Font) (start count group : ℕ) → AreAscii text fonts false → list_all is_roman (take group fonts) ≡ true
    → start ≤ length old → count ≤ group → group ≤ length text → take (start + group) new ≡ take start old ++ take group text
    → take (start + count) new ≡ take start old ++ flat_map cell_bytes_of (cells_in (take count text) (take count fonts))
roman-front old new text fonts start count group are roman room within long e =
    let size : length (take group text) ≡ group = length-take-le group text long in
    let part = ascii-front text fonts _ count are in
    let romans = rw (take-take count group fonts within) at (all-front is_roman (take group fonts) count roman) in
    let same = roman-bytes (take count text) (take count fonts) part.sizes part.ascii romans in
    group-front old new (take group text) start count room (omega (arith, within, size)) (ap (λ (k : ℕ). take (start + k) new) size ∙ e)
    ∙ ap (λ bytes. take start old ++ bytes) (take-take count group text within ∙ sym same)

-- the characters of a part in roman are printed as they are
pub roman-part : (cs : List ℕ) (fonts : List Font) (n : ℕ) → AreAscii cs fonts false → list_all is_roman (take n fonts) ≡ true
    → flat_map cell_bytes_of (cells_in (take n cs) (take n fonts)) ≡ take n cs
roman-part cs fonts n are roman =
    let part = ascii-front cs fonts _ n are in
    roman-bytes (take n cs) (take n fonts) part.sizes part.ascii roman

-- a part comes after what was written
pub part-more : (front before after : List ℕ) (cs : List ℕ) (fonts : List Font) (i n : ℕ)
    → before ≡ front ++ flat_map cell_bytes_of (cells_in (take i cs) (take i fonts))
    → after ≡ before ++ flat_map cell_bytes_of (cells_in (take n (drop i cs)) (take n (drop i fonts)))
    → after ≡ front ++ flat_map cell_bytes_of (cells_in (take (i + n) cs) (take (i + n) fonts))
part-more front before after cs fonts i n first second =
    let f = flat_map cell_bytes_of (cells_in (take i cs) (take i fonts)) in
    let p = flat_map cell_bytes_of (cells_in (take n (drop i cs)) (take n (drop i fonts))) in
    second ∙ (ap (λ bytes. bytes ++ p) first ∙ (append_assoc front f p ∙ ap (λ bytes. front ++ bytes) (sym (bytes-next cs fonts i n))))

-- no character is left
pub text-done : (front cs : List ℕ) (fonts : List Font) (i : ℕ) → length cs ≤ i
    → front ++ (flat_map cell_bytes_of (cells_in (drop i cs) (drop i fonts)) ++ 10 ∷ []) ≡ front ++ 10 ∷ []
text-done front cs fonts i over = rw (drop_all i cs over) refl
