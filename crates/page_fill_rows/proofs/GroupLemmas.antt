-- Where the letters after the last blank begin.
use Rattle.std.proofs.Common.{◌≡◌, ℕ, ◌+◌, ◌-◌, ◌<◌, ◌≤◌, true, false, ◌==◌, List, [], ◌∷◌, ◌++◌, length, get_or, replicate, take, refl, arith, zero, suc, ◌*◌, ◌/◌, ◌%◌, ◌^◌, Bool, not, bit_and, cond, eqb, map, drop, if◌then◌else◌, sym, ap, ◌∙◌, Option, None, Some, is_some, Result, Ok, Err, MatchOption, MatchResult, append-nil}
use Rattle.std.proofs.lemmas.Bool.Decides.{nat_tests}
use Rattle.std.proofs.lemmas.List.{length-append, length-replicate, length-take-le, take_more, length-map, take-append-drop, take-map, take-take}
use Rattle.page_core_base.specs.declared.cells.Cell.{Cell}
use Rattle.page_core_base.specs.declared.cells.Font.{Font}
use Rattle.page_core_base.specs.laws.Views.{cells_in, is_printable_ascii, Gets, FailsAs, FailsBySink, Gives, IsSink}
use Rattle.page_core_base.specs.declared.limits.TheConstants.{CELLS}
use Rattle.page_fill_rows.specs.declared.TheConstants.{TAG_COLUMNS}
use Rattle.page_fill_rows.specs.machine.RowPlans.{IsSound, Going, Planned, Left, Seen, Stopped}
use Rattle.page_fill_rows.specs.machine.Plain.{word_start, word_end}
use Rattle.page_fill_cells.specs.Cells.{blank}
use Rattle.page_fill_rows.proofs.PlainLemmas.{in-plain, sound-cells, sound-spaces}
use Rattle.page_fill_cells.proofs.PlaceLemmas.{in-length}
use Rattle.std.specs.Int.Count.{leading_of_zero}
use Rattle.std.proofs.Math.Seq.{take-append-add}
use Rattle.std.proofs.lemmas.List.Folds.{prefix_len-append}
use Rattle.std.proofs.lemmas.Nat.{and_mask, leading_le, mod-pow-add, one_shl}
use Rattle.std.proofs.lemmas.Simd.{chunk-drop, length-chunk, mask_l-mod}
use Rattle.std.proofs.lemmas.Grind.{common_steps}
use lib.Count.{count_leading_zeros}
use lib.Lanes.{chunk, mask_l}
use Rattle.std.specs.Borrow.{GName}
use Rattle.std.specs.Result.{result_err}
use Rattle.page_core_base.specs.Rows.{Laid, LaidRow}
use Rattle.page_core_base.proofs.LatchLemmas.{UpTo-more}
use Rattle.page_core_base.specs.declared.faults.Fault.{Fault}
use Rattle.page_core_base.specs.declared.faults.Fault.TheVariants.{WriteText, WriteNotes}
use Rattle.page_core_base.specs.Messages.{Message}

pub start-append : (front back : List ℕ) → (word_start back == 0) ≡ false → word_start (front ++ back) ≡ length front + word_start back
unfolding word_start
start-append [] back some = omega arith
start-append (b ∷ front) back some = grind (arith, start-append front back some)

pub start-none : (front back : List ℕ) → word_start back ≡ 0 → word_start (front ++ back) ≡ word_start front
unfolding word_start
start-none [] back none = none
start-none (b ∷ front) back none = rw (start-none front back none) refl

-- the bytes up to a place end with a byte
last-byte : (bytes : List ℕ) (end : ℕ) → 0 < end → end ≤ length bytes → take end bytes ≡ take (end - 1) bytes ++ get_or bytes (end - 1) 0 ∷ []
last-byte bytes end some within = grind (arith, take_more)

blank-last : (b : ℕ) → b ≡ 32 → word_start (b ∷ []) ≡ 1
unfolding word_start
blank-last b is = rw is refl

letter-last : (b : ℕ) → (b == 32) ≡ false → word_start (b ∷ []) ≡ 0
unfolding word_start
letter-last b other = rw other refl

-- a blank is before a place
pub start-at-blank : (bytes : List ℕ) (end : ℕ) → 0 < end → end ≤ length bytes → get_or bytes (end - 1) 0 ≡ 32 → word_start (take end bytes) ≡ end
start-at-blank bytes end some within is = grind (arith, blank-last, length-take-le, last-byte, start-append)

-- a letter is before a place
pub start-at-letter : (bytes : List ℕ) (end : ℕ) → 0 < end → end ≤ length bytes → (get_or bytes (end - 1) 0 == 32) ≡ false
    → word_start (take end bytes) ≡ word_start (take (end - 1) bytes)
start-at-letter bytes end some within other = grind (arith, last-byte, start-none, letter-last)

pub start-within : (bytes : List ℕ) → word_start bytes ≤ length bytes
unfolding word_start
start-within [] = omega arith
start-within (b ∷ bytes) = let others = start-within bytes in grind (arith, nat_tests, others)

pub start-of-none : word_start [] ≡ 0
unfolding word_start
start-of-none = refl

-- a sound row with blanks and words is sound
pub sound-words : {held : ℕ} (cells : List Cell) (blanks : ℕ) (text : List ℕ) (fonts : List Font) (start count gap word tag gap-now tag-now : ℕ) → IsSound cells count gap word tag held
    → is_printable_ascii text ≡ true → length fonts ≡ length text → length cells + blanks + length text ≤ CELLS → tag-now ≤ TAG_COLUMNS → start ≤ length text
    → gap-now ≤ length cells + blanks + start
    → IsSound (cells ++ replicate blanks blank ++ cells_in text fonts) (count + (blanks + length text)) gap-now (length cells + blanks + start) tag-now held
sound-words cells blanks text fonts start count gap word tag gap-now tag-now sound plain same room tagged within gapped =
    let size = in-length text fonts same in
    let spaced = sound-spaces cells blanks count gap word tag tag-now sound (omega (arith, room)) tagged in
    let front = length-append cells (replicate blanks blank) in
    let some = length-replicate blanks blank in
    let more = sound-cells (cells ++ replicate blanks blank) (cells_in text fonts) (count + blanks) (length cells) (length cells + blanks) tag-now tag-now spaced (in-plain text fonts plain)
    (omega (arith, front, some, size, room)) tagged in
    grind (arith, length-append)

-- ---- Texts that are read a group of bytes at a time.

-- ---- the last blank of a vector

-- a number is halved when its lowest bit is dropped
halved : (k x m : ℕ) → 0 < x → x / 2 ≡ m → count_leading_zeros (suc k) x ≡ count_leading_zeros k m
unfolding count_leading_zeros
halved k zero m some is = absurd (omega (arith, some))
halved k (suc x) m some is = ap (count_leading_zeros k) is

some-set : (k m : ℕ) → 0 < k → 0 < m → count_leading_zeros k m < k
unfolding count_leading_zeros
some-set zero m long some = absurd (omega (arith, long))
some-set (suc k) zero long some = absurd (omega (arith, some))
some-set (suc k) (suc m) long some = let le = leading_le k (suc m / 2) in omega (arith, le)

-- the number of one more byte, in front of the others
one-more : (k m start : ℕ) (is_blank : Bool) → start + count_leading_zeros k m ≡ k → (0 < m → 0 < k)
    → (if not (start == 0) then start + 1 else if is_blank then 1 else 0) + count_leading_zeros (suc k) (cond is_blank 1 0 + 2 * m) ≡ suc k
one-more k m start true sum long = grind (arith, halved)
one-more k zero start false sum long =
    let none = leading_of_zero k in
    let zeros = leading_of_zero (suc k) in
    grind arith
one-more k (suc m) start false sum long = grind (arith, halved, some-set)

long-enough : (k : ℕ) (bits : List Bool) → length bits ≤ k → 0 < mask_l bits → 0 < k
long-enough zero [] within some = absurd (omega (arith, some))
long-enough zero (b ∷ bits) within some = absurd (omega (arith, within))
long-enough (suc k) bits within some = omega arith

abbrev pub is_blank : ℕ → Bool
is_blank b = b == 32

-- the letters begin after the highest bit that is set
pub start-by-mask : (k : ℕ) (bytes : List ℕ) → length bytes ≤ k → word_start bytes + count_leading_zeros k (mask_l (map is_blank bytes)) ≡ k
unfolding word_start
start-by-mask k [] within = let all = leading_of_zero k in omega (arith, all)
start-by-mask zero (b ∷ bytes) within = absurd (omega (arith, within))
start-by-mask (suc k) (b ∷ bytes) within = grind (arith, common_steps, one-more, long-enough, length-map, start-by-mask k bytes (omega (arith, within)))

-- one lane more
bit-mask : (bit m low n : ℕ) → bit < 2 → m % 2 ^ n ≡ low → (bit + 2 * m) % 2 ^ suc n ≡ bit + 2 * low
bit-mask bit m low n small others =
    let half : (bit + 2 * m) / 2 ^ 1 ≡ m = omega arith in
    let least : (bit + 2 * m) % 2 ^ 1 ≡ bit = omega arith in
    let one : suc n ≡ n + 1 = omega arith in
    grind (arith, mod-pow-add)

-- the lowest bits of a mask are those of the first lanes
front-mask : (bits : List Bool) (n : ℕ) → mask_l bits % 2 ^ n ≡ mask_l (take n bits)
front-mask [] zero = refl
front-mask [] (suc n) = mask_l-mod [] (suc n) (omega arith)
front-mask (b ∷ bits) zero = omega arith
front-mask (true ∷ bits) (suc n) = bit-mask 1 (mask_l bits) (mask_l (take n bits)) n (omega arith) (front-mask bits n)
front-mask (false ∷ bits) (suc n) = bit-mask 0 (mask_l bits) (mask_l (take n bits)) n (omega arith) (front-mask bits n)

-- the letters after the last blank of some first lanes
pub front-start : (v : List ℕ) (n : ℕ) → length v ≡ 16 → n ≤ 16
    → word_start (take n v) + count_leading_zeros 64 (bit_and (mask_l (map is_blank v)) (1 * 2 ^ n % 2 ^ 64 - 1)) ≡ 64
front-start v n long within = grind (arith, common_steps, one_shl, and_mask, front-mask, take-map, length-take-le, start-by-mask)

-- the bytes up to an end: those before a vector, and its first ones
text-parts : (text : List ℕ) (end front n : ℕ) → front + n ≡ end → front ≤ length text → n ≤ 16 → take end text ≡ take front text ++ take n (chunk front 16 text)
text-parts text end front n is within few =
    let len = length-take-le front text within in
    ap (λ k. take k text) (sym is)
    ∙ (ap (take (front + n)) (sym (take-append-drop front text))
    ∙ (ap (λ k. take (k + n) (take front text ++ drop front text)) (sym len)
    ∙ (take-append-add (take front text) (drop front text) n ∙ ap (λ back. take front text ++ back) (sym (take-take n 16 (drop front text) few)))))

-- there is a blank among these
pub vector-some : (text : List ℕ) (end front n : ℕ) → front + n ≡ end → front ≤ length text → n ≤ 16 → 0 < word_start (take n (chunk front 16 text))
    → word_start (take end text) ≡ front + word_start (take n (chunk front 16 text))
vector-some text end front n is within few some =
    let back = take n (chunk front 16 text) in
    ap word_start (text-parts text end front n is within few)
    ∙ (start-append (take front text) back (grind (arith, nat_tests, some)) ∙ ap (λ k. k + word_start back) (length-take-le front text within))

-- there is none
pub vector-none : (text : List ℕ) (end front n : ℕ) → front + n ≡ end → front ≤ length text → n ≤ 16 → word_start (take n (chunk front 16 text)) ≡ 0
    → word_start (take end text) ≡ word_start (take front text)
vector-none text end front n is within few none =
    ap word_start (text-parts text end front n is within few) ∙ start-none (take front text) (take n (chunk front 16 text)) none

-- ---- the first blank

-- it has none
pub first-none : (text : List ℕ) → 16 ≤ length text → word_end (chunk 0 16 text) ≡ 16 → word_end text ≡ 16 + word_end (drop 16 text)
first-none text long none =
    let front = chunk 0 16 text in
    let len = length-chunk 0 16 text long in
    let all : eqb (word_end front) (length front) ≡ true = grind (arith, nat_tests, len, none) in
    ap word_end (chunk-drop 0 16 text) ∙ (prefix_len-append (λ b. not (b == 32)) front (drop 16 text) ∙ rw (all, len) refl)

-- ---- How a latch over a sink of rows and a sink of messages takes items.

-- sinks with the same loans, of which this came
came_on : {R N K L : Type 0} {rs : Seen R LaidRow K} {ns : Seen N Message L} {plan : Planned R N K L} {a b : GName} {r : R} {n : N} {fault : Option Fault}
    {rows : List LaidRow} {notes : List Message} (t : R) (u : N) (next : Option Fault) (more : List LaidRow) (said : List Message) → rs.loans t ≡ rs.loans r → ns.loans u ≡ ns.loans n
    → Left rs ns plan a b r n fault rows notes → MatchOption next (Going rs ns plan t u more said) (Stopped rs ns plan t u) → Left rs ns plan a b t u next more said
came_on t u next more said s m h came = grind arith

-- with no fault yet, a call of the sink of rows gave rows
pub row_given : {R N K L : Type 0} {rs : Seen R LaidRow K} {ns : Seen N Message L} → IsSink rs.gave rs.within → IsSink ns.gave ns.within
    → ((s t : N) (xs : List Message) → ns.gave s xs t → ns.within s xs t)
    → {plan : Planned R N K L} {a b : GName} {r : R} {n : N} (t : R) {fault : Option Fault} (res : Result (Unit {0}) Fault) (rows more : List LaidRow) (notes : List Message)
    → is_some fault ≡ false → Left rs ns plan a b r n fault (rows ++ more) notes → Gives res rs.gave rs.within r rows t
    → FailsAs WriteText res (rs.failed r) (rs.failed t) → rs.loans t ≡ rs.loans r → Left rs ns plan a b t n (result_err res) more notes
row_given k l whole t {fault = Some f} res rows more notes none h g fails same = let no : ⊥ = cc in absurd no
row_given k l whole t {fault = None} (Ok x) rows more notes none h g fails same = came_on t _ None more notes same refl h (record {
  rows_came = UpTo-more k t rows more h.came.rows_came refl g;
  notes_came = h.came.notes_came;
  rows_failed = fails ∙ h.came.rows_failed;
  notes_failed = h.came.notes_failed;
})
row_given k l whole t {fault = None} (Err f) rows more notes none h g fails same = grind arith

-- the same of the sink of messages
pub note_given : {R N K L : Type 0} {rs : Seen R LaidRow K} {ns : Seen N Message L} → IsSink rs.gave rs.within → IsSink ns.gave ns.within
    → ((s t : R) (xs : List LaidRow) → rs.gave s xs t → rs.within s xs t)
    → {plan : Planned R N K L} {a b : GName} {r : R} {n : N} (t : N) {fault : Option Fault} (res : Result (Unit {0}) Fault) (rows : List LaidRow) (notes more : List Message)
    → is_some fault ≡ false → Left rs ns plan a b r n fault rows (notes ++ more) → Gives res ns.gave ns.within n notes t
    → FailsAs WriteNotes res (ns.failed n) (ns.failed t) → ns.loans t ≡ ns.loans n → Left rs ns plan a b r t (result_err res) rows more
note_given k l whole t {fault = Some f} res rows notes more none h g fails same = let no : ⊥ = cc in absurd no
note_given k l whole t {fault = None} (Ok x) rows notes more none h g fails same = came_on _ t None rows more refl same h (record {
  rows_came = h.came.rows_came;
  notes_came = UpTo-more l t notes more h.came.notes_came refl g;
  rows_failed = h.came.rows_failed;
  notes_failed = fails ∙ h.came.notes_failed;
})
note_given k l whole t {fault = None} (Err f) rows notes more none h g fails same = grind arith

-- what a call over the two sinks did
pub record Done {R N K L E : Type 0} (rs : Seen R LaidRow K) (ns : Seen N Message L) (a a' b b' : GName) (r r' : R) (n n' : N) (res : Result (Unit {0}) Fault)
    (given : Laid E) : Type 0 where
  pub rows_loan : a' ≡ a
  pub notes_loan : b' ≡ b
  pub rows_same : rs.loans r' ≡ rs.loans r
  pub notes_same : ns.loans n' ≡ ns.loans n
  pub gets : Gets res rs.gave rs.within ns.gave ns.within r r' n n' given
  pub faults : FailsBySink res (rs.failed r) (rs.failed r') (ns.failed n) (ns.failed n')

-- nothing is still to come, and the latch says what it holds
left_done : {R N K L E : Type 0} {rs : Seen R LaidRow K} {ns : Seen N Message L} {a a' b b' : GName} {r r' : R} {n n' : N} {fault : Option Fault}
    (res : Result (Unit {0}) Fault) (given : Laid E) → MatchResult res (λ _. fault ≡ None) (λ f. fault ≡ Some f)
    → Left rs ns (record { rows_name = a; notes_name = b; rows = r; notes = n; rows_loans = rs.loans r; notes_loans = ns.loans n; all_rows = given.rows; all_notes = given.notes })
    a' b' r' n' fault [] []
    → Done rs ns a a' b b' r r' n n' res given
left_done (Ok x) given e h = grind (arith, common_steps)
left_done (Err f) given e h = grind arith

-- a whole call: it begins with no fault, and ends with what the latch says
pub latched : {R N K L E : Type 0} (rs : Seen R LaidRow K) (ns : Seen N Message L) → IsSink rs.gave rs.within → IsSink ns.gave ns.within
    → {a a' b b' : GName} {r r' : R} {n n' : N} {none fault : Option Fault} (given : Laid E) (res : Result (Unit {0}) Fault) → none ≡ None
    → ((plan : Planned R N K L) (more : List LaidRow) (said : List Message) → Left rs ns plan a b r n none (given.rows ++ more) (given.notes ++ said)
    → Left rs ns plan a' b' r' n' fault more said)
    → MatchResult res (λ _. fault ≡ None) (λ f. fault ≡ Some f) → Done rs ns a a' b b' r r' n n' res given
latched rs ns k l {a} {b = b} {r} {n = n} given res start came done =
    left_done res given done
    (came (record { rows_name = a; notes_name = b; rows = r; notes = n; rows_loans = rs.loans r; notes_loans = ns.loans n; all_rows = given.rows; all_notes = given.notes }) [] []
    (rw start (record {
      rows_loan = refl;
      notes_loan = refl;
      rows_same = refl;
      notes_same = refl;
      came = record {
        rows_came = record { done = []; parts = sym (append-nil given.rows); given = k.none r };
        notes_came = record { done = []; parts = sym (append-nil given.notes); given = l.none n };
        rows_failed = refl;
        notes_failed = refl;
      };
    })))
