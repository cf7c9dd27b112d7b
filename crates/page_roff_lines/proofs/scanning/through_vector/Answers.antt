use Rattle.std.specs.Prelude.{◌&&◌}
use Rattle.std.proofs.Common.{◌≡◌, ℕ, ◌+◌, ◌-◌, ◌^◌, ◌/◌, ◌<◌, ◌≤◌, Bool, true, List, length, take, drop, get_or, refl, sym, ap, ◌∙◌, arith}
use lib.Count.{count_trailing_zeros}
use Rattle.page_roff_lines.specs.machine.Open.{BeginsPair, IsFine, IsFreeTo, is_quiet}
use Rattle.page_roff_lines.proofs.LineAgreement.{fine-more, fine-pair, fine-stop, fine-through, stop-within, stops-after, stops_from, free-stop, free-through, pair-free}
use Rattle.page_roff_lines.proofs.scanning.through_vector.Invariants.{IsAt}
use Rattle.page_roff_decoding.proofs.ScanLemmas.{and_true}
use Rattle.page_roff_lines.proofs.scanning.through_vector.Goals as goal

within : (xs : List ℕ) (from i n mask : ℕ) (free : Bool) → IsAt xs from i n mask free → 0 < mask → i + count_trailing_zeros 64 mask ≤ length xs
within xs from i n mask free is some =
    rw is.stops (stop-within xs i n is.room (omega (arith, is.lanes)) (omega (arith, some, is.stops)))

text : (xs : List ℕ) (from i n mask : ℕ) (free : Bool) → IsAt xs from i n mask free → 0 < mask → IsFine (take (i + count_trailing_zeros 64 mask) xs)
text xs from i n mask free is some =
    rw is.stops (fine-stop xs i n is.room (omega (arith, is.lanes)) (omega (arith, some, is.stops)) is.text)

-- and the pair there
pair : (xs : List ℕ) (from i n mask k : ℕ) (free : Bool) → IsAt xs from i n mask free → 0 < mask → k ≡ count_trailing_zeros 64 mask
    → BeginsPair (take (length xs - (i + k)) (drop (i + k) xs)) → IsFine (take (i + k + 2) xs)
pair xs from i n mask k free is some e begins =
    let above = rw (← e) at (text xs from i n mask free is some) in
    fine-more xs (i + k) 2 above (fine-pair xs (i + k) begins)

-- and is known to be free
free : (xs : List ℕ) (from i n mask k : ℕ) (known : Bool) → IsAt xs from i n mask known → 0 < mask → k ≡ count_trailing_zeros 64 mask → known ≡ true → IsFreeTo (i + k) xs
free xs from i n mask k known is some e h =
    rw (e, is.stops) (free-stop xs i n is.room (omega (arith, is.lanes)) (omega (arith, some, is.stops)) (is.free h))

-- with the pair
pair_free : (xs : List ℕ) (from i n mask k : ℕ) (known quiet : Bool) → IsAt xs from i n mask known → 0 < mask → k ≡ count_trailing_zeros 64 mask
    → quiet ≡ is_quiet (get_or xs (i + k + 1) 0) → (known && quiet) ≡ true → IsFreeTo (i + k + 2) xs
pair_free xs from i n mask k known quiet is some e q h =
    let parts = and_true known quiet h in
    pair-free xs (i + k) (sym q ∙ parts.1) (free xs from i n mask k known is some e parts.0)

-- the lanes after it
next : (xs : List ℕ) (from i n mask k : ℕ) (known after : Bool) → IsAt xs from i n mask known → k + 2 < n → IsFine (take (i + k + 2) xs)
    → (after ≡ true → IsFreeTo (i + k + 2) xs) → IsAt xs from (i + k + 2) (n - (k + 2)) (mask / 2 ^ (k + 2)) after
next xs from i n mask k known after is left fine free =
    let place : i + (k + 2) ≡ i + k + 2 = omega arith in
    record {
      room = omega (arith, is.room);
      lanes = omega (arith, is.lanes);
      further = omega (arith, is.further);
      text = fine;
      free = free;
      stops = ap (λ m. m / 2 ^ (k + 2)) is.stops ∙ stops-after xs i n (k + 2) (omega arith) ∙ ap (λ j. stops_from xs j (n - (k + 2))) place;
    }

pub slice_bounds-begins_pair-count : goal.slice_bounds-begins_pair-count
slice_bounds-begins_pair-count c = within c.args.chunk.now c.args.from c.loop-found.at c.loop-found.left c.loop-found.found c.loop-found.free c.loop-found.invariant (omega arith)

pub slice_bounds-begins_pair-start : goal.slice_bounds-begins_pair-start
slice_bounds-begins_pair-start c = within c.args.chunk.now c.args.from c.loop-found.at c.loop-found.left c.loop-found.found c.loop-found.free c.loop-found.invariant (omega arith)

pub returns-then-not-begins_pair-clause-within : goal.returns-then-not-begins_pair-clause-within
returns-then-not-begins_pair-clause-within c =
    within c.args.chunk.now c.args.from c.loop-found.at c.loop-found.left c.loop-found.found c.loop-found.free c.loop-found.invariant (omega arith)

pub returns-then-not-begins_pair-clause-text : goal.returns-then-not-begins_pair-clause-text
returns-then-not-begins_pair-clause-text c =
    text c.args.chunk.now c.args.from c.loop-found.at c.loop-found.left c.loop-found.found c.loop-found.free c.loop-found.invariant (omega arith)

pub returns-then-left-len-clause-text : goal.returns-then-left-len-clause-text
returns-then-left-len-clause-text c =
    pair c.args.chunk.now c.args.from c.loop-found.at c.loop-found.left c.loop-found.found (count_trailing_zeros 64 c.loop-found.found) c.loop-found.free
    c.loop-found.invariant (omega arith) refl (c.begins_pair.ensures c.if-not-begins_pair.false)

pub returns-then-not-begins_pair-clause-free : goal.returns-then-not-begins_pair-clause-free
returns-then-not-begins_pair-clause-free c =
    free c.args.chunk.now c.args.from c.loop-found.at c.loop-found.left c.loop-found.found (count_trailing_zeros 64 c.loop-found.found) c.loop-found.free
    c.loop-found.invariant (omega arith) refl

pub returns-then-left-len-clause-free : goal.returns-then-left-len-clause-free
returns-then-left-len-clause-free c =
    let k = count_trailing_zeros 64 c.loop-found.found in
    pair_free c.args.chunk.now c.args.from c.loop-found.at c.loop-found.left c.loop-found.found k c.loop-found.free c.is_quiet-free.result
    c.loop-found.invariant (omega arith) refl c.is_quiet-free.ensures

pub returns-clause-free : goal.returns-clause-free
returns-clause-free c = λ h.
    let is = c.loop-found.invariant in
    free-through c.args.chunk.now c.loop-found.at c.loop-found.left is.room (omega (arith, is.stops)) (is.free h)

pub loop-found-preserved : goal.loop-found-preserved
loop-found-preserved c =
    let xs = c.args.chunk.now in
    let k = count_trailing_zeros 64 c.loop-found.found in
    next xs c.args.from c.loop-found.at c.loop-found.left c.loop-found.found k c.loop-found.free (c.loop-found.free && c.is_quiet-free.result)
    c.loop-found.invariant (omega arith)
    (pair xs c.args.from c.loop-found.at c.loop-found.left c.loop-found.found k c.loop-found.free c.loop-found.invariant (omega arith) refl (c.begins_pair.ensures c.if-not-begins_pair.false))
    (pair_free xs c.args.from c.loop-found.at c.loop-found.left c.loop-found.found k c.loop-found.free c.is_quiet-free.result c.loop-found.invariant (omega arith) refl
    c.is_quiet-free.ensures)

pub returns-clause-text : goal.returns-clause-text
returns-clause-text c =
    let is = c.loop-found.invariant in
    fine-through c.args.chunk.now c.loop-found.at c.loop-found.left is.room (omega (arith, is.stops)) is.text
