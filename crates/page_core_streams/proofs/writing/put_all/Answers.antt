use Rattle.std.proofs.Common.{◌≡◌, ◌++◌, [], ℕ, List, drop, get_or, length, ◌<◌, ◌≤◌, ◌+◌, append_assoc, append-nil, arith, rules, refl, sym, ◌∙◌}
use Rattle.std.specs.Borrow.{Bor}
use Rattle.std.specs.List.{flat_map}
use Rattle.std.proofs.lemmas.List.{drop_more, drop_all}
use Rattle.page_core_streams.proofs.AsciiLemmas.{GrowsUpTo-flow, GrowsUpTo-broken, GrowsUpTo-last, rises-after, fails-after}
use Rattle.page_core_streams.proofs.writing.put_all.Goals as goal

abbrev no_text : Bor (List ℕ)
no_text = record { ref_ptr = (0, 0); now = [] }

texts_more : (texts : List (Bor (List ℕ))) (i : ℕ) (unsent : List ℕ) → i < length texts
    → unsent ++ flat_map (λ text. text.now) (drop i texts) ≡ (unsent ++ (get_or texts i no_text).now) ++ flat_map (λ text. text.now) (drop (i + 1) texts)
texts_more texts i unsent h =
    rw (drop_more texts i no_text h) (sym (append_assoc unsent (get_or texts i no_text).now (flat_map (λ text. text.now) (drop (i + 1) texts))))

texts_done : (texts : List (Bor (List ℕ))) (i : ℕ) (unsent : List ℕ) → length texts ≤ i → unsent ++ flat_map (λ text. text.now) (drop i texts) ≡ unsent
texts_done texts i unsent h = rw (drop_all i texts h) (append-nil unsent)

pub returns-then-not-add-clause-writes : goal.returns-then-not-add-clause-writes
returns-then-not-add-clause-writes g c =
    GrowsUpTo-broken _ _ _ c.loop-text.invariant.0 (texts_more c.args.texts.now c.loop-text.text-index c.loop-text.unsent.items c.loop-text-test.true) c.if-not-add.ensures.sent

pub loop-text-preserved : goal.loop-text-preserved
loop-text-preserved g c =
    let flow = GrowsUpTo-flow _ _ _ _ c.loop-text.invariant.0 (texts_more c.args.texts.now c.loop-text.text-index c.loop-text.unsent.items c.loop-text-test.true) c.if-not-add.ensures.sent in
    (flow, c.if-not-add.ensures.fails ∙ c.loop-text.invariant.1)

pub returns-clause-writes : goal.returns-clause-writes
returns-clause-writes g c =
    GrowsUpTo-last _ c.as_slice.result.now _ c.loop-text.invariant.0
    (texts_done c.args.texts.now c.loop-text.text-index c.loop-text.unsent.items (omega arith) ∙ sym c.as_slice.ensures.value) c.put.ensures.writes

pub returns-then-not-add-clause-fails : goal.returns-then-not-add-clause-fails
returns-then-not-add-clause-fails g c = rises-after _ _ _ _ c.loop-text.invariant.1 c.if-not-add.ensures.fails

pub returns-clause-fails : goal.returns-clause-fails
returns-clause-fails g c = fails-after _ _ _ _ _ c.loop-text.invariant.1 c.put.ensures.fails

pub loop-text-init : goal.loop-text-init
loop-text-init g c = (search rules, refl)
