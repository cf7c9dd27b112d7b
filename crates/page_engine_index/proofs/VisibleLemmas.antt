-- Rows as they are written, byte by byte and part by part.
use Rattle.std.proofs.Common.{◌≡◌, ℕ, ◌+◌, ◌<◌, ◌≤◌, Bool, true, false, List, [], ◌∷◌, ◌++◌, drop, get_or, length, refl, ap, ◌∙◌}
use Rattle.std.proofs.lemmas.List.{drop_more, drop_all}
use Rattle.std.specs.Prelude.{◌||◌, if◌then◌else◌}
use Rattle.std.specs.Borrow.{Bor}
use Rattle.std.specs.List.{flat_map, list_any}
use Rattle.page_engine_index.specs.Written.{at_byte, held_back, is_hidden, is_lead, visible, visible_from}
use Rattle.page_engine_index.specs.machine.Steps.{is_special}

none_of : (a b : Bool) → (a || b) ≡ false → (a ≡ false) × (b ≡ false)
none_of false b h = (refl, h)
none_of true b h = absurd (cc)

-- without a control character they are written as they are
plain_part : (part rest : List ℕ) → list_any is_special part ≡ false → visible_from false (part ++ rest) ≡ part ++ visible_from false rest
unfolding visible_from
plain_part [] rest h = refl
plain_part (byte ∷ part) rest h =
    let s = none_of (is_special byte) (list_any is_special part) h in
    let k = none_of (is_lead byte) (is_hidden byte) s.0 in
    let first : visible_from false (byte ∷ (part ++ rest)) ≡ byte ∷ visible_from false (part ++ rest) =
    λ i. (if k.0 i then [] else (if k.1 i then 63 else byte) ∷ []) ++ visible_from (k.0 i) (part ++ rest) in
    first ∙ ap (λ l. byte ∷ l) (plain_part part rest s.1)

pub plain_row : (parts : List (Bor (List ℕ))) → list_any (λ part. list_any is_special part.now) parts ≡ false
    → visible (flat_map (λ part. part.now) parts) ≡ flat_map (λ part. part.now) parts
unfolding visible_from
plain_row [] h = refl
plain_row (part ∷ parts) h =
    let s = none_of (list_any is_special part.now) (list_any (λ part. list_any is_special part.now) parts) h in
    plain_part part.now (flat_map (λ part. part.now) parts) s.0 ∙ ap (λ l. part.now ++ l) (plain_row parts s.1)

-- ---- what is still to be written

pub at_more : (held : Bool) (part rest : List ℕ) (i : ℕ) → i < length part
    → visible_from held (drop i part ++ rest) ≡ at_byte held (get_or part i 0) ++ visible_from (is_lead (get_or part i 0)) (drop (i + 1) part ++ rest)
unfolding visible_from
at_more held part rest i h = rw (drop_more part i 0 h) refl

abbrev no_part : Bor (List ℕ)
no_part = record { ref_ptr = (0, 0); now = [] }

pub parts_more : (parts : List (Bor (List ℕ))) (i : ℕ) → i < length parts
    → flat_map (λ part. part.now) (drop i parts) ≡ (get_or parts i no_part).now ++ flat_map (λ part. part.now) (drop (i + 1) parts)
parts_more parts i h = rw (drop_more parts i no_part h) refl

pub parts_end : (held : Bool) (parts : List (Bor (List ℕ))) (i : ℕ) → length parts ≤ i → visible_from held (flat_map (λ part. part.now) (drop i parts)) ≡ held_back held
unfolding visible_from
parts_end held parts i h = rw (drop_all i parts h) refl
