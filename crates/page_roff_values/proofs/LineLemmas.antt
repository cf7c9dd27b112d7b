-- What an interpolation does, before the rest of the texts: helpers of proofs.
use Rattle.std.specs.Fmt.{signed_decimal, decimal}
use Rattle.std.proofs.Common.{◌≡◌, ℕ, zero, suc, ◌+◌, ◌-◌, ◌*◌, ◌^◌, ◌<◌, ◌≤◌, true, false, nat_lt, List, ◌∷◌, length, codes, ℤ, Some, None, refl, sym, ap, ◌∙◌, arith, ◌==◌, Bool, [], ◌++◌, take, get_or, if◌then◌else◌, Option, length-append, drop, append_assoc, append-nil, length-take}
use Rattle.std.proofs.Math.Nat.{mul-suc, mul-le-mul_left, sub-zero}
use Rattle.std.proofs.lemmas.Bool.{ltb-true, le-leb, leb-true, eqb-true}
use Rattle.page_core_base.specs.declared.note_kinds.NoteKind.TheVariants.{Loop, UndefString, ArgOutside}
use Rattle.page_core_base.specs.Messages.{Message}
use Rattle.page_roff_names.specs.Names.{string_of}
use Rattle.page_core_base.specs.declared.limits.TheConstants.{EXPAND, LINE}
use Rattle.page_roff_parts.specs.declared.parts.Call.{Call}
use Rattle.page_roff_parts.specs.declared.parts.Call.TheVariants.{String, Register, Argument, Width}
use Rattle.page_roff_values.specs.Values.{argument_of, Surroundings, register_of, TextSoFar, LaidText, nothing, join, seq, says, ends, counts, put, charge, width, interpolated, call_at, value, unless, adds, kept, character_end, lay, value_or, inside, leaves, start, expanded, finished_len, NEST}
use Rattle.page_roff_parts.specs.Parts.{without_lone, copies, seen, parts, parts_up_to}
use Rattle.page_roff_values.specs.laws.Views.{Goes, IsWithin}
use Rattle.page_roff_values.specs.machine.Rest.{HUGE, calling, going_on, rest, room_in, size, steps, GivesItself}
use Rattle.page_roff_values.proofs.ArgumentLemmas.{goes_on, goes_same, seq_more, seq_nothing, seq_end}
use Rattle.std.proofs.Math.Seq.{drop-length, take-length}
use Rattle.memchr.specs.Find.{IsFirstByte, is_byte}
use Rattle.std.specs.Option.{is_none}
use Rattle.page_core_base.specs.declared.note_kinds.NoteKind.{NoteKind}
use Rattle.page_roff_parts.specs.declared.parts.Part.{Part}
use Rattle.page_roff_parts.specs.declared.parts.Part.TheVariants.{Copied, Called}
use Rattle.page_roff_parts.proofs.FrontLemmas.{parts_more, plain_part, front_whole, map_is}
use Rattle.page_roff_parts.specs.machine.Verbatim.{IsFront, copied_front, IsVerbatim}

ended_at : (env : Surroundings) (d : ℕ) (call : Call (List ℕ)) (s : TextSoFar) → nat_lt s.count EXPAND ≡ false
    → call_at env d call s ≡ ends Loop (codes "EXPAND") s
unfolding call_at charge
ended_at env zero call s h = rw h refl
ended_at env (suc d) call s h = rw h refl

-- one beyond EXPAND
pub call_ends : (env : Surroundings) (d : ℕ) (call : Call (List ℕ)) (s : TextSoFar) (f : TextSoFar → LaidText) → nat_lt s.count EXPAND ≡ false
    → seq (call_at env d call s) f ≡ join (ends Loop (codes "EXPAND") s) (seq (nothing (ends Loop (codes "EXPAND") s).edge) f)
call_ends env d call s f h = ap (λ a. seq a f) (ended_at env d call s h) ∙ seq_more (ends Loop (codes "EXPAND") s) f

deep_at : (env : Surroundings) (d : ℕ) (call : Call (List ℕ)) (s : TextSoFar) → nat_lt s.count EXPAND ≡ true → d ≡ 0
    → call_at env d call s ≡ says Loop (codes "NEST") (counts s)
unfolding call_at charge
deep_at env zero call s h e = rw h refl
deep_at env (suc d) call s h e = absurd (omega arith)

-- one too deep
pub call_deep : (env : Surroundings) (room : ℕ) (t : List ℕ) (ts : List (List ℕ)) (call : Call (List ℕ)) (s : TextSoFar) (f : TextSoFar → LaidText)
    → nat_lt s.count EXPAND ≡ true → room ≤ length ts
    → seq (call_at env (room_in room (t ∷ ts)) call s) f ≡ join (says Loop (codes "NEST") (counts s)) (seq (nothing (counts s)) f)
unfolding room_in
call_deep env room t ts call s f h l = grind (arith, deep_at, seq_more, codes)

interpolates_at : (env : Surroundings) (d e : ℕ) (call : Call (List ℕ)) (s : TextSoFar) → nat_lt s.count EXPAND ≡ true → d ≡ suc e
    → call_at env d call s ≡ interpolated env (value env e) call (counts s)
unfolding call_at charge value
interpolates_at env d e call s h q = rw (q, h) refl

-- what one gives that isn't
call_gives : (env : Surroundings) (room d : ℕ) (t : List ℕ) (ts : List (List ℕ)) (call : Call (List ℕ)) (s : TextSoFar) (f : TextSoFar → LaidText) (given : LaidText)
    → nat_lt s.count EXPAND ≡ true → length ts + suc d ≡ room → interpolated env (value env d) call (counts s) ≡ given
    → seq (call_at env (room_in room (t ∷ ts)) call s) f ≡ join given (seq (nothing given.edge) f)
unfolding room_in
call_gives env room d t ts call s f given h l e = grind (arith, interpolates_at, seq_more)

-- one with a value: that is read before the rest
call_enters : (env : Surroundings) (room d : ℕ) (t : List ℕ) (ts : List (List ℕ)) (call : Call (List ℕ)) (w : List ℕ) (s : TextSoFar)
    → s.ended ≡ false → nat_lt s.count EXPAND ≡ true → length ts + suc d ≡ room
    → interpolated env (value env d) call (counts s) ≡ value env d w (counts s)
    → seq (call_at env (room_in room (t ∷ ts)) call s) (rest env room (t ∷ ts)) ≡ seq (nothing (counts s)) (rest env room (w ∷ t ∷ ts))
unfolding room_in rest
call_enters env room d t ts call w s g h l e = grind (arith, interpolates_at, seq_nothing)

-- the same of what was given: it is laid before the rest, or the value is read before it
pub gives : {P S : Type 0} (left : P → S → List Message → Type 0) (old new : S) (env : Surroundings) (room d : ℕ) (t : List ℕ) (ts : List (List ℕ)) (call : Call (List ℕ))
    (s e : TextSoFar) (given : LaidText) → nat_lt s.count EXPAND ≡ true → length ts + suc d ≡ room → interpolated env (value env d) call (counts s) ≡ given
    → Goes left old given new (nothing e) → Goes left old (calling env room call (t ∷ ts) s) new (going_on env room (t ∷ ts) e)
gives left old new env room d t ts call s e given fits deep is goes =
    goes_on left old new _ given e (rest env room (t ∷ ts)) (call_gives env room d t ts call s (rest env room (t ∷ ts)) given fits deep is) goes

pub enters : {P S : Type 0} (left : P → S → List Message → Type 0) (old : S) (env : Surroundings) (room d : ℕ) (t : List ℕ) (ts : List (List ℕ)) (call : Call (List ℕ))
    (w : List ℕ) (s : TextSoFar) → s.ended ≡ false → nat_lt s.count EXPAND ≡ true → length ts + suc d ≡ room → interpolated env (value env d) call (counts s) ≡ value env d w (counts s)
    → Goes left old (calling env room call (t ∷ ts) s) old (going_on env room (w ∷ t ∷ ts) (counts s))
enters left old env room d t ts call w s going fits deep is = goes_same left old _ _ (call_enters env room d t ts call w s going fits deep is)

-- ---- what each interpolation is

pub string_some : (env : Surroundings) (f : List ℕ → TextSoFar → LaidText) (call : Call (List ℕ)) (name v w : List ℕ) (s : TextSoFar) → call ≡ String name
    → string_of name env.definitions ≡ Some v → w ≡ without_lone v → interpolated env f call s ≡ f w s
unfolding interpolated
string_some env f call name v w s c e k = rw (c, e, k) refl

pub string_none : (env : Surroundings) (f : List ℕ → TextSoFar → LaidText) (call : Call (List ℕ)) (name : List ℕ) (s : TextSoFar) → call ≡ String name
    → string_of name env.definitions ≡ None → interpolated env f call s ≡ says UndefString name s
unfolding interpolated
string_none env f call name s c e = rw (c, e) refl

pub argument_some : (env : Surroundings) (f : List ℕ → TextSoFar → LaidText) (call : Call (List ℕ)) (name v w : List ℕ) (s : TextSoFar) → call ≡ Argument name
    → argument_of name env.arguments ≡ Some v → w ≡ without_lone v → interpolated env f call s ≡ f w s
unfolding interpolated
argument_some env f call name v w s c e k = rw (c, e, k) refl

pub argument_none : (env : Surroundings) (f : List ℕ → TextSoFar → LaidText) (call : Call (List ℕ)) (name : List ℕ) (s : TextSoFar) → call ≡ Argument name
    → argument_of name env.arguments ≡ None → interpolated env f call s ≡ says ArgOutside name s
unfolding interpolated
argument_none env f call name s c e = rw (c, e) refl

pub register_some : (env : Surroundings) (f : List ℕ → TextSoFar → LaidText) (call : Call (List ℕ)) (name : List ℕ) (n : ℤ) (s : TextSoFar) → call ≡ Register name
    → n ≡ register_of name env → interpolated env f call s ≡ put (signed_decimal n) s
unfolding interpolated
register_some env f call name n s c e = rw (c, e) refl

pub width_some : (env : Surroundings) (f : List ℕ → TextSoFar → LaidText) (call : Call (List ℕ)) (text : List ℕ) (s : TextSoFar) → call ≡ Width text
    → interpolated env f call s ≡ width env.units (f text) s
unfolding interpolated
width_some env f call text s c = rw c refl

charged : (s : TextSoFar) → nat_lt s.count EXPAND ≡ true → HUGE * (EXPAND - s.count) ≡ HUGE * (EXPAND - (s.count + 1)) + HUGE
charged s h =
    let l : s.count < EXPAND = ltb-true s.count EXPAND h in
    let e : EXPAND - s.count ≡ suc (EXPAND - (s.count + 1)) = omega arith in
    rw e (mul-suc HUGE (EXPAND - (s.count + 1)))

-- an interpolation pays for a value
pub steps_counts : (s : TextSoFar) (ts us : List (List ℕ)) → nat_lt s.count EXPAND ≡ true → size us ≤ size ts + HUGE → steps (counts s) us ≤ steps s ts
unfolding steps
steps_counts s ts us h l = let e = charged s h in omega (arith, e)

-- the more are counted, the fewer steps may come
pub steps_later : (s t : TextSoFar) (ts : List (List ℕ)) → s.count ≤ t.count → steps t ts ≤ steps s ts
unfolding steps
steps_later s t ts h = let k = mul-le-mul_left {m = EXPAND - t.count} {n = EXPAND - s.count} HUGE (omega arith) in omega (arith, k)

pub steps_less : (s t : TextSoFar) (ts us : List (List ℕ)) → t.count ≡ s.count → size us < size ts → steps t us < steps s ts
unfolding steps
steps_less s t ts us e l = rw e (omega arith)

pub size_value : (text : List ℕ) (ts : List (List ℕ)) → length text < 2 ^ 64 → size (text ∷ ts) ≤ size ts + HUGE
unfolding HUGE
size_value text ts h = omega arith

-- ---- The limits of a line, and a line without a backslash: helpers of proofs.

unless_within : (b : Bool) (x y : LaidText) → IsWithin x.edge → IsWithin y.edge → IsWithin (unless b x y).edge
unless_within true x y h k = h
unless_within false x y h k = k

seq_within : (x : LaidText) (f : TextSoFar → LaidText) → IsWithin x.edge → ((s : TextSoFar) → IsWithin s → IsWithin (f s).edge) → IsWithin (seq x f).edge
unfolding seq
seq_within x f h k = unless_within x.edge.ended x (f x.edge) h (k x.edge h)

if_within : (b : Bool) (x y : LaidText) → (b ≡ true → IsWithin x.edge) → (b ≡ false → IsWithin y.edge) → IsWithin (if b then x else y).edge
if_within true x y h k = h refl
if_within false x y h k = k refl

end_le_if : (b : Bool) (m n : ℕ) → m ≤ suc n → (if b then m else suc n) ≤ suc n
end_le_if true m n h = h
end_le_if false m n h = omega arith

end_le : (text : List ℕ) (n : ℕ) → character_end text n ≤ n
end_le text zero = omega arith
end_le text (suc n) = grind (arith, end_le text n, end_le_if)

kept_if : (b : Bool) (m n k : ℕ) → (b ≡ true → m ≤ k) → n ≤ k → (if b then m else n) ≤ k
kept_if true m n k h l = h refl
kept_if false m n k h l = l

kept_le : (text : List ℕ) (room : ℕ) → kept text room ≤ room
kept_le text room = grind (arith, kept_if, leb-true, end_le)

take_le : (n : ℕ) (xs : List ℕ) → length (take n xs) ≤ n
take_le zero xs = omega arith
take_le (suc n) [] = omega arith
take_le (suc n) (x ∷ xs) = let h = take_le n xs in omega arith

put_within : (run : List ℕ) (s : TextSoFar) → IsWithin s → IsWithin (put run s).edge
unfolding put
put_within run s h = grind (arith, kept_le, take_le, length-append, if_within, codes)

lay_within : (call : Call (List ℕ) → TextSoFar → LaidText) → ((c : Call (List ℕ)) (s : TextSoFar) → IsWithin s → IsWithin (call c s).edge)
    → (ps : List (Part (List ℕ))) (s : TextSoFar) → IsWithin s → IsWithin (lay call ps s).edge
unfolding lay
lay_within call k [] s h = h
lay_within call k (Copied run ∷ ps) s h = seq_within (put run s) (lay call ps) (put_within run s h) (lay_within call k ps)
lay_within call k (Called c ∷ ps) s h = seq_within (call c s) (lay call ps) (k c s h) (lay_within call k ps)

charge_within : (f : TextSoFar → LaidText) (s : TextSoFar) → ((t : TextSoFar) → IsWithin t → IsWithin (f t).edge) → IsWithin s → IsWithin (charge f s).edge
unfolding charge
charge_within f s k h = grind (arith, if_within, codes, ltb-true)

or_within : (kind : NoteKind) (detail : List ℕ) (o : Option (List ℕ)) (f : List ℕ → TextSoFar → LaidText) (s : TextSoFar)
    → ((text : List ℕ) (t : TextSoFar) → IsWithin t → IsWithin (f text t).edge) → IsWithin s → IsWithin (value_or kind detail o f s).edge
or_within kind detail (Some text) f s k h = k (without_lone text) s h
or_within kind detail None f s k h = h

width_within : (units : List ℕ → ℕ) (f : TextSoFar → LaidText) (s : TextSoFar) → ((t : TextSoFar) → IsWithin t → IsWithin (f t).edge) → IsWithin s → IsWithin (width units f s).edge
unfolding width
width_within units f s k h =
    let a = f (inside s) in
    let i = k (inside s) (record { text = omega arith; count = h.count }) in
    seq_within (leaves s a) (put (decimal (units a.edge.text))) (record { text = h.text; count = i.count }) (put_within (decimal (units a.edge.text)))

interpolated_within : (env : Surroundings) (f : List ℕ → TextSoFar → LaidText) (call : Call (List ℕ)) (s : TextSoFar)
    → ((text : List ℕ) (t : TextSoFar) → IsWithin t → IsWithin (f text t).edge) → IsWithin s → IsWithin (interpolated env f call s).edge
unfolding interpolated
interpolated_within env f (String name) s k h = or_within UndefString name (string_of name env.definitions) f s k h
interpolated_within env f (Register name) s k h = put_within (signed_decimal (register_of name env)) s h
interpolated_within env f (Argument escape) s k h = or_within ArgOutside escape (argument_of escape env.arguments) f s k h
interpolated_within env f (Width text) s k h = width_within env.units (f text) s (k text) h

call_within : (env : Surroundings) (depth : ℕ) (call : Call (List ℕ)) (s : TextSoFar) → IsWithin s → IsWithin (call_at env depth call s).edge
unfolding call_at
call_within env zero call s h = charge_within (says Loop (codes "NEST")) s (λ t k. k) h
call_within env (suc depth) call s h =
    charge_within (interpolated env (λ text. lay (call_at env depth) (parts env.copy text)) call) s
    (λ t. interpolated_within env (λ text. lay (call_at env depth) (parts env.copy text)) call t
    (λ text. lay_within (call_at env depth) (call_within env depth) (parts env.copy text))) h

pub value_within : (env : Surroundings) (depth : ℕ) (text : List ℕ) (s : TextSoFar) → IsWithin s → IsWithin (value env depth text s).edge
unfolding value
value_within env depth text s h = lay_within (call_at env depth) (call_within env depth) (parts env.copy text) s h

-- ---- a line without a backslash

less_if : (n : ℕ) (b : Bool) → nat_lt n n ≡ b → b ≡ false
less_if n true e = let l : n < n = ltb-true n n e in absurd (omega arith)
less_if n false e = refl

pub put_all : (run : List ℕ) (s : TextSoFar) → length run ≤ LINE - finished_len s → put run s ≡ nothing (adds run s)
unfolding put
put_all run s h = grind (arith, le-leb, less_if, take-length)

-- it is what it gives
pub plain_line : (env : Surroundings) (n : ℕ) (line : List ℕ) (r : Option ℕ) → IsFirstByte (is_byte 92) line r → is_none r ≡ true → length line ≤ LINE
    → expanded env n line ≡ nothing (adds line (start n))
unfolding value lay parts parts_up_to seq
plain_line env n line (Some k) f e h = let no : ⊥ = cc in absurd no
plain_line env n [] None f e h = refl
plain_line env n (b ∷ bs) None f e h =
    let t = b ∷ bs in
    let s : copies t [] ≡ seen env.copy t = rw (take-length t, drop-length t) at (plain_part env.copy t None f (omega arith) (omega arith)) in
    rw (parts_more env.copy b bs, ← s, put_all t (start n) h) refl

pub plain_expanded : (env : Surroundings) (n : ℕ) (line : List ℕ) → ((k : ℕ) → k < length line → ¬ ((get_or line k 0 == 92) ≡ true)) → length line ≤ LINE
    → expanded env n line ≡ nothing (adds line (start n))
plain_expanded env n line f h = plain_line env n line None (λ k low high. f k high) refl h

-- the value of a text without a backslash is that text
pub plain_value : (env : Surroundings) (depth : ℕ) (text : List ℕ) (s : TextSoFar) (r : Option ℕ) → IsFirstByte (is_byte 92) text r → is_none r ≡ true → 0 < length text
    → value env depth text s ≡ put text s
unfolding value lay parts parts_up_to seq
plain_value env depth text s (Some k) f e h = let no : ⊥ = cc in absurd no
plain_value env depth [] s None f e h = absurd (omega arith)
plain_value env depth (b ∷ bs) s None f e h =
    let t = b ∷ bs in
    let c : copies t [] ≡ seen env.copy t = rw (take-length t, drop-length t) at (plain_part env.copy t None f (omega arith) (omega arith)) in
    rw (parts_more env.copy b bs, ← c) (seq_end (put t s))

-- ---- Bytes that are copied, as they are laid: helpers of proofs.

abbrev Front : Type 0
Front = List ℕ × List (Part (List ℕ))

-- the first parts, which are copied, and then the others
lay_copied : (call : Call (List ℕ) → TextSoFar → LaidText) (n : ℕ) (ps qs : List (Part (List ℕ))) (x : List ℕ) (s : TextSoFar) → copied_front n ps ≡ Some (x, qs) → s.ended ≡ false
    → length x ≤ LINE - finished_len s → lay call ps s ≡ lay call qs (adds x s)
unfolding lay
lay_copied call zero ps qs x s e g h = grind (arith, append-nil)
lay_copied call (suc n) [] qs x s e g h = let no : ⊥ = cc in absurd no
lay_copied call (suc n) (Called c ∷ ps) qs x s e g h = let no : ⊥ = cc in absurd no
lay_copied call (suc n) (Copied run ∷ ps) qs x s e g h =
    let m = map_is (λ (front : Front). (run ++ front.0, front.1)) (copied_front (suc n - length run) ps) (x, qs) e in
    let bytes : run ++ m.0.0 ≡ x = ap (λ (p : Front). p.0) m.1.1 in
    let rest : m.0.1 ≡ qs = ap (λ (p : Front). p.1) m.1.1 in
    let l : length run + length m.0.0 ≡ length x = sym (length-append run m.0.0) ∙ ap (λ (t : List ℕ). length t) bytes in
    let k = length-append s.text run in
    let more = lay_copied call (suc n - length run) ps m.0.1 m.0.0 (adds run s) m.1.0 g (omega arith) in
    rw (put_all run s (omega arith), seq_nothing (adds run s) (lay call ps) g, more)
    (ap (λ t. lay call m.0.1 (record s { text = t })) (append_assoc s.text run m.0.0 ∙ ap (λ t. s.text ++ t) bytes) ∙ ap (λ rs. lay call rs (adds x s)) rest)

-- this many bytes are copied, and then what follows them is laid
pub front_laid : (copy : Bool) (n : ℕ) (text : List ℕ) (call : Call (List ℕ) → TextSoFar → LaidText) (s : TextSoFar) → IsFront copy n text → s.ended ≡ false → n ≤ LINE - finished_len s
    → lay call (parts copy text) s ≡ lay call (parts copy (drop n text)) (adds (take n text) s)
front_laid copy n text call s f e h = grind (arith, lay_copied, length-take)

-- it is put before the rest is laid
pub front_reads : (env : Surroundings) (room n : ℕ) (text : List ℕ) (ts : List (List ℕ)) (s : TextSoFar) → s.ended ≡ false → n ≤ LINE - finished_len s
    → IsFront env.copy n text → rest env room (text ∷ ts) s ≡ seq (put (take n text) s) (rest env room (drop n text ∷ ts))
unfolding rest value
front_reads env room n text ts s e h f = grind (arith, front_laid, put_all, length-take, seq_nothing)

-- nothing was taken
pub same_rest : (front text left : List ℕ) → (length front == 0) ≡ true → left ≡ drop (length front) text → left ≡ text
same_rest front text left e h = rw (eqb-true (length front) 0 e) at h

-- a line that is its own value is what it gives
pub verbatim_line : (env : Surroundings) (n : ℕ) (line : List ℕ) → IsVerbatim env.copy line → length line ≤ LINE
    → expanded env n line ≡ nothing (adds line (start n))
unfolding value lay parts parts_up_to
verbatim_line env n line v h =
    rw (take-length line, drop-length line) at (front_laid env.copy (length line) line (call_at env NEST) (start n) (front_whole env.copy line v) refl (omega arith))

pub gives_itself : (line : List ℕ) → IsVerbatim false line → length line ≤ LINE → GivesItself line
gives_itself line v h env n e = verbatim_line env n line (rw e v) h

-- ---- What a line keeps, whatever is laid: where it is, and that its count does not fall. Helpers of proofs.

pub record Follows (s t : TextSoFar) : Type 0 where
  pub around : t.around ≡ s.around
  pub count : s.count ≤ t.count

pub follows_same : (s : TextSoFar) → Follows s s
follows_same s = record { around = refl; count = omega arith }

pub follows_then : (s t u : TextSoFar) → Follows s t → Follows t u → Follows s u
follows_then s t u h k = record { around = k.around ∙ h.around; count = omega arith }

unless_follows : (b : Bool) (s : TextSoFar) (x y : LaidText) → Follows s x.edge → Follows s y.edge → Follows s (unless b x y).edge
unless_follows true s x y h k = h
unless_follows false s x y h k = k

pub seq_follows : (s : TextSoFar) (x : LaidText) (f : TextSoFar → LaidText) → Follows s x.edge → ((t : TextSoFar) → Follows t (f t).edge) → Follows s (seq x f).edge
unfolding seq
seq_follows s x f h k = unless_follows x.edge.ended s x (f x.edge) h (follows_then s x.edge (f x.edge).edge h (k x.edge))

if_follows : (b : Bool) (s : TextSoFar) (x y : LaidText) → Follows s x.edge → Follows s y.edge → Follows s (if b then x else y).edge
if_follows true s x y h k = h
if_follows false s x y h k = k

pub put_follows : (run : List ℕ) (s : TextSoFar) → Follows s (put run s).edge
unfolding put
put_follows run s = grind (arith, if_follows, codes)

put_count_if : (b : Bool) (x y : LaidText) (n : ℕ) → x.edge.count ≡ n → y.edge.count ≡ n → (if b then x else y).edge.count ≡ n
put_count_if true x y n h k = h
put_count_if false x y n h k = k

pub put_count : (run : List ℕ) (s : TextSoFar) → (put run s).edge.count ≡ s.count
unfolding put
put_count run s = put_count_if (nat_lt (kept run (LINE - finished_len s)) (length run)) _ _ s.count refl refl

lay_follows : (call : Call (List ℕ) → TextSoFar → LaidText) → ((c : Call (List ℕ)) (s : TextSoFar) → Follows s (call c s).edge)
    → (ps : List (Part (List ℕ))) (s : TextSoFar) → Follows s (lay call ps s).edge
unfolding lay
lay_follows call k [] s = follows_same s
lay_follows call k (Copied run ∷ ps) s = seq_follows s (put run s) (lay call ps) (put_follows run s) (lay_follows call k ps)
lay_follows call k (Called c ∷ ps) s = seq_follows s (call c s) (lay call ps) (k c s) (lay_follows call k ps)

counts_follow : (s : TextSoFar) → Follows s (counts s)
counts_follow s = record { around = refl; count = omega arith }

charge_follows : (f : TextSoFar → LaidText) (s : TextSoFar) → ((t : TextSoFar) → Follows t (f t).edge) → Follows s (charge f s).edge
unfolding charge
charge_follows f s k = grind (arith, if_follows, codes, follows_then, counts_follow)

or_follows : (kind : NoteKind) (detail : List ℕ) (o : Option (List ℕ)) (f : List ℕ → TextSoFar → LaidText) (s : TextSoFar)
    → ((text : List ℕ) (t : TextSoFar) → Follows t (f text t).edge) → Follows s (value_or kind detail o f s).edge
or_follows kind detail (Some text) f s k = k (without_lone text) s
or_follows kind detail None f s k = follows_same s

pub width_follows : (units : List ℕ → ℕ) (f : TextSoFar → LaidText) (s : TextSoFar) → ((t : TextSoFar) → Follows t (f t).edge) → Follows s (width units f s).edge
unfolding width
width_follows units f s k =
    let a = f (inside s) in
    let h = (k (inside s)).count in
    seq_follows s (leaves s a) (put (decimal (units a.edge.text))) (record { around = refl; count = h }) (put_follows (decimal (units a.edge.text)))

interpolated_follows : (env : Surroundings) (f : List ℕ → TextSoFar → LaidText) (call : Call (List ℕ)) (s : TextSoFar)
    → ((text : List ℕ) (t : TextSoFar) → Follows t (f text t).edge) → Follows s (interpolated env f call s).edge
unfolding interpolated
interpolated_follows env f (String name) s k = or_follows UndefString name (string_of name env.definitions) f s k
interpolated_follows env f (Register name) s k = put_follows (signed_decimal (register_of name env)) s
interpolated_follows env f (Argument escape) s k = or_follows ArgOutside escape (argument_of escape env.arguments) f s k
interpolated_follows env f (Width text) s k = width_follows env.units (f text) s (k text)

call_follows : (env : Surroundings) (depth : ℕ) (call : Call (List ℕ)) (s : TextSoFar) → Follows s (call_at env depth call s).edge
unfolding call_at
call_follows env zero call s = charge_follows (says Loop (codes "NEST")) s follows_same
call_follows env (suc depth) call s =
    charge_follows (interpolated env (λ text. lay (call_at env depth) (parts env.copy text)) call) s
    (λ t. interpolated_follows env (λ text. lay (call_at env depth) (parts env.copy text)) call t
    (λ text. lay_follows (call_at env depth) (call_follows env depth) (parts env.copy text)))

-- the place of a text stays, and its count does not fall
pub value_follows : (env : Surroundings) (depth : ℕ) (text : List ℕ) (s : TextSoFar) → Follows s (value env depth text s).edge
unfolding value
value_follows env depth text s = lay_follows (call_at env depth) (call_follows env depth) (parts env.copy text) s

-- ---- A text alone is what is to be read: helpers of proofs.

rest_alone : (env : Surroundings) (room : ℕ) (text : List ℕ) (s : TextSoFar) → rest env room (text ∷ []) s ≡ value env room text s
unfolding rest
rest_alone env room text s = rw (sub-zero room) (seq_end (value env room text s))

pub begins : (env : Surroundings) (room : ℕ) (text : List ℕ) (s : TextSoFar) → s.ended ≡ false
    → value env room text s ≡ seq (nothing s) (rest env room (text ∷ []))
begins env room text s e = sym (seq_nothing s (rest env room (text ∷ [])) e ∙ rest_alone env room text s)

pub nest_is : NEST ≡ 16
unfolding NEST
nest_is = refl
