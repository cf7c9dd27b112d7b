-- What contracts of the code say by the definitions, and what is proved of these.
use Rattle.std.proofs.Common.{append-nil, sym, append_assoc, ◌∙◌, ap, subst}
use Rattle.std.proofs.lemmas.Grind.{flat_map-append}
use Rattle.std.specs.Bool.{MatchBool}
use Rattle.std.specs.Io.KnownBytes.{IsAtEnd, Consumes}
use Rattle.std.specs.Prelude.{List, ℕ, [], Option, None, Some, ◌++◌, Bool, flat_map, ◌≡◌, refl, ◌+◌, ◌≤◌, length, true, false, MatchOption, take, ◌-◌, ◌^◌, Result, MatchResult, ◌<◌, ⊤}
use Rattle.page_core_base.specs.Messages.{Rose}
use Rattle.page_core_base.specs.laws.Views.{IsSink}
use Rattle.page_core_base.specs.declared.faults.Fault.{Fault}
use Rattle.page_core_base.specs.declared.faults.Fault.TheVariants.{Read, TooLong}
use Rattle.page_core_streams.specs.Streams.{parts_bytes, Grows, GrowsInto, Adds, AddsInto, SourceState, counted, RisesIf, HasGiven, IsLean, IsTooLong}
use Rattle.page_core_streams.specs.declared.chunks.Chunks.{Chunks}
use Rattle.page_core_streams.specs.declared.message_bytes.ShownPlace.{ShownPlace}
use Rattle.page_core_streams.specs.declared.sources.Reading.{Reading}
use Rattle.page_core_streams.specs.declared.sources.Reading.TheVariants.{End, Bytes, Failure}

-- the bytes of a message (`parts_bytes`) about a place as it is shown
abbrev pub shown_bytes : ShownPlace → List ℕ → List ℕ → List ℕ → List ℕ
shown_bytes place level text detail = parts_bytes place.file.now place.line.now place.column.now level text detail

pub Grows-nil : {A : Type 0} (a : Option (List A)) → Grows a a []
Grows-nil None = tt
Grows-nil (Some xs) = sym (append-nil xs)

pub Grows-append : {A : Type 0} (a b c : Option (List A)) (xs ys : List A) → Grows a b xs → Grows b c ys → Grows a c (xs ++ ys)
Grows-append None b c xs ys g h = tt
Grows-append (Some us) None c xs ys g h = absurd g
Grows-append (Some us) (Some vs) None xs ys g h = absurd h
Grows-append (Some us) (Some vs) (Some ws) xs ys g h = h ∙ (ap (λ l. l ++ ys) g ∙ append_assoc us xs ys)

-- what a call did that writes all: the known list grew by it, or by a prefix of it where the call failed
abbrev pub Writes : {A : Type 0} → Bool → Option (List A) → Option (List A) → List A → Type 0
Writes result old new all = MatchBool result (Grows old new all) (GrowsInto old new all)

-- such a sink is one
pub adds-sink : {S I A : Type 0} (held : S → Option (List A)) (stands : I → List A) → IsSink (Adds held stands) (AddsInto held stands)
adds-sink held stands = record {
  none = λ s. Grows-nil (held s);
  more = λ s t u xs ys g h. rw flat_map-append (Grows-append (held s) (held t) (held u) (flat_map stands xs) (flat_map stands ys) g h);
  after = λ s t u xs ys g h. record {
    done = flat_map stands xs ++ h.done;
    rest = h.rest;
    parts = rw flat_map-append (ap (λ l. flat_map stands xs ++ l) h.parts ∙ sym (append_assoc (flat_map stands xs) h.done h.rest));
    grows = Grows-append (held s) (held t) (held u) (flat_map stands xs) h.done g h.grows;
  };
  before = λ s t xs ys h. record {
    done = h.done;
    rest = h.rest ++ flat_map stands ys;
    parts = rw flat_map-append (ap (λ l. l ++ flat_map stands ys) h.parts ∙ append_assoc h.done h.rest (flat_map stands ys));
    grows = h.grows;
  };
}

pub adds-whole : {S I A : Type 0} (held : S → Option (List A)) (stands : I → List A) (s t : S) (xs : List I) → Adds held stands s xs t → AddsInto held stands s xs t
adds-whole held stands s t xs g = record { done = flat_map stands xs; rest = []; parts = sym (append-nil (flat_map stands xs)); grows = g }

-- the known list has grown by the front of all, and rest is still to come
pub record GrowsUpTo {A : Type 0} (old new : Option (List A)) (all rest : List A) : Type 0 where
  pub done : List A
  pub parts : all ≡ done ++ rest
  pub grows : Grows old new done

-- what a call did that writes the front of all, and leaves a rest
abbrev pub WritesUpTo : {A : Type 0} → Bool → Option (List A) → Option (List A) → List A → List A → Type 0
WritesUpTo result old new all rest = MatchBool result (GrowsUpTo old new all rest) (GrowsInto old new all)

-- what stands for each item under a key of the sink comes to the list, and the key stays
abbrev pub AddsBy : {S K I A : Type 0} → (S → Option (List A)) → (S → K) → (K → I → List A) → S → List I → S → Type 0
AddsBy held key stands s xs t = (key t ≡ key s) × Grows (held s) (held t) (flat_map (stands (key s)) xs)

abbrev pub AddsIntoBy : {S K I A : Type 0} → (S → Option (List A)) → (S → K) → (K → I → List A) → S → List I → S → Type 0
AddsIntoBy held key stands s xs t = GrowsInto (held s) (held t) (flat_map (stands (key s)) xs)

grows-at : {K I A : Type 0} (stands : K → I → List A) (a b : Option (List A)) (k k' : K) (xs : List I) → k' ≡ k
    → Grows a b (flat_map (stands k') xs) → Grows a b (flat_map (stands k) xs)
grows-at stands a b k k' xs e g = subst (λ j. Grows a b (flat_map (stands j) xs)) e g

grows-into-at : {K I A : Type 0} (stands : K → I → List A) (a b : Option (List A)) (k k' : K) (xs : List I) → k' ≡ k
    → GrowsInto a b (flat_map (stands k') xs) → GrowsInto a b (flat_map (stands k) xs)
grows-into-at stands a b k k' xs e g = subst (λ j. GrowsInto a b (flat_map (stands j) xs)) e g

-- such a sink is one
pub adds-by-sink : {S K I A : Type 0} (held : S → Option (List A)) (key : S → K) (stands : K → I → List A)
    → IsSink (AddsBy held key stands) (AddsIntoBy held key stands)
adds-by-sink held key stands = record {
  none = λ s. (refl, Grows-nil (held s));
  more = λ s t u xs ys g h. (
    h.0 ∙ g.0,
    rw flat_map-append (Grows-append (held s) (held t) (held u) (flat_map (stands (key s)) xs) (flat_map (stands (key s)) ys) g.1
        (grows-at stands (held t) (held u) (key s) (key t) ys g.0 h.1)),
  );
  after = λ s t u xs ys g h.
      let w = grows-into-at stands (held t) (held u) (key s) (key t) ys g.0 h in record {
        done = flat_map (stands (key s)) xs ++ w.done;
        rest = w.rest;
        parts = rw flat_map-append (ap (λ l. flat_map (stands (key s)) xs ++ l) w.parts ∙ sym (append_assoc (flat_map (stands (key s)) xs) w.done w.rest));
        grows = Grows-append (held s) (held t) (held u) (flat_map (stands (key s)) xs) w.done g.1 w.grows;
      };
  before = λ s t xs ys h. record {
    done = h.done;
    rest = h.rest ++ flat_map (stands (key s)) ys;
    parts = rw flat_map-append (ap (λ l. l ++ flat_map (stands (key s)) ys) h.parts ∙ append_assoc h.done h.rest (flat_map (stands (key s)) ys));
    grows = h.grows;
  };
}

pub adds-by-whole : {S K I A : Type 0} (held : S → Option (List A)) (key : S → K) (stands : K → I → List A) (s t : S) (xs : List I)
    → AddsBy held key stands s xs t → AddsIntoBy held key stands s xs t
adds-by-whole held key stands s t xs g =
    record { done = flat_map (stands (key s)) xs; rest = []; parts = sym (append-nil (flat_map (stands (key s)) xs)); grows = g.1 }

abbrev pub source_state : Option (List ℕ) → ℕ → ℕ → ℕ → ℕ → SourceState
source_state remaining failed calls given empty =
    record { remaining = remaining; failed = failed; calls = calls; given = given; empty = empty }

-- so far each gave a byte or was empty
pub record IsBusy (s t : SourceState) (asked : ℕ) (bytes : List ℕ) : Type 0 where
  pub idle : ℕ
  pub empty : t.empty ≡ counted s.empty idle
  pub most : asked ≤ length bytes + idle

-- what a call did that says whether it succeeded: it fails only where what it is over failed
abbrev pub FailsBy : (counts result : Bool) → ℕ → ℕ → Type 0
FailsBy counts result old new = MatchBool result (new ≡ old) (RisesIf counts old new)

-- the count of what bytes go to, where it is kept there, else another one
abbrev pub count_of : (counts : Bool) → (below own : ℕ) → ℕ
count_of true below own = below
count_of false below own = own

-- `FailsBy` of a call that answers what it found
abbrev pub StopsBy : {T : Type 0} → (counts : Bool) → Option T → ℕ → ℕ → Type 0
StopsBy counts result old new = MatchOption result (RisesIf counts old new) (λ _. new ≡ old)

-- the bytes of the last chunk
abbrev pub chunk_of : Chunks → List ℕ
chunk_of c = take c.len c.buffer

-- between two chunks: by its calls so far the source gave these bytes, and each gave a byte or was empty; both bounds are kept
pub record AreRead (a b : SourceState) (c : Chunks) (bytes : List ℕ) : Type 0 where
  pub asked : ℕ
  pub calls : asked + c.calls_left ≡ 2 ^ 32 - 1
  pub given : HasGiven a b asked bytes
  pub busy : IsBusy a b asked bytes
  pub quiet : b.failed ≡ a.failed
  pub room : length bytes + c.bytes_left ≡ 2 ^ 31 - 1
  pub small : c.len ≤ 2 ^ 14

-- by this number of calls, at most 2^32 - 1, a source gave these bytes; but for one of them, each gave a byte or was empty
pub record AllRead (a b : SourceState) (asked : ℕ) (bytes : List ℕ) : Type 0 where
  pub few : asked ≤ 2 ^ 32 - 1
  pub source : HasGiven a b asked bytes
  pub lean : IsLean a b asked bytes

-- a chunk more, or the end
abbrev pub GoesOn : Bool → SourceState → SourceState → Chunks → List ℕ → Type 0
GoesOn true a b c bytes = AreRead a b c (bytes ++ chunk_of c)
GoesOn false a b c bytes = (asked : ℕ) × AllRead a b asked bytes × (b.failed ≡ a.failed) × IsAtEnd b.remaining

-- by its fault: the source failed; or there is more than may be read, of which the bytes so far are all that may be
abbrev pub Stops : SourceState → SourceState → List ℕ → Fault → Type 0
Stops a b bytes Read = (asked : ℕ) × AllRead a b asked bytes × Rose a.failed b.failed
Stops a b bytes TooLong = (asked : ℕ) × (all : List ℕ) × AllRead a b asked all × IsTooLong asked all
    × (take (2 ^ 31 - 1) all ≡ bytes) × (b.failed ≡ a.failed)
Stops a b bytes _ = ⊥

abbrev pub ReadsOn : Result Bool Fault → SourceState → SourceState → Chunks → List ℕ → Type 0
ReadsOn res a b c bytes = MatchResult res (λ more. GoesOn more a b c bytes) (λ fault. Stops a b bytes fault)

-- a chunk more takes one of the calls that may still be
abbrev pub IsFewer : Result Bool Fault → Chunks → Chunks → Type 0
IsFewer res c d = MatchResult res (λ more. more ≡ true → d.calls_left < c.calls_left) (λ _. ⊤)

-- it gave the front of the buffer, or nothing; only a failure is counted as one, and only a call that gave no byte before the end as empty
abbrev pub HasRead : Reading → SourceState → SourceState → List ℕ → Type 0
HasRead End s t buffer = HasGiven s t 1 [] × (t.failed ≡ s.failed) × IsAtEnd t.remaining × (t.empty ≡ s.empty)
HasRead (Bytes count) s t buffer = HasGiven s t 1 (take count buffer) × (t.failed ≡ s.failed)
    × (count ≤ length buffer) × (t.empty ≡ counted s.empty (1 - count))
HasRead Failure s t buffer = HasGiven s t 1 [] × Rose s.failed t.failed × (t.empty ≡ s.empty)

-- of the bytes alone: it gave the front of the buffer, or nothing
abbrev pub ReadsBytes : Reading → Option (List ℕ) → Option (List ℕ) → List ℕ → Type 0
ReadsBytes End s t buffer = Consumes s t [] × IsAtEnd t
ReadsBytes (Bytes count) s t buffer = Consumes s t (take count buffer) × (count ≤ length buffer)
ReadsBytes Failure s t buffer = Consumes s t []

-- `ReadsBytes` with its counts, where it counts
abbrev pub HasReadIf : (counts : Bool) → Reading → SourceState → SourceState → List ℕ → Type 0
HasReadIf true r s t buffer = HasRead r s t buffer
HasReadIf false r s t buffer = ReadsBytes r s.remaining t.remaining buffer

-- the state of an input: its counts where it counts, else others
abbrev pub state_of : (counts : Bool) → SourceState → (failed calls given empty : ℕ) → SourceState
state_of counts below failed calls given empty = record {
  remaining = below.remaining;
  failed = count_of counts below.failed failed;
  calls = count_of counts below.calls calls;
  given = count_of counts below.given given;
  empty = count_of counts below.empty empty;
}
