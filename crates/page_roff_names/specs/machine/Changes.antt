-- The changes of one set of names beside the other: the code's own form of them. Trust needs no reading of it.
use Rattle.std.specs.Prelude.{◌≡◌, ◌⊎◌, ℕ, ◌+◌, ◌<◌, ◌≤◌, List, length, T, MatchOption, MatchResult, ◌*◌, take, drop, map}
use Rattle.std.specs.declared.option.Option.{Option}
use Rattle.std.specs.declared.option.Option.TheVariants.{Some, None}
use Rattle.std.specs.declared.result.Result.{Result}
use Rattle.std.specs.declared.result.Result.TheVariants.{Ok}
use Rattle.std.specs.declared.cmp.Ordering.TheVariants.{Less, Equal, Greater}
use Rattle.std.specs.FinMap.{is_sorted}
use Rattle.page_core_base.specs.Limits.{DEFS, NAMES}
use Rattle.page_core_base.specs.declared.limits.Limit.{Limit}
use Rattle.page_roff_names.specs.declared.changes.OtherSet.{OtherSet}
use Rattle.page_roff_names.specs.laws.Views.{EntriesFit, DefinitionsFit, name_at, definition_at}
use Rattle.page_roff_names.specs.Names.{Entries, size, Definitions, by_bytes, look, put, without, first_passed, Definition, definition}
use Rattle.std.specs.List.{All}
use Rattle.page_roff_names.specs.declared.rows.Part.{Part}
use Rattle.page_roff_names.specs.declared.rows.Span.{Span}

-- the limit that a definition passes, where the entries of its set would be these
abbrev pub refusal_beside : OtherSet → List ℕ → List ℕ → Entries → Option Limit
refusal_beside others name value es =
    first_passed (length name) (length es + others.names) (length value) (size es + others.bytes)

abbrev pub Settles :
    OtherSet → List ℕ → List ℕ → Entries → Entries → Result (Unit {0}) Limit → Entries → Type 0
Settles others name value wanted old result new = MatchResult result
    (λ _. (refusal_beside others name value wanted ≡ None) × (new ≡ wanted))
    (λ limit. (refusal_beside others name value wanted ≡ Some limit) × (new ≡ old))

abbrev pub RenamesBeside :
    OtherSet → List ℕ → List ℕ → Entries → Result (Unit {0}) Limit → Entries → Type 0
RenamesBeside others old_name name old result new = MatchOption (look old_name old)
    ((result ≡ Ok tt) × (new ≡ old))
    (λ d. Settles others name d.value (put name d (without old_name old)) old result new)

-- one set of names beside the other
pub record IsKept (others : OtherSet) (es : Entries) : Type 0 where
  pub sorted : T (is_sorted by_bytes es)
  pub few : length es + others.names ≤ NAMES
  pub small : size es + others.bytes ≤ DEFS
  pub fit : EntriesFit es

-- both
pub record IsStore (d : Definitions) : Type 0 where
  pub sorted : T (is_sorted by_bytes d.texts)
  pub registers_sorted : T (is_sorted by_bytes d.registers)
  pub fits : DefinitionsFit d

-- the names before the i-th are less than n
abbrev pub IsBelow : List ℕ → ℕ → Entries → Type 0
IsBelow n i es = (k : ℕ) → k < i → by_bytes n (name_at es k) ≡ Greater

-- those from the i-th on are greater
abbrev pub IsAbove : List ℕ → ℕ → Entries → Type 0
IsAbove n i es = (k : ℕ) → i ≤ k → k < length es → by_bytes n (name_at es k) ≡ Less

abbrev pub FoundAt : List ℕ → Entries → ℕ → Type 0
FoundAt n es i = by_bytes n (name_at es i) ≡ Equal

abbrev pub MissingAt : List ℕ → Entries → ℕ → Type 0
MissingAt n es i = IsBelow n i es × IsAbove n i es

abbrev pub StandsAt : List ℕ → Entries → ℕ → Type 0
StandsAt n es i = (i < length es) × (look n es ≡ Some (definition_at es i))

-- the place where that of another is left out
abbrev pub PlaceWithout : ℕ → ℕ → ℕ → Type 0
PlaceWithout place removed result = ((removed < place) × (result + 1 ≡ place)) ⊎ ((place ≤ removed) × (result ≡ place))

-- ---- How the entries are kept in one text: the code's own form of them. Trust needs no reading of it.

abbrev pub slice : List ℕ → Part → List ℕ
slice text part = take part.len (drop part.start text)

-- the entry of a span
abbrev pub entry : List ℕ → Span → List ℕ × Definition
entry text span = (slice text span.name, definition span.meaning (slice text span.value))

abbrev pub cut : List Span → List ℕ → Entries
cut spans text = map (entry text) spans

abbrev pub EndsBy : ℕ → Part → Type 0
EndsBy end part = part.start + part.len ≤ end

-- the span is of a text of this length
abbrev pub IsWithin : ℕ → Span → Type 0
IsWithin end span = EndsBy end span.name × EndsBy end span.value

-- the spans and the text of entries, the sum of their bytes, and the room that is reserved for each
pub record IsLaid (spans : List Span) (text : List ℕ) (total spans_room text_room spare_room : ℕ) : Type 0 where
  pub within : All (IsWithin (length text)) spans
  pub bytes : total ≡ size (cut spans text)
  pub few : length spans ≤ NAMES
  pub small : total ≤ DEFS
  pub names_fit : NAMES ≤ spans_room
  pub bytes_fit : 2 * DEFS ≤ text_room
  pub spare_fit : DEFS ≤ spare_room
