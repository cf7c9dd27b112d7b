-- How what sinks were given follows one another.
use Rattle.std.proofs.Common.{◌≡◌, ℕ, suc, ◌+◌, ◌-◌, ◌<◌, List, [], ◌++◌, arith, refl, sym, ap, ◌∙◌, append_assoc, append-nil, Option, None, Some, is_some, false, Result, Ok, Err, MatchResult, ◌∷◌, ◌≤◌, length, take, drop, get_or, min, inl, inr, chars, true, not, ◌==◌}
use Rattle.page_core_base.specs.Messages.{Message, Rose, text_front}
use Rattle.page_core_base.specs.Rows.{LaidRow, Laid, join, Gave, Item, noted, ends_part, hyphen, in_first, parts_after, parts_of}
use Rattle.page_core_base.specs.laws.Views.{IsSink, UpTo, FailsAs, Gives, FailsByPieces, IsPieceFault, Emits, all_noted}
use Rattle.std.specs.Result.{result_err}
use Rattle.std.specs.Borrow.{GName}
use Rattle.page_core_base.specs.machine.Plans.{Planned, Left, TookNotes, BrokeNotes}
use Rattle.page_core_base.specs.declared.faults.Fault.{Fault}
use Rattle.page_core_base.specs.declared.faults.Fault.TheVariants.{Failed, WriteNotes}
use Rattle.std.specs.Prelude.{IsUtf8}
use Rattle.std.specs.Str.Lossy.{utf8_valid_len}
use Rattle.std.proofs.lemmas.Str.{utf8_valid_len-IsUtf8, is_utf8-from_IsUtf8, IsUtf8-from_is_utf8}
use Rattle.std.proofs.lemmas.List.{take_min, length-append, length-take, take-take, drop_all, drop_more, take_all, take_more}
use Rattle.std.proofs.Math.Seq.{take-length}
use Rattle.page_core_base.specs.Texts.{unpaired, characters_of}
use Rattle.std.specs.Str.{is_utf8}
use Rattle.std.proofs.lemmas.Bool.{cases_Bool}
use Rattle.std.specs.List.{list_all, list_any}
use Rattle.std.proofs.lemmas.Bool.Decides.{nat_tests}

pub UpTo-start : {S I : Type 0} {gave within : S → List I → S → Type 0} → IsSink gave within → (s : S) (all : List I) → UpTo gave s all all s
UpTo-start k s all = record { done = []; parts = refl; given = k.none s }

pub UpTo-more : {S I : Type 0} {gave within : S → List I → S → Type 0} → IsSink gave within → {s t : S} {all next : List I} (u : S) (part rest : List I)
    → UpTo gave s all next t → next ≡ part ++ rest → gave t part u → UpTo gave s all rest u
UpTo-more k {s} {t} u part rest w e g = record {
  done = w.done ++ part;
  parts = w.parts ∙ (ap (λ l. w.done ++ l) e ∙ sym (append_assoc w.done part rest));
  given = k.more s t u w.done part w.given g;
}

pub UpTo-within : {S I : Type 0} {gave within : S → List I → S → Type 0} → IsSink gave within → {s t : S} {all next : List I} (u : S) (part rest : List I)
    → UpTo gave s all next t → next ≡ part ++ rest → within t part u → within s all u
UpTo-within k {s} {t} u part rest w e g =
    rw (w.parts ∙ (ap (λ l. w.done ++ l) e ∙ sym (append_assoc w.done part rest))) (k.before s u (w.done ++ part) rest (k.after s t u w.done part w.given g))

pub UpTo-all : {S I : Type 0} {gave : S → List I → S → Type 0} {s t : S} {all : List I} → UpTo gave s all [] t → gave s all t
UpTo-all w = rw (w.parts ∙ append-nil w.done) w.given

-- of a count of things, one more came
pub one_less : (count i : ℕ) → i < count → count - i ≡ suc (count - (i + 1))
one_less count i h = omega arith

-- ---- two sinks

-- a front of one thing is a front of it and another
pub within-join : {R N E F : Type 0} {rg rw_ : R → List LaidRow → R → Type 0} {ng nw : N → List Message → N → Type 0} → IsSink rg rw_ → IsSink ng nw
    → (r a : R) (n b : N) (x : Laid F) (y : Laid E) → Gave rw_ nw r a n b x → Gave rw_ nw r a n b (join x y)
within-join k l r a n b x y g = record { rows = k.before r a x.rows y.rows g.rows; notes = l.before n b x.notes y.notes g.notes }

-- ---- How a latch over a sink takes items, and a whole call over a latch.

-- with no fault yet, a call of the sink gave items
pub left_given : {S L I : Type 0} {gave : S → List I → S → Type 0} {broke : S → Fault → List I → S → Type 0} {loans : S → L}
    → ((f : Fault) → IsSink gave (λ s xs t. broke s f xs t)) → {plan : Planned S L I} {name : GName} {s : S} (t : S) {fault : Option Fault}
    (r : Result (Unit {0}) Fault) (items rest : List I) → is_some fault ≡ false → Left gave broke loans plan name s fault (items ++ rest)
    → MatchResult r (λ _. gave s items t) (λ f. broke s f items t) → loans t ≡ loans s → Left gave broke loans plan name t (result_err r) rest
left_given k t {fault = None} (Ok x) items rest none h g same =
    record { same_loan = h.same_loan; same_loans = same ∙ h.same_loans; came = UpTo-more (k Failed) t items rest h.came refl g }
left_given k t {fault = None} (Err f) items rest none h g same =
    record { same_loan = h.same_loan; same_loans = same ∙ h.same_loans; came = UpTo-within (k f) t items rest h.came refl g }
left_given k t {fault = Some f} r items rest none h g same = let no : ⊥ = cc in absurd no

-- it took them, and there is still no fault
pub left_taken : {S L I : Type 0} {gave : S → List I → S → Type 0} {broke : S → Fault → List I → S → Type 0} {loans : S → L}
    → ((f : Fault) → IsSink gave (λ s xs t. broke s f xs t)) → {plan : Planned S L I} {name : GName} {s : S} (t : S) {fault : Option Fault}
    (r : Result (Unit {0}) Fault) (items rest : List I) → is_some fault ≡ false → result_err r ≡ None
    → Left gave broke loans plan name s fault (items ++ rest)
    → MatchResult r (λ _. gave s items t) (λ f. broke s f items t) → loans t ≡ loans s → Left gave broke loans plan name t fault rest
left_taken k t {fault = None} r items rest none e h g same = rw e at (left_given k t r items rest none h g same)
left_taken k t {fault = Some f} r items rest none e h g same = let no : ⊥ = cc in absurd no

-- nothing is still to come, and the latch says what it holds
pub left_done : {S L I A : Type 0} {gave : S → List I → S → Type 0} {broke : S → Fault → List I → S → Type 0} {loans : S → L}
    → {plan : Planned S L I} {name : GName} {t : S} {fault : Option Fault} (r : Result A Fault) → MatchResult r (λ _. fault ≡ None) (λ f. fault ≡ Some f)
    → Left gave broke loans plan name t fault [] → MatchResult r (λ _. gave plan.start plan.all t) (λ f. broke plan.start f plan.all t)
left_done (Ok x) e h = UpTo-all (rw e at h.came)
left_done (Err f) e h = rw e at h.came

-- a whole call: it begins with no fault, and ends with what the latch says
pub latched : {S L I A : Type 0} {gave : S → List I → S → Type 0} {broke : S → Fault → List I → S → Type 0} {loans : S → L}
    → ((f : Fault) → IsSink gave (λ s xs t. broke s f xs t)) → {name last : GName} {s t : S} {none fault : Option Fault} (items : List I)
    (r : Result A Fault) → none ≡ None
    → ((plan : Planned S L I) (rest : List I) → Left gave broke loans plan name s none (items ++ rest) → Left gave broke loans plan last t fault rest)
    → MatchResult r (λ _. fault ≡ None) (λ f. fault ≡ Some f)
    → (last ≡ name) × (loans t ≡ loans s) × MatchResult r (λ _. gave s items t) (λ f. broke s f items t)
latched k {name} {s = s} items r start came done =
    let h = came (record { name = name; start = s; loans = _; all = items }) []
    (rw start (record { same_loan = refl; same_loans = refl; came = record { done = []; parts = sym (append-nil items); given = (k Failed).none s } })) in
    (h.same_loan, h.same_loans, left_done r done h)

-- ---- over a sink of messages

rose_from : (a b c : ℕ) → b ≡ a → Rose b c → Rose a c
rose_from a b c e h = rw e at h

-- a sink that took messages and did not fail is a sink
pub note_items : {N : Type 0} {gave within : N → List Message → N → Type 0} {failed : N → ℕ} → IsSink gave within
    → (fault : Fault) → IsSink (TookNotes gave failed) (λ s notes t. BrokeNotes within failed s fault notes t)
note_items {failed = failed} k fault = record {
  none = λ s. (k.none s, refl);
  more = λ s t u xs ys g h. (k.more s t u xs ys g.0 h.0, h.1 ∙ g.1);
  after = λ s t u xs ys g h. (k.after s t u xs ys g.0 h.0, h.1, rose_from (failed s) (failed t) (failed u) g.1 h.2);
  before = λ s t xs ys h. (k.before s t xs ys h.0, h.1, h.2);
}

-- what such a sink answers to a message, in these words
pub noted_by : {N : Type 0} (gave within : N → List Message → N → Type 0) (failed : N → ℕ) (s t : N) (r : Result (Unit {0}) Fault) (notes : List Message)
    → Gives r gave within s notes t → FailsAs WriteNotes r (failed s) (failed t)
    → MatchResult r (λ _. TookNotes gave failed s notes t) (λ fault. BrokeNotes within failed s fault notes t)
noted_by gave within failed s t (Ok x) notes given fails = (given, fails)
noted_by gave within failed s t (Err fault) notes given fails = (given, fails.0, fails.1)

-- ---- How a latch over a sink of pieces takes messages, and what its faults say.

-- what a sink says of a message, it says of the item
pub heard : {S : Type 0} {gave within : S → List Message → S → Type 0} {failed : S → ℕ}
    (took : S → List Item → S → Type 0) (broke : S → Fault → List Item → S → Type 0) → ((s t : S) (xs : List Message) → gave s xs t → took s (all_noted xs) t)
    → ((s t : S) (xs : List Message) → within s xs t → Rose (failed s) (failed t) → broke s WriteNotes (all_noted xs) t)
    → (s t : S) (r : Result (Unit {0}) Fault) (message : Message) → Gives r gave within s (message ∷ []) t
    → FailsAs WriteNotes r (failed s) (failed t) → Emits r took broke s (noted message ∷ []) t
heard took broke messages fault s t (Ok x) message gives fails = messages s t (message ∷ []) gives
heard took broke messages fault s t (Err f) message gives fails = rw fails.0 (fault s t (message ∷ []) gives fails.1)

-- each fault of a whole call has its cause
pub emits_faults : {S : Type 0} {took : S → List Item → S → Type 0} {broke : S → Fault → List Item → S → Type 0} {rows notes : S → ℕ}
    → ((s t : S) (xs : List Item) → took s xs t → (rows t ≡ rows s) × (notes t ≡ notes s))
    → ((s t : S) (f : Fault) (xs : List Item) → broke s f xs t → IsPieceFault f (rows s) (rows t) (notes s) (notes t))
    → (s t : S) (items : List Item) (r : Result (Unit {0}) Fault) → Emits r took broke s items t
    → FailsByPieces r (rows s) (rows t) (notes s) (notes t)
emits_faults quiet causes s t items (Ok x) emits = quiet s t items emits
emits_faults quiet causes s t items (Err f) emits = causes s t f items emits

-- ---- Texts that are cut.

-- a front that is a text as a whole is kept
pub whole_front : (n : ℕ) (text : List ℕ) (m : ℕ) (whole : List ℕ) → m ≡ min n (length text) → whole ≡ take m text → IsUtf8 (take m text) → whole ≡ text_front n text
unfolding text_front
whole_front n text m whole e w u =
    let t : take m text ≡ take n text = ap (λ k. take k text) e ∙ take_min n text in
    let v : utf8_valid_len (take n text) ≡ length (take n text) = ap utf8_valid_len (sym t) ∙ utf8_valid_len-IsUtf8 (take m text) u ∙ ap length t in
    w ∙ t ∙ sym (ap (λ k. take k (take n text)) v ∙ take-length (take n text))

pub short_front : (n : ℕ) (text : List ℕ) (m : ℕ) (whole : List ℕ) → m ≡ min n (length text) → whole ≡ take m text → length whole ≤ n
short_front n text m whole e w = rw (w, length-take, e) (omega arith)

-- the front of a longer front
pub front_again : (n m : ℕ) (text : List ℕ) → n ≤ m → text_front n (take m text) ≡ text_front n text
unfolding text_front
front_again n m text within = rw (take-take n m text within) refl

-- one byte further on in a quoted argument
pub unpaired_step : (room : ℕ) (front rest all new : List ℕ) → length front < room → 0 < length rest → front ++ take (room - length front) (unpaired rest) ≡ all
    → unpaired (get_or rest 0 0 ∷ drop 1 rest) ≡ get_or rest 0 0 ∷ unpaired new
    → (front ++ get_or rest 0 0 ∷ []) ++ take (room - length (front ++ get_or rest 0 0 ∷ [])) (unpaired new) ≡ all
unpaired_step room front [] all new fits some e u = absurd (omega arith)
unpaired_step room front (byte ∷ bytes) all new fits some e u =
    let left : room - length front ≡ suc (room - length (front ++ byte ∷ [])) = omega (arith, length-append front (byte ∷ [])) in
    append_assoc front (byte ∷ []) (take (room - length (front ++ byte ∷ [])) (unpaired new))
    ∙ ap (λ (n : ℕ). front ++ take n (byte ∷ unpaired new)) (sym left)
    ∙ ap (λ (l : List ℕ). front ++ take (room - length front) l) (sym u)
    ∙ e

-- ---- The characters of a text, where it is UTF-8 and where it is not.

pub characters_of-text : (bytes : List ℕ) → IsUtf8 bytes → characters_of bytes ≡ chars bytes
unfolding characters_of
characters_of-text bytes u = rw (is_utf8-from_IsUtf8 bytes u) refl

pub characters_of-none : (bytes : List ℕ) → ¬ (IsUtf8 bytes) → characters_of bytes ≡ []
unfolding characters_of
characters_of-none bytes u = elim (cases_Bool (is_utf8 bytes)) [ inl t ↦ absurd (u (IsUtf8-from_is_utf8 bytes t)) | inr f ↦ rw f refl ]

-- ---- The parts of a word, byte by byte.

pub parts-end : (before b : ℕ) (bytes : List ℕ) → ends_part before b bytes ≡ true → parts_after before (b ∷ bytes) ≡ (b ∷ []) ∷ parts_after b bytes
unfolding parts_after
parts-end before b bytes ends = rw ends refl

pub parts-go : (before b : ℕ) (bytes : List ℕ) → ends_part before b bytes ≡ false → parts_after before (b ∷ bytes) ≡ in_first b (parts_after b bytes)
unfolding parts_after
parts-go before b bytes goes = rw goes refl

-- after a hyphen, at which a part ends, the parts are those of a word
pub parts-hyphen : (b : ℕ) (bytes : List ℕ) → (b == hyphen) ≡ true → parts_after b bytes ≡ parts_of bytes
parts-hyphen b bytes is = let e : b ≡ hyphen = grind (arith, nat_tests, is) in rw e refl

-- ---- a word without a hyphen

whole-after : (before b : ℕ) (bytes : List ℕ) → list_any (λ byte. byte == hyphen) (b ∷ bytes) ≡ false → parts_after before (b ∷ bytes) ≡ (b ∷ bytes) ∷ []
unfolding parts_after
whole-after before b [] none = let goes : ends_part before b [] ≡ false = grind (arith, none) in rw goes refl
whole-after before b (c ∷ bytes) none =
    let goes : ends_part before b (c ∷ bytes) ≡ false = grind (arith, none) in
    let later : list_any (λ byte. byte == hyphen) (c ∷ bytes) ≡ false = grind (arith, none) in
    rw goes (ap (in_first b) (whole-after b c bytes later))

pub whole-first : (word : List ℕ) → (length word == 0) ≡ false → list_any (λ byte. byte == hyphen) word ≡ false
    → parts_of word ≡ take (length word) word ∷ parts_of (drop (length word) word)
unfolding parts_after
whole-first [] some none = absurd (grind (arith, nat_tests, some))
whole-first (b ∷ bytes) some none =
    let all : take (length (b ∷ bytes)) (b ∷ bytes) ≡ b ∷ bytes = take_all (length (b ∷ bytes)) (b ∷ bytes) (omega arith) in
    let rest : drop (length (b ∷ bytes)) (b ∷ bytes) ≡ [] = drop_all (length (b ∷ bytes)) (b ∷ bytes) (omega arith) in
    rw (all, rest) (whole-after hyphen b bytes none)

-- ---- the first part, byte by byte

-- these bytes are in front of the first of some parts
abbrev pub put_before : List ℕ → List (List ℕ) → List (List ℕ)
put_before [] parts = parts
put_before (b ∷ bytes) parts = in_first b (put_before bytes parts)

-- the bytes before a place of a word are of its first part, and the last of them is known
pub record GoesOn (word : List ℕ) (len before : ℕ) : Type 0 where
  pub within : len ≤ length word
  pub parts : parts_of word ≡ put_before (take len word) (parts_after before (drop len word))

put-last : (front : List ℕ) (b : ℕ) (parts : List (List ℕ)) → put_before front (in_first b parts) ≡ put_before (front ++ b ∷ []) parts
put-last [] b parts = refl
put-last (c ∷ front) b parts = ap (in_first c) (put-last front b parts)

put-part : (front part : List ℕ) (parts : List (List ℕ)) → put_before front (part ∷ parts) ≡ (front ++ part) ∷ parts
put-part [] part parts = refl
put-part (c ∷ front) part parts = ap (in_first c) (put-part front part parts)

pub goes-first : (word : List ℕ) → GoesOn word 0 hyphen
goes-first word = record { within = omega arith; parts = refl }

pub goes-more : (word : List ℕ) (len before : ℕ) → len < length word → GoesOn word len before
    → ends_part before (get_or word len 0) (drop (len + 1) word) ≡ false → GoesOn word (len + 1) (get_or word len 0)
goes-more word len before within goes on =
    let b = get_or word len 0 in
    let rest = drop (len + 1) word in
    record {
      within = omega (arith, within);
      parts =
          goes.parts ∙ ap (λ (bs : List ℕ). put_before (take len word) (parts_after before bs)) (drop_more word len 0 within)
          ∙ ap (put_before (take len word)) (parts-go before b rest on)
          ∙ put-last (take len word) b (parts_after b rest)
          ∙ ap (λ (front : List ℕ). put_before front (parts_after b rest)) (sym (take_more word len 0 within));
    }

-- the part ends after the next byte
pub goes-ends : (word : List ℕ) (len before : ℕ) → len < length word → GoesOn word len before
    → ends_part before (get_or word len 0) (drop (len + 1) word) ≡ true → parts_of word ≡ take (len + 1) word ∷ parts_of (drop (len + 1) word)
goes-ends word len before within goes ends =
    let b = get_or word len 0 in
    let rest = drop (len + 1) word in
    let is : (b == hyphen) ≡ true = grind (arith, ends) in
    goes.parts ∙ ap (λ (bs : List ℕ). put_before (take len word) (parts_after before bs)) (drop_more word len 0 within)
    ∙ ap (put_before (take len word)) (parts-end before b rest ends)
    ∙ put-part (take len word) (b ∷ []) (parts_after b rest)
    ∙ ap (λ (parts : List (List ℕ)). (take len word ++ b ∷ []) ∷ parts) (parts-hyphen b rest is)
    ∙ ap (λ (front : List ℕ). front ∷ parts_of rest) (sym (take_more word len 0 within))

put-all : (b : ℕ) (bytes : List ℕ) → put_before (b ∷ bytes) [] ≡ (b ∷ bytes) ∷ []
put-all b [] = refl
put-all b (c ∷ bytes) = ap (in_first b) (put-all c bytes)

put-word : (word : List ℕ) → (length word == 0) ≡ false → put_before word [] ≡ word ∷ []
put-word [] some = absurd (grind (arith, nat_tests, some))
put-word (b ∷ bytes) some = put-all b bytes

-- the word is one part
pub goes-all : (word : List ℕ) (len before : ℕ) → (length word == 0) ≡ false → length word ≤ len → GoesOn word len before → parts_of word ≡ take len word ∷ parts_of (drop len word)
unfolding parts_after
goes-all word len before some end goes =
    let all : take len word ≡ word = take_all len word end in
    let none : drop len word ≡ [] = drop_all len word end in
    goes.parts ∙ (rw (all, none) (put-word word some))

-- ---- all parts

-- the bytes of parts
abbrev pub joined : List (List ℕ) → List ℕ
joined [] = []
joined (part ∷ parts) = part ++ joined parts

joined-front : (b : ℕ) (parts : List (List ℕ)) → joined (in_first b parts) ≡ b ∷ joined parts
joined-front b [] = refl
joined-front b (part ∷ parts) = refl

-- the parts of a word are that word
pub joined-after : (before : ℕ) (bytes : List ℕ) → joined (parts_after before bytes) ≡ bytes
unfolding parts_after
joined-after before [] = refl
joined-after before (b ∷ bytes) = elim (cases_Bool (ends_part before b bytes)) [
  | inl ends ↦ rw ends (ap (λ (bs : List ℕ). b ∷ bs) (joined-after b bytes))
  | inr goes ↦ rw goes (joined-front b (parts_after b bytes) ∙ ap (λ (bs : List ℕ). b ∷ bs) (joined-after b bytes))
]

pub joined-parts : (word : List ℕ) → joined (parts_of word) ≡ word
joined-parts word = joined-after hyphen word

-- none of them is empty
front-full : (b : ℕ) (parts : List (List ℕ)) → list_all (λ (part : List ℕ). not (length part == 0)) parts ≡ true → list_all (λ (part : List ℕ). not (length part == 0)) (in_first b parts) ≡ true
front-full b [] full = grind (arith, nat_tests)
front-full b (part ∷ parts) full = grind (arith, nat_tests, full)

pub parts-full : (before : ℕ) (bytes : List ℕ) → list_all (λ (part : List ℕ). not (length part == 0)) (parts_after before bytes) ≡ true
unfolding parts_after
parts-full before [] = refl
parts-full before (b ∷ bytes) = elim (cases_Bool (ends_part before b bytes)) [
  | inl ends ↦ let others = parts-full b bytes in rw ends (grind (arith, nat_tests, others))
  | inr goes ↦ rw goes (front-full b (parts_after b bytes) (parts-full b bytes))
]
