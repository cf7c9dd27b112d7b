-- What came of pages.
use Rattle.std.proofs.Common.{◌≡◌, ℕ, Bool, true, false, List, [], ◌∷◌, inl, inr, ◌++◌, Option, Some, None, Result, Ok, Err, refl, sym, ap, ◌∙◌, subst, length, take, drop, ◌<◌, ◌≤◌, append-nil, append_assoc, arith, map, ◌+◌, ◌-◌, zero, suc}
use Rattle.std.specs.Prelude.{⊤, IsOk, IsSorted, MatchResult, ◌⊎◌, ◌&&◌, ◌||◌, ◌==◌, codes, decimal, nat_eq}
use Rattle.std.specs.Int.{is_in_range}
use Rattle.std.specs.Ordering.{is_lt}
use Rattle.std.specs.declared.cmp.Ordering.{Ordering}
use lib.Pointwise.{pointwise}
use borrow.Rule.Slice.PartMut.{mid_of, put_mid}
use Rattle.std.proofs.Math.Seq.{take-append-add}
use Rattle.std.proofs.KnownBytes.{Consumes-trans}
use Rattle.std.proofs.lemmas.Bool.Decides.{nat_tests}
use Rattle.std.proofs.lemmas.Slice.{take-put_mid}
use Rattle.std.specs.Io.KnownBytes.{Consumes, IsAtEnd, append_known, prepend_known}
use Rattle.std.specs.declared.io.ErrorKind.{ErrorKind}
use Rattle.std.proofs.lemmas.List.{take-append-le, drop-append-le, length-take, length-drop, length-append, take-take, get_or-map, length-map, drop_at, take_at}
use Rattle.page_core_base.specs.declared.faults.Fault.{Fault}
use Rattle.page_core_base.specs.declared.faults.Fault.TheVariants.{WriteText}
use Rattle.page_core_base.specs.declared.page_settings.Settings.{Settings as PageSettings}
use Rattle.page_core_base.specs.Settings.{IsGood, IsIndent}
use Rattle.page_core_base.specs.Texts.{IsLine}
use Rattle.std.proofs.lemmas.Str.{IsUtf8-nil}
use Rattle.page_core_streams.specs.Streams.{Grows}
use Rattle.page_engine_index.specs.declared.records.Record.{Record as PageRecord}
use Rattle.page_core_streams.specs.laws.Views.{Grows-nil}
use Rattle.mandoc_programs.specs.declared.pages.Tally.{Tally}
use Rattle.mandoc_programs.specs.declared.bearings.Bearing.{Bearing}
use Rattle.mandoc_programs.specs.declared.bearings.Bearing.TheVariants.{NoFault, LeavesOut, KeepsOld}
use Rattle.mandoc_programs.specs.declared.pages.Form.{Form}
use Rattle.mandoc_programs.specs.declared.pages.Form.TheVariants as form
use Rattle.mandoc_programs.specs.Compressed.{begins_blocks, is_compressed, is_gzip, is_xz, is_bzip2, is_zstd}
use Rattle.mandoc_formats.specs.Formats.{Tells, line_about, line_end, shown}
use Rattle.mandoc_programs.specs.Indexes.{Ends, Index, IsAnswered, IsCompressed, IsPlain, OfUnlisted, lost, Part, PutsIn, ReadsPage, Said, after, compressed_line, compressed_text, first_line, puts, unlisted_text}
use Rattle.mandoc_formats.specs.Turns.{Does}
use Rattle.mandoc_programs.specs.Commands.{FrontCame}
use Rattle.std.specs.Str.{chars}
use Rattle.std.specs.Str.Lossy.{utf8_valid_len, utf8_invalid_len}
use Rattle.mandoc_programs.specs.Searches.{shown_parts}

pub lost_so : (form : Form) (P : Type 0) → P → lost form P
lost_so form.Printed P p = p
lost_so form.Index P p = tt

pub said : (failed : Type 0) (line : List ℕ) (end result : Result Tally Fault) (a c d : Option (List ℕ)) → Tells failed c d line → result ≡ end
    → Does (Said failed line end) result a a c d
said failed line end result a c d g e =
    (record { out = []; err = g.part; end = end }, record { out = refl; err = g.told; ended = refl }, Grows-nil a, g.grows, sym e)

pub quiet : (end result : Result Tally Fault) (a c : Option (List ℕ)) → result ≡ end → Does (Ends end) result a a c c
quiet end result a c e =
    (record { out = []; err = []; end = end }, record { out = refl; err = inl refl; ended = refl }, Grows-nil a, Grows-nil c, sym e)

-- a folder that can't be listed
pub unlisted : (failed : Type 0) (form : Form) (path : List ℕ) (kind : ErrorKind) (bearing : Bearing) (result : Result Tally Fault) (a c d : Option (List ℕ)) → (bearing ≡ NoFault → ⊥)
    → Tells failed c d (line_about (shown path) (unlisted_text kind)) → result ≡ after form bearing → Does (OfUnlisted failed form path kind bearing) result a a c d
unlisted failed form path kind NoFault result a c d n g e = absurd (n refl)
unlisted failed form path kind LeavesOut result a c d n g e = said failed _ (after form LeavesOut) result a c d g e
unlisted failed form path kind KeepsOld result a c d n g e = said failed _ (after form KeepsOld) result a c d g e

-- ---- the first bytes of a page

take_both : (n m : ℕ) (xs ys : List ℕ) → length xs ≡ n → take (n + m) (xs ++ ys) ≡ xs ++ take m ys
take_both n m xs ys e = subst (λ (k : ℕ). take (k + m) (xs ++ ys) ≡ xs ++ take m ys) e (take-append-add xs ys m)

begins : (needle head rest : List ℕ) → length needle ≤ length head → pointwise nat_eq needle (take (length needle) (head ++ rest)) ≡ pointwise nat_eq needle (take (length needle) head)
begins needle head rest h = ap (pointwise nat_eq needle) (take-append-le (length needle) head rest h)

same_blocks : (bytes rest : List ℕ) → 7 ≤ length bytes → begins_blocks (bytes ++ rest) ≡ begins_blocks bytes
same_blocks [] rest h = absurd (omega (arith, h))
same_blocks (size ∷ bytes) rest h =
    let block = begins (0x31 ∷ 0x41 ∷ 0x59 ∷ 0x26 ∷ 0x53 ∷ 0x59 ∷ []) bytes rest (omega (arith, h)) in
    let end = begins (0x17 ∷ 0x72 ∷ 0x45 ∷ 0x38 ∷ 0x50 ∷ 0x90 ∷ []) bytes rest (omega (arith, h)) in
    λ i. is_in_range 49 57 size && (block i || end i)

same_head : (head rest : List ℕ) → 10 ≤ length head → is_compressed (head ++ rest) ≡ is_compressed head
unfolding is_compressed
same_head head rest h =
    let gzip : is_gzip (head ++ rest) ≡ is_gzip head = begins (0x1F ∷ 0x8B ∷ []) head rest (omega (arith, h)) in
    let xz : is_xz (head ++ rest) ≡ is_xz head = begins (0xFD ∷ 0x37 ∷ 0x7A ∷ 0x58 ∷ 0x5A ∷ 0 ∷ []) head rest (omega (arith, h)) in
    let front = begins (codes "BZh") head rest (omega (arith, h)) in
    let blocks : begins_blocks (drop 3 (head ++ rest)) ≡ begins_blocks (drop 3 head) =
    ap begins_blocks (drop-append-le 3 head rest (omega (arith, h))) ∙ same_blocks (drop 3 head) rest (omega (arith, h, length-drop 3 head)) in
    let bzip2 : is_bzip2 (head ++ rest) ≡ is_bzip2 head = λ i. front i && blocks i in
    let zstd : is_zstd (head ++ rest) ≡ is_zstd head = begins (0x28 ∷ 0xB5 ∷ 0x2F ∷ 0xFD ∷ []) head rest (omega (arith, h)) in
    λ i. gzip i || (xz i || (bzip2 i || zstd i))

whole_or_ten : (head rest : List ℕ) → (length head < 10 → rest ≡ []) → is_compressed (head ++ rest) ≡ is_compressed head
whole_or_ten head [] h = ap is_compressed (append-nil head)
whole_or_ten head (byte ∷ rest) h = same_head head (byte ∷ rest) (let n : length head < 10 → ⊥ = λ l. (let e = h l in cc) in omega (arith, n))

-- more of them are read
pub read_more : (a b c : Option (List ℕ)) (head buffer : List ℕ) (count more : ℕ) → count ≤ length head → length buffer ≡ length (mid_of count (length head - count) head) → more ≤ length buffer
    → Consumes a b (take count head) → Consumes b c (take more buffer)
    → (count + more ≤ length (put_mid count (length head - count) head buffer)) × Consumes a c (take (count + more) (put_mid count (length head - count) head buffer))
read_more a b c head buffer count more within same some h k =
    let room : length buffer ≡ length head - count = omega (arith, same, length-take (length head - count) (drop count head), length-drop count head) in
    let all = put_mid count (length head - count) head buffer in
    let front : take (count + length buffer) all ≡ take count head ++ buffer = take-put_mid count (length head - count) head buffer (count + length buffer) refl within in
    let long : length (take (count + length buffer) all) ≡ count + length buffer =
    ap length front ∙ omega (arith, length-append (take count head) buffer, length-take count head, within) in
    let both = sym (take-take (count + more) (count + length buffer) all (omega (arith, some)))
    ∙ (ap (take (count + more)) front ∙ take_both count more (take count head) buffer (omega (arith, length-take count head, within))) in
    (omega (arith, long, length-take (count + length buffer) all, some), subst (λ (l : List ℕ). Consumes a c l) (sym both) (Consumes-trans a b c (take count head) (take more buffer) h k))

-- they tell whether it is compressed
pub head_tells : (before left : Option (List ℕ)) (buffer : List ℕ) (count : ℕ) (answer : Bool) → length buffer ≡ 10 → count ≤ length buffer
    → Consumes before left (take count buffer) → (count < length buffer → IsAtEnd left) → is_compressed (take count buffer) ≡ answer → IsCompressed before answer
head_tells None left buffer count answer ten most h end e = tt
head_tells (Some all) None buffer count answer ten most h end e = absurd h
head_tells (Some all) (Some rest) buffer count answer ten most h end e =
    let few : length (take count buffer) < 10 → rest ≡ [] = λ l. end (omega (arith, l, length-take count buffer, ten, most)) in
    ap is_compressed h ∙ (whole_or_ten (take count buffer) rest few ∙ e)

-- and are read as the front of the page
pub reads_after : (before left : Option (List ℕ)) (head : List ℕ) (result : Result (Option PageRecord) Fault) → Consumes before left head
    → ReadsPage (prepend_known head left) result → ReadsPage before result
reads_after None left head result h r =
    record { settings = r.settings; plain = r.plain; bytes = r.bytes; left = r.left; read = tt; reads = r.reads }
reads_after (Some all) None head result h r = absurd h
reads_after (Some all) (Some rest) head result h r = subst (λ (bytes : List ℕ). ReadsPage (Some bytes) result) (sym h) r

pub plain_good : (s : PageSettings) → IsPlain s → IsGood s
plain_good s p = record {
  width = record { least = omega (arith, p.width); most = omega (arith, p.width) };
  indent = subst IsIndent (sym p.indent) tt;
  os = subst IsLine (sym p.os) (record { utf8 = IsUtf8-nil; bounded = omega arith; plain = refl });
}

-- names in order
pub sorted_map : {X : Type 0} (f : X → List ℕ) (cmp : List ℕ → List ℕ → Ordering) (xs : List X) → IsSorted (λ x y. cmp (f x) (f y)) xs → IsSorted cmp (map f xs)
sorted_map f cmp [] h k d z l = absurd (omega (arith, l))
sorted_map f cmp (x ∷ xs) h k d z l =
    let l' : k + 1 < length (x ∷ xs) = omega (arith, l, length-map (x ∷ xs) f) in
    let k' : k < length (x ∷ xs) = omega (arith, l') in
    (λ i. is_lt (cmp (get_or-map f (x ∷ xs) (k + 1) x d l' i) (get_or-map f (x ∷ xs) k x d k' i))) ∙ h k x z l'

-- by the answer of a call
pub said_or : (answer : Bool) (P Q : Type 0) → (answer ≡ true → P) → (answer ≡ false → Q) → P ⊎ Q
said_or true P Q f h = inl (f refl)
said_or false P Q f h = inr (h refl)

-- ---- the index of a directory

-- an index that is whole takes its name, or can't
pub answered_on : (end : Result Tally Fault) (tally : Tally) (result : Result Tally Fault) → IsAnswered ⊤ end (Ok tally) → (result ≡ Ok tally) ⊎ (result ≡ Err WriteText)
    → IsAnswered ⊤ end result
answered_on end tally result (inl e) (inl r) = inl (e ∙ sym r)
answered_on end tally result (inl e) (inr r) = inr (subst (λ (x : Result Tally Fault). IsOk x) (sym e) refl, r, tt)
answered_on end tally result (inr x) r = absurd (let e = x.1 in cc)

pub whole_index : (a b : Option (List ℕ)) (rest more : List ℕ) → a ≡ Some [] → rest ≡ [] → Grows (append_known a []) (append_known b rest) more → b ≡ Some more
whole_index None b rest more e n g = absurd (cc)
whole_index (Some xs) None rest more e n g = absurd g
whole_index (Some xs) (Some ys) rest more e n g =
    let empty : xs ≡ [] = cc in
    ap Some (sym (append-nil ys) ∙ (ap (λ l. ys ++ l) (sym n) ∙ (g ∙ ap (λ l. (l ++ []) ++ more) empty)))

pub put_on : (result : Result Tally Fault) (before after : Option (List Index)) (begun : Option (List ℕ)) (dir : List ℕ) (contents : Option (List ℕ)) (part : Part)
    → MatchResult result (λ _. PutsIn true before after begun contents) (λ _. Grows before after [])
    → ((begun ≡ Some dir) × (contents ≡ Some (first_line ++ part.out))) ⊎ (before ≡ None) → Grows before after (puts form.Index dir part result)
put_on (Ok tally) before after begun dir contents part h (inl e) = h dir (first_line ++ part.out) e.0 e.1
put_on (Ok tally) before after begun dir contents part h (inr e) = subst (λ (b : Option (List Index)). Grows b after (puts form.Index dir part (Ok tally))) (sym e) tt
put_on (Err why) before after begun dir contents part h k = h

-- ---- pages that are compressed

-- how many
pub count_line : (count : ℕ) → (count ≡ 1 → ⊥) → line_end [] (compressed_text count) ≡ codes ": " ++ (decimal count ++ codes " compressed pages passed over\n")
count_line count n =
    let e : (count == 1) ≡ false = grind (arith, nat_tests) in
    rw e (ap (λ l. codes ": " ++ l) (append_assoc (decimal count) (codes " compressed pages passed over") (10 ∷ [])))

pub some_compressed : (name : List ℕ) (count : ℕ) → (count ≡ 0 → ⊥) → compressed_line name count ≡ line_about name (compressed_text count)
some_compressed name count n = let e : (count == 0) ≡ false = grind (arith, nat_tests) in rw e refl

-- ---- What came through a buffer, in which nothing waited before.

pub front_came : (a b : Option (List ℕ)) (waits rest all : List ℕ) → waits ≡ [] → Grows (append_known a waits) (append_known b rest) all → FrontCame a b all
front_came None b waits rest all n h = (rest, tt)
front_came (Some xs) None waits rest all n h = absurd h
front_came (Some xs) (Some ys) waits rest all n h = (rest, h ∙ ap (λ l. l ++ all) (ap (λ l. xs ++ l) n ∙ append-nil xs))

pub all_came : (a b : Option (List ℕ)) (waits rest all : List ℕ) → waits ≡ [] → rest ≡ [] → Grows (append_known a waits) (append_known b rest) all → Grows a b all
all_came None b waits rest all n e h = tt
all_came (Some xs) None waits rest all n e h = absurd h
all_came (Some xs) (Some ys) waits rest all n e h =
    sym (ap (λ l. ys ++ l) e ∙ append-nil ys) ∙ (h ∙ ap (λ l. l ++ all) (ap (λ l. xs ++ l) n ∙ append-nil xs))

-- ---- Names of files as they are shown.

-- a text and what is no text come off the front
pub parts_more : (most : ℕ) (bytes text other rest : List ℕ) → bytes ≡ text ++ (other ++ rest) → length text ≡ utf8_valid_len bytes
    → length other ≡ utf8_invalid_len (drop (utf8_valid_len bytes) bytes) → length rest < length bytes → length bytes ≤ most
    → (fewer : ℕ) × (length rest ≤ fewer) × (shown_parts most bytes ≡ (shown text ++ other) ++ shown_parts fewer rest)
parts_more zero bytes text other rest parts valid invalid less within = absurd (omega (arith, less, within))
parts_more (suc fewer) bytes text other rest parts valid invalid less within =
    let n = utf8_valid_len bytes in
    let m = utf8_invalid_len (drop n bytes) in
    let front : take n bytes ≡ text = ap (take n) parts ∙ take_at text (other ++ rest) n valid in
    let after : drop n bytes ≡ other ++ rest = ap (drop n) parts ∙ drop_at text (other ++ rest) n valid in
    let middle : take m (drop n bytes) ≡ other = ap (take m) after ∙ take_at other rest m invalid in
    let back : drop m (drop n bytes) ≡ rest = ap (drop m) after ∙ drop_at other rest m invalid in
    (fewer, omega (arith, less, within), (λ i. shown (front i) ++ (middle i ++ shown_parts fewer (back i))) ∙ sym (append_assoc (shown text) other (shown_parts fewer rest)))

-- nothing is left
nil_take : (n : ℕ) → take {A = ℕ} n [] ≡ []
nil_take zero = refl
nil_take (suc n) = refl

nil_drop : (n : ℕ) → drop {A = ℕ} n [] ≡ []
nil_drop zero = refl
nil_drop (suc n) = refl

shown_nil : shown [] ≡ []
unfolding chars
shown_nil = refl

pub parts_none : (most : ℕ) (bytes : List ℕ) → length bytes ≡ 0 → shown_parts most bytes ≡ []
parts_none zero bytes none = refl
parts_none (suc fewer) (byte ∷ bytes) none = absurd (omega (arith, none))
parts_none (suc fewer) [] none =
    let n = utf8_valid_len [] in
    let m = utf8_invalid_len (drop n []) in
    (λ i. shown (nil_take n i) ++ (take m (nil_drop n i) ++ shown_parts fewer (drop m (nil_drop n i))))
    ∙ ((λ i. shown_nil i ++ (nil_take m i ++ shown_parts fewer (nil_drop m i))) ∙ parts_none fewer [] refl)

-- ---- a row
