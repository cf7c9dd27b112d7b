-- What came of names in turn.
use Rattle.std.proofs.Common.{◌≡◌, ℕ, Bool, true, false, List, [], ◌∷◌, Option, refl, sym, ap, ◌∙◌, subst, drop, length, ◌<◌, ◌≤◌, ◌+◌, get_or, map, arith, max, nat_cmp, ◌++◌, Some, None, inl, inr, take, take-append-drop, append_assoc}
use Rattle.std.specs.Bool.{MatchBool}
use Rattle.std.proofs.lemmas.List.{drop_more, take-take, drop-take}
use Rattle.std.proofs.Math.ListN.{drop_of_length-le}
use Rattle.page_core_streams.specs.Streams.{Grows, GrowsInto}
use Rattle.page_core_streams.specs.laws.Views.{Grows-nil, Grows-append, FailsBy, Writes}
use Rattle.mandoc_formats.specs.Turns.{Came, InTurn, Does, and_then, does_stop, worse as join}
use Rattle.std.specs.Prelude.{◌==◌, codes, decimal}
use Rattle.std.specs.Ordering.{ord_max}
use Rattle.page_core_base.specs.declared.page_settings.Settings.{Settings as PageSettings}
use Rattle.page_core_base.specs.declared.page_settings.Output.{Output}
use Rattle.page_core_base.specs.declared.page_settings.Output.TheVariants as output
use Rattle.mandoc_formats.specs.declared.faults.Done.{Done}
use Rattle.mandoc_formats.specs.Formats.{Causes, File, Page, Formatted, IsFile, FormatsAll, Tells, page_out, page_err, Did, IsPutOut, HasFailed, fault_text, line_about, line_end}
use Rattle.std.specs.Io.KnownBytes.{Keeps}
use Rattle.page_core_base.specs.declared.faults.Fault.TheVariants as fault

pub at_bool : (b c : Bool) (P Q : Type 0) → b ≡ c → MatchBool c P Q → MatchBool b P Q
at_bool b c P Q e h = subst (λ (x : Bool). MatchBool x P Q) (sym e) h

-- before the first
abbrev pub start : {E : Type 0} → E → Came E
start end = record { out = []; err = []; end = end }

-- ---- a loop over names that ends at the first one that stops it

module _ {E X : Type 0} (join : E → E → E) (stops : E → Bool) (is : List ℕ → Came E → Type 0) (f : X → List ℕ) (xs : List X) (first : E) where
  -- what came of all of them
  abbrev pub All : Came E → Type 0
  All = InTurn join stops is (map f xs) (start first)

  -- what came of those before one: it is all, with what comes of the others
  pub record Passed (i : ℕ) (a b c d : Option (List ℕ)) (end : E) : Type 0 where
    pub came : Came E
    pub ended : came.end ≡ end
    pub out : Grows a b came.out
    pub err : Grows c d came.err
    pub on : (all : Came E) → InTurn join stops is (map f (drop i xs)) came all → All all

  pub passed_none : (a c : Option (List ℕ)) → Passed 0 a a c c first
  passed_none a c = record { came = start first; ended = refl; out = Grows-nil a; err = Grows-nil c; on = λ all h. h }

  module _ (i : ℕ) (a b b' c d d' : Option (List ℕ)) (end one : E) (x : X) (name : List ℕ)
      (h : Passed i a b c d end) (l : i < length xs) (n : name ≡ f (get_or xs i x)) (o : Does (is name) one b b' d d') where
    names : map f (drop i xs) ≡ name ∷ map f (drop (i + 1) xs)
    names = ap (map f) (drop_more xs i x l) ∙ ap (λ y. y ∷ map f (drop (i + 1) xs)) (sym n)

    more : (all : Came E) → MatchBool (stops one) (all ≡ and_then join h.came o.0) (InTurn join stops is (map f (drop (i + 1) xs)) (and_then join h.came o.0) all) → All all
    unfolding InTurn
    more all t =
        h.on all (subst (λ (ns : List (List ℕ)). InTurn join stops is ns h.came all) (sym names) (o.0, o.1, at_bool (stops o.0.end) (stops one) _ _ (ap stops o.4) t))

    pub passed_on : stops one ≡ false → Passed (i + 1) a b' c d' (join end one)
    passed_on k = record {
      came = and_then join h.came o.0;
      ended = λ t. join (h.ended t) (o.4 t);
      out = Grows-append a b b' h.came.out o.0.out h.out o.2;
      err = Grows-append c d d' h.came.err o.0.err h.err o.3;
      on = λ all t. more all (at_bool (stops one) false _ _ k t);
    }

    pub ended_at : stops one ≡ true → Does All (join end one) a b' c d'
    ended_at k = (
      and_then join h.came o.0,
      more (and_then join h.came o.0) (at_bool (stops one) true _ _ k refl),
      Grows-append a b b' h.came.out o.0.out h.out o.2,
      Grows-append c d d' h.came.err o.0.err h.err o.3,
      λ t. join (h.ended t) (o.4 t),
    )

  pub ended_last : (i : ℕ) (a b c d : Option (List ℕ)) (end : E) → Passed i a b c d end → length xs ≤ i → Does All end a b c d
  unfolding InTurn
  ended_last i a b c d end h l = (
    h.came,
    h.on h.came (subst (λ (ys : List X). InTurn join stops is (map f ys) h.came h.came) (sym (drop_of_length-le xs l)) refl),
    h.out,
    h.err,
    h.ended,
  )

-- ---- What came to streams, and the names of a command.

-- what several left, of which none stopped the command
abbrev pub left : ℕ → Done
left worst = record { status = worst; stops = false }

-- ---- the names of a command

pub no_names : {X : Type 0} (f : X → List ℕ) (xs : List X) (names : List (List ℕ)) → map f xs ≡ names → (length xs == 0) ≡ true → names ≡ []
no_names f [] names e t = sym e
no_names f (x ∷ xs) names e t = grind arith

pub some_names : {X : Type 0} (f : X → List ℕ) (xs : List X) (names : List (List ℕ)) → map f xs ≡ names → (length xs == 0) ≡ false → 0 < length names
some_names f [] names e t = grind arith
some_names f (x ∷ xs) names e t = subst (λ (l : List (List ℕ)). 0 < length l) e (omega arith)

pub formats_none : (finds : List ℕ → Option (Option (List ℕ)) → Type 0) (failed : Type 0) (own why : Causes) (settings : PageSettings) (names : List (List ℕ)) (input : Option (List ℕ)) (file : File)
    → names ≡ [] → Formatted failed own settings (codes "<stdin>") input file → FormatsAll finds failed own why settings names input file
unfolding FormatsAll
formats_none finds failed own why settings names input file e h = subst (λ (l : List (List ℕ)). FormatsAll finds failed own why settings l input file) (sym e) h

pub formats_some : (finds : List ℕ → Option (Option (List ℕ)) → Type 0) (failed : Type 0) (own why : Causes) (settings : PageSettings) (names : List (List ℕ)) (input : Option (List ℕ)) (file : File)
    → 0 < length names → InTurn join does_stop (IsFile finds failed why settings) names (start (left 0)) file → FormatsAll finds failed own why settings names input file
unfolding FormatsAll
formats_some finds failed own why settings [] input file l h = absurd (omega (arith, l))
formats_some finds failed own why settings (name ∷ names) input file l h = h

pub worse : (a b : ℕ) → ord_max nat_cmp a b ≡ max a b
worse a b = grind arith

pub left_so : (worst worst' : ℕ) (done : Done) → worst' ≡ ord_max nat_cmp worst done.status → done.stops ≡ false → join (left worst) done ≡ left worst'
left_so worst worst' done m e = λ i. record { status = sym (m ∙ worse worst done.status) i; stops = e i }

pub done_is : (done : Done) (status : ℕ) (stops : Bool) → done.status ≡ status → done.stops ≡ stops → done ≡ record { status = status; stops = stops }
done_is done status stops e f = λ i. record { status = e i; stops = f i }

-- ---- what is known below the status of a failure

pub none_below : (status : ℕ) (put_out : Type 0) → status ≡ 6 → status < 6 → put_out
none_below status put_out e l = absurd (omega (arith, e, l))

-- rows and messages where the messages are not wanted alone
pub plain_out : (page : Page) (kind : Output) → (kind ≡ output.Lint → ⊥) → (page_out kind page ≡ page.rows) × (page_err kind page ≡ page.notes)
plain_out page output.Lint n = absurd (n refl)
plain_out page _ n = (refl, refl)

pub put_out_last : (worst worst' status : ℕ) (a b : List ℕ) → worst' ≡ ord_max nat_cmp worst status → IsPutOut status a b → IsPutOut worst' a b
put_out_last worst worst' status a b m h l = let e = m ∙ worse worst status in h (omega (arith, e, l))

-- a line about a file came, or a front of it
pub reported : (is : File → Type 0) (done : Done) (a c d : Option (List ℕ)) (text : List ℕ) (put_out failed : Type 0) (line : Tells failed c d text)
    → is (record { out = []; err = line.part; end = done }) → done.status ≡ 6 → Did is done a a c d put_out
reported is done a c d text put_out failed line it six =
    (record { out = []; err = line.part; end = done }, it, Grows-nil a, line.grows, refl, none_below done.status put_out six)

pub past_first : {X : Type 0} (xs : List X) (i : ℕ) → (length xs == 0) ≡ false → length xs ≤ i → 0 < i
past_first [] i t h = grind arith
past_first (x ∷ xs) i t h = omega (arith, h)

-- ---- Bytes that wait for a writer.

pub take_plus : (n m : ℕ) (xs : List ℕ) → n + m ≤ length xs → take n xs ++ take m (drop n xs) ≡ take (n + m) xs
take_plus n m xs h =
    ap (λ l. l ++ take m (drop n xs)) (sym (take-take n (n + m) xs (omega arith)))
    ∙ (ap (λ l. take n (take (n + m) xs) ++ l) (sym (drop-take n m xs)) ∙ take-append-drop n (take (n + m) xs))

pub keeps_grown : (a b c : Option (List ℕ)) (xs : List ℕ) → Grows a b xs → Keeps b c → Grows a c xs
keeps_grown None b c xs g k = tt
keeps_grown (Some us) None c xs g k = absurd g
keeps_grown (Some us) (Some vs) None xs g k = absurd k
keeps_grown (Some us) (Some vs) (Some ws) xs g k = k ∙ g

-- a writer whose failures are not counted
pub uncounted : {S : Type 0} (failures : S → ℕ) (s : S) → HasFailed false failures
uncounted failures s = record { before = s; after = s; rose = tt }

-- a call that failed
pub failed_by : {S : Type 0} (counts : Bool) (failures : S → ℕ) (r : Bool) (s t : S) → FailsBy counts r (failures s) (failures t) → r ≡ false → HasFailed counts failures
failed_by counts failures true s t h e = absurd (cc)
failed_by counts failures false s t h e = record { before = s; after = t; rose = h }

-- ---- several writes

pub writes_on : (r : Bool) (a b c : Option (List ℕ)) (xs ys : List ℕ) → Grows a b xs → Writes r b c ys → Writes r a c (xs ++ ys)
writes_on true a b c xs ys g w = Grows-append a b c xs ys g w
writes_on false a b c xs ys g w = record {
  done = xs ++ w.done;
  rest = w.rest;
  parts = ap (λ l. xs ++ l) w.parts ∙ sym (append_assoc xs w.done w.rest);
  grows = Grows-append a b c xs w.done g w.grows;
}

pub ended_before : (a b : Option (List ℕ)) (xs ys : List ℕ) → GrowsInto a b xs → GrowsInto a b (xs ++ ys)
ended_before a b xs ys h = record { done = h.done; rest = h.rest ++ ys; parts = ap (λ l. l ++ ys) h.parts ∙ append_assoc h.done h.rest ys; grows = h.grows }

pub tells : (r : Bool) (failed : Type 0) (a b : Option (List ℕ)) (xs : List ℕ) → Writes r a b xs → (r ≡ false → failed) → Tells failed a b xs
tells true failed a b xs w f = record { part = xs; told = inl refl; grows = w }
tells false failed a b xs w f = record { part = w.done; told = inr (f refl, (w.rest, w.parts)); grows = w.grows }

-- ---- lines about files

-- of what has a name below a directory
pub line_parts : (dir name text : List ℕ) → line_about (dir ++ name) text ≡ (codes "mandoc: " ++ dir) ++ line_end name text
line_parts dir name text = ap (λ l. codes "mandoc: " ++ l) (append_assoc dir name (codes ": " ++ (text ++ 10 ∷ [])))

-- of a line of an index
pub bad_line : (name : List ℕ) (line : ℕ) → line_end name (fault_text (fault.BadIndex line)) ≡ name ++ (codes ": line " ++ (decimal line ++ codes ": bad index\n"))
bad_line name line = ap (λ l. name ++ (codes ": line " ++ l)) (append_assoc (decimal line) (codes ": bad index") (10 ∷ []))
