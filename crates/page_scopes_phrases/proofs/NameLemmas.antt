-- Texts in columns, cell by cell: helpers of proofs.
use Rattle.std.proofs.Common.{◌≡◌, ℕ, zero, suc, ◌+◌, ◌<◌, ◌≤◌, ◌==◌, nat_lt, ◌&&◌, Bool, true, false, not, List, [], ◌∷◌, ◌++◌, length, take, drop, get_or, refl, sym, ap, subst, ◌∙◌, append_assoc, arith, inl, inr, length-drop, None, Some, if◌then◌else◌, ◌||◌, map}
use Rattle.std.specs.List.{prefix_len}
use Rattle.std.proofs.lemmas.Bool.{cases_Bool}
use Rattle.std.proofs.lemmas.Bool.Decides.{nat_tests}
use Rattle.std.proofs.lemmas.List.{drop_more, drop_all}
use Rattle.page_core_base.specs.Bytes.{is_white, begins_white}
use Rattle.page_core_base.specs.laws.Views.{CameUpTo}
use Rattle.page_core_base.specs.Rows.{Item}
use Rattle.page_core_escapes.specs.Tokens.{is_space, token_at, token_len, tokens_of, TextToken, white, plain, quotes, escaped, token_bytes, tokens_len}
use Rattle.page_core_escapes.proofs.Unwinding.{tokens_more, tokens_none, len_within}
use Rattle.page_scopes_phrases.specs.LineWords.{after_tab, before_blanks, before_tab, cell, cells_within, first_part, has_tab, other_cells, other_cells_text, span, span_of, tab_in, white_columns, with_more, tab_step}
use Rattle.page_sets_lines.specs.laws.Views.{FitsAt}
use Rattle.page_scopes_phrases.specs.laws.Views.{GivesOutcome}
use Rattle.page_scopes_phrases.specs.Phrases.{EventOutcome, followed_by, nothing}
use Rattle.page_scopes_phrases.specs.declared.cells.CellSpan.{CellSpan}
use Rattle.page_scopes_phrases.specs.declared.phrases.Phrase.{Phrase}
use Rattle.page_scopes_phrases.specs.declared.formatting.Formatting.{Formatting}
use Rattle.std.proofs.Math.Seq.{drop-cons}
use Rattle.page_core_base.specs.declared.cells.Font.{Font}
use Rattle.page_core_base.specs.declared.places.Place.{Place}
use Rattle.page_core_escapes.specs.Meanings as meanings
use Rattle.page_core_escapes.specs.Meanings.{Meaning}
use Rattle.page_core_escapes.specs.laws.Views.{begins_word}
use Rattle.page_scopes_words.specs.declared.fonts.Fonts.{Fonts}
use Rattle.page_scopes_words.specs.declared.settings.Setting.{Setting}
use Rattle.page_scopes_words.specs.Fonts.{fonts_after}
use Rattle.page_scopes_words.specs.Words.{blank_text}
use Rattle.page_scopes_words.proofs.RunEndLemmas.{count-within, front_fits}
use Rattle.page_scopes_text.proofs.PartedLemmas.{white_front, white_some, word_some}
use Rattle.page_scopes_phrases.specs.Names.{part_items}
use Rattle.page_scopes_phrases.specs.declared.kept_names.Known.TheVariants.{Blanks, Nothing, White, Plain}
use Rattle.page_scopes_phrases.specs.declared.kept_names.NamePart.{NamePart}
use Rattle.page_scopes_phrases.specs.machine.NameParts.{meaning_known, part_of, parts_of, token_known}
use Rattle.std.proofs.Math.Logic.{∥∥₁_elim}
use Rattle.std.specs.Coded.{le_prop}
use Rattle.page_core_base.specs.Limits.{FIELD}
use Rattle.page_core_base.specs.Messages.{text_front}
use Rattle.page_scopes_phrases.specs.declared.kept_texts.KeptText.{KeptText}

pub is_before : (m n : ℕ) → m < n → nat_lt m n ≡ true
is_before m n h = grind (arith, nat_tests, h)

-- ---- the first cell, token by token

pub tab_found : (quoted : Bool) (text : List ℕ) (n k : ℕ) → 0 < n → n ≡ token_len quoted text → tab_in (token_at quoted text) ≡ Some k
    → before_tab (tokens_of quoted text) ≡ k
tab_found quoted text n k some e h = ap before_tab (tokens_more quoted text n some e) ∙ (rw h refl)

pub tab_more : (quoted : Bool) (text : List ℕ) (n : ℕ) → 0 < n → n ≡ token_len quoted text → tab_in (token_at quoted text) ≡ None
    → before_tab (tokens_of quoted text) ≡ n + before_tab (tokens_of quoted (drop n text))
tab_more quoted text n some e h = grind (arith, tokens_more)

pub tab_none : (quoted : Bool) (text : List ℕ) → length text ≤ 0 → before_tab (tokens_of quoted text) ≡ 0
tab_none quoted text h = ap before_tab (tokens_none quoted text h)

pub blanks_found : (quoted : Bool) (text : List ℕ) (n k : ℕ) → 0 < n → n ≡ token_len quoted text → tab_in (token_at quoted text) ≡ Some k
    → before_blanks (tokens_of quoted text) ≡ 0
blanks_found quoted text n k some e h = ap before_blanks (tokens_more quoted text n some e) ∙ (rw h refl)

pub blanks_none : (quoted : Bool) (text : List ℕ) → length text ≤ 0 → before_blanks (tokens_of quoted text) ≡ 0
blanks_none quoted text h = ap before_blanks (tokens_none quoted text h)

blanks_more : (quoted : Bool) (text : List ℕ) (n : ℕ) → 0 < n → n ≡ token_len quoted text → tab_in (token_at quoted text) ≡ None
    → before_blanks (tokens_of quoted text) ≡ with_more (token_at quoted text) (before_blanks (tokens_of quoted (drop n text)))
blanks_more quoted text n some e h = ap before_blanks (tokens_more quoted text n some e) ∙ (rw h refl)

drop-first : (n b : ℕ) (bs : List ℕ) → drop (1 + n) (b ∷ bs) ≡ drop n bs
drop-first n b bs = let s : 1 + n ≡ suc n = omega arith in ap (λ k. drop k (b ∷ bs)) s

take-first : (n b : ℕ) (bs : List ℕ) → take (1 + n) (b ∷ bs) ≡ b ∷ take n bs
take-first n b bs = let s : 1 + n ≡ suc n = omega arith in ap (λ k. take k (b ∷ bs)) s

-- blanks up to a tab at a text's front: they are the front of its white space
ahead : (text rest : List ℕ) → drop (prefix_len (λ byte. byte == 32) text) text ≡ 9 ∷ rest
    → (prefix_len (λ byte. not (byte == 9)) (take (prefix_len is_white text) text) ≡ prefix_len (λ byte. byte == 32) text)
    × (prefix_len (λ byte. byte == 32) text < length (take (prefix_len is_white text) text))
    × (begins_white text ≡ true)
ahead [] rest h = absurd (grind (arith, ap length h))
ahead (b ∷ bs) rest h = elim (cases_Bool (b == 32)) [
  | inl e ↦
      let no : (b == 9) ≡ false = grind (arith, nat_tests, e) in
      let more = ahead bs rest (sym (drop-first (prefix_len (λ byte. byte == 32) bs) b bs) ∙ (rw e at h)) in
      let len = more.0 in
      let less = more.1 in
      rw (e, take-first (prefix_len is_white bs) b bs, no) (omega (arith, len), omega (arith, less), refl)
  | inr e ↦
      let first : b ≡ 9 = ap (λ l. get_or l 0 0) (rw e at h) in
      let tab : (b == 9) ≡ true = grind (arith, nat_tests, first) in
      rw (e, tab, take-first (prefix_len is_white bs) b bs, tab) (refl, omega arith, refl)
]

-- where the first cell ends, by what is found of it and what is left
abbrev pub end_by : ℕ → ℕ → ℕ → ℕ
end_by end start more = if more == 0 then end else start + more

end_steps : (space none : Bool) (end start n more : ℕ) → 0 < n → (more == 0) ≡ none
    → end_by end start (if space && more == 0 then 0 else n + more) ≡ end_by (if space then end else start + n) (start + n) more
end_steps true true end start n more some e = rw e refl
end_steps true false end start n more some e = grind arith
end_steps false none end start n more some e = grind arith

-- one token more, which holds no tab
pub end_more : (quoted : Bool) (text : List ℕ) (n end start : ℕ) → 0 < n → n ≡ token_len quoted text → tab_in (token_at quoted text) ≡ None
    → end_by end start (before_blanks (tokens_of quoted text))
    ≡ end_by (if is_space (token_at quoted text) then end else start + n) (start + n) (before_blanks (tokens_of quoted (drop n text)))
end_more quoted text n end start some e h =
    let more = before_blanks (tokens_of quoted (drop n text)) in
    ap (end_by end start) (blanks_more quoted text n some e h ∙ ap (λ (m : ℕ). if is_space (token_at quoted text) && more == 0 then 0 else m + more) (sym e))
    ∙ end_steps (is_space (token_at quoted text)) (more == 0) end start n more some refl

either_within : (test : Bool) (m n most : ℕ) → m ≤ most → n ≤ most → (if test then m else n) ≤ most
either_within true m n most h k = h
either_within false m n most h k = k

-- where a cell ends after one token more
pub end_within : (space : Bool) (end start most found : ℕ) → found ≡ (if space then end else start) → end ≤ most → start ≤ most → found ≤ most
end_within space end start most found e h k = rw e (either_within space end start most h k)

pub span_is : (quoted : Bool) (text : List ℕ) (end tab : ℕ) → end ≡ before_blanks (tokens_of quoted text) → tab ≡ before_tab (tokens_of quoted text)
    → (let found : CellSpan = record { end = end; tab = tab } in found ≡ span_of quoted text)
span_is quoted text end tab h k = rw (h, k) refl

-- the token there: white space, and its first tab
token-ahead : (quoted : Bool) (text rest : List ℕ) → drop (prefix_len (λ byte. byte == 32) text) text ≡ 9 ∷ rest
    → (0 < token_len quoted text) × (tab_in (token_at quoted text) ≡ Some (prefix_len (λ byte. byte == 32) text))
unfolding token_at
token-ahead quoted text rest h = grind (arith, ahead, is_before)

-- the first cell of such a text
pub span-ahead : (quoted : Bool) (text : List ℕ) (blanks : ℕ) → blanks ≡ prefix_len (λ byte. byte == 32) text → blanks < length text → get_or text blanks 0 ≡ 9
    → (let found : CellSpan = record { end = 0; tab = blanks } in span_of quoted text ≡ found)
span-ahead quoted text blanks e less tab =
    let rest = drop (blanks + 1) text in
    let front : drop blanks text ≡ 9 ∷ rest = drop_more text blanks 0 less ∙ ap (λ byte. byte ∷ rest) tab in
    let token = token-ahead quoted text rest (ap (λ n. drop n text) (sym e) ∙ front) in
    let n = token_len quoted text in
    sym (span_is quoted text 0 blanks (sym (blanks_found quoted text n _ token.0 refl token.1)) (e ∙ sym (tab_found quoted text n _ token.0 refl token.1)))

-- ---- a text in cells

after_tab-shorter : (text : List ℕ) → 0 < length text → length (after_tab text) < length text
after_tab-shorter [] h = absurd (omega arith)
after_tab-shorter (byte ∷ bytes) h = grind arith

pub others-shorter : (p : Phrase (List ℕ)) → has_tab p ≡ true → length (other_cells_text (span p) p.text) < length p.text
others-shorter p h = grind (arith, length-drop, after_tab-shorter)

pub others-fit : (p : Phrase (List ℕ)) → has_tab p ≡ true → FitsAt p.column p.text → FitsAt (other_cells (span p) p).column (other_cells (span p) p).text
others-fit p h fits = grind (arith, others-shorter)

pub is_not_before : (m n : ℕ) → n ≤ m → nat_lt m n ≡ false
is_not_before m n h = grind (arith, nat_tests, h)

-- what is still to come of a text in cells, which are given to a latch
pub record CellsLeft {P O : Type 0} (left : P → O → List Item → Type 0) (start : O) (all : EventOutcome) (line : ℕ) (p : Phrase (List ℕ)) (s : Formatting)
    (out : O) : Type 0 where
  pub room : ℕ
  pub enough : length p.text ≤ room
  pub came : CameUpTo left start all.items (cells_within room line p s).items out
  pub state : all.state ≡ (cells_within room line p s).state

more-cells : (room line : ℕ) (p : Phrase (List ℕ)) (s : Formatting) → length p.text ≤ room → has_tab p ≡ true
    → (n : ℕ) × (length (other_cells_text (span p) p.text) ≤ n)
    × (cells_within room line p s ≡ followed_by (first_part (span p) line p s) (cells_within n line (other_cells (span p) p)))
unfolding cells_within
more-cells zero line p s enough h = let a = others-shorter p h in absurd (omega (arith, a, enough))
more-cells (suc n) line p s enough h = let a = others-shorter p h in (n, omega (arith, a, enough), rw h refl)

last-cell : (room line : ℕ) (p : Phrase (List ℕ)) (s : Formatting) → has_tab p ≡ false → cells_within room line p s ≡ cell line p s
unfolding cells_within
last-cell zero line p s h = refl
last-cell (suc n) line p s h = rw h refl

pub cells-go-on : {P O : Type 0} (left : P → O → List Item → Type 0) (start : O) (all : EventOutcome) (line : ℕ) (p : Phrase (List ℕ)) (s t : Formatting)
    (out next : O) → has_tab p ≡ true → CellsLeft left start all line p s out → GivesOutcome left out (first_part (span p) line p s) next t
    → CellsLeft left start all line (other_cells (span p) p) t next
cells-go-on left start all line p s t out next h before given =
    let first = first_part (span p) line p s in
    let more = more-cells before.room line p s before.enough h in
    let others = cells_within more.0 line (other_cells (span p) p) first.state in
    rw given.state (record {
      room = more.0;
      enough = more.1;
      came = λ plan rest x.
          let a = rw more.2 at (before.came plan rest x) in
          given.came plan (others.items ++ rest) (subst (λ items. left plan out items) (append_assoc first.items others.items rest) a);
      state = before.state ∙ ap (λ (o : EventOutcome). o.state) more.2;
    })

pub cells-end : {P O : Type 0} (left : P → O → List Item → Type 0) (start : O) (all : EventOutcome) (line : ℕ) (p : Phrase (List ℕ)) (s t : Formatting)
    (out last : O) → has_tab p ≡ false → CellsLeft left start all line p s out → GivesOutcome left out (cell line p s) last t → GivesOutcome left start all last t
cells-end left start all line p s t out last h before given = grind (arith, last-cell)

-- ---- white space, byte by byte

-- what is still to come of an outcome, which is given to a latch part by part
pub record OutcomeLeft {P O : Type 0} (left : P → O → List Item → Type 0) (start : O) (all next : EventOutcome) (out : O) : Type 0 where
  pub came : CameUpTo left start all.items next.items out
  pub state : all.state ≡ next.state

pub white-goes-on : {P O : Type 0} (left : P → O → List Item → Type 0) (start : O) (all : EventOutcome) (byte : ℕ) (bytes : List ℕ) (s t : Formatting)
    (out next : O) → OutcomeLeft left start all (white_columns (byte ∷ bytes) s) out → GivesOutcome left out (if byte == 9 then tab_step s else nothing s) next t
    → OutcomeLeft left start all (white_columns bytes t) next
white-goes-on left start all byte bytes s t out next before given = grind arith

-- ---- The name of the manual, token by token.

-- ---- a token that is a `\h`

pub record IsBlank (token : TextToken) (count : ℕ) : Type 0 where
  pub within : count ≤ 1000
  pub items : (literal : Bool) (gap : ℕ) (place : Place) (font : Font) → part_items literal gap place font token ≡ blank_text count font place
  pub fonts : (fonts : Setting Fonts) → fonts_after token fonts ≡ fonts

none-set : (fonts : Setting Fonts) → record { value = fonts.value; is_set = fonts.is_set || false } ≡ fonts
none-set fonts = grind arith

escape-blank : (bytes : List ℕ) (meaning : Meaning) (count : ℕ) → meaning_known meaning ≡ Blanks count → IsBlank (escaped bytes meaning) count
escape-blank bytes (meanings.blanks expression) count is = grind (arith, count-within, none-set)
escape-blank bytes _ count is = cc

pub token-blank : (token : TextToken) (count : ℕ) → token_known token ≡ Blanks count → IsBlank token count
token-blank (escaped bytes meaning) count is = escape-blank bytes meaning count is
token-blank _ count is = cc

-- ---- a token that prints nothing

pub record IsQuiet (token : TextToken) : Type 0 where
  pub items : (literal : Bool) (gap : ℕ) (place : Place) (font : Font) → part_items literal gap place font token ≡ []
  pub fonts : (fonts : Setting Fonts) → fonts_after token fonts ≡ fonts

escape-quiet : (bytes : List ℕ) (meaning : Meaning) → meaning_known meaning ≡ Nothing → IsQuiet (escaped bytes meaning)
escape-quiet bytes meanings.nothing is = record { items = λ literal gap place font. refl; fonts = none-set }
escape-quiet bytes meanings.glue is = record { items = λ literal gap place font. refl; fonts = none-set }
escape-quiet bytes meanings.unsupported is = record { items = λ literal gap place font. refl; fonts = none-set }
escape-quiet bytes meanings.bad is = record { items = λ literal gap place font. refl; fonts = none-set }
escape-quiet bytes _ is = cc

pub token-quiet : (token : TextToken) → token_known token ≡ Nothing → IsQuiet token
token-quiet (escaped bytes meaning) is = escape-quiet bytes meaning is
token-quiet _ is = cc

-- ---- a token that prints as it is written

meaning-other : (meaning : Meaning) → (meaning_known meaning ≡ White → ⊥) × (meaning_known meaning ≡ Plain → ⊥)
meaning-other (meanings.blanks expression) = ((λ is. cc), (λ is. cc))
meaning-other _ = ((λ is. cc), (λ is. cc))

token-written : (token : TextToken) → (token_known token ≡ White → white (token_bytes token) ≡ token) × (token_known token ≡ Plain → plain (token_bytes token) ≡ token)
token-written (white bytes) = ((λ is. refl), (λ is. cc))
token-written (plain bytes) = ((λ is. cc), (λ is. refl))
token-written (quotes bytes) = ((λ is. cc), (λ is. cc))
token-written (escaped bytes meaning) = ((λ is. absurd ((meaning-other meaning).0 is)), (λ is. absurd ((meaning-other meaning).1 is)))

take-own : (n : ℕ) (text : List ℕ) → take n text ≡ take (length (take n text)) text
take-own zero text = refl
take-own (suc n) [] = refl
take-own (suc n) (b ∷ text) = ap (λ bytes. b ∷ bytes) (take-own n text)

either-own : (b : Bool) (s t : TextToken) (text : List ℕ) → token_bytes s ≡ take (length (token_bytes s)) text → token_bytes t ≡ take (length (token_bytes t)) text
    → token_bytes (if b then s else t) ≡ take (length (token_bytes (if b then s else t))) text
either-own true s t text h k = h
either-own false s t text h k = k

-- its bytes are a front of the text
token-own : (text : List ℕ) → token_bytes (token_at false text) ≡ take (token_len false text) text
unfolding token_at
token-own text = grind (arith, either-own, take-own)

pub front-written : (text : List ℕ) (part : NamePart) → part ≡ part_of (token_at false text)
    → (part.known ≡ White → white (take part.len text) ≡ token_at false text) × (part.known ≡ Plain → plain (take part.len text) ≡ token_at false text)
front-written text part known = grind (arith, token-own, token-written)

-- ---- items that wait, those of a token, and the others

pub regroup : (waiting token others rest : List Item) → (waiting ++ (token ++ others)) ++ rest ≡ (waiting ++ token) ++ (others ++ rest)
regroup waiting token others rest = grind (arith, append_assoc)

-- ---- the first token of a text

token-some : (text : List ℕ) → 0 < length text → 0 < token_len false text
token-some text some = elim (cases_Bool (begins_word text)) [ inl t ↦ word_some false text t | inr f ↦ white_some false text (white_front text some f) ]

text-some : (text : List ℕ) (part : NamePart) (parts : List NamePart) → part ∷ parts ≡ parts_of text → 0 < length text
text-some [] part parts is = grind (arith, tokens_none)
text-some (b ∷ bytes) part parts is = omega arith

pub record IsFirst (text : List ℕ) (part : NamePart) (parts : List NamePart) : Type 0 where
  pub known : part ≡ part_of (token_at false text)
  pub others : parts ≡ parts_of (drop part.len text)
  pub within : part.len ≤ length text
  pub tokens : tokens_of false text ≡ token_at false text ∷ tokens_of false (drop part.len text)

pub first-part : (text : List ℕ) (part : NamePart) (parts : List NamePart) → part ∷ parts ≡ parts_of text → IsFirst text part parts
first-part text part parts is =
    let tokens = tokens_more false text (token_len false text) (token-some text (text-some text part parts is)) refl in
    let both = is ∙ ap (map part_of) tokens in
    let first : part ≡ part_of (token_at false text) = cc in
    let len : part.len ≡ token_len false text = ap (λ (p : NamePart). p.len) first in
    let all = len_within false text in
    let sum = ap tokens_len tokens in
    let within : token_len false text ≤ length text = omega (arith, all, sum) in
    let later : parts ≡ parts_of (drop (token_len false text) text) = cc in
    record {
      known = first;
      others = rw len later;
      within = rw len within;
      tokens = rw len tokens;
    }

-- ---- the parts from a place on

pub next-part : (text : List ℕ) (parts : List NamePart) (k : ℕ) (d : NamePart) → k < length parts → drop k parts ≡ parts_of text
    → IsFirst text (get_or parts k d) (drop (k + 1) parts)
next-part text parts k d within known = grind (arith, drop-cons, first-part)

none-of : (tokens : List TextToken) → [] ≡ map part_of tokens → tokens ≡ []
none-of [] is = refl
none-of (token ∷ tokens) is = cc

pub no-part : (text : List ℕ) (parts : List NamePart) (k : ℕ) → length parts ≤ k → drop k parts ≡ parts_of text → tokens_of false text ≡ []
no-part text parts k past known = none-of (tokens_of false text) (sym (drop_all k parts past) ∙ known)

-- ---- What is kept of an argument is within its limit.

pub kept_fits : (kept : KeptText) → length kept.text ≤ FIELD
kept_fits kept =
    ∥∥₁_elim kept.is_front le_prop (λ (w : (whole : List ℕ) × (kept.text ≡ text_front FIELD whole)). rw w.1 (front_fits FIELD w.0))
