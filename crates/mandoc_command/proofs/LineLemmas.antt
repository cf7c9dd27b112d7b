-- The command line that `clap` is given, and what it says of the words.
use Rattle.std.proofs.Common.{ℕ, sym, ap, ap₂, ◌∙◌, ◌≡◌, true, false, map, List, [], ◌∷◌, refl, inl, inr, rules, arith, ◌^◌, ◌<◌, ◌≤◌, Result, lt-ltb, le-leb, Some, None}
use Rattle.std.proofs.lemmas.List.{length-map}
use Rattle.std.specs.List.{list_any, list_all, slice_split, position_or_len, before_first, after_first, All}
use Rattle.std.specs.Prelude.{Bool, not, ◌&&◌, ◌==◌, length, ◌⊎◌, Option, codes, option_map, unwrap_or, option_and_then}
use Rattle.clap.specs.Built.{AddsArg, AddsInTurn}
use Rattle.clap.specs.Words.{App, Row, Rule, with_rule, Kinds, IsAmong, app_of, fault_of, matched_of, raw_values, is_simple, is_simple_and_free, matches_of, rows_of}
use Rattle.clap.specs.declared.builder.command.Command.{Command}
use Rattle.clap.specs.declared.builder.arg.Arg.{Arg}
use Rattle.clap.specs.declared.error.kind.ErrorKind.{ErrorKind}
use Rattle.clap.specs.declared.error.kind.ErrorKind.TheVariants.{OutOfMemory}
use Rattle.clap.specs.declared.parser.matches.Found.{Found}
use Rattle.clap.proofs.WalkLemmas.{list_any-map, raw_values-rows}
use Rattle.mandoc_command.specs.Names.{Text, output_named, encoding_named, language_named, level_named}
use Rattle.mandoc_command.specs.Line.{HaveRules, are_words, is_empty, line, is_line, names_in, found_in, has_none, refusal_by, with_rules, formats, formats_in, indexes, indexes_in, program_of, searches, searches_in, values_in, wanted}
use Rattle.mandoc_command.specs.declared.commands.Refusal.TheVariants.{Words}
use Rattle.mandoc_command.specs.declared.programs.Program.{Program}
use Rattle.mandoc_command.specs.declared.programs.Program.TheVariants.{Format}
use Rattle.std.proofs.lemmas.Str.Parse.{IsNumeralModel, numerals_by_value, parse_gives, digits_value_short}
use Rattle.std.specs.Char.{is_ascii_digit}
use Rattle.std.specs.Result.{result_ok}
use Rattle.std.specs.Str.Parse.{digits_value, ParsesUnsigned}
use Rattle.mandoc_command.specs.Measures.{number_of, ◌>>=◌, with_part, with_parts, is_comma, no_measures, measures_of, with_key}
use Rattle.std.proofs.lemmas.List.Splits.{slice_split_first, slice_split_none}
use Rattle.std.proofs.lemmas.List.Sums.{fails_before_first}
use Rattle.mandoc_command.specs.declared.measures.Measures.{Measures}
use Rattle.page_core_base.specs.declared.note_kinds.Level.{Level}
use Rattle.page_core_base.specs.declared.page_settings.Output.{Output}
use Rattle.page_core_base.specs.declared.page_settings.Output.TheVariants as output
use Rattle.page_core_base.specs.declared.page_settings.Encoding.{Encoding}
use Rattle.page_core_base.specs.declared.page_settings.Encoding.TheVariants as encoding
use Rattle.page_core_base.specs.declared.page_settings.Language.{Language}
use Rattle.page_core_base.specs.declared.page_settings.Language.TheVariants as language
use Rattle.mandoc_command.specs.Asked.{Asked, Values, asked, checked, chosen, least_of, system_of, with_os}
use Rattle.clap.proofs.OnLiterals.{clap_on_literals}
use Rattle.page_core_base.specs.declared.note_kinds.Level.TheVariants as level

-- arguments that are added in turn add their rules
pub adds_rules : (old new : Command) (args : List Arg) (rules : List Rule) → AddsInTurn AddsArg old args new → HaveRules args rules
    → app_of new ≡ with_rules (app_of old) rules
adds_rules old new [] [] same have = ap app_of (sym same)
adds_rules old new (arg ∷ args) (rule ∷ rules) added have =
    adds_rules added.0 new args rules added.2 have.2
    ∙ ap (λ a. with_rules a rules) (added.1.shape have.1 ∙ ap (with_rule (app_of old)) have.0)
adds_rules old new [] (rule ∷ rules) same have = absurd have
adds_rules old new (arg ∷ args) [] added have = absurd have

-- each line is one of which `clap` gives the matches and the faults
pub line_is_simple : (program : Program) → is_simple (line program) ≡ true
unfolding line
line_is_simple Format = refl
line_is_simple _ = refl

pub line_is_free : (program : Program) → is_simple_and_free (line program) ≡ true
unfolding line
line_is_free Format = refl
line_is_free _ = refl

pub is_line-ok : (program : Program) (a : App) (words : List Text) → a ≡ line program → fault_of a words ≡ [] → is_line program words ≡ true
unfolding is_line
is_line-ok program a words e none = ap (λ x. has_none (fault_of x words)) (sym e) ∙ ap has_none none

pub found_in-ok : (program : Program) (a : App) (words : List Text) (rows : List Row) → a ≡ line program → rows ≡ matches_of a words → rows ≡ found_in program words
unfolding found_in
found_in-ok program a words rows e found = found ∙ ap (λ x. matches_of x words) e

among_some : (kind : ErrorKind) (kinds : Kinds) → IsAmong kind kinds → has_none kinds ≡ false
among_some kind [] among = absurd among
among_some kind (k ∷ kinds) among = refl

is_line-among : (program : Program) (a : App) (words : List Text) (kind : ErrorKind) → a ≡ line program → IsAmong kind (fault_of a words) → is_line program words ≡ false
unfolding is_line
is_line-among program a words kind e among = ap (λ x. has_none (fault_of x words)) (sym e) ∙ among_some kind (fault_of a words) among

not_memory : (kind : ErrorKind) → refusal_by kind ≡ Words → kind ≡ OutOfMemory → ⊥
not_memory kind words memory = let bad : refusal_by OutOfMemory ≡ Words = sym (ap refusal_by memory) ∙ words in cc

-- a fault that is no want of memory lies in the words
pub is_line-err : (program : Program) (a : App) (words : List Text) (kind : ErrorKind) → a ≡ line program → (kind ≡ OutOfMemory) ⊎ IsAmong kind (fault_of a words)
    → refusal_by kind ≡ Words → is_line program words ≡ false
is_line-err program a words kind e kinds refused = elim kinds [
  | inl memory ↦ absurd (not_memory kind refused memory)
  | inr among ↦ is_line-among program a words kind e among
]

-- whether words are there is seen by them as well as by their texts
pub are_words_map : {S : Type 0} (f : S → Text) (xs : List S) → are_words (map f xs) ≡ (not (length xs == 0) && not (list_any (λ x. is_empty (f x)) xs))
are_words_map f xs = ap₂ (λ (n : ℕ) (b : Bool). not (n == 0) && not b) (length-map xs f) (sym (list_any-map is_empty f xs))

-- the names that `clap` found
pub names_in-found : (found : Found) (names : Option (List Text)) → names ≡ option_map raw_values (matched_of found (codes "names"))
    → unwrap_or names [] ≡ names_in (rows_of found)
unfolding names_in
names_in-found found names e = ap (λ o. unwrap_or o []) (e ∙ raw_values-rows found (codes "names"))

-- ---- A number of few decimal digits, and how `parse` reads it.

own : IsNumeralModel (λ ds. list_all is_ascii_digit ds ≡ true) (digits_value 10)
own = numerals_by_value _ (search rules)

-- 1 to 9 digits are read as what they write
pub number_of-digits : {E : Type 0} (ds : List ℕ) (r : Result ℕ E) → ParsesUnsigned 32 10 ds r → list_all is_ascii_digit ds ≡ true → 0 < length ds → length ds ≤ 9
    → result_ok r ≡ number_of ds
unfolding number_of
number_of-digits ds r parsed digits some few =
    let small : digits_value 10 ds < 2 ^ 32 = omega (arith, digits_value_short own ds 9 digits few) in
    let read = parse_gives own 32 ds r parsed digits some small in
    rw (read, lt-ltb 0 (length ds) some, le-leb (length ds) 9 few, digits) refl

-- ---- The parts of an `-O`, one after the other.

-- a part before a comma sets what it sets
pub with_parts-next : (m n : Measures) (text : Text) → position_or_len is_comma text < length text → with_part m (before_first is_comma text) ≡ Some n
    → with_parts m (slice_split is_comma text) ≡ with_parts n (slice_split is_comma (after_first is_comma text))
with_parts-next m n text within set = rw (slice_split_first is_comma text 0 within, set) refl

-- a part before a comma is refused
pub with_parts-refused : (m : Measures) (text : Text) → position_or_len is_comma text < length text → with_part m (before_first is_comma text) ≡ None
    → with_parts m (slice_split is_comma text) ≡ None
with_parts-refused m text within refused = rw (slice_split_first is_comma text 0 within, refused) refl

same_some : {X : Type 0} (o : Option X) → (o >>= (λ x. Some x)) ≡ o
same_some None = refl
same_some (Some x) = refl

-- the part after the last comma is the last one
pub with_parts-last : (m : Measures) (text : Text) → position_or_len is_comma text ≡ length text
    → with_parts m (slice_split is_comma text) ≡ with_part m text
with_parts-last m text none =
    let all : All (λ b. is_comma b ≡ false) text = λ k d below. fails_before_first is_comma text k d (omega arith) in
    rw (slice_split_none is_comma text all) (same_some (with_part m text))

-- ---- The settings, step by step.

-- what is asked for, without the operating system
abbrev pub all_but_os : Output → Option Level → Measures → Encoding → Language → Asked
all_but_os output least measures encoding language = record {
  output = output;
  width = unwrap_or measures.width 78;
  indent = measures.indent;
  language = language;
  encoding = encoding;
  least = least;
  os = [];
}

-- a front that has an operating system is checked
named_checked : (a s : Asked) (os : Option Text) → Some s ≡ with_os a os → checked s ≡ option_and_then (λ name. checked (record a { os = name })) os
named_checked a s None e = cc
named_checked a s (Some name) e = let same : s ≡ record a { os = name } = cc in ap checked same

-- where each value stands for something
pub asked-chosen : (v : Values) (o : Output) (least : Option Level) (m : Measures) (e : Encoding) (l : Language) (s : Asked)
    → chosen output.Ascii output_named v.output ≡ Some o → least_of v.level o ≡ Some least → chosen no_measures measures_of v.measures ≡ Some m
    → chosen encoding.Auto encoding_named v.encoding ≡ Some e → chosen language.Auto language_named v.language ≡ Some l
    → Some s ≡ with_os (all_but_os o least m e l) (chosen [] system_of v.system) → checked s ≡ asked v
unfolding asked
asked-chosen v o least m e l s is_output is_least is_measures is_encoding is_language named =
    rw (is_output, is_least, is_measures, is_encoding, is_language) (named_checked (all_but_os o least m e l) s (chosen [] system_of v.system) named)

-- ---- Worked rows of what command lines ask for.

abbrev plain : Asked
plain = record { output = output.Ascii; width = 78; indent = None; language = language.Auto; encoding = encoding.Auto; least = None; os = [] }

lint-page : wanted (codes "-Tlint" ∷ codes "a.1" ∷ codes "b.1" ∷ []) ≡ Some (formats (record { settings = record plain { output = output.Lint; least = Some level.Base }; files = codes "a.1" ∷ codes "b.1" ∷ [] }))
unfolding clap_on_literals wanted program_of is_line line found_in formats_in values_in names_in asked least_of checked output_named level_named
lint-page = refl

measures-mdoc : wanted (codes "-O" ∷ codes "indent=3,width=60" ∷ codes "-mdoc" ∷ []) ≡ Some (formats (record { settings = record plain { width = 60; indent = Some 3; language = language.Mdoc }; files = [] }))
unfolding clap_on_literals wanted program_of is_line line found_in formats_in values_in names_in asked least_of checked measures_of with_part with_key number_of language_named
measures-mdoc = refl

level-twice : wanted (codes "-Wall" ∷ codes "-Wall" ∷ []) ≡ None
unfolding clap_on_literals wanted program_of is_line line found_in formats_in values_in names_in asked least_of checked level_named
level-twice = refl

help : wanted (codes "--help" ∷ []) ≡ None
unfolding clap_on_literals wanted program_of is_line line
help = refl

records-printed : wanted (codes "makewhatis" ∷ codes "-n" ∷ codes "d" ∷ []) ≡ Some (indexes (record { prints = true; dirs = codes "d" ∷ [] }))
unfolding clap_on_literals wanted program_of is_line line found_in indexes_in names_in
records-printed = refl

no-directory : wanted (codes "makewhatis" ∷ []) ≡ None
unfolding clap_on_literals wanted program_of is_line line found_in indexes_in names_in
no-directory = refl

word-in-a-section : wanted (codes "whatis" ∷ codes "-s5" ∷ codes "ls" ∷ []) ≡ Some (searches (record { dir = None; section = Some (codes "5"); shows_files = false; words = codes "ls" ∷ [] }))
unfolding clap_on_literals wanted program_of is_line line found_in searches_in names_in
word-in-a-section = refl

empty-word : wanted (codes "whatis" ∷ codes "ls" ∷ codes "" ∷ []) ≡ None
unfolding clap_on_literals wanted program_of is_line line found_in searches_in names_in
empty-word = refl
