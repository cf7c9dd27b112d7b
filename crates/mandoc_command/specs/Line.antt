-- A command line. Source: mandoc(1), SYNOPSIS and OPTIONS; makewhatis(8), whatis(1).
use Rattle.std.specs.Prelude.{ℕ, Bool, true, false, not, ◌==◌, ◌&&◌, if◌then◌else◌, List, [], ◌∷◌, length, drop, map, Option, Some, None, option_map, unwrap_or, string_bytes, codes, ⊤, ◌≡◌}
use Rattle.std.specs.List.{list_any}
use Rattle.std.specs.Str.{bytes_eq}
use Rattle.std.specs.Borrow.{Bor}
use Rattle.clap.specs.Words.{App, Kinds, Row, Rule, all_of, fault_of, first_of, matches_of, new_app, new_rule, rule_of, with_rule}
use Rattle.clap.specs.declared.builder.arg.Arg.{Arg}
use Rattle.clap.specs.declared.builder.action.ArgAction.TheVariants.{Set, SetTrue, Append}
use Rattle.clap.specs.declared.error.kind.ErrorKind.{ErrorKind}
use Rattle.clap.specs.declared.error.kind.ErrorKind.TheVariants.{OutOfMemory}
use Rattle.page_core_base.specs.Settings.{IsGood}
use Rattle.mandoc_command.specs.declared.commands.Refusal.{Refusal}
use Rattle.mandoc_command.specs.declared.commands.Refusal.TheVariants.{Words, Memory}
use Rattle.mandoc_command.specs.Names.{Text}
use Rattle.mandoc_command.specs.Asked.{Asked, Values, asked, asked_of}
use Rattle.mandoc_command.specs.declared.commands.Command.{Command}
use Rattle.mandoc_command.specs.declared.commands.Command.TheVariants as commands
use Rattle.mandoc_command.specs.declared.commands.Format.{Format}
use Rattle.mandoc_command.specs.declared.commands.Makewhatis.{Makewhatis}
use Rattle.mandoc_command.specs.declared.commands.Whatis.{Whatis}
use Rattle.mandoc_command.specs.declared.programs.Program.{Program}
use Rattle.mandoc_command.specs.declared.programs.Program.TheVariants as programs

-- an option `-L`, for a letter L, with one value: `-L VALUE`, `-LVALUE` or `-L=VALUE`, once at most
abbrev pub option_rule : Text → ℕ → Rule
option_rule id letter = record (new_rule id) { short = Some letter; action = Some Set }

-- an option `-L` without a value, once at most
abbrev pub flag_rule : Text → ℕ → Rule
flag_rule id letter = record (new_rule id) { short = Some letter; action = Some SetTrue }

-- the words that are no options: any number
abbrev pub names_rule : Rule
names_rule = record (new_rule (codes "names")) { action = Some Append }

-- no name of the program in front, no help and no version
abbrev pub bare : App → App
bare a = record a { top = record a.top { no_binary_name = true; disable_help_flag = true; disable_version_flag = true } }

-- `[-T output] [-W level] [-O measures] [-K encoding] [-I os=name] [-m language] [file ...]`, each by the name that its values are found by
abbrev pub format_rules : List Rule
format_rules =
    -- T, W, O, K, I, m
    option_rule (codes "output") 84 ∷
    option_rule (codes "level") 87 ∷
    option_rule (codes "measures") 79 ∷
    option_rule (codes "encoding") 75 ∷
    option_rule (codes "system") 73 ∷
    option_rule (codes "language") 109 ∷
    names_rule ∷
    []

-- `[-n] [dir ...]`
abbrev pub makewhatis_rules : List Rule
makewhatis_rules = flag_rule (codes "prints") 110 ∷ names_rule ∷ []

-- `[-M dir] [-s section] [-w] [word ...]`
abbrev pub whatis_rules : List Rule
whatis_rules =
    -- M, s, w
    option_rule (codes "dir") 77 ∷
    option_rule (codes "section") 115 ∷
    flag_rule (codes "files") 119 ∷
    names_rule ∷
    []

abbrev pub rules : Program → List Rule
rules programs.Format = format_rules
rules programs.Makewhatis = makewhatis_rules
rules programs.Whatis = whatis_rules

abbrev pub with_rules : App → List Rule → App
with_rules a [] = a
with_rules a (rule ∷ rules) = with_rules (with_rule a rule) rules

-- the command line of a program, as `clap` sees it
unfoldable pub line : Program → App
line program = with_rules (bare (new_app (codes "mandoc"))) (rules program)

-- arguments that have these rules in turn, each for its own command alone
abbrev pub HaveRules : List Arg → List Rule → Type 0
HaveRules [] [] = ⊤
HaveRules (arg ∷ args) (rule ∷ rules) = (rule_of arg ≡ rule) × (arg.global ≡ false) × HaveRules args rules
HaveRules _ _ = ⊥

abbrev pub has_none : Kinds → Bool
has_none [] = true
has_none (kind ∷ kinds) = false

-- `clap` finds no fault in the words
unfoldable pub is_line : Program → List Text → Bool
is_line program words = has_none (fault_of (line program) words)

-- what `clap` finds in the words
unfoldable pub found_in : Program → List Text → List Row
found_in program words = matches_of (line program) words

-- only want of memory is no fault of the words
abbrev pub refusal_by : ErrorKind → Refusal
refusal_by OutOfMemory = Memory
refusal_by _ = Words

-- ---- what was found

-- the values of the options that were found
unfoldable pub values_in : List Row → Values
values_in rows = record {
  output = first_of (codes "output") rows;
  level = first_of (codes "level") rows;
  measures = first_of (codes "measures") rows;
  encoding = first_of (codes "encoding") rows;
  system = first_of (codes "system") rows;
  language = first_of (codes "language") rows;
}

-- the words that are no options, in their order
unfoldable pub names_in : List Row → List Text
names_in rows = unwrap_or (all_of (codes "names") rows) []

-- an option without a value has the value `true` where it is given
abbrev pub is_set : Option Text → Bool
is_set None = false
is_set (Some text) = bytes_eq text (codes "true")

-- ---- what is asked for

-- pages to format, by which settings
pub record Formats : Type 0 where
  pub settings : Asked
  pub files : List Text

-- indexes to make of the pages in directories; or their records are printed
pub record Indexes : Type 0 where
  pub prints : Bool
  pub dirs : List Text

-- words to look for in the index of a directory, in one section or in each; files of pages are shown, or what the pages are about
pub record Searches : Type 0 where
  pub dir : Option Text
  pub section : Option Text
  pub shows_files : Bool
  pub words : List Text

pub data Wanted : Type 0 where
  formats : Formats → Wanted
  indexes : Indexes → Wanted
  searches : Searches → Wanted

abbrev pub with_files : List Text → Option Asked → Option Formats
with_files files = option_map (λ settings. record { settings = settings; files = files })

unfoldable pub formats_in : List Row → Option Formats
formats_in rows = with_files (names_in rows) (asked (values_in rows))

-- one word at least, and no empty one
abbrev pub is_empty : Text → Bool
is_empty text = length text == 0

abbrev pub are_words : List Text → Bool
are_words words = not (length words == 0) && not (list_any is_empty words)

-- one directory at least, and none without a name
unfoldable pub indexes_in : List Row → Option Indexes
indexes_in rows =
    if are_words (names_in rows)
    then Some (record { prints = is_set (first_of (codes "prints") rows); dirs = names_in rows })
    else None

-- the directory of an index has a name, where it is given
abbrev pub may_be_dir : Option Text → Bool
may_be_dir None = true
may_be_dir (Some dir) = not (is_empty dir)

unfoldable pub searches_in : List Row → Option Searches
searches_in rows =
    if are_words (names_in rows) && may_be_dir (first_of (codes "dir") rows) then Some (record {
      dir = first_of (codes "dir") rows;
      section = first_of (codes "section") rows;
      shows_files = is_set (first_of (codes "files") rows);
      words = names_in rows;
    }) else None

-- the program that the first word names
unfoldable pub program_of : List Text → Program
program_of [] = programs.Format
program_of (word ∷ words) =
    if bytes_eq word (codes "makewhatis") then programs.Makewhatis
    else (if bytes_eq word (codes "whatis") then programs.Whatis else programs.Format)

-- the words without this name
abbrev pub arguments_of : Program → List Text → List Text
arguments_of programs.Format words = words
arguments_of programs.Makewhatis words = drop 1 words
arguments_of programs.Whatis words = drop 1 words

abbrev pub wanted_in : Program → List Row → Option Wanted
wanted_in programs.Format rows = option_map formats (formats_in rows)
wanted_in programs.Makewhatis rows = option_map indexes (indexes_in rows)
wanted_in programs.Whatis rows = option_map searches (searches_in rows)

-- of a program's command line
abbrev pub wanted_of_line : Program → List Text → Option Wanted
wanted_of_line program words = if is_line program words then wanted_in program (found_in program words) else None

-- what a command line asks for; none: it is refused
unfoldable pub wanted : List Text → Option Wanted
wanted words = wanted_of_line (program_of words) (arguments_of (program_of words) words)

-- ---- what a command asks for

abbrev pub formats_of : Format → Formats
formats_of f = record { settings = asked_of f.settings; files = f.files }

abbrev pub indexes_of : Makewhatis → Indexes
indexes_of m = record { prints = m.prints; dirs = m.dirs }

abbrev pub searches_of : Whatis → Searches
searches_of w = record {
  dir = option_map string_bytes w.dir;
  section = option_map string_bytes w.section;
  shows_files = w.shows_files;
  words = w.words;
}

abbrev pub wanted_of : Command → Wanted
wanted_of (commands.Format f) = formats (formats_of f)
wanted_of (commands.Makewhatis m) = indexes (indexes_of m)
wanted_of (commands.Whatis w) = searches (searches_of w)

-- pages can be formatted by the settings
abbrev pub HasGoodSettings : Command → Type 0
HasGoodSettings (commands.Format f) = IsGood f.settings
HasGoodSettings _ = ⊤

-- the texts of the words
abbrev pub texts : List (Bor Text) → List Text
texts = map (λ word. word.now)
