-- The settings that a command line asks for. Source: mandoc(1), OPTIONS.
use Rattle.std.specs.Prelude.{ℕ, Bool, true, ◌&&◌, if◌then◌else◌, nat_le, [], length, drop, Option, Some, None, option_map, unwrap_or, nat_eq, codes}
use Rattle.std.specs.List.{starts_with}
use Rattle.std.specs.Option.{option_map_or}
use Rattle.std.specs.Borrow.{Bor}
use Rattle.page_core_base.specs.Texts.{has_no_control}
use Rattle.page_core_base.specs.declared.note_kinds.Level.{Level}
use Rattle.page_core_base.specs.declared.note_kinds.Level.TheVariants as level
use Rattle.page_core_base.specs.declared.page_settings.Output.{Output}
use Rattle.page_core_base.specs.declared.page_settings.Output.TheVariants as output
use Rattle.page_core_base.specs.declared.page_settings.Encoding.{Encoding}
use Rattle.page_core_base.specs.declared.page_settings.Encoding.TheVariants as encoding
use Rattle.page_core_base.specs.declared.page_settings.Language.{Language}
use Rattle.page_core_base.specs.declared.page_settings.Language.TheVariants as language
use Rattle.page_core_base.specs.declared.page_settings.Settings.{Settings}
use Rattle.mandoc_command.specs.Names.{Text, output_named, level_named, encoding_named, language_named}
use Rattle.mandoc_command.specs.Measures.{◌>>=◌, no_measures, measures_of}
use Rattle.mandoc_command.specs.declared.given.Given.{Given}

-- the values of the options, where they are given
pub record Values : Type 0 where
  pub output : Option Text
  pub level : Option Text
  pub measures : Option Text
  pub encoding : Option Text
  pub system : Option Text
  pub language : Option Text

-- settings, with the operating system as its text
pub record Asked : Type 0 where
  pub output : Output
  pub width : ℕ
  pub indent : Option ℕ
  pub language : Language
  pub encoding : Encoding
  pub least : Option Level
  pub os : Text

abbrev pub text_in : Option (Bor Text) → Option Text
text_in = option_map (λ text. text.now)

abbrev pub values_of : Given → Values
values_of given = record {
  output = text_in given.output;
  level = text_in given.level;
  measures = text_in given.measures;
  encoding = text_in given.encoding;
  system = text_in given.system;
  language = text_in given.language;
}

abbrev pub asked_of : Settings → Asked
asked_of s = record {
  output = s.output;
  width = s.width;
  indent = s.indent;
  language = s.language;
  encoding = s.encoding;
  least = s.least;
  os = s.os.bytes;
}

-- what a value stands for, and without a value the default
abbrev pub chosen : {X : Type 0} → X → (Text → Option X) → Option Text → Option X
chosen default read None = Some default
chosen default read (Some text) = read text

-- without a level no message is given, but under lint each one is
abbrev pub default_level : Output → Option Level
default_level output.Lint = Some level.Base
default_level _ = None

abbrev pub level_given : Text → Option (Option Level)
level_given name = option_map (λ least. Some least) (level_named name)

unfoldable pub least_of : Option Text → Output → Option (Option Level)
least_of value output = chosen (default_level output) level_given value

-- a name of at most 256 bytes without a control character but the tab
abbrev pub is_system : Text → Bool
is_system name = nat_le (length name) 256 && has_no_control 0 name

abbrev pub checked_system : Text → Option Text
checked_system name = if is_system name then Some name else None

-- the name of the operating system in `os=NAME`
unfoldable pub system_of : Text → Option Text
system_of value = if starts_with nat_eq value (codes "os=") then checked_system (drop 3 value) else None

abbrev pub with_os : Asked → Option Text → Option Asked
with_os a = option_map (λ os. record a { os = os })

-- rows of 58 to 300 columns, and an indent of at most 20
abbrev pub is_good : Asked → Bool
is_good a = (nat_le 58 a.width && nat_le a.width 300) && option_map_or (λ indent. nat_le indent 20) a.indent true

unfoldable pub checked : Asked → Option Asked
checked a = if is_good a then Some a else None

-- the settings by the values of the options; none: a value is refused
unfoldable pub asked : Values → Option Asked
asked values = do
  output ← chosen output.Ascii output_named values.output
  least ← least_of values.level output
  measures ← chosen no_measures measures_of values.measures
  encoding ← chosen encoding.Auto encoding_named values.encoding
  language ← chosen language.Auto language_named values.language
  os ← chosen [] system_of values.system
  checked (record { output = output; width = unwrap_or measures.width 78; indent = measures.indent; language = language; encoding = encoding; least = least; os = os })
