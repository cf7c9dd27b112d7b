-- Settings that a page can be formatted by. Source: mandoc(1), -O and -I.
use Rattle.std.specs.Prelude.{ℕ, ◌≤◌, Option, None, Some}
use Rattle.page_core_base.specs.Texts.{IsLine}
use Rattle.page_core_base.specs.declared.page_settings.SettingFault.{SettingFault}
use Rattle.page_core_base.specs.declared.page_settings.SettingFault.TheVariants.{Width, Indent, Os}
use Rattle.page_core_base.specs.declared.page_settings.Settings.{Settings}

-- 58 to 300 columns
pub record IsWidth (width : ℕ) : Type 0 where
  pub least : 58 ≤ width
  pub most : width ≤ 300

-- none, or at most 20 columns
abbrev pub IsIndent : Option ℕ → Type 0
IsIndent None = Unit {0}
IsIndent (Some indent) = indent ≤ 20

pub record IsGood (s : Settings) : Type 0 where
  pub width : IsWidth s.width
  pub indent : IsIndent s.indent
  pub os : IsLine s.os.bytes

-- each fault where it is the first that the settings have: of width, indent and operating system in this order
abbrev pub IsFirst : Settings → SettingFault → Type 0
IsFirst s Width = IsWidth s.width → ⊥
IsFirst s Indent = IsWidth s.width × (IsIndent s.indent → ⊥)
IsFirst s Os = IsWidth s.width × IsIndent s.indent × (IsLine s.os.bytes → ⊥)
