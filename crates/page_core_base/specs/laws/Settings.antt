-- What contracts of the code say by the definitions, and what is proved of these.
use Rattle.std.specs.Prelude.{Result, MatchResult, ◌≡◌}
use Rattle.page_core_base.specs.Settings.{IsGood, IsFirst}
use Rattle.page_core_base.specs.declared.page_settings.SettingFault.{SettingFault}
use Rattle.page_core_base.specs.declared.page_settings.Settings.{Settings}

abbrev pub IsChecked : Result (Unit {0}) SettingFault → Settings → Type 0
IsChecked r s = MatchResult r (λ _. IsGood s) (λ fault. IsFirst s fault)

-- all but the operating system stays
abbrev pub SameButOs : Settings → Settings → Type 0
SameButOs old new = new ≡ record old { os = new.os }
