-- Worked pages, and how they are written: lines of a page, rows and messages. Source: mandoc(1), "ASCII Output" and "DIAGNOSTICS".
use Rattle.std.specs.Prelude.{◌≡◌, ℕ, List, [], ◌∷◌, ◌++◌, None, Some, codes, encode_utf8, replicate}
use Rattle.std.specs.List.{flat_map}
use Rattle.page_core_base.specs.declared.note_kinds.Level.TheVariants as levels
use Rattle.page_core_base.specs.declared.page_settings.Settings.{Settings}
use Rattle.page_core_base.specs.declared.page_settings.Output.TheVariants.{Ascii}
use Rattle.page_core_base.specs.declared.page_settings.Language.TheVariants as languages
use Rattle.page_core_base.specs.declared.page_settings.Encoding.TheVariants as encodings
use Rattle.page_core_streams.specs.Streams.{row_bytes, message_bytes}
use Rattle.page_engine.specs.Runs.{whole_page}

-- a run without options but `-W base`
abbrev pub plain : Settings
plain = record {
  output = Ascii;
  width = 78;
  indent = None;
  language = languages.Auto;
  encoding = encodings.Auto;
  least = Some levels.Base;
  os = record { bytes = []; spare = [] };
}

-- what a page prints and what is reported about it, in a file `x.1`: these rows and these messages
pub record Shows (settings : Settings) (page rows messages : List ℕ) : Type 0 where
  pub prints : flat_map row_bytes (whole_page settings page).rows ≡ rows
  pub reports : flat_map (message_bytes (codes "x.1")) (whole_page settings page).notes ≡ messages

-- ---- how texts are written

-- characters beyond ASCII
abbrev pub utf8 : List ℕ → List ℕ
utf8 characters = flat_map encode_utf8 characters

-- a text several times
abbrev pub times : ℕ → List ℕ → List ℕ
times count text = flat_map (λ text. text) (replicate count text)

-- bold over itself, italic over an underscore
abbrev pub bold : List ℕ → List ℕ
bold bytes = flat_map (λ byte. byte ∷ 8 ∷ byte ∷ []) bytes

abbrev pub italic : List ℕ → List ℕ
italic bytes = flat_map (λ byte. 95 ∷ 8 ∷ byte ∷ []) bytes

abbrev pub bold_italic : List ℕ → List ℕ
bold_italic bytes = flat_map (λ byte. 95 ∷ 8 ∷ byte ∷ 8 ∷ byte ∷ []) bytes

-- ---- the frame of most pages

abbrev header : List ℕ
header = codes "T(1)                       General Commands Manual                        T(1)\n\n"

-- the section A of a page of man(7), and its rows
abbrev pub man_page : List ℕ → List ℕ
man_page text = codes ".TH T 1 2020-01-01 S\n.SH A\n" ++ text

abbrev pub man_rows : List ℕ → List ℕ
man_rows rows = header ++ bold (codes "A") ++ 10 ∷ (rows ++ codes "\nS                                 2020-01-01                              T(1)\n")

-- the section N of a page of mdoc(7), and its rows
abbrev pub mdoc_page : List ℕ → List ℕ
mdoc_page text = codes ".Dd d\n.Dt T 1\n.Os S\n.Sh N\n" ++ text

abbrev pub mdoc_rows : List ℕ → List ℕ
mdoc_rows rows = header ++ bold (codes "N") ++ 10 ∷ (rows ++ codes "\nS                                     d                                   T(1)\n")
