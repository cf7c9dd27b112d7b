-- How the code holds the arguments of a macro: the code's own form of them. Trust needs no reading of it.
use Rattle.std.specs.Prelude.{◌≡◌, ℕ, ◌+◌, ◌*◌, ◌≤◌, List, length, ◌-◌, true, take, drop}
use Rattle.page_core_base.specs.Limits.{ARGS, LINE}
use Rattle.page_roff_values.specs.Values.{arguments_in, spaced, spaced_quoted, units_of}
use Rattle.std.specs.List.{All}
use Rattle.std.specs.Str.{is_utf8}
use Rattle.page_core_base.specs.declared.page_settings.Output.{Output}
use Rattle.page_core_numbers.specs.Columns.{columns_of}
use Rattle.page_roff_values.specs.declared.known_widths.KnownWidth.{KnownWidth}

-- the count of the arguments, their bytes, and the texts of all, each with the memory for it
pub record AreHeld (count : ℕ) (packed spaced_text quoted_text : List ℕ) (packed_room spaced_room quoted_room : ℕ) : Type 0 where
  pub counted : count ≡ length (arguments_in packed)
  pub short : length packed ≤ ARGS
  pub joined : spaced_text ≡ spaced (arguments_in packed)
  pub quoted : quoted_text ≡ spaced_quoted (arguments_in packed)
  pub packed_fits : ARGS ≤ packed_room
  pub joined_fits : ARGS + 1 ≤ spaced_room
  pub quoted_fits : 3 * (ARGS + 1) ≤ quoted_room

-- ---- A fast way of the code, which no public clause cites: texts that are remembered with their widths. Trust needs no reading of it.

-- the text of a width
abbrev pub text_of : List ℕ → KnownWidth → List ℕ
text_of texts width = take (width.end - width.start) (drop width.start texts)

-- the text between two places of these texts is no longer than a line, it is in UTF-8, and it has these units in this output
abbrev pub IsMeasured : List ℕ → KnownWidth → Type 0
IsMeasured texts width =
    (width.start ≤ width.end) × (width.end ≤ length texts) × (width.units ≡ units_of width.output (text_of texts width))
    × (width.end ≤ width.start + LINE) × (is_utf8 (text_of texts width) ≡ true) × (width.units ≤ 24000 * (width.end - width.start))

abbrev pub AreMeasured : List ℕ → List KnownWidth → Type 0
AreMeasured texts widths = All (IsMeasured texts) widths

-- of a text
abbrev pub units_of_text : Output → List ℕ → ℕ
units_of_text output text = 24 * columns_of output text
