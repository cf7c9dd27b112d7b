-- A machine, which no public clause cites: the fast way for cells that are printed as one byte.
use Rattle.std.specs.Prelude.{Bool, true, false, nat_lt, ◌&&◌}
use Rattle.page_core_base.specs.declared.cells.Font.{Font}
use Rattle.page_core_base.specs.declared.cells.Font.TheVariants.{R}
use Rattle.page_core_base.specs.declared.cells.Cell.{Cell}

abbrev pub is_roman : Font → Bool
is_roman R = true
is_roman _ = false

-- a character of ASCII in roman
abbrev pub is_plain : Cell → Bool
is_plain cell = nat_lt cell.c 128 && is_roman cell.font
