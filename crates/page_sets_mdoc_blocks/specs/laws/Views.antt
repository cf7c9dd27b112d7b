-- What contracts of the code say by the definitions, and what is proved of these.
use Rattle.std.specs.Borrow.{Bor}
use Rattle.std.specs.Prelude.{ℕ, List}
use Rattle.page_sets_lines.specs.laws.Events.{given_view}
use Rattle.page_sets_mdoc_blocks.specs.declared.displays.DisplayOptions.{DisplayOptions}

abbrev pub options_view : DisplayOptions (Bor (List ℕ)) → DisplayOptions (List ℕ)
options_view options = record {
  is_literal = options.is_literal;
  is_compact = options.is_compact;
  offset = given_view options.offset;
  takes_offset = options.takes_offset;
}
