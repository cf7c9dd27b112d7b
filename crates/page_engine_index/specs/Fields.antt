-- What may be a field of an index. Source: makewhatis(8).
use Rattle.std.specs.Prelude.{ℕ, Bool, not, ◌&&◌, nat_le, List, length}
use Rattle.std.specs.List.{list_any}
use Rattle.page_core_base.specs.Texts.{has_no_control}
use Rattle.page_engine_index.specs.Entries.{is_tab}

-- at most 4,096 bytes, and no control character, the tab included
unfoldable pub is_field : List ℕ → Bool
is_field text = nat_le (length text) 4096 && (has_no_control 0 text && not (list_any is_tab text))
