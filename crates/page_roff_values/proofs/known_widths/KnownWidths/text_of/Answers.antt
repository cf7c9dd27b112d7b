use Rattle.std.proofs.lemmas.Str.{IsUtf8-from_is_utf8}
use Rattle.page_roff_values.proofs.known_widths.KnownWidths.text_of.Goals as goal

pub from_utf8_unchecked-requires : goal.from_utf8_unchecked-requires
from_utf8_unchecked-requires c = rw c.deref.ensures.value (IsUtf8-from_is_utf8 _ c.requires.4)
