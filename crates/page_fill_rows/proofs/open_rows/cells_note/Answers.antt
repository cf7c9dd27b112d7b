use Rattle.std.proofs.Common.{refl}
use Rattle.page_core_base.specs.Limits.{name_of}
use Rattle.page_core_base.specs.declared.limits.Limit.TheVariants.{Cells}
use Rattle.page_core_base.proofs.LatchLemmas.{whole_front}
use Rattle.page_fill_rows.proofs.open_rows.cells_note.Goals as goal

-- the name is short
pub returns : goal.returns
returns c =
    let whole = whole_front 64 (name_of Cells) 5 (name_of Cells) refl refl (rw c.name.ensures at c.name.utf8) in
    rw (c.push_str.ensures.bytes, c.new-detail.ensures, c.name.ensures, ← whole) refl
