use Rattle.std.proofs.Common.{◌≡◌, ◌+◌, ◌-◌, ◌≤◌, ◌++◌, [], length, length-append, min, true, arith, ap, ◌∙◌}
use Rattle.page_core_base.specs.laws.Views.{cells_in}
use Rattle.page_fill_rows.specs.declared.TheConstants.{TAG_COLUMNS}
use Rattle.page_fill_rows.specs.OpenRows.{Sheet}
use Rattle.page_fill_cells.specs.Cells.{columns}
use Rattle.page_core_base.specs.declared.limits.TheConstants.{CELLS}
use Rattle.page_fill_cells.proofs.PlaceLemmas.{in-length}
use Rattle.page_fill_rows.proofs.PlainLemmas.{in-plain, sound-cells}
use Rattle.page_fill_rows.proofs.open_rows.OpenRow.begin_words.Goals as goal

pub invariant_of-self : goal.invariant_of-self
invariant_of-self c =
    let row = c.self.inside in
    let more = cells_in c.args.bytes.now c.args.fonts.now in
    let size = in-length c.args.bytes.now c.args.fonts.now c.requires.fonts in
    let none : row.row ≡ [] = ap (λ (t : Sheet). t.cells) (c.self.view_is ∙ c.open_row.ensures) in
    let zero : columns row.row ≡ 0 = ap columns none in
    let count : row.columns + length more ≡ length c.args.bytes.now = omega (arith, c.self.invariant.counted, zero, size) in
    let room : length row.row + length more ≤ CELLS = let empty : length row.row ≡ 0 = ap length none in omega (arith, empty, size, c.requires.room) in
    let tag : c.min-self-inside.result ≤ TAG_COLUMNS = omega (arith, c.min-self-inside.ensures) in
    let sound = sound-cells row.row more row.columns row.gap row.word row.tag_columns c.min-self-inside.result c.self.invariant (in-plain c.args.bytes.now c.args.fonts.now c.requires.plain) room tag in
    let len = length-append row.row more in
    let empty : length row.row ≡ 0 = ap length none in
    rw (c.add_letters.ensures, ← count) (record {
      bounded = sound.bounded;
      counted = sound.counted;
      narrow = sound.narrow;
      gap_within = omega (arith, c.saturating_sub-self-inside.ensures);
      word_within = omega (arith, len, empty, size, c.requires.start);
      tag_within = sound.tag_within;
      blanks_within = sound.blanks_within;
    })

pub returns : goal.returns
returns c =
    let row = c.self.inside in
    let more = cells_in c.args.bytes.now c.args.fonts.now in
    let size = in-length c.args.bytes.now c.args.fonts.now c.requires.fonts in
    let start = c.args.start in
    let added : Sheet → Sheet = λ t. record t { cells = t.cells ++ more; gap = start - 1; word = start; tag_columns = min (t.tag_columns + length more) TAG_COLUMNS; tag_begun = true } in
    let tag : c.min-self-inside.result ≡ min (row.tag_columns + length more) TAG_COLUMNS =
    omega (arith, c.min-self-inside.ensures, c.saturating_add.ensures, size) in
    let gap : c.saturating_sub-self-inside.result ≡ start - 1 = omega (arith, c.saturating_sub-self-inside.ensures) in
    rw (c.add_letters.ensures, gap, tag) (ap added (c.self.view_is ∙ c.open_row.ensures))
